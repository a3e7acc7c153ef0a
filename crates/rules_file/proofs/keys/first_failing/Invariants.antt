use Rattle.std.proofs.Common.{◌≡◌, ◌-◌, find, length}
use Rattle.std.specs.List.{range_with_len}
use Rattle.rules_file.specs.Keys.{first_failing}
use Rattle.rules_file.proofs.keys.first_failing.Given as goal

-- the first row that fails is the first of those that are left
abbrev pub invariant-loop-i : goal.invariant-loop-i
invariant-loop-i g l =
    find (g.R.Row.fails_at l.rows) (range_with_len l.i (length l.rows - l.i)) ≡ first_failing g.R.Row.fails_at l.rows
