use Rattle.std.proofs.Common.{◌≡◌, ℕ, ◌-◌, ◌<◌, false, find, length, take}
use Rattle.std.specs.List.{range_with_len}
use Rattle.rules_file.specs.Keys.{first_failing, stands_earlier}
use Rattle.rules_file.proofs.names.distinct.Given as goal

-- the names so far are new, and the first that is not is among those that are left
abbrev pub invariant-loop-row : goal.invariant-loop-row
invariant-loop-row l = record {
  so_far : l.names ≡ take l.row-index l.rows;
  new : (k : ℕ) → k < l.row-index → stands_earlier l.rows k ≡ false;
  left : find (stands_earlier l.rows) (range_with_len l.row-index (length l.rows - l.row-index)) ≡ first_failing stands_earlier l.rows;
}
