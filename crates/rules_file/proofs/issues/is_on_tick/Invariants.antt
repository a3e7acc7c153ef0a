use Rattle.std.proofs.Common.{◌≡◌, drop, find, nat_le}
use Rattle.rules_file.proofs.issues.is_on_tick.Given as goal

-- the first row whose bound is not below the price is among those that are left
abbrev pub invariant-loop-row : goal.invariant-loop-row
invariant-loop-row l =
    find (λ row. nat_le l.p row.upto) (drop l.row-index l.ticks) ≡ find (λ row. nat_le l.p row.upto) l.ticks
