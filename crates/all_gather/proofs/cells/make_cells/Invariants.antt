use Rattle.std.proofs.Common.{◌≡◌, ◌≤◌, vec_len, vec_capacity}
use Rattle.all_gather.proofs.cells.make_cells.Given as goal

abbrev pub invariant-loop : goal.invariant-loop
invariant-loop l = (vec_len l.cells ≡ l.counter) × (l.many ≤ vec_capacity l.cells)
