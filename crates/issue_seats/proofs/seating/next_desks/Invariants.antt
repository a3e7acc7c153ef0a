use Rattle.std.proofs.Common.{◌≤◌, length, vec_capacity}
use Rattle.issue_seats.proofs.SeatLemmas.{SplitUpto}
use Rattle.issue_seats.proofs.seating.next_desks.Given as goal

-- one more has come of each desk so far
abbrev pub invariant-loop-desk : goal.invariant-loop-desk
invariant-loop-desk g l = record {
  split : SplitUpto l.fn.first l.first l.desks.items l.desk-index;
  room : length l.fn.first ≤ vec_capacity l.desks;
}
