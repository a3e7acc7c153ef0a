use Rattle.std.proofs.Common.{◌≤◌, length, vec_capacity}
use Rattle.issue_seats.proofs.SeatLemmas.{Seating}
use Rattle.issue_seats.proofs.seating.seat_all.Given as goal

-- the gateways so far have their desks
abbrev pub invariant-loop-gateway : goal.invariant-loop-gateway
invariant-loop-gateway g l = record {
  seating : Seating l.fn.gateways.items l.gateway-iterator.rest.items l.servers l.fn.passes.items l.parts.items;
  room : length l.fn.gateways.items ≤ vec_capacity l.parts;
}
