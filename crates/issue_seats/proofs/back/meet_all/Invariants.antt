use Rattle.std.proofs.Common.{◌≤◌, length, vec_capacity}
use Rattle.issue_seats.proofs.MeetLemmas.{Meeting}
use Rattle.issue_seats.proofs.back.meet_all.Given as goal

-- the gateways so far have left their desks
abbrev pub invariant-loop-gateway : goal.invariant-loop-gateway
invariant-loop-gateway g l = record {
  meeting : Meeting l.fn.parts.items l.gateway-iterator.rest.items l.servers l.gateways.items l.passes.items;
  room : length l.fn.parts.items ≤ vec_capacity l.gateways;
}
