use Rattle.std.proofs.Common.{◌≡◌, ◌≤◌, ◌++◌, All, length, map, vec_capacity}
use Rattle.issue_desk.specs.Desk.{DeskNow, IsDesk}
use Rattle.issue_seats.proofs.back.take_passes.Given as goal

-- the passes of the desks so far are in the list
abbrev pub invariant-loop-desk : goal.invariant-loop-desk
invariant-loop-desk g l = record {
  whole : l.yielded ++ l.desk-iterator.rest.items ≡ l.fn.desks.items;
  passes : l.passes.items ≡ map (λ (d : DeskNow). d.pass) l.yielded;
  desks : All IsDesk l.yielded;
  room : length l.fn.desks.items ≤ vec_capacity l.passes;
}
