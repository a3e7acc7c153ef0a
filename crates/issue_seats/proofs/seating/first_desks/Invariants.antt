use Rattle.std.proofs.Common.{◌≡◌, ◌≤◌, ◌+◌, ◌++◌, length, map, vec_capacity}
use Rattle.std.specs.List.{AllZip}
use Rattle.std.specs.Iterator.Adapters.{zip_first, zip_second}
use Rattle.std.specs.Slice.Iter.{iter_rest}
use Rattle.std.specs.Vec.Iter.{into_iter_items}
use Rattle.issue_seats.specs.Steps.{MayBegin, desk_with}
use Rattle.issue_seats.proofs.seating.first_desks.Given as goal

-- the passes so far have their desks, and those that are left may begin at their servers
abbrev pub invariant-loop-server : goal.invariant-loop-server
invariant-loop-server g l = record {
  left : AllZip MayBegin (iter_rest (zip_first l.server-iterator)) (into_iter_items (zip_second l.server-iterator));
  desks : l.desks.items ++ map desk_with (into_iter_items (zip_second l.server-iterator)) ≡ map desk_with l.fn.passes.items;
  room : length l.desks.items + length (into_iter_items (zip_second l.server-iterator)) ≤ vec_capacity l.desks;
}
