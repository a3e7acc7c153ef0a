use Rattle.std.proofs.Common.{◌≤◌, ◌+◌, length, vec_capacity}
use Rattle.std.specs.Iterator.Adapters.{zip_first, zip_second}
use Rattle.std.specs.Vec.Iter.{into_iter_items}
use Rattle.issue_seats.proofs.CloseLemmas.{Closing}
use Rattle.issue_seats.proofs.back.close_servers.Given as goal

-- the servers so far have been ended
abbrev pub invariant-loop-server : goal.invariant-loop-server
invariant-loop-server g l = record {
  closing : Closing (into_iter_items (zip_first l.server-iterator)) l.fn.passes.items (into_iter_items (zip_second l.server-iterator)) l.issues.items;
  room : length l.issues.items + length (into_iter_items (zip_second l.server-iterator)) ≤ vec_capacity l.issues;
}
