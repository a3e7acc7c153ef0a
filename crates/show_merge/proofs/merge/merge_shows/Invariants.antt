use Rattle.std.proofs.Common.{vec_capacity}
use Rattle.show_merge.proofs.MergeLemmas.{IsMerging}
use Rattle.show_merge.proofs.merge.merge_shows.Given as goal

abbrev pub invariant-loop-of : goal.invariant-loop-of
invariant-loop-of l = IsMerging l.lines l.gateways l.of-index l.next l.shows.items (vec_capacity l.shows)
