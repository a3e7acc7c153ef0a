use Rattle.std.proofs.Common.{vec_capacity}
use Rattle.gateway_lines.proofs.LineLemmas.{AreSoFar}
use Rattle.gateway_lines.proofs.making.number_gateways.Given as goal

abbrev pub invariant-loop-list : goal.invariant-loop-list
invariant-loop-list l = AreSoFar l.fn.lists.items l.list-iterator.rest.items l.made.items (vec_capacity l.made)
