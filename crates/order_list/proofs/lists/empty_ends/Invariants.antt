use Rattle.order_list.specs.Links.{AreEmpty}
use Rattle.order_list.proofs.lists.empty_ends.Given as goal

abbrev pub invariant-loop-list : goal.invariant-loop-list
invariant-loop-list l = AreEmpty l.list l.ends.items
