use Rattle.auction_file.proofs.SlotLemmas.{OneALevel-slotted}
use Rattle.auction_file.proofs.levels.Levels.as_slice.Goals as goal

pub returns-clause-one_a_level : goal.returns-clause-one_a_level
returns-clause-one_a_level c = rw c.as_slice.ensures.value (OneALevel-slotted c.self.inside.count c.self.inside.orders.items c.self.inside.slots.items c.self.invariant)
