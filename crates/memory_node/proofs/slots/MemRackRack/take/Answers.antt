use Rattle.std.proofs.Common.{◌∙◌, ◌<◌, length, rules}
use Rattle.memory_node.specs.declared.slots.Slot.TheVariants.{Out}
use Rattle.memory_node.proofs.SlotLemmas.{others-same, told_at-set_other, told_at-set_same}
use Rattle.memory_node.proofs.slots.MemRackRack.take.Goals as goal

pub returns-clause-out : goal.returns-clause-out
returns-clause-out c =
    let slots = c.grow.new.slots.items in
    let place = c.place_of-place.result in
    let inside : c.place_of-place.result < length c.grow.new.slots.items = search rules in
    (c.place_of-place.ensures.a_node, rw (← c.place_of-place.ensures.place) (told_at-set_same slots place Out inside))

pub returns-clause-others : goal.returns-clause-others
returns-clause-others c =
    let slots = c.grow.new.slots.items in
    let place = c.place_of-place.result in
    others-same _ _ (record { issue = c.args.issue; node = c.args.k }) c.place_of-place.ensures.a_node
    (λ at other. told_at-set_other slots place at Out (λ e. other (e ∙ c.place_of-place.ensures.place)) ∙ c.grow.ensures.same at)
