use Rattle.std.proofs.lemmas.List.{length-map}
use Rattle.order_list.specs.Lists.{IsLive, OthersStay}
use Rattle.order_list.proofs.StayLemmas.{gone-without, others-without}
use Rattle.std.proofs.Common.{◌≡◌, ◌++◌, length, take, drop, None, sym, ◌∙◌, ap, subst, arith}
use Rattle.slab.specs.Slab.{ContainsKey, Updates, get}
use Rattle.order_list.specs.Lists.{without}
use Rattle.order_list.specs.Links.{IsSound, SetsAfter, SetsBefore, shown}
use Rattle.order_list.specs.declared.node.Ends.{Ends}
use Rattle.order_list.proofs.CallLemmas.{StandsFor, after-there, after-within, before-there, before-within, has-key, item-is, live-in, taken, written-back}
use Rattle.order_list.proofs.SoundLemmas.{lists-are, shown-is}
use Rattle.order_list.proofs.lists.OrderList.unlink.Given as given
use Rattle.order_list.proofs.lists.OrderList.unlink.Goals as goal

pub remove-before-requires : goal.remove-before-requires
remove-before-requires g c =
    subst (ContainsKey c.self.inside.nodes) (sym c.key.ensures.value)
    (has-key c.self.inside.nodes c.self.inside.ends.items c.self.invariant c.args.self.now c.args.link c.self.view_is c.requires)

pub set_after-requires-clause-within : goal.set_after-requires-clause-within
set_after-requires-clause-within g c end is =
    let nodes = c.self.inside.nodes in
    let ends = c.self.inside.ends.items in
    let live = live-in nodes ends c.self.invariant c.args.self.now c.args.link c.requires.0 c.requires.1 c.self.view_is c.requires.2 in
    let gone = subst (λ k. Updates nodes c.remove-before.new.self k None) c.key.ensures.value c.remove-before.ensures.updates in
    omega (
      arith,
      before-within nodes c.remove-before.new.self ends c.self.invariant c.args.link c.requires.0 c.requires.1 c.remove-before.result live (ap (get nodes) (sym c.key.ensures.value) ∙ c.remove-before.ensures.value) gone end is,
      ap (length {A = Ends}) c.as_mut_slice.ensures.value,
    )

pub set_after-requires-clause-live : goal.set_after-requires-clause-live
set_after-requires-clause-live g c =
    let nodes = c.self.inside.nodes in
    let ends = c.self.inside.ends.items in
    let live = live-in nodes ends c.self.invariant c.args.self.now c.args.link c.requires.0 c.requires.1 c.self.view_is c.requires.2 in
    let gone = subst (λ k. Updates nodes c.remove-before.new.self k None) c.key.ensures.value c.remove-before.ensures.updates in
    before-there nodes c.remove-before.new.self ends c.self.invariant c.args.link c.requires.0 c.requires.1 c.remove-before.result live (ap (get nodes) (sym c.key.ensures.value) ∙ c.remove-before.ensures.value) gone

back : (g : given.Over) (c : goal.After-as_mut_slice-2 g) → take c.self.inside.ends.len (c.set_after.new.ends ++ drop (length c.set_after.new.ends) c.self.inside.ends.items) ≡ c.set_after.new.ends
back g c =
    let same = ap (length {A = Ends}) c.as_mut_slice.ensures.value in
    written-back c.set_after.new.ends c.self.inside.ends.items c.self.inside.ends.len (omega (arith, same, c.set_after.auto.ends)) (omega (arith, same, c.as_mut_slice.ensures.len))

-- how the first of the two changes ends
follows : (g : given.Over) (c : goal.After-as_mut_slice-2 g) → SetsAfter c.remove-before.result.after c.remove-before.result.before c.remove-before.new.self c.self.inside.ends.items c.set_after.new.nodes c.set_after.new.ends
follows g c =
    subst (λ es. SetsAfter c.remove-before.result.after c.remove-before.result.before c.remove-before.new.self es c.set_after.new.nodes c.set_after.new.ends)
    c.as_mut_slice.ensures.value c.set_after.ensures

pub set_before-requires-clause-within : goal.set_before-requires-clause-within
set_before-requires-clause-within g c end is =
    let nodes = c.self.inside.nodes in
    let ends = c.self.inside.ends.items in
    let live = live-in nodes ends c.self.invariant c.args.self.now c.args.link c.requires.0 c.requires.1 c.self.view_is c.requires.2 in
    let gone = subst (λ k. Updates nodes c.remove-before.new.self k None) c.key.ensures.value c.remove-before.ensures.updates in
    omega (
      arith,
      after-within nodes c.remove-before.new.self ends c.self.invariant c.args.link c.requires.0 c.requires.1 c.remove-before.result live (ap (get nodes) (sym c.key.ensures.value) ∙ c.remove-before.ensures.value) gone
          c.set_after.new.nodes c.set_after.new.ends (follows g c) end is,
      ap (length {A = Ends}) (c.as_mut_slice-2.ensures.value ∙ back g c),
    )

pub set_before-requires-clause-live : goal.set_before-requires-clause-live
set_before-requires-clause-live g c =
    let nodes = c.self.inside.nodes in
    let ends = c.self.inside.ends.items in
    let live = live-in nodes ends c.self.invariant c.args.self.now c.args.link c.requires.0 c.requires.1 c.self.view_is c.requires.2 in
    let gone = subst (λ k. Updates nodes c.remove-before.new.self k None) c.key.ensures.value c.remove-before.ensures.updates in
    after-there nodes c.remove-before.new.self ends c.self.invariant c.args.link c.requires.0 c.requires.1 c.remove-before.result live (ap (get nodes) (sym c.key.ensures.value) ∙ c.remove-before.ensures.value) gone
    c.set_after.new.nodes c.set_after.new.ends (follows g c)

-- the lists that the new fields stand for
done : (g : given.Over) (c : goal.After-self-2-1 g) → StandsFor c.set_before.new.nodes c.set_before.new.ends (without c.args.link c.self.invariant.lists)
done g c =
    let nodes = c.self.inside.nodes in
    let ends = c.self.inside.ends.items in
    let live = live-in nodes ends c.self.invariant c.args.self.now c.args.link c.requires.0 c.requires.1 c.self.view_is c.requires.2 in
    let gone = subst (λ k. Updates nodes c.remove-before.new.self k None) c.key.ensures.value c.remove-before.ensures.updates in
    let same = ap (length {A = Ends}) c.as_mut_slice.ensures.value in
    let back = written-back c.set_after.new.ends ends c.self.inside.ends.len (omega (arith, same, c.set_after.auto.ends)) (omega (arith, same, c.as_mut_slice.ensures.len)) in
    let follows =
    subst (λ es. SetsAfter c.remove-before.result.after c.remove-before.result.before c.remove-before.new.self es c.set_after.new.nodes c.set_after.new.ends)
    c.as_mut_slice.ensures.value c.set_after.ensures in
    let precedes =
    subst (λ es. SetsBefore c.remove-before.result.before c.remove-before.result.after c.set_after.new.nodes es c.set_before.new.nodes c.set_before.new.ends)
    (c.as_mut_slice-2.ensures.value ∙ back) c.set_before.ensures in
    taken nodes c.remove-before.new.self ends c.self.invariant c.args.link c.requires.0 c.requires.1 c.remove-before.result live (ap (get nodes) (sym c.key.ensures.value) ∙ c.remove-before.ensures.value) gone
    c.set_after.new.nodes c.set_after.new.ends follows c.set_before.new.nodes c.set_before.new.ends c.remove-before.ensures.len c.remove-before.ensures.capacity precedes

back-again : (g : given.Over) (c : goal.After-self-2-1 g)
    → take c.self.inside.ends.len (c.set_before.new.ends ++ drop (length c.set_before.new.ends) (take c.self.inside.ends.len (c.set_after.new.ends ++ drop (length c.set_after.new.ends) c.self.inside.ends.items))) ≡ c.set_before.new.ends
back-again g c =
    let same = ap (length {A = Ends}) c.as_mut_slice.ensures.value in
    let back = written-back c.set_after.new.ends c.self.inside.ends.items c.self.inside.ends.len (omega (arith, same, c.set_after.auto.ends)) (omega (arith, same, c.as_mut_slice.ensures.len)) in
    let inner = ap (length {A = Ends}) back in
    let same_too = ap (length {A = Ends}) c.as_mut_slice-2.ensures.value in
    written-back c.set_before.new.ends _ c.self.inside.ends.len (omega (arith, same_too, c.set_before.auto.ends)) (omega (arith, same, inner, c.set_after.auto.ends, c.as_mut_slice.ensures.len))

pub invariant_of-self : goal.invariant_of-self
invariant_of-self g c = subst (IsSound c.set_before.new.nodes) (sym (back-again g c)) (done g c).sound

pub returns-clause-item : goal.returns-clause-item
returns-clause-item g c list item live =
    item-is c.self.inside.nodes c.self.inside.ends.items c.self.invariant c.args.link list item c.remove-before.result
    (live-in c.self.inside.nodes c.self.inside.ends.items c.self.invariant c.args.self.now c.args.link list item c.self.view_is live)
    (ap (get c.self.inside.nodes) (sym c.key.ensures.value) ∙ c.remove-before.ensures.value)

pub returns-clause-lists : goal.returns-clause-lists
returns-clause-lists g c =
    ap (λ es. (shown c.set_before.new.nodes es).lists) (back-again g c) ∙ shown-is c.set_before.new.nodes c.set_before.new.ends (done g c).sound ∙ (done g c).are
    ∙ ap (without c.args.link) (sym (lists-are c.self.inside.nodes c.self.inside.ends.items c.args.self.now c.self.invariant c.self.view_is))

pub returns-clause-gone : goal.returns-clause-gone
returns-clause-gone g c = subst (λ ls. ¬ IsLive ls c.args.link) (sym (returns-clause-lists g c)) (gone-without c.args.self.now.lists c.args.link)

pub returns-clause-others : goal.returns-clause-others
returns-clause-others g c =
    subst (OthersStay c.args.link c.args.self.now.lists) (sym (returns-clause-lists g c)) (others-without c.args.self.now.lists c.args.link)

pub returns-clause-count : goal.returns-clause-count
returns-clause-count g c = ap length (returns-clause-lists g c) ∙ length-map c.args.self.now.lists _
