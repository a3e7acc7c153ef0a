use Rattle.std.proofs.Common.{length}
use Rattle.std.proofs.lemmas.List.{length-map}
use Rattle.order_list.specs.Lists.{IsIn, OthersStay}
use Rattle.order_list.proofs.StayLemmas.{names-item, others-item}
use Rattle.std.proofs.Common.{sym, ◌∙◌, ap, subst}
use Rattle.slab.specs.Slab.{ContainsKey}
use Rattle.order_list.specs.Lists.{with_item}
use Rattle.order_list.specs.Links.{ChangesNode}
use Rattle.order_list.proofs.CallLemmas.{has-key, live-in, replaced}
use Rattle.order_list.proofs.SoundLemmas.{lists-are, shown-is}
use Rattle.order_list.proofs.lists.OrderList.set.Goals as goal

pub set_item-requires : goal.set_item-requires
set_item-requires g c =
    subst (ContainsKey c.self.inside.nodes) (sym c.key.ensures.value)
    (has-key c.self.inside.nodes c.self.inside.ends.items c.self.invariant c.args.self.now c.args.link c.self.view_is c.requires)

pub invariant_of-self : goal.invariant_of-self
invariant_of-self g c =
    let nodes = c.self.inside.nodes in
    let ends = c.self.inside.ends.items in
    let live = live-in nodes ends c.self.invariant c.args.self.now c.args.link c.requires.0 c.requires.1 c.self.view_is c.requires.2 in
    (replaced nodes c.set_item.new.nodes ends c.self.invariant c.args.link c.requires.0 c.requires.1 c.args.item live
    (subst (λ k. ChangesNode (λ n. record n { item = c.args.item }) nodes k c.set_item.new.nodes) c.key.ensures.value c.set_item.ensures)).sound

pub returns-clause-lists : goal.returns-clause-lists
returns-clause-lists g c =
    let nodes = c.self.inside.nodes in
    let ends = c.self.inside.ends.items in
    let live = live-in nodes ends c.self.invariant c.args.self.now c.args.link c.requires.0 c.requires.1 c.self.view_is c.requires.2 in
    let done =
    replaced nodes c.set_item.new.nodes ends c.self.invariant c.args.link c.requires.0 c.requires.1 c.args.item live
    (subst (λ k. ChangesNode (λ n. record n { item = c.args.item }) nodes k c.set_item.new.nodes) c.key.ensures.value c.set_item.ensures) in
    shown-is c.set_item.new.nodes ends done.sound ∙ done.are
    ∙ ap (with_item c.args.link c.args.item) (sym (lists-are nodes ends c.args.self.now c.self.invariant c.self.view_is))

pub returns-clause-names : goal.returns-clause-names
returns-clause-names g c list old live =
    subst (λ ls. IsIn ls c.args.link list c.args.item) (sym (returns-clause-lists g c)) (names-item c.args.self.now.lists c.args.link list old c.args.item live)

pub returns-clause-others : goal.returns-clause-others
returns-clause-others g c =
    subst (OthersStay c.args.link c.args.self.now.lists) (sym (returns-clause-lists g c)) (others-item c.args.self.now.lists c.args.link c.args.item)

pub returns-clause-count : goal.returns-clause-count
returns-clause-count g c = ap length (returns-clause-lists g c) ∙ length-map c.args.self.now.lists _
