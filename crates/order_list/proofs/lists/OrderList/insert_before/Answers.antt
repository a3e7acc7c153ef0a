use Rattle.order_list.proofs.StayLemmas.{not-live}
use Rattle.std.proofs.lemmas.List.{length-map}
use Rattle.std.proofs.Common.{ℕ}
use Rattle.order_list.specs.Lists.{IsIn, Stay, list_at}
use Rattle.order_list.specs.Links.{IsAbsent}
use Rattle.order_list.proofs.CallLemmas.{fresh}
use Rattle.order_list.proofs.StayLemmas.{names-before, stay-before}
use Rattle.std.proofs.Common.{◌≡◌, ◌++◌, length, take, drop, sym, ◌∙◌, ap, subst, arith}
use Rattle.slab.specs.Slab.{ContainsKey, get}
use Rattle.order_list.specs.Lists.{IsFresh, Lists, with_before}
use Rattle.order_list.specs.Links.{IsSound, shown}
use Rattle.order_list.specs.declared.node.Ends.{Ends}
use Rattle.order_list.proofs.CallLemmas.{StandsFor, fresh-link, front-before, front-within, has-key, live-in, put-front, written-back}
use Rattle.order_list.proofs.SoundLemmas.{lists-are, shown-is}
use Rattle.order_list.proofs.lists.OrderList.insert_before.Given as given
use Rattle.order_list.proofs.lists.OrderList.insert_before.Goals as goal

pub index-node-requires : goal.index-node-requires
index-node-requires g c =
    subst (ContainsKey c.self.inside.nodes) (sym c.key.ensures.value)
    (has-key c.self.inside.nodes c.self.inside.ends.items c.self.invariant c.args.self.now c.args.link c.self.view_is c.requires.live)

pub put_between-requires-clause-first : goal.put_between-requires-clause-first
put_between-requires-clause-first g c end is =
    let nodes = c.self.inside.nodes in
    let ends = c.self.inside.ends.items in
    let live = live-in nodes ends c.self.invariant c.args.self.now c.args.link c.requires.live.0 c.requires.live.1 c.self.view_is c.requires.live.2 in
    let found = ap (get nodes) (sym c.key.ensures.value) ∙ c.index-node.ensures in
    omega (
      arith,
      front-within nodes ends c.self.invariant c.args.link c.requires.live.0 c.requires.live.1 c.index-node.result.now live found end is,
      ap (length {A = Ends}) c.as_mut_slice.ensures.value,
    )

pub put_between-requires-clause-before : goal.put_between-requires-clause-before
put_between-requires-clause-before g c =
    let nodes = c.self.inside.nodes in
    let ends = c.self.inside.ends.items in
    let live = live-in nodes ends c.self.invariant c.args.self.now c.args.link c.requires.live.0 c.requires.live.1 c.self.view_is c.requires.live.2 in
    front-before nodes ends c.self.invariant c.args.link c.requires.live.0 c.requires.live.1 c.index-node.result.now live
    (ap (get nodes) (sym c.key.ensures.value) ∙ c.index-node.ensures)

-- the lists that the new fields stand for
done : (g : given.Over) (c : goal.After-self-1 g)
    → StandsFor c.put_between.new.nodes c.put_between.new.ends (with_before c.args.link (record { link = c.put_between.result; item = c.args.item }) c.self.invariant.lists)
done g c =
    let nodes = c.self.inside.nodes in
    let ends = c.self.inside.ends.items in
    let live = live-in nodes ends c.self.invariant c.args.self.now c.args.link c.requires.live.0 c.requires.live.1 c.self.view_is c.requires.live.2 in
    put-front nodes c.put_between.new.nodes ends c.as_mut_slice.result.now c.put_between.new.ends c.self.invariant c.args.link c.requires.live.0 c.of.result c.requires.live.1 c.args.item
    c.put_between.result c.index-node.result.now live (ap (get nodes) (sym c.key.ensures.value) ∙ c.index-node.ensures)
    (omega (arith, c.requires.room, ap (λ (l : Lists g.row.T.Denot). l.spare) c.self.view_is)) c.of.ensures c.as_mut_slice.ensures.value c.put_between.ensures

back : (g : given.Over) (c : goal.After-self-1 g) → take c.self.inside.ends.len (c.put_between.new.ends ++ drop (length c.put_between.new.ends) c.self.inside.ends.items) ≡ c.put_between.new.ends
back g c =
    let same = ap (length {A = Ends}) c.as_mut_slice.ensures.value in
    written-back c.put_between.new.ends c.self.inside.ends.items c.self.inside.ends.len (omega (arith, same, c.put_between.auto.ends)) (omega (arith, same, c.as_mut_slice.ensures.len))

pub invariant_of-self : goal.invariant_of-self
invariant_of-self g c = subst (IsSound c.put_between.new.nodes) (sym (back g c)) (done g c).sound

pub returns-clause-lists : goal.returns-clause-lists
returns-clause-lists g c =
    ap (λ es. (shown c.put_between.new.nodes es).lists) (back g c) ∙ shown-is c.put_between.new.nodes c.put_between.new.ends (done g c).sound ∙ (done g c).are
    ∙ ap (with_before c.args.link (record { link = c.put_between.result; item = c.args.item }))
    (sym (lists-are c.self.inside.nodes c.self.inside.ends.items c.args.self.now c.self.invariant c.self.view_is))

pub returns-clause-fresh : goal.returns-clause-fresh
returns-clause-fresh g c =
    let nodes = c.self.inside.nodes in
    let ends = c.self.inside.ends.items in
    subst (λ ls. IsFresh ls c.put_between.result) (sym (lists-are nodes ends c.args.self.now c.self.invariant c.self.view_is))
    (fresh-link nodes ends c.self.invariant.lists c.put_between.result c.self.invariant.linked c.put_between.ensures.adds.vacant)

-- the new link is in no list
absent : (g : given.Over) (c : goal.After-self-1 g) (list : ℕ) → IsAbsent c.put_between.result (list_at c.args.self.now.lists list)
absent g c list =
    let nodes = c.self.inside.nodes in
    let ends = c.self.inside.ends.items in
    subst (λ ls. IsAbsent c.put_between.result (list_at ls list)) (sym (lists-are nodes ends c.args.self.now c.self.invariant c.self.view_is))
    (fresh nodes ends c.self.invariant.lists c.put_between.result c.self.invariant.linked c.put_between.ensures.adds.vacant list)

pub returns-clause-names : goal.returns-clause-names
returns-clause-names g c list there live =
    subst (λ ls. IsIn ls c.put_between.result list c.args.item) (sym (returns-clause-lists g c))
    (names-before c.args.self.now.lists c.args.link list there (record { link = c.put_between.result; item = c.args.item }) live (absent g c list))

pub returns-clause-stay : goal.returns-clause-stay
returns-clause-stay g c =
    subst (Stay c.args.self.now.lists) (sym (returns-clause-lists g c))
    (stay-before c.args.self.now.lists c.args.link (record { link = c.put_between.result; item = c.args.item }) (absent g c))

pub returns-clause-count : goal.returns-clause-count
returns-clause-count g c = ap length (returns-clause-lists g c) ∙ length-map c.args.self.now.lists _

pub returns-clause-unused : goal.returns-clause-unused
returns-clause-unused g c = not-live c.args.self.now.lists c.put_between.result (absent g c)
