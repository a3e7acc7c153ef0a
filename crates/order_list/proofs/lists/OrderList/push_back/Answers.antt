use Rattle.order_list.specs.Lists.{IsLive}
use Rattle.order_list.proofs.StayLemmas.{not-live}
use Rattle.std.proofs.lemmas.List.{length-set}
use Rattle.order_list.specs.Lists.{IsIn, Stay, list_at}
use Rattle.order_list.specs.Links.{IsAbsent}
use Rattle.order_list.proofs.CallLemmas.{fresh}
use Rattle.order_list.proofs.StayLemmas.{names-last, stay-last}
use Rattle.std.proofs.Common.{◌≡◌, ◌<◌, List, ◌++◌, length, take, drop, sym, ◌∙◌, ap, subst, arith}
use Rattle.slab.specs.Slab.{get}
use Rattle.order_list.specs.Lists.{IsFresh, Linked, Lists, list_at, with_last}
use Rattle.order_list.specs.Links.{IsSound, end_at, no_ends, shown}
use Rattle.order_list.specs.declared.link.Beside.TheVariants.{Neighbour, End}
use Rattle.order_list.specs.declared.node.Ends.{Ends}
use Rattle.std.proofs.lemmas.List.{get_or_default}
use Rattle.order_list.proofs.CallLemmas.{fresh-link, put-last, written-back}
use Rattle.order_list.proofs.SoundLemmas.{lists-are, shown-is}
use Rattle.order_list.proofs.SegmentLemmas.{last-end, last-there, list-is}
use Rattle.order_list.proofs.CallLemmas.{StandsFor}
use Rattle.order_list.proofs.lists.OrderList.push_back.Given as given
use Rattle.order_list.proofs.lists.OrderList.push_back.Goals as goal

pub put_between-requires-clause-before : goal.put_between-requires-clause-before
put_between-requires-clause-before g c key is =
    let nodes = c.self.inside.nodes in
    let ends = c.self.inside.ends.items in
    let sound = c.self.invariant in
    let list = c.args.list in
    let are = lists-are nodes ends c.args.self.now sound c.self.view_is in
    let within : list < length sound.lists = omega (arith, c.requires.within, ap (length {A = List (Linked g.row.T.Denot)}) are) in
    let end : c.index.result.now ≡ end_at ends list =
    c.index.ensures ∙ get_or_default ends list c.index.result.now (no_ends list) (omega (arith, within, sound.linked.same)) in
    last-there (get nodes) list (end_at ends list).first (list_at sound.lists list) (end_at ends list).last (End list) key (sound.linked.each list within)
    (sym (ap (λ (e : Ends). e.last) end) ∙ is)

pub put_between-requires-clause-first : goal.put_between-requires-clause-first
put_between-requires-clause-first g c other is =
    let nodes = c.self.inside.nodes in
    let ends = c.self.inside.ends.items in
    let sound = c.self.invariant in
    let list = c.args.list in
    let are = lists-are nodes ends c.args.self.now sound c.self.view_is in
    let within : list < length sound.lists = omega (arith, c.requires.within, ap (length {A = List (Linked g.row.T.Denot)}) are) in
    let end : c.index.result.now ≡ end_at ends list =
    c.index.ensures ∙ get_or_default ends list c.index.result.now (no_ends list) (omega (arith, within, sound.linked.same)) in
    let same : other ≡ list =
    last-end (get nodes) list (end_at ends list).first (list_at sound.lists list) (end_at ends list).last (End list) other (sound.linked.each list within)
    (sym (ap (λ (e : Ends). e.last) end) ∙ is) in
    omega (arith, same, within, sound.linked.same, ap (length {A = Ends}) c.as_mut_slice.ensures.value)

pub put_between-requires-clause-last : goal.put_between-requires-clause-last
put_between-requires-clause-last g c other is =
    let are = lists-are c.self.inside.nodes c.self.inside.ends.items c.args.self.now c.self.invariant c.self.view_is in
    let same : other ≡ c.args.list = list-is (sym is ∙ c.end.ensures) in
    omega (arith, same, c.requires.within, ap (length {A = List (Linked g.row.T.Denot)}) are, c.self.invariant.linked.same, ap (length {A = Ends}) c.as_mut_slice.ensures.value)

pub put_between-requires-clause-after : goal.put_between-requires-clause-after
put_between-requires-clause-after g c key is =
    let none : End c.args.list ≡ Neighbour key = sym c.end.ensures ∙ is in
    absurd (cc)

pub end-requires : goal.end-requires
end-requires g c =
    let are = lists-are c.self.inside.nodes c.self.inside.ends.items c.args.self.now c.self.invariant c.self.view_is in
    omega (arith, c.requires.within, ap (length {A = List (Linked g.row.T.Denot)}) are, c.self.invariant.few)

-- the lists that the new fields stand for
done : (g : given.Over) (c : goal.After-self-1 g) → StandsFor c.put_between.new.nodes c.put_between.new.ends (with_last c.args.list (record { link = c.put_between.result; item = c.args.item }) c.self.invariant.lists)
done g c =
    let nodes = c.self.inside.nodes in
    let ends = c.self.inside.ends.items in
    let sound = c.self.invariant in
    let list = c.args.list in
    let are = lists-are nodes ends c.args.self.now sound c.self.view_is in
    let within : list < length sound.lists = omega (arith, c.requires.within, ap (length {A = List (Linked g.row.T.Denot)}) are) in
    let end : c.index.result.now ≡ end_at ends list =
    c.index.ensures ∙ get_or_default ends list c.index.result.now (no_ends list) (omega (arith, within, sound.linked.same)) in
    put-last nodes c.put_between.new.nodes ends c.as_mut_slice.result.now c.put_between.new.ends sound list c.index.result.now.last c.end.result c.args.item c.put_between.result
    within (omega (arith, c.requires.room, ap (λ (l : Lists g.row.T.Denot). l.spare) c.self.view_is)) (ap (λ (e : Ends). e.last) end) c.end.ensures c.as_mut_slice.ensures.value c.put_between.ensures

back : (g : given.Over) (c : goal.After-self-1 g) → take c.self.inside.ends.len (c.put_between.new.ends ++ drop (length c.put_between.new.ends) c.self.inside.ends.items) ≡ c.put_between.new.ends
back g c =
    let same = ap (length {A = Ends}) c.as_mut_slice.ensures.value in
    written-back c.put_between.new.ends c.self.inside.ends.items c.self.inside.ends.len (omega (arith, same, c.put_between.auto.ends)) (omega (arith, same, c.as_mut_slice.ensures.len))

pub invariant_of-self : goal.invariant_of-self
invariant_of-self g c = subst (IsSound c.put_between.new.nodes) (sym (back g c)) (done g c).sound

pub returns-clause-lists : goal.returns-clause-lists
returns-clause-lists g c =
    ap (λ es. (shown c.put_between.new.nodes es).lists) (back g c) ∙ shown-is c.put_between.new.nodes c.put_between.new.ends (done g c).sound ∙ (done g c).are
    ∙ ap (with_last c.args.list (record { link = c.put_between.result; item = c.args.item }))
    (sym (lists-are c.self.inside.nodes c.self.inside.ends.items c.args.self.now c.self.invariant c.self.view_is))

pub returns-clause-fresh : goal.returns-clause-fresh
returns-clause-fresh g c =
    let nodes = c.self.inside.nodes in
    let ends = c.self.inside.ends.items in
    subst (λ ls. IsFresh ls c.put_between.result) (sym (lists-are nodes ends c.args.self.now c.self.invariant c.self.view_is))
    (fresh-link nodes ends c.self.invariant.lists c.put_between.result c.self.invariant.linked c.put_between.ensures.adds.vacant)

pub returns-clause-names : goal.returns-clause-names
returns-clause-names g c =
    let nodes = c.self.inside.nodes in
    let ends = c.self.inside.ends.items in
    let lists = c.args.self.now.lists in
    let absent =
    subst (λ ls. IsAbsent c.put_between.result (list_at ls c.args.list)) (sym (lists-are nodes ends c.args.self.now c.self.invariant c.self.view_is))
    (fresh nodes ends c.self.invariant.lists c.put_between.result c.self.invariant.linked c.put_between.ensures.adds.vacant c.args.list) in
    subst (λ ls. IsIn ls c.put_between.result c.args.list c.args.item) (sym (returns-clause-lists g c)) (names-last lists c.args.list c.put_between.result c.args.item c.requires.within absent)

pub returns-clause-stay : goal.returns-clause-stay
returns-clause-stay g c =
    subst (Stay c.args.self.now.lists) (sym (returns-clause-lists g c)) (stay-last c.args.self.now.lists c.args.list (record { link = c.put_between.result; item = c.args.item }) c.requires.within)

pub returns-clause-count : goal.returns-clause-count
returns-clause-count g c = ap length (returns-clause-lists g c) ∙ length-set c.args.self.now.lists c.args.list _

pub returns-clause-unused : goal.returns-clause-unused
returns-clause-unused g c =
    let nodes = c.self.inside.nodes in
    let ends = c.self.inside.ends.items in
    subst (λ ls. ¬ IsLive ls c.put_between.result) (sym (lists-are nodes ends c.args.self.now c.self.invariant c.self.view_is))
    (not-live c.self.invariant.lists c.put_between.result (fresh nodes ends c.self.invariant.lists c.put_between.result c.self.invariant.linked c.put_between.ensures.adds.vacant))
