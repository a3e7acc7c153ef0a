use Rattle.std.proofs.Common.{◌≡◌, ◌<◌, length, get_or, sym, ap, subst, ◌∙◌, arith}
use Rattle.mkt_base.specs.declared.order.Order.{Order}
use Rattle.auction_file.specs.LevelList.{IsWithin, LevelList, level_of}
use Rattle.auction_file.proofs.SlotLemmas.{IsSlotted-push, IsSlotted-set, StandsFor-merge, StandsFor-push, left-fits, slot-inside, slot-names}
use Rattle.auction_file.proofs.levels.Levels.add.Goals as goal

pub index_mut-requires : goal.index_mut-requires
index_mut-requires c =
    let within : IsWithin c.self.inside.count c.args.order.spot = subst (λ (l : LevelList). IsWithin l.count c.args.order.spot) (sym c.self.view_is) c.requires.within in
    let at = slot-names _ _ _ c.args.order _ _ _ c.self.invariant within c.level_of-level.ensures c.index.ensures c.in-Some.is in
    omega (arith, at.inside, c.self.inside.orders.ok.0)

pub overflow_add-index_mut : goal.overflow_add-index_mut
overflow_add-index_mut c =
    let orders : c.self.inside.orders.items ≡ c.args.self.now.orders = ap (λ (l : LevelList). l.orders) c.self.view_is in
    let within : IsWithin c.self.inside.count c.args.order.spot = subst (λ (l : LevelList). IsWithin l.count c.args.order.spot) (sym c.self.view_is) c.requires.within in
    let at = slot-names _ _ _ c.args.order _ _ _ c.self.invariant within c.level_of-level.ensures c.index.ensures c.in-Some.is in
    let x = c.index_mut.result.now in
    let inside : c.in-Some.index < length c.args.self.now.orders = omega (arith, at.inside, ap (λ xs. length xs) orders) in
    omega (arith, left-fits c.args.self.now c.args.order x c.in-Some.index c.requires inside (sym (c.index_mut.ensures.value ∙ ap (λ xs. get_or xs c.in-Some.index x) orders)))

pub returns-in-Some-clause-one_more : goal.returns-in-Some-clause-one_more
returns-in-Some-clause-one_more c all stands =
    let orders : c.self.inside.orders.items ≡ c.args.self.now.orders = ap (λ (l : LevelList). l.orders) c.self.view_is in
    let within : IsWithin c.self.inside.count c.args.order.spot = subst (λ (l : LevelList). IsWithin l.count c.args.order.spot) (sym c.self.view_is) c.requires.within in
    let at = slot-names _ _ _ c.args.order _ _ _ c.self.invariant within c.level_of-level.ensures c.index.ensures c.in-Some.is in
    let x = c.index_mut.result.now in
    StandsFor-merge c.self.inside.orders.items all (rw orders stands) c.args.order c.requires.left c.in-Some.index x at.inside (sym c.index_mut.ensures.value)
    (ap (λ (y : Order). level_of y.side y.spot) c.index_mut.ensures.value ∙ at.of_level x ∙ c.level_of-level.ensures)

pub invariant_of-self-2 : goal.invariant_of-self-2
invariant_of-self-2 c =
    let within : IsWithin c.self.inside.count c.args.order.spot = subst (λ (l : LevelList). IsWithin l.count c.args.order.spot) (sym c.self.view_is) c.requires.within in
    rw (c.in_ok-push.ensures.items, c.len-index.ensures, c.self.inside.orders.ok.0)
    (IsSlotted-push c.self.inside.count c.self.inside.orders.items c.self.inside.slots.items c.args.order c.level_of-level.result c.index.result.now c.level_of-level.ensures
    (slot-inside _ _ _ c.args.order _ c.self.invariant within c.level_of-level.ensures) c.index.ensures c.in_default.not-Some c.self.invariant)

pub returns-clause-one_more : goal.returns-clause-one_more
returns-clause-one_more c all stands =
    let orders : c.self.inside.orders.items ≡ c.args.self.now.orders = ap (λ (l : LevelList). l.orders) c.self.view_is in
    rw (c.in_ok-push.ensures.items, orders) (StandsFor-push c.args.self.now.orders all stands c.args.order c.requires.left)

pub invariant_of-self : goal.invariant_of-self
invariant_of-self c =
    let within : IsWithin c.self.inside.count c.args.order.spot = subst (λ (l : LevelList). IsWithin l.count c.args.order.spot) (sym c.self.view_is) c.requires.within in
    let at = slot-names _ _ _ c.args.order _ _ _ c.self.invariant within c.level_of-level.ensures c.index.ensures c.in-Some.is in
    IsSlotted-set c.self.inside.count c.self.inside.orders.items c.self.inside.slots.items c.in-Some.index c.index_mut.result.now _ at.inside c.index_mut.ensures.value c.self.invariant
