use Rattle.std.proofs.Common.{refl, sym, ◌∙◌, ap, subst}
use Rattle.order_list.specs.Lists.{with_last}
use Rattle.order_book.specs.Fields.{AreFields, book_of}
use Rattle.order_book.specs.Linked.{linked}
use Rattle.book_law.specs.BookView.{IsInserted}
use Rattle.order_book.specs.declared.held.Held.{Held}
use Rattle.order_book.proofs.BookLemmas.{behind-all, bought, inserted-linked, inserted-view, limit-bought, market-bought, market-sold, number-fits, same-held, sold}
use Rattle.order_book.proofs.book.Book.insert.Goals as goal

pub level_of-level-requires : goal.level_of-level-requires
unfolding AreFields book_of
level_of-level-requires c =
    let f = c.self.inside in
    number-fits f.prices f.capacity f.buckets f.held f.levels f.owners f.depths c.self.invariant c.args.self.now c.self.view_is c.args.order c.requires

pub add-requires-clause-bought : goal.add-requires-clause-bought
unfolding AreFields book_of
add-requires-clause-bought c =
    let f = c.self.inside in
    bought f.prices f.capacity f.buckets f.held f.levels f.owners f.depths c.self.invariant c.args.self.now c.self.view_is c.args.order c.requires

pub add-requires-clause-sold : goal.add-requires-clause-sold
unfolding AreFields book_of
add-requires-clause-sold c =
    let f = c.self.inside in
    sold f.prices f.capacity f.buckets f.held f.levels f.owners f.depths c.self.invariant c.args.self.now c.self.view_is c.args.order c.requires

pub add-requires-clause-market_bought : goal.add-requires-clause-market_bought
unfolding AreFields book_of
add-requires-clause-market_bought c =
    let f = c.self.inside in
    market-bought f.prices f.capacity f.buckets f.held f.levels f.owners f.depths c.self.invariant c.args.self.now c.self.view_is c.args.order c.requires

pub add-requires-clause-market_sold : goal.add-requires-clause-market_sold
unfolding AreFields book_of
add-requires-clause-market_sold c =
    let f = c.self.inside in
    market-sold f.prices f.capacity f.buckets f.held f.levels f.owners f.depths c.self.invariant c.args.self.now c.self.view_is c.args.order c.requires

pub add-requires-clause-limit_bought : goal.add-requires-clause-limit_bought
unfolding AreFields book_of
add-requires-clause-limit_bought c =
    let f = c.self.inside in
    limit-bought f.prices f.capacity f.buckets f.held f.levels f.owners f.depths c.self.invariant c.args.self.now c.self.view_is c.args.order c.requires

pub push_back-link-requires-clause-last : goal.push_back-link-requires-clause-last
unfolding AreFields book_of
push_back-link-requires-clause-last c =
    let f = c.self.inside in
    behind-all f.prices f.capacity f.buckets f.held f.levels f.owners f.depths c.self.invariant c.args.self.now c.self.view_is c.args.order c.requires

-- the order that the link names is the one that was put in
pub set-requires-clause-place : goal.set-requires-clause-place
unfolding AreFields book_of
set-requires-clause-place c list old live =
    let f = c.self.inside in
    ap (λ (y : Held). y.order.place)
    (same-held c.push_back-link.new.self.lists c.push_back-link.result list _ old (c.push_back-link.ensures.count ∙ c.self.invariant.one) c.push_back-link.ensures.names live)

pub invariant_of-self : goal.invariant_of-self
unfolding AreFields book_of
invariant_of-self c =
    let f = c.self.inside in
    let x : Held = record { order = c.args.order; filed = record { level = c.push_back.result; owner = c.push_back-2.result } } in
    inserted-linked f.prices f.capacity f.buckets f.held f.levels f.owners f.depths c.self.invariant c.args.self.now c.self.view_is c.args.order c.requires
    c.push_back-link.new.self c.set.new.self c.push_back.new.self c.push_back-2.new.self c.add.new.self c.push_back-link.result c.push_back.result c.push_back-2.result c.level_of-level.result c.bucket-owner.result
    x _ refl
    c.push_back-link.ensures.lists c.push_back-link.ensures.fresh c.push_back-link.ensures.spare c.set.ensures.lists c.set.ensures.spare
    c.level_of-level.ensures
    (c.push_back.ensures.lists ∙ ap (λ h. with_last c.level_of-level.result (record { link = c.push_back.result; item = h }) f.levels.lists) c.new-handle.ensures) c.push_back.ensures.unused c.push_back.ensures.spare
    c.bucket-owner.ensures.exact c.bucket-owner.ensures.within
    (c.push_back-2.ensures.lists ∙ ap (λ h. with_last c.bucket-owner.result (record { link = c.push_back-2.result; item = h }) f.owners.lists) c.new-handle.ensures) c.push_back-2.ensures.unused c.push_back-2.ensures.spare
    c.add.ensures

pub returns : goal.returns
unfolding AreFields book_of
returns c =
    let f = c.self.inside in
    let x : Held = record { order = c.args.order; filed = record { level = c.push_back.result; owner = c.push_back-2.result } } in
    subst (λ h. IsInserted c.args.self.now c.args.order h (linked f.prices f.capacity c.set.new.self.lists)) (sym c.new-handle.ensures)
    (inserted-view f.prices f.capacity f.buckets f.held f.levels f.owners f.depths c.self.invariant c.args.self.now c.self.view_is c.args.order c.requires
    c.push_back-link.new.self c.set.new.self c.push_back.new.self c.push_back-2.new.self c.add.new.self c.push_back-link.result c.push_back.result c.push_back-2.result c.level_of-level.result c.bucket-owner.result
    x _ refl
    c.push_back-link.ensures.lists c.push_back-link.ensures.fresh c.push_back-link.ensures.spare c.set.ensures.lists c.set.ensures.spare
    c.level_of-level.ensures
    (c.push_back.ensures.lists ∙ ap (λ h. with_last c.level_of-level.result (record { link = c.push_back.result; item = h }) f.levels.lists) c.new-handle.ensures) c.push_back.ensures.unused c.push_back.ensures.spare
    c.bucket-owner.ensures.exact c.bucket-owner.ensures.within
    (c.push_back-2.ensures.lists ∙ ap (λ h. with_last c.bucket-owner.result (record { link = c.push_back-2.result; item = h }) f.owners.lists) c.new-handle.ensures) c.push_back-2.ensures.unused c.push_back-2.ensures.spare
    c.add.ensures)
