use Rattle.std.proofs.Common.{◌≡◌, ◌≤◌, sym, ◌∙◌, ap, subst, true, length, arith}
use Rattle.order_list.specs.Lists.{IsIn, IsLive, with_item}
use Rattle.book_law.specs.BookView.{IsSpotBelow, less}
use Rattle.order_book.specs.Fields.{AreFields, book_of}
use Rattle.order_book.specs.Depths.{depth_at, fewer, is_limit_buy}
use Rattle.order_book.specs.declared.held.Held.{Held}
use Rattle.order_book.proofs.BookLemmas.{held-live, kept, named, node-buys, node-enough, node-limit, node-sells, read-is, reduced-linked, reduced-view}
use Rattle.order_book.proofs.CountedLemmas.{limits-sum}
use Rattle.order_book.proofs.book.Book.reduce.Goals as goal

pub item-held-requires : goal.item-held-requires
unfolding AreFields book_of
item-held-requires c =
    let f = c.self.inside in
    subst (IsLive f.held.lists) (sym c.link.ensures) (held-live f.prices f.capacity f.buckets f.held f.levels f.owners f.depths c.self.invariant c.args.self.now c.self.view_is c.args.handle c.requires.live)

pub set-requires-clause-live : goal.set-requires-clause-live
unfolding AreFields book_of
set-requires-clause-live c =
    let f = c.self.inside in
    subst (IsLive f.held.lists) (sym c.link-2.ensures) (held-live f.prices f.capacity f.buckets f.held f.levels f.owners f.depths c.self.invariant c.args.self.now c.self.view_is c.args.handle c.requires.live)

pub set-requires-clause-place : goal.set-requires-clause-place
unfolding AreFields book_of
set-requires-clause-place c list old live =
    let f = c.self.inside in
    ap (λ (y : Held). y.order.place) (c.item-held.ensures list old (subst (λ k. IsIn f.held.lists k list old) (c.link-2.ensures ∙ sym c.link.ensures) live))

pub overflow_sub-held : goal.overflow_sub-held
unfolding AreFields book_of
overflow_sub-held c =
    let f = c.self.inside in
    let is = read-is f.prices f.capacity f.buckets f.held f.levels f.owners f.depths c.self.invariant c.args.self.now c.self.view_is c.args.handle c.requires.live c.link.result c.item-held.result c.link.ensures c.item-held.ensures in
    let less = c.requires.less (kept f.prices f.capacity f.buckets f.held f.levels f.owners f.depths c.self.invariant c.args.self.now c.self.view_is c.args.handle c.requires.live).order (named f.prices f.capacity f.buckets f.held f.levels f.owners f.depths c.self.invariant c.args.self.now c.self.view_is c.args.handle c.requires.live) in
    omega (arith, less, ap (λ (y : Held). y.order.left) is)

pub sub-requires-clause-buys : goal.sub-requires-clause-buys
unfolding AreFields book_of
sub-requires-clause-buys c =
    let f = c.self.inside in
    let is = read-is f.prices f.capacity f.buckets f.held f.levels f.owners f.depths c.self.invariant c.args.self.now c.self.view_is c.args.handle c.requires.live c.link.result c.item-held.result c.link.ensures c.item-held.ensures in
    subst (λ (y : Held). IsSpotBelow (length f.depths.buys) y.order.spot) (sym is) (node-buys f.prices f.capacity f.buckets f.held f.levels f.owners f.depths c.self.invariant c.args.self.now c.self.view_is c.args.handle c.requires.live)

pub sub-requires-clause-sells : goal.sub-requires-clause-sells
unfolding AreFields book_of
sub-requires-clause-sells c =
    let f = c.self.inside in
    let is = read-is f.prices f.capacity f.buckets f.held f.levels f.owners f.depths c.self.invariant c.args.self.now c.self.view_is c.args.handle c.requires.live c.link.result c.item-held.result c.link.ensures c.item-held.ensures in
    subst (λ (y : Held). IsSpotBelow (length f.depths.sells) y.order.spot) (sym is) (node-sells f.prices f.capacity f.buckets f.held f.levels f.owners f.depths c.self.invariant c.args.self.now c.self.view_is c.args.handle c.requires.live)

pub sub-requires-clause-enough : goal.sub-requires-clause-enough
unfolding AreFields book_of
sub-requires-clause-enough c =
    let f = c.self.inside in
    let is = read-is f.prices f.capacity f.buckets f.held f.levels f.owners f.depths c.self.invariant c.args.self.now c.self.view_is c.args.handle c.requires.live c.link.result c.item-held.result c.link.ensures c.item-held.ensures in
    let less = c.requires.less (kept f.prices f.capacity f.buckets f.held f.levels f.owners f.depths c.self.invariant c.args.self.now c.self.view_is c.args.handle c.requires.live).order (named f.prices f.capacity f.buckets f.held f.levels f.owners f.depths c.self.invariant c.args.self.now c.self.view_is c.args.handle c.requires.live) in
    subst (λ (y : Held). c.args.by ≤ depth_at y.order.side y.order.spot f.depths) (sym is) (omega (arith, less, node-enough f.prices f.capacity f.buckets f.held f.levels f.owners f.depths c.self.invariant c.args.self.now c.self.view_is c.args.handle c.requires.live))

pub sub-requires-clause-limit_bought : goal.sub-requires-clause-limit_bought
unfolding AreFields book_of
sub-requires-clause-limit_bought c =
    let f = c.self.inside in
    let is = read-is f.prices f.capacity f.buckets f.held f.levels f.owners f.depths c.self.invariant c.args.self.now c.self.view_is c.args.handle c.requires.live c.link.result c.item-held.result c.link.ensures c.item-held.ensures in
    let less = c.requires.less (kept f.prices f.capacity f.buckets f.held f.levels f.owners f.depths c.self.invariant c.args.self.now c.self.view_is c.args.handle c.requires.live).order (named f.prices f.capacity f.buckets f.held f.levels f.owners f.depths c.self.invariant c.args.self.now c.self.view_is c.args.handle c.requires.live) in
    subst (λ (y : Held). is_limit_buy y.order.side y.order.spot ≡ true → c.args.by ≤ f.depths.limit_buys) (sym is) (λ so. omega (arith, less, node-limit f.prices f.capacity f.buckets f.held f.levels f.owners f.depths c.self.invariant c.args.self.now c.self.view_is c.args.handle c.requires.live so))

pub sub-requires-clause-limits : goal.sub-requires-clause-limits
unfolding AreFields book_of
sub-requires-clause-limits c =
    let f = c.self.inside in
    limits-sum f.prices f.capacity f.buckets f.held f.levels f.owners f.depths c.self.invariant c.args.self.now c.self.view_is

pub invariant_of-self : goal.invariant_of-self
unfolding AreFields book_of
invariant_of-self c =
    let f = c.self.inside in
    let is = read-is f.prices f.capacity f.buckets f.held f.levels f.owners f.depths c.self.invariant c.args.self.now c.self.view_is c.args.handle c.requires.live c.link.result c.item-held.result c.link.ensures c.item-held.ensures in
    reduced-linked f.prices f.capacity f.buckets f.held f.levels f.owners f.depths c.self.invariant c.args.self.now c.self.view_is c.args.handle c.requires.live c.args.by c.set.new.self c.sub.new.self
    (record { order = less c.args.by c.item-held.result.order; filed = c.item-held.result.filed })
    (c.requires.less (kept f.prices f.capacity f.buckets f.held f.levels f.owners f.depths c.self.invariant c.args.self.now c.self.view_is c.args.handle c.requires.live).order (named f.prices f.capacity f.buckets f.held f.levels f.owners f.depths c.self.invariant c.args.self.now c.self.view_is c.args.handle c.requires.live)) (ap (λ (y : Held). record { order = less c.args.by y.order; filed = y.filed }) is)
    (c.set.ensures.lists ∙ ap (λ h. with_item h (record { order = less c.args.by c.item-held.result.order; filed = c.item-held.result.filed }) f.held.lists) c.link-2.ensures)
    c.set.ensures.spare (c.sub.ensures ∙ ap (λ (y : Held). fewer y.order.side y.order.spot c.args.by f.depths) is)

pub returns : goal.returns
unfolding AreFields book_of
returns c =
    let f = c.self.inside in
    let is = read-is f.prices f.capacity f.buckets f.held f.levels f.owners f.depths c.self.invariant c.args.self.now c.self.view_is c.args.handle c.requires.live c.link.result c.item-held.result c.link.ensures c.item-held.ensures in
    reduced-view f.prices f.capacity f.buckets f.held f.levels f.owners f.depths c.self.invariant c.args.self.now c.self.view_is c.args.handle c.requires.live c.args.by c.set.new.self c.sub.new.self
    (record { order = less c.args.by c.item-held.result.order; filed = c.item-held.result.filed })
    (c.requires.less (kept f.prices f.capacity f.buckets f.held f.levels f.owners f.depths c.self.invariant c.args.self.now c.self.view_is c.args.handle c.requires.live).order (named f.prices f.capacity f.buckets f.held f.levels f.owners f.depths c.self.invariant c.args.self.now c.self.view_is c.args.handle c.requires.live)) (ap (λ (y : Held). record { order = less c.args.by y.order; filed = y.filed }) is)
    (c.set.ensures.lists ∙ ap (λ h. with_item h (record { order = less c.args.by c.item-held.result.order; filed = c.item-held.result.filed }) f.held.lists) c.link-2.ensures)
    c.set.ensures.spare (c.sub.ensures ∙ ap (λ (y : Held). fewer y.order.side y.order.spot c.args.by f.depths) is)
