use Rattle.std.proofs.Common.{◌≡◌, ◌≤◌, sym, ◌∙◌, ap, subst, true, length}
use Rattle.order_list.specs.Lists.{IsIn, IsLive, without as without_link}
use Rattle.book_law.specs.BookView.{IsSpotBelow, Names}
use Rattle.order_book.specs.Fields.{AreFields, book_of}
use Rattle.order_book.specs.Depths.{depth_at, fewer, is_limit_buy}
use Rattle.order_book.specs.Linked.{level_key, owner_key}
use Rattle.order_book.specs.declared.held.Held.{Held}
use Rattle.order_book.proofs.BookLemmas.{held-live, kept, level-in, named, node-buys, node-enough, node-limit, node-sells, owner-in, read-is, removed-linked, removed-view}
use Rattle.order_book.proofs.CountedLemmas.{limits-sum}
use Rattle.order_book.proofs.book.Book.remove.Goals as goal

pub unlink-filed-requires : goal.unlink-filed-requires
unfolding AreFields book_of
unlink-filed-requires c =
    let f = c.self.inside in
    subst (IsLive f.held.lists) (sym c.link.ensures) (held-live f.prices f.capacity f.buckets f.held f.levels f.owners f.depths c.self.invariant c.args.self.now c.self.view_is c.args.handle c.requires)

pub unlink-requires : goal.unlink-requires
unfolding AreFields book_of
unlink-requires c =
    let f = c.self.inside in
    let is = read-is f.prices f.capacity f.buckets f.held f.levels f.owners f.depths c.self.invariant c.args.self.now c.self.view_is c.args.handle c.requires c.link.result c.unlink-filed.result c.link.ensures c.unlink-filed.ensures.item in
    (level_key (kept f.prices f.capacity f.buckets f.held f.levels f.owners f.depths c.self.invariant c.args.self.now c.self.view_is c.args.handle c.requires).order, c.args.handle, subst (λ (y : Held). IsIn f.levels.lists y.filed.level (level_key (kept f.prices f.capacity f.buckets f.held f.levels f.owners f.depths c.self.invariant c.args.self.now c.self.view_is c.args.handle c.requires).order) c.args.handle) (sym is) (level-in f.prices f.capacity f.buckets f.held f.levels f.owners f.depths c.self.invariant c.args.self.now c.self.view_is c.args.handle c.requires))

pub unlink-requires-2 : goal.unlink-requires-2
unfolding AreFields book_of
unlink-requires-2 c =
    let f = c.self.inside in
    let is = read-is f.prices f.capacity f.buckets f.held f.levels f.owners f.depths c.self.invariant c.args.self.now c.self.view_is c.args.handle c.requires c.link.result c.unlink-filed.result c.link.ensures c.unlink-filed.ensures.item in
    (owner_key f.buckets (kept f.prices f.capacity f.buckets f.held f.levels f.owners f.depths c.self.invariant c.args.self.now c.self.view_is c.args.handle c.requires).order, c.args.handle, subst (λ (y : Held). IsIn f.owners.lists y.filed.owner (owner_key f.buckets (kept f.prices f.capacity f.buckets f.held f.levels f.owners f.depths c.self.invariant c.args.self.now c.self.view_is c.args.handle c.requires).order) c.args.handle) (sym is) (owner-in f.prices f.capacity f.buckets f.held f.levels f.owners f.depths c.self.invariant c.args.self.now c.self.view_is c.args.handle c.requires))

pub sub-requires-clause-buys : goal.sub-requires-clause-buys
unfolding AreFields book_of
sub-requires-clause-buys c =
    let f = c.self.inside in
    let is = read-is f.prices f.capacity f.buckets f.held f.levels f.owners f.depths c.self.invariant c.args.self.now c.self.view_is c.args.handle c.requires c.link.result c.unlink-filed.result c.link.ensures c.unlink-filed.ensures.item in
    subst (λ (y : Held). IsSpotBelow (length f.depths.buys) y.order.spot) (sym is) (node-buys f.prices f.capacity f.buckets f.held f.levels f.owners f.depths c.self.invariant c.args.self.now c.self.view_is c.args.handle c.requires)

pub sub-requires-clause-sells : goal.sub-requires-clause-sells
unfolding AreFields book_of
sub-requires-clause-sells c =
    let f = c.self.inside in
    let is = read-is f.prices f.capacity f.buckets f.held f.levels f.owners f.depths c.self.invariant c.args.self.now c.self.view_is c.args.handle c.requires c.link.result c.unlink-filed.result c.link.ensures c.unlink-filed.ensures.item in
    subst (λ (y : Held). IsSpotBelow (length f.depths.sells) y.order.spot) (sym is) (node-sells f.prices f.capacity f.buckets f.held f.levels f.owners f.depths c.self.invariant c.args.self.now c.self.view_is c.args.handle c.requires)

pub sub-requires-clause-enough : goal.sub-requires-clause-enough
unfolding AreFields book_of
sub-requires-clause-enough c =
    let f = c.self.inside in
    let is = read-is f.prices f.capacity f.buckets f.held f.levels f.owners f.depths c.self.invariant c.args.self.now c.self.view_is c.args.handle c.requires c.link.result c.unlink-filed.result c.link.ensures c.unlink-filed.ensures.item in
    subst (λ (y : Held). y.order.left ≤ depth_at y.order.side y.order.spot f.depths) (sym is) (node-enough f.prices f.capacity f.buckets f.held f.levels f.owners f.depths c.self.invariant c.args.self.now c.self.view_is c.args.handle c.requires)

pub sub-requires-clause-limit_bought : goal.sub-requires-clause-limit_bought
unfolding AreFields book_of
sub-requires-clause-limit_bought c =
    let f = c.self.inside in
    let is = read-is f.prices f.capacity f.buckets f.held f.levels f.owners f.depths c.self.invariant c.args.self.now c.self.view_is c.args.handle c.requires c.link.result c.unlink-filed.result c.link.ensures c.unlink-filed.ensures.item in
    subst (λ (y : Held). is_limit_buy y.order.side y.order.spot ≡ true → y.order.left ≤ f.depths.limit_buys) (sym is) (node-limit f.prices f.capacity f.buckets f.held f.levels f.owners f.depths c.self.invariant c.args.self.now c.self.view_is c.args.handle c.requires)

pub sub-requires-clause-limits : goal.sub-requires-clause-limits
unfolding AreFields book_of
sub-requires-clause-limits c =
    let f = c.self.inside in
    limits-sum f.prices f.capacity f.buckets f.held f.levels f.owners f.depths c.self.invariant c.args.self.now c.self.view_is

pub invariant_of-self : goal.invariant_of-self
unfolding AreFields book_of
invariant_of-self c =
    let f = c.self.inside in
    let is = read-is f.prices f.capacity f.buckets f.held f.levels f.owners f.depths c.self.invariant c.args.self.now c.self.view_is c.args.handle c.requires c.link.result c.unlink-filed.result c.link.ensures c.unlink-filed.ensures.item in
    removed-linked f.prices f.capacity f.buckets f.held f.levels f.owners f.depths c.self.invariant c.args.self.now c.self.view_is c.args.handle c.requires c.unlink-filed.new.self c.unlink.new.self c.unlink-2.new.self c.sub.new.self
    (c.unlink-filed.ensures.lists ∙ ap (λ h. without_link h f.held.lists) c.link.ensures) c.unlink-filed.ensures.spare
    (c.unlink.ensures.lists ∙ ap (λ (y : Held). without_link y.filed.level f.levels.lists) is) c.unlink.ensures.spare
    (c.unlink-2.ensures.lists ∙ ap (λ (y : Held). without_link y.filed.owner f.owners.lists) is) c.unlink-2.ensures.spare
    (c.sub.ensures ∙ ap (λ (y : Held). fewer y.order.side y.order.spot y.order.left f.depths) is)

pub returns-clause-order : goal.returns-clause-order
unfolding AreFields book_of
returns-clause-order c =
    let f = c.self.inside in
    let is = read-is f.prices f.capacity f.buckets f.held f.levels f.owners f.depths c.self.invariant c.args.self.now c.self.view_is c.args.handle c.requires c.link.result c.unlink-filed.result c.link.ensures c.unlink-filed.ensures.item in
    subst (λ (y : Held). Names c.args.self.now c.args.handle y.order) (sym is) (named f.prices f.capacity f.buckets f.held f.levels f.owners f.depths c.self.invariant c.args.self.now c.self.view_is c.args.handle c.requires)

pub returns-clause-book : goal.returns-clause-book
unfolding AreFields book_of
returns-clause-book c =
    let f = c.self.inside in
    let is = read-is f.prices f.capacity f.buckets f.held f.levels f.owners f.depths c.self.invariant c.args.self.now c.self.view_is c.args.handle c.requires c.link.result c.unlink-filed.result c.link.ensures c.unlink-filed.ensures.item in
    removed-view f.prices f.capacity f.buckets f.held f.levels f.owners f.depths c.self.invariant c.args.self.now c.self.view_is c.args.handle c.requires c.unlink-filed.new.self c.unlink.new.self c.unlink-2.new.self c.sub.new.self
    (c.unlink-filed.ensures.lists ∙ ap (λ h. without_link h f.held.lists) c.link.ensures) c.unlink-filed.ensures.spare
    (c.unlink.ensures.lists ∙ ap (λ (y : Held). without_link y.filed.level f.levels.lists) is) c.unlink.ensures.spare
    (c.unlink-2.ensures.lists ∙ ap (λ (y : Held). without_link y.filed.owner f.owners.lists) is) c.unlink-2.ensures.spare
    (c.sub.ensures ∙ ap (λ (y : Held). fewer y.order.side y.order.spot y.order.left f.depths) is)
