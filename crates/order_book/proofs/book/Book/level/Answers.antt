use Rattle.std.proofs.Common.{sym, ◌∙◌, ap, subst}
use Rattle.mkt_base.specs.Book.{total_left}
use Rattle.mkt_base.specs.Priority.{is_on_level}
use Rattle.book_law.specs.BookView.{IsSpotBelow}
use Rattle.order_book.specs.Fields.{AreFields, book_of}
use Rattle.order_book.specs.Linked.{orders_in}
use Rattle.order_book.proofs.BookLemmas.{nodes, orders-of}
use Rattle.order_book.proofs.DepthLemmas.{depth-is}
use Rattle.order_book.proofs.book.Book.level.Goals as goal

pub returns : goal.returns
unfolding AreFields book_of
returns c =
    let f = c.self.inside in
    c.at.ensures
    ∙ depth-is f.prices f.depths (orders_in (nodes f.prices f.capacity f.buckets f.held f.levels f.owners f.depths c.self.invariant c.args.self.now c.self.view_is)) c.self.invariant.holds.depths c.args.side c.args.spot (subst (λ v. IsSpotBelow v.prices c.args.spot) (sym c.self.view_is) c.requires)
    ∙ ap (total_left (is_on_level c.args.side c.args.spot)) (sym (orders-of f.prices f.capacity f.buckets f.held f.levels f.owners f.depths c.self.invariant c.args.self.now c.self.view_is))
