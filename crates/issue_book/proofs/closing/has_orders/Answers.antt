use Rattle.std.proofs.Common.{◌∙◌}
use Rattle.book_law.specs.BookView.{orders}
use Rattle.book_law.specs.Laws.{IsBookOn}
use Rattle.book_law.proofs.FrontLemmas.{orders-below, orders-left, orders-rising}
use Rattle.issue_book.proofs.ClosingLemmas.{any-best}
use Rattle.issue_book.proofs.closing.has_orders.Goals as goal

pub returns : goal.returns
returns c =
    let b = c.args.book.now in
    let stands = c.stands.ensures.book in
    let on : IsBookOn b.prices (orders b) = record { book = record { by_place = orders-rising b stands; left = orders-left b stands }; spots = orders-below b stands } in
    c.is_some.ensures ∙ any-best c.args.side b c.best.result on c.sides_add_up.ensures c.best.ensures
