use Rattle.std.proofs.Common.{ap, subst, sym, ◌∙◌, length, not, arith}
use Rattle.std.proofs.lemmas.List.Sums.{count_by-le-length, length-filter}
use Rattle.book_law.specs.BookView.{BookView, Names, Slot, is_at, less, orders}
use Rattle.book_law.proofs.Views.{names-less, names-reduced, names-without, orders-reduced, orders-without}
use Rattle.order_book.proofs.taking.take.Goals as goal

pub returns-then-by-order-clause-orders : goal.returns-then-by-order-clause-orders
returns-then-by-order-clause-orders c =
    ap orders c.remove.ensures.book ∙ orders-without c.args.book.now c.args.handle c.args.by c.args.order.now c.stands.ensures.book c.requires.names (omega arith)

pub returns-then-by-order-clause-count : goal.returns-then-by-order-clause-count
returns-then-by-order-clause-count c =
    let kept = λ (s : Slot). not (is_at c.args.handle s) in
    let slots = c.args.book.now.slots in
    omega (arith, ap (λ (b : BookView). length b.slots) c.remove.ensures.book, length-filter kept slots, count_by-le-length kept slots)

pub returns-then-by-order-clause-others : goal.returns-then-by-order-clause-others
returns-then-by-order-clause-others c k x other names =
    subst (λ b. Names b k x) (sym c.remove.ensures.book) (names-without c.args.handle k x other c.args.book.now names)

pub returns-else-by-order-clause-orders : goal.returns-else-by-order-clause-orders
returns-else-by-order-clause-orders c =
    ap orders c.reduce.ensures ∙ orders-reduced c.args.book.now c.args.handle c.args.by c.args.order.now c.stands.ensures.book c.requires.names (omega (arith, c.requires.within, c.if-by-order.false))

pub returns-else-by-order-clause-others : goal.returns-else-by-order-clause-others
returns-else-by-order-clause-others c k x other names =
    subst (λ b. Names b k x) (sym c.reduce.ensures) (names-reduced c.args.handle k x other c.args.by c.args.book.now names)

pub returns-then-by-order-clause-own : goal.returns-then-by-order-clause-own
returns-then-by-order-clause-own c some_left = absurd (omega (arith, c.if-by-order.true, some_left))

pub returns-else-by-order-clause-own : goal.returns-else-by-order-clause-own
returns-else-by-order-clause-own c some_left =
    subst (λ b. Names b c.args.handle (less c.args.by c.args.order.now)) (sym c.reduce.ensures) (names-less c.args.handle c.args.by c.args.order.now c.args.book.now c.requires.names)
