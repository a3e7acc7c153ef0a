use Rattle.std.proofs.Common.{◌≡◌, Some}
use Rattle.std.specs.List.{slice_get}
use Rattle.book_law.specs.BookView.{side_of}
use Rattle.zaraba.specs.Arrival.{opposite}
use Rattle.zaraba.proofs.NextLemmas.{is-front, named-front, never-market}
use Rattle.zaraba.proofs.next.front.Goals as goal

pub unreachable-requires : goal.unreachable-requires
unreachable-requires c =
    let b = c.args.book.now in
    let side = opposite c.args.order.now.side in
    let first : slice_get (side_of b side) 0 ≡ Some c.order-resting.result =
    named-front b c.against.result side c.best.result c.in_ok-handle.handle c.order-resting.result c.best.ensures c.in_ok-handle.was c.against.ensures c.order-resting.ensures in
    never-market c.args.grid.now c.args.order.now b c.stands.ensures.book c.requires c.order-resting.result first c.in_default.is

pub returns-clause-first : goal.returns-clause-first
returns-clause-first c =
    let b = c.args.book.now in
    let side = opposite c.args.order.now.side in
    let first : slice_get (side_of b side) 0 ≡ Some c.order-resting.result =
    named-front b c.against.result side c.best.result c.in_ok-handle.handle c.order-resting.result c.best.ensures c.in_ok-handle.was c.against.ensures c.order-resting.ensures in
    is-front c.args.grid.now c.args.order.now b c.stands.ensures.book c.requires c.order-resting.result first c.in_ok-handle.handle c.in-At.at c.order-resting.ensures c.in-At.is
