use Rattle.zaraba.proofs.ArrivingLemmas.{awaits-taken, meets}
use Rattle.zaraba.proofs.arriving.meet.Goals as goal

pub returns-clause-walked : goal.returns-clause-walked
returns-clause-walked g c = λ range first last is.
    let after =
    awaits-taken c.args.grid.now c.args.order.now c.args.book.now c.take.new.book c.args.next.now.order.place c.min-qty.result c.requires.awaits c.take.ensures.orders c.take.ensures.prices
    c.take.ensures.capacity c.take.ensures.count in
    meets c.args.grid.now c.stands-2.ensures.rising range first last c.args.left c.min-qty.result c.args.order.now c.args.book.now c.take.new.book c.args.next.now c.stands.ensures.book c.requires.awaits is
    c.requires.wanted c.min-qty.ensures c.take.ensures.orders after c.take.ensures.capacity
