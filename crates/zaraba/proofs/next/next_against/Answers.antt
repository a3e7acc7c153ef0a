use Rattle.std.proofs.Common.{◌≡◌, ◌∙◌, true, false}
use Rattle.mkt_base.specs.Book.{price_at}
use Rattle.tick_grid.specs.Rows.{band_of}
use Rattle.zaraba.specs.Arrival.{crosses}
use Rattle.zaraba.proofs.NextLemmas.{crossed-is, stops-cut, stops-empty, stops-past}
use Rattle.zaraba.proofs.next.next_against.Goals as goal

pub returns-in_default-clause-stop : goal.returns-in_default-clause-stop
returns-in_default-clause-stop c =
    stops-empty c.args.grid.now c.stands-2.ensures.rising _ _ _ c.args.order.now c.args.book.now c.stands.ensures.book c.requires.awaits c.in_default.ensures.none c.ended.result c.ended.ensures

pub returns-then-not-crosses-clause-stop : goal.returns-then-not-crosses-clause-stop
returns-then-not-crosses-clause-stop c =
    let first = price_at c.args.grid.now c.args.first in
    let last = price_at c.args.grid.now c.args.last in
    let range = band_of c.args.ranges.now in
    let past : crosses c.args.grid.now c.args.order.now c.in-Some.next.order ≡ false =
    crossed-is c.args.grid.now c.stands-2.ensures.rising range first last c.args.order.now c.args.book.now c.stands.ensures.book c.requires.awaits c.in-Some.next c.in-Some.ensures.first c.crosses.result c.crosses.ensures
    ∙ c.if-not-crosses.true in
    stops-past c.args.grid.now c.stands-2.ensures.rising range first last c.args.order.now c.args.book.now c.stands.ensures.book c.requires.awaits c.in-Some.next c.in-Some.ensures.first past c.ended-then-not-crosses.result c.ended-then-not-crosses.ensures

pub returns-in-Some-cut-clause-stop : goal.returns-in-Some-cut-clause-stop
returns-in-Some-cut-clause-stop c =
    let first = price_at c.args.grid.now c.args.first in
    let last = price_at c.args.grid.now c.args.last in
    let range = band_of c.args.ranges.now in
    let passes : crosses c.args.grid.now c.args.order.now c.in-Some.next.order ≡ true =
    crossed-is c.args.grid.now c.stands-2.ensures.rising range first last c.args.order.now c.args.book.now c.stands.ensures.book c.requires.awaits c.in-Some.next c.in-Some.ensures.first c.crosses.result c.crosses.ensures
    ∙ c.if-not-crosses.false in
    stops-cut c.args.grid.now c.stands-2.ensures.rising range first last c.args.order.now c.args.book.now c.stands.ensures.book c.requires.awaits c.in-Some.next c.in-Some.ensures.first passes
    c.cut.result c.cut.ensures c.in-Some-cut.stop c.in-Some-cut.is
