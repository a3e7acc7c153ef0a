use Rattle.std.proofs.Common.{◌≡◌, ◌-◌, arith}
use Rattle.mkt_base.specs.Book.{price_at}
use Rattle.tick_grid.specs.Rows.{band_of}
use Rattle.zaraba.specs.Arrival.{trade_with}
use Rattle.zaraba.specs.Walk.{IsNext}
use Rattle.zaraba.proofs.ArrivingLemmas.{stops-done, walking-more, walking-none}
use Rattle.zaraba.proofs.arriving.walk.Goals as goal

pub loop-left-init : goal.loop-left-init
loop-left-init g c = record {
  walking =
      walking-none g.W.Watch.took c.args.grid.now (band_of c.args.ranges.now) (price_at c.args.grid.now c.args.first) c.args.order.now c.args.book.now c.args.watch.now c.stands.ensures.book
      c.requires.awaits;
  in_range = c.requires.first;
}

pub loop-left-preserved : goal.loop-left-preserved
loop-left-preserved g c =
    let grid = c.args.grid.now in
    let order = c.args.order.now in
    let now = price_at grid c.loop-left.last in
    let qty = c.meet-left.result in
    let next : IsNext grid (band_of c.args.ranges.now) (price_at grid c.args.first) now order c.loop-left.book c.in-Ok.next = c.in-Ok.ensures.next in
    record {
      walking =
          walking-more g.W.Watch.took grid (band_of c.args.ranges.now) (price_at grid c.args.first) order c.args.book.now c.loop-left.book c.meet-left.new.book c.loop-left.left
          (c.loop-left.left - qty) now (price_at grid c.in-Ok.next.at) c.args.watch.now c.loop-left.watch c.meet-left.new.watch (trade_with grid order c.in-Ok.next.order qty)
          c.loop-left.invariant.walking (c.meet-left.ensures.walked (band_of c.args.ranges.now) (price_at grid c.args.first) now next) c.meet-left.ensures.told;
      in_range = next.front.inside;
    }

pub returns-clause-stopped : goal.returns-clause-stopped
returns-clause-stopped g c =
    let none : c.loop-left.left ≡ 0 = omega arith in
    stops-done c.args.grid.now (band_of c.args.ranges.now) (price_at c.args.grid.now c.args.first) c.args.order.now c.loop-left.book c.loop-left.left (price_at c.args.grid.now c.loop-left.last) none
