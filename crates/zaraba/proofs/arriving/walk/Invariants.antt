use Rattle.std.proofs.Common.{◌<◌, length}
use Rattle.mkt_base.specs.Book.{price_at}
use Rattle.tick_grid.specs.Rows.{band_of}
use Rattle.zaraba.specs.Walk.{IsWalking}
use Rattle.zaraba.proofs.arriving.walk.Given as goal

abbrev pub invariant-loop-left : goal.invariant-loop-left
invariant-loop-left g l = record {
  walking : IsWalking g.W.Watch.took l.grid (band_of l.ranges) (price_at l.grid l.first) l.order l.fn.book l.book l.left (price_at l.grid l.last) l.fn.watch l.watch;
  in_range : l.last < length l.grid;
}

abbrev pub decreases-loop-left : goal.decreases-loop-left
decreases-loop-left g l = l.left
