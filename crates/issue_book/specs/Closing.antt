-- Where the prices of a close are.
use Rattle.std.specs.Prelude.{ℕ}
use Rattle.mkt_base.specs.declared.order.Side.{Side}
use Rattle.mkt_base.specs.declared.order.Side.TheVariants.{Buy, Sell}
use Rattle.issue_book.specs.declared.window.Window.{Window}

-- the end of a window at which a side presses
abbrev pub end_of : Side → Window → ℕ
end_of Buy w = w.hi
end_of Sell w = w.lo
