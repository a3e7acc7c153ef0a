-- Trades between the fronts of a book's two sides.
use Rattle.std.specs.Prelude.{◌≡◌, ℕ, ◌+◌, ◌-◌, ◌<◌, ◌≤◌, [], ◌∷◌}
use Rattle.mkt_base.specs.Fills.{after_trades}
use Rattle.mkt_base.specs.declared.auction.Trade.{Trade}
use Rattle.book_law.specs.BookView.{BookView, asks, bids, orders}
use Rattle.book_law.specs.Paired.{paired}
use Rattle.book_law.specs.Sides.{total}

-- A trade of the first orders of both sides, where at most so many shares are to be traded at a price: what both fronts
-- trade is this trade and then what they trade in the new book, and each side has so many shares less.
pub record IsTraded (price most : ℕ) (old new : BookView) (trade : Trade) : Type 0 where
  pub some : 0 < trade.qty
  pub within : trade.qty ≤ most
  pub trades : paired price most (bids old) (asks old) ≡ trade ∷ paired price (most - trade.qty) (bids new) (asks new)
  pub book : orders new ≡ after_trades (trade ∷ []) (orders old)
  pub bought : trade.qty + total (bids new) ≡ total (bids old)
  pub sold : trade.qty + total (asks new) ≡ total (asks old)
  pub prices : new.prices ≡ old.prices
  pub capacity : new.capacity ≡ old.capacity
