use Rattle.std.proofs.Common.{◌≡◌, take}
use Rattle.mkt_base.specs.Book.{is_buy_above, is_buy_at, is_sell_at, is_sell_below, total_left}
use Rattle.auction_law.proofs.sums.plain_sums.Given as goal

-- each sum is that of the orders so far
abbrev pub invariant-loop-order : goal.invariant-loop-order
invariant-loop-order l =
    (l.buys ≡ total_left (is_buy_at l.grid l.price.0) (take l.order-index l.orders))
    × (l.above ≡ total_left (is_buy_above l.grid l.price.0) (take l.order-index l.orders))
    × (l.sells ≡ total_left (is_sell_at l.grid l.price.0) (take l.order-index l.orders))
    × (l.below ≡ total_left (is_sell_below l.grid l.price.0) (take l.order-index l.orders))
