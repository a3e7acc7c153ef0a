use Rattle.std.proofs.Common.{◌<◌, ◌≤◌, All, take}
use Rattle.mkt_base.specs.Book.{IsOnGrid}
use Rattle.market_tests.proofs.tests.law.is_sample.Given as goal

-- the orders so far
abbrev pub invariant-loop-order : goal.invariant-loop-order
invariant-loop-order l =
    All (λ o. IsOnGrid l.grid o.spot) (take l.order-index l.orders)
    × All (λ o. 0 < o.left) (take l.order-index l.orders)
    × All (λ o. o.left ≤ 1000) (take l.order-index l.orders)
