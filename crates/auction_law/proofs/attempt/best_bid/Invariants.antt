use Rattle.std.proofs.Common.{◌≡◌, true, option_map, take}
use Rattle.auction_law.specs.Attempt.{greatest, limits}
use Rattle.auction_law.proofs.attempt.best_bid.Given as goal

-- the highest limit of the limit buys so far
abbrev pub invariant-loop-order : goal.invariant-loop-order
invariant-loop-order l = option_map (λ p. p.0) l.best ≡ greatest (limits l.grid true (take l.order-index l.orders))
