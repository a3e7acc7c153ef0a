use Rattle.std.proofs.Common.{◌≡◌, false, option_map, take}
use Rattle.auction_law.specs.Attempt.{least, limits}
use Rattle.auction_law.proofs.attempt.best_ask.Given as goal

-- the lowest limit of the limit sells so far
abbrev pub invariant-loop-order : goal.invariant-loop-order
invariant-loop-order l = option_map (λ p. p.0) l.best ≡ least (limits l.grid false (take l.order-index l.orders))
