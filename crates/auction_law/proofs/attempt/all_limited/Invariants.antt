use Rattle.std.proofs.Common.{◌≡◌, true, take}
use Rattle.auction_law.specs.Attempt.{all_limited}
use Rattle.auction_law.proofs.attempt.all_limited.Given as goal

-- none so far
abbrev pub invariant-loop-order : goal.invariant-loop-order
invariant-loop-order l = all_limited l.grid (take l.order-index l.orders) ≡ true
