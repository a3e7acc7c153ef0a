use Rattle.std.proofs.Common.{◌≡◌, ◌+◌, ◌*◌, map}
use Rattle.std.specs.List.{range_with_len}
use Rattle.auction_file.proofs.grid.even_prices.Given as goal

-- the prices up to here
abbrev pub invariant-loop-i : goal.invariant-loop-i
invariant-loop-i l = l.prices.items ≡ map (λ i. record { 0 = l.low + i * l.tick }) (range_with_len 0 l.i)
