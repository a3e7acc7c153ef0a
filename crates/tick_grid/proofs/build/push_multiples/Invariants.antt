use Rattle.std.proofs.Common.{◌≡◌, ◌-◌, ◌/◌, ◌++◌, map}
use Rattle.std.specs.List.{range_with_len}
use Rattle.tick_grid.proofs.MultipleLemmas.{price_behind}
use Rattle.tick_grid.proofs.build.push_multiples.Given as goal

-- the first of the multiples are listed
abbrev pub invariant-loop-below : goal.invariant-loop-below
invariant-loop-below l =
    let first = (l.from - 1) / l.tick in
    l.prices.items ≡ l.fn.prices.items ++ map (price_behind l.tick) (range_with_len first (l.below - first))
