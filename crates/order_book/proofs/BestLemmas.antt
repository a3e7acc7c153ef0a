-- The lowest position at which something is left, by a search.
use Rattle.std.proofs.Common.{◌≡◌, ℕ, ◌+◌, List, length, Option, arith}
use Rattle.std.specs.Option.{MatchOption}
use Rattle.depth_index.specs.Depths.{IsFirstReaching, IsNowhereReached}
use Rattle.order_book.specs.Depths.{IsBestSell, IsEmptyWithin, IsFirstFrom}
use Rattle.order_book.proofs.DepthLemmas.{first-from, match-weaker, none-from}

pub best-sell-first : (xs : List ℕ) (found : Option ℕ) → MatchOption found (IsNowhereReached xs 1) (IsFirstReaching xs 1) → IsBestSell xs found
best-sell-first xs found fact =
    let is : 1 ≡ 0 + 1 = omega arith in
    match-weaker found (IsNowhereReached xs 1) (IsEmptyWithin xs 0 (length xs)) (IsFirstReaching xs 1) (IsFirstFrom xs 0)
    (none-from xs 0 1 (omega arith) is) (λ i first. first-from xs 0 1 i is first) fact
