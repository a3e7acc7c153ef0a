-- The orders of a file that was read meet what the auction needs.
use Rattle.std.proofs.Common.{◌≡◌, ℕ, ◌*◌, ◌<◌, ◌≤◌, Bool, true, false, cond, not, nat_le, List, length, get_or, All, refl, sym, ◌∙◌, arith}
use Rattle.std.specs.List.{list_any}
use Rattle.std.proofs.lemmas.Bool.Decides.{nat_tests}
use Rattle.std.proofs.lemmas.List.Elements.{All-weaker}
use Rattle.std.proofs.lemmas.List.Folds.{list_any_at, list_any_none}
use Rattle.std.proofs.lemmas.List.Sums.{sum_by-le}
use Rattle.auction_law.specs.Levels.{SameLevels}
use Rattle.mkt_base.specs.Book.{FitsSums, IsOnGrid, is_buy, total_left}
use Rattle.mkt_base.specs.declared.order.Order.{Order}
use Rattle.mkt_base.specs.declared.order.Spot.{Spot}
use Rattle.mkt_base.specs.declared.order.Spot.TheVariants.{Market, At}
use Rattle.auction_file.specs.EvenGrid.{EvenGrid, grid_prices}
use Rattle.auction_file.specs.AuctionFile.{IsFileOrder}
use Rattle.auction_file.specs.LevelList.{IsWithin}
use Rattle.auction_file.proofs.EvenGridLemmas.{length-grid_prices}

spot_on_grid : (grid : EvenGrid) (spot : Spot) → IsWithin grid.count spot → IsOnGrid (grid_prices grid) spot
spot_on_grid grid Market within = tt
spot_on_grid grid (At i) within = omega (arith, length-grid_prices grid, within)

-- a position behind the last
is_past : ℕ → Spot → Bool
is_past count Market = false
is_past count (At i) = nat_le count i

not_past : (count : ℕ) (spot : Spot) → IsWithin count spot → is_past count spot ≡ false
unfolding is_past
not_past count Market within = refl
not_past count (At i) within = grind (arith, nat_tests)

within-not_past : (count : ℕ) (spot : Spot) → is_past count spot ≡ false → IsWithin count spot
unfolding is_past
within-not_past count Market e = tt
within-not_past count (At i) e = grind (arith, nat_tests)

none_passes : (test : Order → Bool) (orders : List Order) → list_any test orders ≡ false → All (λ o. test o ≡ false) orders
none_passes test orders none k d inside = by (test (get_or orders k d)) (list_any_at test orders k d inside)
  where
    by : (b : Bool) → (b ≡ true → list_any test orders ≡ true) → b ≡ false
    by true passes = sym (passes refl) ∙ none
    by false passes = refl

-- each limit of orders of the same levels stands on the grid
pub levels_on_grid : (grid : EvenGrid) (merged all : List Order) → SameLevels merged all → All (IsFileOrder grid) all → All (λ o. IsOnGrid (grid_prices grid) o.spot) merged
levels_on_grid grid merged all same are =
    let test : Order → Bool = λ o. is_past grid.count o.spot in
    let none : list_any test all ≡ false = list_any_none test all (All-weaker (IsFileOrder grid) (λ o. test o ≡ false) (λ o is. not_past grid.count o.spot is.spot) all are) in
    All-weaker (λ o. test o ≡ false) (λ o. IsOnGrid (grid_prices grid) o.spot) (λ o e. spot_on_grid grid o.spot (within-not_past grid.count o.spot e)) merged
    (none_passes test merged (same.some (λ side spot. is_past grid.count spot) ∙ none))

at_most : (b : Bool) (left : ℕ) → left ≤ 100000000 → cond b left 0 ≤ 100000000
at_most true left h = h
at_most false left h = omega arith

pub total_left-le : (grid : EvenGrid) (passes : Order → Bool) (orders : List Order) → All (IsFileOrder grid) orders → total_left passes orders ≤ length orders * 100000000
unfolding total_left
total_left-le grid passes orders all =
    sum_by-le _ 100000000 orders (All-weaker (IsFileOrder grid) (λ o. cond (passes o) o.left 0 ≤ 100000000) (λ o is. at_most (passes o) o.left is.limit) orders all)

-- what 500,000 orders of at most 100,000,000 shares have left fits 64 bits
pub orders_fit : (grid : EvenGrid) (orders : List Order) → All (IsFileOrder grid) orders → length orders < 500001 → FitsSums orders
orders_fit grid orders all few = record {
  bought = omega (arith, total_left-le grid (λ o. is_buy o.side) orders all, few);
  sold = omega (arith, total_left-le grid (λ o. not (is_buy o.side)) orders all, few);
}
