-- Lemmas on the scan that keeps the best price so far.
use Rattle.std.proofs.Common.{◌≡◌, ℕ, ◌+◌, ◌<◌, ◌≤◌, Bool, true, false, cond, nat_le, ◌&&◌, List, length, drop, min, find, Option, Some, None, MatchOption, refl, sym, ap, ◌∙◌, arith}
use Rattle.std.proofs.lemmas.List.{drop_more, drop_all}
use Rattle.mkt_base.specs.declared.units.Price.{Price}
use Rattle.mkt_base.specs.declared.order.Order.{Order}
use Rattle.mkt_base.specs.declared.auction.Sums.{Sums}
use Rattle.mkt_base.specs.Book.{price_at, sums_at}
use Rattle.auction_law.specs.Nearness.{is_nearer, insert_near, by_nearness, prices_of}
use Rattle.auction_law.specs.Attempt.{meets, chosen}
use Rattle.auction_law.proofs.NearnessLemmas.{key-nearer, key-not_nearer, by_nearness-near, find-insert_fails, find-insert_only, find-insert_nearer, find-insert_farther}

-- of the prices from a position on, the first in order of nearness that meets the conditions
unfoldable pub found : List Price → List Order → ℕ → ℕ → Option ℕ
found grid orders r i = find (meets grid orders) (by_nearness r (prices_of (drop i grid)))

-- the best sums so far are those at this price
pub record IsBest (grid : List Price) (orders : List Order) (r i : ℕ) (best : Option Sums) : Type 0 where
  pub within : i ≤ length grid
  pub value : MatchOption best (found grid orders r i ≡ None) (λ s. (found grid orders r i ≡ Some s.price.0) × (s ≡ sums_at grid orders s.price.0))

-- what the scan tests of the sums is what the conditions say
pub meets-of_sums : (grid : List Price) (orders : List Order) (p : ℕ) (s : Sums) → s ≡ sums_at grid orders p
    → (nat_le 1 (min s.buys s.sells) && nat_le s.above (min s.buys s.sells) && nat_le s.below (min s.buys s.sells)) ≡ meets grid orders p
unfolding meets
meets-of_sums grid orders p s e = ap (λ s. nat_le 1 (min s.buys s.sells) && nat_le s.above (min s.buys s.sells) && nat_le s.below (min s.buys s.sells)) e

-- one more position
pub found-step : (grid : List Price) (orders : List Order) (r k i : ℕ) → i ≡ k + 1 → k < length grid
    → found grid orders r k ≡ find (meets grid orders) (insert_near r (price_at grid k) (by_nearness r (prices_of (drop i grid))))
unfolding found
found-step grid orders r k i e l =
    ap (λ xs. find (meets grid orders) (by_nearness r (prices_of xs))) (drop_more grid k (record { 0 = 0 }) l)
    ∙ ap (λ n. find (meets grid orders) (insert_near r (price_at grid k) (by_nearness r (prices_of (drop n grid))))) (sym e)

pub best-none : (grid : List Price) (orders : List Order) (r : ℕ) → IsBest grid orders r (length grid) None
unfolding found
best-none grid orders r = record { within = omega arith; value = ap (λ xs. find (meets grid orders) (by_nearness r (prices_of xs))) (drop_all (length grid) grid (omega arith)) }

pub best-fails : (grid : List Price) (orders : List Order) (r k i : ℕ) (best : Option Sums) → i ≡ k + 1 → meets grid orders (price_at grid k) ≡ false
    → IsBest grid orders r i best → IsBest grid orders r k best
unfolding found
best-fails grid orders r k i best e f b = record { within = omega (arith, b.within); value = at best b.value }
  where
    same : found grid orders r k ≡ found grid orders r i
    same = found-step grid orders r k i e (omega (arith, b.within)) ∙ find-insert_fails r (meets grid orders) (price_at grid k) (by_nearness r (prices_of (drop i grid))) f

    at : (o : Option Sums) → MatchOption o (found grid orders r i ≡ None) (λ s. (found grid orders r i ≡ Some s.price.0) × (s ≡ sums_at grid orders s.price.0))
        → MatchOption o (found grid orders r k ≡ None) (λ s. (found grid orders r k ≡ Some s.price.0) × (s ≡ sums_at grid orders s.price.0))
    at None h = same ∙ h
    at (Some s) h = (same ∙ h.0, h.1)

pub best-meets : (grid : List Price) (orders : List Order) (r k i : ℕ) (best : Option Sums) (sums new : Sums) → i ≡ k + 1 → meets grid orders (price_at grid k) ≡ true
    → sums ≡ sums_at grid orders (price_at grid k)
    → MatchOption best (new ≡ sums) (λ b. new ≡ cond (is_nearer r sums.price.0 b.price.0) sums b)
    → IsBest grid orders r i best → IsBest grid orders r k (Some new)
unfolding found
best-meets grid orders r k i best sums new e t at_k by_nearest b = record { within = omega (arith, b.within); value = at best by_nearest b.value }
  where
    p : sums.price.0 ≡ price_at grid k
    p = ap (λ s. s.price.0) at_k

    step : found grid orders r k ≡ find (meets grid orders) (insert_near r (price_at grid k) (by_nearness r (prices_of (drop i grid))))
    step = found-step grid orders r k i e (omega (arith, b.within))

    taken : new ≡ sums → found grid orders r k ≡ Some (price_at grid k) → (found grid orders r k ≡ Some new.price.0) × (new ≡ sums_at grid orders new.price.0)
    taken n f =
        let q : new.price.0 ≡ price_at grid k = ap (λ s. s.price.0) n ∙ p in
        (f ∙ ap Some (sym q), n ∙ at_k ∙ ap (sums_at grid orders) (sym q))

    kept : (s : Sums) → (new ≡ s) → (found grid orders r k ≡ Some s.price.0) → (s ≡ sums_at grid orders s.price.0) → (found grid orders r k ≡ Some new.price.0) × (new ≡ sums_at grid orders new.price.0)
    kept s n f g =
        let q : new.price.0 ≡ s.price.0 = ap (λ s. s.price.0) n in
        (f ∙ ap Some (sym q), n ∙ g ∙ ap (sums_at grid orders) (sym q))

    by : (s : Sums) → (found grid orders r i ≡ Some s.price.0) → (s ≡ sums_at grid orders s.price.0) → (near : Bool) → is_nearer r sums.price.0 s.price.0 ≡ near → new ≡ cond near sums s
        → (found grid orders r k ≡ Some new.price.0) × (new ≡ sums_at grid orders new.price.0)
    by s f g true h n = taken n (step ∙ find-insert_nearer r (meets grid orders) (price_at grid k) s.price.0 (by_nearness r (prices_of (drop i grid))) t f (key-nearer r (price_at grid k) s.price.0 (ap (λ q. is_nearer r q s.price.0) (sym p) ∙ h)))
    by s f g false h n = kept s n (step ∙ find-insert_farther r (meets grid orders) (price_at grid k) s.price.0 (by_nearness r (prices_of (drop i grid))) (by_nearness-near r (prices_of (drop i grid))) f (key-not_nearer r (price_at grid k) s.price.0 (ap (λ q. is_nearer r q s.price.0) (sym p) ∙ h))) g

    at : (o : Option Sums) → MatchOption o (new ≡ sums) (λ b. new ≡ cond (is_nearer r sums.price.0 b.price.0) sums b)
        → MatchOption o (found grid orders r i ≡ None) (λ s. (found grid orders r i ≡ Some s.price.0) × (s ≡ sums_at grid orders s.price.0))
        → (found grid orders r k ≡ Some new.price.0) × (new ≡ sums_at grid orders new.price.0)
    at None n h = taken n (step ∙ find-insert_only r (meets grid orders) (price_at grid k) (by_nearness r (prices_of (drop i grid))) t h)
    at (Some s) n h = by s h.0 h.1 (is_nearer r sums.price.0 s.price.0) refl n

-- once all positions are scanned
pub best-chosen : (grid : List Price) (orders : List Order) (r i : ℕ) (best : Option Sums) → i ≡ 0 → IsBest grid orders r i best
    → MatchOption best (chosen grid orders r ≡ None) (λ s. (chosen grid orders r ≡ Some s.price.0) × (s ≡ sums_at grid orders s.price.0))
unfolding found chosen
best-chosen grid orders r i best e b = at best b.value
  where
    all : chosen grid orders r ≡ found grid orders r i
    all = ap (λ n. found grid orders r n) (sym e)

    at : (o : Option Sums) → MatchOption o (found grid orders r i ≡ None) (λ s. (found grid orders r i ≡ Some s.price.0) × (s ≡ sums_at grid orders s.price.0))
        → MatchOption o (chosen grid orders r ≡ None) (λ s. (chosen grid orders r ≡ Some s.price.0) × (s ≡ sums_at grid orders s.price.0))
    at None h = all ∙ h
    at (Some s) h = (all ∙ h.0, h.1)
