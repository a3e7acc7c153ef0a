-- Lemmas on the chosen price, and on whether it lies in the window.
use Rattle.std.proofs.Common.{◌≡◌, ℕ, ◌<◌, ◌≤◌, Bool, true, false, nat_le, ◌&&◌, ◌⊎◌, inl, inr, List, Option, Some, None, refl, sym, ap, ◌∙◌, arith, le-leb, leb-true}
use Rattle.std.specs.Option.{option_map_or}
use Rattle.mkt_base.specs.declared.units.Price.{Price}
use Rattle.mkt_base.specs.declared.order.Order.{Order}
use Rattle.auction_law.specs.Nearness.{by_nearness, prices_of}
use Rattle.auction_law.specs.Attempt.{meets, chosen, is_calm, is_traded}
use Rattle.auction_law.proofs.NearnessLemmas.{lt_or_le, IsIn, key, key-below, key-above, by_nearness-near, IsIn-by_nearness, IsIn-from_by_nearness, find_passes, find_in, find_some, find_nearest}
use Rattle.auction_law.proofs.MeetsLemmas.{meets-tells, meets-between}
use Rattle.auction_law.proofs.CalmBookLemmas.{and-left, and-right, and-true, calm-apart}

-- the chosen price and the others that meet the conditions
pub chosen-meets : (grid : List Price) (orders : List Order) (r w : ℕ) → chosen grid orders r ≡ Some w → meets grid orders w ≡ true
unfolding chosen
chosen-meets grid orders r w e = find_passes (meets grid orders) (by_nearness r (prices_of grid)) w e

pub chosen-nearest : (grid : List Price) (orders : List Order) (r w q : ℕ) → chosen grid orders r ≡ Some w → IsIn q (prices_of grid) → meets grid orders q ≡ true → key r w ≤ key r q
unfolding chosen
chosen-nearest grid orders r w q e i t = find_nearest r (meets grid orders) (by_nearness r (prices_of grid)) q w (by_nearness-near r (prices_of grid)) e (IsIn-by_nearness r q (prices_of grid) i) t

pub chosen-in : (grid : List Price) (orders : List Order) (r w : ℕ) → chosen grid orders r ≡ Some w → IsIn w (prices_of grid)
unfolding chosen
chosen-in grid orders r w e = IsIn-from_by_nearness r w (prices_of grid) (find_in (meets grid orders) (by_nearness r (prices_of grid)) w e)

pub chosen-some : (grid : List Price) (orders : List Order) (r q : ℕ) → IsIn q (prices_of grid) → meets grid orders q ≡ true → chosen grid orders r ≡ None → ⊥
unfolding chosen
chosen-some grid orders r q i t e = find_some (meets grid orders) (by_nearness r (prices_of grid)) q (IsIn-by_nearness r q (prices_of grid) i) t e

pub traded-at : (grid : List Price) (orders : List Order) (r lo hi : ℕ) (o : Option ℕ) → chosen grid orders r ≡ o → is_traded grid orders r lo hi ≡ option_map_or (λ p. nat_le lo p && nat_le p hi) o false
unfolding is_traded
traded-at grid orders r lo hi o e = ap (λ c. option_map_or (λ p. nat_le lo p && nat_le p hi) c false) e

pub outside-cases : (lo hi p : ℕ) → (nat_le lo p && nat_le p hi) ≡ false → (p < lo) ⊎ (hi < p)
outside-cases lo hi p e = elim (lt_or_le p lo) [
  | inl h ↦ inl h
  | inr h ↦ elim (lt_or_le hi p) [ inl k ↦ inr k | inr k ↦ let t : (nat_le lo p && nat_le p hi) ≡ true = and-true _ _ (le-leb _ _ h) (le-leb _ _ k) in absurd (cc) ]
]

-- what trades has a chosen price, in the window
pub traded-chosen : (grid : List Price) (orders : List Order) (r lo hi : ℕ) → is_traded grid orders r lo hi ≡ true → (p : ℕ) × (chosen grid orders r ≡ Some p) × (lo ≤ p) × (p ≤ hi)
traded-chosen grid orders r lo hi t = at (chosen grid orders r) refl
  where
    at : (o : Option ℕ) → chosen grid orders r ≡ o → (p : ℕ) × (chosen grid orders r ≡ Some p) × (lo ≤ p) × (p ≤ hi)
    at None e = let f = traded-at grid orders r lo hi None e in absurd (cc)
    at (Some p) e =
        let inside : (nat_le lo p && nat_le p hi) ≡ true = sym (traded-at grid orders r lo hi (Some p) e) ∙ t in
        (p, e, leb-true _ _ (and-left (nat_le lo p) _ inside), leb-true _ _ (and-right (nat_le lo p) _ inside))

-- where the window has such a price, the chosen one lies in the window
pub traded-from_meets : (grid : List Price) (orders : List Order) (r lo hi q : ℕ) → lo ≤ r → r ≤ hi → lo ≤ q → q ≤ hi → IsIn r (prices_of grid) → IsIn q (prices_of grid)
    → meets grid orders q ≡ true → is_traded grid orders r lo hi ≡ false → ⊥
traded-from_meets grid orders r lo hi q h1 h2 h3 h4 ri qi t f = at (chosen grid orders r) refl
  where
    under : (w : ℕ) → chosen grid orders r ≡ Some w → w < lo → ⊥
    under w e l = elim (lt_or_le r q) [
      | inl h ↦
          let m : meets grid orders r ≡ true = meets-between grid orders w r q (omega arith) (omega arith) (chosen-meets grid orders r w e) t in
          omega (arith, chosen-nearest grid orders r w r e ri m, key-below r w r (omega arith) (omega arith))
      | inr h ↦ omega (arith, chosen-nearest grid orders r w q e qi t, key-below r w q (omega arith) h)
    ]

    over : (w : ℕ) → chosen grid orders r ≡ Some w → hi < w → ⊥
    over w e l = elim (lt_or_le q r) [
      | inl h ↦
          let m : meets grid orders r ≡ true = meets-between grid orders q r w (omega arith) (omega arith) t (chosen-meets grid orders r w e) in
          omega (arith, chosen-nearest grid orders r w r e ri m, key-above r r w (omega arith) (omega arith))
      | inr h ↦ omega (arith, chosen-nearest grid orders r w q e qi t, key-above r q w h (omega arith))
    ]

    at : (o : Option ℕ) → chosen grid orders r ≡ o → ⊥
    at None e = chosen-some grid orders r q qi t e
    at (Some w) e = elim (outside-cases lo hi w (sym (traded-at grid orders r lo hi (Some w) e) ∙ f)) [ inl l ↦ under w e l | inr l ↦ over w e l ]

-- what trades is not calm
pub traded-not_calm : (grid : List Price) (orders : List Order) (r lo hi : ℕ) → is_traded grid orders r lo hi ≡ true → is_calm grid orders ≡ true → ⊥
traded-not_calm grid orders r lo hi t c = at (chosen grid orders r) refl
  where
    at : (o : Option ℕ) → chosen grid orders r ≡ o → ⊥
    at None e = let f = traded-at grid orders r lo hi None e in cc
    at (Some w) e = let h = meets-tells grid orders w (chosen-meets grid orders r w e) in calm-apart grid orders w c h.0 h.1

-- whether the chosen price lies in the window
pub traded-is : (grid : List Price) (orders : List Order) (r lo hi p : ℕ) (inside : Bool) → chosen grid orders r ≡ Some p → inside ≡ (nat_le lo p && nat_le p hi)
    → is_traded grid orders r lo hi ≡ inside
traded-is grid orders r lo hi p inside e h = traded-at grid orders r lo hi (Some p) e ∙ sym h

pub traded-none : (grid : List Price) (orders : List Order) (r lo hi : ℕ) → chosen grid orders r ≡ None → is_traded grid orders r lo hi ≡ false
traded-none grid orders r lo hi e = traded-at grid orders r lo hi None e
