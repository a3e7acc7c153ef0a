-- The laws of the prices that meet the conditions, of the chosen one, and of the four answers.
use Rattle.std.proofs.Common.{◌≡◌, ℕ, Bool, true, false, not, nat_lt, nat_le, ◌&&◌, inl, inr, List, [], ◌∷◌, count_by, refl, sym, arith, le-leb, leb-true, lt-ltb, ltb-true, ltb-false, eq-or-lt_of_le}
use Rattle.std.specs.List.{list_any}
use Rattle.mkt_base.specs.Book.{price_at, buys, above, sells, below}
use Rattle.mkt_base.specs.declared.units.Price.{Price}
use Rattle.mkt_base.specs.declared.order.Order.{Order}
use Rattle.auction_law.specs.Nearness.{prices_of}
use Rattle.auction_law.specs.Attempt.{meets, is_calm, is_traded, is_pressed_buy, is_pressed_sell, OneAnswer, ChosenIsNearest}
use Rattle.auction_law.specs.Laws.{OneRunMeets, MeetingTradesMost, SumsGoOneWay, TieNeverDecides, TradesWhereSomeMeets}
use Rattle.auction_law.proofs.NearnessLemmas.{lt_or_le, key-above, key-below, Contains-from_IsIn, IsIn-from_Contains, nearer-false}
use Rattle.auction_law.proofs.SumsLemmas.{above-fall, below-rise, buys-fall, price-le, sells-rise}
use Rattle.auction_law.proofs.MeetsLemmas.{meets-between, meets-most}
use Rattle.auction_law.proofs.CalmBookLemmas.{and-left, and-right, and-true, list_any-in, list_any-true}
use Rattle.auction_law.proofs.TradedLemmas.{chosen-meets, chosen-nearest, chosen-in, traded-chosen, traded-from_meets, traded-not_calm}
use Rattle.auction_law.proofs.PressedLemmas.{pressed-one, pressed-some}

-- exactly one of four tests passes
pub one_of_four : (t c x y : Bool) → (t ≡ true → c ≡ true → ⊥) → (x ≡ true → y ≡ true → ⊥) → (t ≡ false → c ≡ false → x ≡ false → y ≡ true)
    → count_by (λ answer. answer) (t ∷ c ∷ (not t && not c && x) ∷ (not t && not c && y) ∷ []) ≡ 1
one_of_four true true x y a b d = absurd (a refl refl)
one_of_four true false x y a b d = refl
one_of_four false true x y a b d = refl
one_of_four false false true true a b d = absurd (b refl refl)
one_of_four false false true false a b d = refl
one_of_four false false false true a b d = refl
one_of_four false false false false a b d = let e : false ≡ true = d refl refl refl in absurd (cc)

pub one_answer : OneAnswer
unfolding is_pressed_buy is_pressed_sell
one_answer grid orders reference lo hi a =
    let r : ℕ = price_at grid reference in
    let low : ℕ = price_at grid lo in
    let high : ℕ = price_at grid hi in
    one_of_four (is_traded grid orders r low high) (is_calm grid orders) (nat_lt (sells grid orders high) (above grid orders high)) (nat_lt (buys grid orders low) (below grid orders low))
    (traded-not_calm grid orders r low high)
    (λ x y. pressed-one grid orders low high (price-le grid lo hi a.rising (omega (arith, a.from_lo, a.to_hi)) a.in_range) (ltb-true _ _ x) (ltb-true _ _ y))
    (λ t c x. lt-ltb _ _ (pressed-some grid orders reference lo hi a t c (ltb-false _ _ x)))

pub chosen_is_nearest : ChosenIsNearest
chosen_is_nearest grid orders r p e = (
  Contains-from_IsIn p (prices_of grid) (chosen-in grid orders r p e),
  chosen-meets grid orders r p e,
  λ q i t. nearer-false r q p (chosen-nearest grid orders r p q e (IsIn-from_Contains q (prices_of grid) i) t),
)

-- going up the prices each sum goes one way
pub sums_go_one_way : SumsGoOneWay
sums_go_one_way grid orders p q h = (buys-fall grid orders p q h, sells-rise grid orders p q h, above-fall grid orders p q h, below-rise grid orders p q h)

-- a price between two that meet the conditions meets them
pub one_run_meets : OneRunMeets
one_run_meets = meets-between

-- a price that meets them trades the most
pub meeting_trades_most : MeetingTradesMost
meeting_trades_most = meets-most

-- a price of the grid lies in the window and meets the conditions
abbrev meets_within : List Price → List Order → ℕ → ℕ → ℕ → Bool
meets_within grid orders lo hi p = nat_le lo p && nat_le p hi && meets grid orders p

-- the chosen price lies in the window where some such price does
pub trades_where_some_meets : TradesWhereSomeMeets
trades_where_some_meets grid orders r lo hi on from to = at (is_traded grid orders r lo hi) refl (list_any (meets_within grid orders lo hi) (prices_of grid)) refl
  where
    at : (t : Bool) → is_traded grid orders r lo hi ≡ t → (s : Bool) → list_any (meets_within grid orders lo hi) (prices_of grid) ≡ s → t ≡ s
    at true t true s = refl
    at true t false s =
        let w = traded-chosen grid orders r lo hi t in
        let e = list_any-in (meets_within grid orders lo hi) (prices_of grid) w.0 (chosen-in grid orders r w.0 w.1) (and-true _ _ (and-true _ _ (le-leb _ _ w.2) (le-leb _ _ w.3)) (chosen-meets grid orders r w.0 w.1)) in
        cc
    at false t true s =
        let w = list_any-true (meets_within grid orders lo hi) (prices_of grid) s in
        let inside = and-left (nat_le lo w.0 && nat_le w.0 hi) _ w.2 in
        absurd (traded-from_meets grid orders r lo hi w.0 from to (leb-true _ _ (and-left (nat_le lo w.0) _ inside)) (leb-true _ _ (and-right (nat_le lo w.0) _ inside))
        (IsIn-from_Contains r (prices_of grid) on) w.1 (and-right (nat_le lo w.0 && nat_le w.0 hi) _ w.2) t)
    at false t false s = refl

-- of two prices that are equally far one lies on each side of the reference, which is nearer than both
pub tie_never_decides : TieNeverDecides
tie_never_decides grid orders r p q other far tp tq = elim (lt_or_le p q) [
  | inl l ↦ (
    meets-between grid orders p r q (omega arith) (omega arith) tp tq,
    λ on e. omega (arith, chosen-nearest grid orders r p r e (IsIn-from_Contains r (prices_of grid) on) (meets-between grid orders p r q (omega arith) (omega arith) tp tq), key-below r p r (omega arith) (omega arith)),
  )
  | inr l ↦ elim (eq-or-lt_of_le l) [
    | inl e ↦ absurd (other (sym e))
    | inr m ↦ (
      meets-between grid orders q r p (omega arith) (omega arith) tq tp,
      λ on e. omega (arith, chosen-nearest grid orders r p r e (IsIn-from_Contains r (prices_of grid) on) (meets-between grid orders q r p (omega arith) (omega arith) tq tp), key-above r r p (omega arith) (omega arith)),
    )
  ]
]
