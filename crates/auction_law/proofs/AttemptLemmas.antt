-- What an attempt answers, and the tests by which a body may decide it.
use Rattle.std.proofs.Common.{◌≡◌, ℕ, ◌<◌, ◌≤◌, Bool, true, false, cond, not, nat_lt, nat_le, ◌&&◌, List, Option, Some, None, refl, sym, ap, subst, ◌∙◌, arith, leb-true, leb-false, lt-ltb, ltb-true, ltb-false}
use Rattle.std.specs.Option.{option_map_or}
use Rattle.mkt_base.specs.declared.units.Price.{Price}
use Rattle.mkt_base.specs.declared.order.Side.TheVariants.{Buy, Sell}
use Rattle.mkt_base.specs.declared.order.Order.{Order}
use Rattle.mkt_base.specs.declared.auction.Outcome.{Outcome}
use Rattle.mkt_base.specs.declared.auction.Outcome.TheVariants.{Traded, Calm, Pressed}
use Rattle.mkt_base.specs.Book.{price_at, buys, above, sells, below}
use Rattle.auction_law.specs.Attempt.{IsAttempt, IsAuction, attempt, best_ask, best_bid, chosen, is_calm, is_pressed_buy, is_pressed_sell, is_traded, not_traded, pressed_buy, pressed_sell, traded_outcome, within}
use Rattle.auction_law.specs.Laws.{AttemptIsTheOutcome, TradesUnlessPressed}
use Rattle.auction_law.proofs.SumsLemmas.{above-fall, below-rise, buys-fall, price-le, sells-rise}
use Rattle.auction_law.proofs.MeetsLemmas.{meets-tells}
use Rattle.auction_law.proofs.CalmBookLemmas.{and-left, and-right, not-true}
use Rattle.auction_law.proofs.TradedLemmas.{chosen-meets, traded-at, traded-chosen, traded-not_calm}
use Rattle.auction_law.proofs.PressedLemmas.{pressed-one, pressed-some, pressed_buy-holds, pressed_sell-holds}

-- ---- whether it trades

-- a test that cannot pass fails
fails : (b : Bool) → (b ≡ true → ⊥) → b ≡ false
fails true passes_not = absurd (passes_not refl)
fails false passes_not = refl

-- a calm book trades nowhere
pub calm-not_traded : (grid : List Price) (orders : List Order) (r lo hi : ℕ) → is_calm grid orders ≡ true → is_traded grid orders r lo hi ≡ false
calm-not_traded grid orders r lo hi c = fails (is_traded grid orders r lo hi) (λ t. traded-not_calm grid orders r lo hi t c)

-- nor does a book where more is bought above the window's upper end than is sold there
pub above-not_traded : (grid : List Price) (orders : List Order) (r lo hi : ℕ) → sells grid orders hi < above grid orders hi → is_traded grid orders r lo hi ≡ false
above-not_traded grid orders r lo hi h = fails (is_traded grid orders r lo hi) (λ t.
    let w = traded-chosen grid orders r lo hi t in
    let m = meets-tells grid orders w.0 (chosen-meets grid orders r w.0 w.1) in
    omega (arith, h, m.2, above-fall grid orders w.0 hi w.3, sells-rise grid orders w.0 hi w.3))

-- nor where more is sold below the window's lower end than is bought there
pub below-not_traded : (grid : List Price) (orders : List Order) (r lo hi : ℕ) → buys grid orders lo < below grid orders lo → is_traded grid orders r lo hi ≡ false
below-not_traded grid orders r lo hi h = fails (is_traded grid orders r lo hi) (λ t.
    let w = traded-chosen grid orders r lo hi t in
    let m = meets-tells grid orders w.0 (chosen-meets grid orders r w.0 w.1) in
    omega (arith, h, m.3, buys-fall grid orders lo w.0 w.2, below-rise grid orders lo w.0 w.2))

-- every other auction trades
pub otherwise-traded : (grid : List Price) (orders : List Order) (reference lo hi : ℕ) → IsAuction grid orders reference lo hi → is_calm grid orders ≡ false
    → above grid orders (price_at grid hi) ≤ sells grid orders (price_at grid hi) → below grid orders (price_at grid lo) ≤ buys grid orders (price_at grid lo)
    → is_traded grid orders (price_at grid reference) (price_at grid lo) (price_at grid hi) ≡ true
otherwise-traded grid orders reference lo hi a c x y = at (is_traded grid orders (price_at grid reference) (price_at grid lo) (price_at grid hi)) refl
  where
    at : (b : Bool) → is_traded grid orders (price_at grid reference) (price_at grid lo) (price_at grid hi) ≡ b → b ≡ true
    at true t = refl
    at false t = absurd (omega (arith, y, pressed-some grid orders reference lo hi a t c x))

-- so three tests tell whether it trades
pub trades_unless_pressed : TradesUnlessPressed
trades_unless_pressed grid orders reference lo hi a =
    at (is_calm grid orders) refl (nat_le (above grid orders (price_at grid hi)) (sells grid orders (price_at grid hi))) refl (nat_le (below grid orders (price_at grid lo)) (buys grid orders (price_at grid lo))) refl
  where
    at : (c : Bool) → is_calm grid orders ≡ c
        → (x : Bool) → nat_le (above grid orders (price_at grid hi)) (sells grid orders (price_at grid hi)) ≡ x
        → (y : Bool) → nat_le (below grid orders (price_at grid lo)) (buys grid orders (price_at grid lo)) ≡ y
        → is_traded grid orders (price_at grid reference) (price_at grid lo) (price_at grid hi) ≡ (not c && x && y)
    at true d x e y f = calm-not_traded grid orders (price_at grid reference) (price_at grid lo) (price_at grid hi) d
    at false d true e true f = otherwise-traded grid orders reference lo hi a d (leb-true _ _ e) (leb-true _ _ f)
    at false d true e false f = below-not_traded grid orders (price_at grid reference) (price_at grid lo) (price_at grid hi) (leb-false _ _ f)
    at false d false e y f = above-not_traded grid orders (price_at grid reference) (price_at grid lo) (price_at grid hi) (leb-false _ _ e)

-- ---- the answer where each test passes

-- where the chosen price lies in the window
pub attempt-traded : (grid : List Price) (orders : List Order) (r lo hi p : ℕ) → chosen grid orders r ≡ Some p → is_traded grid orders r lo hi ≡ true
    → attempt grid orders r lo hi ≡ traded_outcome grid orders p
unfolding attempt
attempt-traded grid orders r lo hi p e t =
    ap (λ o. option_map_or (traded_outcome grid orders) (within lo hi o) (not_traded grid orders lo hi)) e
    ∙ ap (λ b. option_map_or (traded_outcome grid orders) (cond b (Some p) None) (not_traded grid orders lo hi)) (sym (traded-at grid orders r lo hi (Some p) e) ∙ t)

-- where it does not
pub attempt-not_traded : (grid : List Price) (orders : List Order) (r lo hi : ℕ) → is_traded grid orders r lo hi ≡ false
    → attempt grid orders r lo hi ≡ not_traded grid orders lo hi
unfolding attempt
attempt-not_traded grid orders r lo hi f = at (chosen grid orders r) refl
  where
    at : (o : Option ℕ) → chosen grid orders r ≡ o → option_map_or (traded_outcome grid orders) (within lo hi o) (not_traded grid orders lo hi) ≡ not_traded grid orders lo hi
    at None e = refl
    at (Some p) e = ap (λ b. option_map_or (traded_outcome grid orders) (cond b (Some p) None) (not_traded grid orders lo hi)) (sym (traded-at grid orders r lo hi (Some p) e) ∙ f)

-- a calm book
pub attempt-calm : (grid : List Price) (orders : List Order) (r lo hi : ℕ) → is_calm grid orders ≡ true
    → attempt grid orders r lo hi ≡ Calm (best_bid grid orders) (best_ask grid orders)
attempt-calm grid orders r lo hi c =
    attempt-not_traded grid orders r lo hi (calm-not_traded grid orders r lo hi c)
    ∙ ap (λ b. cond b (Calm (best_bid grid orders) (best_ask grid orders)) (cond (nat_lt (sells grid orders hi) (above grid orders hi)) (pressed_buy grid orders hi) (pressed_sell grid orders lo))) c

-- where it is not calm, and more is bought above the upper end than is sold there
pub attempt-pressed_buy : (grid : List Price) (orders : List Order) (r lo hi : ℕ) → is_calm grid orders ≡ false → sells grid orders hi < above grid orders hi
    → attempt grid orders r lo hi ≡ pressed_buy grid orders hi
attempt-pressed_buy grid orders r lo hi c h =
    attempt-not_traded grid orders r lo hi (above-not_traded grid orders r lo hi h)
    ∙ ap (λ b. cond b (Calm (best_bid grid orders) (best_ask grid orders)) (cond (nat_lt (sells grid orders hi) (above grid orders hi)) (pressed_buy grid orders hi) (pressed_sell grid orders lo))) c
    ∙ ap (λ b. cond b (pressed_buy grid orders hi) (pressed_sell grid orders lo)) (lt-ltb _ _ h)

-- where it is not calm, and more is sold below the lower end than is bought there
pub attempt-pressed_sell : (grid : List Price) (orders : List Order) (r lo hi : ℕ) → lo ≤ hi → is_calm grid orders ≡ false → buys grid orders lo < below grid orders lo
    → attempt grid orders r lo hi ≡ pressed_sell grid orders lo
attempt-pressed_sell grid orders r lo hi window c h =
    attempt-not_traded grid orders r lo hi (below-not_traded grid orders r lo hi h)
    ∙ ap (λ b. cond b (Calm (best_bid grid orders) (best_ask grid orders)) (cond (nat_lt (sells grid orders hi) (above grid orders hi)) (pressed_buy grid orders hi) (pressed_sell grid orders lo))) c
    ∙ at (nat_lt (sells grid orders hi) (above grid orders hi)) refl
  where
    at : (b : Bool) → nat_lt (sells grid orders hi) (above grid orders hi) ≡ b → cond b (pressed_buy grid orders hi) (pressed_sell grid orders lo) ≡ pressed_sell grid orders lo
    at true t = absurd (pressed-one grid orders lo hi window (ltb-true _ _ t) h)
    at false t = refl

-- ---- the relation and the function

-- an outcome of the relation is the function's
pub outcome-is : (grid : List Price) (orders : List Order) (r lo hi : ℕ) (outcome : Outcome) → lo ≤ hi → IsAttempt grid orders r lo hi outcome → outcome ≡ attempt grid orders r lo hi
unfolding is_pressed_buy is_pressed_sell
outcome-is grid orders r lo hi (Traded volume sums) window h = let e = attempt-traded grid orders r lo hi sums.price.0 h.1 h.0 in cc
outcome-is grid orders r lo hi (Calm bid ask) window h = let e = attempt-calm grid orders r lo hi h.0 in cc
outcome-is grid orders r lo hi (Pressed Buy price pressing facing) window h =
    let tests = and-left (not (is_traded grid orders r lo hi) && not (is_calm grid orders)) _ h.0 in
    let c = not-true _ (and-right (not (is_traded grid orders r lo hi)) _ tests) in
    let more = ltb-true _ _ (and-right (not (is_traded grid orders r lo hi) && not (is_calm grid orders)) _ h.0) in
    let e = attempt-pressed_buy grid orders r lo hi c more in
    let p : price ≡ record { 0 = hi } = ap (λ n. record { 0 = n }) h.1 in
    cc
outcome-is grid orders r lo hi (Pressed Sell price pressing facing) window h =
    let tests = and-left (not (is_traded grid orders r lo hi) && not (is_calm grid orders)) _ h.0 in
    let c = not-true _ (and-right (not (is_traded grid orders r lo hi)) _ tests) in
    let more = ltb-true _ _ (and-right (not (is_traded grid orders r lo hi) && not (is_calm grid orders)) _ h.0) in
    let e = attempt-pressed_sell grid orders r lo hi window c more in
    let p : price ≡ record { 0 = lo } = ap (λ n. record { 0 = n }) h.1 in
    cc

-- the function's outcome is one of the relation
pub attempt-is : (grid : List Price) (orders : List Order) (reference lo hi : ℕ) → IsAuction grid orders reference lo hi
    → IsAttempt grid orders (price_at grid reference) (price_at grid lo) (price_at grid hi) (attempt grid orders (price_at grid reference) (price_at grid lo) (price_at grid hi))
attempt-is grid orders reference lo hi a = at (is_traded grid orders (price_at grid reference) (price_at grid lo) (price_at grid hi)) refl (is_calm grid orders) refl (nat_lt (sells grid orders (price_at grid hi)) (above grid orders (price_at grid hi))) refl
  where
    is : Outcome → Type 0
    is outcome = IsAttempt grid orders (price_at grid reference) (price_at grid lo) (price_at grid hi) outcome

    at : (t : Bool) → is_traded grid orders (price_at grid reference) (price_at grid lo) (price_at grid hi) ≡ t → (c : Bool) → is_calm grid orders ≡ c
        → (b : Bool) → nat_lt (sells grid orders (price_at grid hi)) (above grid orders (price_at grid hi)) ≡ b
        → is (attempt grid orders (price_at grid reference) (price_at grid lo) (price_at grid hi))
    at true t c d b e =
        let w = traded-chosen grid orders (price_at grid reference) (price_at grid lo) (price_at grid hi) t in
        subst is (sym (attempt-traded grid orders (price_at grid reference) (price_at grid lo) (price_at grid hi) w.0 w.1 t)) (t, w.1, refl, refl)
    at false t true d b e = subst is (sym (attempt-calm grid orders (price_at grid reference) (price_at grid lo) (price_at grid hi) d)) (d, refl, refl)
    at false t false d true e =
        subst is (sym (attempt-pressed_buy grid orders (price_at grid reference) (price_at grid lo) (price_at grid hi) d (ltb-true _ _ e)))
        (pressed_buy-holds grid orders (price_at grid reference) (price_at grid lo) (price_at grid hi) t d (ltb-true _ _ e), refl, refl, refl)
    at false t false d false e =
        let presses = pressed-some grid orders reference lo hi a t d (ltb-false _ _ e) in
        subst is (sym (attempt-pressed_sell grid orders (price_at grid reference) (price_at grid lo) (price_at grid hi) (price-le grid lo hi a.rising (omega (arith, a.from_lo, a.to_hi)) a.in_range) d presses))
        (pressed_sell-holds grid orders (price_at grid reference) (price_at grid lo) (price_at grid hi) t d presses, refl, refl, refl)

-- so the relation has one outcome, the function's
pub attempt_is_the_outcome : AttemptIsTheOutcome
attempt_is_the_outcome grid orders reference lo hi outcome a = (
  outcome-is grid orders (price_at grid reference) (price_at grid lo) (price_at grid hi) outcome (price-le grid lo hi a.rising (omega (arith, a.from_lo, a.to_hi)) a.in_range),
  λ e. subst (λ o. IsAttempt grid orders (price_at grid reference) (price_at grid lo) (price_at grid hi) o) (sym e) (attempt-is grid orders reference lo hi a),
)
