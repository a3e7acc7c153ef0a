-- The daily limits, the orders of a side, and what presses at a close.
use Rattle.std.proofs.Common.{◌≡◌, ℕ, ◌+◌, ◌≤◌, Bool, true, false, cond, ltb, not, ◌&&◌, IsTrue, List, [], ◌∷◌, Option, Some, None, refl, sym, ap, subst, ◌∙◌, arith}
use Rattle.std.specs.List.{list_any, slice_get, sum_by}
use Rattle.std.specs.Option.{is_some}
use Rattle.std.proofs.lemmas.Bool.{and_parts, ltb-true, lt-ltb}
use Rattle.std.proofs.lemmas.List.Sums.{sum_by-cons}
use Rattle.mkt_base.specs.Book.{above, below, buys, price_at, sells}
use Rattle.mkt_base.specs.Priority.{is_same_side}
use Rattle.mkt_base.specs.declared.auction.Outcome.TheVariants as outcomes
use Rattle.mkt_base.specs.declared.order.Order.{Order}
use Rattle.mkt_base.specs.declared.order.Side.{Side}
use Rattle.mkt_base.specs.declared.order.Side.TheVariants.{Buy, Sell}
use Rattle.mkt_base.specs.declared.units.Price.{Price}
use Rattle.auction_law.specs.Attempt.{IsAttempt, IsAuction, attempt, is_calm, is_pressed_buy, is_pressed_sell, is_traded}
use Rattle.auction_law.proofs.AttemptLemmas.{attempt-is}
use Rattle.auction_law.proofs.SumsLemmas.{above-le-buys, below-le-sells}
use Rattle.book_law.specs.BookView.{BookView, NamesFirst, orders, side_of}
use Rattle.book_law.specs.Laws.{IsBookOn, SidesAddUp}
use Rattle.itayose.specs.Fills.{is_longer, limit_position}
use Rattle.quote_law.specs.Quotes.{daily_limit}

-- the daily limit is the price of its position
pub limit-price : (grid : List Price) (side : Side) → price_at grid (limit_position grid side) ≡ daily_limit grid side
limit-price grid Buy = refl
limit-price grid Sell = refl

module _ (side : Side) where
  -- one for each order of the side
  abbrev one : Order → ℕ
  one o = cond (is_same_side side o.side) 1 0

  none-any : (os : List Order) → sum_by one os ≡ 0 → list_any (λ o. is_same_side side o.side) os ≡ false
  none-any [] e = refl
  none-any (o ∷ os) e = step (is_same_side side o.side) refl (sum_by-cons one o os) (none-any os)
    where
      step : (b : Bool) → is_same_side side o.side ≡ b → sum_by one (o ∷ os) ≡ one o + sum_by one os → (sum_by one os ≡ 0 → list_any (λ x. is_same_side side x.side) os ≡ false)
          → list_any (λ x. is_same_side side x.side) (o ∷ os) ≡ false
      step true f sum rest = let here : one o ≡ 1 = ap (λ b. cond {A = ℕ} b 1 0) f in absurd (omega (arith, e, sum, here))
      step false f sum rest = let here : one o ≡ 0 = ap (λ b. cond {A = ℕ} b 1 0) f in rw f (rest (omega (arith, e, sum, here)))

  some-any : (os : List Order) → 1 ≤ sum_by one os → list_any (λ o. is_same_side side o.side) os ≡ true
  some-any [] e = absurd (omega (arith, e))
  some-any (o ∷ os) e = step (is_same_side side o.side) refl (sum_by-cons one o os) (some-any os)
    where
      step : (b : Bool) → is_same_side side o.side ≡ b → sum_by one (o ∷ os) ≡ one o + sum_by one os → (1 ≤ sum_by one os → list_any (λ x. is_same_side side x.side) os ≡ true)
          → list_any (λ x. is_same_side side x.side) (o ∷ os) ≡ true
      step true f sum rest = rw f refl
      step false f sum rest = let here : one o ≡ 0 = ap (λ b. cond {A = ℕ} b 1 0) f in rw f (rest (omega (arith, e, sum, here)))

  first-some : (xs : List Order) (x : Order) → slice_get xs 0 ≡ Some x → 1 ≤ sum_by (λ o. 1) xs
  first-some [] x e = absurd (cc)
  first-some (y ∷ ys) x e = let sum = sum_by-cons (λ (o : Order). 1) y ys in omega (arith, sum)

  -- a side has a best order where some order is of the side
  pub any-best : (b : BookView) (found : Option ℕ) → IsBookOn b.prices (orders b) → SidesAddUp → NamesFirst b (side_of b side) found
      → is_some found ≡ list_any (λ o. is_same_side side o.side) (orders b)
  any-best b None on law names =
      let sums = law (λ o. 1) b.prices side (orders b) on in
      let none : sum_by (λ o. 1) (side_of b side) ≡ 0 = ap (sum_by (λ (o : Order). 1)) names in
      sym (none-any (orders b) (sym sums ∙ none))
  any-best b (Some h) on law names =
      let sums = law (λ o. 1) b.prices side (orders b) on in
      sym (some-any (orders b) (subst (λ n. 1 ≤ n) sums (first-some (side_of b side) names.0 names.2)))

-- a side that presses has more at its end of the window than the other side
module _ (grid : List Price) (os : List Order) (reference lo hi : ℕ) (auction : IsAuction grid os reference lo hi) where
  pub buy-longer : (price : Price) (pressing facing : ℕ) → attempt grid os (price_at grid reference) (price_at grid lo) (price_at grid hi) ≡ outcomes.Pressed Buy price pressing facing
      → IsTrue (is_longer grid os (price_at grid hi) Buy)
  unfolding is_pressed_buy
  buy-longer price pressing facing e =
      let is = subst (IsAttempt grid os (price_at grid reference) (price_at grid lo) (price_at grid hi)) e (attempt-is grid os reference lo hi auction) in
      let more = ltb-true _ _ (and_parts (not (is_traded grid os (price_at grid reference) (price_at grid lo) (price_at grid hi)) && not (is_calm grid os)) (ltb (sells grid os (price_at grid hi)) (above grid os (price_at grid hi))) is.0).1 in
      lt-ltb (sells grid os (price_at grid hi)) (buys grid os (price_at grid hi)) (omega (arith, more, above-le-buys grid os (price_at grid hi)))

  pub sell-longer : (price : Price) (pressing facing : ℕ) → attempt grid os (price_at grid reference) (price_at grid lo) (price_at grid hi) ≡ outcomes.Pressed Sell price pressing facing
      → IsTrue (is_longer grid os (price_at grid lo) Sell)
  unfolding is_pressed_sell
  sell-longer price pressing facing e =
      let is = subst (IsAttempt grid os (price_at grid reference) (price_at grid lo) (price_at grid hi)) e (attempt-is grid os reference lo hi auction) in
      let more = ltb-true _ _ (and_parts (not (is_traded grid os (price_at grid reference) (price_at grid lo) (price_at grid hi)) && not (is_calm grid os)) (ltb (buys grid os (price_at grid lo)) (below grid os (price_at grid lo))) is.0).1 in
      lt-ltb (buys grid os (price_at grid lo)) (sells grid os (price_at grid lo)) (omega (arith, more, below-le-sells grid os (price_at grid lo)))
