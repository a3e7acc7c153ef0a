-- What the orders of a level have left, by the slot of the level.
use Rattle.std.proofs.Common.{◌≡◌, ◌≢◌, ℕ, zero, suc, ◌<◌, Bool, true, false, cond, List, [], ◌∷◌, length, get_or, Option, Some, None, ◌≤◌, sum_by, refl, sym, ap, ◌∙◌, arith, eq-eqb}
use Rattle.std.proofs.lemmas.Bool.{eqb-true}
use Rattle.std.proofs.lemmas.List.{get_or_past}
use Rattle.std.proofs.lemmas.List.Sums.{sum_by-cons}
use Rattle.mkt_base.specs.Book.{total_left}
use Rattle.mkt_base.specs.Priority.{is_on_level}
use Rattle.mkt_base.specs.declared.order.Order.{Order}
use Rattle.mkt_base.specs.declared.order.Side.{Side}
use Rattle.mkt_base.specs.declared.order.Side.TheVariants.{Buy, Sell}
use Rattle.mkt_base.specs.declared.order.Spot.{Spot}
use Rattle.mkt_base.specs.declared.order.Spot.TheVariants.{Market, At}
use Rattle.auction_file.specs.LevelList.{IsSlotted, level_of}

-- none passes
total-none : (p : Order → Bool) (orders : List Order) → ((j : ℕ) (x : Order) → j < length orders → p (get_or orders j x) ≡ false) → total_left p orders ≡ 0
unfolding total_left
total-none p [] h = refl
total-none p (o ∷ os) h =
    let first : cond (p o) o.left 0 ≡ 0 = ap (λ b. cond b o.left 0) (h 0 o (omega arith)) in
    let rest : sum_by (λ o. cond (p o) o.left 0) os ≡ 0 = total-none p os (λ j x l. h (suc j) x (omega arith)) in
    simp sum_by-cons (omega arith)

-- one passes
total-one : (p : Order → Bool) (orders : List Order) (i : ℕ) (d : Order) → i < length orders → p (get_or orders i d) ≡ true
    → ((j : ℕ) (x : Order) → j < length orders → j ≢ i → p (get_or orders j x) ≡ false) → total_left p orders ≡ (get_or orders i d).left
unfolding total_left
total-one p [] i d inside passes others = absurd (omega arith)
total-one p (o ∷ os) zero d inside passes others =
    let first : cond (p o) o.left 0 ≡ o.left = ap (λ b. cond b o.left 0) passes in
    let rest : sum_by (λ o. cond (p o) o.left 0) os ≡ 0 = total-none p os (λ j x l. others (suc j) x (omega arith) (λ e. omega (arith, e))) in
    simp sum_by-cons (omega arith)
total-one p (o ∷ os) (suc i) d inside passes others =
    let first : cond (p o) o.left 0 ≡ 0 = ap (λ b. cond b o.left 0) (others 0 o (omega arith) (λ e. omega (arith, e))) in
    let rest : sum_by (λ o. cond (p o) o.left 0) os ≡ (get_or os i d).left = total-one p os i d (omega arith) passes (λ j x l ne. others (suc j) x (omega arith) (λ e. ne (omega (arith, e)))) in
    simp sum_by-cons (omega arith)

-- an order on a level has its number, and one with its number stands on it
same-number : (side : Side) (spot : Spot) (a : Side) (p : Spot) (o : Order) → is_on_level side spot (record o { side = a; spot = p }) ≡ true → level_of a p ≡ level_of side spot
same-number Buy Market Buy Market o e = refl
same-number Buy Market Buy (At j) o e = absurd (cc)
same-number Buy (At i) Buy Market o e = absurd (cc)
same-number Buy (At i) Buy (At j) o e = omega (arith, eqb-true i j e)
same-number Buy spot Sell p o e = absurd (cc)
same-number Sell spot Buy p o e = absurd (cc)
same-number Sell Market Sell Market o e = refl
same-number Sell Market Sell (At j) o e = absurd (cc)
same-number Sell (At i) Sell Market o e = absurd (cc)
same-number Sell (At i) Sell (At j) o e = omega (arith, eqb-true i j e)

stands-there : (side : Side) (spot : Spot) (a : Side) (p : Spot) (o : Order) → level_of a p ≡ level_of side spot → is_on_level side spot (record o { side = a; spot = p }) ≡ true
stands-there Buy Market Buy Market o e = refl
stands-there Buy Market Buy (At j) o e = absurd (omega (arith, e))
stands-there Buy (At i) Buy Market o e = absurd (omega (arith, e))
stands-there Buy (At i) Buy (At j) o e = eq-eqb i j (omega (arith, e))
stands-there Buy Market Sell Market o e = absurd (omega (arith, e))
stands-there Buy Market Sell (At j) o e = absurd (omega (arith, e))
stands-there Buy (At i) Sell Market o e = absurd (omega (arith, e))
stands-there Buy (At i) Sell (At j) o e = absurd (omega (arith, e))
stands-there Sell Market Buy Market o e = absurd (omega (arith, e))
stands-there Sell Market Buy (At j) o e = absurd (omega (arith, e))
stands-there Sell (At i) Buy Market o e = absurd (omega (arith, e))
stands-there Sell (At i) Buy (At j) o e = absurd (omega (arith, e))
stands-there Sell Market Sell Market o e = refl
stands-there Sell Market Sell (At j) o e = absurd (omega (arith, e))
stands-there Sell (At i) Sell Market o e = absurd (omega (arith, e))
stands-there Sell (At i) Sell (At j) o e = eq-eqb i j (omega (arith, e))

module _ (count : ℕ) (orders : List Order) (slots : List (Option ℕ)) (is : IsSlotted count orders slots) (side : Side) (spot : Spot) (level : ℕ) (named : level ≡ level_of side spot) where
  -- where an order of the level stands the level's slot says
  slot-of : (j : ℕ) (x : Order) (d : Option ℕ) → j < length orders → is_on_level side spot (get_or orders j x) ≡ true → get_or slots level d ≡ Some j
  slot-of j x d inside e =
      let o = get_or orders j x in
      let number : level_of o.side o.spot ≡ level = same-number side spot o.side o.spot o e ∙ sym named in
      ap (λ l. get_or slots l d) (sym number) ∙ is.listed j x d inside

  -- a slot that names no order
  pub none-left : (d : Option ℕ) → ((j : ℕ) → get_or slots level d ≡ Some j → ⊥) → total_left (is_on_level side spot) orders ≡ 0
  none-left d free = total-none (is_on_level side spot) orders (λ j x l. at j x l (is_on_level side spot (get_or orders j x)) refl)
    where
      at : (j : ℕ) (x : Order) → j < length orders → (t : Bool) → is_on_level side spot (get_or orders j x) ≡ t → is_on_level side spot (get_or orders j x) ≡ false
      at j x l true f = absurd (free j (slot-of j x d l f))
      at j x l false f = f

  -- no slot
  pub past-left : length slots ≤ level → total_left (is_on_level side spot) orders ≡ 0
  past-left past = none-left None (λ j e. let none = get_or_past slots level None past in absurd (cc))

  -- a slot that names one
  pub named-left : (i : ℕ) (d : Option ℕ) (x : Order) → level < length slots → get_or slots level d ≡ Some i → total_left (is_on_level side spot) orders ≡ (get_or orders i x).left
  named-left i d x inside e =
      let at = is.named level i d inside e in
      let o = get_or orders i x in
      total-one (is_on_level side spot) orders i x at.inside (stands-there side spot o.side o.spot o (at.of_level x ∙ named))
      (λ j y l ne. others j y l ne (is_on_level side spot (get_or orders j y)) refl)
    where
      others : (j : ℕ) (y : Order) → j < length orders → j ≢ i → (t : Bool) → is_on_level side spot (get_or orders j y) ≡ t → is_on_level side spot (get_or orders j y) ≡ false
      others j y l ne true f = let same = slot-of j y d l f in let equal : j ≡ i = cc in absurd (ne equal)
      others j y l ne false f = f
