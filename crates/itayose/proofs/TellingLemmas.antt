-- What a watch is told of the nearer prices, as a walk takes them one by one.
use Rattle.std.proofs.Common.{◌≡◌, ℕ, nat_le, ◌<◌, ◌&&◌, Bool, length, min, Option, true, false, not, List, [], ◌∷◌, ◌++◌, map, refl, sym, ap, subst, ◌∙◌, append_assoc, append-nil}
use Rattle.std.proofs.lemmas.List.{map-append}
use Rattle.std.specs.Prelude.{take_while, find, Some}
use Rattle.std.proofs.lemmas.List.Sums.{take_while-cons}
use Rattle.mkt_base.specs.Book.{price_at, sums_at}
use Rattle.mkt_base.specs.declared.auction.Outcome.TheVariants as outcomes
use Rattle.mkt_base.specs.declared.auction.Sums.{Sums}
use Rattle.mkt_base.specs.declared.order.Order.{Order}
use Rattle.mkt_base.specs.declared.output.Output.{Output}
use Rattle.mkt_base.specs.declared.auction.Outcome.{Outcome}
use Rattle.mkt_base.specs.declared.order.Side.TheVariants.{Buy, Sell}
use Rattle.mkt_base.specs.declared.output.Output.TheVariants.{Answer, Auction, Rejected}
use Rattle.mkt_base.specs.declared.units.Price.{Price}
use Rattle.auction_law.specs.Attempt.{certificate_of, chosen, meets, nearer_prices, traded_outcome}
use Rattle.auction_law.proofs.ChoiceLemmas.{meets-of_sums}
use Rattle.auction_law.specs.Nearness.{by_nearness, prices_of}
use Rattle.itayose.specs.Answer.{auction_outputs, certificate_outputs, outcome_of, rejected_for}
use Rattle.itayose.specs.Walk.{Outward}
use Rattle.itayose.specs.declared.positions.Attempt.{Attempt}
use Rattle.itayose.specs.declared.positions.Attempt.TheVariants.{Calm, Pressed, Traded}

-- the prices as a watch is told them
abbrev pub told_of : List Price → List Order → List ℕ → List Output
told_of grid os ps = map (λ s. Rejected s) (map (sums_at grid os) ps)

-- a watch was told the nearer prices up to those that are left
pub record IsTold {W : Type 0} (took : W → List Output → W → Type 0) (grid : List Price) (os : List Order) (reference : ℕ) (rest : Outward) (from to : W) : Type 0 where
  pub grid_is : rest.grid ≡ grid
  pub orders_are : rest.orders ≡ os
  pub seen : List ℕ
  pub nearer : nearer_prices grid os reference ≡ seen ++ take_while (λ p. not (meets grid os p)) rest.left
  pub told : (start : W) (outputs : List Output) → took start outputs from → took start (outputs ++ told_of grid os seen) to

module _ (grid : List Price) (os : List Order) (r : ℕ) (left : List ℕ) (starts : by_nearness r (prices_of grid) ≡ r ∷ left) where
  -- where the reference meets the conditions it is chosen, and no price is nearer
  pub none-nearer : meets grid os r ≡ true → nearer_prices grid os r ≡ []
  unfolding nearer_prices
  none-nearer m = ap (take_while (λ p. not (meets grid os p))) starts ∙ take_while-cons (λ p. not (meets grid os p)) r left ∙ rw m refl

  -- and it is chosen
  pub reference-chosen : meets grid os r ≡ true → chosen grid os r ≡ Some r
  unfolding chosen
  reference-chosen m = rw (starts, m) refl

  -- where it does not, it is the first of those that are nearer
  pub reference-nearer : meets grid os r ≡ false → nearer_prices grid os r ≡ r ∷ take_while (λ p. not (meets grid os p)) left
  unfolding nearer_prices
  reference-nearer m = ap (take_while (λ p. not (meets grid os p))) starts ∙ take_while-cons (λ p. not (meets grid os p)) r left ∙ rw m refl

  -- and the chosen price is the first of the others that meets them
  pub chosen-behind : meets grid os r ≡ false → chosen grid os r ≡ find (meets grid os) left
  unfolding chosen
  chosen-behind m = rw (starts, m) refl

-- the next position of a walk over this grid and these orders
pub record IsNextOf (grid : List Price) (os : List Order) (i : ℕ) (s : Sums) (left rest : List ℕ) : Type 0 where
  pub inside : i < length grid
  pub sums : s ≡ sums_at grid os (price_at grid i)
  pub first : left ≡ price_at grid i ∷ rest

-- as a walk over them says it
pub next_of : (grid : List Price) (os : List Order) (v : Outward) (i : ℕ) (s : Sums) (rest : List ℕ) → v.grid ≡ grid → v.orders ≡ os
    → (i < length v.grid) × (s ≡ sums_at v.grid v.orders (price_at v.grid i)) × (v.left ≡ price_at v.grid i ∷ rest)
    → IsNextOf grid os i s v.left rest
next_of grid os v i s rest g o h =
    subst (λ gr. IsNextOf gr os i s v.left rest) g (subst (λ ors. IsNextOf v.grid ors i s v.left rest) o (record { inside = h.0; sums = h.1; first = h.2 }))

-- what its sums say of the conditions
pub meets-next : (grid : List Price) (os : List Order) (i : ℕ) (s : Sums) (left rest : List ℕ) → IsNextOf grid os i s left rest → (b : Bool)
    → b ≡ (nat_le 1 (min s.buys s.sells) && nat_le s.above (min s.buys s.sells) && nat_le s.below (min s.buys s.sells)) → meets grid os (price_at grid i) ≡ b
meets-next grid os i s left rest n b e = sym (e ∙ meets-of_sums grid os (price_at grid i) s n.sums)

-- it is rejected, or the walk ends with it
pub rejected-next : (grid : List Price) (os : List Order) (p : ℕ) (left rest : List ℕ) → left ≡ p ∷ rest → meets grid os p ≡ false
    → take_while (λ q. not (meets grid os q)) left ≡ p ∷ take_while (λ q. not (meets grid os q)) rest
rejected-next grid os p left rest e m = ap (take_while (λ q. not (meets grid os q))) e ∙ take_while-cons (λ q. not (meets grid os q)) p rest ∙ rw m refl

-- where it meets them no price more is nearer
pub stopped-next : (grid : List Price) (os : List Order) (p : ℕ) (left rest : List ℕ) → left ≡ p ∷ rest → meets grid os p ≡ true
    → take_while (λ q. not (meets grid os q)) left ≡ []
stopped-next grid os p left rest e m = ap (take_while (λ q. not (meets grid os q))) e ∙ take_while-cons (λ q. not (meets grid os q)) p rest ∙ rw m refl

-- it is the chosen one
pub found-next : (grid : List Price) (os : List Order) (p : ℕ) (left rest : List ℕ) → left ≡ p ∷ rest → meets grid os p ≡ true
    → find (meets grid os) left ≡ Some p
found-next grid os p left rest e m = rw (e, m) refl

-- where it fails them the chosen one stands behind it
pub passed-next : (grid : List Price) (os : List Order) (p : ℕ) (left rest : List ℕ) → left ≡ p ∷ rest → meets grid os p ≡ false
    → find (meets grid os) left ≡ find (meets grid os) rest
passed-next grid os p left rest e m = rw (e, m) refl

-- the answer at the chosen price
pub traded-answer : (grid : List Price) (os : List Order) (at p : ℕ) (s : Sums) (found : Option ℕ) → s ≡ sums_at grid os (price_at grid at)
    → found ≡ Some (price_at grid at) → found ≡ Some p → (lo hi : ℕ) → outcome_of grid os lo hi (Traded at (min s.buys s.sells)) ≡ traded_outcome grid os p
traded-answer grid os at p s found e f h lo hi =
    let q : price_at grid at ≡ p = cc in
    ap (λ t. outcomes.Traded (min t.buys t.sells) (sums_at grid os (price_at grid at))) e ∙ ap (traded_outcome grid os) q

module _ {W : Type 0} (took : W → List Output → W → Type 0) (grid : List Price) (os : List Order) where
  -- where no price is nearer nothing is to be told
  pub told-none : (nearer : List ℕ) (w : W) → nearer ≡ [] → (start : W) (outputs : List Output) → took start outputs w → took start (outputs ++ told_of grid os nearer) w
  told-none nearer w e start outputs t = rw (e, append-nil) t

  -- the first rejected price, and one more
  pub told-first : (p : ℕ) (s : Sums) (from to : W) → s ≡ sums_at grid os p
      → ((start : W) (outputs : List Output) → took start outputs from → took start (outputs ++ Rejected s ∷ []) to)
      → (start : W) (outputs : List Output) → took start outputs from → took start (outputs ++ told_of grid os (p ∷ [])) to
  told-first p s from to e t start outputs h = subst (λ x. took start (outputs ++ Rejected x ∷ []) to) e (t start outputs h)

  -- one rejected price more
  pub told-more : (seen : List ℕ) (p : ℕ) (s : Sums) (from middle to : W) → s ≡ sums_at grid os p
      → ((start : W) (outputs : List Output) → took start outputs from → took start (outputs ++ told_of grid os seen) middle)
      → ((start : W) (outputs : List Output) → took start outputs middle → took start (outputs ++ Rejected s ∷ []) to)
      → (start : W) (outputs : List Output) → took start outputs from → took start (outputs ++ told_of grid os (seen ++ p ∷ [])) to
  told-more seen p s from middle to e before last start outputs h =
      let one : took start ((outputs ++ told_of grid os seen) ++ told_of grid os (p ∷ [])) to = told-first p s middle to e last start (outputs ++ told_of grid os seen) (before start outputs h) in
      let same : told_of grid os (seen ++ p ∷ []) ≡ told_of grid os seen ++ told_of grid os (p ∷ []) = simp map-append in
      subst (λ xs. took start xs to) (append_assoc outputs (told_of grid os seen) (told_of grid os (p ∷ [])) ∙ ap (λ xs. outputs ++ xs) (sym same)) one

  -- where the walk ends all was told
  pub told-all : (r : ℕ) (rest : Outward) (from to : W) → (t : IsTold took grid os r rest from to) → take_while (λ q. not (meets grid os q)) rest.left ≡ []
      → (start : W) (outputs : List Output) → took start outputs from → took start (outputs ++ told_of grid os (nearer_prices grid os r)) to
  told-all r rest from to t e start outputs h = rw (t.nearer, e, append-nil) (t.told start outputs h)

  -- the certificate of an answer
  certificate-told : (r lo hi : ℕ) (answer : Attempt) → certificate_outputs (certificate_of grid os r (outcome_of grid os lo hi answer)) ≡ map (λ s. Rejected s) (rejected_for grid os r answer) ++ Answer (outcome_of grid os lo hi answer) ∷ []
  certificate-told r lo hi (Traded at volume) = refl
  certificate-told r lo hi (Calm bid ask) = refl
  certificate-told r lo hi (Pressed Buy) = refl
  certificate-told r lo hi (Pressed Sell) = refl

  -- an auction, the prices that it rejects and its outcome, one after another
  pub told-auction : (r lo hi : Price) (i j : ℕ) (answer : Attempt) (outcome : Outcome) (from one two to : W) → outcome ≡ outcome_of grid os i j answer
      → ((start : W) (outputs : List Output) → took start outputs from → took start (outputs ++ Auction r lo hi ∷ []) one)
      → ((start : W) (outputs : List Output) → took start outputs one → took start (outputs ++ map (λ s. Rejected s) (rejected_for grid os r.0 answer)) two)
      → ((start : W) (outputs : List Output) → took start outputs two → took start (outputs ++ Answer outcome ∷ []) to)
      → (start : W) (outputs : List Output) → took start outputs from → took start (outputs ++ auction_outputs grid os r.0 lo.0 hi.0 outcome) to
  told-auction r lo hi i j answer outcome from one two to e first second third start outputs h =
      let all = third start ((outputs ++ Auction r lo hi ∷ []) ++ map (λ s. Rejected s) (rejected_for grid os r.0 answer)) (second start (outputs ++ Auction r lo hi ∷ []) (first start outputs h)) in
      let told : certificate_outputs (certificate_of grid os r.0 outcome) ≡ map (λ s. Rejected s) (rejected_for grid os r.0 answer) ++ Answer outcome ∷ [] =
      ap (λ o. certificate_outputs (certificate_of grid os r.0 o)) e ∙ certificate-told r.0 i j answer ∙ ap (λ o. map (λ s. Rejected s) (rejected_for grid os r.0 answer) ++ Answer o ∷ []) (sym e) in
      subst (λ xs. took start xs to)
      (append_assoc (outputs ++ Auction r lo hi ∷ []) (map (λ s. Rejected s) (rejected_for grid os r.0 answer)) (Answer outcome ∷ [])
      ∙ append_assoc outputs (Auction r lo hi ∷ []) (map (λ s. Rejected s) (rejected_for grid os r.0 answer) ++ Answer outcome ∷ [])
      ∙ ap (λ xs. outputs ++ Auction r lo hi ∷ xs) (sym told)) all
