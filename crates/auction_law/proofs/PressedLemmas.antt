-- Lemmas on the pressed answers: one side presses, and not both, where nothing trades and the book is not calm.
use Rattle.std.proofs.Common.{◌≡◌, ℕ, zero, suc, ◌<◌, ◌≤◌, true, false, not, inl, inr, List, length, All, ap, arith, lt-ltb, eq-or-lt_of_le}
use Rattle.mkt_base.specs.declared.units.Price.{Price}
use Rattle.mkt_base.specs.declared.order.Order.{Order}
use Rattle.mkt_base.specs.declared.auction.Sums.{Sums}
use Rattle.mkt_base.specs.declared.auction.Outcome.TheVariants.{Pressed}
use Rattle.mkt_base.specs.declared.order.Side.TheVariants.{Buy, Sell}
use Rattle.mkt_base.specs.Book.{IsRising, IsOnGrid, price_at, buys, above, sells, below, sums_at}
use Rattle.auction_law.specs.Attempt.{meets, is_calm, is_traded, is_pressed_buy, is_pressed_sell, IsAttempt, IsAuction}
use Rattle.auction_law.proofs.NearnessLemmas.{lt_or_le, price-in}
use Rattle.auction_law.proofs.SumsLemmas.{above-le-buys, below-le-sells, buys-fall, sells-rise, above-le-next, below-le-previous, price-le}
use Rattle.auction_law.proofs.MeetsLemmas.{meets-holds}
use Rattle.auction_law.proofs.CalmBookLemmas.{and-true, not_calm-tells}
use Rattle.auction_law.proofs.TradedLemmas.{traded-from_meets}

-- Where what is better never exceeds what passes at the next step, and the upper and the lower end each have one of two bounds,
-- some step between them has both.
pub balance : (better_buys buys better_sells sells : ℕ → ℕ) (n : ℕ)
    → ((i : ℕ) → suc i < n → better_buys i ≤ buys (suc i)) → ((i : ℕ) → suc i < n → better_sells (suc i) ≤ sells i)
    → ((i : ℕ) → better_sells i ≤ sells i)
    → (lo hi : ℕ) → lo ≤ hi → hi < n → better_buys hi ≤ sells hi → better_sells lo ≤ buys lo
    → (i : ℕ) × (lo ≤ i) × (i ≤ hi) × (better_buys i ≤ sells i) × (better_sells i ≤ buys i)
balance a b l s n up down within lo zero h m x y = let e : lo ≡ 0 = omega arith in (0, h, omega arith, x, rw e at y)
balance a b l s n up down within lo (suc hi) h m x y = elim (lt_or_le (b (suc hi)) (l (suc hi))) [
  | inr ok ↦ (suc hi, h, omega arith, x, ok)
  | inl bad ↦ elim (eq-or-lt_of_le h) [
    | inl e ↦ let z = rw e at y in absurd (omega arith)
    | inr k ↦
        let w = balance a b l s n up down within lo hi (omega arith) (omega arith) (omega (arith, up hi m, down hi m)) y in
        (w.0, w.1, omega (arith, w.2), w.3, w.4)
  ]
]

-- the window has a price that meets the conditions, where neither side presses at its end of the window
pub some_meets : (grid : List Price) (orders : List Order) (lo hi : ℕ) → IsRising grid → All (λ o. IsOnGrid grid o.spot) orders → All (λ o. 0 < o.left) orders
    → lo ≤ hi → hi < length grid → is_calm grid orders ≡ false
    → above grid orders (price_at grid hi) ≤ sells grid orders (price_at grid hi) → below grid orders (price_at grid lo) ≤ buys grid orders (price_at grid lo)
    → (i : ℕ) × (lo ≤ i) × (i ≤ hi) × (meets grid orders (price_at grid i) ≡ true)
some_meets grid orders lo hi rising on left window m f x y =
    let w = balance (λ i. above grid orders (price_at grid i)) (λ i. buys grid orders (price_at grid i)) (λ i. below grid orders (price_at grid i)) (λ i. sells grid orders (price_at grid i)) (length grid)
    (λ i l. above-le-next grid orders i (suc i) (omega arith) rising on l)
    (λ i l. below-le-previous grid orders i (suc i) (omega arith) rising on l)
    (λ i. below-le-sells grid orders (price_at grid i))
    lo hi window m x y in
    let p : ℕ = price_at grid w.0 in
    let ab : above grid orders p ≤ buys grid orders p = above-le-buys grid orders p in
    let bs : below grid orders p ≤ sells grid orders p = below-le-sells grid orders p in
    let sa : above grid orders p ≤ sells grid orders p = w.3 in
    let bb : below grid orders p ≤ buys grid orders p = w.4 in
    let both : (1 ≤ buys grid orders p) × (1 ≤ sells grid orders p) = elim (not_calm-tells grid orders p left f) [
      | inl h ↦ h
      | inr h ↦ elim h [ inl k ↦ (omega arith, omega arith) | inr k ↦ (omega arith, omega arith) ]
    ] in
    (w.0, w.1, w.2, meets-holds grid orders p both.0 both.1 sa bb)

-- the two sides do not both press
pub pressed-one : (grid : List Price) (orders : List Order) (lo hi : ℕ) → lo ≤ hi → sells grid orders hi < above grid orders hi → buys grid orders lo < below grid orders lo → ⊥
pressed-one grid orders lo hi h x y = omega (arith, above-le-buys grid orders hi, below-le-sells grid orders lo, buys-fall grid orders lo hi h, sells-rise grid orders lo hi h)

-- one of them does where nothing trades and it is not calm
pub pressed-some : (grid : List Price) (orders : List Order) (reference lo hi : ℕ) → IsAuction grid orders reference lo hi
    → is_traded grid orders (price_at grid reference) (price_at grid lo) (price_at grid hi) ≡ false → is_calm grid orders ≡ false
    → above grid orders (price_at grid hi) ≤ sells grid orders (price_at grid hi) → buys grid orders (price_at grid lo) < below grid orders (price_at grid lo)
pressed-some grid orders reference lo hi a f c x = elim (lt_or_le (buys grid orders (price_at grid lo)) (below grid orders (price_at grid lo))) [
  | inl h ↦ h
  | inr h ↦
      let w = some_meets grid orders lo hi a.rising a.on_grid a.left (omega (arith, a.from_lo, a.to_hi)) a.in_range c x h in
      absurd (traded-from_meets grid orders (price_at grid reference) (price_at grid lo) (price_at grid hi) (price_at grid w.0)
      (price-le grid lo reference a.rising a.from_lo (omega (arith, a.to_hi, a.in_range)))
      (price-le grid reference hi a.rising a.to_hi a.in_range)
      (price-le grid lo w.0 a.rising w.1 (omega (arith, w.2, a.in_range)))
      (price-le grid w.0 hi a.rising w.2 a.in_range)
      (price-in grid reference (omega (arith, a.to_hi, a.in_range)))
      (price-in grid w.0 (omega (arith, w.2, a.in_range)))
      w.3 f)
]

pub pressed_buy-holds : (grid : List Price) (orders : List Order) (r lo hi : ℕ) → is_traded grid orders r lo hi ≡ false → is_calm grid orders ≡ false
    → sells grid orders hi < above grid orders hi → is_pressed_buy grid orders r lo hi ≡ true
unfolding is_pressed_buy
pressed_buy-holds grid orders r lo hi t c h = and-true _ _ (and-true _ _ (ap not t) (ap not c)) (lt-ltb _ _ h)

pub pressed_sell-holds : (grid : List Price) (orders : List Order) (r lo hi : ℕ) → is_traded grid orders r lo hi ≡ false → is_calm grid orders ≡ false
    → buys grid orders lo < below grid orders lo → is_pressed_sell grid orders r lo hi ≡ true
unfolding is_pressed_sell
pressed_sell-holds grid orders r lo hi t c h = and-true _ _ (and-true _ _ (ap not t) (ap not c)) (lt-ltb _ _ h)

-- the answers with the numbers that show them
pub pressed_buy-answer : (grid : List Price) (orders : List Order) (r lo hi : ℕ) (s : Sums) → s ≡ sums_at grid orders hi → is_calm grid orders ≡ false → s.sells < s.above
    → is_traded grid orders r lo hi ≡ false → IsAttempt grid orders r lo hi (Pressed Buy s.price s.above s.sells)
pressed_buy-answer grid orders r lo hi s e c h t =
    let sold : s.sells ≡ sells grid orders hi = ap (λ s. s.sells) e in
    let over : s.above ≡ above grid orders hi = ap (λ s. s.above) e in
    (pressed_buy-holds grid orders r lo hi t c (omega arith), ap (λ s. s.price.0) e, over, sold)

pub pressed_sell-answer : (grid : List Price) (orders : List Order) (reference lo hi : ℕ) (high low : Sums) → high ≡ sums_at grid orders (price_at grid hi) → low ≡ sums_at grid orders (price_at grid lo)
    → is_calm grid orders ≡ false → high.above ≤ high.sells → IsAuction grid orders reference lo hi
    → is_traded grid orders (price_at grid reference) (price_at grid lo) (price_at grid hi) ≡ false
    → IsAttempt grid orders (price_at grid reference) (price_at grid lo) (price_at grid hi) (Pressed Sell low.price low.below low.buys)
pressed_sell-answer grid orders reference lo hi high low eh el c h a t =
    let sold : high.sells ≡ sells grid orders (price_at grid hi) = ap (λ s. s.sells) eh in
    let over : high.above ≡ above grid orders (price_at grid hi) = ap (λ s. s.above) eh in (
      pressed_sell-holds grid orders (price_at grid reference) (price_at grid lo) (price_at grid hi) t c (pressed-some grid orders reference lo hi a t c (omega arith)),
      ap (λ s. s.price.0) el,
      ap (λ s. s.below) el,
      ap (λ s. s.buys) el,
    )
