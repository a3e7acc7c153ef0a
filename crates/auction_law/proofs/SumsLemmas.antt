-- Lemmas on the four sums at a price.
use Rattle.std.proofs.Common.{◌≡◌, ℕ, ◌+◌, ◌<◌, ◌≤◌, Bool, true, false, cond, not, ltb, leb, ◌&&◌, inl, inr, List, [], ◌∷◌, ◌^◌, take, take_all, length, get_or, Option, Some, None, All, Contains, sum_by, refl, ap, ◌∙◌, arith, le-leb, ltb-true, eq-or-lt_of_le}
use Rattle.std.proofs.lemmas.List.Elements.{All-head, All-tail}
use Rattle.std.proofs.lemmas.List.Sums.{sum_by-cons, sum_by_more, sum_by-take-le, get_or-le-sum_by}
use Rattle.std.proofs.lemmas.Bool.Decides.{nat_tests}
use Rattle.auction_law.proofs.NearnessLemmas.{lt_or_le, IsIn, Contains-from_IsIn}
use Rattle.mkt_base.specs.declared.units.Price.{Price}
use Rattle.mkt_base.specs.declared.order.Order.{Order}
use Rattle.mkt_base.specs.declared.order.Spot.{Spot}
use Rattle.mkt_base.specs.declared.order.Spot.TheVariants.{Market, At}
use Rattle.mkt_base.specs.Book.{FitsSums, IsRising, IsOnGrid, price_at, limit_of, is_buy, is_market_or, is_buy_at, is_buy_above, is_sell_at, is_sell_below, total_left, buys, above, sells, below}

-- what passes a narrower test has no more left in total
pub total_left-mono : (p q : Order → Bool) (orders : List Order) → All (λ o. p o ≡ true → q o ≡ true) orders → total_left p orders ≤ total_left q orders
unfolding total_left
total_left-mono p q [] h = omega arith
total_left-mono p q (o ∷ os) h =
    let f : Order → ℕ = λ o. cond (p o) o.left 0 in
    let g : Order → ℕ = λ o. cond (q o) o.left 0 in
    let a : sum_by f (o ∷ os) ≡ f o + sum_by f os = sum_by-cons f o os in
    let b : sum_by g (o ∷ os) ≡ g o + sum_by g os = sum_by-cons g o os in
    let i : sum_by f os ≤ sum_by g os = total_left-mono p q os (All-tail (λ o. p o ≡ true → q o ≡ true) o os h) in
    let j : f o ≤ g o = one (p o) (q o) (All-head (λ o. p o ≡ true → q o ≡ true) o os h) in
    omega arith
  where
    one : (x y : Bool) → (x ≡ true → y ≡ true) → cond x o.left 0 ≤ cond y o.left 0
    one true true k = omega arith
    one true false k = absurd (let e : false ≡ true = k refl in cc)
    one false true k = omega arith
    one false false k = omega arith

-- an order that passes counts
pub total_left-pos : (p : Order → Bool) (orders : List Order) (o : Order) → IsIn o orders → p o ≡ true → 0 < o.left → 0 < total_left p orders
unfolding total_left
total_left-pos p orders o i t h =
    let w : Contains orders o = Contains-from_IsIn o orders i in
    let k : ℕ = w.0 in
    let l : k < length orders = w.1 in
    let e : get_or orders k o ≡ o = w.2 in
    let f : Order → ℕ = λ o. cond (p o) o.left 0 in
    let a : f (get_or orders k o) ≤ sum_by f orders = get_or-le-sum_by f orders k o l in
    let b : f (get_or orders k o) ≡ o.left = ap f e ∙ ap (λ b. cond b o.left 0) t in
    omega arith

-- where something is left in total, an order passes
pub total_left-some : (p : Order → Bool) (orders : List Order) → 0 < total_left p orders → (o : Order) × (p o ≡ true) × IsIn o orders
unfolding total_left IsIn
total_left-some p [] h = absurd (omega arith)
total_left-some p (o ∷ os) h = at (p o) refl (omega (arith, sum_by-cons (λ o. cond (p o) o.left 0) o os)) (total_left-some p os)
  where
    at : (b : Bool) → p o ≡ b → 0 < cond b o.left 0 + sum_by (λ o. cond (p o) o.left 0) os
        → (0 < sum_by (λ o. cond (p o) o.left 0) os → (x : Order) × (p x ≡ true) × IsIn x os)
        → (x : Order) × (p x ≡ true) × IsIn x (o ∷ os)
    at true t w f = (o, t, inl refl)
    at false t w f =
        let r = f (omega arith) in
        (r.0, r.1, inr r.2)

-- a test of an order's limit that follows from another
pub limit-weaker : (f g : ℕ → Bool) (limit : Option ℕ) → ((p : ℕ) → limit ≡ Some p → f p ≡ true → g p ≡ true) → is_market_or f limit ≡ true → is_market_or g limit ≡ true
limit-weaker f g None h t = refl
limit-weaker f g (Some p) h t = h p refl t

-- a test that also asks for the side
pub and-weaker : (a b c : Bool) → (b ≡ true → c ≡ true) → (a && b) ≡ true → (a && c) ≡ true
and-weaker true b c h t = h t
and-weaker false b c h t = t

pub and-first : (a b : Bool) → (a && b) ≡ true → a ≡ true
and-first true b t = refl
and-first false b t = t

-- the sums at one price: better is not more
pub above-le-buys : (grid : List Price) (orders : List Order) (p : ℕ) → above grid orders p ≤ buys grid orders p
above-le-buys grid orders p = total_left-mono (is_buy_above grid p) (is_buy_at grid p) orders (λ k d l. and-weaker _ _ _ (limit-weaker (λ x. ltb p x) (λ x. leb p x) (limit_of grid (get_or orders k d).spot) (λ x e t. grind (arith, nat_tests))))

pub below-le-sells : (grid : List Price) (orders : List Order) (p : ℕ) → below grid orders p ≤ sells grid orders p
below-le-sells grid orders p = total_left-mono (is_sell_below grid p) (is_sell_at grid p) orders (λ k d l. and-weaker _ _ _ (limit-weaker (λ x. ltb x p) (λ x. leb x p) (limit_of grid (get_or orders k d).spot) (λ x e t. grind (arith, nat_tests))))

-- buys never rise with the price, and sells never fall
pub buys-fall : (grid : List Price) (orders : List Order) (p q : ℕ) → p ≤ q → buys grid orders q ≤ buys grid orders p
buys-fall grid orders p q h = total_left-mono (is_buy_at grid q) (is_buy_at grid p) orders (λ k d l. and-weaker _ _ _ (limit-weaker (λ x. leb q x) (λ x. leb p x) (limit_of grid (get_or orders k d).spot) (λ x e t. grind (arith, nat_tests))))

pub above-fall : (grid : List Price) (orders : List Order) (p q : ℕ) → p ≤ q → above grid orders q ≤ above grid orders p
above-fall grid orders p q h = total_left-mono (is_buy_above grid q) (is_buy_above grid p) orders (λ k d l. and-weaker _ _ _ (limit-weaker (λ x. ltb q x) (λ x. ltb p x) (limit_of grid (get_or orders k d).spot) (λ x e t. grind (arith, nat_tests))))

pub sells-rise : (grid : List Price) (orders : List Order) (p q : ℕ) → p ≤ q → sells grid orders p ≤ sells grid orders q
sells-rise grid orders p q h = total_left-mono (is_sell_at grid p) (is_sell_at grid q) orders (λ k d l. and-weaker _ _ _ (limit-weaker (λ x. leb x p) (λ x. leb x q) (limit_of grid (get_or orders k d).spot) (λ x e t. grind (arith, nat_tests))))

pub below-rise : (grid : List Price) (orders : List Order) (p q : ℕ) → p ≤ q → below grid orders p ≤ below grid orders q
below-rise grid orders p q h = total_left-mono (is_sell_below grid p) (is_sell_below grid q) orders (λ k d l. and-weaker _ _ _ (limit-weaker (λ x. ltb x p) (λ x. ltb x q) (limit_of grid (get_or orders k d).spot) (λ x e t. grind (arith, nat_tests))))

-- what buys at a price buys above each lower one, and what sells at a price sells below each higher one
pub buys-le-above : (grid : List Price) (orders : List Order) (p q : ℕ) → p < q → buys grid orders q ≤ above grid orders p
buys-le-above grid orders p q h = total_left-mono (is_buy_at grid q) (is_buy_above grid p) orders (λ k d l. and-weaker _ _ _ (limit-weaker (λ x. leb q x) (λ x. ltb p x) (limit_of grid (get_or orders k d).spot) (λ x e t. grind (arith, nat_tests))))

pub sells-le-below : (grid : List Price) (orders : List Order) (p q : ℕ) → p < q → sells grid orders p ≤ below grid orders q
sells-le-below grid orders p q h = total_left-mono (is_sell_at grid p) (is_sell_below grid q) orders (λ k d l. and-weaker _ _ _ (limit-weaker (λ x. leb x p) (λ x. ltb x q) (limit_of grid (get_or orders k d).spot) (λ x e t. grind (arith, nat_tests))))

-- the limit of an order on the grid is a grid price
pub limit-on_grid : (grid : List Price) (spot : Spot) (p : ℕ) → IsOnGrid grid spot → limit_of grid spot ≡ Some p → (i : ℕ) × (i < length grid) × (p ≡ price_at grid i)
limit-on_grid grid Market p h e = absurd (cc)
limit-on_grid grid (At i) p h e = (i, h, cc)

-- on a rising grid the lower price stands at the lower position
pub position-lt : (grid : List Price) (i j : ℕ) → IsRising grid → i < length grid → price_at grid i < price_at grid j → i < j
position-lt grid i j rising l h = elim (lt_or_le i j) [
  | inl k ↦ k
  | inr k ↦ elim (eq-or-lt_of_le k) [
    | inl e ↦ let x : price_at grid j ≡ price_at grid i = ap (price_at grid) e in absurd (omega arith)
    | inr m ↦ let x : price_at grid j < price_at grid i = rising j i m l in absurd (omega arith)
  ]
]

pub price-le : (grid : List Price) (i j : ℕ) → IsRising grid → i ≤ j → j < length grid → price_at grid i ≤ price_at grid j
price-le grid i j rising h l = elim (eq-or-lt_of_le h) [
  | inl e ↦ let x : price_at grid i ≡ price_at grid j = ap (price_at grid) e in omega arith
  | inr m ↦ let x : price_at grid i < price_at grid j = rising i j m l in omega arith
]

-- since limits stand on the grid, what buys above a price buys at the next, and what sells below the next sells at this
pub above-le-next : (grid : List Price) (orders : List Order) (i j : ℕ) → j ≡ i + 1 → IsRising grid → All (λ o. IsOnGrid grid o.spot) orders → j < length grid
    → above grid orders (price_at grid i) ≤ buys grid orders (price_at grid j)
above-le-next grid orders i j next_to rising on l = total_left-mono (is_buy_above grid (price_at grid i)) (is_buy_at grid (price_at grid j)) orders
    (λ k d m. and-weaker _ _ _ (limit-weaker (λ x. ltb (price_at grid i) x) (λ x. leb (price_at grid j) x) (limit_of grid (get_or orders k d).spot)
    (λ x e t. next (get_or orders k d).spot x (on k d m) e t)))
  where
    next : (spot : Spot) (x : ℕ) → IsOnGrid grid spot → limit_of grid spot ≡ Some x → ltb (price_at grid i) x ≡ true → leb (price_at grid j) x ≡ true
    next spot x h e t =
        let w = limit-on_grid grid spot x h e in
        let a : price_at grid i < price_at grid w.0 = rw w.2 at (ltb-true _ _ t) in
        let b : i < w.0 = position-lt grid i w.0 rising (omega arith) a in
        rw w.2 (le-leb _ _ (price-le grid j w.0 rising (omega arith) w.1))

pub below-le-previous : (grid : List Price) (orders : List Order) (i j : ℕ) → j ≡ i + 1 → IsRising grid → All (λ o. IsOnGrid grid o.spot) orders → j < length grid
    → below grid orders (price_at grid j) ≤ sells grid orders (price_at grid i)
below-le-previous grid orders i j next_to rising on l = total_left-mono (is_sell_below grid (price_at grid j)) (is_sell_at grid (price_at grid i)) orders
    (λ k d m. and-weaker _ _ _ (limit-weaker (λ x. ltb x (price_at grid j)) (λ x. leb x (price_at grid i)) (limit_of grid (get_or orders k d).spot)
    (λ x e t. previous (get_or orders k d).spot x (on k d m) e t)))
  where
    previous : (spot : Spot) (x : ℕ) → IsOnGrid grid spot → limit_of grid spot ≡ Some x → ltb x (price_at grid j) ≡ true → leb x (price_at grid i) ≡ true
    previous spot x h e t =
        let w = limit-on_grid grid spot x h e in
        let a : price_at grid w.0 < price_at grid j = rw w.2 at (ltb-true _ _ t) in
        let b : w.0 < j = position-lt grid w.0 j rising w.1 a in
        rw w.2 (le-leb _ _ (price-le grid w.0 i rising (omega arith) (omega arith)))

-- the step of a loop that adds up what passes
pub total_left-more : (p : Order → Bool) (orders : List Order) (i : ℕ) (d : Order) (sum added : ℕ) (passes : Bool) → i < length orders
    → sum ≡ total_left p (take i orders) → passes ≡ p (get_or orders i d) → added ≡ cond passes (get_or orders i d).left 0
    → sum + added ≡ total_left p (take (i + 1) orders)
unfolding total_left
total_left-more p orders i d sum added passes l so_far is_passed adds =
    let a : added ≡ cond (p (get_or orders i d)) (get_or orders i d).left 0 = adds ∙ ap (λ b. cond b (get_or orders i d).left 0) is_passed in
    let b : sum_by (λ o. cond (p o) o.left 0) (take (i + 1) orders) ≡ sum_by (λ o. cond (p o) o.left 0) (take i orders) + cond (p (get_or orders i d)) (get_or orders i d).left 0 = sum_by_more (λ o. cond (p o) o.left 0) orders i d l in
    omega arith

pub total_left-none : (p : Order → Bool) → 0 ≡ total_left p []
unfolding total_left
total_left-none p = refl

pub total_left-all : (p : Order → Bool) (orders : List Order) (i sum : ℕ) → length orders ≤ i → sum ≡ total_left p (take i orders) → sum ≡ total_left p orders
total_left-all p orders i sum l e = e ∙ ap (total_left p) (take_all i orders l)

-- what the first orders add up to is within the total of a wider test
pub total_left-part : (p q : Order → Bool) (orders : List Order) (n : ℕ) → All (λ o. p o ≡ true → q o ≡ true) orders → total_left p (take n orders) ≤ total_left q orders
unfolding total_left
total_left-part p q orders n h = omega (arith, sum_by-take-le (λ o. cond (p o) o.left 0) orders n, total_left-mono p q orders h)

-- so it fits, where the side's total does
pub buys-fit : (orders : List Order) (f : Order → Bool) (n sum : ℕ) → FitsSums orders → sum ≡ total_left (λ o. is_buy o.side && f o) (take n orders) → sum < 2 ^ 64
buys-fit orders f n sum fits e = omega (arith, total_left-part (λ o. is_buy o.side && f o) (λ o. is_buy o.side) orders n (λ k d m. and-first _ _), fits.bought)

pub sells-fit : (orders : List Order) (f : Order → Bool) (n sum : ℕ) → FitsSums orders → sum ≡ total_left (λ o. not (is_buy o.side) && f o) (take n orders) → sum < 2 ^ 64
sells-fit orders f n sum fits e = omega (arith, total_left-part (λ o. not (is_buy o.side) && f o) (λ o. not (is_buy o.side)) orders n (λ k d m. and-first _ _), fits.sold)
