-- Shares taken from both orders of a trade are what the trade does; and what the orders of a side have left in all.
use Rattle.std.proofs.Common.{◌≡◌, ℕ, ◌<◌, ◌+◌, ◌-◌, Bool, true, false, cond, eqb, ltb, ◌||◌, List, [], ◌∷◌, map, filter, refl, sym, ap, ◌∙◌, arith}
use Rattle.std.specs.List.{All, AllByRecursion, sum_by}
use Rattle.std.proofs.lemmas.Bool.Decides.{nat_tests}
use Rattle.std.proofs.lemmas.List.Sums.{sum_by-cons}
use Rattle.mkt_base.specs.Book.{total_left}
use Rattle.mkt_base.specs.Fills.{after_trades, all_of, less_traded, quantity, traded_at, whole}
use Rattle.mkt_base.specs.Priority.{in_priority, is_same_side}
use Rattle.mkt_base.specs.declared.auction.Trade.{Trade}
use Rattle.mkt_base.specs.declared.order.Side.{Side}
use Rattle.mkt_base.specs.declared.order.Order.{Order}
use Rattle.mkt_base.proofs.TradeLemmas.{trades-twice}
use Rattle.book_law.specs.BookView.{IsSpotBelow, less, less_taken, taken}
use Rattle.book_law.specs.Paired.{trade_of}
use Rattle.book_law.specs.Sides.{has_place, total}
use Rattle.book_law.proofs.Pairing.{first-less, others-stay}
use Rattle.book_law.proofs.SideSums.{sum-priority}

map-agree : {X Y : Type 0} (f g : X → Y) → ((x : X) → f x ≡ g x) → (xs : List X) → map f xs ≡ map g xs
map-agree f g same [] = refl
map-agree f g same (x ∷ xs) = ap (λ y. y ∷ map f xs) (same x) ∙ ap (λ ys. g x ∷ ys) (map-agree f g same xs)

-- trades that take the same from each place do the same
trades-agree : (ts us : List Trade) → ((place : ℕ) → traded_at ts place ≡ traded_at us place) → (os : List Order) → after_trades ts os ≡ after_trades us os
unfolding after_trades
trades-agree ts us same os =
    ap (filter (λ o. ltb 0 o.left)) (map-agree (less_traded ts) (less_traded us) (λ o. ap (λ n. record o { left = o.left - n }) (same o.place)) os)

one-less : (place q x : ℕ) → cond (eqb place x) q 0 ≡ 0 + cond (eqb x place || eqb x place) q 0
one-less place q x = grind (arith, nat_tests)

-- what is taken from one order is what a trade of it with itself takes
pub taken-traded : (place q : ℕ) (os : List Order) → taken place q os ≡ after_trades (trade_of 0 q place place ∷ []) os
unfolding taken after_trades traded_at
taken-traded place q os =
    ap (filter (λ o. ltb 0 o.left)) (map-agree (less_taken place q) (less_traded (trade_of 0 q place place ∷ [])) (λ o. ap (λ n. record o { left = o.left - n }) (one-less place q o.place)) os)

two-places : (q buy sell x : ℕ) → eqb buy sell ≡ false
    → 0 + cond (eqb x buy || eqb x buy) q 0 + cond (eqb x sell || eqb x sell) q 0 ≡ 0 + cond (eqb x buy || eqb x sell) q 0
two-places q buy sell x apart = grind (arith, nat_tests, apart)

-- what is taken from both orders of a trade is what the trade does
pub both-taken : (p q buy sell : ℕ) → eqb buy sell ≡ false → (os : List Order) → taken sell q (taken buy q os) ≡ after_trades (trade_of p q buy sell ∷ []) os
unfolding traded_at
both-taken p q buy sell apart os =
    taken-traded sell q (taken buy q os)
    ∙ ap (after_trades (trade_of 0 q sell sell ∷ [])) (taken-traded buy q os)
    ∙ trades-twice (trade_of 0 q buy buy ∷ []) (trade_of 0 q sell sell ∷ []) os
    ∙ trades-agree (trade_of 0 q buy buy ∷ trade_of 0 q sell sell ∷ []) (trade_of p q buy sell ∷ []) (λ x. two-places q buy sell x apart) os

sum-agree : {X : Type 0} (f g : X → ℕ) → ((x : X) → f x ≡ g x) → (xs : List X) → sum_by f xs ≡ sum_by g xs
sum-agree f g same [] = refl
sum-agree f g same (x ∷ xs) = omega (arith, sum_by-cons f x xs, sum_by-cons g x xs, same x, sum-agree f g same xs)

-- all that some orders have left is the sum of it
pub total-sum : (os : List Order) → total os ≡ sum_by (λ o. o.left) os
unfolding quantity
total-sum [] = refl
total-sum (o ∷ os) = sum_by-cons (λ f. f.qty) (all_of o) (whole os) ∙ ap (λ n. o.left + n) (total-sum os) ∙ sym (sum_by-cons (λ x. x.left) o os)

pub total-cons : (o : Order) (os : List Order) → total (o ∷ os) ≡ o.left + total os
unfolding quantity
total-cons o os = sum_by-cons (λ f. f.qty) (all_of o) (whole os)

-- of those that pass
module _ (t : Order → Bool) where
  passing-step : (b : Bool) (o : Order) (os : List Order) → t o ≡ b → total (filter t os) ≡ total_left t os → total (cond b (o ∷ filter t os) (filter t os)) ≡ total_left t (o ∷ os)
  unfolding total_left
  passing-step true o os e rest =
      let here : cond (t o) o.left 0 ≡ o.left = ap (λ c. cond c o.left 0) e in
      omega (arith, total-cons o (filter t os), rest, here, sum_by-cons (λ x. cond (t x) x.left 0) o os)
  passing-step false o os e rest =
      let here : cond (t o) o.left 0 ≡ 0 = ap (λ c. cond c o.left 0) e in
      omega (arith, rest, here, sum_by-cons (λ x. cond (t x) x.left 0) o os)

  pub total-filter : (os : List Order) → total (filter t os) ≡ total_left t os
  unfolding total_left
  total-filter [] = total-sum []
  total-filter (o ∷ os) = passing-step (t o) o os refl (total-filter os)

  only-side : (side : Side) (o : Order) → (t o ≡ true → is_same_side side o.side ≡ true) → cond (is_same_side side o.side) (cond (t o) o.left 0) 0 ≡ cond (t o) o.left 0
  only-side side o own = by (t o) (is_same_side side o.side) own
    where
      by : (b c : Bool) → (b ≡ true → c ≡ true) → cond c (cond b o.left 0) 0 ≡ cond b o.left 0
      by true c own = ap (λ d. cond d o.left 0) (own refl)
      by false true own = refl
      by false false own = refl

  -- what those of a side that pass have left, where only orders of the side pass
  pub total-passing : (n : ℕ) (side : Side) (os : List Order) → All (λ o. IsSpotBelow n o.spot) os → ((o : Order) → t o ≡ true → is_same_side side o.side ≡ true)
      → total_left t (in_priority n side os) ≡ total_left t os
  unfolding total_left
  total-passing n side os below own =
      sum-priority (λ o. cond (t o) o.left 0) n side os below
      ∙ sum-agree (λ o. cond (is_same_side side o.side) (cond (t o) o.left 0) 0) (λ o. cond (t o) o.left 0) (λ o. only-side side o (own o)) os

-- what a side has left is the sum of what the book's orders of the side have left
pub quantity-side : (n : ℕ) (side : Side) (os : List Order) → All (λ o. IsSpotBelow n o.spot) os → total (in_priority n side os) ≡ total_left (λ o. is_same_side side o.side) os
unfolding total_left
quantity-side n side os below = total-sum (in_priority n side os) ∙ sum-priority (λ o. o.left) n side os below

-- what holds of orders, whatever they have left, holds of them after shares were taken
module _ (P : Order → Type 0) (stays : (n : ℕ) (o : Order) → P o → P (less n o)) (place q : ℕ) where
  taken-step : (b : Bool) (o : Order) (xs : List Order) → P o → AllByRecursion P xs → AllByRecursion P (cond b (o ∷ xs) xs)
  taken-step true o xs here rest = (here, rest)
  taken-step false o xs here rest = rest

  pub taken-all : (os : List Order) → AllByRecursion P os → AllByRecursion P (taken place q os)
  unfolding taken
  taken-all [] all = tt
  taken-all (o ∷ os) all =
      taken-step (ltb 0 (less_taken place q o).left) (less_taken place q o) (taken place q os) (stays (cond (eqb place o.place) q 0) o all.0) (taken-all os all.1)

-- Shares taken from the first of some orders whose place none behind it has.
module _ (x : Order) (xs : List Order) (q : ℕ) where
  pub first-taken : filter (has_place x.place) xs ≡ [] → AllByRecursion (λ o. 0 < o.left) xs → taken x.place q (x ∷ xs) ≡ cond (ltb 0 (x.left - q)) (less q x ∷ xs) xs
  first-taken none some =
      let own : (eqb x.place x.place || eqb x.place x.place) ≡ true = grind (arith, nat_tests) in
      let rest = others-stay (trade_of 0 q x.place x.place) xs none none some in
      taken-traded x.place q (x ∷ xs) ∙ first-less (trade_of 0 q x.place x.place) x xs own rest

-- A trade with an order that does not stand in the book takes from the other alone.
module _ (p q away place : ℕ) where
  bought-away : (o : Order) → eqb away o.place ≡ false → less_taken place q o ≡ less_traded (trade_of p q away place ∷ []) o
  unfolding traded_at
  bought-away o apart = ap (λ n. record o { left = o.left - n }) (one-of o.place apart)
    where
      one-of : (x : ℕ) → eqb away x ≡ false → cond (eqb place x) q 0 ≡ 0 + cond (eqb x away || eqb x place) q 0
      one-of x e = grind (arith, nat_tests, e)

  sold-away : (o : Order) → eqb away o.place ≡ false → less_taken place q o ≡ less_traded (trade_of p q place away ∷ []) o
  unfolding traded_at
  sold-away o apart = ap (λ n. record o { left = o.left - n }) (one-of o.place apart)
    where
      one-of : (x : ℕ) → eqb away x ≡ false → cond (eqb place x) q 0 ≡ 0 + cond (eqb x place || eqb x away) q 0
      one-of x e = grind (arith, nat_tests, e)

  alike : (f g : Order → Order) → ((o : Order) → eqb away o.place ≡ false → f o ≡ g o) → (os : List Order) → AllByRecursion (λ o. eqb away o.place ≡ false) os → map f os ≡ map g os
  alike f g same [] all = refl
  alike f g same (o ∷ os) all = ap (λ x. x ∷ map f os) (same o all.0) ∙ ap (λ xs. g o ∷ xs) (alike f g same os all.1)

  pub taken-sold : (os : List Order) → AllByRecursion (λ o. eqb away o.place ≡ false) os → taken place q os ≡ after_trades (trade_of p q away place ∷ []) os
  unfolding taken after_trades
  taken-sold os all = ap (filter (λ o. ltb 0 o.left)) (alike (less_taken place q) (less_traded (trade_of p q away place ∷ [])) bought-away os all)

  pub taken-bought : (os : List Order) → AllByRecursion (λ o. eqb away o.place ≡ false) os → taken place q os ≡ after_trades (trade_of p q place away ∷ []) os
  unfolding taken after_trades
  taken-bought os all = ap (filter (λ o. ltb 0 o.left)) (alike (less_taken place q) (less_traded (trade_of p q place away ∷ [])) sold-away os all)
