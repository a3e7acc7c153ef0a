-- What is taken from the front of a list, and what a pairing trades.
use Rattle.std.proofs.Common.{◌≡◌, ℕ, ◌+◌, ◌-◌, min, Bool, true, false, cond, ltb, eqb, List, [], ◌∷◌, map, refl, sym, ap, ◌∙◌, arith}
use Rattle.std.specs.List.{sum_by}
use Rattle.std.proofs.lemmas.List.Sums.{sum_by-cons, sum_by-append}
use Rattle.std.proofs.lemmas.Bool.Decides.{nat_tests}
use Rattle.mkt_base.specs.Fills.{Fill, bought_at, bought_by, filled, filled_at, from_front, less_front, pair, quantity, sold_at}
use Rattle.mkt_base.specs.declared.auction.Trade.{Trade}

min-split : (n q rest : ℕ) → min n q + min (n - q) rest ≡ min n (q + rest)
min-split n q rest = grind (arith, nat_tests)

-- the first n shares are n, or all
pub from_front-quantity : (n : ℕ) (fills : List Fill) → quantity (from_front n fills) ≡ min n (quantity fills)
unfolding quantity from_front
from_front-quantity n [] = grind (arith, nat_tests)
from_front-quantity n (f ∷ fs) =
    sum_by-cons (λ g. g.qty) (record f { qty = min n f.qty }) (from_front (n - f.qty) fs)
    ∙ ap (λ x. min n f.qty + x) (from_front-quantity (n - f.qty) fs)
    ∙ min-split n f.qty (sum_by (λ g. g.qty) fs)
    ∙ ap (min n) (sym (sum_by-cons (λ g. g.qty) f fs))

front-parts : (n q : ℕ) → min n q + (q - n) ≡ q
front-parts n q = grind (arith, nat_tests)

-- what is taken and what is left are all there was
pub front-and-rest : (n : ℕ) (fills : List Fill) → quantity (from_front n fills) + quantity (less_front n fills) ≡ quantity fills
unfolding quantity from_front less_front
front-and-rest n [] = refl
front-and-rest n (f ∷ fs) =
    let q : Fill → ℕ = λ g. g.qty in
    omega (
      arith,
      sum_by-cons q (record f { qty = min n f.qty }) (from_front (n - f.qty) fs),
      sum_by-cons q (record f { qty = f.qty - n }) (less_front (n - f.qty) fs),
      sum_by-cons q f fs,
      front-and-rest (n - f.qty) fs,
      front-parts n f.qty,
    )

-- shares of one place, where the first fill is split off
at-cons : (place : ℕ) (f : Fill) (fs : List Fill) → filled_at place (f ∷ fs) ≡ cond (eqb place f.place) f.qty 0 + filled_at place fs
unfolding filled_at
at-cons place f fs = sum_by-cons (λ g. cond (eqb place g.place) g.qty 0) f fs

two-steps : (n m q : ℕ) (b : Bool) → cond b (min n q) 0 + cond b (min m (q - n)) 0 ≡ cond b (min (n + m) q) 0
two-steps n m q true = grind (arith, nat_tests)
two-steps n m q false = refl

less-twice : (n m q : ℕ) → (n + m) - q ≡ (n - q) + (m - (q - n))
less-twice n m q = omega arith

-- n shares from the front and then m of the rest are n + m from the front, at each place
pub front-twice : (place n m : ℕ) (fills : List Fill) → filled_at place (from_front n fills) + filled_at place (from_front m (less_front n fills)) ≡ filled_at place (from_front (n + m) fills)
unfolding filled_at from_front less_front
front-twice place n m [] = refl
front-twice place n m (f ∷ fs) =
    let rest = front-twice place (n - f.qty) (m - (f.qty - n)) fs in
    let b = eqb place f.place in
    omega (
      arith,
      at-cons place (record f { qty = min n f.qty }) (from_front (n - f.qty) fs),
      at-cons place (record f { qty = min m (f.qty - n) }) (from_front (m - (f.qty - n)) (less_front (n - f.qty) fs)),
      at-cons place (record f { qty = min (n + m) f.qty }) (from_front ((n + m) - f.qty) fs),
      rest,
      two-steps n m f.qty b,
      ap (λ k. filled_at place (from_front k fs)) (less-twice n m f.qty),
    )

-- Sums over what one buy trades with some fills: a fill without shares makes no trade, and counts for nothing.
module _ (g : Trade → ℕ) (p buy : ℕ) (nothing : (f : Fill) → f.qty ≡ 0 → g (bought_by p buy f) ≡ 0) where
  sum-step : (b : Bool) (f : Fill) (fs : List Fill) → ltb 0 f.qty ≡ b → sum_by g (map (bought_by p buy) (filled fs)) ≡ sum_by (λ e. g (bought_by p buy e)) fs
      → sum_by g (map (bought_by p buy) (cond b (f ∷ filled fs) (filled fs))) ≡ sum_by (λ e. g (bought_by p buy e)) (f ∷ fs)
  sum-step true f fs e rest =
      sum_by-cons g (bought_by p buy f) (map (bought_by p buy) (filled fs)) ∙ ap (λ n. g (bought_by p buy f) + n) rest
      ∙ sym (sum_by-cons (λ h. g (bought_by p buy h)) f fs)
  sum-step false f fs e rest =
      let none : f.qty ≡ 0 = grind (arith, nat_tests, e) in
      omega (arith, rest, nothing f none, sum_by-cons (λ h. g (bought_by p buy h)) f fs)

  pub sum-traded : (fs : List Fill) → sum_by g (map (bought_by p buy) (filled fs)) ≡ sum_by (λ f. g (bought_by p buy f)) fs
  sum-traded [] = refl
  sum-traded (f ∷ fs) = sum-step (ltb 0 f.qty) f fs refl (sum-traded fs)

no-shares : (b : Bool) (n : ℕ) → n ≡ 0 → cond b n 0 ≡ 0
no-shares true n e = e
no-shares false n e = refl

one-place : (b : Bool) (fs : List Fill) → sum_by (λ f. cond b f.qty 0) fs ≡ cond b (sum_by (λ f. f.qty) fs) 0
one-place true fs = refl
one-place false [] = refl
one-place false (f ∷ fs) = let rest = one-place false fs in omega (arith, sum_by-cons {X = Fill} (λ g. 0) f fs, rest)

-- what one buy trades
buy-bought : (p place buy : ℕ) (fs : List Fill) → bought_at place (map (bought_by p buy) (filled fs)) ≡ cond (eqb place buy) (quantity fs) 0
unfolding bought_at quantity
buy-bought p place buy fs =
    sum-traded (λ t. cond (eqb place t.buy) t.qty 0) p buy (λ f e. no-shares (eqb place buy) f.qty e) fs ∙ one-place (eqb place buy) fs

buy-sold : (p place buy : ℕ) (fs : List Fill) → sold_at place (map (bought_by p buy) (filled fs)) ≡ filled_at place fs
unfolding sold_at filled_at
buy-sold p place buy fs = sum-traded (λ t. cond (eqb place t.sell) t.qty 0) p buy (λ f e. no-shares (eqb place f.place) f.qty e) fs

buy-traded : (p buy : ℕ) (fs : List Fill) → sum_by (λ t. t.qty) (map (bought_by p buy) (filled fs)) ≡ quantity fs
unfolding quantity
buy-traded p buy fs = sum-traded (λ t. t.qty) p buy (λ f e. e) fs

rest-quantity : (n : ℕ) (fills : List Fill) → quantity (less_front n fills) ≡ quantity fills - n
rest-quantity n fills =
    let taken = from_front-quantity n fills in
    let parts = front-and-rest n fills in
    let least : min n (quantity fills) + (quantity fills - n) ≡ quantity fills = front-parts n (quantity fills) in
    omega arith

same-least : (b : Bool) (m n : ℕ) → cond b (min m n) 0 ≡ cond b (min n m) 0
same-least true m n = grind (arith, nat_tests)
same-least false m n = refl

-- each place buys what it has among the first of the buys
pub bought-front : (p place : ℕ) (bs ss : List Fill) → bought_at place (pair p bs ss) ≡ filled_at place (from_front (quantity ss) bs)
unfolding bought_at pair from_front filled_at
bought-front p place [] ss = refl
bought-front p place (b ∷ bs) ss =
    let bought : Trade → ℕ = λ t. cond (eqb place t.buy) t.qty 0 in
    let own = eqb place b.place in
    let here = buy-bought p place b.place (from_front b.qty ss) ∙ ap (λ n. cond own n 0) (from_front-quantity b.qty ss) ∙ same-least own b.qty (quantity ss) in
    let rest = bought-front p place bs (less_front b.qty ss) ∙ ap (λ n. filled_at place (from_front n bs)) (rest-quantity b.qty ss) in
    sum_by-append bought (map (bought_by p b.place) (filled (from_front b.qty ss))) (pair p bs (less_front b.qty ss))
    ∙ ap (λ n. n + bought_at place (pair p bs (less_front b.qty ss))) here
    ∙ ap (λ n. cond own (min (quantity ss) b.qty) 0 + n) rest
    ∙ sym (at-cons place (record b { qty = min (quantity ss) b.qty }) (from_front (quantity ss - b.qty) bs))

nothing-less : (q : ℕ) → 0 - q ≡ 0
nothing-less q = omega arith

least-none : (q : ℕ) → min 0 q ≡ 0
least-none q = grind (arith, nat_tests)

quantity-cons : (f : Fill) (fs : List Fill) → quantity (f ∷ fs) ≡ f.qty + quantity fs
unfolding quantity
quantity-cons f fs = sum_by-cons (λ g. g.qty) f fs

nothing-at : (b : Bool) (q : ℕ) → cond b (min 0 q) 0 ≡ 0
nothing-at true q = grind (arith, nat_tests)
nothing-at false q = refl

-- no shares from the front are none at any place
front-none : (place : ℕ) (fs : List Fill) → filled_at place (from_front 0 fs) ≡ 0
unfolding filled_at from_front
front-none place [] = refl
front-none place (f ∷ fs) =
    at-cons place (record f { qty = min 0 f.qty }) (from_front (0 - f.qty) fs)
    ∙ ap (λ n. n + filled_at place (from_front (0 - f.qty) fs)) (nothing-at (eqb place f.place) f.qty)
    ∙ ap (λ n. 0 + filled_at place (from_front n fs)) (nothing-less f.qty)
    ∙ ap (λ n. 0 + n) (front-none place fs)

-- each place sells what it has among the first of the sells
pub sold-front : (p place : ℕ) (bs ss : List Fill) → sold_at place (pair p bs ss) ≡ filled_at place (from_front (quantity bs) ss)
unfolding sold_at pair quantity
sold-front p place [] ss = sym (front-none place ss)
sold-front p place (b ∷ bs) ss =
    let sold : Trade → ℕ = λ t. cond (eqb place t.sell) t.qty 0 in
    let first = filled (from_front b.qty ss) in
    sum_by-append sold (map (bought_by p b.place) first) (pair p bs (less_front b.qty ss))
    ∙ ap (λ n. n + sold_at place (pair p bs (less_front b.qty ss))) (buy-sold p place b.place (from_front b.qty ss))
    ∙ ap (λ n. filled_at place (from_front b.qty ss) + n) (sold-front p place bs (less_front b.qty ss))
    ∙ front-twice place b.qty (quantity bs) ss
    ∙ ap (λ n. filled_at place (from_front n ss)) (sym (quantity-cons b bs))

least-parts : (n m q : ℕ) → min n q + min m (q - n) ≡ min (n + m) q
least-parts n m q = grind (arith, nat_tests)

-- both sides trade the lesser of the two quantities
pub pair-quantity : (p : ℕ) (bs ss : List Fill) → sum_by (λ t. t.qty) (pair p bs ss) ≡ min (quantity bs) (quantity ss)
unfolding pair quantity
pair-quantity p [] ss = sym (least-none (quantity ss))
pair-quantity p (b ∷ bs) ss =
    let qty : Trade → ℕ = λ t. t.qty in
    sum_by-append qty (map (bought_by p b.place) (filled (from_front b.qty ss))) (pair p bs (less_front b.qty ss))
    ∙ ap (λ n. n + sum_by qty (pair p bs (less_front b.qty ss))) (buy-traded p b.place (from_front b.qty ss) ∙ from_front-quantity b.qty ss)
    ∙ ap (λ n. min b.qty (quantity ss) + n) (pair-quantity p bs (less_front b.qty ss) ∙ ap (min (quantity bs)) (rest-quantity b.qty ss))
    ∙ least-parts b.qty (quantity bs) (quantity ss)
    ∙ ap (λ n. min n (quantity ss)) (sym (quantity-cons b bs))
