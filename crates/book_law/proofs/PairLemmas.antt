-- Pairings of fills: what has no shares trades nothing, and the two fronts trade the lesser of what they have.
use Rattle.std.proofs.Common.{◌≡◌, ℕ, ◌-◌, ◌<◌, min, Bool, true, false, cond, ltb, List, [], ◌∷◌, ◌++◌, map, refl, sym, ap, ◌∙◌, arith}
use Rattle.std.proofs.lemmas.Bool.Decides.{nat_tests}
use Rattle.mkt_base.specs.Fills.{Fill, bought_by, filled, from_front, less_front, pair}
use Rattle.book_law.specs.Paired.{trade_of}

-- so many shares of a place
abbrev pub fill : ℕ → ℕ → Fill
fill place qty = record { place = place; qty = qty }

min-none : (q : ℕ) → min 0 q ≡ 0
min-none q = grind (arith, nat_tests)

min-none_right : (q : ℕ) → min q 0 ≡ 0
min-none_right q = grind (arith, nat_tests)

nothing-less : (q : ℕ) → 0 - q ≡ 0
nothing-less q = omega arith

less-nothing : (q : ℕ) → q - 0 ≡ q
less-nothing q = omega arith

-- no shares from the front are none
pub none-front : (fs : List Fill) → filled (from_front 0 fs) ≡ []
unfolding from_front
none-front [] = refl
none-front (f ∷ fs) = rw (min-none f.qty, nothing-less f.qty) (none-front fs)

-- and what stands behind them is all
pub all-behind : (fs : List Fill) → less_front 0 fs ≡ fs
unfolding less_front
all-behind [] = refl
all-behind (f ∷ fs) = ap (λ n. record f { qty = n } ∷ less_front (0 - f.qty) fs) (less-nothing f.qty) ∙ ap (λ n. f ∷ less_front n fs) (nothing-less f.qty) ∙ ap (λ gs. f ∷ gs) (all-behind fs)

module _ (p : ℕ) where
  -- a buy without shares trades nothing
  pub buy-skipped : (b : ℕ) (fs gs : List Fill) → pair p (fill b 0 ∷ fs) gs ≡ pair p fs gs
  unfolding pair
  buy-skipped b fs gs = rw (none-front gs, all-behind gs) refl

  -- and so does a sell
  pub sell-skipped : (s : ℕ) (fs gs : List Fill) → pair p fs (fill s 0 ∷ gs) ≡ pair p fs gs
  unfolding pair from_front less_front
  sell-skipped s [] gs = refl
  sell-skipped s (f ∷ fs) gs =
      rw (min-none_right f.qty, less-nothing f.qty, nothing-less f.qty)
      (ap (λ ts. map (bought_by p f.place) (filled (from_front f.qty gs)) ++ ts) (sell-skipped s fs (less_front f.qty gs)))

  first-trade : (a b n u z : ℕ) (fs gs : List Fill) → 0 < n
      → map (bought_by p a) (filled (fill b n ∷ from_front u gs)) ++ pair p fs (fill b z ∷ less_front u gs)
      ≡ trade_of p n a b ∷ (map (bought_by p a) (filled (fill b 0 ∷ from_front u gs)) ++ pair p fs (fill b z ∷ less_front u gs))
  first-trade a b n u z fs gs h = let some : ltb 0 n ≡ true = grind (arith, nat_tests, h) in rw some refl

  -- the two fronts trade the lesser of what they have
  pub both-less : (a b x y n : ℕ) (fs gs : List Fill) → n ≡ min x y → 0 < n → pair p (fill a x ∷ fs) (fill b y ∷ gs) ≡ trade_of p n a b ∷ pair p (fill a (x - n) ∷ fs) (fill b (y - n) ∷ gs)
  unfolding pair from_front less_front
  both-less a b x y n fs gs e h =
      let least : min x y ≡ n = sym e in
      let none : min (x - n) (y - n) ≡ 0 = grind (arith, nat_tests, e) in
      let over : (x - n) - (y - n) ≡ x - y = grind (arith, nat_tests, e) in
      let under : (y - n) - (x - n) ≡ y - x = grind (arith, nat_tests, e) in
      rw (least, none, over, under) (first-trade a b n (x - y) (y - x) fs gs h)

-- Fills without shares are skipped on both sides.
no-shares : (f : Fill) → ltb 0 f.qty ≡ false → f.qty ≡ 0
no-shares f e = grind (arith, nat_tests, e)

kept-head : (b : Bool) (f : Fill) (fs gs : List Fill) → fs ≡ gs → cond b (f ∷ fs) fs ≡ cond b (f ∷ gs) gs
kept-head b f fs gs e = ap (λ hs. cond b (f ∷ hs) hs) e

front-step : (n : ℕ) (b : Bool) (f : Fill) (fs : List Fill) → ltb 0 f.qty ≡ b → ((m : ℕ) → filled (from_front m (filled fs)) ≡ filled (from_front m fs))
    → filled (from_front n (cond b (f ∷ filled fs) (filled fs))) ≡ filled (from_front n (f ∷ fs))
unfolding from_front
front-step n true f fs e rest =
    kept-head (ltb 0 (min n f.qty)) (record f { qty = min n f.qty }) (filled (from_front (n - f.qty) (filled fs))) (filled (from_front (n - f.qty) fs)) (rest (n - f.qty))
front-step n false f fs e rest = rw (no-shares f e, min-none_right n, less-nothing n) (rest n)

front-filled : (n : ℕ) (fs : List Fill) → filled (from_front n (filled fs)) ≡ filled (from_front n fs)
front-filled n [] = refl
front-filled n (f ∷ fs) = front-step n (ltb 0 f.qty) f fs refl (λ m. front-filled m fs)

behind-step : (n : ℕ) (b : Bool) (f : Fill) (fs : List Fill) → ltb 0 f.qty ≡ b → ((m : ℕ) → filled (less_front m (filled fs)) ≡ filled (less_front m fs))
    → filled (less_front n (cond b (f ∷ filled fs) (filled fs))) ≡ filled (less_front n (f ∷ fs))
unfolding less_front
behind-step n true f fs e rest =
    kept-head (ltb 0 (f.qty - n)) (record f { qty = f.qty - n }) (filled (less_front (n - f.qty) (filled fs))) (filled (less_front (n - f.qty) fs)) (rest (n - f.qty))
behind-step n false f fs e rest = rw (no-shares f e, nothing-less n, less-nothing n) (rest n)

behind-filled : (n : ℕ) (fs : List Fill) → filled (less_front n (filled fs)) ≡ filled (less_front n fs)
behind-filled n [] = refl
behind-filled n (f ∷ fs) = behind-step n (ltb 0 f.qty) f fs refl (λ m. behind-filled m fs)

module _ (p : ℕ) where
  buys-step : (b : Bool) (f : Fill) (fs gs : List Fill) → ltb 0 f.qty ≡ b → ((hs : List Fill) → pair p (filled fs) hs ≡ pair p fs hs)
      → pair p (cond b (f ∷ filled fs) (filled fs)) gs ≡ pair p (f ∷ fs) gs
  unfolding pair
  buys-step true f fs gs e rest = ap (λ ts. map (bought_by p f.place) (filled (from_front f.qty gs)) ++ ts) (rest (less_front f.qty gs))
  buys-step false f fs gs e rest = rest gs ∙ sym (buy-skipped p f.place fs gs) ∙ ap (λ n. pair p (fill f.place n ∷ fs) gs) (sym (no-shares f e))

  buys-filled : (fs gs : List Fill) → pair p (filled fs) gs ≡ pair p fs gs
  buys-filled [] gs = refl
  buys-filled (f ∷ fs) gs = buys-step (ltb 0 f.qty) f fs gs refl (λ hs. buys-filled fs hs)

  sells-filled : (fs gs : List Fill) → pair p fs (filled gs) ≡ pair p fs gs
  unfolding pair
  sells-filled [] gs = refl
  sells-filled (f ∷ fs) gs =
      ap (λ hs. map (bought_by p f.place) hs ++ pair p fs (less_front f.qty (filled gs))) (front-filled f.qty gs)
      ∙ ap (λ ts. map (bought_by p f.place) (filled (from_front f.qty gs)) ++ ts)
      (sym (sells-filled fs (less_front f.qty (filled gs))) ∙ ap (pair p fs) (behind-filled f.qty gs) ∙ sells-filled fs (less_front f.qty gs))

  -- a pairing does not see the fills without shares
  pub paired-filled : (fs gs : List Fill) → pair p (filled fs) (filled gs) ≡ pair p fs gs
  paired-filled fs gs = buys-filled fs (filled gs) ∙ sells-filled fs gs

  -- where nothing is bought, nothing is traded
  pub nothing-bought : (fs gs : List Fill) → filled fs ≡ [] → pair p fs gs ≡ []
  unfolding pair
  nothing-bought fs gs e = sym (buys-filled fs gs) ∙ ap (λ hs. pair p hs gs) e
