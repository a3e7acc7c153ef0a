-- A volume from the front of a side: those that are better than a price fill whole, and what is then left fills those at it.
use Rattle.std.proofs.Common.{◌≡◌, ℕ, ◌+◌, ◌-◌, ◌≤◌, min, Bool, true, false, cond, ltb, ◌||◌, List, [], ◌∷◌, ◌++◌, filter, refl, sym, ap, ◌∙◌, arith}
use Rattle.std.specs.List.{AllByRecursion}
use Rattle.std.proofs.lemmas.Bool.Decides.{nat_tests}
use Rattle.mkt_base.specs.Fills.{Fill, all_of, filled, from_front, whole}
use Rattle.mkt_base.specs.declared.order.Order.{Order}
use Rattle.book_law.specs.Sides.{total}
use Rattle.book_law.proofs.PairLemmas.{none-front}
use Rattle.book_law.proofs.Pairing.{empty-parts}
use Rattle.book_law.proofs.Pairs.{Pairs}
use Rattle.book_law.proofs.TakenLemmas.{total-cons, total-sum}

-- A test that ranked orders respect: whoever stands before one that passes, passes.
module _ (R : Order → Order → Type 0) (t : Order → Bool) (respects : (a b : Order) → R a b → t b ≡ true → t a ≡ true) where
  none-step : (b : Bool) (x y : Order) (ys : List Order) → t y ≡ b → R x y → t x ≡ false → filter t ys ≡ [] → cond b (y ∷ filter t ys) (filter t ys) ≡ []
  none-step true x y ys e r fails rest = let passes = respects x y r e in absurd (cc)
  none-step false x y ys e r fails rest = rest

  -- behind one that fails none passes
  pub none-behind : (x : Order) (ys : List Order) → AllByRecursion (R x) ys → t x ≡ false → filter t ys ≡ []
  none-behind x [] ranked fails = refl
  none-behind x (y ∷ ys) ranked fails = none-step (t y) x y ys refl ranked.0 fails (none-behind x ys ranked.1 fails)

pub total-none : total [] ≡ 0
total-none = total-sum []

-- Of ranked orders those that pass `wide` are those that pass `better` and, behind them, those that pass `at`.
module _ (R : Order → Order → Type 0) (better wide at : Order → Bool) (first : (a b : Order) → R a b → better b ≡ true → better a ≡ true) (then : (a b : Order) → R a b → wide b ≡ true → wide a ≡ true)
    (parts : (o : Order) → wide o ≡ (better o || at o)) (apart : (o : Order) → better o ≡ true → at o ≡ false) where
  nothing-wanted : (v : ℕ) (fs gs : List Fill) → v ≡ 0 → filled (from_front v fs) ≡ filled (from_front v gs)
  nothing-wanted v fs gs e = ap (λ n. filled (from_front n fs)) e ∙ none-front fs ∙ sym (none-front gs) ∙ ap (λ n. filled (from_front n gs)) (sym e)

  -- where none is better, those at the price fill from the front
  level-step : (b : Bool) (v : ℕ) (x : Order) (xs : List Order) → at x ≡ b → better x ≡ false → AllByRecursion (R x) xs → v ≤ total (filter wide (x ∷ xs))
      → ((n : ℕ) → n ≤ total (filter wide xs) → filled (from_front n (whole (filter at xs))) ≡ filled (from_front n (whole xs)))
      → filled (from_front v (whole (cond b (x ∷ filter at xs) (filter at xs)))) ≡ filled (from_front v (whole (x ∷ xs)))
  unfolding from_front
  level-step true v x xs e fails ranked most rest =
      let passes : wide x ≡ true = parts x ∙ ap (λ c. c || at x) fails ∙ e in
      let all : total (filter wide (x ∷ xs)) ≡ x.left + total (filter wide xs) = ap (λ c. total (cond c (x ∷ filter wide xs) (filter wide xs))) passes ∙ total-cons x (filter wide xs) in
      let within : v - x.left ≤ total (filter wide xs) = omega arith in
      ap (λ fs. cond (ltb 0 (min v x.left)) (record (all_of x) { qty = min v x.left } ∷ fs) fs) (rest (v - x.left) within)
  level-step false v x xs e fails ranked most rest =
      let passes : wide x ≡ false = parts x ∙ ap (λ c. c || at x) fails ∙ e in
      let none : filter wide (x ∷ xs) ≡ [] = ap (λ c. cond c (x ∷ filter wide xs) (filter wide xs)) passes ∙ none-behind R wide then x xs ranked passes in
      let nothing : total (filter wide (x ∷ xs)) ≡ 0 = ap total none ∙ total-none in
      nothing-wanted v (whole (filter at xs)) (whole (x ∷ xs)) (omega arith)

  by-level : (v : ℕ) (xs : List Order) → Pairs R xs → filter better xs ≡ [] → v ≤ total (filter wide xs) → filled (from_front v (whole (filter at xs))) ≡ filled (from_front v (whole xs))
  by-level v [] ranked none most = refl
  by-level v (x ∷ xs) ranked none most =
      let fails = empty-parts better x xs none in
      level-step (at x) v x xs refl fails.0 ranked.0 most (λ n h. by-level n xs ranked.1 fails.1 h)

  time-step : (b : Bool) (v : ℕ) (x : Order) (xs : List Order) → better x ≡ b → Pairs R (x ∷ xs) → total (filter better (x ∷ xs)) ≤ v → v ≤ total (filter wide (x ∷ xs))
      → ((n : ℕ) → total (filter better xs) ≤ n → n ≤ total (filter wide xs) → filled (whole (filter better xs) ++ from_front (n - total (filter better xs)) (whole (filter at xs))) ≡ filled (from_front n (whole xs)))
      → filled (whole (filter better (x ∷ xs)) ++ from_front (v - total (filter better (x ∷ xs))) (whole (filter at (x ∷ xs)))) ≡ filled (from_front v (whole (x ∷ xs)))
  unfolding from_front
  time-step true v x xs e ranked some most rest =
      let beat : filter better (x ∷ xs) ≡ x ∷ filter better xs = ap (λ c. cond c (x ∷ filter better xs) (filter better xs)) e in
      let skip : filter at (x ∷ xs) ≡ filter at xs = ap (λ c. cond c (x ∷ filter at xs) (filter at xs)) (apart x e) in
      let passes : wide x ≡ true = parts x ∙ ap (λ c. c || at x) e in
      let first-total : total (filter better (x ∷ xs)) ≡ x.left + total (filter better xs) = ap total beat ∙ total-cons x (filter better xs) in
      let all-total : total (filter wide (x ∷ xs)) ≡ x.left + total (filter wide xs) = ap (λ c. total (cond c (x ∷ filter wide xs) (filter wide xs))) passes ∙ total-cons x (filter wide xs) in
      let whole-first : x.left ≡ min v x.left = grind (arith, nat_tests, first-total, some) in
      let same : v - total (filter better (x ∷ xs)) ≡ (v - x.left) - total (filter better xs) = omega arith in
      let others = rest (v - x.left) (omega arith) (omega arith) in
      ap (λ ys. filled (whole ys ++ from_front (v - total (filter better (x ∷ xs))) (whole (filter at (x ∷ xs))))) beat
      ∙ ap (λ n. filled (whole (x ∷ filter better xs) ++ from_front n (whole (filter at (x ∷ xs))))) same
      ∙ ap (λ ys. filled (whole (x ∷ filter better xs) ++ from_front ((v - x.left) - total (filter better xs)) (whole ys))) skip
      ∙ ap (λ fs. cond (ltb 0 x.left) (all_of x ∷ fs) fs) others
      ∙ ap (λ n. cond (ltb 0 n) (record (all_of x) { qty = n } ∷ filled (from_front (v - x.left) (whole xs))) (filled (from_front (v - x.left) (whole xs)))) whole-first
  time-step false v x xs e ranked some most rest =
      let none : filter better (x ∷ xs) ≡ [] = ap (λ c. cond c (x ∷ filter better xs) (filter better xs)) e ∙ none-behind R better first x xs ranked.0 e in
      let nothing : total (filter better (x ∷ xs)) ≡ 0 = ap total none ∙ total-none in
      let all : v - total (filter better (x ∷ xs)) ≡ v = omega arith in
      ap (λ ys. filled (whole ys ++ from_front (v - total (filter better (x ∷ xs))) (whole (filter at (x ∷ xs))))) none
      ∙ ap (λ n. filled (from_front n (whole (filter at (x ∷ xs))))) all
      ∙ by-level v (x ∷ xs) ranked none most

  -- by time: the better ones whole, and then those at the price from the front, are what the volume takes from the front of all
  pub by-time : (v : ℕ) (xs : List Order) → Pairs R xs → total (filter better xs) ≤ v → v ≤ total (filter wide xs)
      → filled (whole (filter better xs) ++ from_front (v - total (filter better xs)) (whole (filter at xs))) ≡ filled (from_front v (whole xs))
  unfolding from_front
  by-time v [] ranked some most = refl
  by-time v (x ∷ xs) ranked some most = time-step (better x) v x xs refl ranked some most (λ n h k. by-time n xs ranked.1 h k)
