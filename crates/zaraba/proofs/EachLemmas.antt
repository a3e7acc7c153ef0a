-- What holds of every arrival: what holds where no more is traded, and is kept by a trade before it.
use Rattle.std.proofs.Common.{◌≡◌, ℕ, ◌-◌, ◌<◌, min, Bool, true, false, cond, ltb, List, [], ◌∷◌, length, filter, Some, refl, sym, subst, arith}
use Rattle.std.specs.List.{AllByRecursion}
use Rattle.std.proofs.lemmas.Bool.Decides.{nat_tests}
use Rattle.mkt_base.specs.Priority.{in_priority}
use Rattle.mkt_base.specs.declared.order.Order.{Order}
use Rattle.mkt_base.specs.declared.units.Price.{Price}
use Rattle.book_law.proofs.FrontLemmas.{in_priority-all}
use Rattle.zaraba.specs.Arrival.{Arrival, arrival_over, crossed, crosses, cut_stop, ended_stop, limit_price, opposite, trade_with}
use Rattle.zaraba.specs.Walk.{is_too_far, jump_to, with_left, with_trades}
use Rattle.zaraba.specs.declared.stop.Stop.{Stop}
use Rattle.zaraba.specs.declared.stop.Stop.TheVariants.{Done}
use Rattle.zaraba.proofs.WalkLemmas.{walk-cut, walk-done, walk-more, walk-none}

-- an arrival that trades no more
abbrev pub halt : ℕ → ℕ → Stop → Arrival
halt left last stop = record { trades = []; left = left; last = last; stop = stop }

-- Resting orders for each of which Q holds, so that each has something left, and what P says of an arrival at them.
module _ (grid : List Price) (range : ℕ → ℕ) (first : ℕ) (Q : Order → Type 0) (has : (x : Order) → Q x → 0 < x.left) (P : List Order → Order → ℕ → Arrival → Type 0) where
  module _ (done : (xs : List Order) (o : Order) (last : ℕ) → o.left ≡ 0 → P xs o last (halt 0 last Done))
      (none : (o : Order) (last : ℕ) → 0 < o.left → P [] o last (halt o.left last (ended_stop o.side o.spot)))
      (cut : (x : Order) (xs : List Order) (o : Order) (last : ℕ) → 0 < o.left → Q x → is_too_far grid range first last x ≡ true → P (x ∷ xs) o last (halt o.left last (cut_stop range o (Some (jump_to grid last x)))))
      (more : (x : Order) (xs : List Order) (o : Order) (last : ℕ) (a : Arrival) → 0 < o.left → Q x → is_too_far grid range first last x ≡ false
      → P xs (with_left o (o.left - min o.left x.left)) (limit_price grid x) a → P (x ∷ xs) o last (with_trades (trade_with grid o x (min o.left x.left) ∷ []) a)) where
    next : (b : Bool) (x : Order) (xs : List Order) (o : Order) (last : ℕ) → is_too_far grid range first last x ≡ b → 0 < o.left → Q x
        → ((p : Order) (now : ℕ) → P xs p now (arrival_over grid range first xs p now)) → P (x ∷ xs) o last (arrival_over grid range first (x ∷ xs) o last)
    next true x xs o last e some q rest = subst (P (x ∷ xs) o last) (sym (walk-cut grid range first x xs o last some e)) (cut x xs o last some q e)
    next false x xs o last e some q rest =
        let n = o.left - min o.left x.left in
        subst (P (x ∷ xs) o last) (sym (walk-more grid range first x xs o last some (has x q) e))
        (more x xs o last (arrival_over grid range first xs (with_left o n) (limit_price grid x)) some q e (rest (with_left o n) (limit_price grid x)))

    start : (b : Bool) (xs : List Order) (o : Order) (last : ℕ) → ltb 0 o.left ≡ b → (0 < o.left → P xs o last (arrival_over grid range first xs o last)) → P xs o last (arrival_over grid range first xs o last)
    start true xs o last e some = some (grind (arith, nat_tests, e))
    start false xs o last e some =
        let nothing : o.left ≡ 0 = grind (arith, nat_tests, e) in
        subst (P xs o last) (sym (walk-done grid range first xs o last nothing)) (done xs o last nothing)

    pub each-walk : (xs : List Order) → AllByRecursion Q xs → (o : Order) (last : ℕ) → P xs o last (arrival_over grid range first xs o last)
    each-walk [] all o last = start (ltb 0 o.left) [] o last refl (λ some. subst (P [] o last) (sym (walk-none grid range first o last some)) (none o last some))
    each-walk (x ∷ xs) all o last = start (ltb 0 o.left) (x ∷ xs) o last refl (λ some. next (is_too_far grid range first last x) x xs o last refl some all.0 (λ p now. each-walk xs all.1 p now))

  -- the same of what does not depend on why it stops
  module _ (ends : (xs : List Order) (o : Order) (last : ℕ) (stop : Stop) → P xs o last (halt o.left last stop))
      (more : (x : Order) (xs : List Order) (o : Order) (last : ℕ) (a : Arrival) → 0 < o.left → Q x → is_too_far grid range first last x ≡ false
      → P xs (with_left o (o.left - min o.left x.left)) (limit_price grid x) a → P (x ∷ xs) o last (with_trades (trade_with grid o x (min o.left x.left) ∷ []) a)) where
    pub each-trade : (xs : List Order) → AllByRecursion Q xs → (o : Order) (last : ℕ) → P xs o last (arrival_over grid range first xs o last)
    each-trade xs all o last =
        each-walk (λ ys p now e. subst (λ n. P ys p now (halt n now Done)) e (ends ys p now Done)) (λ p now some. ends [] p now (ended_stop p.side p.spot))
        (λ y ys p now some q e. ends (y ∷ ys) p now (cut_stop range p (Some (jump_to grid now y)))) more xs all o last

-- what holds of all elements holds of those that pass a test, with what the test says of them
pub filtered : {X : Type 0} (P Q : X → Type 0) (t : X → Bool) → ((x : X) → P x → t x ≡ true → Q x) → (xs : List X) → AllByRecursion P xs → AllByRecursion Q (filter t xs)
filtered P Q t passes [] all = tt
filtered P Q t passes (x ∷ xs) all = step (t x) refl (filtered P Q t passes xs all.1)
  where
    step : (b : Bool) → t x ≡ b → AllByRecursion Q (filter t xs) → AllByRecursion Q (cond b (x ∷ filter t xs) (filter t xs))
    step true e rest = (passes x all.0 e, rest)
    step false e rest = rest

-- what holds of all orders of a book holds of those that an order crosses, and more as they are crossed
pub crossed-all : (grid : List Price) (o : Order) (P Q : Order → Type 0) → ((x : Order) → P x → crosses grid o x ≡ true → Q x) → (os : List Order) → AllByRecursion P os → AllByRecursion Q (crossed grid o os)
crossed-all grid o P Q passes os all = filtered P Q (crosses grid o) passes (in_priority (length grid) (opposite o.side) os) (in_priority-all P (opposite o.side) os all (length grid))

-- two facts of each element
pub both : (P Q : Order → Type 0) (xs : List Order) → AllByRecursion P xs → AllByRecursion Q xs → AllByRecursion (λ x. P x × Q x) xs
both P Q [] f g = tt
both P Q (x ∷ xs) f g = ((f.0, g.0), both P Q xs f.1 g.1)
