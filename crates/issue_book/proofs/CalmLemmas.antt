-- A calm book stays calm without some of its orders, and whatever they have left.
use Rattle.std.proofs.Common.{◌≡◌, ℕ, Bool, true, false, cond, IsTrue, List, [], ◌∷◌, map, filter}
use Rattle.std.specs.List.{AllByRecursion}
use Rattle.std.specs.Option.{is_some}
use Rattle.mkt_base.specs.Book.{limit_of}
use Rattle.mkt_base.specs.declared.order.Order.{Order}
use Rattle.mkt_base.specs.declared.units.Price.{Price}
use Rattle.auction_law.specs.Attempt.{is_calm}
use Rattle.zaraba.proofs.CalmLemmas.{Apart, calm-apart, calm-from, calm-limited}

-- what holds of all holds of those that are kept
pub all-kept : {X : Type 0} (P : X → Type 0) (t : X → Bool) (xs : List X) → AllByRecursion P xs → AllByRecursion P (filter t xs)
all-kept P t [] all = tt
all-kept P t (x ∷ xs) all = step (t x) (all-kept P t xs all.1)
  where
    step : (b : Bool) → AllByRecursion P (filter t xs) → AllByRecursion P (cond b (x ∷ filter t xs) (filter t xs))
    step true rest = (all.0, rest)
    step false rest = rest

-- what holds of each behind a map
pub all-mapped : {X : Type 0} (P : X → Type 0) (f : X → X) → ((x : X) → P x → P (f x)) → (xs : List X) → AllByRecursion P xs → AllByRecursion P (map f xs)
all-mapped P f stays [] all = tt
all-mapped P f stays (x ∷ xs) all = (stays x all.0, all-mapped P f stays xs all.1)

pub all-weaker : {X : Type 0} (P Q : X → Type 0) → ((x : X) → P x → Q x) → (xs : List X) → AllByRecursion P xs → AllByRecursion Q xs
all-weaker P Q f [] all = tt
all-weaker P Q f (x ∷ xs) all = (f x all.0, all-weaker P Q f xs all.1)

module _ (grid : List Price) where
  -- an order that has so many shares left in place of what it had
  abbrev pub with_left : (Order → ℕ) → Order → Order
  with_left f o = record o { left = f o }

  pub calm-kept : (t : Order → Bool) (os : List Order) → IsTrue (is_calm grid os) → IsTrue (is_calm grid (filter t os))
  calm-kept t os calm =
      calm-from grid (filter t os) (all-kept (λ o. is_some (limit_of grid o.spot) ≡ true) t os (calm-limited grid os calm))
      (all-kept (λ a. AllByRecursion (Apart grid a) (filter t os)) t os
      (all-weaker (λ a. AllByRecursion (Apart grid a) os) (λ a. AllByRecursion (Apart grid a) (filter t os)) (λ a. all-kept (Apart grid a) t os) os (calm-apart grid os calm)))

  pub calm-lowered : (f : Order → ℕ) (os : List Order) → IsTrue (is_calm grid os) → IsTrue (is_calm grid (map (with_left f) os))
  calm-lowered f os calm =
      calm-from grid (map (with_left f) os) (all-mapped (λ o. is_some (limit_of grid o.spot) ≡ true) (with_left f) (λ o h. h) os (calm-limited grid os calm))
      (all-mapped (λ a. AllByRecursion (Apart grid a) (map (with_left f) os)) (with_left f) (λ o h. h) os
      (all-weaker (λ a. AllByRecursion (Apart grid a) os) (λ a. AllByRecursion (Apart grid a) (map (with_left f) os)) (λ a. all-mapped (Apart grid a) (with_left f) (λ o h. h) os) os (calm-apart grid os calm)))
