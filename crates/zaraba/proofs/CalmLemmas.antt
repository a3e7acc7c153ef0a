-- An order that is done leaves a calm book: it took all that it crosses, or has nothing left.
use Rattle.std.proofs.Common.{◌≡◌, ℕ, Bool, true, false, leb, not, List, [], ◌∷◌, Option, Some, None, refl, ap}
use Rattle.std.specs.List.{AllByRecursion, cons_option, filter_map, list_all, list_any}
use Rattle.std.specs.Option.{is_some}
use Rattle.std.proofs.lemmas.Bool.{and_from, and_parts, or_from, or_parts}
use Rattle.mkt_base.specs.Book.{limit_of}
use Rattle.mkt_base.specs.declared.order.Order.{Order}
use Rattle.mkt_base.specs.declared.units.Price.{Price}
use Rattle.auction_law.specs.Attempt.{all_limited, crosses as limits_cross, is_calm, limits, side_limit}

-- A list of bids against a list of asks, where there are any.
module _ (h : Order → Option ℕ) where
  ask-apart : (p : ℕ) (v : Option ℕ) (ps : List ℕ) → list_any (λ ask. leb ask p) (cons_option v ps) ≡ false → (limits_cross (Some p) v ≡ false) × (list_any (λ ask. leb ask p) ps ≡ false)
  ask-apart p None ps e = (refl, e)
  ask-apart p (Some q) ps e = or_parts (leb q p) (list_any (λ ask. leb ask p) ps) e

  asks-apart : (p : ℕ) (ys : List Order) → list_any (λ ask. leb ask p) (filter_map h ys) ≡ false → AllByRecursion (λ b. limits_cross (Some p) (h b) ≡ false) ys
  asks-apart p [] e = tt
  asks-apart p (y ∷ ys) e = let parts = ask-apart p (h y) (filter_map h ys) e in (parts.0, asks-apart p ys parts.1)

  none-crossing : (ys : List Order) → AllByRecursion (λ b. limits_cross None (h b) ≡ false) ys
  none-crossing [] = tt
  none-crossing (y ∷ ys) = (refl, none-crossing ys)

  ask-meets : (p : ℕ) (v : Option ℕ) (ps : List ℕ) → limits_cross (Some p) v ≡ false → list_any (λ ask. leb ask p) ps ≡ false → list_any (λ ask. leb ask p) (cons_option v ps) ≡ false
  ask-meets p None ps e f = f
  ask-meets p (Some q) ps e f = or_from (leb q p) (list_any (λ ask. leb ask p) ps) e f

  asks-meet : (p : ℕ) (ys : List Order) → AllByRecursion (λ b. limits_cross (Some p) (h b) ≡ false) ys → list_any (λ ask. leb ask p) (filter_map h ys) ≡ false
  asks-meet p [] all = refl
  asks-meet p (y ∷ ys) all = ask-meets p (h y) (filter_map h ys) all.0 (asks-meet p ys all.1)

  module _ (g : Order → Option ℕ) (ys : List Order) where
    -- some ask is at or below the bid
    abbrev met : ℕ → Bool
    met bid = list_any (λ ask. leb ask bid) (filter_map h ys)

    bid-apart : (v : Option ℕ) (ps : List ℕ) → list_any met (cons_option v ps) ≡ false → AllByRecursion (λ b. limits_cross v (h b) ≡ false) ys × (list_any met ps ≡ false)
    bid-apart None ps e = (none-crossing ys, e)
    bid-apart (Some p) ps e = let parts = or_parts (met p) (list_any met ps) e in (asks-apart p ys parts.0, parts.1)

    pub bids-apart : (xs : List Order) → list_any met (filter_map g xs) ≡ false → AllByRecursion (λ a. AllByRecursion (λ b. limits_cross (g a) (h b) ≡ false) ys) xs
    bids-apart [] e = tt
    bids-apart (x ∷ xs) e = let parts = bid-apart (g x) (filter_map g xs) e in (parts.0, bids-apart xs parts.1)

    bid-meets : (v : Option ℕ) (ps : List ℕ) → AllByRecursion (λ b. limits_cross v (h b) ≡ false) ys → list_any met ps ≡ false → list_any met (cons_option v ps) ≡ false
    bid-meets None ps all f = f
    bid-meets (Some p) ps all f = or_from (met p) (list_any met ps) (asks-meet p ys all) f

    pub bids-meet : (xs : List Order) → AllByRecursion (λ a. AllByRecursion (λ b. limits_cross (g a) (h b) ≡ false) ys) xs → list_any met (filter_map g xs) ≡ false
    bids-meet [] all = refl
    bids-meet (x ∷ xs) all = bid-meets (g x) (filter_map g xs) all.0 (bids-meet xs all.1)

module _ (grid : List Price) where
  -- the limit buy a does not reach the limit sell b
  abbrev pub Apart : Order → Order → Type 0
  Apart a b = limits_cross (side_limit grid true a) (side_limit grid false b) ≡ false

  all-pass : (t : Order → Bool) (os : List Order) → list_all t os ≡ true → AllByRecursion (λ o. t o ≡ true) os
  all-pass t [] e = tt
  all-pass t (o ∷ os) e = let parts = and_parts (t o) (list_all t os) e in (parts.0, all-pass t os parts.1)

  all-passed : (t : Order → Bool) (os : List Order) → AllByRecursion (λ o. t o ≡ true) os → list_all t os ≡ true
  all-passed t [] all = refl
  all-passed t (o ∷ os) all = and_from (t o) (list_all t os) all.0 (all-passed t os all.1)

  -- some limit buy reaches a limit sell
  abbrev crossing : List Order → Bool
  crossing os = list_any (λ bid. list_any (λ ask. leb ask bid) (limits grid false os)) (limits grid true os)

  -- a calm book in pairs
  pub calm-limited : (os : List Order) → is_calm grid os ≡ true → AllByRecursion (λ o. is_some (limit_of grid o.spot) ≡ true) os
  unfolding is_calm
  calm-limited os e = all-pass (λ o. is_some (limit_of grid o.spot)) os (and_parts (all_limited grid os) (not (crossing os)) e).0

  pub calm-apart : (os : List Order) → is_calm grid os ≡ true → AllByRecursion (λ a. AllByRecursion (Apart a) os) os
  unfolding is_calm
  calm-apart os e = bids-apart (side_limit grid false) (side_limit grid true) os os (not-crossing (crossing os) (and_parts (all_limited grid os) (not (crossing os)) e).1)
    where
      not-crossing : (b : Bool) → not b ≡ true → b ≡ false
      not-crossing true f = absurd (cc)
      not-crossing false f = refl

  pub calm-from : (os : List Order) → AllByRecursion (λ o. is_some (limit_of grid o.spot) ≡ true) os → AllByRecursion (λ a. AllByRecursion (Apart a) os) os → is_calm grid os ≡ true
  unfolding is_calm
  calm-from os limited apart =
      and_from (all_limited grid os) (not (crossing os)) (all-passed (λ o. is_some (limit_of grid o.spot)) os limited)
      (ap not (bids-meet (side_limit grid false) (side_limit grid true) os os apart))
