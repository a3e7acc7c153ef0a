-- What a calm book, and a book that is not calm, say of the orders and of the sums.
use Rattle.std.proofs.Common.{◌≡◌, ℕ, ◌<◌, ◌≤◌, Bool, true, false, cond, not, nat_lt, nat_le, ◌&&◌, ◌||◌, ◌⊎◌, inl, inr, List, [], ◌∷◌, Option, Some, None, All, is_some, refl, sym, ap, ◌∙◌, arith, le-leb, leb-true, lt-ltb}
use Rattle.std.specs.List.{list_all, list_any, cons_option}
use Rattle.mkt_base.specs.declared.units.Price.{Price}
use Rattle.mkt_base.specs.declared.order.Order.{Order}
use Rattle.mkt_base.specs.Book.{limit_of, is_buy, is_market_or, is_buy_at, is_buy_above, is_sell_at, is_sell_below, buys, above, sells, below}
use Rattle.auction_law.specs.Attempt.{side_limit, limits, is_calm}
use Rattle.auction_law.proofs.NearnessLemmas.{lt_or_le, IsIn, Contains-from_IsIn}
use Rattle.auction_law.proofs.SumsLemmas.{total_left-pos, total_left-some}

pub list_all-false : {X : Type 0} (f : X → Bool) (xs : List X) → list_all f xs ≡ false → (x : X) × IsIn x xs × (f x ≡ false)
unfolding IsIn
list_all-false f [] e = absurd (cc)
list_all-false {X = X} f (x ∷ xs) e = at (f x) refl e (list_all-false f xs)
  where
    at : (b : Bool) → f x ≡ b → (b && list_all f xs) ≡ false → (list_all f xs ≡ false → (x : X) × IsIn x xs × (f x ≡ false)) → (y : X) × ((y ≡ x) ⊎ IsIn y xs) × (f y ≡ false)
    at true t u i = let w = i u in (w.0, inr w.1, w.2)
    at false t u i = (x, inl refl, t)

pub list_all-at : {X : Type 0} (f : X → Bool) (xs : List X) (x : X) → list_all f xs ≡ true → IsIn x xs → f x ≡ true
unfolding IsIn
list_all-at f [] x e i = absurd i
list_all-at f (y ∷ ys) x e i = at (f y) refl e (λ u j. list_all-at f ys x u j)
  where
    at : (b : Bool) → f y ≡ b → (b && list_all f ys) ≡ true → (list_all f ys ≡ true → IsIn x ys → f x ≡ true) → f x ≡ true
    at true t u h = elim i [ inl e ↦ ap f e ∙ t | inr j ↦ h u j ]
    at false t u h = absurd (cc)

pub list_any-true : {X : Type 0} (f : X → Bool) (xs : List X) → list_any f xs ≡ true → (x : X) × IsIn x xs × (f x ≡ true)
unfolding IsIn
list_any-true f [] e = absurd (cc)
list_any-true {X = X} f (x ∷ xs) e = at (f x) refl e (list_any-true f xs)
  where
    at : (b : Bool) → f x ≡ b → (b || list_any f xs) ≡ true → (list_any f xs ≡ true → (x : X) × IsIn x xs × (f x ≡ true)) → (y : X) × ((y ≡ x) ⊎ IsIn y xs) × (f y ≡ true)
    at true t u i = (x, inl refl, t)
    at false t u i = let w = i u in (w.0, inr w.1, w.2)

pub list_any-in : {X : Type 0} (f : X → Bool) (xs : List X) (x : X) → IsIn x xs → f x ≡ true → list_any f xs ≡ true
unfolding IsIn
list_any-in f [] x i t = absurd i
list_any-in f (y ∷ ys) x i t = at (f y) refl (λ j. list_any-in f ys x j t)
  where
    at : (b : Bool) → f y ≡ b → (IsIn x ys → list_any f ys ≡ true) → (b || list_any f ys) ≡ true
    at true u h = refl
    at false u h = elim i [ inl e ↦ let w : f y ≡ true = ap f (sym e) ∙ t in absurd (cc) | inr j ↦ h j ]

-- a limit of a side is that of an order of the side
pub pick-some : (buying side : Bool) (limit : Option ℕ) (p : ℕ) → cond (cond buying side (not side)) limit None ≡ Some p → (side ≡ buying) × (limit ≡ Some p)
pick-some true true limit p e = (refl, e)
pick-some true false limit p e = absurd (cc)
pick-some false true limit p e = absurd (cc)
pick-some false false limit p e = (refl, e)

pub pick-of : (buying side : Bool) (limit : Option ℕ) (p : ℕ) → side ≡ buying → limit ≡ Some p → cond (cond buying side (not side)) limit None ≡ Some p
pick-of true true limit p s e = e
pick-of true false limit p s e = absurd (cc)
pick-of false true limit p s e = absurd (cc)
pick-of false false limit p s e = e

pub limits-from : (grid : List Price) (buying : Bool) (orders : List Order) (p : ℕ) → IsIn p (limits grid buying orders)
    → (o : Order) × IsIn o orders × (is_buy o.side ≡ buying) × (limit_of grid o.spot ≡ Some p)
unfolding IsIn
limits-from grid buying [] p i = absurd i
limits-from grid buying (o ∷ os) p i = at (side_limit grid buying o) refl i (limits-from grid buying os p)
  where
    at : (l : Option ℕ) → side_limit grid buying o ≡ l → IsIn p (cons_option l (limits grid buying os))
        → (IsIn p (limits grid buying os) → (o : Order) × IsIn o os × (is_buy o.side ≡ buying) × (limit_of grid o.spot ≡ Some p))
        → (x : Order) × ((x ≡ o) ⊎ IsIn x os) × (is_buy x.side ≡ buying) × (limit_of grid x.spot ≡ Some p)
    at None e j h = let w = h j in (w.0, inr w.1, w.2, w.3)
    at (Some q) e j h = elim j [
      | inl s ↦ let w = pick-some buying (is_buy o.side) (limit_of grid o.spot) p (e ∙ ap Some (sym s)) in (o, inl refl, w.0, w.1)
      | inr k ↦ let w = h k in (w.0, inr w.1, w.2, w.3)
    ]

pub limits-of : (grid : List Price) (buying : Bool) (orders : List Order) (o : Order) (p : ℕ) → IsIn o orders → is_buy o.side ≡ buying → limit_of grid o.spot ≡ Some p
    → IsIn p (limits grid buying orders)
unfolding IsIn
limits-of grid buying [] o p i s e = absurd i
limits-of grid buying (x ∷ xs) o p i s e = at (side_limit grid buying x) refl (λ j. limits-of grid buying xs o p j s e)
  where
    at : (l : Option ℕ) → side_limit grid buying x ≡ l → (IsIn o xs → IsIn p (limits grid buying xs)) → IsIn p (cons_option l (limits grid buying xs))
    at None f h = elim i [
      | inl same ↦ let w : side_limit grid buying x ≡ Some p = ap (side_limit grid buying) (sym same) ∙ pick-of buying (is_buy o.side) (limit_of grid o.spot) p s e in absurd (cc)
      | inr j ↦ h j
    ]
    at (Some q) f h = elim i [
      | inl same ↦ let w : side_limit grid buying x ≡ Some p = ap (side_limit grid buying) (sym same) ∙ pick-of buying (is_buy o.side) (limit_of grid o.spot) p s e in inl (cc)
      | inr j ↦ inr (h j)
    ]

-- an order with a limit that passes a test of market orders and of limits
pub at-limit : (f : ℕ → Bool) (limit : Option ℕ) → is_some limit ≡ true → is_market_or f limit ≡ true → (p : ℕ) × (limit ≡ Some p) × (f p ≡ true)
at-limit f None s t = absurd (cc)
at-limit f (Some p) s t = (p, refl, t)

pub and-left : (a b : Bool) → (a && b) ≡ true → a ≡ true
and-left true b t = refl
and-left false b t = t

pub and-right : (a b : Bool) → (a && b) ≡ true → b ≡ true
and-right true b t = t
and-right false b t = absurd (cc)

pub and-true : (a b : Bool) → a ≡ true → b ≡ true → (a && b) ≡ true
and-true true b s t = t
and-true false b s t = s

pub not-true : (a : Bool) → not a ≡ true → a ≡ false
not-true true t = absurd (cc)
not-true false t = refl

pub not-false : (a : Bool) → not a ≡ false → a ≡ true
not-false true t = refl
not-false false t = absurd (cc)

-- where nobody presses, no price has a buy and a sell
pub calm-apart : (grid : List Price) (orders : List Order) (p : ℕ) → is_calm grid orders ≡ true → 1 ≤ buys grid orders p → 1 ≤ sells grid orders p → ⊥
unfolding is_calm
calm-apart grid orders p t hb hs =
    let limited = and-left _ _ t in
    let apart = not-true _ (and-right (list_all (λ o. is_some (limit_of grid o.spot)) orders) _ t) in
    let buyer = total_left-some (is_buy_at grid p) orders hb in
    let seller = total_left-some (is_sell_at grid p) orders hs in
    let bid = at-limit (λ limit. nat_le p limit) (limit_of grid buyer.0.spot) (list_all-at (λ o. is_some (limit_of grid o.spot)) orders buyer.0 limited buyer.2) (and-right (is_buy buyer.0.side) _ buyer.1) in
    let ask = at-limit (λ limit. nat_le limit p) (limit_of grid seller.0.spot) (list_all-at (λ o. is_some (limit_of grid o.spot)) orders seller.0 limited seller.2) (and-right (not (is_buy seller.0.side)) _ seller.1) in
    let bid_in = limits-of grid true orders buyer.0 bid.0 buyer.2 (and-left (is_buy buyer.0.side) _ buyer.1) bid.1 in
    let ask_in = limits-of grid false orders seller.0 ask.0 seller.2 (not-true _ (and-left (not (is_buy seller.0.side)) _ seller.1)) ask.1 in
    let ordered : nat_le ask.0 bid.0 ≡ true = le-leb _ _ (omega (arith, leb-true _ _ bid.2, leb-true _ _ ask.2)) in
    let meet = list_any-in (λ bid. list_any (λ ask. nat_le ask bid) (limits grid false orders)) (limits grid true orders) bid.0 bid_in
    (list_any-in (λ ask. nat_le ask bid.0) (limits grid false orders) ask.0 ask_in ordered) in
    cc

-- otherwise each price has a buy and a sell, or something better than the price
pub not_calm-tells : (grid : List Price) (orders : List Order) (p : ℕ) → All (λ o. 0 < o.left) orders → is_calm grid orders ≡ false
    → ((1 ≤ buys grid orders p) × (1 ≤ sells grid orders p)) ⊎ ((1 ≤ above grid orders p) ⊎ (1 ≤ below grid orders p))
unfolding is_calm
not_calm-tells grid orders p left f = at (list_all (λ o. is_some (limit_of grid o.spot)) orders) refl f
  where
    something : (o : Order) → IsIn o orders → 0 < o.left
    something o i = let w = Contains-from_IsIn o orders i in rw w.2 at (left w.0 o w.1)

    market : (limit : Option ℕ) → is_some limit ≡ false → limit ≡ None
    market None e = refl
    market (Some q) e = absurd (cc)

    by_side : (o : Order) → IsIn o orders → limit_of grid o.spot ≡ None → (b : Bool) → is_buy o.side ≡ b → ((1 ≤ buys grid orders p) × (1 ≤ sells grid orders p)) ⊎ ((1 ≤ above grid orders p) ⊎ (1 ≤ below grid orders p))
    by_side o i m true s = inr (inl (total_left-pos (is_buy_above grid p) orders o i (and-true _ _ s (ap (is_market_or (λ limit. nat_lt p limit)) m)) (something o i)))
    by_side o i m false s = inr (inr (total_left-pos (is_sell_below grid p) orders o i (and-true _ _ (ap not s) (ap (is_market_or (λ limit. nat_lt limit p)) m)) (something o i)))

    crossing : list_any (λ bid. list_any (λ ask. nat_le ask bid) (limits grid false orders)) (limits grid true orders) ≡ true
        → ((1 ≤ buys grid orders p) × (1 ≤ sells grid orders p)) ⊎ ((1 ≤ above grid orders p) ⊎ (1 ≤ below grid orders p))
    crossing t =
        let bid = list_any-true (λ bid. list_any (λ ask. nat_le ask bid) (limits grid false orders)) (limits grid true orders) t in
        let ask = list_any-true (λ ask. nat_le ask bid.0) (limits grid false orders) bid.2 in
        let ordered : ask.0 ≤ bid.0 = leb-true _ _ ask.2 in
        let buyer = limits-from grid true orders bid.0 bid.1 in
        let seller = limits-from grid false orders ask.0 ask.1 in
        elim (lt_or_le p bid.0) [
          | inl h ↦ inr (inl (total_left-pos (is_buy_above grid p) orders buyer.0 buyer.1 (and-true _ _ buyer.2 (ap (is_market_or (λ limit. nat_lt p limit)) buyer.3 ∙ lt-ltb _ _ h)) (something buyer.0 buyer.1)))
          | inr h ↦ elim (lt_or_le ask.0 p) [
            | inl k ↦ inr (inr (total_left-pos (is_sell_below grid p) orders seller.0 seller.1 (and-true _ _ (ap not seller.2) (ap (is_market_or (λ limit. nat_lt limit p)) seller.3 ∙ lt-ltb _ _ k)) (something seller.0 seller.1)))
            | inr k ↦ inl (
              total_left-pos (is_buy_at grid p) orders buyer.0 buyer.1 (and-true _ _ buyer.2 (ap (is_market_or (λ limit. nat_le p limit)) buyer.3 ∙ le-leb _ _ (omega arith))) (something buyer.0 buyer.1),
              total_left-pos (is_sell_at grid p) orders seller.0 seller.1 (and-true _ _ (ap not seller.2) (ap (is_market_or (λ limit. nat_le limit p)) seller.3 ∙ le-leb _ _ (omega arith))) (something seller.0 seller.1),
            )
          ]
        ]

    at : (b : Bool) → list_all (λ o. is_some (limit_of grid o.spot)) orders ≡ b → (b && not (list_any (λ bid. list_any (λ ask. nat_le ask bid) (limits grid false orders)) (limits grid true orders))) ≡ false
        → ((1 ≤ buys grid orders p) × (1 ≤ sells grid orders p)) ⊎ ((1 ≤ above grid orders p) ⊎ (1 ≤ below grid orders p))
    at true e u = crossing (not-false _ u)
    at false e u = let w = list_all-false (λ o. is_some (limit_of grid o.spot)) orders e in by_side w.0 w.1 (market _ w.2) (is_buy w.0.side) refl
