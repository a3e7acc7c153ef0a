-- An order of a book stands once in its side, and not in the other.
use Rattle.std.proofs.Common.{◌≡◌, ℕ, ◌+◌, ◌<◌, ◌≤◌, Bool, true, false, cond, eqb, List, [], ◌∷◌, filter, refl, sym, ap, ◌∙◌, arith}
use Rattle.std.specs.List.{All, AllByRecursion, AllPairs, sum_by}
use Rattle.std.proofs.lemmas.Bool.Decides.{nat_tests}
use Rattle.std.proofs.lemmas.List.Sums.{sum_by-cons}
use Rattle.mkt_base.specs.Priority.{in_priority, is_same_side}
use Rattle.mkt_base.specs.declared.order.Side.{Side}
use Rattle.mkt_base.specs.declared.order.Side.TheVariants.{Buy, Sell}
use Rattle.mkt_base.specs.declared.order.Order.{Order}
use Rattle.book_law.specs.BookView.{IsSpotBelow}
use Rattle.book_law.specs.Sides.{count_at, has_place}
use Rattle.book_law.proofs.Pairs.{Pairs, pairs-from_AllPairs}
use Rattle.book_law.proofs.Sides.{in_priority-filter, in_priority-none}
use Rattle.book_law.proofs.SideSums.{sum-priority}

-- orders at this place count one each
abbrev pub once-at : ℕ → Order → ℕ
once-at place o = cond (has_place place o) 1 0

-- an order counts for its side or for the other
one-side : (side : Side) (n : ℕ) → cond (is_same_side Buy side) n 0 + cond (is_same_side Sell side) n 0 ≡ n
one-side Buy n = omega arith
one-side Sell n = omega arith

both-sides : (f : Order → ℕ) (os : List Order) → sum_by (λ o. cond (is_same_side Buy o.side) (f o) 0) os + sum_by (λ o. cond (is_same_side Sell o.side) (f o) 0) os ≡ sum_by f os
both-sides f [] = refl
both-sides f (o ∷ os) =
    let rest = both-sides f os in
    let own = one-side o.side (f o) in
    omega (
      arith,
      rest,
      own,
      sum_by-cons (λ x. cond (is_same_side Buy x.side) (f x) 0) o os,
      sum_by-cons (λ x. cond (is_same_side Sell x.side) (f x) 0) o os,
      sum_by-cons f o os,
    )

-- what the two sides add up to is the sum over the book
pub sums-of_sides : (f : Order → ℕ) (n : ℕ) (os : List Order) → All (λ o. IsSpotBelow n o.spot) os → sum_by f (in_priority n Buy os) + sum_by f (in_priority n Sell os) ≡ sum_by f os
sums-of_sides f n os below = let rest = both-sides f os in omega (arith, rest, sum-priority f n Buy os below, sum-priority f n Sell os below)

-- where the places rise, none behind an order has its place
module _ (place : ℕ) where
  none-later : (a : ℕ) (os : List Order) → place ≤ a → AllByRecursion (λ o. a < o.place) os → count_at place os ≡ 0
  none-later a [] h later = refl
  none-later a (o ∷ os) h later =
      let after : a < o.place = later.0 in
      let apart : eqb place o.place ≡ false = grind (arith, nat_tests, after, h) in
      sum_by-cons (once-at place) o os ∙ ap (λ b. cond b 1 0 + count_at place os) apart ∙ ap (λ m. 0 + m) (none-later a os h later.1)

  at-step : (b : Bool) (o : Order) (os : List Order) → eqb place o.place ≡ b → AllByRecursion (λ x. o.place < x.place) os → count_at place os ≤ 1 → count_at place (o ∷ os) ≤ 1
  at-step true o os e later rest =
      let own : place ≤ o.place = grind (arith, nat_tests, e) in
      let none = none-later o.place os own later in
      let here : once-at place o ≡ 1 = ap (λ b. cond b 1 0) e in
      omega (arith, sum_by-cons (once-at place) o os, none, here)
  at-step false o os e later rest =
      let here : once-at place o ≡ 0 = ap (λ b. cond b 1 0) e in
      omega (arith, sum_by-cons (once-at place) o os, rest, here)

  counted-once : (os : List Order) → Pairs (λ a b. a.place < b.place) os → count_at place os ≤ 1
  counted-once [] rising = omega arith
  counted-once (o ∷ os) rising = at-step (eqb place o.place) o os refl rising.0 (counted-once os rising.1)

  pub at-most-once : (os : List Order) → AllPairs (λ a b. a.place < b.place) os → count_at place os ≤ 1
  at-most-once os rising = counted-once os (pairs-from_AllPairs (λ a b. a.place < b.place) os rising)

-- a count of nought is an empty filter, and an empty filter a count of nought
module _ (place : ℕ) where
  empty-step : (b : Bool) (o : Order) (os : List Order) → eqb place o.place ≡ b → (count_at place os ≡ 0 → filter (has_place place) os ≡ []) → count_at place (o ∷ os) ≡ 0
      → cond b (o ∷ filter (has_place place) os) (filter (has_place place) os) ≡ []
  empty-step true o os e rest none =
      let here : once-at place o ≡ 1 = ap (λ b. cond b 1 0) e in
      absurd (omega (arith, sum_by-cons (once-at place) o os, here))
  empty-step false o os e rest none =
      let here : once-at place o ≡ 0 = ap (λ b. cond b 1 0) e in
      rest (omega (arith, sum_by-cons (once-at place) o os, here))

  pub empty-from_count : (os : List Order) → count_at place os ≡ 0 → filter (has_place place) os ≡ []
  empty-from_count [] none = refl
  empty-from_count (o ∷ os) none = empty-step (eqb place o.place) o os refl (empty-from_count os) none

-- Of a book by place, whose orders stand on a grid of n prices:
module _ (n : ℕ) (os : List Order) (rising : AllPairs (λ a b. a.place < b.place) os) (below : All (λ o. IsSpotBelow n o.spot) os) where
  -- a place stands at most once in the two sides
  pub single : (place : ℕ) → count_at place (in_priority n Buy os) + count_at place (in_priority n Sell os) ≤ 1
  single place =
      let most = at-most-once place os rising in
      omega (arith, most, sums-of_sides (once-at place) n os below)

  pub length-single : (place : ℕ) (side : Side) → count_at place (in_priority n side os) ≤ 1
  length-single place Buy = omega (arith, single place)
  length-single place Sell = omega (arith, single place)

  here-one : (o : Order) → once-at o.place o ≡ 1
  here-one o = let own : eqb o.place o.place ≡ true = grind (arith, nat_tests) in ap (λ b. cond b 1 0) own

  first-one : (o : Order) (xs rest : List Order) → xs ≡ o ∷ rest → count_at o.place xs ≡ 1 + count_at o.place rest
  first-one o xs rest e = ap (count_at o.place) e ∙ sum_by-cons (once-at o.place) o rest ∙ ap (λ m. m + count_at o.place rest) (here-one o)

  -- behind the first of a side none has its place
  pub first-once : (side : Side) (o : Order) (rest : List Order) → in_priority n side os ≡ o ∷ rest → filter (has_place o.place) rest ≡ []
  first-once side o rest e =
      let most = length-single o.place side in
      let none : count_at o.place rest ≡ 0 = omega (arith, most, first-one o (in_priority n side os) rest e) in
      empty-from_count o.place rest none

  -- and on the other side none at all
  pub other-none : (o : Order) (rest : List Order) → in_priority n Buy os ≡ o ∷ rest → filter (has_place o.place) (in_priority n Sell os) ≡ []
  other-none o rest e =
      let most = single o.place in
      let none : count_at o.place (in_priority n Sell os) ≡ 0 = omega (arith, most, first-one o (in_priority n Buy os) rest e) in
      empty-from_count o.place (in_priority n Sell os) none

  pub other-none_sell : (o : Order) (rest : List Order) → in_priority n Sell os ≡ o ∷ rest → filter (has_place o.place) (in_priority n Buy os) ≡ []
  other-none_sell o rest e =
      let most = single o.place in
      let none : count_at o.place (in_priority n Buy os) ≡ 0 = omega (arith, most, first-one o (in_priority n Sell os) rest e) in
      empty-from_count o.place (in_priority n Buy os) none

-- a place that stands nowhere in the book stands on neither side
pub nowhere : (place n : ℕ) (side : Side) (os : List Order) → filter (has_place place) os ≡ [] → filter (has_place place) (in_priority n side os) ≡ []
nowhere place n side os e = sym (in_priority-filter n side (has_place place) os) ∙ ap (in_priority n side) e ∙ in_priority-none n side
