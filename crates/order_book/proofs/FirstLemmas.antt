-- The first of a list in priority, one order after the other.
use Rattle.std.proofs.Common.{◌≡◌, ℕ, ◌+◌, ◌<◌, Bool, true, false, ltb, eqb, ◌&&◌, ◌||◌, List, [], ◌∷◌, ◌++◌, length, get_or, take, Option, Some, None, arith}
use Rattle.std.specs.Option.{option_map_or}
use Rattle.std.proofs.lemmas.Bool.Decides.{nat_tests}
use Rattle.std.proofs.lemmas.List.Elements.{All-push, All-weaker, Contains-append_left, Contains-push}
use Rattle.std.proofs.lemmas.List.{take_more}
use Rattle.mkt_base.specs.declared.order.Side.{Side}
use Rattle.mkt_base.specs.declared.order.Order.{Order}
use Rattle.order_book.specs.Plain.{IsFirst, is_ahead, is_wanted, rank}

-- the pairs of two numbers, the first before the second
Before : ℕ → ℕ → ℕ → ℕ → Bool
Before r p s q = ltb r s || (eqb r s && ltb p q)

-- no pair is before itself
before-itself : (r p : ℕ) → Before r p r p ≡ false
unfolding Before
before-itself r p = grind (arith, nat_tests)

-- what is not before a pair is not before an earlier one
before-either : (r p s q t u : ℕ) → Before r p s q ≡ false → Before t u s q ≡ true → Before r p t u ≡ false
unfolding Before
before-either r p s q t u e f = grind (arith, nat_tests)

module _ (n : ℕ) (side : Side) (after : Option Order) where
  -- the order is the first so far
  pub first-taken : (os : List Order) (o : Order) (found : Option Order) → IsFirst n side after os found → is_wanted n side after o ≡ true
      → option_map_or (λ f. is_ahead n side o f) found true ≡ true → IsFirst n side after (os ++ o ∷ []) (Some o)
  unfolding Before
  first-taken os o None first wanted e =
      let P : Order → Type 0 = λ y. is_wanted n side after y ≡ true → is_ahead n side y o ≡ false in
      let Q : Order → Type 0 = λ y. is_wanted n side after y ≡ false in
      (Contains-push os o, wanted, All-push P os o (All-weaker Q P (λ y h yes. absurd (cc)) os first) (λ _. before-itself (rank n side o.spot) o.place))
  first-taken os o (Some f) first wanted e =
      let P : Order → Type 0 = λ y. is_wanted n side after y ≡ true → is_ahead n side y o ≡ false in
      let Q : Order → Type 0 = λ y. is_wanted n side after y ≡ true → is_ahead n side y f ≡ false in
      let later : (y : Order) → Q y → P y =
      λ y h yes. before-either (rank n side y.spot) y.place (rank n side f.spot) f.place (rank n side o.spot) o.place (h yes) e in
      (Contains-push os o, wanted, All-push P os o (All-weaker Q P later os first.2) (λ _. before-itself (rank n side o.spot) o.place))

  -- the first so far stays
  pub first-kept : (os : List Order) (o : Order) (found : Option Order) → IsFirst n side after os found
      → (is_wanted n side after o ≡ true → option_map_or (λ f. is_ahead n side o f) found true ≡ false) → IsFirst n side after (os ++ o ∷ []) found
  first-kept os o None first e = All-push (λ y. is_wanted n side after y ≡ false) os o first (grind arith)
  first-kept os o (Some f) first e =
      (Contains-append_left os (o ∷ []) f first.0, first.1, All-push (λ y. is_wanted n side after y ≡ true → is_ahead n side y f ≡ false) os o first.2 e)

  -- the same at a step of the search
  pub taken-at : (orders : List Order) (i : ℕ) (d : Order) (found next : Option Order) → i < length orders → IsFirst n side after (take i orders) found
      → is_wanted n side after (get_or orders i d) ≡ true → option_map_or (λ f. is_ahead n side (get_or orders i d) f) found true ≡ true → next ≡ Some (get_or orders i d)
      → IsFirst n side after (take (i + 1) orders) next
  taken-at orders i d found next within first wanted better is =
      rw (take_more orders i d within, is) (first-taken (take i orders) (get_or orders i d) found first wanted better)

  -- and where it stays
  pub kept-at : (orders : List Order) (i : ℕ) (d : Order) (found next : Option Order) → i < length orders → IsFirst n side after (take i orders) found
      → (is_wanted n side after (get_or orders i d) ≡ true → option_map_or (λ f. is_ahead n side (get_or orders i d) f) found true ≡ false) → next ≡ found
      → IsFirst n side after (take (i + 1) orders) next
  kept-at orders i d found next within first worse is =
      rw (take_more orders i d within, is) (first-kept (take i orders) (get_or orders i d) found first worse)
