-- The first order of a side, and the one after another, by the search over the list.
use Rattle.std.proofs.Common.{◌≡◌, ℕ, zero, suc, ◌<◌, Bool, true, false, ltb, eqb, ◌&&◌, ◌||◌, List, [], ◌∷◌, ◌++◌, length, get_or, Option, Some, None, refl, sym, ◌∙◌, ap, subst, inl, inr, arith}
use Rattle.std.specs.List.{All, AllPairs, Contains, after_first, before_first, position_or_len, slice_get}
use Rattle.std.specs.Option.{option_map}
use Rattle.std.proofs.lemmas.Bool.{cases_lt, eq-eqb, eqb-true, false≢true}
use Rattle.std.proofs.lemmas.Bool.Decides.{nat_tests}
use Rattle.std.proofs.lemmas.List.{get_or-map, get_or_default, length-map}
use Rattle.std.proofs.lemmas.List.Elements.{All-contains, Contains-append_cases, Contains-append_right}
use Rattle.std.proofs.lemmas.List.Folds.{find_at}
use Rattle.std.proofs.lemmas.List.Sums.{fails_before_first, passes_at_first, split_at_first}
use Rattle.std.proofs.lemmas.Option.{get_or_from_slice_get, same_Some, slice_get_within}
use Rattle.mkt_base.specs.Priority.{in_priority, is_same_side}
use Rattle.mkt_base.specs.declared.order.Side.{Side}
use Rattle.mkt_base.specs.declared.order.Side.TheVariants.{Buy, Sell}
use Rattle.mkt_base.specs.declared.order.Order.{Order}
use Rattle.book_law.specs.BookView.{BookView, IsBookView, IsSpotBelow, Names, NamesFirst, is_at, side_of, slot_of}
use Rattle.order_book.specs.Plain.{IsFirst, by_place, is_ahead, is_wanted, plain, rank}
use Rattle.order_book.proofs.PlainLemmas.{found-at, on-grid, orders-are, rising}
use Rattle.order_book.proofs.RankLemmas.{side-ahead}
use Rattle.order_book.proofs.SideLemmas.{and-first, and-second, both, side-has, side-holds, side-own}

-- behind a front part
All-behind : {X : Type 0} (P : X → Type 0) (front rest : List X) → All P (front ++ rest) → All P rest
All-behind P [] rest all = all
All-behind P (x ∷ front) rest all = All-behind P front rest (λ k d h. all (suc k) d (omega (arith, h)))

-- pairs behind a front part
AllPairs-behind : {X : Type 0} (R : X → X → Type 0) (front rest : List X) → AllPairs R (front ++ rest) → AllPairs R rest
AllPairs-behind R [] rest all = all
AllPairs-behind R (x ∷ front) rest all = AllPairs-behind R front rest (λ i j d h k. all (suc i) (suc j) d (omega (arith, h)) (omega (arith, k)))

-- each of the front is in the relation to one behind it
across : {X : Type 0} (R : X → X → Type 0) (front : List X) (o : X) (rest : List X) (f : X) → AllPairs R (front ++ o ∷ rest) → Contains front f → R f o
across R [] o rest f all (k, h, e) = absurd (omega (arith, h))
across R (x ∷ front) o rest f all (zero, h, e) =
    let later : All (R x) (front ++ o ∷ rest) = λ k d l. all 0 (suc k) d (omega arith) (omega (arith, l)) in
    let behind : R x o = All-contains (R x) (front ++ o ∷ rest) o later (Contains-append_right front (o ∷ rest) o (0, omega arith, refl)) in
    subst (λ y. R y o) e behind
across R (x ∷ front) o rest f all (suc k, h, e) = across R front o rest f (λ i j d l m. all (suc i) (suc j) d (omega (arith, l)) (omega (arith, m))) (k, omega (arith, h), e)

-- no order is ahead of itself, and no two of each other
ahead-once : (r p s q : ℕ) → (ltb r s || (eqb r s && ltb p q)) ≡ true → (ltb s r || (eqb s r && ltb q p)) ≡ false
ahead-once r p s q so = grind (arith, nat_tests)

-- a test and one that always passes
and-true : (a : Bool) → a ≡ true → (a && true) ≡ true
and-true true e = refl
and-true false e = e

module _ (n c : ℕ) (os : List Order) (book : IsBookView (plain n c os)) (side : Side) where
  -- the side in its priority
  line : List Order
  line = in_priority n side os

  -- the first order comes before the second
  Ahead : Order → Order → Type 0
  Ahead a b = is_ahead n side a b ≡ true

  -- then the second does not come before the first
  not-both : (a b : Order) → Ahead a b → is_ahead n side b a ≡ false
  unfolding Ahead
  not-both a b so = ahead-once (rank n side a.spot) a.place (rank n side b.spot) b.place so

  -- an order of the list has its place as its handle
  pub named : (x : Order) → Contains os x → Names (plain n c os) x.place x
  named x (k, h, e) = found-at x.place os k x (rising n c os book) h (sym e) refl

  -- where none comes before an order of a list in its order, it is the list's first
  head-is : (rest : List Order) (f : Order) → AllPairs Ahead rest → Contains rest f → All (λ y. is_ahead n side y f ≡ false) rest → slice_get rest 0 ≡ Some f
  unfolding Ahead
  head-is [] f pairs (k, h, e) all = absurd (omega (arith, h))
  head-is (r ∷ rest) f pairs (zero, h, e) all = ap (λ y. Some y) e
  head-is (r ∷ rest) f pairs (suc k, h, e) all =
      let so : is_ahead n side r f ≡ true = subst (λ y. is_ahead n side r y ≡ true) e (pairs 0 (suc k) f (omega arith) (omega (arith, h))) in
      absurd (false≢true (sym (all 0 r (omega arith)) ∙ so))

  -- the first of the wanted orders is named where they are this part of the side
  first-named : (after found : Option Order) (rest : List Order) → AllPairs Ahead rest → All (λ y. is_wanted n side after y ≡ true) rest
      → ((P : Order → Type 0) → All P os → All P rest) → ((f : Order) → Contains os f → is_wanted n side after f ≡ true → Contains rest f)
      → IsFirst n side after os found → NamesFirst (plain n c os) rest (option_map (λ o. o.place) found)
  first-named after None [] pairs wanted holds has first = refl
  first-named after None (r ∷ rest) pairs wanted holds has first =
      absurd (false≢true (sym (holds (λ y. is_wanted n side after y ≡ false) first 0 r (omega arith)) ∙ wanted 0 r (omega arith)))
  first-named after (Some f) rest pairs wanted holds has first =
      let none = holds (λ y. is_wanted n side after y ≡ true → is_ahead n side y f ≡ false) first.2 in
      (f, named f first.0, head-is rest f pairs (has f first.0 first.1) (λ k d h. none k d h (wanted k d h)))

  -- each order of the side comes before those behind it
  side-pairs : AllPairs Ahead line
  unfolding Ahead line
  side-pairs = side-ahead n side os (rising n c os book) (on-grid n c os book)

  -- an order of the list that is of the side stands in its line
  line-has : (f : Order) → Contains os f → is_same_side side f.side ≡ true → Contains line f
  unfolding line
  line-has f has so = side-has side os n f has so (All-contains (λ o. IsSpotBelow n o.spot) os f (on-grid n c os book) has)

  -- the first of the side
  pub best-named : (found : Option Order) → IsFirst n side None os found → NamesFirst (plain n c os) (in_priority n side os) (option_map (λ o. o.place) found)
  unfolding line
  best-named found first =
      first-named None found line side-pairs (λ k d h. and-true (is_same_side side (get_or line k d).side) (side-own side os n k d h)) (side-holds side os n)
      (λ f has so. line-has f has (and-first (is_same_side side f.side) true so)) first

  -- an order that another is ahead of stands behind it
  in-rest : (o : Order) (front rest : List Order) (f : Order) → AllPairs Ahead (front ++ o ∷ rest) → Contains (front ++ o ∷ rest) f → is_ahead n side o f ≡ true → Contains rest f
  unfolding Ahead
  in-rest o front rest f pairs has so =
      elim (Contains-append_cases front (o ∷ rest) f has) [
        | inl before ↦ absurd (false≢true (sym (not-both f o (across Ahead front o rest f pairs before)) ∙ so))
        | inr behind ↦ later o rest f behind so
      ]
    where
      later : (o : Order) (rest : List Order) (f : Order) → Contains (o ∷ rest) f → is_ahead n side o f ≡ true → Contains rest f
      later o rest f (zero, h, e) so =
          let itself : is_ahead n side f f ≡ true = subst (λ y. is_ahead n side y f ≡ true) e so in
          absurd (false≢true (sym (not-both f f itself) ∙ itself))
      later o rest f (suc k, h, e) so = (k, omega (arith, h), e)

  -- the first behind an order
  next-named : (o : Order) (found : Option Order) (front rest : List Order) → IsFirst n side (Some o) os found → in_priority n side os ≡ front ++ o ∷ rest
      → NamesFirst (plain n c os) rest (option_map (λ x. x.place) found)
  unfolding line Ahead
  next-named o found front rest first parts =
      let pairs : AllPairs Ahead (front ++ o ∷ rest) = subst (AllPairs Ahead) parts side-pairs in
      let behind : AllPairs Ahead (o ∷ rest) = AllPairs-behind Ahead front (o ∷ rest) pairs in
      let own : All (λ y. is_same_side side y.side ≡ true) (front ++ o ∷ rest) = subst (All (λ y. is_same_side side y.side ≡ true)) parts (side-own side os n) in
      let own-rest = All-behind (λ y. is_same_side side y.side ≡ true) front (o ∷ rest) own in
      first-named (Some o) found rest (λ i j d h k. behind (suc i) (suc j) d (omega (arith, h)) (omega (arith, k)))
      (λ k d h. both (is_same_side side (get_or rest k d).side) (is_ahead n side o (get_or rest k d)) (own-rest (suc k) d (omega (arith, h))) (behind 0 (suc k) d (omega arith) (omega (arith, h))))
      (λ P all k d h. All-behind P front (o ∷ rest) (subst (All P) parts (side-holds side os n P all)) (suc k) d (omega (arith, h)))
      (λ f has wanted. in-rest o front rest f pairs (subst (λ xs. Contains xs f) parts (line-has f has (and-first (is_same_side side f.side) (is_ahead n side o f) wanted))) (and-second (is_same_side side f.side) (is_ahead n side o f) wanted))
      first

-- an order that a handle names is of the list
named-in : (n c h : ℕ) (os : List Order) (o : Order) → Names (plain n c os) h o → Contains os o
named-in n c h os o names =
    let shown = λ (x : Order). slot_of x.place x in
    let k = position_or_len (is_at h) (by_place os) in
    let e : slice_get (by_place os) k ≡ Some (slot_of h o) = sym (find_at (is_at h) (by_place os)) ∙ names in
    let within : k < length os = omega (arith, slice_get_within (by_place os) k (slot_of h o) e, length-map os shown) in (
      k,
      within,
      sym (ap (λ s. s.order) (get_or-map shown os k o (slot_of h o) within)) ∙ ap (λ s. s.order) (get_or_from_slice_get (by_place os) k (slot_of h o) (slot_of h o) e),
    )

-- what is the same as a side is that side
side-is : (s t : Side) → is_same_side s t ≡ true → t ≡ s
side-is Buy Buy e = refl
side-is Buy Sell e = absurd (false≢true e)
side-is Sell Buy e = absurd (false≢true e)
side-is Sell Sell e = refl

-- each side is the same as itself
own-side : (s : Side) → is_same_side s s ≡ true
own-side Buy = refl
own-side Sell = refl

module _ (n c h : ℕ) (os : List Order) (book : IsBookView (plain n c os)) (o : Order) (names : Names (plain n c os) h o) (found : Option Order) (first : IsFirst n o.side (Some o) os found) where
  -- the next along a side that the order stands on
  pub along-named : (side : Side) (front rest : List Order) → in_priority n side os ≡ front ++ o ∷ rest → NamesFirst (plain n c os) rest (option_map (λ x. x.place) found)
  along-named side front rest parts =
      let own : is_same_side side o.side ≡ true =
      All-contains (λ y. is_same_side side y.side ≡ true) (in_priority n side os) o (side-own side os n)
      (subst (λ xs. Contains xs o) (sym parts) (Contains-append_right front (o ∷ rest) o (0, omega arith, refl))) in
      next-named n c os book side o found front rest (subst (λ s. IsFirst n s (Some o) os found) (side-is side o.side own) first) parts

  -- only one order has the place
  only-one : All (λ y. y.place ≡ o.place → y ≡ o) os
  only-one m d within same =
      let here = named-in n c h os o names in
      let k = here.0 in
      let inside : k < length os = here.1 in
      let is : get_or os k o ≡ o = here.2 in
      let at : (get_or os k d).place ≡ o.place = ap (λ x. x.place) (get_or_default os k d o inside ∙ is) in
      elim (cases_lt m k) [
        | inl less ↦ let strict = rising n c os book m k d less inside in absurd (omega (arith, strict, same, at))
        | inr more ↦
            elim (cases_lt k m) [
              | inl less ↦ let strict = rising n c os book k m d less within in absurd (omega (arith, strict, same, at))
              | inr equal ↦ let e : m ≡ k = omega (arith, more, equal) in ap (λ j. get_or os j d) e ∙ get_or_default os k d o inside ∙ is
            ]
      ]

  -- the next after the order on its own side
  pub after-named : NamesFirst (plain n c os) (after_first (λ x. eqb x.place o.place) (in_priority n o.side os)) (option_map (λ x. x.place) found)
  after-named =
      let line = in_priority n o.side os in
      let test : Order → Bool = λ x. eqb x.place o.place in
      let own : is_same_side o.side o.side ≡ true = own-side o.side in
      let has = side-has o.side os n o (named-in n c h os o names) own (All-contains (λ x. IsSpotBelow n x.spot) os o (on-grid n c os book) (named-in n c h os o names)) in
      let at = position_or_len test line in
      let passes : test o ≡ true = eq-eqb o.place o.place refl in
      let within : at < length line =
      elim (cases_lt has.0 at) [
        | inl less ↦ absurd (false≢true (sym (fails_before_first test line has.0 o less) ∙ (ap test has.2 ∙ passes)))
        | inr more ↦ omega (arith, more, has.1)
      ] in
      let x = get_or line at o in
      let is : x ≡ o = side-holds o.side os n (λ y. y.place ≡ o.place → y ≡ o) only-one at o within (eqb-true x.place o.place (passes_at_first test line o within)) in
      let parts : line ≡ before_first test line ++ x ∷ after_first test line = split_at_first test line o within in
      along-named o.side (before_first test line) (after_first test line) (parts ∙ ap (λ y. before_first test line ++ y ∷ after_first test line) is)

-- the same of the book that the list stands for, and of what the search over the list found
module _ (n c : ℕ) (os items : List Order) (now : BookView) (is : plain n c os ≡ now) (same : items ≡ os) (book : IsBookView (plain n c os)) (found : Option Order) (result : Option ℕ)
    (shown : result ≡ option_map (λ o. o.place) found) where
  -- the side of the book is that of the list
  side-is_line : (side : Side) → side_of now side ≡ in_priority n side os
  side-is_line side = ap (λ b. side_of b side) (sym is) ∙ ap (in_priority n side) (orders-are os)

  -- a handle that names the first of a line names it in the book
  told : (line rest : List Order) → rest ≡ line → NamesFirst (plain n c os) line (option_map (λ o. o.place) found) → NamesFirst now rest result
  told line rest e names = subst (λ b. NamesFirst b rest result) is (subst (λ xs. NamesFirst (plain n c os) xs result) (sym e) (subst (NamesFirst (plain n c os) line) (sym shown) names))

  -- the first of the side
  pub best-is : (side : Side) → IsFirst n side None items found → NamesFirst now (side_of now side) result
  best-is side first = told (in_priority n side os) (side_of now side) (side-is_line side) (best-named n c os book side found (subst (λ xs. IsFirst n side None xs found) same first))

  module _ (h : ℕ) (x o : Order) (read : Names now h x) (names : Names now h o) (first : IsFirst n x.side (Some x) items found) where
    -- a handle names one order
    one : x ≡ o
    one = ap (λ s. s.order) (same_Some (slot_of h x) (slot_of h o) (sym read ∙ names))

    -- it names it in the list
    mine : Names (plain n c os) h o
    mine = subst (λ b. Names b h o) (sym is) names

    -- and the search was for those behind it
    first-here : IsFirst n o.side (Some o) os found
    first-here = subst (λ xs. IsFirst n o.side (Some o) xs found) same (subst (λ y. IsFirst n y.side (Some y) items found) one first)

    -- the next along a side
    pub along-is : (side : Side) (front rest : List Order) → side_of now side ≡ front ++ o ∷ rest → NamesFirst now rest result
    along-is side front rest parts = told rest rest refl (along-named n c h os book o mine found first-here side front rest (sym (side-is_line side) ∙ parts))

    -- the next behind the order on its own side
    pub after-is : NamesFirst now (after_first (λ y. eqb y.place o.place) (side_of now o.side)) result
    after-is =
        told (after_first (λ y. eqb y.place o.place) (in_priority n o.side os)) (after_first (λ y. eqb y.place o.place) (side_of now o.side))
        (ap (after_first (λ (y : Order). eqb y.place o.place)) (side-is_line o.side)) (after-named n c h os book o mine found first-here)
