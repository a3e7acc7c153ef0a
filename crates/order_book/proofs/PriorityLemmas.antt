-- What the book answers of a side's priority is what the definitions say.
use Rattle.std.proofs.Common.{◌≡◌, ◌⊎◌, ℕ, ◌<◌, ◌≤◌, ◌&&◌, ◌||◌, Bool, true, false, eqb, ltb, List, [], ◌∷◌, ◌++◌, length, map, filter, get_or, Option, Some, None, refl, sym, ◌∙◌, ap, subst, inl, inr, arith}
use Rattle.std.specs.List.{All, AllByRecursion, Contains, after_first, find, slice_get}
use Rattle.std.proofs.lemmas.Bool.{cases_lt, eq-eqb, eqb-true, false≢true}
use Rattle.std.proofs.lemmas.Bool.Decides.{nat_tests}
use Rattle.std.proofs.lemmas.List.Elements.{All-contains}
use Rattle.std.proofs.lemmas.Option.{same_Some}
use Rattle.order_list.specs.Lists.{IsIn, Linked, Lists, first_link, is_at as is_link_at, list_at}
use Rattle.mkt_base.specs.Priority.{is_on_level, is_same_side, is_same_spot}
use Rattle.mkt_base.specs.declared.order.Side.{Side}
use Rattle.mkt_base.specs.declared.order.Side.TheVariants.{Buy, Sell}
use Rattle.mkt_base.specs.declared.order.Spot.{Spot}
use Rattle.mkt_base.specs.declared.order.Spot.TheVariants.{Market, At}
use Rattle.mkt_base.specs.declared.order.Order.{Order}
use Rattle.book_law.specs.BookView.{BookView, IsBookView, IsSpotBelow, Names, NamesFirst, orders, side_of, slot_of}
use Rattle.order_book.specs.Depths.{DepthView, IsNextBehind, IsNoneBehind, depth_at}
use Rattle.order_book.specs.Linked.{IsLinked, filed_at, level_at, level_key, level_no, linked, orders_in}
use Rattle.order_book.specs.Plain.{FindsFirst, IsFirstBy, is_ahead, is_behind, is_wanted, plain, rank}
use Rattle.order_book.specs.declared.held.Held.{Held}
use Rattle.order_book.proofs.BookLemmas.{level-within, names-node, nodes, on-grid, orders-of, somes}
use Rattle.order_book.proofs.DepthLemmas.{depth-is, total-zero}
use Rattle.order_book.proofs.FiledLemmas.{each-filter, filed-in}
use Rattle.order_book.proofs.FoundLemmas.{Rises, behind-is, earliest, found-in, none-kept, nothing-total, on-level, on-orders, plain-book, rises}
use Rattle.order_book.proofs.NextLemmas.{after-named, along-named, best-named, named}
use Rattle.order_book.proofs.OwnLemmas.{all-found, filter-keys}
use Rattle.order_book.proofs.SideLemmas.{and-first, and-second, both}

-- sides and spots that tests say are the same
side-is : (s t : Side) → is_same_side s t ≡ true → t ≡ s
side-is Buy Buy e = refl
side-is Buy Sell e = absurd (false≢true e)
side-is Sell Buy e = absurd (false≢true e)
side-is Sell Sell e = refl

spot-is : (s t : Spot) → is_same_spot s t ≡ true → t ≡ s
spot-is Market Market e = refl
spot-is Market (At j) e = absurd (false≢true e)
spot-is (At i) Market e = absurd (false≢true e)
spot-is (At i) (At j) e = ap (λ k. At k) (sym (eqb-true i j e))

spot-itself : (s : Spot) → is_same_spot s s ≡ true
spot-itself Market = refl
spot-itself (At i) = eq-eqb i i refl

-- spots of the grid with one rank are one spot
one-rank : (n : ℕ) (side : Side) (s t : Spot) → IsSpotBelow n s → IsSpotBelow n t → rank n side s ≡ rank n side t → s ≡ t
one-rank n side Market Market below above e = refl
one-rank n Buy Market (At j) below above e = absurd (omega (arith, e, above))
one-rank n Sell Market (At j) below above e = absurd (omega (arith, e))
one-rank n Buy (At i) Market below above e = absurd (omega (arith, e, below))
one-rank n Sell (At i) Market below above e = absurd (omega (arith, e))
one-rank n Buy (At i) (At j) below above e = let same : i ≡ j = omega (arith, e, below, above) in ap (λ k. At k) same
one-rank n Sell (At i) (At j) below above e = let same : i ≡ j = omega (arith, e) in ap (λ k. At k) same

-- an order that is no better and no earlier is not ahead
not-ahead : (r p s q : ℕ) → s ≡ r → q ≤ p → (ltb r s || (eqb r s && ltb p q)) ≡ false
not-ahead r p s q same late = grind (arith, nat_tests, same, late)

worse-not-ahead : (r p s q : ℕ) → s < r → (ltb r s || (eqb r s && ltb p q)) ≡ false
worse-not-ahead r p s q worse = grind (arith, nat_tests, worse)

-- a test that agrees with another
pub same-first : (n : ℕ) (side : Side) (t u : Order → Bool) (os : List Order) (found : Option Order) → All (λ o. t o ≡ u o) os → IsFirstBy n side t os found → IsFirstBy n side u os found
same-first n side t u os None same first = λ k d h. sym (same k d h) ∙ first k d h
same-first n side t u os (Some f) same first =
    (first.0, sym (All-contains (λ o. t o ≡ u o) os f same first.0) ∙ first.1, λ k d h so. first.2 k d h (same k d h ∙ so))

-- the earliest of those that pass at one rank is the first of those that are wanted, where the others are worse
pub first-of-rank : (n : ℕ) (side : Side) (t p : Order → Bool) (os : List Order) (f : Order) → Contains os f → p f ≡ true → t f ≡ true
    → All (λ x. p x ≡ true → (f.place ≤ x.place) × (rank n side x.spot ≡ rank n side f.spot)) os
    → All (λ x. t x ≡ true → p x ≡ false → rank n side f.spot < rank n side x.spot) os
    → IsFirstBy n side t os (Some f)
first-of-rank n side t p os f has passes wanted equal worse =
    (has, wanted, λ k d h so. by_test (get_or os k d) (p (get_or os k d)) refl so (equal k d h) (worse k d h))
  where
    by_test : (x : Order) (b : Bool) → p x ≡ b → t x ≡ true → (p x ≡ true → (f.place ≤ x.place) × (rank n side x.spot ≡ rank n side f.spot)) → (t x ≡ true → p x ≡ false → rank n side f.spot < rank n side x.spot)
        → is_ahead n side x f ≡ false
    by_test x true e so equal worse = let same = equal e in not-ahead (rank n side x.spot) x.place (rank n side f.spot) f.place (sym same.1) same.0
    by_test x false e so equal worse = worse-not-ahead (rank n side x.spot) x.place (rank n side f.spot) f.place (worse so e)

module _ (n c b : ℕ) (held : Lists Held) (levels owners : Lists ℕ) (d : DepthView) (is : IsLinked n c b held levels owners d) (now : BookView) (view : linked n c held.lists ≡ now) where
  abbrev ns : List (Linked Held)
  ns = nodes n c b held levels owners d is now view

  abbrev os : List Order
  os = orders_in ns

  grid : All (λ o. IsSpotBelow n o.spot) os
  grid = on-grid n c b held levels owners d is now view

  up : Rises ns
  up = rises n c ns is.holds.book

  -- the node that a link names in its level's list
  module _ (p : Order → Bool) (k link : ℕ) (within : k < length levels.lists)
      (shown : first_link (map (filed_at level_at) (filter (λ m. p m.item.order) ns)) ≡ Some link)
      (keys : (m : Linked Held) → p m.item.order ≡ true → level_key m.item.order ≡ k) where
    pub first-node : (m : Linked Held) × (find (is_link_at m.link) ns ≡ Some m) × (p m.item.order ≡ true) × (AllByRecursion (λ j. p j.item.order ≡ true → m.item.order.place ≤ j.item.order.place) ns)
        × IsIn levels.lists link k m.link
    first-node = by_rest (filter (λ m. p m.item.order) ns) refl (sym shown)
      where
        by_rest : (rest : List (Linked Held)) → filter (λ m. p m.item.order) ns ≡ rest → Path (Option ℕ) (Some link) (first_link (map (filed_at level_at) rest))
            → (m : Linked Held) × (find (is_link_at m.link) ns ≡ Some m) × (p m.item.order ≡ true) × (AllByRecursion (λ j. p j.item.order ≡ true → m.item.order.place ≤ j.item.order.place) ns)
            × IsIn levels.lists link k m.link
        by_rest [] e head = absurd (cc)
        by_rest (m ∷ rest) e head =
            let link_is : link ≡ level_at m.item = cc in
            let founds : AllByRecursion (λ j. find (is_link_at j.link) ns ≡ Some j) (m ∷ rest) =
            subst (AllByRecursion (λ (j : Linked Held). find (is_link_at j.link) ns ≡ Some j)) e
            (each-filter (λ j. find (is_link_at j.link) ns ≡ Some j) (λ j. p j.item.order) ns (all-found ns is.holds.apart)) in
            let passes : AllByRecursion (λ j. p j.item.order ≡ true) (m ∷ rest) = subst (AllByRecursion (λ (j : Linked Held). p j.item.order ≡ true)) e (filter-keys (λ j. p j.item.order) ns) in (
              m,
              founds.0,
              passes.0,
              earliest (λ j. p j.item.order) ns m rest up e,
              subst (λ l. IsIn levels.lists l k m.link) (sym link_is)
                  (subst (λ j. IsIn levels.lists (level_at m.item) j m.link) (keys m passes.0) (filed-in level_key level_at levels.lists ns m.link m is.holds.by_level founds.0)),
            )

  -- the list of a level
  level-list : (side : Side) (spot : Spot) → IsSpotBelow n spot → list_at levels.lists (level_no side spot) ≡ map (filed_at level_at) (filter (λ m. is_on_level side spot m.item.order) ns)
  level-list side spot below =
      is.holds.by_level.lists_are (level_no side spot) (omega (arith, level-within n side spot below, is.holds.level_count)) ∙ ap (map (filed_at level_at)) (on-level side spot ns)

  none-listed : (p : Linked Held → Bool) → first_link (map (filed_at level_at) (filter p ns)) ≡ None → filter p ns ≡ []
  none-listed p none = by_rest (filter p ns) refl none
    where
      by_rest : (rest : List (Linked Held)) → filter p ns ≡ rest → first_link (map (filed_at level_at) rest) ≡ None → filter p ns ≡ []
      by_rest [] e head = e
      by_rest (m ∷ rest) e head = absurd (cc)

  -- an order on a level has its spot
  on-spot : (side : Side) (spot : Spot) (o : Order) → is_on_level side spot o ≡ true → o.spot ≡ spot
  on-spot side spot o so = spot-is spot o.spot (and-second (is_same_side side o.side) (is_same_spot spot o.spot) so)

  on-side : (side : Side) (spot : Spot) (o : Order) → is_on_level side spot o ≡ true → o.side ≡ side
  on-side side spot o so = side-is side o.side (and-first (is_same_side side o.side) (is_same_spot spot o.spot) so)

  level-keys : (side : Side) (spot : Spot) (m : Linked Held) → is_on_level side spot m.item.order ≡ true → level_key m.item.order ≡ level_no side spot
  level-keys side spot m so = ap (λ s. level_no s m.item.order.spot) (on-side side spot m.item.order so) ∙ ap (level_no side) (on-spot side spot m.item.order so)

  names-found : (m : Linked Held) → find (is_link_at m.link) ns ≡ Some m → Names now m.link m.item.order
  names-found m e = subst (λ v. Names v m.link m.item.order) view (names-node m.link ns m.item e)

  first-now : (side : Side) (t : Order → Bool) (m : Linked Held) → find (is_link_at m.link) ns ≡ Some m → IsFirstBy n side t os (Some m.item.order)
      → (o : Order) × Names now m.link o × IsFirstBy now.prices side t (orders now) (Some o)
  first-now side t m e first = (
    m.item.order,
    names-found m e,
    subst (λ k. IsFirstBy k side t (orders now) (Some m.item.order)) (ap (λ v. v.prices) view)
        (subst (λ xs. IsFirstBy n side t xs (Some m.item.order)) (sym (orders-of n c b held levels owners d is now view)) first),
  )

  -- the first order of a level of which all those that are wanted at a better rank are none
  module _ (side : Side) (spot : Spot) (below : IsSpotBelow n spot) (t p : Order → Bool) (result link k : ℕ)
      (k_is : k ≡ level_no side spot)
      (shown : first_link (map (filed_at level_at) (filter (λ m. p m.item.order) ns)) ≡ Some link)
      (part : (o : Order) → p o ≡ true → is_on_level side spot o ≡ true)
      (wants : (o : Order) → p o ≡ true → t o ≡ true)
      (worse : All (λ x. t x ≡ true → p x ≡ false → rank n side spot < rank n side x.spot) os)
      (reads : (list : ℕ) (item : ℕ) → IsIn levels.lists link list item → result ≡ item) where
    pub level-first : (o : Order) × Names now result o × IsFirstBy now.prices side t (orders now) (Some o)
    level-first =
        let within : k < length levels.lists = omega (arith, k_is, level-within n side spot below, is.holds.level_count) in
        let found = first-node p k link within shown (λ m so. level-keys side spot m (part m.item.order so) ∙ sym k_is) in
        let m = found.0 in
        let same : result ≡ m.link = reads k m.link found.4 in
        let at : m.item.order.spot ≡ spot = on-spot side spot m.item.order (part m.item.order found.2) in
        let first =
        first-of-rank n side t p os m.item.order (found-in (is_link_at m.link) ns m found.1) found.2 (wants m.item.order found.2)
        (λ j e h so. (
          on-orders (λ x. p x ≡ true → m.item.order.place ≤ x.place) ns found.3 j e h so,
          ap (rank n side) (on-spot side spot (get_or os j e) (part (get_or os j e) so)) ∙ sym (ap (rank n side) at),
        ))
        (λ j e h so other. subst (λ s. rank n side s < rank n side (get_or os j e).spot) (sym at) (worse j e h so other)) in
        subst (λ h. (o : Order) × Names now h o × IsFirstBy now.prices side t (orders now) (Some o)) (sym same) (first-now side t m found.1 first)

  -- nothing stands on a level whose number is 0
  level-empty : (side : Side) (spot : Spot) → IsSpotBelow n spot → depth_at side spot d ≡ 0 → All (λ o. is_on_level side spot o ≡ false) os
  level-empty side spot below none =
      total-zero (is_on_level side spot) os (somes n c b held levels owners d is now view) (sym (depth-is n d os is.holds.depths side spot below) ∙ none)

  -- where an order of a side stands
  stands-on : (side : Side) (x : Order) → is_same_side side x.side ≡ true → is_on_level side x.spot x ≡ true
  stands-on side x so = both (is_same_side side x.side) (is_same_spot x.spot x.spot) so (spot-itself x.spot)

  ltb-less : (a e : ℕ) → ltb a e ≡ true → a < e
  ltb-less a e so = grind (arith, nat_tests, so)

  less-ltb : (a e : ℕ) → a < e → ltb a e ≡ true
  less-ltb a e so = grind (arith, nat_tests, so)

  -- behind a spot where no number is above 0 no order stands
  pub behind-none : (side : Side) (spot : Spot) → IsNoneBehind n side spot d → All (λ o. is_behind n side spot o ≡ false) os
  behind-none side spot none k e h = by_test (is_behind n side spot (get_or os k e)) refl
    where
      by_spot' : (x : Order) (s : Spot) → x.spot ≡ s → IsSpotBelow n s → is_same_side side x.side ≡ true → rank n side spot < rank n side s → (s ≡ x.spot → is_on_level side x.spot x ≡ false) → ⊥
      by_spot' x s e below own less empty = false≢true (sym (empty (sym e)) ∙ stands-on side x own)

      empty-at : (s : Spot) → IsSpotBelow n s → rank n side spot < rank n side s → (k : ℕ) (e : Order) → k < length os → is_on_level side s (get_or os k e) ≡ false
      empty-at Market below less k e h = absurd (omega (arith, less, market-rank side))
        where
          market-rank : (s : Side) → rank n s Market ≡ 0
          market-rank Buy = refl
          market-rank Sell = refl
      empty-at (At i) below less k e h = level-empty side (At i) below (none i below less) k e h

      by_test : (t : Bool) → is_behind n side spot (get_or os k e) ≡ t → is_behind n side spot (get_or os k e) ≡ false
      by_test false is = is
      by_test true is =
          let x = get_or os k e in
          let own = and-first (is_same_side side x.side) (ltb (rank n side spot) (rank n side x.spot)) is in
          let less = ltb-less (rank n side spot) (rank n side x.spot) (and-second (is_same_side side x.side) (ltb (rank n side spot) (rank n side x.spot)) is) in
          absurd (false≢true (sym (empty-at x.spot (grid k e h) less k e h) ∙ stands-on side x own))

  -- behind a spot the first order stands at the best position whose number is above 0
  behind-worse : (side : Side) (spot : Spot) (i : ℕ) → IsNextBehind n side spot d i
      → All (λ x. is_behind n side spot x ≡ true → is_on_level side (At i) x ≡ false → rank n side (At i) < rank n side x.spot) os
  behind-worse side spot i next k e h so other =
      let x = get_or os k e in
      let own = and-first (is_same_side side x.side) (ltb (rank n side spot) (rank n side x.spot)) so in
      let less = ltb-less (rank n side spot) (rank n side x.spot) (and-second (is_same_side side x.side) (ltb (rank n side spot) (rank n side x.spot)) so) in
      elim (cases_lt (rank n side (At i)) (rank n side x.spot)) [
        | inl worse ↦ worse
        | inr more ↦
            elim (cases_lt (rank n side x.spot) (rank n side (At i))) [
              | inl better ↦ absurd (false≢true (sym (empty-at x.spot (grid k e h) less better k e h) ∙ stands-on side x own))
              | inr equal ↦
                  let same : x.spot ≡ At i = one-rank n side x.spot (At i) (grid k e h) next.within (omega (arith, more, equal)) in
                  absurd (false≢true (sym other ∙ subst (λ s. is_on_level side s x ≡ true) same (stands-on side x own)))
            ]
      ]
    where
      market-rank : (s : Side) → rank n s Market ≡ 0
      market-rank Buy = refl
      market-rank Sell = refl

      empty-at : (s : Spot) → IsSpotBelow n s → rank n side spot < rank n side s → rank n side s < rank n side (At i) → (k : ℕ) (e : Order) → k < length os → is_on_level side s (get_or os k e) ≡ false
      empty-at Market below less better k e h = absurd (omega (arith, less, market-rank side))
      empty-at (At j) below less better k e h = level-empty side (At j) below (next.first j below less better) k e h

  behind-wants : (side : Side) (spot : Spot) (i : ℕ) → IsNextBehind n side spot d i → (o : Order) → is_on_level side (At i) o ≡ true → is_behind n side spot o ≡ true
  behind-wants side spot i next o so =
      let at = on-spot side (At i) o so in
      both (is_same_side side o.side) (ltb (rank n side spot) (rank n side o.spot)) (and-first (is_same_side side o.side) (is_same_spot (At i) o.spot) so)
      (less-ltb (rank n side spot) (rank n side o.spot) (subst (λ s. rank n side spot < rank n side s) (sym at) next.behind))

  pub behind-some : (side : Side) (spot : Spot) (i k link result : ℕ) → IsNextBehind n side spot d i → k ≡ level_no side (At i) → first_link (list_at levels.lists k) ≡ Some link
      → ((list : ℕ) (item : ℕ) → IsIn levels.lists link list item → result ≡ item) → (o : Order) × Names now result o × IsFirstBy now.prices side (is_behind now.prices side spot) (orders now) (Some o)
  behind-some side spot i k link result next k_is head reads =
      subst (λ m. (o : Order) × Names now result o × IsFirstBy now.prices side (is_behind m side spot) (orders now) (Some o)) (ap (λ v. v.prices) view)
      (level-first side (At i) next.within (is_behind n side spot) (is_on_level side (At i)) result link k k_is
      (ap first_link (sym (level-list side (At i) next.within) ∙ ap (list_at levels.lists) (sym k_is)) ∙ head)
      (λ o so. so) (behind-wants side spot i next) (behind-worse side spot i next) reads)

  -- its list is not empty
  pub behind-there : (side : Side) (spot : Spot) (i k : ℕ) → IsNextBehind n side spot d i → k ≡ level_no side (At i) → first_link (list_at levels.lists k) ≡ None → ⊥
  behind-there side spot i k next k_is none =
      let kept = none-kept (λ m. is_on_level side (At i) m.item.order) ns
      (none-listed (λ m. is_on_level side (At i) m.item.order) (ap first_link (sym (level-list side (At i) next.within) ∙ ap (list_at levels.lists) (sym k_is)) ∙ none)) in
      omega (arith, next.some, depth-is n d os is.holds.depths side (At i) next.within, nothing-total (is_on_level side (At i)) ns kept)

  -- the tests of the book's orders
  pub to-now : (side : Side) (t : Order → Bool) → All (λ o. t o ≡ false) os → All (λ o. t o ≡ false) (orders now)
  to-now side t all = subst (All (λ o. t o ≡ false)) (sym (orders-of n c b held levels owners d is now view)) all

  pub none-behind-now : (side : Side) (spot : Spot) → IsNoneBehind n side spot d → All (λ o. is_behind now.prices side spot o ≡ false) (orders now)
  none-behind-now side spot none =
      subst (λ m. All (λ o. is_behind m side spot o ≡ false) (orders now)) (ap (λ v. v.prices) view) (to-now side (is_behind n side spot) (behind-none side spot none))

  -- the rank of the market is the best
  market-rank : (s : Side) → rank n s Market ≡ 0
  market-rank Buy = refl
  market-rank Sell = refl

  limit-rank : (s : Side) (i : ℕ) → i < n → 0 < rank n s (At i)
  limit-rank Buy i h = omega (arith, h)
  limit-rank Sell i h = omega arith

  -- the first market order of a side is its first
  pub best-some : (side : Side) (k link result : ℕ) → k ≡ level_no side Market → first_link (list_at levels.lists k) ≡ Some link
      → ((list : ℕ) (item : ℕ) → IsIn levels.lists link list item → result ≡ item) → (o : Order) × Names now result o × IsFirstBy now.prices side (is_wanted now.prices side None) (orders now) (Some o)
  best-some side k link result k_is head reads =
      level-first side Market tt (is_wanted n side None) (is_on_level side Market) result link k k_is
      (ap first_link (sym (level-list side Market tt) ∙ ap (list_at levels.lists) (sym k_is)) ∙ head)
      (λ o so. so) (λ o so. both (is_same_side side o.side) true (and-first (is_same_side side o.side) (is_same_spot Market o.spot) so) refl)
      (λ j e h so other. by_spot' (get_or os j e) (get_or os j e).spot refl (grid j e h) (and-first (is_same_side side (get_or os j e).side) true so) other) reads
    where
      by_spot' : (x : Order) (s : Spot) → x.spot ≡ s → IsSpotBelow n s → is_same_side side x.side ≡ true → is_on_level side Market x ≡ false → rank n side Market < rank n side s
      by_spot' x Market e below own other = absurd (false≢true (sym other ∙ both (is_same_side side x.side) (is_same_spot Market x.spot) own (ap (is_same_spot Market) e)))
      by_spot' x (At i) e below own other = omega (arith, market-rank side, limit-rank side i below)

  -- where it has none, those behind the market are all
  pub best-none : (side : Side) (k : ℕ) → k ≡ level_no side Market → first_link (list_at levels.lists k) ≡ None
      → All (λ o. is_behind now.prices side Market o ≡ is_wanted now.prices side None o) (orders now)
  best-none side k k_is none =
      let empty = on-orders (λ o. is_on_level side Market o ≡ false) ns
      (none-kept (λ m. is_on_level side Market m.item.order) ns
      (none-listed (λ m. is_on_level side Market m.item.order) (ap first_link (sym (level-list side Market tt) ∙ ap (list_at levels.lists) (sym k_is)) ∙ none))) in
      subst (λ m. All (λ o. is_behind m side Market o ≡ is_wanted m side None o) (orders now)) (ap (λ v. v.prices) view)
      (subst (All (λ o. is_behind n side Market o ≡ is_wanted n side None o)) (sym (orders-of n c b held levels owners d is now view))
      (λ j e h. by_side (get_or os j e) (is_same_side side (get_or os j e).side) refl (get_or os j e).spot refl (grid j e h) (empty j e h)))
    where
      by_side : (x : Order) (t : Bool) → is_same_side side x.side ≡ t → (s : Spot) → x.spot ≡ s → IsSpotBelow n s → is_on_level side Market x ≡ false
          → (is_same_side side x.side && ltb (rank n side Market) (rank n side s)) ≡ (is_same_side side x.side && true)
      by_side x false own s e below other = ap (λ t. t && ltb (rank n side Market) (rank n side s)) own ∙ sym (ap (λ t. t && true) own)
      by_side x true own Market e below other = absurd (false≢true (sym other ∙ both (is_same_side side x.side) (is_same_spot Market x.spot) own (ap (is_same_spot Market) e)))
      by_side x true own (At i) e below other = ap (λ t. is_same_side side x.side && t) (less-ltb (rank n side Market) (rank n side (At i)) (omega (arith, market-rank side, limit-rank side i below)))

  -- the order after another on its level, and where it is the last
  module _ (h : ℕ) (a : Held) (found : find (is_link_at h) ns ≡ Some (record { link = h; item = a })) where
    abbrev side : Side
    side = a.order.side

    abbrev spot : Spot
    spot = a.order.spot

    abbrev later : Order → Bool
    later o = is_on_level side spot o && ltb a.order.place o.place

    own-spot : IsSpotBelow n spot
    own-spot = All-contains (λ o. IsSpotBelow n o.spot) os a.order grid (found-in (is_link_at h) ns (record { link = h; item = a }) found)

    -- it is an order of the book
    pub node-in : Contains (orders now) a.order
    node-in =
        subst (λ xs. Contains xs a.order) (sym (orders-of n c b held levels owners d is now view)) (found-in (is_link_at h) ns (record { link = h; item = a }) found)

    own-side : (s : Side) → is_same_side s s ≡ true
    own-side Buy = refl
    own-side Sell = refl

    own-level : is_on_level side spot a.order ≡ true
    own-level = both (is_same_side side side) (is_same_spot spot spot) (own-side side) (spot-itself spot)

    -- what stands behind it in its list
    behind-list : (link : ℕ) → link ≡ level_at a → after_first (is_link_at link) (list_at levels.lists (level_no side spot)) ≡ map (filed_at level_at) (filter (λ m. later m.item.order) ns)
    behind-list link e =
        ap (λ l. after_first (is_link_at l) (list_at levels.lists (level_no side spot))) e
        ∙ ap (after_first (is_link_at (level_at a))) (level-list side spot own-spot)
        ∙ behind-is level_at (is_on_level side spot) h (record { link = h; item = a }) ns is.holds.by_level.apart up own-level found

    ahead-later : (r p q : ℕ) → p < q → (ltb r r || (eqb r r && ltb p q)) ≡ true
    ahead-later r p q less = grind (arith, nat_tests, less)

    later-wants : (o : Order) → later o ≡ true → is_wanted n side (Some a.order) o ≡ true
    later-wants o so =
        let level = and-first (is_on_level side spot o) (ltb a.order.place o.place) so in
        let less = ltb-less a.order.place o.place (and-second (is_on_level side spot o) (ltb a.order.place o.place) so) in
        both (is_same_side side o.side) (is_ahead n side a.order o) (and-first (is_same_side side o.side) (is_same_spot spot o.spot) level)
        (subst (λ s. (ltb (rank n side spot) (rank n side s) || (eqb (rank n side spot) (rank n side s) && ltb a.order.place o.place)) ≡ true) (sym (on-spot side spot o level)) (ahead-later (rank n side spot) a.order.place o.place less))

    -- an order behind it that is not later on its level stands at a worse spot
    ahead-cases : (r s p q : ℕ) → (ltb r s || (eqb r s && ltb p q)) ≡ true → (r < s) ⊎ ((r ≡ s) × (ltb p q ≡ true))
    ahead-cases r s p q so =
        elim (cases_lt r s) [
          | inl less ↦ inl less
          | inr more ↦ inr (grind (arith, nat_tests, more, so), grind (arith, nat_tests, more, so))
        ]

    later-on : (x : Order) → IsSpotBelow n x.spot → is_same_side side x.side ≡ true → rank n side spot ≡ rank n side x.spot → ltb a.order.place x.place ≡ true → later x ≡ true
    later-on x below own e less =
        let same : spot ≡ x.spot = one-rank n side spot x.spot own-spot below e in
        both (is_on_level side spot x) (ltb a.order.place x.place) (both (is_same_side side x.side) (is_same_spot spot x.spot) own (subst (λ s. is_same_spot spot s ≡ true) same (spot-itself spot))) less

    worse-behind : (x : Order) → IsSpotBelow n x.spot → is_wanted n side (Some a.order) x ≡ true → later x ≡ false → rank n side spot < rank n side x.spot
    worse-behind x below so other =
        let own = and-first (is_same_side side x.side) (is_ahead n side a.order x) so in
        elim (ahead-cases (rank n side spot) (rank n side x.spot) a.order.place x.place (and-second (is_same_side side x.side) (is_ahead n side a.order x) so)) [
          | inl less ↦ less
          | inr equal ↦ absurd (false≢true (sym other ∙ later-on x below own equal.0 equal.1))
        ]

    pub next-some : (key link result next : ℕ) → key ≡ level_at a → Path (Option ℕ) (Some link) (first_link (after_first (is_link_at key) (list_at levels.lists (level_no side spot))))
        → ((list : ℕ) (item : ℕ) → IsIn levels.lists link list item → result ≡ item)
        → (o : Order) × Names now result o × IsFirstBy now.prices side (is_wanted now.prices side (Some a.order)) (orders now) (Some o)
    next-some key link result next e head reads =
        subst (λ m. (o : Order) × Names now result o × IsFirstBy now.prices side (is_wanted m side (Some a.order)) (orders now) (Some o)) (ap (λ v. v.prices) view)
        (level-first side spot own-spot (is_wanted n side (Some a.order)) later result link (level_no side spot) refl
        (sym (ap first_link (behind-list key e)) ∙ sym head)
        (λ o so. and-first (is_on_level side spot o) (ltb a.order.place o.place) so) later-wants
        (λ j x k so other. worse-behind (get_or os j x) (grid j x k) so other) reads)

    -- where it is the last of its level, those behind its spot are all that are behind it
    pub next-none : (key : ℕ) → key ≡ level_at a → Path (Option ℕ) None (first_link (after_first (is_link_at key) (list_at levels.lists (level_no side spot))))
        → All (λ o. is_behind now.prices side spot o ≡ is_wanted now.prices side (Some a.order) o) (orders now)
    next-none key e none =
        let empty = on-orders (λ o. later o ≡ false) ns
        (none-kept (λ m. later m.item.order) ns (none-listed (λ m. later m.item.order) (sym (ap first_link (behind-list key e)) ∙ sym none))) in
        subst (λ m. All (λ o. is_behind m side spot o ≡ is_wanted m side (Some a.order) o) (orders now)) (ap (λ v. v.prices) view)
        (subst (All (λ o. is_behind n side spot o ≡ is_wanted n side (Some a.order) o)) (sym (orders-of n c b held levels owners d is now view))
        (λ j x k. by_side (get_or os j x) (is_same_side side (get_or os j x).side) refl (grid j x k) (empty j x k)))
      where
        by_ahead : (x : Order) (u : Bool) → ltb (rank n side spot) (rank n side x.spot) ≡ u → IsSpotBelow n x.spot → is_same_side side x.side ≡ true → later x ≡ false
            → ltb (rank n side spot) (rank n side x.spot) ≡ is_ahead n side a.order x
        by_ahead x true e below own other = e ∙ sym (ap (λ t. t || (eqb (rank n side spot) (rank n side x.spot) && ltb a.order.place x.place)) e)
        by_ahead x false e below own other =
            by_rest (eqb (rank n side spot) (rank n side x.spot) && ltb a.order.place x.place) refl
          where
            by_rest : (v : Bool) → (eqb (rank n side spot) (rank n side x.spot) && ltb a.order.place x.place) ≡ v → ltb (rank n side spot) (rank n side x.spot) ≡ is_ahead n side a.order x
            by_rest false f = e ∙ sym (ap (λ t. t || (eqb (rank n side spot) (rank n side x.spot) && ltb a.order.place x.place)) e ∙ f)
            by_rest true f =
                let same = eqb-true (rank n side spot) (rank n side x.spot) (and-first (eqb (rank n side spot) (rank n side x.spot)) (ltb a.order.place x.place) f) in
                absurd (false≢true (sym other ∙ later-on x below own same (and-second (eqb (rank n side spot) (rank n side x.spot)) (ltb a.order.place x.place) f)))

        by_side : (x : Order) (u : Bool) → is_same_side side x.side ≡ u → IsSpotBelow n x.spot → later x ≡ false → is_behind n side spot x ≡ is_wanted n side (Some a.order) x
        by_side x false own below other = ap (λ u. u && ltb (rank n side spot) (rank n side x.spot)) own ∙ sym (ap (λ u. u && is_ahead n side a.order x) own)
        by_side x true own below other = ap (λ u. is_same_side side x.side && u) (by_ahead x (ltb (rank n side spot) (rank n side x.spot)) refl below own other)

  -- the orders of the book by place, each under its place
  pub plain-now : IsBookView (plain now.prices now.capacity (orders now))
  plain-now =
      subst (λ v. IsBookView (plain v.prices v.capacity (orders now))) view
      (subst (λ xs. IsBookView (plain n c xs)) (sym (orders-of n c b held levels owners d is now view)) (plain-book n c ns is.holds.book))

-- what the book finds is the head of what the definitions say
module _ (now : BookView) (book : IsBookView (plain now.prices now.capacity (orders now))) where
  abbrev here : BookView
  here = plain now.prices now.capacity (orders now)

  -- a test that agrees on the book's orders
  pub same-finds : (s : Side) (t u : Order → Bool) (found : Option ℕ) → All (λ o. t o ≡ u o) (orders now) → FindsFirst now s t found → FindsFirst now s u found
  same-finds s t u None same first = λ k d h. sym (same k d h) ∙ first k d h
  same-finds s t u (Some h) same first = (first.0, first.1, same-first now.prices s t u (orders now) (Some first.0) same first.2)

  head-is : (side : Side) (o : Order) (line : List Order) → Contains (orders now) o → NamesFirst here line (Some o.place) → slice_get line 0 ≡ Some o
  head-is side o line has names =
      let mine = named now.prices now.capacity (orders now) book side o has in
      let same : names.0 ≡ o = ap (λ s. s.order) (same_Some (slot_of o.place names.0) (slot_of o.place o) (sym names.1 ∙ mine)) in
      names.2 ∙ ap (λ x. Some x) same

  pub best-first : (side : Side) (found : Option ℕ) → FindsFirst now side (is_wanted now.prices side None) found → NamesFirst now (side_of now side) found
  best-first side None first = best-named now.prices now.capacity (orders now) book side None first
  best-first side (Some h) first =
      (first.0, first.1, head-is side first.0 (side_of now side) first.2.0 (best-named now.prices now.capacity (orders now) book side (Some first.0) first.2))

  module _ (a : Order) (has : Contains (orders now) a) where
    mine : Names here a.place a
    mine = named now.prices now.capacity (orders now) book a.side a has

    pub after-first : (found : Option ℕ) → FindsFirst now a.side (is_wanted now.prices a.side (Some a)) found → NamesFirst now (after_first (λ x. eqb x.place a.place) (side_of now a.side)) found
    after-first None first = after-named now.prices now.capacity a.place (orders now) book a mine None first
    after-first (Some h) first =
        (first.0, first.1, head-is a.side first.0 (after_first (λ x. eqb x.place a.place) (side_of now a.side)) first.2.0 (after-named now.prices now.capacity a.place (orders now) book a mine (Some first.0) first.2))

    pub along-first : (found : Option ℕ) → FindsFirst now a.side (is_wanted now.prices a.side (Some a)) found → (side : Side) (front rest : List Order) → side_of now side ≡ front ++ a ∷ rest → NamesFirst now rest found
    along-first None first side front rest parts = along-named now.prices now.capacity a.place (orders now) book a mine None first side front rest parts
    along-first (Some h) first side front rest parts =
        (first.0, first.1, head-is a.side first.0 rest first.2.0 (along-named now.prices now.capacity a.place (orders now) book a mine (Some first.0) first.2 side front rest parts))

  -- a handle names one order
  one : (h : ℕ) (a o : Order) → Names now h a → Names now h o → a ≡ o
  one h a o first second = ap (λ s. s.order) (same_Some (slot_of h a) (slot_of h o) (sym first ∙ second))

  pub next-after : (h : ℕ) (a o : Order) (found : Option ℕ) → Contains (orders now) a → Names now h a → Names now h o → FindsFirst now a.side (is_wanted now.prices a.side (Some a)) found
      → NamesFirst now (after_first (λ x. eqb x.place o.place) (side_of now o.side)) found
  next-after h a o found has first second finds =
      subst (λ y. NamesFirst now (after_first (λ x. eqb x.place y.place) (side_of now y.side)) found) (one h a o first second) (after-first a has found finds)

  pub next-along : (h : ℕ) (a o : Order) (found : Option ℕ) → Contains (orders now) a → Names now h a → Names now h o → FindsFirst now a.side (is_wanted now.prices a.side (Some a)) found
      → (s : Side) (front rest : List Order) → side_of now s ≡ front ++ o ∷ rest → NamesFirst now rest found
  next-along h a o found has first second finds s front rest parts =
      along-first a has found finds s front rest (parts ∙ ap (λ y. front ++ y ∷ rest) (sym (one h a o first second)))
