-- What is traded at a place against what the order there has left.
use Rattle.std.proofs.Common.{◌≡◌, ◌≢◌, ℕ, zero, suc, ◌+◌, ◌-◌, ◌<◌, ◌≤◌, Bool, true, false, cond, eqb, ltb, ◌||◌, List, [], ◌∷◌, ◌++◌, refl, sym, ap, subst, ◌∙◌, arith}
use Rattle.std.specs.List.{AllByRecursion}
use Rattle.std.proofs.lemmas.Bool.{eqb-false, eqb-true}
use Rattle.std.proofs.lemmas.Bool.Decides.{nat_tests}
use Rattle.std.proofs.lemmas.List.Elements.{All-from_recursion, recursion_from_All}
use Rattle.std.proofs.lemmas.List.Sums.{sum_by-append, sum_by-cons}
use Rattle.mkt_base.specs.Fills.{after_trades, less_traded, traded_at}
use Rattle.mkt_base.specs.declared.auction.Trade.{Trade}
use Rattle.mkt_base.specs.declared.order.Order.{Order}
use Rattle.book_law.proofs.Pairs.{Pairs, weaken}
use Rattle.itayose.specs.Fills.{allotted_fills, auction_fills}
use Rattle.tick_grid.specs.Rows.{band_of}
use Rattle.zaraba.specs.Arrival.{rest_of}
use Rattle.zaraba.proofs.DoneLemmas.{kept-after, noughts}
use Rattle.issue_book.specs.Entering.{arrival_at}
use Rattle.issue_book.specs.IssueView.{AreTerms}
use Rattle.issue_book.specs.State.{State, Terms}
use Rattle.issue_laws.specs.Brought.{left_at}
use Rattle.issue_laws.specs.Lower.{LowerLaws}
use Rattle.issue_laws.proofs.Standing.{Stands}
use Rattle.issue_laws.proofs.Auctions.{book-on}
use Rattle.issue_laws.proofs.Margins.{allotted-within, auction-within}
use Rattle.issue_laws.proofs.Moves.{IsMeasure}
use Rattle.issue_laws.proofs.Orders.{IsEntering, arriving}

module _ (place : ℕ) where
  left-cons : (x : Order) (xs : List Order) → left_at place (x ∷ xs) ≡ cond (eqb place x.place) x.left 0 + left_at place xs
  left-cons x xs = sum_by-cons (λ y. cond (eqb place y.place) y.left 0) x xs

  left-append : (xs ys : List Order) → left_at place (xs ++ ys) ≡ left_at place xs + left_at place ys
  left-append xs ys = sum_by-append (λ y. cond (eqb place y.place) y.left 0) xs ys

  -- orders at other places have nothing there
  none-here : (P : Order → Type 0) → ((x : Order) → P x → eqb place x.place ≡ false) → (xs : List Order) → AllByRecursion P xs → left_at place xs ≡ 0
  none-here P other xs all = noughts (λ y. cond (eqb place y.place) y.left 0) xs (weaken P (λ y. cond (eqb place y.place) y.left 0 ≡ 0) (λ y h. ap (λ b. cond b y.left 0) (other y h)) xs all)

  is-later : (x : Order) → place < x.place → eqb place x.place ≡ false
  is-later x h = grind (arith, nat_tests, h)

  is-earlier : (x : Order) → x.place < place → eqb place x.place ≡ false
  is-earlier x h = grind (arith, nat_tests, h)

  -- where no more is traded at a place than its order has, the order loses just that
  module _ (ts : List Trade) where
    kept-here : (x : Order) (xs : List Order) → eqb place x.place ≡ true → AllByRecursion (λ y. x.place < y.place) xs → traded_at ts place ≤ left_at place (x ∷ xs)
        → (b : Bool) → ltb 0 (less_traded ts x).left ≡ b → traded_at ts place + left_at place (cond b (less_traded ts x ∷ after_trades ts xs) (after_trades ts xs)) ≡ left_at place (x ∷ xs)
    kept-here x xs e later most b f = by b f
      where
        here : place ≡ x.place
        here = eqb-true place x.place e

        same : traded_at ts place ≡ traded_at ts x.place
        same = ap (traded_at ts) here

        rest : left_at place xs ≡ 0
        rest = none-here (λ y. x.place < y.place) (λ y h. is-later y (subst (λ q. q < y.place) (sym here) h)) xs later

        after : left_at place (after_trades ts xs) ≡ 0
        after = none-here (λ y. x.place < y.place) (λ y h. is-later y (subst (λ q. q < y.place) (sym here) h)) (after_trades ts xs) (kept-after ts (λ y. x.place < y.place) (λ y. x.place < y.place) (λ y h g. h) xs later)

        whole : cond (eqb place x.place) x.left 0 ≡ x.left
        whole = ap (λ c. cond c x.left 0) e

        less : cond (eqb place x.place) (x.left - traded_at ts x.place) 0 ≡ x.left - traded_at ts x.place
        less = ap (λ c. cond c (x.left - traded_at ts x.place) 0) e

        by : (c : Bool) → ltb 0 (less_traded ts x).left ≡ c → traded_at ts place + left_at place (cond c (less_traded ts x ∷ after_trades ts xs) (after_trades ts xs)) ≡ left_at place (x ∷ xs)
        by true g = omega (arith, same, rest, after, whole, less, most, left-cons x xs, left-cons (less_traded ts x) (after_trades ts xs))
        by false g =
            let none : x.left - traded_at ts x.place ≡ 0 = grind (arith, nat_tests, g) in
            omega (arith, same, rest, after, whole, none, most, left-cons x xs)

    kept-there : (x : Order) (xs : List Order) → eqb place x.place ≡ false → (traded_at ts place ≤ left_at place xs → traded_at ts place + left_at place (after_trades ts xs) ≡ left_at place xs)
        → traded_at ts place ≤ left_at place (x ∷ xs) → (b : Bool) → traded_at ts place + left_at place (cond b (less_traded ts x ∷ after_trades ts xs) (after_trades ts xs)) ≡ left_at place (x ∷ xs)
    kept-there x xs e rest most b = by b
      where
        none : cond (eqb place x.place) x.left 0 ≡ 0
        none = ap (λ c. cond c x.left 0) e

        less : cond (eqb place x.place) (x.left - traded_at ts x.place) 0 ≡ 0
        less = ap (λ c. cond c (x.left - traded_at ts x.place) 0) e

        others : traded_at ts place + left_at place (after_trades ts xs) ≡ left_at place xs
        others = rest (omega (arith, most, none, left-cons x xs))

        by : (c : Bool) → traded_at ts place + left_at place (cond c (less_traded ts x ∷ after_trades ts xs) (after_trades ts xs)) ≡ left_at place (x ∷ xs)
        by true = omega (arith, none, less, others, left-cons x xs, left-cons (less_traded ts x) (after_trades ts xs))
        by false = omega (arith, none, others, left-cons x xs)

    pub kept-at : (xs : List Order) → Pairs (λ a b. a.place < b.place) xs → traded_at ts place ≤ left_at place xs → traded_at ts place + left_at place (after_trades ts xs) ≡ left_at place xs
    unfolding after_trades
    kept-at [] pairs most = omega (arith, most)
    kept-at (x ∷ xs) pairs most = by (eqb place x.place) refl (λ h. kept-at xs pairs.1 h)
      where
        by : (b : Bool) → eqb place x.place ≡ b → (traded_at ts place ≤ left_at place xs → traded_at ts place + left_at place (after_trades ts xs) ≡ left_at place xs)
            → traded_at ts place + left_at place (after_trades ts (x ∷ xs)) ≡ left_at place (x ∷ xs)
        by true e rest = kept-here x xs e pairs.0 most (ltb 0 (less_traded ts x).left) refl
        by false e rest = kept-there x xs e rest most (ltb 0 (less_traded ts x).left)

  -- an order stands at the place, or none does
  at-most : (f : ℕ → ℕ) (xs : List Order) → AllByRecursion (λ x. f x.place ≤ x.left) xs → (AllByRecursion (λ x. place ≢ x.place) xs → f place ≡ 0) → f place ≤ left_at place xs
  at-most f [] all none = omega (arith, none tt)
  at-most f (x ∷ xs) all none = by (eqb place x.place) refl (λ h. at-most f xs all.1 h)
    where
      by : (b : Bool) → eqb place x.place ≡ b → ((AllByRecursion (λ y. place ≢ y.place) xs → f place ≡ 0) → f place ≤ left_at place xs) → f place ≤ left_at place (x ∷ xs)
      by true e rest =
          let same = ap f (eqb-true place x.place e) in
          let whole : cond (eqb place x.place) x.left 0 ≡ x.left = ap (λ c. cond c x.left 0) e in
          omega (arith, all.0, same, whole, left-cons x xs)
      by false e rest =
          let others = rest (λ away. none (eqb-false place x.place e, away)) in
          omega (arith, others, left-cons x xs)

  left-rest : (o : Order) (k : ℕ) → left_at place (rest_of o k) ≡ cond (eqb place o.place) k 0
  left-rest o zero = by (eqb place o.place)
    where
      by : (b : Bool) → left_at place [] ≡ cond b 0 0
      by true = refl
      by false = refl
  left-rest o (suc k) = omega (arith, left-cons (record o { left = suc k }) [])

  left-one : (o : Order) → left_at place (o ∷ []) ≡ cond (eqb place o.place) o.left 0
  left-one o = omega (arith, left-cons o [])

  traded-append : (xs ys : List Trade) → traded_at (xs ++ ys) place ≡ traded_at xs place + traded_at ys place
  unfolding traded_at
  traded-append xs ys = sum_by-append (λ x. cond (eqb place x.buy || eqb place x.sell) x.qty 0) xs ys

  traded-none : traded_at [] place ≡ 0
  unfolding traded_at
  traded-none = refl

  module _ (laws : LowerLaws) (t : Terms) (is : AreTerms t) where
    arrived-place : (n : ℕ) (o : Order) (s : State) → IsEntering t n o → Stands t n s
        → let a = arrival_at t o s in
        traded_at a.trades place + left_at place (after_trades a.trades s.orders ++ rest_of o a.left) ≡ left_at place (s.orders ++ o ∷ [])
    arrived-place n o s enters stands = by (eqb place o.place) refl
      where
        ts : List Trade
        ts = (arrival_at t o s).trades

        by : (b : Bool) → eqb place o.place ≡ b → traded_at (arrival_at t o s).trades place + left_at place (after_trades (arrival_at t o s).trades s.orders ++ rest_of o (arrival_at t o s).left) ≡ left_at place (s.orders ++ o ∷ [])
        by true e =
            let a = arrival_at t o s in
            let here = eqb-true place o.place e in
            let law = laws.none_fills_more t.grid (band_of t.ranges) s.orders o s.last (arriving laws t is n o s enters stands) in
            let later = λ (x : Order) (h : x.place < n). is-earlier x (subst (λ q. x.place < q) (sym (here ∙ enters.place)) h) in
            let before = none-here (λ x. x.place < n) later s.orders stands.below in
            let after = none-here (λ x. x.place < n) later (after_trades a.trades s.orders) (kept-after a.trades (λ x. x.place < n) (λ x. x.place < n) (λ x h g. h) s.orders stands.below) in
            let own : cond (eqb place o.place) a.left 0 ≡ a.left = ap (λ c. cond c a.left 0) e in
            let had : cond (eqb place o.place) o.left 0 ≡ o.left = ap (λ c. cond c o.left 0) e in
            omega (arith, law.1, ap (traded_at a.trades) here, before, after, own, had, left-append (after_trades a.trades s.orders) (rest_of o a.left), left-rest o a.left, left-append s.orders (o ∷ []), left-one o)
        by false e =
            let a = arrival_at t o s in
            let law = laws.none_fills_more t.grid (band_of t.ranges) s.orders o s.last (arriving laws t is n o s enters stands) in
            let most = at-most (traded_at a.trades) s.orders (recursion_from_All (λ x. traded_at a.trades x.place ≤ x.left) s.orders law.0)
            (λ away. law.2 place (eqb-false place o.place e) (All-from_recursion (λ x. place ≢ x.place) s.orders away)) in
            let kept = kept-at a.trades s.orders stands.by_place most in
            let own : cond (eqb place o.place) a.left 0 ≡ 0 = ap (λ c. cond c a.left 0) e in
            let had : cond (eqb place o.place) o.left 0 ≡ 0 = ap (λ c. cond c o.left 0) e in
            omega (arith, kept, own, had, left-append (after_trades a.trades s.orders) (rest_of o a.left), left-rest o a.left, left-append s.orders (o ∷ []), left-one o)

    -- what is traded at a place measures what its order loses
    pub place-measure : IsMeasure t (λ ts. traded_at ts place) (left_at place)
    place-measure = record {
      none = traded-none;
      append = traded-append;
      auction = λ n s stands p margin.
          kept-at (auction_fills t.grid s.orders p margin t.rounds t.unit).trades s.orders stands.by_place (auction-within laws.demands_in_order t.grid s.orders (book-on t n s stands) p margin t.rounds t.unit place);
      allotted = λ n s stands pressed.
          kept-at (allotted_fills t.grid s.orders pressed t.rounds t.unit).trades s.orders stands.by_place (allotted-within laws.demands_in_order t.grid s.orders (book-on t n s stands) pressed t.rounds t.unit place);
      arrival = λ n o s enters stands. arrived-place n o s enters stands;
    }
