-- What is traded against what a side has left.
use Rattle.std.proofs.Common.{◌≡◌, ℕ, zero, suc, ◌+◌, Bool, true, false, cond, List, [], ◌∷◌, ◌++◌, length, refl, ap, arith}
use Rattle.std.proofs.lemmas.List.Elements.{All-from_recursion}
use Rattle.std.proofs.lemmas.List.Sums.{sum_by-append, sum_by-cons}
use Rattle.mkt_base.specs.Book.{total_left}
use Rattle.mkt_base.specs.Fills.{after_trades}
use Rattle.mkt_base.specs.Priority.{in_priority, is_same_side}
use Rattle.mkt_base.specs.declared.auction.Trade.{Trade}
use Rattle.mkt_base.specs.declared.order.Order.{Order}
use Rattle.mkt_base.specs.declared.order.Side.{Side}
use Rattle.mkt_base.specs.declared.order.Side.TheVariants.{Buy, Sell}
use Rattle.book_law.specs.BookView.{IsSpotBelow}
use Rattle.book_law.specs.Sides.{total}
use Rattle.book_law.proofs.TakenLemmas.{quantity-side}
use Rattle.itayose.specs.Fills.{allotted_fills, auction_fills}
use Rattle.tick_grid.specs.Rows.{band_of}
use Rattle.zaraba.specs.Arrival.{opposite as facing, rest_of}
use Rattle.issue_book.specs.Entering.{arrival_at}
use Rattle.issue_book.specs.IssueView.{AreTerms, IsPriceOf}
use Rattle.issue_book.specs.State.{State, Terms}
use Rattle.issue_laws.specs.Brought.{left_on, shares_of}
use Rattle.issue_laws.specs.Lower.{LowerLaws}
use Rattle.issue_laws.proofs.Standing.{Stands, stands-after}
use Rattle.issue_laws.proofs.Auctions.{book-on}
use Rattle.issue_laws.proofs.Margins.{allotted-balanced, auction-balanced}
use Rattle.issue_laws.proofs.Moves.{IsMeasure}
use Rattle.issue_laws.proofs.Orders.{IsEntering, arriving}

left-append : (side : Side) (xs ys : List Order) → left_on side (xs ++ ys) ≡ left_on side xs + left_on side ys
unfolding total_left
left-append side xs ys = sum_by-append (λ o. cond (is_same_side side o.side) o.left 0) xs ys

left-one : (side : Side) (o : Order) → left_on side (o ∷ []) ≡ cond (is_same_side side o.side) o.left 0
unfolding total_left
left-one side o = omega (arith, sum_by-cons (λ x. cond (is_same_side side x.side) x.left 0) o [])

left-rest : (side : Side) (o : Order) (k : ℕ) → left_on side (rest_of o k) ≡ cond (is_same_side side o.side) k 0
unfolding total_left
left-rest side o zero = by (is_same_side side o.side)
  where
    by : (b : Bool) → left_on side [] ≡ cond b 0 0
    by true = refl
    by false = refl
left-rest side o (suc k) = left-one side (record o { left = suc k })

-- from a side in its priority to its orders
module _ (t : Terms) (n : ℕ) (s : State) (ts : List Trade) (p : ℕ) (stands : Stands t n s) (price : IsPriceOf t.grid p) where
  side-before : (side : Side) → total (in_priority (length t.grid) side s.orders) ≡ left_on side s.orders
  side-before side = quantity-side (length t.grid) side s.orders (All-from_recursion (λ o. IsSpotBelow (length t.grid) o.spot) s.orders stands.spots)

  side-after : (side : Side) → total (in_priority (length t.grid) side (after_trades ts s.orders)) ≡ left_on side (after_trades ts s.orders)
  side-after side = quantity-side (length t.grid) side (after_trades ts s.orders) (All-from_recursion (λ o. IsSpotBelow (length t.grid) o.spot) (after_trades ts s.orders) (stands-after t n s ts p stands price).spots)

-- what one side loses and what is left of the order, against what both had
both-sides : (own side : Side) (traded k m : ℕ) (before after : Side → ℕ) → traded + after (facing own) ≡ before (facing own) → traded + k ≡ m → after own ≡ before own
    → traded + (after side + cond (is_same_side side own) k 0) ≡ before side + cond (is_same_side side own) m 0
both-sides Buy Buy traded k m before after other spent same = omega (arith, other, spent, same)
both-sides Buy Sell traded k m before after other spent same = omega (arith, other, spent, same)
both-sides Sell Buy traded k m before after other spent same = omega (arith, other, spent, same)
both-sides Sell Sell traded k m before after other spent same = omega (arith, other, spent, same)

module _ (laws : LowerLaws) (t : Terms) (is : AreTerms t) (side : Side) where
  settled-side : (n : ℕ) (s : State) (ts : List Trade) → Stands t n s
      → shares_of ts + total (in_priority (length t.grid) side (after_trades ts s.orders)) ≡ total (in_priority (length t.grid) side s.orders)
      → shares_of ts + left_on side (after_trades ts s.orders) ≡ left_on side s.orders
  settled-side n s ts stands e = omega (arith, e, side-before t n s ts s.last stands stands.last side, side-after t n s ts s.last stands stands.last side)

  arrived-side : (n : ℕ) (o : Order) (s : State) → IsEntering t n o → Stands t n s
      → let a = arrival_at t o s in
      shares_of a.trades + left_on side (after_trades a.trades s.orders ++ rest_of o a.left) ≡ left_on side (s.orders ++ o ∷ [])
  arrived-side n o s enters stands =
      let a = arrival_at t o s in
      let sold = laws.bought_is_sold t.grid (band_of t.ranges) s.orders o s.last (arriving laws t is n o s enters stands) in
      let before = side-before t n s a.trades s.last stands stands.last in
      let after = side-after t n s a.trades s.last stands stands.last in
      let other : shares_of a.trades + left_on (facing o.side) (after_trades a.trades s.orders) ≡ left_on (facing o.side) s.orders = omega (arith, sold.0, before (facing o.side), after (facing o.side)) in
      let same : left_on o.side (after_trades a.trades s.orders) ≡ left_on o.side s.orders = omega (arith, ap total sold.2, before o.side, after o.side) in
      let all = both-sides o.side side (shares_of a.trades) a.left o.left (λ d. left_on d s.orders) (λ d. left_on d (after_trades a.trades s.orders)) other sold.1 same in
      omega (arith, all, left-append side (after_trades a.trades s.orders) (rest_of o a.left), left-rest side o a.left, left-append side s.orders (o ∷ []), left-one side o)

  -- the shares traded measure what a side loses
  pub side-measure : IsMeasure t shares_of (left_on side)
  side-measure = record {
    none = refl;
    append = λ xs ys. sum_by-append (λ x. x.qty) xs ys;
    auction = λ n s stands p margin.
        settled-side n s (auction_fills t.grid s.orders p margin t.rounds t.unit).trades stands (auction-balanced laws.demands_in_order t.grid s.orders (book-on t n s stands) p margin t.rounds t.unit side);
    allotted = λ n s stands pressed.
        settled-side n s (allotted_fills t.grid s.orders pressed t.rounds t.unit).trades stands (allotted-balanced laws.demands_in_order t.grid s.orders (book-on t n s stands) pressed t.rounds t.unit side);
    arrival = λ n o s enters stands. arrived-side n o s enters stands;
  }
