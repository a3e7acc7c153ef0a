-- Orders of whole trading units stay such through trades of whole units.
use Rattle.std.proofs.Common.{◌≡◌, ℕ, ◌+◌, ◌-◌, ◌%◌, ◌<◌, Bool, true, false, cond, eqb, ltb, ◌||◌, zero, suc, List, [], ◌∷◌, ap, ◌∙◌}
use Rattle.std.specs.List.{All, AllByRecursion}
use Rattle.std.proofs.Math.Nat.{dvd-add, dvd-sub, zero-mod}
use Rattle.std.proofs.lemmas.Nat.Gcd.{dvd_of_mod-eq-zero, mod-eq-zero_of_dvd}
use Rattle.std.proofs.lemmas.List.Elements.{All-from_recursion, recursion_from_All}
use Rattle.std.proofs.lemmas.List.Sums.{sum_by-cons}
use Rattle.mkt_base.specs.Fills.{after_trades, less_traded, traded_at}
use Rattle.mkt_base.specs.declared.auction.Trade.{Trade}
use Rattle.mkt_base.specs.declared.order.Order.{Order}
use Rattle.book_law.proofs.Pairs.{all-append}
use Rattle.zaraba.specs.Arrival.{Arrival, book_after, rest_of}
use Rattle.issue_book.specs.Fields.{IsInUnits}

module _ (unit : ℕ) where
  -- sums and differences of whole units are whole units
  add : (a b : ℕ) → a % unit ≡ 0 → b % unit ≡ 0 → (a + b) % unit ≡ 0
  add a b s t = mod-eq-zero_of_dvd unit (dvd-add unit (dvd_of_mod-eq-zero unit s) (dvd_of_mod-eq-zero unit t))

  sub : (a b : ℕ) → a % unit ≡ 0 → b % unit ≡ 0 → (a - b) % unit ≡ 0
  sub a b s t = mod-eq-zero_of_dvd unit (dvd-sub unit (dvd_of_mod-eq-zero unit s) (dvd_of_mod-eq-zero unit t))

  whole-or_none : (b : Bool) (n : ℕ) → n % unit ≡ 0 → cond {A = ℕ} b n 0 % unit ≡ 0
  whole-or_none true n h = h
  whole-or_none false n h = zero-mod unit

  -- what trades of whole units take from a place
  traded : (place : ℕ) (ts : List Trade) → AllByRecursion (λ t. t.qty % unit ≡ 0) ts → traded_at ts place % unit ≡ 0
  unfolding traded_at
  traded place [] all = zero-mod unit
  traded place (t ∷ ts) all =
      let f : Trade → ℕ = λ x. cond (eqb place x.buy || eqb place x.sell) x.qty 0 in
      ap (λ n. n % unit) (sum_by-cons f t ts) ∙ add (f t) (traded_at ts place) (whole-or_none (eqb place t.buy || eqb place t.sell) t.qty all.0) (traded place ts all.1)

  after : (ts : List Trade) → AllByRecursion (λ t. t.qty % unit ≡ 0) ts → (os : List Order) → AllByRecursion (IsInUnits unit) os → AllByRecursion (IsInUnits unit) (after_trades ts os)
  unfolding after_trades
  after ts whole [] all = tt
  after ts whole (o ∷ os) all =
      let units : (less_traded ts o).left % unit ≡ 0 = sub o.left (traded_at ts o.place) all.0.units (traded o.place ts whole) in
      step (ltb 0 (less_traded ts o).left) (record { units = units; participant = all.0.participant }) (after ts whole os all.1)
    where
      step : (b : Bool) → IsInUnits unit (less_traded ts o) → AllByRecursion (IsInUnits unit) (after_trades ts os) → AllByRecursion (IsInUnits unit) (cond b (less_traded ts o ∷ after_trades ts os) (after_trades ts os))
      step true here rest = (here, rest)
      step false here rest = rest

  -- the orders of a book after trades
  pub after-units : (ts : List Trade) (os : List Order) → All (λ t. t.qty % unit ≡ 0) ts → All (IsInUnits unit) os → All (IsInUnits unit) (after_trades ts os)
  after-units ts os whole all =
      All-from_recursion (IsInUnits unit) (after_trades ts os)
      (after ts (recursion_from_All (λ t. t.qty % unit ≡ 0) ts whole) os (recursion_from_All (IsInUnits unit) os all))

  rest-units : (o : Order) (left : ℕ) → left % unit ≡ 0 → o.participant.0 < 64 → AllByRecursion (IsInUnits unit) (rest_of o left)
  rest-units o zero h p = tt
  rest-units o (suc left) h p = (record { units = h; participant = p }, tt)

  -- and those after an arrival
  pub arrived-units : (a : Arrival) (os : List Order) (o : Order) → All (λ t. t.qty % unit ≡ 0) a.trades → a.left % unit ≡ 0 → o.participant.0 < 64
      → All (IsInUnits unit) os → All (IsInUnits unit) (book_after a os o)
  arrived-units a os o whole left p all =
      All-from_recursion (IsInUnits unit) (book_after a os o)
      (all-append (IsInUnits unit) (after_trades a.trades os) (rest_of o a.left)
      (after a.trades (recursion_from_All (λ t. t.qty % unit ≡ 0) a.trades whole) os (recursion_from_All (IsInUnits unit) os all)) (rest-units o a.left left p))
