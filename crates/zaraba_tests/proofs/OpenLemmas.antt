-- What an arrival leaves of an open book.
use Rattle.std.proofs.Common.{◌≡◌, ℕ, zero, suc, ◌+◌, ◌<◌, ◌≤◌, true, ltb, List, [], ◌∷◌, ◌++◌, length, map, get_or, refl, sym, ◌∙◌, subst, arith}
use Rattle.std.specs.List.{All}
use Rattle.std.proofs.lemmas.List.{get_or-map, length-append, length-map}
use Rattle.std.proofs.lemmas.List.Elements.{All-append, All-filter, All-map}
use Rattle.std.proofs.lemmas.List.Sums.{count_by-le-length, length-filter}
use Rattle.mkt_base.specs.Fills.{after_trades, less_traded}
use Rattle.mkt_base.specs.declared.auction.Trade.{Trade}
use Rattle.mkt_base.specs.declared.order.Order.{Order}
use Rattle.mkt_base.specs.declared.units.Price.{Price}
use Rattle.auction_law.specs.Attempt.{is_calm}
use Rattle.book_law.specs.BookView.{BookView, Slot, orders}
use Rattle.zaraba.specs.Arrival.{rest_of}
use Rattle.zaraba_tests.specs.Open.{IsEntry, IsOpen}

-- a book without orders is calm
pub none-calm : (grid : List Price) → is_calm grid [] ≡ true
unfolding is_calm
none-calm grid = refl

-- what holds of the orders holds of the slots
of-orders : (P : Order → Type 0) (ss : List Slot) → All P (map (λ s. s.order) ss) → All (λ s. P s.order) ss
of-orders P ss all k d h = subst P (get_or-map (λ (s : Slot). s.order) ss k d d.order h) (all k d.order (omega (arith, h, length-map ss (λ (s : Slot). s.order))))

-- What holds of orders whatever they have left holds after trades.
module _ (P : Order → Type 0) (stays : (n : ℕ) (o : Order) → P o → P (record o { left = n })) where
  after-holds : (ts : List Trade) (os : List Order) → All P os → All P (after_trades ts os)
  unfolding after_trades
  after-holds ts os all = All-filter (λ o. ltb 0 o.left) P (map (less_traded ts) os) (All-map P (less_traded ts) os (λ k d h. stays _ (get_or os k d) (all k d h)))

  rest-holds : (o : Order) (left : ℕ) → P o → All P (rest_of o left)
  rest-holds o zero own = λ k d h. absurd (omega (arith, h))
  rest-holds o (suc left) own = one (record o { left = suc left }) (stays (suc left) o own)
    where
      one : (x : Order) → P x → All P (x ∷ [])
      one x here zero d h = here
      one x here (suc k) d h = absurd (omega (arith, h))

  -- and of what is left of an order
  joined-holds : (ts : List Trade) (left : ℕ) (o : Order) (old new : BookView) → orders new ≡ after_trades ts (orders old) ++ rest_of o left → P o → All (λ s. P s.order) old.slots → All (λ s. P s.order) new.slots
  joined-holds ts left o old new e own all =
      of-orders P new.slots (subst (All P) (sym e) (All-append P (after_trades ts (orders old)) (rest_of o left) (after-holds ts (orders old) (All-map P (λ s. s.order) old.slots all)) (rest-holds o left own)))

one-more : (o : Order) (left : ℕ) → length (rest_of o left) ≤ 1
one-more o zero = omega arith
one-more o (suc left) = omega arith

fewer : (ts : List Trade) (os : List Order) → length (after_trades ts os) ≤ length os
unfolding after_trades
fewer ts os = omega (arith, length-filter (λ o. ltb 0 o.left) (map (less_traded ts) os), count_by-le-length (λ o. ltb 0 o.left) (map (less_traded ts) os), length-map os (less_traded ts))

-- an open book stays open for the next order
pub open-arrived : (n : ℕ) (ts : List Trade) (left : ℕ) (o : Order) (old new : BookView) → IsOpen n old → IsEntry n o → orders new ≡ after_trades ts (orders old) ++ rest_of o left → new.prices ≡ old.prices → new.capacity ≡ old.capacity → IsOpen (n + 1) new
open-arrived n ts left o old new is entry e prices capacity =
    let count : length (orders new) ≡ length (after_trades ts (orders old)) + length (rest_of o left) =
    subst (λ os. length os ≡ length (after_trades ts (orders old)) + length (rest_of o left)) (sym e) (length-append (after_trades ts (orders old)) (rest_of o left)) in
    let place : o.place < n + 1 = omega (arith, entry.place) in
    let number : o.own < n + 1 = omega (arith, entry.number) in
    record {
      prices = prices ∙ is.prices;
      capacity = capacity ∙ is.capacity;
      few = omega (arith, is.few, count, fewer ts (orders old), one-more o left, length-map old.slots (λ (s : Slot). s.order), length-map new.slots (λ (s : Slot). s.order));
      places = joined-holds (λ x. x.place < n + 1) (λ m x h. h) ts left o old new e place (λ k d h. omega (arith, is.places k d h));
      numbers = joined-holds (λ x. x.own < n + 1) (λ m x h. h) ts left o old new e number (λ k d h. omega (arith, is.numbers k d h));
    }
