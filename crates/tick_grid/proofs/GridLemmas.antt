-- Positions on rising lists of prices.
use Rattle.std.proofs.Common.{◌≡◌, ◌≢◌, ℕ, ◌+◌, ◌-◌, ◌<◌, ◌≤◌, inl, inr, Bool, true, false, cond, eqb, leb, ltb, List, length, get_or, Option, Some, None, refl, ap, ◌∙◌, arith}
use Rattle.std.specs.List.{prefix_len, All}
use Rattle.std.specs.List.Sorted.{IsNonDecreasingBy, IsPartitionPoint}
use Rattle.std.proofs.lemmas.Bool.{cases_lt, le-leb, lt-leb, lt-ltb, le-ltb, eq-eqb, ne_eqb, leb-true, ltb-true, ltb-false, leb-false}
use Rattle.std.proofs.lemmas.Bool.Decides.{nat_tests}
use Rattle.std.proofs.lemmas.List.Sums.{position_or_len_is, prefix_len_is, prefix_len-le-length, prefix_len_passes, prefix_len_stops}
use Rattle.std.specs.Option.{MatchOption}
use Rattle.std.proofs.lemmas.List.{get_or_default}
use Rattle.std.proofs.lemmas.List.Sorted.{IsNonDecreasingBy-from_default}
use Rattle.mkt_base.specs.Book.{IsRising, price_at}
use Rattle.mkt_base.specs.declared.units.Price.{Price}
use Rattle.tick_grid.specs.Grid.{IsGreatestUpto, IsLeastFrom, ceil_of, floor_of, index_of}

abbrev no_price : Price
no_price = record { 0 = 0 }

-- a rising list does not fall
pub not-falling : (prices : List Price) → IsRising prices → (i j : ℕ) → i ≤ j → j < length prices → price_at prices i ≤ price_at prices j
not-falling prices rising i j order inside =
    elim (cases_lt i j) [
      | inl less ↦ omega (arith, rising i j less inside)
      | inr all ↦ let same : i ≡ j = omega arith in omega (arith, ap (price_at prices) same)
    ]

pub non-decreasing : (prices : List Price) → IsRising prices → IsNonDecreasingBy (λ q. q.0) prices
non-decreasing prices rising = IsNonDecreasingBy-from_default (λ q. q.0) prices no_price (not-falling prices rising)

-- a partition point is the number of the elements that pass
pub passing-front : (test : Price → Bool) (prices : List Price) (n : ℕ) → n ≤ length prices
    → IsPartitionPoint (λ q. test q ≡ true) (λ q. test q ≡ false) prices n → prefix_len test prices ≡ n
passing-front test prices n inside point =
    prefix_len_is test prices n no_price inside (λ k less. point.0 k no_price (omega arith) less) (λ less. point.1 n no_price (omega arith) less)

-- how many are not above p, by the position of the greatest of them
floor-count : (n i : ℕ) → cond (eqb n 0) None (Some (n - 1)) ≡ Some i → n ≡ i + 1
floor-count n i found = grind (arith, nat_tests)

floor-nothing : (n : ℕ) → cond (eqb n 0) None (Some (n - 1)) ≡ None → n ≡ 0
floor-nothing n none = grind (arith, nat_tests)

pub floor_of-found : (prices : List Price) (p i : ℕ) → IsRising prices → floor_of prices p ≡ Some i → IsGreatestUpto prices p i
unfolding floor_of
floor_of-found prices p i rising found =
    let test : Price → Bool = λ q. leb q.0 p in
    let count : prefix_len test prices ≡ i + 1 = floor-count (prefix_len test prices) i found in
    let all = prefix_len-le-length test prices in
    record {
      inside = omega (arith, count, all);
      upto = leb-true (price_at prices i) p (prefix_len_passes test prices i no_price (omega (arith, count)));
      beyond = λ k later inside.
          let stops = prefix_len_stops test prices no_price (omega (arith, count)) in
          let next : p < price_at prices (i + 1) = leb-false (price_at prices (i + 1)) p (rw count at stops) in
          omega (arith, next, not-falling prices rising (i + 1) k (omega arith) inside);
    }

pub floor_of-above : (prices : List Price) (p : ℕ) → IsRising prices → floor_of prices p ≡ None → (k : ℕ) → k < length prices → p < price_at prices k
unfolding floor_of
floor_of-above prices p rising none k inside =
    let test : Price → Bool = λ q. leb q.0 p in
    let count : prefix_len test prices ≡ 0 = floor-nothing (prefix_len test prices) none in
    let stops = prefix_len_stops test prices no_price (omega (arith, count, inside)) in
    let first : p < price_at prices 0 = leb-false (price_at prices 0) p (rw count at stops) in
    omega (arith, first, not-falling prices rising 0 k (omega arith) inside)

-- how many are below p, by the position of the least that is not
ceil-count : (n all i : ℕ) → cond (ltb n all) (Some n) None ≡ Some i → (n ≡ i) × (i < all)
ceil-count n all i found = grind (arith, nat_tests)

ceil-nothing : (n all : ℕ) → cond (ltb n all) (Some n) None ≡ None → all ≤ n
ceil-nothing n all none = grind (arith, nat_tests)

pub ceil_of-found : (prices : List Price) (p i : ℕ) → ceil_of prices p ≡ Some i → IsLeastFrom prices p i
unfolding ceil_of
ceil_of-found prices p i found =
    let test : Price → Bool = λ q. ltb q.0 p in
    let count = ceil-count (prefix_len test prices) (length prices) i found in
    let stops = prefix_len_stops test prices no_price (omega (arith, count.0, count.1)) in
    record {
      inside = count.1;
      from = ltb-false (price_at prices i) p (rw count.0 at stops);
      before = λ k less. ltb-true (price_at prices k) p (prefix_len_passes test prices k no_price (omega (arith, count.0, less)));
    }

pub ceil_of-below : (prices : List Price) (p : ℕ) → ceil_of prices p ≡ None → (k : ℕ) → k < length prices → price_at prices k < p
unfolding ceil_of
ceil_of-below prices p none k inside =
    let test : Price → Bool = λ q. ltb q.0 p in
    ltb-true (price_at prices k) p (prefix_len_passes test prices k no_price (omega (arith, inside, ceil-nothing (prefix_len test prices) (length prices) none)))

-- the laws of the two searches, by what is found
pub floor-is-greatest : (prices : List Price) (p : ℕ) → IsRising prices → MatchOption (floor_of prices p) (All (λ q. p < q.0) prices) (IsGreatestUpto prices p)
floor-is-greatest prices p rising = go (floor_of prices p) refl
  where
    go : (found : Option ℕ) → floor_of prices p ≡ found → MatchOption found (All (λ q. p < q.0) prices) (IsGreatestUpto prices p)
    go None e = λ k d inside. omega (arith, floor_of-above prices p rising e k inside, ap (λ (q : Price). q.0) (get_or_default prices k d no_price inside))
    go (Some i) e = floor_of-found prices p i rising e

pub ceil-is-least : (prices : List Price) (p : ℕ) → MatchOption (ceil_of prices p) (All (λ q. q.0 < p) prices) (IsLeastFrom prices p)
ceil-is-least prices p = go (ceil_of prices p) refl
  where
    go : (found : Option ℕ) → ceil_of prices p ≡ found → MatchOption found (All (λ q. q.0 < p) prices) (IsLeastFrom prices p)
    go None e = λ k d inside. omega (arith, ceil_of-below prices p e k inside, ap (λ (q : Price). q.0) (get_or_default prices k d no_price inside))
    go (Some i) e = ceil_of-found prices p i e

-- the position of a price
pub index_of-at : (prices : List Price) (i p : ℕ) → IsRising prices → i < length prices → price_at prices i ≡ p → index_of prices p ≡ Some i
unfolding index_of
index_of-at prices i p rising inside is =
    let test : Price → Bool = λ q. eqb q.0 p in
    let before : (k : ℕ) → k < i → test (get_or prices k no_price) ≡ false =
    λ k less. ne_eqb (price_at prices k) p (λ same. absurd (omega (arith, same, is, rising k i less inside))) in
    let first = position_or_len_is test prices i no_price (omega arith) before (λ _. eq-eqb (price_at prices i) p is) in
    rw first (grind (arith, nat_tests))

-- a price that is nowhere
pub index_of-none : (prices : List Price) (p : ℕ) → ((k : ℕ) → k < length prices → price_at prices k ≢ p) → index_of prices p ≡ None
unfolding index_of
index_of-none prices p none =
    let test : Price → Bool = λ q. eqb q.0 p in
    let before : (k : ℕ) → k < length prices → test (get_or prices k no_price) ≡ false = λ k less. ne_eqb (price_at prices k) p (none k less) in
    let first = position_or_len_is test prices (length prices) no_price (omega arith) before (λ h. absurd (omega (arith, h))) in
    rw first (grind (arith, nat_tests))

-- p is not on the grid: all prices are above it, or the greatest that is not is another
pub index_of-above : (prices : List Price) (p : ℕ) → IsRising prices → floor_of prices p ≡ None → index_of prices p ≡ None
index_of-above prices p rising none = index_of-none prices p (λ k inside same. absurd (omega (arith, same, floor_of-above prices p rising none k inside)))

pub index_of-between : (prices : List Price) (p i : ℕ) → IsRising prices → floor_of prices p ≡ Some i → price_at prices i ≢ p → index_of prices p ≡ None
index_of-between prices p i rising found other =
    let is : IsGreatestUpto prices p i = floor_of-found prices p i rising found in
    index_of-none prices p (λ k inside same.
    elim (cases_lt i k) [
      | inl later ↦ absurd (omega (arith, same, is.beyond k later inside))
      | inr sooner ↦
          let order = not-falling prices rising k i sooner is.inside in
          other (omega (arith, order, same, is.upto))
    ])

-- the least price not below p, where p lies between two neighbours
pub ceil_of-between : (prices : List Price) (p i : ℕ) → IsRising prices → i < length prices → p ≤ price_at prices i
    → ((k : ℕ) → k < i → price_at prices k < p) → ceil_of prices p ≡ Some i
unfolding ceil_of
ceil_of-between prices p i rising inside here before =
    let test : Price → Bool = λ q. ltb q.0 p in
    let count : prefix_len test prices ≡ i =
    prefix_len_is test prices i no_price (omega arith) (λ k less. lt-ltb (price_at prices k) p (before k less)) (λ _. le-ltb (price_at prices i) p here) in
    ap (λ k. cond (ltb k (length prices)) (Some k) None) count ∙ ap (λ (b : Bool). cond b (Some i) None) (lt-ltb i (length prices) inside)

-- the greatest price not above p, likewise
pub floor_of-between : (prices : List Price) (p i : ℕ) → IsRising prices → i < length prices → price_at prices i ≤ p
    → (i + 1 < length prices → p < price_at prices (i + 1)) → floor_of prices p ≡ Some i
unfolding floor_of
floor_of-between prices p i rising inside here next =
    let test : Price → Bool = λ q. leb q.0 p in
    let before : (k : ℕ) → k < i + 1 → test (get_or prices k no_price) ≡ true =
    λ k less. le-leb (price_at prices k) p (omega (arith, here, not-falling prices rising k i (omega arith) inside)) in
    let count : prefix_len test prices ≡ i + 1 =
    prefix_len_is test prices (i + 1) no_price (omega arith) before (λ less. lt-leb (price_at prices (i + 1)) p (next less)) in
    let back : i + 1 - 1 ≡ i = omega arith in
    ap (λ k. cond (eqb k 0) None (Some (k - 1))) count ∙ ap (λ (b : Bool). cond b None (Some (i + 1 - 1))) (ne_eqb (i + 1) 0 (λ same. absurd (omega (arith, same)))) ∙ ap (λ k. Some k) back
