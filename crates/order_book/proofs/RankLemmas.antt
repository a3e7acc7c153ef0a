-- A side in its priority, by the ranks of its spots.
use Rattle.std.proofs.Common.{◌≡◌, ℕ, ◌+◌, ◌<◌, Bool, true, not, ltb, eqb, ◌&&◌, ◌||◌, List, length, map, get_or, refl, ap, subst, arith}
use Rattle.std.specs.List.{All, AllPairs, range_with_len}
use Rattle.std.proofs.lemmas.Bool.Decides.{nat_tests}
use Rattle.std.proofs.lemmas.List.FromFn.{get_or-map-range_with_len, length-map-range_with_len}
use Rattle.mkt_base.specs.Book.{IsRising, has_priority, is_better, price_at}
use Rattle.mkt_base.specs.Priority.{in_priority}
use Rattle.mkt_base.specs.declared.units.Price.{Price}
use Rattle.mkt_base.specs.declared.order.Side.{Side}
use Rattle.mkt_base.specs.declared.order.Side.TheVariants.{Buy, Sell}
use Rattle.mkt_base.specs.declared.order.Spot.{Spot}
use Rattle.mkt_base.specs.declared.order.Spot.TheVariants.{Market, At}
use Rattle.mkt_base.specs.declared.order.Order.{Order}
use Rattle.mkt_base.proofs.PriorityLemmas.{in_priority-ranked}
use Rattle.book_law.specs.BookView.{IsSpotBelow}
use Rattle.order_book.specs.Plain.{is_ahead, rank}
use Rattle.order_book.proofs.SideLemmas.{side-holds}

-- the grid of the prices 1 to n
counting : ℕ → List Price
counting n = map (λ i. record { 0 = i + 1 }) (range_with_len 0 n)

module _ (n : ℕ) where
  -- it has n prices
  counting-size : length (counting n) ≡ n
  unfolding counting
  counting-size = length-map-range_with_len {X = Price} (λ i. record { 0 = i + 1 }) 0 n

  -- its price at a position is one more
  counting-price : (i : ℕ) → i < n → price_at (counting n) i ≡ i + 1
  unfolding counting
  counting-price i h = ap (λ (p : Price). p.0) (get_or-map-range_with_len {X = Price} (λ k. record { 0 = k + 1 }) 0 n i i (record { 0 = 0 }) h (omega arith))

  -- its prices rise
  counting-rises : IsRising (counting n)
  counting-rises i j h k =
      let size = counting-size in
      let second = counting-price j (omega (arith, k, size)) in
      let first = counting-price i (omega (arith, h, k, size)) in
      omega (arith, h, first, second)

  -- a better spot has a lower rank
  better-is : (side : Side) (s t : Spot) → IsSpotBelow n s → IsSpotBelow n t → is_better (counting n) side s t ≡ ltb (rank n side s) (rank n side t)
  better-is Buy Market Market below above = refl
  better-is Sell Market Market below above = refl
  better-is Buy Market (At j) below above = grind (arith, nat_tests)
  better-is Sell Market (At j) below above = grind (arith, nat_tests)
  better-is Buy (At i) Market below above = grind (arith, nat_tests)
  better-is Sell (At i) Market below above = grind (arith, nat_tests)
  better-is Buy (At i) (At j) below above = let first = counting-price i below in let second = counting-price j above in grind (arith, nat_tests, first, second)
  better-is Sell (At i) (At j) below above = let first = counting-price i below in let second = counting-price j above in grind (arith, nat_tests, first, second)

  -- the two ways to say that one of two orders comes first
  ahead-tests : (r s p q : ℕ) (a b : Bool) → a ≡ ltb r s → b ≡ ltb s r → (a || (not b && ltb p q)) ≡ true → (ltb r s || (eqb r s && ltb p q)) ≡ true
  ahead-tests r s p q a b e f so = grind (arith, nat_tests, e, f, so)

  -- what has priority on this grid comes before by rank
  ahead-from : (side : Side) (a b : Order) → IsSpotBelow n a.spot → IsSpotBelow n b.spot → has_priority (counting n) side a b ≡ true → is_ahead n side a b ≡ true
  ahead-from side a b below above so =
      ahead-tests (rank n side a.spot) (rank n side b.spot) a.place b.place (is_better (counting n) side a.spot b.spot) (is_better (counting n) side b.spot a.spot)
      (better-is side a.spot b.spot below above) (better-is side b.spot a.spot above below) so

  -- each order of a side is ahead of those behind it
  pub side-ahead : (side : Side) (os : List Order) → AllPairs (λ a b. a.place < b.place) os → All (λ o. IsSpotBelow n o.spot) os
      → AllPairs (λ a b. is_ahead n side a b ≡ true) (in_priority n side os)
  side-ahead side os rising below i j d h k =
      let line = in_priority n side os in
      let ranked : AllPairs (λ a b. has_priority (counting n) side a b ≡ true) line =
      subst (λ m. AllPairs (λ a b. has_priority (counting n) side a b ≡ true) (in_priority m side os)) counting-size (in_priority-ranked (counting n) side os counting-rises rising) in
      let spots = side-holds side os n (λ o. IsSpotBelow n o.spot) below in
      ahead-from side (get_or line i d) (get_or line j d) (spots i d (omega (arith, h, k))) (spots j d k) (ranked i j d h k)
