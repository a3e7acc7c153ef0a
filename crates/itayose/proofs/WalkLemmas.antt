-- The steps of the walk outward from a reference.
use Rattle.std.proofs.Common.{◌≡◌, ℕ, ◌+◌, ◌-◌, ◌<◌, ◌^◌, All, List, ◌∷◌, ◌++◌, length, take, drop, take-append-drop, refl, sym, ap, subst, ◌∙◌, arith}
use Rattle.mkt_base.specs.Book.{FitsSums, IsOnGrid, IsRising, above, below, buys, price_at, sells, sums_at, total_left}
use Rattle.mkt_base.specs.Priority.{is_on_level}
use Rattle.mkt_base.specs.declared.auction.Sums.{Sums}
use Rattle.mkt_base.specs.declared.order.Order.{Order}
use Rattle.mkt_base.specs.declared.order.Side.TheVariants.{Buy, Sell}
use Rattle.mkt_base.specs.declared.order.Spot.TheVariants.{At}
use Rattle.mkt_base.specs.declared.units.Price.{Price}
use Rattle.auction_law.specs.Nearness.{IsWalk, by_nearness, prices_of}
use Rattle.auction_law.proofs.NearnessLemmas.{key-above, nearer-true}
use Rattle.auction_law.proofs.SumsLemmas.{price-le}
use Rattle.auction_law.proofs.WalkLemmas.{walk_below}
use Rattle.itayose.proofs.SumLemmas.{above-next, buys-fit, buys-level, sells-fit, sells-level, sells-next}

-- the sums at a position i in terms of those at the next one j above it, and the other way round
pub record AreNeighbours (os : List Order) (i j : ℕ) (low high : Sums) : Type 0 where
  pub above : low.above ≡ high.buys
  pub buys : low.buys ≡ high.buys + total_left (is_on_level Buy (At i)) os
  pub sells : low.sells ≡ high.below
  pub below : high.below ≡ low.below + total_left (is_on_level Sell (At i)) os
  pub high_buys : high.buys ≡ high.above + total_left (is_on_level Buy (At j)) os
  pub high_sells : high.sells ≡ high.below + total_left (is_on_level Sell (At j)) os
  pub bought : low.buys < 2 ^ 64
  pub sold : high.sells < 2 ^ 64

module _ (grid : List Price) (os : List Order) (on : All (λ o. IsOnGrid grid o.spot) os) (fits : FitsSums os) (rising : IsRising grid) where
  -- what they are
  neighbours : (i : ℕ) → i + 1 < length grid → AreNeighbours os i (i + 1) (sums_at grid os (price_at grid i)) (sums_at grid os (price_at grid (i + 1)))
  neighbours i h =
      let up = above-next grid rising i (omega arith) os on h in
      let down = sells-next grid rising i (omega arith) os on h in
      record {
        above = up;
        buys = buys-level grid rising i (omega arith) os on ∙ ap (λ n. n + total_left (is_on_level Buy (At i)) os) up;
        sells = sym down;
        below = down ∙ sells-level grid rising i (omega arith) os on;
        high_buys = buys-level grid rising (i + 1) h os on;
        high_sells = sells-level grid rising (i + 1) h os on;
        bought = buys-fit grid os (price_at grid i) fits;
        sold = sells-fit grid os (price_at grid (i + 1)) fits;
      }

  -- the same where the upper sums are given, or the lower
  pub with_upper : (i : ℕ) (high : Sums) → i + 1 < length grid → high ≡ sums_at grid os (price_at grid (i + 1)) → AreNeighbours os i (i + 1) (sums_at grid os (price_at grid i)) high
  with_upper i high h e = subst (AreNeighbours os i (i + 1) (sums_at grid os (price_at grid i))) (sym e) (neighbours i h)

  -- and so from the lower one
  pub with_lower : (i : ℕ) (low : Sums) → 0 < i → i < length grid → low ≡ sums_at grid os (price_at grid (i - 1)) → AreNeighbours os (i - 1) i low (sums_at grid os (price_at grid i))
  with_lower i low some h e =
      let up : i - 1 + 1 ≡ i = omega arith in
      subst (λ s. AreNeighbours os (i - 1) i s (sums_at grid os (price_at grid i))) (sym e)
      (subst (λ j. AreNeighbours os (i - 1) j (sums_at grid os (price_at grid (i - 1))) (sums_at grid os (price_at grid j))) up (neighbours (i - 1) (omega arith)))

-- sums are equal by their parts
pub same_sums : (grid : List Price) (os : List Order) (i : ℕ) (s : Sums) → s.price.0 ≡ price_at grid i → s.buys ≡ buys grid os (price_at grid i) → s.above ≡ above grid os (price_at grid i)
    → s.sells ≡ sells grid os (price_at grid i) → s.below ≡ below grid os (price_at grid i) → s ≡ sums_at grid os (price_at grid i)
same_sums grid os i s p x y z w = λ k. record { price = record { 0 = p k }; buys = x k; above = y k; sells = z k; below = w k }

-- a walk begins at its reference, the nearest of all
pub begins : (grid : List Price) (i : ℕ) → IsRising grid → i < length grid
    → by_nearness (price_at grid i) (prices_of grid) ≡ price_at grid i ∷ by_nearness (price_at grid i) (prices_of (take i grid ++ drop (i + 1) grid))
begins grid i rising h =
    ap (λ xs. by_nearness (price_at grid i) (prices_of xs)) (sym (take-append-drop (i + 1) grid))
    ∙ walk_below grid (price_at grid i) i (i + 1) (i + 1) walk refl (λ l. nearer-true (price_at grid i) (price_at grid i) (price_at grid (i + 1)) (key-above (price_at grid i) (price_at grid i) (price_at grid (i + 1)) (omega arith) (rising i (i + 1) (omega arith) l)))
  where
    walk : IsWalk grid (price_at grid i) (i + 1) (i + 1)
    walk = record {
      rising = rising;
      order = omega arith;
      within = omega arith;
      low = λ k l. price-le grid k i rising (omega arith) h;
      high = λ k l m. rising i k (omega arith) m;
    }
