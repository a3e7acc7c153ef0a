-- The sums at a position, from running sums and levels.
use Rattle.std.proofs.Common.{◌≡◌, ℕ, ◌+◌, ◌-◌, ◌*◌, ◌<◌, ◌≤◌, ◌^◌, Bool, false, ltb, List, Option, length, refl, sym, ◌∙◌, ap, subst, arith}
use Rattle.std.specs.List.{All, sum}
use Rattle.std.specs.Option.{MatchOption}
use Rattle.std.proofs.lemmas.Bool.Decides.{nat_tests}
use Rattle.std.proofs.lemmas.List.Elements.{All-weaker}
use Rattle.depth_index.specs.Depths.{IsFirstReaching, IsNowhereReached, sum_upto}
use Rattle.order_list.specs.Lists.{Lists}
use Rattle.mkt_base.specs.Book.{is_buy_above, is_buy_at, is_sell_at, is_sell_below, price_at, sums_at, total_left}
use Rattle.mkt_base.specs.Priority.{is_on_level}
use Rattle.mkt_base.specs.declared.units.Price.{Price}
use Rattle.mkt_base.specs.declared.order.Side.{Side}
use Rattle.mkt_base.specs.declared.order.Side.TheVariants.{Buy, Sell}
use Rattle.mkt_base.specs.declared.order.Spot.{Spot}
use Rattle.mkt_base.specs.declared.order.Spot.TheVariants.{Market, At}
use Rattle.mkt_base.specs.declared.order.Order.{Order}
use Rattle.book_law.specs.BookView.{BookView, IsGridOf, IsSpotBelow, orders}
use Rattle.order_book.specs.Depths.{DepthView, by_spot, depth_at, is_limit_buy, limits_of}
use Rattle.order_book.specs.Levels.{with_price}
use Rattle.order_book.specs.Limits.{IsFirstLimitReached, IsNoLimitReached, is_limit_to}
use Rattle.order_book.specs.Linked.{IsLinked, linked, orders_in}
use Rattle.order_book.specs.Plain.{is_part}
use Rattle.order_book.specs.declared.held.Held.{Held}
use Rattle.order_book.specs.declared.total.Part.TheVariants.{BuysFrom, BuysAbove, SellsTo, SellsBelow}
use Rattle.order_book.proofs.BookLemmas.{buys-sum, few, nodes, on-grid, orders-of, sells-sum, total-fits}
use Rattle.order_book.proofs.DepthLemmas.{is_limit_upto, match-weaker, term, total-joined, upto-is}
use Rattle.order_book.proofs.SumLemmas.{buys-above, buys-from, sells-below, sells-to, sums-same, total-same}

-- a limit buy above the position
abbrev pub above_at : ℕ → Side → Spot → Bool
above_at i Buy Market = false
above_at i Buy (At j) = ltb i j
above_at i Sell spot = false

module _ (i : ℕ) where
  -- the limit buys are those up to the position and those above it
  split-limits : (side : Side) (spot : Spot) (left : ℕ) (o : Order)
      → term (by_spot is_limit_buy) (record o { side = side; spot = spot; left = left }) ≡ term (is_limit_to Buy i) (record o { side = side; spot = spot; left = left }) + term (by_spot (above_at i)) (record o { side = side; spot = spot; left = left })
  split-limits Buy Market left o = refl
  split-limits Buy (At j) left o = grind (arith, nat_tests)
  split-limits Sell Market left o = refl
  split-limits Sell (At j) left o = refl

  split-above : (side : Side) (spot : Spot) (left : ℕ) (o : Order)
      → term (is_part (BuysAbove i)) (record o { side = side; spot = spot; left = left }) ≡ term (is_on_level Buy Market) (record o { side = side; spot = spot; left = left }) + term (by_spot (above_at i)) (record o { side = side; spot = spot; left = left })
  split-above Buy Market left o = omega arith
  split-above Buy (At j) left o = omega arith
  split-above Sell Market left o = refl
  split-above Sell (At j) left o = refl

  split-from : (side : Side) (spot : Spot) (left : ℕ) (o : Order)
      → term (is_part (BuysFrom i)) (record o { side = side; spot = spot; left = left }) ≡ term (is_part (BuysAbove i)) (record o { side = side; spot = spot; left = left }) + term (is_on_level Buy (At i)) (record o { side = side; spot = spot; left = left })
  split-from Buy Market left o = omega arith
  split-from Buy (At j) left o = grind (arith, nat_tests)
  split-from Sell Market left o = refl
  split-from Sell (At j) left o = refl

  split-to : (side : Side) (spot : Spot) (left : ℕ) (o : Order)
      → term (is_part (SellsTo i)) (record o { side = side; spot = spot; left = left }) ≡ term (is_on_level Sell Market) (record o { side = side; spot = spot; left = left }) + term (is_limit_to Sell i) (record o { side = side; spot = spot; left = left })
  split-to Buy Market left o = refl
  split-to Buy (At j) left o = refl
  split-to Sell Market left o = omega arith
  split-to Sell (At j) left o = omega arith

  split-below : (side : Side) (spot : Spot) (left : ℕ) (o : Order)
      → term (is_part (SellsTo i)) (record o { side = side; spot = spot; left = left }) ≡ term (is_part (SellsBelow i)) (record o { side = side; spot = spot; left = left }) + term (is_on_level Sell (At i)) (record o { side = side; spot = spot; left = left })
  split-below Buy Market left o = refl
  split-below Buy (At j) left o = refl
  split-below Sell Market left o = omega arith
  split-below Sell (At j) left o = grind (arith, nat_tests)

  module _ (os : List Order) where
    pub limits-are : total_left (by_spot is_limit_buy) os ≡ total_left (is_limit_to Buy i) os + total_left (by_spot (above_at i)) os
    limits-are = total-joined (is_limit_to Buy i) (by_spot (above_at i)) (by_spot is_limit_buy) (λ o. split-limits o.side o.spot o.left o) os

    pub above-are : total_left (is_part (BuysAbove i)) os ≡ total_left (is_on_level Buy Market) os + total_left (by_spot (above_at i)) os
    above-are = total-joined (is_on_level Buy Market) (by_spot (above_at i)) (is_part (BuysAbove i)) (λ o. split-above o.side o.spot o.left o) os

    pub from-are : total_left (is_part (BuysFrom i)) os ≡ total_left (is_part (BuysAbove i)) os + total_left (is_on_level Buy (At i)) os
    from-are = total-joined (is_part (BuysAbove i)) (is_on_level Buy (At i)) (is_part (BuysFrom i)) (λ o. split-from o.side o.spot o.left o) os

    pub to-are : total_left (is_part (SellsTo i)) os ≡ total_left (is_on_level Sell Market) os + total_left (is_limit_to Sell i) os
    to-are = total-joined (is_on_level Sell Market) (is_limit_to Sell i) (is_part (SellsTo i)) (λ o. split-to o.side o.spot o.left o) os

    pub below-are : total_left (is_part (SellsTo i)) os ≡ total_left (is_part (SellsBelow i)) os + total_left (is_on_level Sell (At i)) os
    below-are = total-joined (is_part (SellsBelow i)) (is_on_level Sell (At i)) (is_part (SellsTo i)) (λ o. split-below o.side o.spot o.left o) os

module _ (n c b : ℕ) (held : Lists Held) (levels owners : Lists ℕ) (d : DepthView) (is : IsLinked n c b held levels owners d) (now : BookView) (view : linked n c held.lists ≡ now) where
  abbrev os : List Order
  os = orders_in (nodes n c b held levels owners d is now view)

  prices-are : now.prices ≡ n
  prices-are = sym (ap (λ v. v.prices) view)

  -- a running sum of the book
  pub limits-upto : (side : Side) (i : ℕ) → i < n → sum_upto (limits_of side d) i ≡ total_left (is_limit_to side i) (orders now)
  limits-upto Buy i h =
      upto-is Buy n d.buys os is.holds.depths.buy_count is.holds.depths.buys i h ∙ ap (total_left (is_limit_to Buy i)) (sym (orders-of n c b held levels owners d is now view))
  limits-upto Sell i h =
      upto-is Sell n d.sells os is.holds.depths.sell_count is.holds.depths.sells i h ∙ ap (total_left (is_limit_to Sell i)) (sym (orders-of n c b held levels owners d is now view))

  pub limits-length : (side : Side) → length (limits_of side d) ≡ n
  limits-length Buy = is.holds.depths.buy_count
  limits-length Sell = is.holds.depths.sell_count

  -- the first position that it finds
  pub limits-first : (side : Side) (least : ℕ) (found : Option ℕ) → MatchOption found (IsNowhereReached (limits_of side d) least) (IsFirstReaching (limits_of side d) least)
      → MatchOption found (IsNoLimitReached now side least) (IsFirstLimitReached now side least)
  limits-first side least found first =
      match-weaker found (IsNowhereReached (limits_of side d) least) (IsNoLimitReached now side least) (IsFirstReaching (limits_of side d) least) (IsFirstLimitReached now side least)
      (λ nowhere k h.
      let within : k < n = omega (arith, h, prices-are) in
      let short = nowhere k (omega (arith, within, limits-length side)) in
      omega (arith, short, limits-upto side k within))
      (λ i reached.
      let within : i < n = omega (arith, reached.within, limits-length side) in
      record {
        within = omega (arith, within, prices-are);
        reached = omega (arith, reached.reached, limits-upto side i within);
        first = λ k h. let short = reached.first k h in omega (arith, short, limits-upto side k (omega (arith, h, within)));
      }) first

  -- the limit buys together are those of all positions
  pub limits-sum : d.limit_buys ≡ sum d.buys
  limits-sum =
      is.holds.depths.limit_buys
      ∙ total-same (by_spot is_limit_buy) (by_spot (is_limit_upto Buy (n - 1))) os
      (All-weaker (λ o. IsSpotBelow n o.spot) (λ o. by_spot is_limit_buy o ≡ by_spot (is_limit_upto Buy (n - 1)) o) (λ o below. same_limits o.side o.spot below) os (on-grid n c b held levels owners d is now view))
      ∙ sym (buys-sum n c b held levels owners d is now view)
    where
      same_limits : (side : Side) (spot : Spot) → IsSpotBelow n spot → is_limit_buy side spot ≡ is_limit_upto Buy (n - 1) side spot
      same_limits Buy Market below = refl
      same_limits Buy (At j) below = grind (arith, nat_tests)
      same_limits Sell spot below = refl

  -- no sum is near what 64 bits hold
  pub sells-fit : sum d.sells < 2 ^ 63
  sells-fit =
      omega (arith, sells-sum n c b held levels owners d is now view, total-fits n c b held levels owners d is now view (by_spot (is_limit_upto Sell (n - 1))), few n c b held levels owners d is now view, is.holds.book.bound)

  module _ (i bought sold : ℕ) (h : i < now.prices) (bought_is : bought ≡ sum_upto (limits_of Buy d) i) (sold_is : sold ≡ sum_upto (limits_of Sell d) i) where
    within : i < n
    within = omega (arith, h, prices-are)

    few-left : (p : Order → Bool) → total_left p os ≤ 4294967295 * 100000000
    few-left p = omega (arith, total-fits n c b held levels owners d is now view p, few n c b held levels owners d is now view, is.holds.book.bound)

    bought-is : bought ≡ total_left (is_limit_to Buy i) os
    bought-is = bought_is ∙ upto-is Buy n d.buys os is.holds.depths.buy_count is.holds.depths.buys i within

    sold-is : sold ≡ total_left (is_limit_to Sell i) os
    sold-is = sold_is ∙ upto-is Sell n d.sells os is.holds.depths.sell_count is.holds.depths.sells i within

    pub bought-within : bought ≤ d.limit_buys
    bought-within = omega (arith, bought-is, is.holds.depths.limit_buys, limits-are i os)

    above-is : d.market_buys + (d.limit_buys - bought) ≡ total_left (is_part (BuysAbove i)) os
    above-is = omega (arith, bought-is, is.holds.depths.limit_buys, limits-are i os, is.holds.depths.market_buys, above-are i os)

    sells-is : d.market_sells + sold ≡ total_left (is_part (SellsTo i)) os
    sells-is = omega (arith, sold-is, is.holds.depths.market_sells, to-are i os)

    pub above-fits : d.market_buys + (d.limit_buys - bought) < 2 ^ 64
    above-fits = omega (arith, above-is, few-left (is_part (BuysAbove i)))

    pub sells-fits : d.market_sells + sold < 2 ^ 64
    sells-fits = omega (arith, sells-is, few-left (is_part (SellsTo i)))

    module _ (at at' : ℕ) (at_is : at ≡ depth_at Buy (At i) d) (at_is' : at' ≡ depth_at Sell (At i) d) where
      from-is : d.market_buys + (d.limit_buys - bought) + at ≡ total_left (is_part (BuysFrom i)) os
      from-is = omega (arith, above-is, at_is, is.holds.depths.buys i within, from-are i os)

      pub from-fits : d.market_buys + (d.limit_buys - bought) + at < 2 ^ 64
      from-fits = omega (arith, from-is, few-left (is_part (BuysFrom i)))

      below-is : d.market_sells + sold - at' ≡ total_left (is_part (SellsBelow i)) os
      below-is = omega (arith, sells-is, at_is', is.holds.depths.sells i within, below-are i os)

      pub sums-are : (grid : List Price) → IsGridOf now grid
          → with_price (price_at grid i) (record { buys = d.market_buys + (d.limit_buys - bought) + at; above = d.market_buys + (d.limit_buys - bought); sells = d.market_sells + sold; below = d.market_sells + sold - at' })
          ≡ sums_at grid (orders now) (price_at grid i)
      sums-are grid grid-is =
          let size : length grid ≡ n = grid-is.size ∙ prices-are in
          let inside : i < length grid = omega (arith, h, grid-is.size) in
          let same = orders-of n c b held levels owners d is now view in
          let below : All (λ o. IsSpotBelow (length grid) o.spot) os = subst (λ k. All (λ o. IsSpotBelow k o.spot) os) (sym size) (on-grid n c b held levels owners d is now view) in
          sums-same (price_at grid i)
          (record { buys = d.market_buys + (d.limit_buys - bought) + at; above = d.market_buys + (d.limit_buys - bought); sells = d.market_sells + sold; below = d.market_sells + sold - at' })
          (record {
            buys = total_left (is_buy_at grid (price_at grid i)) (orders now);
            above = total_left (is_buy_above grid (price_at grid i)) (orders now);
            sells = total_left (is_sell_at grid (price_at grid i)) (orders now);
            below = total_left (is_sell_below grid (price_at grid i)) (orders now);
          })
          (from-is ∙ buys-from grid grid-is.rising i inside os below ∙ ap (total_left (is_buy_at grid (price_at grid i))) (sym same))
          (above-is ∙ buys-above grid grid-is.rising i inside os below ∙ ap (total_left (is_buy_above grid (price_at grid i))) (sym same))
          (sells-is ∙ sells-to grid grid-is.rising i inside os below ∙ ap (total_left (is_sell_at grid (price_at grid i))) (sym same))
          (below-is ∙ sells-below grid grid-is.rising i inside os below ∙ ap (total_left (is_sell_below grid (price_at grid i))) (sym same))
