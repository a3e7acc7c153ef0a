-- The numbers that a book keeps of its levels: what becomes of them by an order, and what the running sums say.
use Rattle.std.proofs.Common.{◌≡◌, ◌≢◌, ◌⊎◌, ℕ, zero, suc, ◌+◌, ◌-◌, ◌*◌, ◌<◌, ◌≤◌, ◌&&◌, Bool, true, false, cond, not, eqb, leb, List, [], ◌∷◌, ◌++◌, length, map, filter, get_or, set, take, Option, Some, None, refl, sym, ◌∙◌, ap, subst, inl, inr, arith}
use Rattle.std.specs.Option.{MatchOption}
use Rattle.std.specs.List.{All, AllByRecursion, find, sum}
use Rattle.std.proofs.lemmas.Bool.{cases_eq, cases_lt, eq-eqb, eqb-true, ne_eqb}
use Rattle.std.proofs.lemmas.Bool.Decides.{nat_tests}
use Rattle.std.proofs.lemmas.List.{get_or-set_other, get_or-set_same, length-set, take_all}
use Rattle.std.proofs.lemmas.List.Sums.{sum_by-cons, sum_by-le, sum_by_push}
use Rattle.depth_index.specs.Depths.{IsFirstReaching, IsNowhereReached, sum_upto}
use Rattle.depth_index.proofs.SumLemmas.{sum-take-more, sum-take-rises}
use Rattle.order_list.specs.Lists.{Linked, is_at, item_at}
use Rattle.mkt_base.specs.Book.{total_left}
use Rattle.mkt_base.specs.Priority.{is_on_level, is_same_side, is_same_spot}
use Rattle.mkt_base.specs.declared.order.Side.{Side}
use Rattle.mkt_base.specs.declared.order.Side.TheVariants.{Buy, Sell}
use Rattle.mkt_base.specs.declared.order.Spot.{Spot}
use Rattle.mkt_base.specs.declared.order.Spot.TheVariants.{Market, At}
use Rattle.mkt_base.specs.declared.order.Order.{Order}
use Rattle.book_law.specs.BookView.{IsSpotBelow, less}
use Rattle.order_book.specs.Depths.{AreDepthsOf, DepthView, IsEmptyWithin, IsFirstFrom, IsLastBelow, by_spot, depth_at, fewer, is_limit_buy, more}
use Rattle.order_book.specs.Limits.{is_limit_within}
use Rattle.order_book.specs.Linked.{AreApart, orders_in}
use Rattle.order_book.specs.declared.held.Held.{Held}
use Rattle.order_book.proofs.FiledLemmas.{each-weaker, find-cases}

-- what an order counts for
abbrev pub term : (Order → Bool) → Order → ℕ
term p o = cond (p o) o.left 0

pub total-cons : (p : Order → Bool) (o : Order) (os : List Order) → total_left p (o ∷ os) ≡ term p o + total_left p os
unfolding total_left
total-cons p o os = sum_by-cons (term p) o os

pub total-push : (p : Order → Bool) (os : List Order) (o : Order) → total_left p (os ++ o ∷ []) ≡ total_left p os + term p o
unfolding total_left
total-push p os o = sum_by_push (term p) os o

pub total-joined : (p q r : Order → Bool) → ((o : Order) → term r o ≡ term p o + term q o) → (os : List Order) → total_left r os ≡ total_left p os + total_left q os
unfolding total_left
total-joined p q r joined [] = refl
total-joined p q r joined (o ∷ os) =
    omega (arith, sum_by-cons (term r) o os, sum_by-cons (term p) o os, sum_by-cons (term q) o os, joined o, total-joined p q r joined os)

-- where nothing is left of what passes, nothing passes
pub total-zero : (p : Order → Bool) (os : List Order) → All (λ o. 1 ≤ o.left) os → total_left p os ≡ 0 → All (λ o. p o ≡ false) os
total-zero p [] some none = λ k d h. absurd (omega (arith, h))
total-zero p (o ∷ os) some none =
    by_index (total-zero p os (λ j e l. some (suc j) e (omega (arith, l))) (omega (arith, total-cons p o os, none)))
  where
    here : (b : Bool) → p o ≡ b → term p o ≡ 0 → p o ≡ false
    here true is zero' = absurd (omega (arith, sym (ap (λ b. cond b o.left 0) is) ∙ zero', some 0 o (omega arith)))
    here false is zero' = is

    by_index : All (λ o. p o ≡ false) os → (k : ℕ) (d : Order) → k < length (o ∷ os) → p (get_or (o ∷ os) k d) ≡ false
    by_index rest zero d h = here (p o) refl (omega (arith, total-cons p o os, none))
    by_index rest (suc k) d h = rest k d (omega (arith, h))

-- no order has more than the limit left
pub total-most : (p : Order → Bool) (os : List Order) → All (λ o. o.left ≤ 100000000) os → total_left p os ≤ length os * 100000000
unfolding total_left
total-most p os limit = sum_by-le (term p) 100000000 os (λ k d h. by_test (get_or os k d) (p (get_or os k d)) (limit k d h))
  where
    by_test : (o : Order) (b : Bool) → o.left ≤ 100000000 → cond b o.left 0 ≤ 100000000
    by_test o true limit = limit
    by_test o false limit = omega arith

-- an order that a handle finds, among those of a list by place
module _ (h : ℕ) where
  pub none-found : (ns : List (Linked Held)) → AllByRecursion (λ m. is_at h m ≡ false) ns → filter (λ n. not (is_at h n)) ns ≡ ns
  none-found [] all = refl
  none-found (n ∷ ns) all = ap (λ b. cond (not b) (n ∷ filter (λ m. not (is_at h m)) ns) (filter (λ m. not (is_at h m)) ns)) all.0 ∙ ap (λ xs. n ∷ xs) (none-found ns all.1)

  none-changed : (x : Held) (ns : List (Linked Held)) → AllByRecursion (λ m. is_at h m ≡ false) ns → map (item_at h x) ns ≡ ns
  none-changed x [] all = refl
  none-changed x (n ∷ ns) all = ap (λ b. record n { item = cond b x n.item } ∷ map (item_at h x) ns) all.0 ∙ ap (λ xs. n ∷ xs) (none-changed x ns all.1)

  pub others : (n : Linked Held) (ns : List (Linked Held)) → is_at h n ≡ true → AllByRecursion (λ m. n.link ≢ m.link) ns → AllByRecursion (λ m. is_at h m ≡ false) ns
  others n ns is = each-weaker (λ m. n.link ≢ m.link) (λ m. is_at h m ≡ false) (λ m differs. ne_eqb m.link h (λ same. differs (eqb-true n.link h is ∙ sym same))) ns

module _ (h : ℕ) (t : Linked Held) (p : Order → Bool) where
  -- without it, what is added up is less by what it has left
  pub total-without : (ns : List (Linked Held)) → AreApart (λ n. n.link) ns → find (is_at h) ns ≡ Some t
      → total_left p (orders_in (filter (λ n. not (is_at h n)) ns)) + term p t.item.order ≡ total_left p (orders_in ns)
  total-without [] apart e = absurd (cc)
  total-without (n ∷ ns) apart e =
      elim (find-cases (is_at h) n ns t e) [
        | inl here ↦
            let rest : filter (λ m. not (is_at h m)) (n ∷ ns) ≡ ns =
            ap (λ b. cond (not b) (n ∷ filter (λ m. not (is_at h m)) ns) (filter (λ m. not (is_at h m)) ns)) here.0 ∙ none-found h ns (others h n ns here.0 apart.0) in
            let same : term p n.item.order ≡ term p t.item.order = ap (λ (m : Linked Held). term p m.item.order) here.1 in
            omega (arith, ap (λ ms. total_left p (orders_in ms)) rest, total-cons p n.item.order (orders_in ns), same)
        | inr there ↦
            let kept : filter (λ m. not (is_at h m)) (n ∷ ns) ≡ n ∷ filter (λ m. not (is_at h m)) ns =
            ap (λ b. cond (not b) (n ∷ filter (λ m. not (is_at h m)) ns) (filter (λ m. not (is_at h m)) ns)) there.0 in
            omega (
              arith,
              ap (λ ms. total_left p (orders_in ms)) kept,
              total-cons p n.item.order (orders_in (filter (λ m. not (is_at h m)) ns)),
              total-cons p n.item.order (orders_in ns),
              total-without ns apart.1 there.1,
            )
      ]

  -- with less left of it, by as much less
  pub total-less : (by : ℕ) (x : Held) (ns : List (Linked Held)) → AreApart (λ n. n.link) ns → find (is_at h) ns ≡ Some t → x.order ≡ less by t.item.order → by ≤ t.item.order.left
      → p x.order ≡ p t.item.order → total_left p (orders_in (map (item_at h x) ns)) + cond (p t.item.order) by 0 ≡ total_left p (orders_in ns)
  total-less by x [] apart e is within same = absurd (cc)
  total-less by x (n ∷ ns) apart e is within same =
      elim (find-cases (is_at h) n ns t e) [
        | inl here ↦
            let first : map (item_at h x) (n ∷ ns) ≡ record n { item = x } ∷ ns =
            ap (λ b. record n { item = cond b x n.item } ∷ map (item_at h x) ns) here.0 ∙ ap (λ xs. record n { item = x } ∷ xs) (none-changed h x ns (others h n ns here.0 apart.0)) in
            let old : term p n.item.order ≡ term p t.item.order = ap (λ (m : Linked Held). term p m.item.order) here.1 in
            omega (
              arith,
              ap (λ ms. total_left p (orders_in ms)) first,
              total-cons p x.order (orders_in ns),
              total-cons p n.item.order (orders_in ns),
              old,
              by_test (p t.item.order) same,
            )
        | inr there ↦
            let kept : map (item_at h x) (n ∷ ns) ≡ n ∷ map (item_at h x) ns = ap (λ b. record n { item = cond b x n.item } ∷ map (item_at h x) ns) there.0 in
            omega (
              arith,
              ap (λ ms. total_left p (orders_in ms)) kept,
              total-cons p n.item.order (orders_in (map (item_at h x) ns)),
              total-cons p n.item.order (orders_in ns),
              total-less by x ns apart.1 there.1 is within same,
            )
      ]
    where
      by_test : (b : Bool) → p x.order ≡ b → cond (p x.order) x.order.left 0 + cond b by 0 ≡ cond b t.item.order.left 0
      by_test true e' = let left : x.order.left ≡ t.item.order.left - by = ap (λ o. o.left) is in omega (arith, ap (λ b. cond b x.order.left 0) e', left, within)
      by_test false e' = omega (arith, ap (λ b. cond b x.order.left 0) e')

-- a level's number
level_test : Side → Spot → Side → Spot → Bool
level_test s t side spot = is_same_side s side && is_same_spot t spot

module _ (n : ℕ) (d : DepthView) (os os' : List Order) (qty : ℕ) (is : AreDepthsOf n d os) where
  -- so much more is left on a level
  pub depths-more : (side : Side) (spot : Spot) → IsSpotBelow n spot
      → ((q : Side → Spot → Bool) → total_left (by_spot q) os' ≡ total_left (by_spot q) os + cond (q side spot) qty 0) → AreDepthsOf n (more side spot qty d) os'
  unfolding level_test
  depths-more Buy Market below adds =
      record {
        buy_count = is.buy_count;
        sell_count = is.sell_count;
        buys = λ i h. is.buys i h ∙ (let e = adds (level_test Buy (At i)) in omega (arith, e));
        sells = λ i h. is.sells i h ∙ (let e = adds (level_test Sell (At i)) in omega (arith, e));
        market_buys = let e = adds (level_test Buy Market) in omega (arith, e, is.market_buys);
        market_sells = let e = adds (level_test Sell Market) in omega (arith, e, is.market_sells);
        limit_buys = let e = adds is_limit_buy in omega (arith, e, is.limit_buys);
      }
  depths-more Sell Market below adds =
      record {
        buy_count = is.buy_count;
        sell_count = is.sell_count;
        buys = λ i h. is.buys i h ∙ (let e = adds (level_test Buy (At i)) in omega (arith, e));
        sells = λ i h. is.sells i h ∙ (let e = adds (level_test Sell (At i)) in omega (arith, e));
        market_buys = let e = adds (level_test Buy Market) in omega (arith, e, is.market_buys);
        market_sells = let e = adds (level_test Sell Market) in omega (arith, e, is.market_sells);
        limit_buys = let e = adds is_limit_buy in omega (arith, e, is.limit_buys);
      }
  depths-more Buy (At j) below adds =
      record {
        buy_count = length-set d.buys j (get_or d.buys j 0 + qty) ∙ is.buy_count;
        sell_count = is.sell_count;
        buys = λ i h.
            let e : total_left (by_spot (level_test Buy (At i))) os' ≡ total_left (by_spot (level_test Buy (At i))) os + cond (eqb i j) qty 0 = adds (level_test Buy (At i)) in
            elim (cases_eq i j) [
              | inl same ↦
                  subst (λ k. get_or (set d.buys j (get_or d.buys j 0 + qty)) k 0 ≡ get_or d.buys k 0 + qty) (sym same) (get_or-set_same d.buys j (get_or d.buys j 0 + qty) 0 (omega (arith, below, is.buy_count)))
                  ∙ (omega (arith, is.buys i h, e, ap (λ b. cond b qty 0) (eq-eqb i j same)))
              | inr differs ↦
                  get_or-set_other d.buys j i (get_or d.buys j 0 + qty) 0 differs ∙ (omega (arith, is.buys i h, e, ap (λ b. cond b qty 0) (ne_eqb i j differs)))
            ];
        sells = λ i h. is.sells i h ∙ (let e = adds (level_test Sell (At i)) in omega (arith, e));
        market_buys = let e = adds (level_test Buy Market) in omega (arith, e, is.market_buys);
        market_sells = let e = adds (level_test Sell Market) in omega (arith, e, is.market_sells);
        limit_buys = let e = adds is_limit_buy in omega (arith, e, is.limit_buys);
      }
  depths-more Sell (At j) below adds =
      record {
        buy_count = is.buy_count;
        sell_count = length-set d.sells j (get_or d.sells j 0 + qty) ∙ is.sell_count;
        sells = λ i h.
            let e : total_left (by_spot (level_test Sell (At i))) os' ≡ total_left (by_spot (level_test Sell (At i))) os + cond (eqb i j) qty 0 = adds (level_test Sell (At i)) in
            elim (cases_eq i j) [
              | inl same ↦
                  subst (λ k. get_or (set d.sells j (get_or d.sells j 0 + qty)) k 0 ≡ get_or d.sells k 0 + qty) (sym same) (get_or-set_same d.sells j (get_or d.sells j 0 + qty) 0 (omega (arith, below, is.sell_count)))
                  ∙ (omega (arith, is.sells i h, e, ap (λ b. cond b qty 0) (eq-eqb i j same)))
              | inr differs ↦
                  get_or-set_other d.sells j i (get_or d.sells j 0 + qty) 0 differs ∙ (omega (arith, is.sells i h, e, ap (λ b. cond b qty 0) (ne_eqb i j differs)))
            ];
        buys = λ i h. is.buys i h ∙ (let e = adds (level_test Buy (At i)) in omega (arith, e));
        market_buys = let e = adds (level_test Buy Market) in omega (arith, e, is.market_buys);
        market_sells = let e = adds (level_test Sell Market) in omega (arith, e, is.market_sells);
        limit_buys = let e = adds is_limit_buy in omega (arith, e, is.limit_buys);
      }

  -- so much less is left on a level
  pub depths-fewer : (side : Side) (spot : Spot) → IsSpotBelow n spot
      → ((q : Side → Spot → Bool) → total_left (by_spot q) os' + cond (q side spot) qty 0 ≡ total_left (by_spot q) os) → AreDepthsOf n (fewer side spot qty d) os'
  unfolding level_test
  depths-fewer Buy Market below takes =
      record {
        buy_count = is.buy_count;
        sell_count = is.sell_count;
        buys = λ i h. is.buys i h ∙ (let e = takes (level_test Buy (At i)) in omega (arith, e));
        sells = λ i h. is.sells i h ∙ (let e = takes (level_test Sell (At i)) in omega (arith, e));
        market_buys = let e = takes (level_test Buy Market) in omega (arith, e, is.market_buys);
        market_sells = let e = takes (level_test Sell Market) in omega (arith, e, is.market_sells);
        limit_buys = let e = takes is_limit_buy in omega (arith, e, is.limit_buys);
      }
  depths-fewer Sell Market below takes =
      record {
        buy_count = is.buy_count;
        sell_count = is.sell_count;
        buys = λ i h. is.buys i h ∙ (let e = takes (level_test Buy (At i)) in omega (arith, e));
        sells = λ i h. is.sells i h ∙ (let e = takes (level_test Sell (At i)) in omega (arith, e));
        market_buys = let e = takes (level_test Buy Market) in omega (arith, e, is.market_buys);
        market_sells = let e = takes (level_test Sell Market) in omega (arith, e, is.market_sells);
        limit_buys = let e = takes is_limit_buy in omega (arith, e, is.limit_buys);
      }
  depths-fewer Buy (At j) below takes =
      record {
        buy_count = length-set d.buys j (get_or d.buys j 0 - qty) ∙ is.buy_count;
        sell_count = is.sell_count;
        buys = λ i h.
            let e : total_left (by_spot (level_test Buy (At i))) os' + cond (eqb i j) qty 0 ≡ total_left (by_spot (level_test Buy (At i))) os = takes (level_test Buy (At i)) in
            elim (cases_eq i j) [
              | inl same ↦
                  subst (λ k. get_or (set d.buys j (get_or d.buys j 0 - qty)) k 0 ≡ get_or d.buys k 0 - qty) (sym same) (get_or-set_same d.buys j (get_or d.buys j 0 - qty) 0 (omega (arith, below, is.buy_count)))
                  ∙ (omega (arith, is.buys i h, e, ap (λ b. cond b qty 0) (eq-eqb i j same)))
              | inr differs ↦
                  get_or-set_other d.buys j i (get_or d.buys j 0 - qty) 0 differs ∙ (omega (arith, is.buys i h, e, ap (λ b. cond b qty 0) (ne_eqb i j differs)))
            ];
        sells = λ i h. is.sells i h ∙ (let e = takes (level_test Sell (At i)) in omega (arith, e));
        market_buys = let e = takes (level_test Buy Market) in omega (arith, e, is.market_buys);
        market_sells = let e = takes (level_test Sell Market) in omega (arith, e, is.market_sells);
        limit_buys = let e = takes is_limit_buy in omega (arith, e, is.limit_buys);
      }
  depths-fewer Sell (At j) below takes =
      record {
        buy_count = is.buy_count;
        sell_count = length-set d.sells j (get_or d.sells j 0 - qty) ∙ is.sell_count;
        sells = λ i h.
            let e : total_left (by_spot (level_test Sell (At i))) os' + cond (eqb i j) qty 0 ≡ total_left (by_spot (level_test Sell (At i))) os = takes (level_test Sell (At i)) in
            elim (cases_eq i j) [
              | inl same ↦
                  subst (λ k. get_or (set d.sells j (get_or d.sells j 0 - qty)) k 0 ≡ get_or d.sells k 0 - qty) (sym same) (get_or-set_same d.sells j (get_or d.sells j 0 - qty) 0 (omega (arith, below, is.sell_count)))
                  ∙ (omega (arith, is.sells i h, e, ap (λ b. cond b qty 0) (eq-eqb i j same)))
              | inr differs ↦
                  get_or-set_other d.sells j i (get_or d.sells j 0 - qty) 0 differs ∙ (omega (arith, is.sells i h, e, ap (λ b. cond b qty 0) (ne_eqb i j differs)))
            ];
        buys = λ i h. is.buys i h ∙ (let e = takes (level_test Buy (At i)) in omega (arith, e));
        market_buys = let e = takes (level_test Buy Market) in omega (arith, e, is.market_buys);
        market_sells = let e = takes (level_test Sell Market) in omega (arith, e, is.market_sells);
        limit_buys = let e = takes is_limit_buy in omega (arith, e, is.limit_buys);
      }

-- a level's number is what its orders have left
pub depth-is : (n : ℕ) (d : DepthView) (os : List Order) → AreDepthsOf n d os → (side : Side) (spot : Spot) → IsSpotBelow n spot → depth_at side spot d ≡ total_left (is_on_level side spot) os
depth-is n d os is Buy Market below = is.market_buys
depth-is n d os is Sell Market below = is.market_sells
depth-is n d os is Buy (At i) below = is.buys i below
depth-is n d os is Sell (At i) below = is.sells i below

-- a limit of the side at one of the positions up to this one
abbrev pub is_limit_upto : Side → ℕ → Side → Spot → Bool
is_limit_upto s i side spot = is_same_side s side && is_limit_within i spot

-- the terms of one position more
upto-more : (s : Side) (i : ℕ) (left : ℕ) (side : Side) (spot : Spot)
    → cond (is_limit_upto s (suc i) side spot) left 0 ≡ cond (is_limit_upto s i side spot) left 0 + cond (is_same_side s side && is_same_spot (At (suc i)) spot) left 0
upto-more s i left side Market = by_test (is_same_side s side)
  where
    by_test : (b : Bool) → cond (b && false) left 0 ≡ cond (b && false) left 0 + cond (b && false) left 0
    by_test true = refl
    by_test false = refl
upto-more s i left side (At j) = by_test (is_same_side s side)
  where
    by_test : (b : Bool) → cond (b && leb j (suc i)) left 0 ≡ cond (b && leb j i) left 0 + cond (b && eqb (suc i) j) left 0
    by_test false = refl
    by_test true = grind (arith, nat_tests)

upto-first : (s : Side) (left : ℕ) (side : Side) (spot : Spot) → cond (is_limit_upto s 0 side spot) left 0 ≡ cond (is_same_side s side && is_same_spot (At 0) spot) left 0
upto-first s left side Market = by_test (is_same_side s side)
  where
    by_test : (b : Bool) → cond (b && false) left 0 ≡ cond (b && false) left 0
    by_test true = refl
    by_test false = refl
upto-first s left side (At j) = by_test (is_same_side s side)
  where
    by_test : (b : Bool) → cond (b && leb j 0) left 0 ≡ cond (b && eqb 0 j) left 0
    by_test false = refl
    by_test true = grind (arith, nat_tests)

-- terms that are the same
pub total-terms : (p q : Order → Bool) → ((o : Order) → term p o ≡ term q o) → (os : List Order) → total_left p os ≡ total_left q os
unfolding total_left
total-terms p q same [] = refl
total-terms p q same (o ∷ os) = omega (arith, sum_by-cons (term p) o os, sum_by-cons (term q) o os, same o, total-terms p q same os)

-- a running sum is what the limits up to the position have left
pub upto-is : (s : Side) (n : ℕ) (xs : List ℕ) (os : List Order) → length xs ≡ n → ((i : ℕ) → i < n → get_or xs i 0 ≡ total_left (is_on_level s (At i)) os)
    → (i : ℕ) → i < n → sum_upto xs i ≡ total_left (by_spot (is_limit_upto s i)) os
upto-is s n xs os size each zero h =
    let same = total-terms (by_spot (is_limit_upto s 0)) (is_on_level s (At 0)) (λ o. upto-first s o.left o.side o.spot) os in
    omega (arith, sum-take-more xs 0, same, each 0 h)
upto-is s n xs os size each (suc i) h =
    let joined = total-joined (by_spot (is_limit_upto s i)) (is_on_level s (At (suc i))) (by_spot (is_limit_upto s (suc i))) (λ o. upto-more s i o.left o.side o.spot) os in
    let next : sum (take (suc i + 1) xs) ≡ sum (take (suc i) xs) + get_or xs (suc i) 0 = sum-take-more xs (suc i) in
    let before : sum (take (i + 1) xs) ≡ total_left (by_spot (is_limit_upto s i)) os = upto-is s n xs os size each i (omega (arith, h)) in
    let same : sum (take (suc i) xs) ≡ sum (take (i + 1) xs) = let e : suc i ≡ i + 1 = omega arith in ap (λ k. sum (take k xs)) e in
    omega (arith, next, before, same, joined, each (suc i) h)

-- all of them
pub sum-is : (s : Side) (n : ℕ) (xs : List ℕ) (os : List Order) → 1 ≤ n → length xs ≡ n → ((i : ℕ) → i < n → get_or xs i 0 ≡ total_left (is_on_level s (At i)) os)
    → sum xs ≡ total_left (by_spot (is_limit_upto s (n - 1))) os
sum-is s n xs os some size each =
    let e : n - 1 + 1 ≡ length xs = omega (arith, some, size) in
    sym (ap sum (take_all (n - 1 + 1) xs (omega (arith, e)))) ∙ upto-is s n xs os size each (n - 1) (omega (arith, some))

-- the position that the running sums find
module _ (xs : List ℕ) where
  rises : (i j : ℕ) → i ≤ j → sum (take i xs) ≤ sum (take j xs)
  rises i j le = let e : i + (j - i) ≡ j = omega (arith, le) in omega (arith, sum-take-rises xs i (j - i), ap (λ k. sum (take k xs)) e)

  -- nothing is left where the sum does not rise
  flat : (from below : ℕ) → sum (take below xs) ≤ sum (take from xs) → IsEmptyWithin xs from below
  flat from below same k after less = omega (arith, same, rises from k after, sum-take-more xs k, rises (k + 1) below (omega (arith, less)))

  pub last-below : (below rest i : ℕ) → 0 < below → below ≤ length xs → rest ≡ sum_upto xs (below - 1) → 0 < rest → IsFirstReaching xs rest i → IsLastBelow xs below i
  last-below below rest i some within is more first =
      let all : sum (take (below - 1 + 1) xs) ≡ sum (take below xs) = let e : below - 1 + 1 ≡ below = omega (arith, some) in ap (λ k. sum (take k xs)) e in
      let here = sum-take-more xs i in
      record {
        within =
            elim (cases_lt i below) [
              | inl less ↦ less
              | inr past ↦ let short = first.first (below - 1) (omega (arith, some, past)) in absurd (omega (arith, short, is))
            ];
        some = positive i (cases_zero i) here;
        last = flat (i + 1) below (omega (arith, first.reached, is, all));
      }
    where
      cases_zero : (k : ℕ) → (k ≡ 0) ⊎ ((j : ℕ) × (k ≡ j + 1))
      cases_zero zero = inl refl
      cases_zero (suc k) = inr (k, omega arith)

      positive : (k : ℕ) → (k ≡ 0) ⊎ ((j : ℕ) × (k ≡ j + 1)) → sum (take (i + 1) xs) ≡ sum (take i xs) + get_or xs i 0 → 0 < get_or xs i 0
      positive k cases here = by_cases (cases_zero i)
        where
          by_cases : (i ≡ 0) ⊎ ((j : ℕ) × (i ≡ j + 1)) → 0 < get_or xs i 0
          by_cases (inl none) = let e : sum (take i xs) ≡ 0 = ap (λ k. sum (take k xs)) none in omega (arith, here, first.reached, more, e)
          by_cases (inr (j, e)) =
              let short = first.first j (omega (arith, e)) in
              let same : sum (take i xs) ≡ sum (take (j + 1) xs) = ap (λ k. sum (take k xs)) e in
              omega (arith, here, first.reached, short, same)

  pub none-below : (below : ℕ) → sum_upto xs (below - 1) ≡ 0 → 0 < below → IsEmptyWithin xs 0 below
  none-below below none some k after less =
      let e : below - 1 + 1 ≡ below = omega (arith, some) in
      omega (arith, none, ap (λ j. sum (take j xs)) e, sum-take-more xs k, rises (k + 1) below (omega (arith, less)))

  pub reached-below : (below rest : ℕ) → 0 < below → below ≤ length xs → rest ≡ sum_upto xs (below - 1) → IsNowhereReached xs rest → ⊥
  reached-below below rest some within is nowhere = let short = nowhere (below - 1) (omega (arith, some, within)) in omega (arith, short, is)

  pub first-from : (from least i : ℕ) → least ≡ sum (take from xs) + 1 → IsFirstReaching xs least i → IsFirstFrom xs from i
  first-from from least i is first =
      let here = sum-take-more xs i in
      let after : from ≤ i =
      elim (cases_lt i from) [ inl less ↦ absurd (omega (arith, first.reached, is, rises (i + 1) from (omega (arith, less)))) | inr more ↦ more ] in
      let before : sum (take i xs) ≤ sum (take from xs) =
      elim (cases_lt from i) [
        | inl less ↦
            let short = first.first (i - 1) (omega (arith, less)) in
            let e : i - 1 + 1 ≡ i = omega (arith, less) in
            omega (arith, short, is, ap (λ k. sum (take k xs)) e)
        | inr same ↦ let e : i ≡ from = omega (arith, same, after) in omega (arith, ap (λ k. sum (take k xs)) e)
      ] in
      record {
        after = after;
        within = first.within;
        some = omega (arith, here, first.reached, is, before);
        first = flat from i before;
      }

  pub none-from : (from least : ℕ) → from ≤ length xs → least ≡ sum (take from xs) + 1 → IsNowhereReached xs least → IsEmptyWithin xs from (length xs)
  none-from from least within is nowhere k after less =
      let short = nowhere k less in
      omega (arith, short, is, sum-take-more xs k, rises from k after)

-- an answer's two cases, each for another fact
pub match-weaker : {A : Type 0} (o : Option A) (N M : Type 0) (P Q : A → Type 0) → (N → M) → ((a : A) → P a → Q a) → MatchOption o N P → MatchOption o M Q
match-weaker None N M P Q none some fact = none fact
match-weaker (Some a) N M P Q none some fact = some a fact
