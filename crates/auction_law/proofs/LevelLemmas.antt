-- Orders of one level may stand together as one.
use Rattle.std.proofs.Common.{◌≡◌, ℕ, zero, suc, ◌+◌, ◌<◌, Bool, true, false, cond, not, nat_le, nat_lt, ◌&&◌, ◌||◌, min, List, [], ◌∷◌, ◌++◌, length, get_or, map, Option, Some, None, option_map, is_some, find, take_while, IsTrue, refl, sym, ap, subst, ◌∙◌, arith}
use Rattle.std.proofs.Math.ListN.{set}
use Rattle.std.specs.List.{list_all, list_any, filter_map, cons_option}
use Rattle.std.specs.Option.{option_map_or}
use Rattle.std.proofs.lemmas.Bool.Decides.{nat_tests}
use Rattle.std.proofs.lemmas.List.Folds.{list_any-append, list_any_at}
use Rattle.std.proofs.lemmas.List.Sums.{sum_by-set, sum_by_push}
use Rattle.mkt_base.specs.Book.{is_buy, is_market_or, limit_of, sums_at, total_left}
use Rattle.mkt_base.specs.declared.units.Price.{Price}
use Rattle.mkt_base.specs.declared.order.Side.{Side}
use Rattle.mkt_base.specs.declared.order.Side.TheVariants.{Buy, Sell}
use Rattle.mkt_base.specs.declared.order.Spot.{Spot}
use Rattle.mkt_base.specs.declared.order.Order.{Order}
use Rattle.mkt_base.specs.declared.auction.Outcome.{Outcome}
use Rattle.mkt_base.specs.declared.auction.Outcome.TheVariants.{Traded, Calm, Pressed}
use Rattle.mkt_base.specs.declared.auction.Sums.{Sums}
use Rattle.auction_law.specs.Attempt.{IsAttempt, all_limited, certificate_of, chosen, crosses, greatest, is_calm, is_pressed_buy, is_pressed_sell, is_traded, least, limits, meets, nearer_prices, side_limit, volume_at}
use Rattle.auction_law.specs.Levels.{LevelsAnswerAlike, SameLevels}
use Rattle.auction_law.specs.Nearness.{by_nearness, prices_of}
use Rattle.auction_law.proofs.CalmLemmas.{any-crosses}

-- ---- one order more

total_left-push : (test : Order → Bool) (orders : List Order) (o : Order) → total_left test (orders ++ o ∷ []) ≡ total_left test orders + cond (test o) o.left 0
unfolding total_left
total_left-push test orders o = sum_by_push (λ x. cond (test x) x.left 0) orders o

list_any-push : (test : Order → Bool) (orders : List Order) (o : Order) → list_any test (orders ++ o ∷ []) ≡ (list_any test orders || test o)
list_any-push test orders o = list_any-append test orders (o ∷ []) ∙ ap (λ b. list_any test orders || b) (or-none (test o))
  where
    or-none : (b : Bool) → (b || false) ≡ b
    or-none true = refl
    or-none false = refl

total_left-set : (test : Order → Bool) (orders : List Order) (i : ℕ) (x y : Order) → i < length orders → get_or orders i x ≡ x
    → total_left test (set orders i y) + cond (test x) x.left 0 ≡ total_left test orders + cond (test y) y.left 0
unfolding total_left
total_left-set test orders i x y within is =
    ap (λ (z : Order). total_left test (set orders i y) + cond (test z) z.left 0) (sym is) ∙ sum_by-set (λ o. cond (test o) o.left 0) orders i y x within

list_any-set : (test : Order → Bool) (orders : List Order) (i : ℕ) (d y : Order) → i < length orders → test y ≡ test (get_or orders i d) → list_any test (set orders i y) ≡ list_any test orders
list_any-set test [] i d y within same = absurd (omega arith)
list_any-set test (x ∷ xs) zero d y within same = ap (λ b. b || list_any test xs) same
list_any-set test (x ∷ xs) (suc i) d y within same = ap (λ b. test x || b) (list_any-set test xs i d y (omega arith) same)

more-left : (b : Bool) (left more total new : ℕ) → new + cond b left 0 ≡ total + cond b (left + more) 0 → new ≡ total + cond b more 0
more-left true left more total new e = omega (arith, e)
more-left false left more total new e = omega (arith, e)

none-more : (here any : Bool) → (here ≡ true → any ≡ true) → any ≡ (any || here)
none-more here true found = refl
none-more true false found = found refl
none-more false false found = refl

pub SameLevels-nil : SameLevels [] []
SameLevels-nil = record { sums = λ passes. refl; some = λ passes. refl }

module _ (xs ys : List Order) (same : SameLevels xs ys) (o : Order) where
  -- the same order in both lists
  pub SameLevels-push : SameLevels (xs ++ o ∷ []) (ys ++ o ∷ [])
  SameLevels-push = record {
    sums = λ passes.
        total_left-push (λ o. passes o.side o.spot) xs o ∙ ap (λ n. n + cond (passes o.side o.spot) o.left 0) (same.sums passes) ∙ sym (total_left-push (λ o. passes o.side o.spot) ys o);
    some = λ passes.
        list_any-push (λ o. passes o.side o.spot) xs o ∙ ap (λ b. b || passes o.side o.spot) (same.some passes) ∙ sym (list_any-push (λ o. passes o.side o.spot) ys o);
  }

  -- an order in one list, and in the other as much more for an order of its level
  pub SameLevels-merge : (i : ℕ) (x : Order) → i < length xs → get_or xs i x ≡ x → x.side ≡ o.side → x.spot ≡ o.spot
      → SameLevels (set xs i (record x { left = x.left + o.left })) (ys ++ o ∷ [])
  SameLevels-merge i x within is side spot = record { sums = merged; some = kept }
    where
      level : (passes : Side → Spot → Bool) → passes x.side x.spot ≡ passes o.side o.spot
      level passes = ap (λ s. passes s x.spot) side ∙ ap (passes o.side) spot

      merged : (passes : Side → Spot → Bool)
          → total_left (λ o. passes o.side o.spot) (set xs i (record x { left = x.left + o.left })) ≡ total_left (λ o. passes o.side o.spot) (ys ++ o ∷ [])
      merged passes = let test : Order → Bool = λ o. passes o.side o.spot in
          more-left (test x) x.left o.left (total_left test xs) _ (total_left-set test xs i x (record x { left = x.left + o.left }) within is)
          ∙ ap (λ b. total_left test xs + cond b o.left 0) (level passes) ∙ ap (λ n. n + cond (test o) o.left 0) (same.sums passes) ∙ sym (total_left-push test ys o)

      kept : (passes : Side → Spot → Bool)
          → list_any (λ o. passes o.side o.spot) (set xs i (record x { left = x.left + o.left })) ≡ list_any (λ o. passes o.side o.spot) (ys ++ o ∷ [])
      kept passes = let test : Order → Bool = λ o. passes o.side o.spot in
          list_any-set test xs i x (record x { left = x.left + o.left }) within (ap test (sym is))
          ∙ none-more (test o) (list_any test xs) (λ passed. list_any_at test xs i x within (ap test is ∙ level passes ∙ passed))
          ∙ ap (λ b. b || test o) (same.some passes) ∙ sym (list_any-push test ys o)

-- ---- the best limits

list_any-filter_map : (test : ℕ → Bool) (limit : Order → Option ℕ) (orders : List Order) → list_any test (filter_map limit orders) ≡ list_any (λ o. option_map_or test (limit o) false) orders
list_any-filter_map test limit [] = refl
list_any-filter_map test limit (o ∷ os) = first (limit o) (filter_map limit os) ∙ ap (λ b. option_map_or test (limit o) false || b) (list_any-filter_map test limit os)
  where
    first : (p : Option ℕ) (ps : List ℕ) → list_any test (cons_option p ps) ≡ (option_map_or test p false || list_any test ps)
    first None ps = refl
    first (Some p) ps = refl

same_number : (p q : ℕ) → nat_le p p ≡ nat_le p q → nat_le q p ≡ nat_le q q → p ≡ q
same_number p q low high = grind (arith, nat_tests)

same_ask : (p q : ℕ) → nat_le p p ≡ nat_le q p → nat_le p q ≡ nat_le q q → p ≡ q
same_ask p q low high = grind (arith, nat_tests)

none-else : (q : ℕ) → false ≡ nat_le q q → ⊥
none-else q e = grind (arith, nat_tests)

-- a limit is known by the prices that cross it
bid-known : (a b : Option ℕ) → ((k : ℕ) → crosses a (Some k) ≡ crosses b (Some k)) → a ≡ b
bid-known None None alike = refl
bid-known None (Some q) alike = absurd (none-else q (alike q))
bid-known (Some p) None alike = absurd (none-else p (sym (alike p)))
bid-known (Some p) (Some q) alike = ap Some (same_number p q (alike p) (alike q))

ask-known : (a b : Option ℕ) → ((k : ℕ) → crosses (Some k) a ≡ crosses (Some k) b) → a ≡ b
ask-known None None alike = refl
ask-known None (Some q) alike = absurd (none-else q (alike q))
ask-known (Some p) None alike = absurd (none-else p (sym (alike p)))
ask-known (Some p) (Some q) alike = ap Some (same_ask p q (alike p) (alike q))

list_all-none_fails : (test : Order → Bool) (orders : List Order) → list_all test orders ≡ not (list_any (λ o. not (test o)) orders)
list_all-none_fails test [] = refl
list_all-none_fails test (o ∷ os) = ap (λ b. test o && b) (list_all-none_fails test os) ∙ first (test o) (list_any (λ o. not (test o)) os)
  where
    first : (b any : Bool) → (b && not any) ≡ not (not b || any)
    first true any = refl
    first false any = refl

-- ---- what an attempt answers

module _ (xs ys : List Order) (same : SameLevels xs ys) (grid : List Price) where
  sums-alike : sums_at grid xs ≡ sums_at grid ys
  sums-alike = λ i p. record {
    price = record { 0 = p };
    buys = same.sums (λ side spot. is_buy side && is_market_or (λ limit. nat_le p limit) (limit_of grid spot)) i;
    above = same.sums (λ side spot. is_buy side && is_market_or (λ limit. nat_lt p limit) (limit_of grid spot)) i;
    sells = same.sums (λ side spot. not (is_buy side) && is_market_or (λ limit. nat_le limit p) (limit_of grid spot)) i;
    below = same.sums (λ side spot. not (is_buy side) && is_market_or (λ limit. nat_lt limit p) (limit_of grid spot)) i;
  }

  sums-at : (p : ℕ) → sums_at grid xs p ≡ sums_at grid ys p
  sums-at p = ap (λ sums. sums p) sums-alike

  volume-alike : (p : ℕ) → volume_at grid xs p ≡ volume_at grid ys p
  volume-alike p = ap (λ (s : Sums). min s.buys s.sells) (sums-at p)

  meets-alike : meets grid xs ≡ meets grid ys
  unfolding meets
  meets-alike = λ i p.
      nat_le 1 (min (sums-at p i).buys (sums-at p i).sells) && nat_le (sums-at p i).above (min (sums-at p i).buys (sums-at p i).sells)
      && nat_le (sums-at p i).below (min (sums-at p i).buys (sums-at p i).sells)

  chosen-alike : (reference : ℕ) → chosen grid xs reference ≡ chosen grid ys reference
  unfolding chosen
  chosen-alike reference = ap (λ test. find test (by_nearness reference (prices_of grid))) meets-alike

  nearer-alike : (reference : ℕ) → nearer_prices grid xs reference ≡ nearer_prices grid ys reference
  unfolding nearer_prices
  nearer-alike reference = ap (λ (test : ℕ → Bool). take_while (λ p. not (test p)) (by_nearness reference (prices_of grid))) meets-alike

  limits-alike : (buying : Bool) (test : ℕ → Bool) → list_any test (limits grid buying xs) ≡ list_any test (limits grid buying ys)
  limits-alike buying test =
      list_any-filter_map test (side_limit grid buying) xs
      ∙ same.some (λ side spot. option_map_or test (cond (cond buying (is_buy side) (not (is_buy side))) (limit_of grid spot) None) false)
      ∙ sym (list_any-filter_map test (side_limit grid buying) ys)

  bid-alike : greatest (limits grid true xs) ≡ greatest (limits grid true ys)
  bid-alike = bid-known _ _ (λ k. sym (any-crosses (limits grid true xs) (k ∷ [])) ∙ limits-alike true (λ bid. list_any (λ ask. nat_le ask bid) (k ∷ [])) ∙ any-crosses (limits grid true ys) (k ∷ []))

  ask-alike : least (limits grid false xs) ≡ least (limits grid false ys)
  ask-alike = ask-known _ _ (λ k. sym (any-crosses (k ∷ []) (limits grid false xs)) ∙ ap (λ b. b || false) (limits-alike false (λ ask. nat_le ask k)) ∙ any-crosses (k ∷ []) (limits grid false ys))

  limited-alike : all_limited grid xs ≡ all_limited grid ys
  limited-alike =
      list_all-none_fails (λ o. is_some (limit_of grid o.spot)) xs ∙ ap not (same.some (λ side spot. not (is_some (limit_of grid spot)))) ∙ sym (list_all-none_fails (λ o. is_some (limit_of grid o.spot)) ys)

  calm-alike : is_calm grid xs ≡ is_calm grid ys
  unfolding is_calm
  calm-alike = λ i. limited-alike i && not (crossing i)
    where
      crossing : list_any (λ bid. list_any (λ ask. nat_le ask bid) (limits grid false xs)) (limits grid true xs) ≡ list_any (λ bid. list_any (λ ask. nat_le ask bid) (limits grid false ys)) (limits grid true ys)
      crossing = any-crosses (limits grid true xs) (limits grid false xs) ∙ ap (λ b. crosses b (least (limits grid false xs))) bid-alike
          ∙ ap (crosses (greatest (limits grid true ys))) ask-alike ∙ sym (any-crosses (limits grid true ys) (limits grid false ys))

  traded-alike : (reference lo hi : ℕ) → is_traded grid xs reference lo hi ≡ is_traded grid ys reference lo hi
  unfolding is_traded
  traded-alike reference lo hi = ap (λ price. option_map_or (λ p. nat_le lo p && nat_le p hi) price false) (chosen-alike reference)

  pressed_buy-alike : (reference lo hi : ℕ) → is_pressed_buy grid xs reference lo hi ≡ is_pressed_buy grid ys reference lo hi
  unfolding is_pressed_buy
  pressed_buy-alike reference lo hi = λ i. not (traded-alike reference lo hi i) && not (calm-alike i) && nat_lt (sums-at hi i).sells (sums-at hi i).above

  pressed_sell-alike : (reference lo hi : ℕ) → is_pressed_sell grid xs reference lo hi ≡ is_pressed_sell grid ys reference lo hi
  unfolding is_pressed_sell
  pressed_sell-alike reference lo hi = λ i. not (traded-alike reference lo hi i) && not (calm-alike i) && nat_lt (sums-at lo i).buys (sums-at lo i).below

  attempt-alike : (reference lo hi : ℕ) (outcome : Outcome) → IsAttempt grid xs reference lo hi outcome → IsAttempt grid ys reference lo hi outcome
  attempt-alike reference lo hi (Traded volume sums) is =
      (subst (λ b. IsTrue b) (traded-alike reference lo hi) is.0, sym (chosen-alike reference) ∙ is.1, is.2 ∙ sums-at sums.price.0, is.3 ∙ volume-alike sums.price.0)
  attempt-alike reference lo hi (Calm bid ask) is =
      (subst (λ b. IsTrue b) calm-alike is.0, is.1 ∙ ap (option_map (λ p. record { 0 = p })) bid-alike, is.2 ∙ ap (option_map (λ p. record { 0 = p })) ask-alike)
  attempt-alike reference lo hi (Pressed Buy price pressing facing) is =
      (subst (λ b. IsTrue b) (pressed_buy-alike reference lo hi) is.0, is.1, is.2 ∙ ap (λ (s : Sums). s.above) (sums-at hi), is.3 ∙ ap (λ (s : Sums). s.sells) (sums-at hi))
  attempt-alike reference lo hi (Pressed Sell price pressing facing) is =
      (subst (λ b. IsTrue b) (pressed_sell-alike reference lo hi) is.0, is.1, is.2 ∙ ap (λ (s : Sums). s.below) (sums-at lo), is.3 ∙ ap (λ (s : Sums). s.buys) (sums-at lo))

  certificate-alike : (reference : ℕ) (outcome : Outcome) → certificate_of grid xs reference outcome ≡ certificate_of grid ys reference outcome
  certificate-alike reference (Traded volume sums) = λ i. record { rejected = map (sums-alike i) (nearer-alike reference i); outcome = Traded volume sums }
  certificate-alike reference (Calm bid ask) = refl
  certificate-alike reference (Pressed side price pressing facing) = refl

pub levels_answer_alike : LevelsAnswerAlike
levels_answer_alike xs ys same grid reference lo hi outcome is =
    (attempt-alike xs ys same grid reference lo hi outcome is, certificate-alike xs ys same grid reference outcome)
