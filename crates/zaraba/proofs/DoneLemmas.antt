-- An order that is done with something left took all that it crosses; so a calm book stays calm.
use Rattle.std.proofs.Common.{◌≡◌, ℕ, zero, suc, ◌+◌, ◌-◌, ◌<◌, ◌≤◌, min, Bool, true, false, cond, eqb, ltb, not, ◌&&◌, ◌||◌, List, [], ◌∷◌, ◌++◌, length, filter, Option, Some, None, append-nil, refl, sym, ap, subst, ◌∙◌, arith}
use Rattle.std.specs.List.{All, AllByRecursion, sum_by}
use Rattle.std.specs.Option.{is_some, option_map_or}
use Rattle.std.proofs.lemmas.Bool.Decides.{nat_tests}
use Rattle.std.proofs.lemmas.List.Elements.{recursion_from_All}
use Rattle.std.proofs.lemmas.List.Sums.{sum_by-cons}
use Rattle.mkt_base.specs.Book.{is_buy, is_market_or, limit_of}
use Rattle.mkt_base.specs.Fills.{after_trades, less_traded, traded_at}
use Rattle.mkt_base.specs.Priority.{in_priority, is_same_side}
use Rattle.mkt_base.specs.declared.auction.Trade.{Trade}
use Rattle.mkt_base.specs.declared.order.Order.{Order}
use Rattle.mkt_base.specs.declared.order.Side.{Side}
use Rattle.mkt_base.specs.declared.order.Side.TheVariants.{Buy, Sell}
use Rattle.mkt_base.specs.declared.order.Spot.{Spot}
use Rattle.mkt_base.specs.declared.order.Spot.TheVariants.{Market, At}
use Rattle.mkt_base.specs.declared.output.Output.{Output}
use Rattle.mkt_base.specs.declared.units.Price.{Price}
use Rattle.auction_law.specs.Attempt.{crosses as limits_cross, is_calm}
use Rattle.book_law.specs.BookView.{BookView, IsBookView, IsSpotBelow, orders}
use Rattle.book_law.proofs.FrontLemmas.{in_priority-all, orders-below, orders-left}
use Rattle.book_law.proofs.Pairs.{all-append, weaken}
use Rattle.book_law.proofs.SideSums.{sum-priority}
use Rattle.zaraba.specs.Arrival.{Jump, arrival, arrival_over, book_after, crossed, crosses, crosses_at, cut_stop, ended_stop, is_gap, limit_price, opposite, rest_of, trade_with, way}
use Rattle.zaraba.specs.Walk.{IsStopped, IsWalking, is_too_far, jump_to, with_left, with_trades}
use Rattle.zaraba.specs.declared.stop.Stop.{Stop}
use Rattle.zaraba.specs.declared.stop.Stop.TheVariants.{Done, Gap, Sequence}
use Rattle.zaraba.proofs.CalmLemmas.{Apart, calm-apart, calm-from, calm-limited}
use Rattle.zaraba.proofs.WalkLemmas.{walk-cut, walk-done, walk-more, walk-none}

pub traded-cons : (place : ℕ) (t : Trade) (ts : List Trade) → traded_at (t ∷ ts) place ≡ cond (eqb place t.buy || eqb place t.sell) t.qty 0 + traded_at ts place
unfolding traded_at
traded-cons place t ts = sum_by-cons (λ u. cond (eqb place u.buy || eqb place u.sell) u.qty 0) t ts

-- An arriving order against resting ones.
module _ (grid : List Price) (range : ℕ → ℕ) (first : ℕ) where
  -- a trade with an order takes its quantity from it
  own-trade : (o x : Order) (q : ℕ) → cond (eqb x.place (trade_with grid o x q).buy || eqb x.place (trade_with grid o x q).sell) (trade_with grid o x q).qty 0 ≡ q
  own-trade o x q = by (is_buy o.side)
    where
      by : (b : Bool)
          → let t : Trade = cond b (record { price = record { 0 = limit_price grid x }; qty = q; buy = o.place; sell = x.place }) (record { price = record { 0 = limit_price grid x }; qty = q; buy = x.place; sell = o.place }) in
          cond (eqb x.place t.buy || eqb x.place t.sell) t.qty 0 ≡ q
      by true = grind (arith, nat_tests)
      by false = grind (arith, nat_tests)

  never-done : (o : Order) (j : Jump) → cut_stop range o (Some j) ≡ Done → ⊥
  never-done o j e = by (is_gap range j) e
    where
      by : (b : Bool) → cond b (Gap (way j)) (Sequence o.side) ≡ Done → ⊥
      by true f = absurd (cc)
      by false f = absurd (cc)

  has-limit : (o : Order) → ended_stop o.side o.spot ≡ Done → is_some (limit_of grid o.spot) ≡ true
  has-limit o e = by o.spot e
    where
      by : (s : Spot) → ended_stop o.side s ≡ Done → is_some (limit_of grid s) ≡ true
      by Market f = absurd (cc)
      by (At i) f = refl

  -- what an order that is done with something left has done: it has a limit, and filled all
  record IsThrough (o : Order) (xs : List Order) (ts : List Trade) : Type 0 where
    limit : is_some (limit_of grid o.spot) ≡ true
    filled : AllByRecursion (λ x. x.left ≤ traded_at ts x.place) xs

  -- what has something left in the end had something left
  some-still : (b : Bool) (xs : List Order) (o : Order) (last : ℕ) → ltb 0 o.left ≡ b → 0 < (arrival_over grid range first xs o last).left → 0 < o.left
  some-still true xs o last e h = grind (arith, nat_tests, e)
  some-still false xs o last e h =
      let none : o.left ≡ 0 = grind (arith, nat_tests, e) in
      let end : (arrival_over grid range first xs o last).left ≡ 0 = ap (λ a. a.left) (walk-done grid range first xs o last none) in
      absurd (omega (arith, h, end))

  through-step : (b : Bool) (x : Order) (xs : List Order) (o : Order) (last : ℕ) → is_too_far grid range first last x ≡ b → 0 < x.left
      → ((p : Order) (now : ℕ) → (arrival_over grid range first xs p now).stop ≡ Done → 0 < (arrival_over grid range first xs p now).left → IsThrough p xs (arrival_over grid range first xs p now).trades)
      → (arrival_over grid range first (x ∷ xs) o last).stop ≡ Done → 0 < (arrival_over grid range first (x ∷ xs) o last).left
      → IsThrough o (x ∷ xs) (arrival_over grid range first (x ∷ xs) o last).trades
  through-step true x xs o last e some rest done left =
      let wanted = some-still (ltb 0 o.left) (x ∷ xs) o last refl left in
      let cut = ap (λ a. a.stop) (walk-cut grid range first x xs o last wanted e) in
      absurd (never-done o (jump_to grid last x) (sym cut ∙ done))
  through-step false x xs o last e some rest done left =
      let wanted = some-still (ltb 0 o.left) (x ∷ xs) o last refl left in
      let q = min o.left x.left in
      let t = trade_with grid o x q in
      let more = walk-more grid range first x xs o last wanted some e in
      let next = arrival_over grid range first xs (record o { left = o.left - q }) (limit_price grid x) in
      let next-left : 0 < next.left = subst (λ n. 0 < n) (ap (λ a. a.left) more) left in
      let others = rest (record o { left = o.left - q }) (limit_price grid x) (sym (ap (λ a. a.stop) more) ∙ done) next-left in
      let still : 0 < o.left - q = some-still (ltb 0 (o.left - q)) xs (record o { left = o.left - q }) (limit_price grid x) refl next-left in
      let all : x.left ≤ q = grind (arith, nat_tests, still) in
      let own = own-trade o x q in
      subst (IsThrough o (x ∷ xs)) (sym (ap (λ a. a.trades) more)) (record {
        limit = others.limit;
        filled = (
          omega (arith, traded-cons x.place t next.trades, own, all),
          weaken (λ y. y.left ≤ traded_at next.trades y.place) (λ y. y.left ≤ traded_at (t ∷ next.trades) y.place) (λ y h. omega (arith, traded-cons y.place t next.trades, h)) xs others.filled,
        );
      })

  through : (xs : List Order) → AllByRecursion (λ x. 0 < x.left) xs → (o : Order) (last : ℕ)
      → (arrival_over grid range first xs o last).stop ≡ Done → 0 < (arrival_over grid range first xs o last).left → IsThrough o xs (arrival_over grid range first xs o last).trades
  through [] some o last done left =
      let wanted = some-still (ltb 0 o.left) [] o last refl left in
      let ended = ap (λ a. a.stop) (walk-none grid range first o last wanted) in
      record { limit = has-limit o (sym ended ∙ done); filled = tt }
  through (x ∷ xs) some o last done left =
      through-step (is_too_far grid range first last x) x xs o last refl some.0 (λ p now d l. through xs some.1 p now d l) done left

-- what holds of orders and of what trades leave of them holds after the trades
pub kept-after : (ts : List Trade) (P Q : Order → Type 0) → ((x : Order) → P x → ltb 0 (less_traded ts x).left ≡ true → Q (less_traded ts x)) → (os : List Order) → AllByRecursion P os → AllByRecursion Q (after_trades ts os)
unfolding after_trades
kept-after ts P Q stays [] all = tt
kept-after ts P Q stays (o ∷ os) all = step (ltb 0 (less_traded ts o).left) refl (kept-after ts P Q stays os all.1)
  where
    step : (b : Bool) → ltb 0 (less_traded ts o).left ≡ b → AllByRecursion Q (after_trades ts os) → AllByRecursion Q (cond b (less_traded ts o ∷ after_trades ts os) (after_trades ts os))
    step true e rest = (stays o all.0 e, rest)
    step false e rest = rest

-- a sum of noughts, and the parts of a sum that is nought
pub noughts : (f : Order → ℕ) (os : List Order) → AllByRecursion (λ o. f o ≡ 0) os → sum_by f os ≡ 0
noughts f [] all = refl
noughts f (o ∷ os) all = let rest = noughts f os all.1 in let here : f o ≡ 0 = all.0 in omega (arith, sum_by-cons f o os, rest, here)

parts-nought : (f : Order → ℕ) (os : List Order) → sum_by f os ≡ 0 → AllByRecursion (λ o. f o ≡ 0) os
parts-nought f [] e = tt
parts-nought f (o ∷ os) e = (omega (arith, sum_by-cons f o os, e), parts-nought f os (omega (arith, sum_by-cons f o os, e)))

-- an opposite order that is crossed
abbrev is_against : List Price → Order → Order → Bool
is_against grid o x = is_same_side (opposite o.side) x.side && crosses grid o x

-- Trades that fill all that is crossed on the other side leave nothing there that is crossed.
module _ (grid : List Price) (o : Order) (ts : List Trade) where
  -- it is crossed, and the trades leave it something
  stays : Order → ℕ
  stays x = cond (crosses grid o x && ltb (traded_at ts x.place) x.left) 1 0

  gone-step : (b : Bool) (x : Order) (xs : List Order) → crosses grid o x ≡ b → AllByRecursion (λ y. y.left ≤ traded_at ts y.place) (cond b (x ∷ filter (crosses grid o) xs) (filter (crosses grid o) xs))
      → (AllByRecursion (λ y. y.left ≤ traded_at ts y.place) (filter (crosses grid o) xs) → AllByRecursion (λ y. stays y ≡ 0) xs) → AllByRecursion (λ y. stays y ≡ 0) (x ∷ xs)
  unfolding stays
  gone-step true x xs e all rest =
      let filled : x.left ≤ traded_at ts x.place = all.0 in
      let none : ltb (traded_at ts x.place) x.left ≡ false = grind (arith, nat_tests, filled) in
      (ap (λ c. cond (c && ltb (traded_at ts x.place) x.left) 1 0) e ∙ ap (λ c. cond c 1 0) none, rest all.1)
  gone-step false x xs e all rest = (ap (λ c. cond (c && ltb (traded_at ts x.place) x.left) 1 0) e, rest all)

  gone : (xs : List Order) → AllByRecursion (λ y. y.left ≤ traded_at ts y.place) (filter (crosses grid o) xs) → AllByRecursion (λ y. stays y ≡ 0) xs
  gone [] all = tt
  gone (x ∷ xs) all = gone-step (crosses grid o x) x xs refl all (gone xs)

  not-left : (x : Order) → cond (is_same_side (opposite o.side) x.side) (stays x) 0 ≡ 0 → ltb 0 (less_traded ts x).left ≡ true → is_against grid o (less_traded ts x) ≡ false
  unfolding stays
  not-left x none left =
      let more : ltb (traded_at ts x.place) x.left ≡ true = grind (arith, nat_tests, left) in
      by (is_same_side (opposite o.side) x.side) (crosses grid o x) (ltb (traded_at ts x.place) x.left) none more
    where
      by : (a b c : Bool) → cond {A = ℕ} a (cond {A = ℕ} (b && c) 1 0) 0 ≡ 0 → c ≡ true → (a && b) ≡ false
      by true true true e f = absurd (omega (arith, e))
      by true true false e f = absurd (cc)
      by true false c e f = refl
      by false b c e f = refl

  none-against : (os : List Order) → All (λ x. IsSpotBelow (length grid) x.spot) os → AllByRecursion (λ y. y.left ≤ traded_at ts y.place) (crossed grid o os)
      → AllByRecursion (λ x. is_against grid o x ≡ false) (after_trades ts os)
  none-against os below filled =
      let none = noughts stays (in_priority (length grid) (opposite o.side) os) (gone (in_priority (length grid) (opposite o.side) os) filled) in
      let sum = sym (sum-priority stays (length grid) (opposite o.side) os below) ∙ none in
      kept-after ts (λ x. cond (is_same_side (opposite o.side) x.side) (stays x) 0 ≡ 0) (λ x. is_against grid o x ≡ false) not-left os
      (parts-nought (λ x. cond (is_same_side (opposite o.side) x.side) (stays x) 0) os sum)

-- An order that is not against another does not cross with it.
no-ask : (v : Option ℕ) → limits_cross v None ≡ false
no-ask None = refl
no-ask (Some p) = refl

module _ (grid : List Price) where
  -- the limits of two spots on one side and the other
  uncrossed : (s d : Side) (own other : Spot)
      → (is_same_side (opposite s) d && option_map_or (λ price. is_market_or (crosses_at s price) (limit_of grid own)) (limit_of grid other) false) ≡ false
      → (limits_cross (cond (is_buy d) (limit_of grid other) None) (cond (not (is_buy s)) (limit_of grid own) None) ≡ false)
      × (limits_cross (cond (is_buy s) (limit_of grid own) None) (cond (not (is_buy d)) (limit_of grid other) None) ≡ false)
  uncrossed Buy Buy own other e = (no-ask (limit_of grid other), no-ask (limit_of grid own))
  uncrossed Buy Sell Market other e = (refl, refl)
  uncrossed Buy Sell (At k) Market e = (refl, refl)
  uncrossed Buy Sell (At k) (At j) e = (refl, e)
  uncrossed Sell Sell own other e = (refl, refl)
  uncrossed Sell Buy own Market e = (refl, refl)
  uncrossed Sell Buy Market (At j) e = (refl, refl)
  uncrossed Sell Buy (At k) (At j) e = (e, refl)

  -- what two orders of which one is not against the other have to do with each other
  apart-both : (o x : Order) → is_against grid o x ≡ false → Apart grid x o × Apart grid o x
  apart-both o x e = uncrossed o.side x.side o.spot x.spot e

  -- an order does not cross with itself
  apart-itself : (o : Order) → Apart grid o o
  apart-itself o = by o.side
    where
      by : (s : Side) → limits_cross (cond (is_buy s) (limit_of grid o.spot) None) (cond (not (is_buy s)) (limit_of grid o.spot) None) ≡ false
      by Buy = no-ask (limit_of grid o.spot)
      by Sell = refl

  with-one : (P : Order → Order → Type 0) (o : Order) (os : List Order) → AllByRecursion (λ a. AllByRecursion (P a) os) os → AllByRecursion (λ a. P a o) os → AllByRecursion (P o) os → P o o
      → AllByRecursion (λ a. AllByRecursion (P a) (os ++ o ∷ [])) (os ++ o ∷ [])
  with-one P o os all to from own =
      all-append (λ a. AllByRecursion (P a) (os ++ o ∷ [])) os (o ∷ [])
      (weaken (λ a. AllByRecursion (P a) os × P a o) (λ a. AllByRecursion (P a) (os ++ o ∷ [])) (λ a both. all-append (P a) os (o ∷ []) both.0 (both.1, tt)) os
      (both-all (λ a. AllByRecursion (P a) os) (λ a. P a o) os all to))
      (all-append (P o) os (o ∷ []) from (own, tt), tt)
    where
      both-all : (Q R : Order → Type 0) (xs : List Order) → AllByRecursion Q xs → AllByRecursion R xs → AllByRecursion (λ x. Q x × R x) xs
      both-all Q R [] f g = tt
      both-all Q R (x ∷ xs) f g = ((f.0, g.0), both-all Q R xs f.1 g.1)

  -- a calm book is calm with an order more that is not against any, and has a limit
  calm-one : (o : Order) (os : List Order) → AllByRecursion (λ x. is_some (limit_of grid x.spot) ≡ true) os → AllByRecursion (λ a. AllByRecursion (Apart grid a) os) os
      → is_some (limit_of grid o.spot) ≡ true → AllByRecursion (λ x. is_against grid o x ≡ false) os → is_calm grid (os ++ o ∷ []) ≡ true
  calm-one o os limited apart limit against =
      calm-from grid (os ++ o ∷ []) (all-append (λ x. is_some (limit_of grid x.spot) ≡ true) os (o ∷ []) limited (limit, tt))
      (with-one (Apart grid) o os apart (weaken (λ x. is_against grid o x ≡ false) (λ x. Apart grid x o) (λ x e. (apart-both o x e).0) os against)
      (weaken (λ x. is_against grid o x ≡ false) (λ x. Apart grid o x) (λ x e. (apart-both o x e).1) os against) (apart-itself o))

  -- what is left of an order joins a calm book
  calm-rest : (n : ℕ) (o : Order) (os : List Order) → AllByRecursion (λ x. is_some (limit_of grid x.spot) ≡ true) os → AllByRecursion (λ a. AllByRecursion (Apart grid a) os) os
      → (0 < n → (is_some (limit_of grid o.spot) ≡ true) × AllByRecursion (λ x. is_against grid o x ≡ false) os) → is_calm grid (os ++ rest_of o n) ≡ true
  calm-rest zero o os limited apart joins = ap (is_calm grid) (append-nil os) ∙ calm-from grid os limited apart
  calm-rest (suc n) o os limited apart joins =
      let facts = joins (omega arith) in
      calm-one (with_left o (suc n)) os limited apart facts.0 facts.1

  -- an order that is done leaves a calm book calm
  pub done-calm : (range : ℕ → ℕ) (os : List Order) (o : Order) (last : ℕ) → All (λ x. IsSpotBelow (length grid) x.spot) os → AllByRecursion (λ x. 0 < x.left) os → is_calm grid os ≡ true
      → (arrival grid range os o last).stop ≡ Done → is_calm grid (book_after (arrival grid range os o last) os o) ≡ true
  done-calm range os o last below some calm done =
      let a = arrival grid range os o last in
      let limited = kept-after a.trades (λ x. is_some (limit_of grid x.spot) ≡ true) (λ x. is_some (limit_of grid x.spot) ≡ true) (λ x h e. h) os (calm-limited grid os calm) in
      let apart = kept-after a.trades (λ x. AllByRecursion (Apart grid x) os) (λ x. AllByRecursion (Apart grid x) (after_trades a.trades os))
      (λ x h e. kept-after a.trades (Apart grid x) (Apart grid x) (λ y k f. k) os h) os (calm-apart grid os calm) in
      calm-rest a.left o (after_trades a.trades os) limited apart (λ left.
      let xs = in_priority (length grid) (opposite o.side) os in
      let has = filter-left xs (in_priority-all (λ x. 0 < x.left) (opposite o.side) os some (length grid)) in
      let all = through grid range last (crossed grid o os) has o last done left in
      (all.limit, none-against grid o a.trades os below all.filled))
    where
      filter-left : (xs : List Order) → AllByRecursion (λ x. 0 < x.left) xs → AllByRecursion (λ x. 0 < x.left) (filter (crosses grid o) xs)
      filter-left [] all = tt
      filter-left (x ∷ xs) all = step (crosses grid o x) (filter-left xs all.1)
        where
          step : (b : Bool) → AllByRecursion (λ y. 0 < y.left) (filter (crosses grid o) xs) → AllByRecursion (λ y. 0 < y.left) (cond b (x ∷ filter (crosses grid o) xs) (filter (crosses grid o) xs))
          step true rest = (all.0, rest)
          step false rest = rest

-- the same of the book behind the walk, when what is left has joined it
pub calm-after : {W : Type 0} (took : W → List Output → W → Type 0) (grid : List Price) (range : ℕ → ℕ) (last : ℕ) (o : Order) (old mid new : BookView) (left now : ℕ) (from to : W) (stop : Stop)
    → IsBookView old → length grid ≡ old.prices → is_calm grid (orders old) ≡ true → IsWalking took grid range last o old mid left now from to → IsStopped grid range last o mid left now stop
    → orders new ≡ orders mid ++ rest_of o left → stop ≡ Done → is_calm grid (orders new) ≡ true
calm-after took grid range last o old mid new left now from to stop stands size calm walking stopped joined done =
    let all : arrival grid range (orders old) o last ≡ record { trades = walking.done; left = left; last = now; stop = stop } =
    walking.walked.rest ∙ ap (with_trades walking.done) stopped ∙ ap (λ ts. record { trades = ts; left = left; last = now; stop = stop }) (append-nil walking.done) in
    let below = subst (λ n. All (λ x. IsSpotBelow n x.spot) (orders old)) (sym size) (orders-below old stands) in
    let some = recursion_from_All (λ x. 0 < x.left) (orders old) (orders-left old stands) in
    let same : orders new ≡ book_after (arrival grid range (orders old) o last) (orders old) o =
    joined ∙ ap (λ xs. xs ++ rest_of o left) walking.walked.book ∙ ap (λ a. book_after a (orders old) o) (sym all) in
    ap (is_calm grid) same ∙ done-calm grid range (orders old) o last below some calm (ap (λ a. a.stop) all ∙ done)
