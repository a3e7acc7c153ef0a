-- What an order filled on the way and what it has left are together what it had.
use Rattle.std.proofs.Common.{◌≡◌, ◌≢◌, ℕ, ◌+◌, ◌<◌, ◌≤◌, Bool, true, false, cond, eqb, ltb, zero, suc, List, [], ◌∷◌, ◌++◌, map, Some, None, refl, sym, ap, subst, ◌∙◌, arith}
use Rattle.std.specs.List.{All, AllByRecursion, AllPairs, filter_map, find}
use Rattle.std.specs.Option.{option_map_or}
use Rattle.std.proofs.lemmas.Bool.{eqb-false, eqb-true, ne_eqb}
use Rattle.std.proofs.lemmas.Bool.Decides.{nat_tests}
use Rattle.std.proofs.lemmas.List.Elements.{All-from_recursion, filter_map-append, recursion_from_All}
use Rattle.std.proofs.lemmas.List.Sums.{sum_by-cons}
use Rattle.mkt_base.specs.Fills.{after_trades, less_traded, traded_at}
use Rattle.mkt_base.specs.declared.auction.Outcome.{Outcome}
use Rattle.mkt_base.specs.declared.auction.Sums.{Sums}
use Rattle.mkt_base.specs.declared.auction.Trade.{Trade}
use Rattle.mkt_base.specs.declared.order.Order.{Order}
use Rattle.mkt_base.specs.declared.output.Output.{Output}
use Rattle.mkt_base.specs.declared.output.Output.TheVariants as outputs
use Rattle.mkt_base.specs.declared.units.Price.{Price}
use Rattle.auction_law.specs.Attempt.{certificate_of}
use Rattle.itayose.specs.Answer.{auction_outputs}
use Rattle.mkt_base.specs.declared.units.Caller.{Caller}
use Rattle.allotment.specs.declared.demand.Demand.{Demand}
use Rattle.book_law.specs.BookView.{is_of}
use Rattle.book_law.specs.Sides.{count_at}
use Rattle.book_law.proofs.Pairs.{Pairs, all-append, pairs-from_AllPairs}
use Rattle.itayose.specs.Fills.{Settlement, settlement_outputs, share_outputs, trade_outputs}
use Rattle.zaraba.specs.Arrival.{Arrival, rest_of}
use Rattle.issue_book.specs.Entering.{arrived, join}
use Rattle.issue_book.specs.Filled.{IsFilled, IsKey, left_of, trade_in}
use Rattle.issue_book.specs.Quoting.{settle_at}
use Rattle.issue_book.specs.State.{Move, State, behind, stay}

-- nothing was traded in no trades
none-traded : (place : ℕ) → traded_at [] place ≡ 0
unfolding traded_at
none-traded place = refl

-- the trades that were told are the trades
pub trades-told : (ts : List Trade) → filter_map trade_in (trade_outputs ts) ≡ ts
trades-told [] = refl
trades-told (t ∷ ts) = ap (λ xs. t ∷ xs) (trades-told ts)

shares-told : (ds : List Demand) → filter_map trade_in (share_outputs ds) ≡ []
shares-told [] = refl
shares-told (d ∷ ds) = shares-told ds

pub settled-told : (s : Settlement) → filter_map trade_in (settlement_outputs s) ≡ s.trades
settled-told s =
    filter_map-append trade_in (share_outputs s.shares) (trade_outputs s.trades)
    ∙ ap (λ xs. xs ++ filter_map trade_in (trade_outputs s.trades)) (shares-told s.shares) ∙ trades-told s.trades

module _ (caller : Caller) (own place : ℕ) where
  -- what the caller's order has left among some orders
  abbrev pub left_in : List Order → ℕ
  left_in os = option_map_or (λ o. o.left) (find (is_of caller own) os) 0

  -- the place is that of the caller's order and of no other
  abbrev pub KeyOf : Order → Type 0
  KeyOf o = eqb place o.place ≡ is_of caller own o

  -- where no order is the caller's none has anything left
  pub none-left : (os : List Order) → AllByRecursion (λ o. is_of caller own o ≡ false) os → left_in os ≡ 0
  none-left [] all = refl
  none-left (o ∷ os) all = ap (λ b. option_map_or (λ x. x.left) (cond b (Some o) (find (is_of caller own) os)) 0) all.0 ∙ none-left os all.1

  -- behind orders of others is found what is found without them
  pub left-behind : (os more : List Order) → AllByRecursion (λ o. is_of caller own o ≡ false) os → left_in (os ++ more) ≡ left_in more
  left-behind [] more all = refl
  left-behind (o ∷ os) more all = ap (λ b. option_map_or (λ x. x.left) (cond b (Some o) (find (is_of caller own) (os ++ more))) 0) all.0 ∙ left-behind os more all.1

  module _ (ts : List Trade) where
    -- what holds of the orders whatever they have left holds of them after trades
    pub after-all : (P : Order → Type 0) → ((o : Order) (n : ℕ) → P o → P (record o { left = n })) → (os : List Order) → AllByRecursion P os → AllByRecursion P (after_trades ts os)
    unfolding after_trades
    after-all P stays [] all = tt
    after-all P stays (o ∷ os) all = step (ltb 0 (less_traded ts o).left) (stays o (less_traded ts o).left all.0) (after-all P stays os all.1)
      where
        step : (b : Bool) → P (less_traded ts o) → AllByRecursion P (after_trades ts os) → AllByRecursion P (cond b (less_traded ts o ∷ after_trades ts os) (after_trades ts os))
        step true here rest = (here, rest)
        step false here rest = rest

    -- later orders are not the caller's, where this one is
    later-none : (o : Order) (os : List Order) → place ≡ o.place → AllByRecursion (λ x. o.place < x.place) os → AllByRecursion KeyOf os → AllByRecursion (λ x. is_of caller own x ≡ false) os
    later-none o [] e later keys = tt
    later-none o (x ∷ xs) e later keys =
        let behind : o.place < x.place = later.0 in
        let apart : eqb place x.place ≡ false = grind (arith, nat_tests, e, behind) in
        (sym keys.0 ∙ apart, later-none o xs e later.1 keys.1)

    found-step : (b : Bool) (o : Order) (os : List Order) → ltb 0 (less_traded ts o).left ≡ b → is_of caller own o ≡ true → place ≡ o.place → traded_at ts place ≤ o.left
        → left_in (after_trades ts os) ≡ 0
        → traded_at ts place + left_in (cond b (less_traded ts o ∷ after_trades ts os) (after_trades ts os)) ≡ o.left
    found-step true o os e mine here within none =
        let found : left_in (less_traded ts o ∷ after_trades ts os) ≡ (less_traded ts o).left = ap (λ b. option_map_or (λ x. x.left) (cond b (Some (less_traded ts o)) (find (is_of caller own) (after_trades ts os))) 0) mine in
        let same : traded_at ts o.place ≡ traded_at ts place = ap (traded_at ts) (sym here) in
        ap (λ n. traded_at ts place + n) found ∙ omega arith
    found-step false o os e mine here within none =
        let same : traded_at ts o.place ≡ traded_at ts place = ap (traded_at ts) (sym here) in
        let all : (less_traded ts o).left ≤ 0 = grind (arith, nat_tests, e) in
        ap (λ n. traded_at ts place + n) none ∙ omega arith

    other-step : (b : Bool) (o : Order) (os : List Order) → is_of caller own o ≡ false
        → left_in (cond b (less_traded ts o ∷ after_trades ts os) (after_trades ts os)) ≡ left_in (after_trades ts os)
    other-step true o os e = ap (λ b. option_map_or (λ x. x.left) (cond b (Some (less_traded ts o)) (find (is_of caller own) (after_trades ts os))) 0) e
    other-step false o os e = refl

    fills-step : (b : Bool) (o : Order) (os : List Order) → is_of caller own o ≡ b → eqb place o.place ≡ b → AllByRecursion (λ x. o.place < x.place) os → AllByRecursion KeyOf os
        → (traded_at ts place ≤ left_in os → traded_at ts place + left_in (after_trades ts os) ≡ left_in os)
        → traded_at ts place ≤ option_map_or (λ x. x.left) (cond b (Some o) (find (is_of caller own) os)) 0
        → traded_at ts place + left_in (after_trades ts (o ∷ os)) ≡ option_map_or (λ x. x.left) (cond b (Some o) (find (is_of caller own) os)) 0
    unfolding after_trades
    fills-step true o os e at later keys rest within =
        let here : place ≡ o.place = eqb-true place o.place at in
        found-step (ltb 0 (less_traded ts o).left) o os refl e here within
        (none-left (after_trades ts os) (after-all (λ x. is_of caller own x ≡ false) (λ x n h. h) os (later-none o os here later keys)))
    fills-step false o os e at later keys rest within =
        ap (λ n. traded_at ts place + n) (other-step (ltb 0 (less_traded ts o).left) o os e) ∙ rest within

    -- what trades take from a caller's order is what it has less afterwards
    pub fills : (os : List Order) → Pairs (λ a b. a.place < b.place) os → AllByRecursion KeyOf os → traded_at ts place ≤ left_in os
        → traded_at ts place + left_in (after_trades ts os) ≡ left_in os
    unfolding after_trades
    fills [] pairs keys within = let n : left_in [] ≡ 0 = refl in omega arith
    fills (o ∷ os) pairs keys within = fills-step (is_of caller own o) o os refl keys.0 pairs.0 keys.1 (fills os pairs.1 keys.1) within

-- earlier orders of other entries are told from an order by its place as by its caller and own number
earlier-keys : (x : Order) (os : List Order) → AllByRecursion (λ y. y.place < x.place) os → AllByRecursion (λ y. is_of x.caller x.own y ≡ false) os
    → AllByRecursion (KeyOf x.caller x.own x.place) os
earlier-keys x [] before others = tt
earlier-keys x (y ∷ ys) before others =
    let first : y.place < x.place = before.0 in
    let apart : eqb x.place y.place ≡ false = grind (arith, nat_tests, first) in
    (apart ∙ sym others.0, earlier-keys x ys before.1 others.1)

-- an order that joins the book filled nothing, and has all left
pub join-filled : (o : Order) (s : State) → All (λ x. x.place < o.place) s.orders → All (λ x. is_of o.caller o.own x ≡ false) s.orders → IsFilled o.caller o.own o.place o.left (join o s)
join-filled o s last pair =
    let others = recursion_from_All (λ x. is_of o.caller o.own x ≡ false) s.orders pair in
    let caller : eqb o.caller.0 o.caller.0 ≡ true = grind (arith, nat_tests) in
    let own : eqb o.own o.own ≡ true = grind (arith, nat_tests) in
    let place : eqb o.place o.place ≡ true = grind (arith, nat_tests) in
    let mine : is_of o.caller o.own o ≡ true = rw (caller, own) refl in
    let left = left-behind o.caller o.own o.place s.orders (o ∷ []) others ∙ ap (λ b. option_map_or (λ x. x.left) (cond b (Some o) None) 0) mine in
    record {
      fills = ap (λ n. n + left_in o.caller o.own o.place (s.orders ++ o ∷ [])) (none-traded o.place) ∙ ap (λ n. 0 + n) left ∙ omega arith;
      key = All-from_recursion (λ x. eqb o.place x.place ≡ is_of o.caller o.own x) (s.orders ++ o ∷ [])
          (all-append (λ x. eqb o.place x.place ≡ is_of o.caller o.own x) s.orders (o ∷ [])
          (earlier-keys o s.orders (recursion_from_All (λ x. x.place < o.place) s.orders last) others) (place ∙ sym mine, tt));
    }

-- what is left of an order that arrived
rest-left : (o : Order) (left : ℕ) → is_of o.caller o.own o ≡ true → left_in o.caller o.own o.place (rest_of o left) ≡ left
rest-left o zero mine = refl
rest-left o (suc left) mine = ap (λ b. option_map_or (λ x. x.left) (cond b (Some (record o { left = suc left })) None) 0) mine

rest-key : (o : Order) (left : ℕ) → is_of o.caller o.own o ≡ true → eqb o.place o.place ≡ true → AllByRecursion (KeyOf o.caller o.own o.place) (rest_of o left)
rest-key o zero mine place = tt
rest-key o (suc left) mine place = (place ∙ sym mine, tt)

-- an order that arrived filled what it traded, and has left the rest
pub arrived-filled : (o : Order) (s : State) (a : Arrival) → All (λ x. x.place < o.place) s.orders → All (λ x. is_of o.caller o.own x ≡ false) s.orders
    → traded_at a.trades o.place + a.left ≡ o.left → IsFilled o.caller o.own o.place o.left (arrived o s a)
arrived-filled o s a last pair both =
    let others = recursion_from_All (λ x. is_of o.caller o.own x ≡ false) s.orders pair in
    let caller : eqb o.caller.0 o.caller.0 ≡ true = grind (arith, nat_tests) in
    let own : eqb o.own o.own ≡ true = grind (arith, nat_tests) in
    let place : eqb o.place o.place ≡ true = grind (arith, nat_tests) in
    let mine : is_of o.caller o.own o ≡ true = rw (caller, own) refl in
    let old = after_trades a.trades s.orders in
    let left : left_in o.caller o.own o.place (old ++ rest_of o a.left) ≡ a.left =
    left-behind o.caller o.own o.place old (rest_of o a.left) (after-all o.caller o.own o.place a.trades (λ x. is_of o.caller o.own x ≡ false) (λ x n h. h) s.orders others)
    ∙ rest-left o a.left mine in
    record {
      fills = ap (λ ts. traded_at ts o.place + left_in o.caller o.own o.place (old ++ rest_of o a.left)) (trades-told a.trades)
          ∙ ap (λ n. traded_at a.trades o.place + n) left ∙ both;
      key = All-from_recursion (KeyOf o.caller o.own o.place) (old ++ rest_of o a.left)
          (all-append (KeyOf o.caller o.own o.place) old (rest_of o a.left)
          (after-all o.caller o.own o.place a.trades (KeyOf o.caller o.own o.place) (λ x n h. h) s.orders (earlier-keys o s.orders (recursion_from_All (λ x. x.place < o.place) s.orders last) others))
          (rest-key o a.left mine place));
    }

-- what it has left is what its arrival left it
pub arrived-left : (o : Order) (s : State) (a : Arrival) → IsFilled o.caller o.own o.place o.left (arrived o s a) → traded_at a.trades o.place + a.left ≡ o.left
    → a.left ≡ left_of o.caller o.own (arrived o s a).state
arrived-left o s a filled both =
    let told : traded_at (filter_map trade_in (trade_outputs a.trades)) o.place ≡ traded_at a.trades o.place = ap (λ ts. traded_at ts o.place) (trades-told a.trades) in
    omega (arith, told, filled.fills, both)

-- an order that joins has all left
pub join-left : (o : Order) (s : State) → IsFilled o.caller o.own o.place o.left (join o s) → o.left ≡ left_of o.caller o.own (join o s).state
join-left o s filled = omega (arith, none-traded o.place, filled.fills)

-- no more is traded at the place of a caller's order than it has left, and nothing where there is none
within-left : (caller : Caller) (own place : ℕ) (ts : List Trade) (os : List Order) → AllByRecursion (KeyOf caller own place) os → AllByRecursion (λ o. traded_at ts o.place ≤ o.left) os
    → (AllByRecursion (λ o. place ≢ o.place) os → traded_at ts place ≡ 0) → traded_at ts place ≤ left_in caller own place os
within-left caller own place ts [] keys within absent = let none = absent tt in omega arith
within-left caller own place ts (o ∷ os) keys within absent =
    step (λ apart. within-left caller own place ts os keys.1 within.1 (λ others. absent (apart, others))) (is_of caller own o) refl keys.0
  where
    step : (place ≢ o.place → traded_at ts place ≤ left_in caller own place os) → (b : Bool) → is_of caller own o ≡ b → eqb place o.place ≡ is_of caller own o
        → traded_at ts place ≤ option_map_or (λ x. x.left) (cond b (Some o) (find (is_of caller own) os)) 0
    step rest true e at = subst (λ n. traded_at ts n ≤ o.left) (sym (eqb-true place o.place (at ∙ e))) within.0
    step rest false e at = rest (λ same. absurd (eqb-false place o.place (at ∙ e) same))

-- a place where no order stands is counted nowhere
pub none-counted : (place : ℕ) (os : List Order) → AllByRecursion (λ o. place ≢ o.place) os → count_at place os ≡ 0
none-counted place [] all = refl
none-counted place (o ∷ os) all =
    let f : Order → ℕ = λ x. cond (eqb place x.place) 1 0 in
    let here : f o ≡ 0 = ap (λ b. cond {A = ℕ} b 1 0) (ne_eqb place o.place all.0) in
    sum_by-cons f o os ∙ ap (λ n. n + count_at place os) here ∙ ap (λ n. 0 + n) (none-counted place os all.1)

-- after fills at a price each order has so many shares less as it filled
pub settled-filled : (caller : Caller) (own place p : ℕ) (f : Settlement) (s : State) → IsKey caller own place s.orders → AllPairs (λ a b. a.place < b.place) s.orders
    → All (λ o. traded_at f.trades o.place ≤ o.left) s.orders → (count_at place s.orders ≡ 0 → traded_at f.trades place ≡ 0)
    → IsFilled caller own place (left_of caller own s) (settle_at p f s)
settled-filled caller own place p f s keys rising within absent =
    let by-keys = recursion_from_All (KeyOf caller own place) s.orders keys in
    record {
      fills = ap (λ ts. traded_at ts place + left_in caller own place (after_trades f.trades s.orders)) (settled-told f)
          ∙ fills caller own place f.trades s.orders (pairs-from_AllPairs (λ a b. a.place < b.place) s.orders rising) by-keys
          (within-left caller own place f.trades s.orders by-keys (recursion_from_All (λ o. traded_at f.trades o.place ≤ o.left) s.orders within)
          (λ others. absent (none-counted place s.orders others)));
      key = All-from_recursion (KeyOf caller own place) (after_trades f.trades s.orders)
          (after-all caller own place f.trades (KeyOf caller own place) (λ x n h. h) s.orders by-keys);
    }

-- a move with outputs in front that are no trades
pub behind-filled : (caller : Caller) (own place before : ℕ) (told : List Output) (m : Move) → filter_map trade_in told ≡ [] → IsFilled caller own place before m
    → IsFilled caller own place before (behind told m)
behind-filled caller own place before told m none h =
    record {
      fills = ap (λ ts. traded_at ts place + left_of caller own m.state) (filter_map-append trade_in told m.outputs ∙ ap (λ ts. ts ++ filter_map trade_in m.outputs) none) ∙ h.fills;
      key = h.key;
    }

-- nothing happens
pub stay-filled : (caller : Caller) (own place : ℕ) (s : State) → IsKey caller own place s.orders → IsFilled caller own place (left_of caller own s) (stay s)
stay-filled caller own place s keys = record { fills = ap (λ n. n + left_of caller own s) (none-traded place) ∙ omega arith; key = keys }

-- a certificate tells no trades
rejected-told : (ss : List Sums) (outcome : Outcome) → filter_map trade_in (map (λ s. outputs.Rejected s) ss ++ outputs.Answer outcome ∷ []) ≡ []
rejected-told [] outcome = refl
rejected-told (s ∷ ss) outcome = rejected-told ss outcome

pub auction-told : (grid : List Price) (os : List Order) (reference lo hi : ℕ) (outcome : Outcome) → filter_map trade_in (auction_outputs grid os reference lo hi outcome) ≡ []
auction-told grid os reference lo hi outcome = let c = certificate_of grid os reference outcome in rejected-told c.rejected c.outcome
