-- The fills of an auction by time, as trades of both fronts, one after another.
use Rattle.std.proofs.Common.{◌≡◌, ℕ, ◌-◌, ◌<◌, ◌≤◌, min, Bool, true, false, cond, not, ltb, leb, eqb, ◌&&◌, ◌||◌, List, [], ◌∷◌, ◌++◌, length, filter, All, Some, refl, sym, ap, subst, ◌∙◌, arith, append_assoc, append-nil, lt-ltb}
use Rattle.std.specs.List.{AllByRecursion, AllPairs, slice_get}
use Rattle.std.proofs.lemmas.Bool.{eqb-true}
use Rattle.std.proofs.lemmas.Bool.Decides.{nat_tests}
use Rattle.std.proofs.lemmas.List.{map-append}
use Rattle.std.proofs.lemmas.List.Elements.{recursion_from_All}
use Rattle.mkt_base.specs.Book.{IsRising, above, below, buys, is_buy, is_buy_above, is_buy_at, is_market_or, is_sell_at, is_sell_below, limit_of, price_at, sells, total_left}
use Rattle.mkt_base.specs.Fills.{Fill, after_trades, filled, from_front, less_traded, pair, traded_at, whole}
use Rattle.mkt_base.specs.Priority.{in_priority, is_same_side}
use Rattle.mkt_base.specs.declared.auction.Sums.{Sums}
use Rattle.mkt_base.specs.declared.auction.Trade.{Trade}
use Rattle.mkt_base.specs.declared.order.Order.{Order}
use Rattle.mkt_base.specs.declared.order.Side.{Side}
use Rattle.mkt_base.specs.declared.order.Side.TheVariants.{Buy, Sell}
use Rattle.mkt_base.specs.declared.output.Output.{Output}
use Rattle.mkt_base.specs.declared.output.Output.TheVariants.{Traded}
use Rattle.mkt_base.specs.declared.units.Price.{Price}
use Rattle.mkt_base.proofs.TradeLemmas.{trades-twice}
use Rattle.auction_law.specs.Attempt.{meets, volume_at}
use Rattle.auction_law.proofs.MeetsLemmas.{meets-tells}
use Rattle.auction_law.proofs.SumsLemmas.{above-le-buys, below-le-sells, and-weaker, and-first, limit-weaker, total_left-mono}
use Rattle.book_law.specs.BookView.{BookView, IsBookView, IsGridOf, IsSpotBelow, Names, asks, bids, orders, side_of, slot_of, taken}
use Rattle.book_law.specs.Paired.{paired, trade_of}
use Rattle.book_law.specs.Sides.{total}
use Rattle.book_law.proofs.AheadLemmas.{Ahead, and-left, buy_above-respects, buy_at-respects, sell_at-respects, sell_below-respects, side-ahead}
use Rattle.book_law.proofs.FrontLemmas.{first-of, first-traded, fronts-apart, in_priority-all, orders-below, orders-left, orders-rising}
use Rattle.book_law.proofs.PairLemmas.{paired-filled}
use Rattle.book_law.proofs.Pairing.{paired-none}
use Rattle.book_law.proofs.TakenLemmas.{quantity-side, total-filter, total-passing}
use Rattle.book_law.proofs.TimeLemmas.{by-time, total-none}
use Rattle.allotment.specs.declared.round.Round.{Round}
use Rattle.itayose.specs.Fills.{auction_fills, is_at_or_better, is_at_price, is_better_than, trade_outputs}
use Rattle.itayose.specs.Trading.{IsTraded}
use Rattle.itayose.specs.Walk.{sums_of}
use Rattle.itayose.specs.declared.margin.Margin.TheVariants.{Time}

-- a side with something left has a first order
pub some-first : (xs : List Order) → 0 < total xs → xs ≡ [] → ⊥
some-first xs some e = let w = ap total e ∙ total-none in omega arith

-- one handle names one order
pub names-one : (b : BookView) (h : ℕ) (x y : Order) → Names b h x → Names b h y → x ≡ y
names-one b h x y e f = let same : slot_of h x ≡ slot_of h y = cc in ap (λ s. s.order) same

-- the first orders of both sides have different handles
pub handles-apart : (b : BookView) (h k : ℕ) (x y : Order) → IsBookView b → Names b h x → Names b k y → slice_get (bids b) 0 ≡ Some x → slice_get (asks b) 0 ≡ Some y → eqb h k ≡ false
handles-apart b h k x y stands e f buy sell = at (eqb h k) refl
  where
    at : (same : Bool) → eqb h k ≡ same → same ≡ false
    at false t = refl
    at true t =
        let bs = first-of (bids b) x buy in
        let ss = first-of (asks b) y sell in
        let apart = fronts-apart b.prices (orders b) (orders-rising b stands) (orders-below b stands) (orders-left b stands) x y bs.0 ss.0 bs.1 ss.1 in
        let named : Names b h y = subst (λ n. Names b n y) (sym (eqb-true h k t)) f in
        let one : x.place ≡ y.place = ap (λ o. o.place) (names-one b h x y e named) in
        absurd (grind (arith, nat_tests, one, apart))

-- the first order of a side has something left
pub first-left : (b : BookView) → IsBookView b → (side : Side) (x : Order) → slice_get (side_of b side) 0 ≡ Some x → 1 ≤ x.left
first-left b stands side x e =
    let w = first-of (side_of b side) x e in
    let all : AllByRecursion (λ o. 0 < o.left) (x ∷ w.0) = subst (AllByRecursion (λ o. 0 < o.left)) w.1 (in_priority-all (λ o. 0 < o.left) side (orders b) (recursion_from_All (λ o. 0 < o.left) (orders b) (orders-left b stands)) b.prices) in
    omega (arith, all.0)

-- the least of three that have something has something
pub least-some : (x y v m q : ℕ) → m ≡ min x y → q ≡ min m v → 1 ≤ x → 1 ≤ y → 0 < v → 1 ≤ q
least-some x y v m q e f a b c = grind (arith, nat_tests, e, f)

-- the first orders of both sides, traded
pub traded-first : (p v q : ℕ) (x y : Order) (old mid new : BookView) → IsBookView old → slice_get (bids old) 0 ≡ Some x → slice_get (asks old) 0 ≡ Some y
    → q ≡ min (min x.left y.left) v → 0 < q → orders mid ≡ taken x.place q (orders old) → orders new ≡ taken y.place q (orders mid)
    → mid.prices ≡ old.prices → new.prices ≡ mid.prices → mid.capacity ≡ old.capacity → new.capacity ≡ mid.capacity → IsTraded p v old new (trade_of p q x.place y.place)
traded-first p v q x y old mid new stands buy sell least some first then prices same capacity room =
    let t = first-traded p v q x y old new stands buy sell least some (same ∙ prices) (then ∙ ap (taken y.place q) first) in
    record {
      some = some;
      within = grind (arith, nat_tests, least);
      trades = t.trades;
      book = t.book;
      bought = t.bought;
      sold = t.sold;
      prices = same ∙ prices;
      capacity = room ∙ capacity;
    }

-- no trades take nothing
none-traded : (place : ℕ) → traded_at [] place ≡ 0
unfolding traded_at
none-traded place = refl

-- no trades leave the orders as they are
untouched : (os : List Order) → AllByRecursion (λ o. 0 < o.left) os → after_trades [] os ≡ os
unfolding after_trades
untouched [] all = refl
untouched (o ∷ os) all =
    let same : o.left - traded_at [] o.place ≡ o.left = omega (arith, none-traded o.place) in
    let order : less_traded [] o ≡ o = ap (λ n. record o { left = n }) same in
    let some : ltb 0 o.left ≡ true = lt-ltb _ _ all.0 in
    ap (λ x. cond (ltb 0 x.left) (x ∷ after_trades [] os) (after_trades [] os)) order
    ∙ ap (λ b. cond b (o ∷ after_trades [] os) (after_trades [] os)) some
    ∙ ap (λ xs. o ∷ xs) (untouched os all.1)

-- what of a volume is still to be traded, and what was traded and told
pub record IsSettled {W : Type 0} (took : W → List Output → W → Type 0) (price volume left : ℕ) (old new : BookView) (from to : W) : Type 0 where
  pub done : List Trade
  pub trades : paired price volume (bids old) (asks old) ≡ done ++ paired price left (bids new) (asks new)
  pub book : orders new ≡ after_trades done (orders old)
  pub bought : left ≤ total (bids new)
  pub sold : left ≤ total (asks new)
  pub prices : new.prices ≡ old.prices
  pub capacity : new.capacity ≡ old.capacity
  pub told : (start : W) (outputs : List Output) → took start outputs from → took start (outputs ++ trade_outputs done) to

module _ {W : Type 0} (took : W → List Output → W → Type 0) (price volume : ℕ) (old : BookView) (from : W) where
  -- at first nothing is traded
  pub settled-none : IsBookView old → volume ≤ total (bids old) → volume ≤ total (asks old) → IsSettled took price volume volume old old from from
  settled-none stands bought sold = record {
    done = [];
    trades = refl;
    book = sym (untouched (orders old) (recursion_from_All (λ o. 0 < o.left) (orders old) (orders-left old stands)));
    bought = bought;
    sold = sold;
    prices = refl;
    capacity = refl;
    told = λ start outputs h. rw (append-nil) h;
  }

  -- a trade more
  pub settled-more : (left : ℕ) (mid new : BookView) (middle to : W) (trade : Trade) → IsSettled took price volume left old mid from middle → IsTraded price left mid new trade
      → ((start : W) (outputs : List Output) → took start outputs middle → took start (outputs ++ Traded trade ∷ []) to)
      → IsSettled took price volume (left - trade.qty) old new from to
  settled-more left mid new middle to trade s t last = record {
    done = s.done ++ trade ∷ [];
    trades = s.trades ∙ ap (λ ts. s.done ++ ts) t.trades ∙ sym (append_assoc s.done (trade ∷ []) _);
    book = t.book ∙ ap (after_trades (trade ∷ [])) s.book ∙ trades-twice s.done (trade ∷ []) (orders old);
    bought = omega (arith, s.bought, t.bought);
    sold = omega (arith, s.sold, t.sold);
    prices = t.prices ∙ s.prices;
    capacity = t.capacity ∙ s.capacity;
    told = λ start outputs h.
        let one = last start (outputs ++ trade_outputs s.done) (s.told start outputs h) in
        let same : trade_outputs (s.done ++ trade ∷ []) ≡ trade_outputs s.done ++ Traded trade ∷ [] = simp map-append in
        subst (λ xs. took start xs to) (append_assoc outputs (trade_outputs s.done) (Traded trade ∷ []) ∙ ap (λ xs. outputs ++ xs) (sym same)) one;
  }

  module _ (new : BookView) (to : W) (s : IsSettled took price volume 0 old new from to) where
    -- where nothing is left all was traded
    all-done : paired price volume (bids old) (asks old) ≡ s.done
    all-done = s.trades ∙ ap (λ ts. s.done ++ ts) (paired-none price (bids new) (asks new)) ∙ append-nil s.done

    -- so this is the book
    pub settled-book : orders new ≡ after_trades (paired price volume (bids old) (asks old)) (orders old)
    settled-book = s.book ∙ ap (λ ts. after_trades ts (orders old)) (sym all-done)

    -- and this was told
    pub settled-told : (start : W) (outputs : List Output) → took start outputs from → took start (outputs ++ trade_outputs (paired price volume (bids old) (asks old))) to
    settled-told start outputs h = subst (λ ts. took start (outputs ++ trade_outputs ts) to) (sym all-done) (s.told start outputs h)

-- ---- by time

-- those at the price are those at or better that are not better
parts-of : (w b : Bool) → (b ≡ true → w ≡ true) → w ≡ (b || (w && not b))
parts-of w true h = h refl
parts-of true false h = refl
parts-of false false h = refl

-- none of them is better
apart-of : (w b : Bool) → b ≡ true → (w && not b) ≡ false
apart-of true true e = refl
apart-of false true e = refl
apart-of w false e = absurd (cc)

module _ (grid : List Price) (os : List Order) (p v : ℕ) (rising : IsRising grid) (places : AllPairs (λ a b. a.place < b.place) os) (spots : All (λ o. IsSpotBelow (length grid) o.spot) os) where
  abbrev bs : List Order
  bs = in_priority (length grid) Buy os

  abbrev ss : List Order
  ss = in_priority (length grid) Sell os

  -- what those of a side have that pass a test of the side
  sum-of : (side : Side) (t : Order → Bool) → ((o : Order) → t o ≡ true → is_same_side side o.side ≡ true) → total (filter t (in_priority (length grid) side os)) ≡ total_left t os
  sum-of side t own = total-filter t (in_priority (length grid) side os) ∙ total-passing t (length grid) side os spots own

  -- a better buy is also at the price or better
  buy-wide : (o : Order) → is_buy_above grid p o ≡ true → is_buy_at grid p o ≡ true
  buy-wide o e = and-weaker (is_buy o.side) _ _ (limit-weaker (λ x. ltb p x) (λ x. leb p x) (limit_of grid o.spot) (λ x f t. grind (arith, nat_tests))) e

  -- and so for a sell
  sell-wide : (o : Order) → is_sell_below grid p o ≡ true → is_sell_at grid p o ≡ true
  sell-wide o e = and-weaker (not (is_buy o.side)) _ _ (limit-weaker (λ x. ltb x p) (λ x. leb x p) (limit_of grid o.spot) (λ x f t. grind (arith, nat_tests))) e

  -- what a side fills is the volume from its front
  pub buys-by_time : above grid os p ≤ v → v ≤ buys grid os p
      → filled (whole (filter (is_better_than grid p Buy) bs) ++ from_front (v - total (filter (is_better_than grid p Buy) bs)) (whole (filter (is_at_price grid p Buy) bs))) ≡ filled (from_front v (whole bs))
  buys-by_time over most =
      by-time (Ahead grid Buy) (is_better_than grid p Buy) (is_at_or_better grid p Buy) (is_at_price grid p Buy) (λ a b r e. buy_above-respects grid p a b r e) (λ a b r e. buy_at-respects grid p a b r e)
      (λ o. parts-of (is_buy_at grid p o) (is_buy_above grid p o) (buy-wide o)) (λ o. apart-of (is_buy_at grid p o) (is_buy_above grid p o)) v bs (side-ahead grid Buy os rising places)
      (omega (arith, sum-of Buy (is_buy_above grid p) (λ o e. and-left (is_buy o.side) (is_market_or (λ limit. ltb p limit) (limit_of grid o.spot)) e), over))
      (omega (arith, sum-of Buy (is_buy_at grid p) (λ o e. and-left (is_buy o.side) (is_market_or (λ limit. leb p limit) (limit_of grid o.spot)) e), most))

  -- and so for the sells
  pub sells-by_time : below grid os p ≤ v → v ≤ sells grid os p
      → filled (whole (filter (is_better_than grid p Sell) ss) ++ from_front (v - total (filter (is_better_than grid p Sell) ss)) (whole (filter (is_at_price grid p Sell) ss))) ≡ filled (from_front v (whole ss))
  sells-by_time under most =
      by-time (Ahead grid Sell) (is_better_than grid p Sell) (is_at_or_better grid p Sell) (is_at_price grid p Sell) (λ a b r e. sell_below-respects grid p a b r e) (λ a b r e. sell_at-respects grid p a b r e)
      (λ o. parts-of (is_sell_at grid p o) (is_sell_below grid p o) (sell-wide o)) (λ o. apart-of (is_sell_at grid p o) (is_sell_below grid p o)) v ss (side-ahead grid Sell os rising places)
      (omega (arith, sum-of Sell (is_sell_below grid p) (λ o e. and-left (not (is_buy o.side)) (is_market_or (λ limit. ltb limit p) (limit_of grid o.spot)) e), under))
      (omega (arith, sum-of Sell (is_sell_at grid p) (λ o e. and-left (not (is_buy o.side)) (is_market_or (λ limit. leb limit p) (limit_of grid o.spot)) e), most))

-- the same fills pair alike
same-pair : (p : ℕ) (fs hs gs ks : List Fill) → fs ≡ hs → gs ≡ ks → pair p fs gs ≡ pair p hs ks
same-pair p fs hs gs ks e f = ap (λ xs. pair p xs gs) e ∙ ap (pair p hs) f

-- the trades of an auction by time are those of both fronts
module _ (grid : List Price) (os : List Order) (p : ℕ) (rising : IsRising grid) (places : AllPairs (λ a b. a.place < b.place) os) (spots : All (λ o. IsSpotBelow (length grid) o.spot) os) (met : meets grid os p ≡ true) where
  -- its volume is within what each side has
  pub within-sides : (volume_at grid os p ≤ total (in_priority (length grid) Buy os)) × (volume_at grid os p ≤ total (in_priority (length grid) Sell os))
  within-sides =
      let bought = total_left-mono (is_buy_at grid p) (λ o. is_same_side Buy o.side) os (λ k d l. and-first _ _) in
      let sold = total_left-mono (is_sell_at grid p) (λ o. is_same_side Sell o.side) os (λ k d l. and-first _ _) in
      (omega (arith, bought, quantity-side (length grid) Buy os spots), omega (arith, sold, quantity-side (length grid) Sell os spots))

  -- better ones first and then by place is by priority
  pub fills-by_time : (rounds : List Round) (unit : ℕ)
      → (auction_fills grid os p Time rounds unit).trades ≡ paired p (volume_at grid os p) (in_priority (length grid) Buy os) (in_priority (length grid) Sell os)
  fills-by_time rounds unit =
      let m = meets-tells grid os p met in
      let b = buys-by_time grid os p (volume_at grid os p) rising places spots (omega (arith, m.2, above-le-buys grid os p)) (omega arith) in
      let s = sells-by_time grid os p (volume_at grid os p) rising places spots (omega (arith, m.3, below-le-sells grid os p)) (omega arith) in
      same-pair p _ _ _ _ b s ∙ paired-filled p (from_front (volume_at grid os p) (whole (in_priority (length grid) Buy os))) (from_front (volume_at grid os p) (whole (in_priority (length grid) Sell os)))

-- the same over a book, whose sums at a position are known
module _ (b : BookView) (stands : IsBookView b) (grid : List Price) (of : IsGridOf b grid) (i : ℕ) (s : Sums) (v : ℕ) (sums : s ≡ sums_of b grid i) (volume : v ≡ min s.buys s.sells) (met : meets grid (orders b) (price_at grid i) ≡ true) where
  -- the orders stand on the grid
  spots : All (λ o. IsSpotBelow (length grid) o.spot) (orders b)
  spots = subst (λ n. All (λ o. IsSpotBelow n o.spot) (orders b)) (sym of.size) (orders-below b stands)

  -- the lesser of the sums is the volume
  volume-there : v ≡ volume_at grid (orders b) (price_at grid i)
  volume-there = volume ∙ ap (λ t. min t.buys t.sells) sums

  -- it is within both sides
  pub within-book : (v ≤ total (bids b)) × (v ≤ total (asks b))
  within-book =
      let w = within-sides grid (orders b) (price_at grid i) of.rising (orders-rising b stands) spots met in
      (subst (λ n. v ≤ total (in_priority n Buy (orders b))) of.size (omega (arith, w.0, volume-there)), subst (λ n. v ≤ total (in_priority n Sell (orders b))) of.size (omega (arith, w.1, volume-there)))

  -- and the fronts trade the fills of the auction
  pub book-fills : (rounds : List Round) (unit : ℕ) → paired s.price.0 v (bids b) (asks b) ≡ (auction_fills grid (orders b) (price_at grid i) Time rounds unit).trades
  book-fills rounds unit =
      ap (λ t. paired t.price.0 v (bids b) (asks b)) sums
      ∙ ap (λ n. paired (price_at grid i) n (bids b) (asks b)) volume-there
      ∙ ap (λ n. paired (price_at grid i) (volume_at grid (orders b) (price_at grid i)) (in_priority n Buy (orders b)) (in_priority n Sell (orders b))) (sym of.size)
      ∙ sym (fills-by_time grid (orders b) (price_at grid i) of.rising (orders-rising b stands) spots met rounds unit)
