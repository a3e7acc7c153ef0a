-- What an order does against resting orders, one after another.
use Rattle.std.proofs.Common.{◌≡◌, ℕ, zero, suc, ◌+◌, ◌-◌, ◌<◌, min, Bool, true, false, cond, ltb, not, ◌||◌, List, [], ◌∷◌, map, filter, take, Option, Some, None, refl, sym, ap, ◌∙◌, arith}
use Rattle.std.specs.List.{last_or, prefix_len, slice_get, zip}
use Rattle.std.specs.Option.{unwrap_or}
use Rattle.std.proofs.lemmas.Bool.Decides.{nat_tests}
use Rattle.std.proofs.lemmas.List.Sums.{sum_by-cons}
use Rattle.mkt_base.specs.Book.{is_buy}
use Rattle.mkt_base.specs.Fills.{Fill, from_front, quantity, whole}
use Rattle.mkt_base.specs.declared.auction.Trade.{Trade}
use Rattle.mkt_base.specs.declared.order.Order.{Order}
use Rattle.mkt_base.specs.declared.units.Price.{Price}
use Rattle.zaraba.specs.Arrival.{Arrival, Jump, arrival_over, cut_stop, ended_stop, is_beyond, is_gap, jumps, limit_price, reach, stop_of, trade_with}
use Rattle.zaraba.specs.Walk.{is_too_far, jump_to, with_trades}
use Rattle.zaraba.specs.declared.stop.Stop.{Stop}
use Rattle.zaraba.specs.declared.stop.Stop.TheVariants.{Done}

-- an arrival of its parts
pub parts-same : (ts us : List Trade) (l m a b : ℕ) (s t : Stop) → ts ≡ us → l ≡ m → a ≡ b → s ≡ t
    → Path Arrival (record { trades = ts; left = l; last = a; stop = s }) (record { trades = us; left = m; last = b; stop = t })
parts-same ts us l m a b s t e f g h = cc

-- the last of some prices, behind another price
last-behind : (p last : ℕ) (ps : List ℕ) → unwrap_or (last_or (Some p) ps) last ≡ unwrap_or (last_or None ps) p
last-behind p last [] = refl
last-behind p last (q ∷ qs) = both q qs
  where
    both : (r : ℕ) (rs : List ℕ) → unwrap_or (last_or (Some r) rs) last ≡ unwrap_or (last_or (Some r) rs) p
    both r [] = refl
    both r (t ∷ ts) = both t ts

quantity-cons : (f : Fill) (fs : List Fill) → quantity (f ∷ fs) ≡ f.qty + quantity fs
unfolding quantity
quantity-cons f fs = sum_by-cons (λ g. g.qty) f fs

module _ (grid : List Price) (range : ℕ → ℕ) (first : ℕ) where
  -- the trades of an order of n shares with resting ones, and what they leave of it
  abbrev made : Order → ℕ → List Order → List Trade
  made o n xs = map (λ f. trade_with grid o f.0 f.1.qty) (filter (λ f. ltb 0 f.1.qty) (zip xs (from_front n (whole xs))))

  abbrev over : ℕ → List Order → ℕ
  over n xs = n - quantity (from_front n (whole xs))

  abbrev last_of : List Trade → ℕ → ℕ
  last_of ts last = unwrap_or (last_or None (map (λ t. t.price.0) ts)) last

  made-none : (o : Order) (xs : List Order) → made o 0 xs ≡ []
  unfolding from_front
  made-none o [] = refl
  made-none o (x ∷ xs) =
      let none : min 0 x.left ≡ 0 = grind (arith, nat_tests) in
      let nothing : 0 - x.left ≡ 0 = omega arith in
      rw (none, nothing) (made-none o xs)

  made-more : (o : Order) (n : ℕ) (x : Order) (xs : List Order) → 0 < n → 0 < x.left → made o n (x ∷ xs) ≡ trade_with grid o x (min n x.left) ∷ made o (n - x.left) xs
  unfolding from_front
  made-more o n x xs h k = let some : ltb 0 (min n x.left) ≡ true = grind (arith, nat_tests, h, k) in rw some refl

  over-more : (n : ℕ) (x : Order) (xs : List Order) → over n (x ∷ xs) ≡ over (n - min n x.left) xs
  unfolding from_front
  over-more n x xs =
      let whole-sum = quantity-cons (record { place = x.place; qty = min n x.left }) (from_front (n - x.left) (whole xs)) in
      let same : n - x.left ≡ n - min n x.left = grind (arith, nat_tests) in
      let fills = ap (λ m. quantity (from_front m (whole xs))) same in
      omega (arith, whole-sum, fills)

  -- the order's own shares do not matter for a stop
  same-stop : (o : Order) (m n : ℕ) (cut : Option Jump) → stop_of range (record o { left = m }) n cut ≡ stop_of range o n cut
  same-stop o m zero cut = refl
  same-stop o m (suc n) None = refl
  same-stop o m (suc n) (Some j) = refl

  some-left : (o : Order) (n : ℕ) (cut : Option Jump) → 0 < n → stop_of range o n cut ≡ cut_stop range o cut
  some-left o zero cut h = absurd (omega (arith, h))
  some-left o (suc n) cut h = refl

  either-price : (b : Bool) (t u : Trade) (p : ℕ) → t.price.0 ≡ p → u.price.0 ≡ p → (cond {A = Trade} b t u).price.0 ≡ p
  either-price true t u p e f = e
  either-price false t u p e f = f

  pub trade-price : (o x : Order) (q : ℕ) → (trade_with grid o x q).price.0 ≡ limit_price grid x
  trade-price o x q =
      let p = limit_price grid x in
      either-price (is_buy o.side) (record { price = record { 0 = p }; qty = q; buy = o.place; sell = x.place }) (record { price = record { 0 = p }; qty = q; buy = x.place; sell = o.place }) p refl refl

  abbrev jumps_of : List Order → ℕ → List Jump
  jumps_of xs last = jumps last (map (limit_price grid) xs)

  abbrev reached : List Order → ℕ → List Order
  reached xs last = take (reach range first (jumps_of xs last)) xs

  -- an order with nothing left is done
  pub walk-done : (xs : List Order) (o : Order) (last : ℕ) → o.left ≡ 0 → arrival_over grid range first xs o last ≡ record { trades = []; left = 0; last = last; stop = Done }
  unfolding arrival_over
  walk-done xs o last e =
      let rs = reached xs last in
      let cut = slice_get (jumps_of xs last) (reach range first (jumps_of xs last)) in
      let none : made o o.left rs ≡ [] = ap (λ m. made o m rs) e ∙ made-none o rs in
      let nothing : over o.left rs ≡ 0 = omega arith in
      parts-same (made o o.left rs) [] (over o.left rs) 0 (last_of (made o o.left rs) last) last (stop_of range o (over o.left rs) cut) Done none nothing
      (ap (λ ts. last_of ts last) none) (ap (λ m. stop_of range o m cut) nothing)

  -- with nothing more against it, or the next price too far, it has left what it has
  nothing-reached : (o : Order) (last : ℕ) (cut : Option Jump) → 0 < o.left
      → Path Arrival (record { trades = made o o.left []; left = over o.left []; last = last_of (made o o.left []) last; stop = stop_of range o (over o.left []) cut })
      (record { trades = []; left = o.left; last = last; stop = cut_stop range o cut })
  unfolding from_front quantity
  nothing-reached o last cut h =
      let all : over o.left [] ≡ o.left = omega arith in
      parts-same [] [] (over o.left []) o.left last last (stop_of range o (over o.left []) cut) (cut_stop range o cut) refl all refl
      (ap (λ m. stop_of range o m cut) all ∙ some-left o o.left cut h)

  pub walk-none : (o : Order) (last : ℕ) → 0 < o.left → arrival_over grid range first [] o last ≡ record { trades = []; left = o.left; last = last; stop = ended_stop o.side o.spot }
  unfolding arrival_over
  walk-none o last h = nothing-reached o last None h

  -- the next price is too far
  pub walk-cut : (x : Order) (xs : List Order) (o : Order) (last : ℕ) → 0 < o.left → is_too_far grid range first last x ≡ true
      → arrival_over grid range first (x ∷ xs) o last ≡ record { trades = []; left = o.left; last = last; stop = cut_stop range o (Some (jump_to grid last x)) }
  unfolding arrival_over
  walk-cut x xs o last h far =
      let rest = prefix_len (λ j. not (is_gap range j || is_beyond range first j)) (jumps_of xs (limit_price grid x)) in
      rw far (nothing-reached o last (Some (jump_to grid last x)) h)

  -- what an order has done that goes as far as n resting ones
  abbrev stopped_at : ℕ → List Order → Order → ℕ → Arrival
  stopped_at n xs o last =
      record { trades = made o o.left (take n xs); left = over o.left (take n xs); last = last_of (made o o.left (take n xs)) last; stop = stop_of range o (over o.left (take n xs)) (slice_get (jumps_of xs last) n) }

  -- it trades with the first of them, and goes on
  first-met : (x : Order) (rs : List Order) (o : Order) (last : ℕ) (cut : Option Jump) → 0 < o.left → 0 < x.left
      → Path Arrival (record { trades = made o o.left (x ∷ rs); left = over o.left (x ∷ rs); last = last_of (made o o.left (x ∷ rs)) last; stop = stop_of range o (over o.left (x ∷ rs)) cut })
      (record {
        trades = trade_with grid o x (min o.left x.left) ∷ made o (o.left - min o.left x.left) rs;
        left = over (o.left - min o.left x.left) rs;
        last = last_of (made o (o.left - min o.left x.left) rs) (limit_price grid x);
        stop = stop_of range (record o { left = o.left - min o.left x.left }) (over (o.left - min o.left x.left) rs) cut;
      })
  first-met x rs o last cut h k =
      let n = o.left - min o.left x.left in
      let t = trade_with grid o x (min o.left x.left) in
      let same : o.left - x.left ≡ n = grind (arith, nat_tests) in
      let trades : made o o.left (x ∷ rs) ≡ t ∷ made o n rs = made-more o o.left x rs h k ∙ ap (λ m. t ∷ made o m rs) same in
      let rest = over-more o.left x rs in
      parts-same (made o o.left (x ∷ rs)) (t ∷ made o n rs) (over o.left (x ∷ rs)) (over n rs)
      (last_of (made o o.left (x ∷ rs)) last) (last_of (made o n rs) (limit_price grid x))
      (stop_of range o (over o.left (x ∷ rs)) cut) (stop_of range (record o { left = n }) (over n rs) cut)
      trades rest
      (ap (λ ts. last_of ts last) trades ∙ ap (λ p. unwrap_or (last_or (Some p) (map (λ u. u.price.0) (made o n rs))) last) (trade-price o x (min o.left x.left))
      ∙ last-behind (limit_price grid x) last (map (λ u. u.price.0) (made o n rs)))
      (ap (λ m. stop_of range o m cut) rest ∙ sym (same-stop o n (over n rs) cut))

  -- the next price is near enough: the order trades with the first resting one, and goes on
  pub walk-more : (x : Order) (xs : List Order) (o : Order) (last : ℕ) → 0 < o.left → 0 < x.left → is_too_far grid range first last x ≡ false
      → arrival_over grid range first (x ∷ xs) o last
      ≡ with_trades (trade_with grid o x (min o.left x.left) ∷ []) (arrival_over grid range first xs (record o { left = o.left - min o.left x.left }) (limit_price grid x))
  unfolding arrival_over
  walk-more x xs o last h k near =
      let r = reach range first (jumps_of xs (limit_price grid x)) in
      let rs = take r xs in
      let one : 1 + r ≡ suc r = omega arith in
      let here : reach range first (jumps_of (x ∷ xs) last) ≡ suc r = ap (λ b. cond (not b) (1 + r) 0) near ∙ one in
      ap (λ n. stopped_at n (x ∷ xs) o last) here ∙ first-met x rs o last (slice_get (jumps_of xs (limit_price grid x)) r) h k
