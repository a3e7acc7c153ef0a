-- An order on its way: a trade with the next one, and trades one after another.
use Rattle.std.proofs.Common.{◌≡◌, ℕ, ◌-◌, ◌<◌, ◌≤◌, min, true, false, cond, eqb, ltb, IsTrue, List, [], ◌∷◌, ◌++◌, length, map, append_assoc, append-nil, refl, sym, ap, subst, ◌∙◌, arith}
use Rattle.std.specs.List.{All, AllByRecursion}
use Rattle.std.specs.Option.{is_some}
use Rattle.std.proofs.lemmas.Bool.Decides.{nat_tests}
use Rattle.std.proofs.lemmas.List.{get_or-map, length-map, map-append}
use Rattle.std.proofs.lemmas.List.Elements.{All-from_recursion, All-map, recursion_from_All}
use Rattle.mkt_base.specs.Book.{IsRising, limit_of, price_at}
use Rattle.mkt_base.specs.Fills.{after_trades, less_traded, traded_at}
use Rattle.mkt_base.specs.declared.auction.Trade.{Trade}
use Rattle.mkt_base.specs.declared.order.Order.{Order}
use Rattle.mkt_base.specs.declared.output.Output.{Output}
use Rattle.mkt_base.specs.declared.output.Output.TheVariants.{Traded}
use Rattle.mkt_base.specs.declared.units.Price.{Price}
use Rattle.mkt_base.proofs.TradeLemmas.{trades-twice}
use Rattle.auction_law.specs.Attempt.{is_calm}
use Rattle.book_law.specs.BookView.{BookView, IsBookView, IsFresh, IsSpotBelow, is_of, less, orders, taken}
use Rattle.book_law.proofs.FrontLemmas.{in_priority-all, orders-below, orders-left, orders-rising}
use Rattle.book_law.proofs.Pairs.{weaken}
use Rattle.book_law.proofs.PlaceLemmas.{first-once}
use Rattle.book_law.proofs.TakenLemmas.{taken-all}
use Rattle.zaraba.specs.Arrival.{arrival_over, crossed, limit_price, opposite, trade_with}
use Rattle.zaraba.specs.Walk.{Awaits, IsNext, IsStopped, IsWalked, IsWalking, ahead, with_left, with_trades}
use Rattle.zaraba.specs.declared.next.Next.{Next}
use Rattle.zaraba.specs.declared.stop.Stop.TheVariants.{Done}
use Rattle.zaraba.proofs.CalmLemmas.{calm-limited}
use Rattle.zaraba.proofs.CrossedLemmas.{meets-first, taken-traded_with}
use Rattle.zaraba.proofs.NextLemmas.{front-is, limits, own-price, rest}
use Rattle.zaraba.proofs.WalkLemmas.{walk-done}

-- what holds of a book's orders whatever they have left holds after shares were taken
all-taken : (P : Order → Type 0) → ((n : ℕ) (x : Order) → P x → P (less n x)) → (place q : ℕ) (old new : List Order) → new ≡ taken place q old → All P old → All P new
all-taken P stays place q old new e all =
    All-from_recursion P new (subst (AllByRecursion P) (sym e) (taken-all P stays place q old (recursion_from_All P old all)))

-- a book awaits an order also after shares were taken from it
pub awaits-taken : (grid : List Price) (o : Order) (old new : BookView) (place q : ℕ) → Awaits grid o old → orders new ≡ taken place q (orders old)
    → new.prices ≡ old.prices → new.capacity ≡ old.capacity → length new.slots ≤ length old.slots → Awaits grid o new
awaits-taken grid o old new place q awaits book prices capacity count =
    let room : length old.slots < old.capacity = awaits.room in
    record {
      size = awaits.size ∙ sym prices;
      limited = all-taken (λ x. is_some (limit_of grid x.spot) ≡ true) (λ n x h. h) place q (orders old) (orders new) book awaits.limited;
      earlier = all-taken (λ x. x.place < o.place) (λ n x h. h) place q (orders old) (orders new) book awaits.earlier;
      others = all-taken (λ x. is_of o.caller o.own x ≡ false) (λ n x h. h) place q (orders old) (orders new) book awaits.others;
      room = omega arith;
    }

-- the order stands at no place of the book
away : (grid : List Price) (o : Order) (b : BookView) → Awaits grid o b → AllByRecursion (λ x. eqb o.place x.place ≡ false) (orders b)
away grid o b awaits =
    weaken (λ x. x.place < o.place) (λ x. eqb o.place x.place ≡ false) (λ x h. grind (arith, nat_tests, h)) (orders b) (recursion_from_All (λ x. x.place < o.place) (orders b) awaits.earlier)

-- as many shares as both have, taken from the next order
pub meets : (grid : List Price) → IsRising grid → (range : ℕ → ℕ) (first last left q : ℕ) (o : Order) (old new : BookView) (next : Next) → IsBookView old → Awaits grid o old
    → IsNext grid range first last o old next → 0 < left → q ≡ min left next.order.left → orders new ≡ taken next.order.place q (orders old) → Awaits grid o new → new.capacity ≡ old.capacity
    → IsWalked grid range first o old new left (left - q) last (price_at grid next.at) (trade_with grid o next.order q ∷ [])
meets grid rising range first last left q o old new next stands awaits is wanted least book after capacity =
    let x = next.order in
    let xs = rest grid rising range first last o old stands awaits next is.front in
    let here = front-is grid rising range first last o old stands awaits next is.front in
    let below = subst (λ n. All (λ y. IsSpotBelow n y.spot) (orders old)) (sym awaits.size) (orders-below old stands) in
    let once = first-once (length grid) (orders old) (orders-rising old stands) below (opposite o.side) x xs here in
    let has : AllByRecursion (λ y. 0 < y.left) (x ∷ xs) =
    subst (AllByRecursion (λ y. 0 < y.left)) here (in_priority-all (λ y. 0 < y.left) (opposite o.side) (orders old) (recursion_from_All (λ y. 0 < y.left) (orders old) (orders-left old stands)) (length grid)) in
    let price = own-price grid rising range first last o old stands awaits next is.front in
    record {
      rest =
          meets-first grid o (orders old) rising (orders-rising old stands) (limits grid rising range first last o old stands awaits) x xs here once has.1 is.crossed range first last left wanted has.0 is.near
          ∙ ap (λ n. with_trades (trade_with grid o x n ∷ []) (arrival_over grid range first (crossed grid o (taken x.place n (orders old))) (with_left o (left - n)) (limit_price grid x))) (sym least)
          ∙ ap (λ ys. with_trades (trade_with grid o x q ∷ []) (arrival_over grid range first (crossed grid o ys) (with_left o (left - q)) (limit_price grid x))) (sym book)
          ∙ ap (λ p. with_trades (trade_with grid o x q ∷ []) (ahead grid range first o new (left - q) p)) price;
      book = book ∙ taken-traded_with grid o x q (orders old) (away grid o old awaits);
      awaits = after;
      capacity = capacity;
      within = omega arith;
    }

-- no trades leave a book as it is
same-order : (o : Order) → less_traded [] o ≡ o
unfolding traded_at
same-order o = let same : o.left - 0 ≡ o.left = omega arith in ap (λ n. record o { left = n }) same

no-trades : (os : List Order) → AllByRecursion (λ o. 0 < o.left) os → os ≡ after_trades [] os
unfolding after_trades
no-trades [] some = refl
no-trades (o ∷ os) some =
    let stays : true ≡ ltb 0 o.left = grind (arith, nat_tests, some.0) in
    ap (λ xs. o ∷ xs) (no-trades os some.1) ∙ ap (λ b. cond b (o ∷ after_trades [] os) (after_trades [] os)) stays
    ∙ ap (λ x. cond (ltb 0 x.left) (x ∷ after_trades [] os) (after_trades [] os)) (sym (same-order o))

-- at first there are no trades
pub walked-none : (grid : List Price) (range : ℕ → ℕ) (first : ℕ) (o : Order) (b : BookView) (left last : ℕ) → IsBookView b → Awaits grid o b → IsWalked grid range first o b b left left last last []
walked-none grid range first o b left last stands awaits =
    record { rest = refl; book = no-trades (orders b) (recursion_from_All (λ x. 0 < x.left) (orders b) (orders-left b stands)); awaits = awaits; capacity = refl; within = omega arith }

-- and more come behind those that were done
pub walked-more : (grid : List Price) (range : ℕ → ℕ) (first : ℕ) (o : Order) (old mid new : BookView) (from half to last then now : ℕ) (done more : List Trade)
    → IsWalked grid range first o old mid from half last then done → IsWalked grid range first o mid new half to then now more → IsWalked grid range first o old new from to last now (done ++ more)
walked-more grid range first o old mid new from half to last then now done more one two =
    let half-within : half ≤ from = one.within in
    let rest-within : to ≤ half = two.within in
    record {
      rest =
          one.rest ∙ ap (with_trades done) two.rest
          ∙ ap (λ ts. record (ahead grid range first o new to now) { trades = ts }) (sym (append_assoc done more (ahead grid range first o new to now).trades));
      book = two.book ∙ ap (after_trades more) one.book ∙ trades-twice done more (orders old);
      awaits = two.awaits;
      capacity = two.capacity ∙ one.capacity;
      within = omega arith;
    }

-- the loop at its start
pub walking-none : {W : Type 0} (took : W → List Output → W → Type 0) (grid : List Price) (range : ℕ → ℕ) (first : ℕ) (o : Order) (b : BookView) (w : W) → IsBookView b → Awaits grid o b
    → IsWalking took grid range first o b b o.left first w w
walking-none took grid range first o b w stands awaits = record {
  done = [];
  walked = walked-none grid range first o b o.left first stands awaits;
  told = λ start outputs h. subst (λ os. took start os w) (sym (append-nil outputs)) h;
}

-- and after one trade more
pub walking-more : {W : Type 0} (took : W → List Output → W → Type 0) (grid : List Price) (range : ℕ → ℕ) (first : ℕ) (o : Order) (old mid new : BookView) (half to now then : ℕ) (from via on : W) (t : Trade)
    → IsWalking took grid range first o old mid half now from via → IsWalked grid range first o mid new half to now then (t ∷ [])
    → ((start : W) (outputs : List Output) → took start outputs via → took start (outputs ++ Traded t ∷ []) on) → IsWalking took grid range first o old new to then from on
walking-more took grid range first o old mid new half to now then from via on t walking walked told = record {
  done = walking.done ++ t ∷ [];
  walked = walked-more grid range first o old mid new o.left half to first now then walking.done (t ∷ []) walking.walked walked;
  told = λ start outputs h.
      let same = append_assoc outputs (map (λ u. Traded u) walking.done) (Traded t ∷ []) ∙ ap (λ os. outputs ++ os) (sym (map-append (λ u. Traded u) walking.done (t ∷ []))) in
      subst (λ os. took start os on) same (told start (outputs ++ map (λ u. Traded u) walking.done) (walking.told start outputs h));
}

-- with nothing left it has stopped
pub stops-done : (grid : List Price) (range : ℕ → ℕ) (first : ℕ) (o : Order) (b : BookView) (left last : ℕ) → left ≡ 0 → IsStopped grid range first o b left last Done
stops-done grid range first o b left last none =
    walk-done grid range first (crossed grid o (orders b)) (with_left o left) last none ∙ ap (λ n. record { trades = []; left = n; last = last; stop = Done }) (sym none)

-- what holds of all orders holds of all slots
slots-hold : (P : Order → Type 0) (b : BookView) → All P (orders b) → All (λ s. P s.order) b.slots
slots-hold P b all k d h =
    let within : k < length (orders b) = omega (arith, length-map b.slots (λ s. s.order), h) in
    subst P (get_or-map (λ s. s.order) b.slots k d d.order h) (all k d.order within)

-- a book that awaits an order takes it in with what it has left
pub still-fresh : (grid : List Price) (o : Order) (old new : BookView) (left : ℕ) → IsFresh old o → length grid ≡ old.prices → Awaits grid o new → 0 < left → left ≤ o.left → IsFresh new (with_left o left)
still-fresh grid o old new left fresh size awaits some within =
    let most : o.left ≤ 100000000 = fresh.limit in
    record {
      last = slots-hold (λ x. x.place < o.place) new awaits.earlier;
      pair = slots-hold (λ x. is_of o.caller o.own x ≡ false) new awaits.others;
      room = awaits.room;
      some = some;
      limit = omega arith;
      spot = subst (λ n. IsSpotBelow n o.spot) (sym size ∙ awaits.size) fresh.spot;
    }

-- a book without market orders that is fresh for an order awaits it
pub awaits-fresh : (grid : List Price) (o : Order) (b : BookView) → IsFresh b o → length grid ≡ b.prices → IsTrue (is_calm grid (orders b)) → Awaits grid o b
awaits-fresh grid o b fresh size calm =
    record {
      size = size;
      limited = All-from_recursion (λ x. is_some (limit_of grid x.spot) ≡ true) (orders b) (calm-limited grid (orders b) calm);
      earlier = All-map (λ x. x.place < o.place) (λ s. s.order) b.slots fresh.last;
      others = All-map (λ x. is_of o.caller o.own x ≡ false) (λ s. s.order) b.slots fresh.pair;
      room = fresh.room;
    }
