-- The fields of an issue's book with another book or another last price.
use Rattle.std.proofs.Common.{◌≡◌, ℕ, ◌%◌, ◌<◌, ◌≤◌, Bool, true, false, cond, IsTrue, List, length, map, get_or, ap, sym, refl, subst, ◌∙◌, arith}
use Rattle.std.specs.List.{All, AllPairs}
use Rattle.std.proofs.lemmas.List.{get_or-map, length-map}
use Rattle.std.proofs.lemmas.List.Elements.{All-map, All-weaker}
use Rattle.mkt_base.specs.Book.{IsRising, price_at}
use Rattle.mkt_base.specs.declared.order.Order.{Order}
use Rattle.mkt_base.specs.declared.order.Side.{Side}
use Rattle.mkt_base.specs.declared.units.Caller.{Caller}
use Rattle.mkt_base.specs.Fills.{after_trades}
use Rattle.itayose.specs.Fills.{allotted_fills, auction_fills, is_longer, limit_position}
use Rattle.itayose.specs.Laws.{IsClosing, IsSettling, IsShareable}
use Rattle.itayose.specs.declared.margin.Margin.{Margin}
use Rattle.issue_book.specs.Fills.{fills_at, shared_out}
use Rattle.auction_law.specs.Attempt.{IsAuction, is_calm, meets}
use Rattle.book_law.specs.BookView.{BookView, IsBookView, IsFresh, IsSpotBelow, Slot, is_of, orders, slot_of}
use Rattle.book_law.specs.Laws.{IsBookOn}
use Rattle.book_law.proofs.FrontLemmas.{orders-below, orders-left, orders-rising}
use Rattle.order_book.proofs.PlainLemmas.{All-unmap}
use Rattle.tick_grid.specs.Rows.{band_of}
use Rattle.zaraba.specs.Arrival.{Arrival, arrival, book_after}
use Rattle.zaraba.specs.Laws.{IsArriving, TradesStand}
use Rattle.itayose.proofs.SumLemmas.{orders-on_grid}
use Rattle.issue_book.specs.Entering.{lowered}
use Rattle.issue_book.specs.Fields.{AreFields, IsInUnits, state_in, terms_in, view_of}
use Rattle.issue_book.specs.IssueView.{IsIssue, IssueView, MayEnter, in_state}
use Rattle.issue_book.proofs.UnitLemmas.{arrived-units}
use Rattle.issue_book.specs.declared.issue.IssueBook.TheInside.{Inside}

module _ (f : Inside) (b : BookView) where
  -- what holds of the fields still holds where the book is as large and its orders have whole units
  pub keeps : AreFields f → b.prices ≡ f.book.prices → All (IsInUnits f.unit) (orders b) → AreFields (record f { book = b })
  keeps h same units = record { terms = h.terms; size = h.size ∙ sym same; units = units; last = h.last; nodes = h.nodes }

  pub keeps-at : (l : ℕ) → AreFields f → b.prices ≡ f.book.prices → All (IsInUnits f.unit) (orders b) → l < length f.grid → AreFields (record f { book = b; last = l })
  keeps-at l h same units inside = record { terms = h.terms; size = h.size ∙ sym same; units = units; last = inside; nodes = h.nodes }

  -- the fields with the other book are seen as the same in the state with its orders
  seen : (g : List Order → List Order) → orders b ≡ g (orders f.book) → b.capacity ≡ f.book.capacity
      → view_of (record f { book = b }) ≡ in_state (record (state_in f) { orders = g (orders f.book) }) (view_of f)
  seen g e same =
      ap {A = ℕ} {B = IssueView} (λ n. record { terms = terms_in f; capacity = n; state = record (state_in f) { orders = orders b } }) same
      ∙ ap {A = List Order} {B = IssueView} (λ os. record { terms = terms_in f; capacity = f.book.capacity; state = record (state_in f) { orders = os } }) e

  pub seen-as : (v : IssueView) (g : List Order → List Order) → view_of f ≡ v → orders b ≡ g (orders f.book) → b.capacity ≡ f.book.capacity
      → view_of (record f { book = b }) ≡ in_state (record v.state { orders = g v.state.orders }) v
  seen-as v g e h same = subst (λ w. view_of (record f { book = b }) ≡ in_state (record w.state { orders = g w.state.orders }) w) e (seen g h same)

  -- the other book is calm where the first is, as its orders become so
  pub calm-seen : (v : IssueView) (g : List Order → List Order) → view_of f ≡ v → orders b ≡ g (orders f.book)
      → ((os : List Order) → IsTrue (is_calm f.grid os) → IsTrue (is_calm f.grid (g os)))
      → IsTrue (is_calm v.terms.grid v.state.orders) → IsTrue (is_calm v.terms.grid (orders b))
  calm-seen v g e h stays calm =
      subst (λ w. IsTrue (is_calm w.terms.grid (orders b))) e
      (subst (λ os. IsTrue (is_calm f.grid os)) (sym h) (stays (orders f.book) (subst (λ w. IsTrue (is_calm w.terms.grid w.state.orders)) (sym e) calm)))

-- lowered to whole units, orders of whole units are such
pub lowered-units : (unit : ℕ) (caller : Caller) (own qty : ℕ) (os : List Order) → qty % unit ≡ 0 → All (IsInUnits unit) os → All (IsInUnits unit) (map (lowered caller own qty) os)
lowered-units unit caller own qty os whole all =
    All-map (IsInUnits unit) (lowered caller own qty) os
    (All-weaker (IsInUnits unit) (λ o. IsInUnits unit (lowered caller own qty o)) (λ o h. record { units = step (is_of caller own o) o.left h.units; participant = h.participant }) os all)
  where
    step : (b : Bool) (left : ℕ) → left % unit ≡ 0 → cond {A = ℕ} b qty left % unit ≡ 0
    step true left h = whole
    step false left h = h

-- pairs of orders behind their slots
pairs-of : (R : Order → Order → Type 0) (ss : List Slot) → AllPairs (λ s t. R s.order t.order) ss → AllPairs R (map (λ s. s.order) ss)
pairs-of R ss all i j d h k =
    let within : j < length ss = omega (arith, length-map ss (λ s. s.order), k) in
    let first = get_or-map (λ s. s.order) ss i (slot_of 0 d) d (omega arith) in
    let second = get_or-map (λ s. s.order) ss j (slot_of 0 d) d within in
    rw (first, second) (all i j (slot_of 0 d) h within)

module _ (f : Inside) where
  -- what holds of every issue's book, where its fields keep what they have to
  pub stands-as : IsBookView f.book → AreFields f → f.clock < 86400000 → IsIssue (view_of f)
  stands-as book h now =
      let left = All-map (λ o. 1 ≤ o.left) (λ s. s.order) f.book.slots book.some in
      let limit = All-map (λ o. o.left ≤ 100000000) (λ s. s.order) f.book.slots book.limit in
      let spots = All-map (λ o. IsSpotBelow f.book.prices o.spot) (λ s. s.order) f.book.slots book.spots in
      record {
        terms = h.terms;
        few = omega (arith, length-map f.book.slots (λ s. s.order), book.few);
        by_place = pairs-of (λ a b. a.place < b.place) f.book.slots book.by_place;
        pairs = pairs-of (λ a b. is_of a.caller a.own b ≡ false) f.book.slots book.pairs;
        taken = λ k d i. record {
          some = left k d i;
          limit = limit k d i;
          units = (h.units k d i).units;
          spot = subst (λ n. IsSpotBelow n (get_or (orders f.book) k d).spot) (sym h.size) (spots k d i);
          participant = (h.units k d i).participant;
        };
        last = (f.last, h.last, refl);
        now = now;
      }

  -- an order that may enter is one that the book may take in
  pub enters-fresh : (o : Order) → AreFields f → MayEnter (view_of f) o → IsFresh f.book o
  enters-fresh o h may =
      let room : length (orders f.book) < f.book.capacity = may.room in
      record {
        last = All-unmap (λ x. x.place < o.place) (λ s. s.order) f.book.slots may.last;
        pair = All-unmap (λ x. is_of o.caller o.own x ≡ false) (λ s. s.order) f.book.slots may.pair;
        room = omega (arith, length-map f.book.slots (λ s. s.order));
        some = may.taken.some;
        limit = may.taken.limit;
        spot = subst (λ n. IsSpotBelow n o.spot) h.size may.taken.spot;
      }

  -- the book is one over the grid
  pub book-on : IsBookView f.book → AreFields f → IsBookOn (length f.grid) (orders f.book)
  book-on book h =
      record {
        book = record { by_place = orders-rising f.book book; left = orders-left f.book book };
        spots = subst (λ n. All (λ o. IsSpotBelow n o.spot) (orders f.book)) (sym h.size) (orders-below f.book book);
      }

  -- an order that may enter arrives at it
  pub arriving : (o : Order) → IsBookView f.book → AreFields f → IsRising f.grid → MayEnter (view_of f) o → IsArriving f.grid (orders f.book) o
  arriving o book h rising may = record { rising = rising; book = book-on book h; later = may.last }

  pub arrives : (o : Order) → IsBookView f.book → AreFields f → IsRising f.grid → MayEnter (view_of f) o → TradesStand
      → let a : Arrival = arrival f.grid (band_of f.ranges) (orders f.book) o (price_at f.grid f.last) in All (IsInUnits f.unit) (book_after a (orders f.book) o)
  arrives o book h rising may law =
      let a : Arrival = arrival f.grid (band_of f.ranges) (orders f.book) o (price_at f.grid f.last) in
      let whole = (law f.grid (band_of f.ranges) (orders f.book) o (price_at f.grid f.last) (arriving o book h rising may)).1 f.unit h.terms.unit.0
      (All-weaker (IsInUnits f.unit) (λ x. x.left % f.unit ≡ 0) (λ x u. u.units) (orders f.book) h.units) may.taken.units in
      arrived-units f.unit a (orders f.book) o whole.0 whole.1 may.taken.participant h.units

  -- the book and the last price after the fills of an auction
  pub seen-filled : (b : BookView) (v : IssueView) (margin : Margin) (l : ℕ) → view_of f ≡ v
      → orders b ≡ after_trades (auction_fills f.grid (orders f.book) (price_at f.grid l) margin f.rounds f.unit).trades (orders f.book) → b.capacity ≡ f.book.capacity
      → view_of (record f { book = b; last = l }) ≡ in_state (fills_at v.terms margin (price_at v.terms.grid l) v.state).state v
  seen-filled b v margin l e h same =
      subst (λ w. view_of (record f { book = b; last = l }) ≡ in_state (fills_at w.terms margin (price_at w.terms.grid l) w.state).state w) e
      (ap {A = ℕ} {B = IssueView} (λ n. record { terms = terms_in f; capacity = n; state = record (state_in f) { orders = orders b; last = price_at f.grid l } }) same
      ∙ ap {A = List Order} {B = IssueView} (λ os. record { terms = terms_in f; capacity = f.book.capacity; state = record (state_in f) { orders = os; last = price_at f.grid l } }) h)

  -- an auction on the book at a price that meets the conditions
  pub settling : (l : ℕ) → IsBookView f.book → AreFields f → IsRising f.grid → IsTrue (meets f.grid (orders f.book) (price_at f.grid l)) → IsSettling f.grid (orders f.book) (price_at f.grid l)
  settling l book h rising met = record { rising = rising; book = book-on book h; met = met }

  -- what is left of each order is in whole units, and its participant is numbered below 64
  pub whole-left : AreFields f → All (λ o. o.left % f.unit ≡ 0) (orders f.book)
  whole-left h = All-weaker (IsInUnits f.unit) (λ o. o.left % f.unit ≡ 0) (λ o u. u.units) (orders f.book) h.units

  pub of-participants : AreFields f → All (λ o. o.participant.0 < 64) (orders f.book)
  of-participants h = All-weaker (IsInUnits f.unit) (λ o. o.participant.0 < 64) (λ o u. u.participant) (orders f.book) h.units

  -- an attempt on the book over a window
  pub auction : (reference lo hi : ℕ) → IsBookView f.book → AreFields f → IsRising f.grid → lo ≤ reference → reference ≤ hi → hi < length f.grid → IsAuction f.grid (orders f.book) reference lo hi
  auction reference lo hi book h rising from to inside =
      record { rising = rising; on_grid = orders-on_grid f.book f.grid book h.size; left = orders-left f.book book; from_lo = from; to_hi = to; in_range = inside }

  -- the book and the last price after an allotted close
  pub seen-shared : (b : BookView) (v : IssueView) (side : Side) (l : ℕ) → view_of f ≡ v → l ≡ limit_position f.grid side
      → orders b ≡ after_trades (allotted_fills f.grid (orders f.book) side f.rounds f.unit).trades (orders f.book) → b.capacity ≡ f.book.capacity
      → view_of (record f { book = b; last = l }) ≡ in_state (shared_out v.terms side v.state).state v
  seen-shared b v side l e at h same =
      subst (λ w. view_of (record f { book = b; last = l }) ≡ in_state (shared_out w.terms side w.state).state w) e
      (ap {A = ℕ} {B = IssueView} (λ n. record { terms = terms_in f; capacity = n; state = record (state_in f) { orders = orders b; last = price_at f.grid l } }) same
      ∙ ap {A = List Order} {B = IssueView} (λ os. record { terms = terms_in f; capacity = f.book.capacity; state = record (state_in f) { orders = os; last = price_at f.grid l } }) h
      ∙ ap {A = ℕ} {B = IssueView} (λ n. record { terms = terms_in f; capacity = f.book.capacity; state = record (state_in f) { orders = after_trades (allotted_fills f.grid (orders f.book) side f.rounds f.unit).trades (orders f.book); last = price_at f.grid n } }) at)

  -- an allotment among the orders of the book
  pub shareable : AreFields f → IsShareable f.rounds f.unit (orders f.book)
  shareable h = record { accepted = h.terms.rounds; some = h.terms.unit.0; units = whole-left h; participants = of-participants h }

  -- an allotted close
  pub closing : (side : Side) → IsBookView f.book → AreFields f → IsRising f.grid → IsTrue (is_longer f.grid (orders f.book) (price_at f.grid (limit_position f.grid side)) side)
      → IsClosing f.grid (orders f.book) side
  closing side book h rising presses = record { rising = rising; book = book-on book h; presses = presses }
