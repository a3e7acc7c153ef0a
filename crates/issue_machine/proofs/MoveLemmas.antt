-- What moves keep: the orders that stand after one stood before it or entered on it, with another quantity.
use Rattle.std.proofs.Common.{◌≡◌, ℕ, zero, suc, Bool, true, false, cond, not, ltb, ◌&&◌, List, [], ◌∷◌, map, All, Option, None, Some, refl, ◌∙◌}
use Rattle.std.specs.Option.{IfSome, unwrap_or}
use Rattle.std.proofs.lemmas.List.Elements.{All-append, All-cons, All-filter, All-map, All-nil, All-weaker}
use Rattle.mkt_base.specs.Fills.{after_trades, less_traded}
use Rattle.mkt_base.specs.Priority.{is_same_spot}
use Rattle.mkt_base.specs.declared.auction.Outcome.{Outcome}
use Rattle.mkt_base.specs.declared.auction.Outcome.TheVariants.{Traded, Calm, Pressed}
use Rattle.mkt_base.specs.declared.auction.Trade.{Trade}
use Rattle.mkt_base.specs.declared.event.Entry.{Entry}
use Rattle.mkt_base.specs.declared.event.Phase.{Phase}
use Rattle.mkt_base.specs.declared.event.Phase.TheVariants.{Idle, Collecting, Trading}
use Rattle.mkt_base.specs.declared.event.Reason.{Reason}
use Rattle.mkt_base.specs.declared.order.Kind.{Kind}
use Rattle.mkt_base.specs.declared.order.Order.{Order}
use Rattle.mkt_base.specs.declared.order.Side.{Side}
use Rattle.mkt_base.specs.declared.order.Spot.{Spot}
use Rattle.mkt_base.specs.declared.order.Spot.TheVariants.{Market}
use Rattle.mkt_base.specs.declared.quote.Quote.{Quote}
use Rattle.mkt_base.specs.declared.units.Caller.{Caller}
use Rattle.mkt_base.specs.declared.units.Participant.{Participant}
use Rattle.mkt_base.specs.declared.units.Qty.{Qty}
use Rattle.itayose.specs.declared.margin.Margin.{Margin}
use Rattle.itayose.specs.declared.margin.Margin.TheVariants.{Time}
use Rattle.session_phase.specs.declared.session.Boundary.{Boundary}
use Rattle.session_phase.specs.declared.session.Boundary.TheVariants.{Accept, Begin, Finish}
use Rattle.zaraba.specs.Arrival.{Arrival, rest_of}
use Rattle.zaraba.specs.declared.stop.Stop.{Stop}
use Rattle.zaraba.specs.declared.stop.Stop.TheVariants.{Done, Gap, Sequence}
use Rattle.book_law.specs.BookView.{is_of}
use Rattle.issue_book.specs.Entering.{arrival_at, arrive, arrived, enter, join, lower, lowered, named, quote_for, spot_of, take_out, trades_now}
use Rattle.issue_book.specs.Quoting.{Tried, answer_at, due_by, fill, held, is_trading, presses, serve, tried, tried_by, try_if_shown, try_quote}
use Rattle.issue_book.specs.Sessions.{around_last, at_boundary, close_fills, close_trading, close_window, closed_by, end_shown, is_allotted, open_trading, opened, quote_pressed, step_at}
use Rattle.issue_book.specs.State.{Move, State, Terms, stay, ◌then◌}
use Rattle.issue_machine.specs.Answering.{Replied, accepted, bad_price, bad_qty, cancel_named, change_named, change_to, closed, first_reason, not_yours, order_of, take_cancel, take_change, take_order, unknown, unless}
use Rattle.issue_machine.proofs.OrderLemmas.{named-has}

-- what holds of two moves holds of one of them
pub of-either : {A : Type 0} (Q : A → Type 0) (b : Bool) (m n : A) → Q m → Q n → Q (cond b m n)
of-either Q true m n h k = h
of-either Q false m n h k = k

-- the phase behind a boundary
abbrev pub phase_after : Boundary → Phase
phase_after Accept = Collecting
phase_after Begin = Trading
phase_after Finish = Idle

module _ (P : Order → Type 0) (keyed : (o : Order) (left : ℕ) → P o → P (record o { left = left })) where
  -- phase, clock and number of entries stay, and what held of all orders holds of all that stand then
  pub record Keeps (s u : State) : Type 0 where
    pub phase : u.phase ≡ s.phase
    pub now : u.now ≡ s.now
    pub entries : u.entries ≡ s.entries
    pub nodes : u.nodes ≡ s.nodes
    pub orders : All P s.orders → All P u.orders

  pub keeps-same : (s : State) → Keeps s s
  keeps-same s = record { phase = refl; now = refl; entries = refl; nodes = refl; orders = λ h. h }

  pub keeps-then : (s u w : State) → Keeps s u → Keeps u w → Keeps s w
  keeps-then s u w h k = record {
    phase = k.phase ∙ h.phase;
    now = k.now ∙ h.now;
    entries = k.entries ∙ h.entries;
    nodes = k.nodes ∙ h.nodes;
    orders = λ all. k.orders (h.orders all);
  }

  pub all-traded : (ts : List Trade) (os : List Order) → All P os → All P (after_trades ts os)
  unfolding after_trades
  all-traded ts os all =
      All-filter (λ o. ltb 0 o.left) P (map (less_traded ts) os) (All-map P (less_traded ts) os (All-weaker P (λ o. P (less_traded ts o)) (λ o h. keyed o (less_traded ts o).left h) os all))

  -- ---- auctions

  pub fill-keeps : (t : Terms) (margin : Margin) (outcome : Outcome) (s : State) → Keeps s (fill t margin outcome s).state
  fill-keeps t margin (Traded volume sums) s = record { phase = refl; now = refl; entries = refl; nodes = refl; orders = λ all. all-traded _ s.orders all }
  fill-keeps t margin (Calm bid ask) s = keeps-same s
  fill-keeps t margin (Pressed side price pressing facing) s = keeps-same s

  pub held-keeps : (t : Terms) (w : Tried) (outcome : Outcome) (s : State) → Keeps s (held t w outcome s).state
  held-keeps t w outcome s = fill-keeps t Time outcome s

  pub shown-keeps : (s u : State) (q : Option Quote) → Keeps s u → Keeps s (record u { quote = q })
  shown-keeps s u q h = record { phase = h.phase; now = h.now; entries = h.entries; nodes = h.nodes; orders = h.orders }

  tried-keeps : (t : Terms) (q : Quote) (w : Tried) (s : State) (outcome : Outcome) → Keeps s (tried t q w s outcome).state
  tried-keeps t q w s outcome =
      of-either (λ (m : Move). Keeps s m.state) (presses q.side outcome) (stay s) _ (keeps-same s) (shown-keeps s (held t w outcome s).state _ (held-keeps t w outcome s))

  if_shown-keeps : (t : Terms) (q : Option Quote) (s : State) → Keeps s (try_if_shown t q s).state
  if_shown-keeps t None s = keeps-same s
  if_shown-keeps t (Some q) s = tried-keeps t q (tried_by t q s) s (answer_at t (tried_by t q s) s)

  pub try_quote-keeps : (t : Terms) (s : State) → Keeps s (try_quote t s).state
  try_quote-keeps t s = of-either (λ (m : Move). Keeps s m.state) (is_trading s.phase) (try_if_shown t s.quote s) (stay s) (if_shown-keeps t s.quote s) (keeps-same s)

  pub serve-keeps : (t : Terms) (q : Quote) (s : State) → Keeps s (serve t q s).state
  serve-keeps t q s = shown-keeps s (held t (due_by t q s) (answer_at t (due_by t q s) s) s).state _ (held-keeps t (due_by t q s) (answer_at t (due_by t q s) s) s)

  -- ---- orders

  rest-all : (o : Order) (left : ℕ) → P o → All P (rest_of o left)
  rest-all o zero h = All-nil P
  rest-all o (suc left) h = All-cons P (record o { left = suc left }) [] (keyed o (suc left) h) (All-nil P)

  arrived-keeps : (o : Order) (s : State) (a : Arrival) → P o → Keeps s (arrived o s a).state
  arrived-keeps o s a h =
      record { phase = refl; now = refl; entries = refl; nodes = refl; orders = λ all. All-append P (after_trades a.trades s.orders) (rest_of o a.left) (all-traded a.trades s.orders all) (rest-all o a.left h) }

  quote_for-keeps : (t : Terms) (first : ℕ) (stop : Stop) (s : State) → Keeps s (quote_for t first stop s).state
  quote_for-keeps t first Done s = keeps-same s
  quote_for-keeps t first (Gap side) s = shown-keeps s s _ (keeps-same s)
  quote_for-keeps t first (Sequence side) s = shown-keeps s s _ (keeps-same s)

  arrive-keeps : (t : Terms) (o : Order) (s : State) → P o → Keeps s (arrive t o s).state
  arrive-keeps t o s h =
      let a : Arrival = arrival_at t o s in
      let u : State = (arrived o s a).state in
      keeps-then s u (quote_for t s.last a.stop u).state (arrived-keeps o s a h) (quote_for-keeps t s.last a.stop u)

  join-keeps : (o : Order) (s : State) → P o → Keeps s (join o s).state
  join-keeps o s h =
      record { phase = refl; now = refl; entries = refl; nodes = refl; orders = λ all. All-append P s.orders (o ∷ []) all (All-cons P o [] h (All-nil P)) }

  pub enter-keeps : (t : Terms) (o : Order) (s : State) → P o → Keeps s (enter t o s).state
  enter-keeps t o s h = of-either (λ (m : Move). Keeps s m.state) (trades_now s) (arrive t o s) (join o s) (arrive-keeps t o s h) (join-keeps o s h)

  pub take_out-keeps : (caller : Caller) (own : ℕ) (s : State) → Keeps s (take_out caller own s)
  take_out-keeps caller own s =
      record { phase = refl; now = refl; entries = refl; nodes = refl; orders = λ all. All-filter (λ o. not (is_of caller own o)) P s.orders all }

  pub lower-keeps : (caller : Caller) (own qty : ℕ) (s : State) → Keeps s (lower caller own qty s)
  lower-keeps caller own qty s = record {
    phase = refl;
    now = refl;
    entries = refl;
    nodes = refl;
    orders = λ all. All-map P (lowered caller own qty) s.orders (All-weaker P (λ o. P (lowered caller own qty o)) (λ o h. keyed o (lowered caller own qty o).left h) s.orders all);
  }

  -- ---- boundaries

  pub record KeepsBook (s u : State) : Type 0 where
    pub entries : u.entries ≡ s.entries
    pub nodes : u.nodes ≡ s.nodes
    pub orders : All P s.orders → All P u.orders

  pub book-of : (s u : State) → Keeps s u → KeepsBook s u
  book-of s u h = record { entries = h.entries; nodes = h.nodes; orders = h.orders }

  pub close_fills-keeps : (t : Terms) (outcome : Outcome) (s : State) → Keeps s (close_fills t outcome s).state
  close_fills-keeps t (Traded volume sums) s = fill-keeps t _ (Traded volume sums) s
  close_fills-keeps t (Calm bid ask) s = keeps-same s
  close_fills-keeps t (Pressed side price pressing facing) s =
      of-either (λ (m : Move). Keeps s m.state) (is_allotted t side price.0 s) _ (stay s) (record { phase = refl; now = refl; entries = refl; nodes = refl; orders = λ all. all-traded _ s.orders all }) (keeps-same s)

  end_shown-keeps : (q : Option Quote) (s : State) → Keeps s (end_shown q s).state
  end_shown-keeps None s = keeps-same s
  end_shown-keeps (Some q) s = shown-keeps s s None (keeps-same s)

  closed_by-keeps : (t : Terms) (w : Tried) (s : State) (outcome : Outcome) → Keeps s (closed_by t w s outcome).state
  closed_by-keeps t w s outcome =
      let u : State = (close_fills t outcome s).state in
      keeps-then s u (end_shown u.quote u).state (close_fills-keeps t outcome s) (end_shown-keeps u.quote u)

  pressed-keeps : (t : Terms) (outcome : Outcome) (s : State) → Keeps s (quote_pressed t outcome s).state
  pressed-keeps t (Traded volume sums) s = keeps-same s
  pressed-keeps t (Calm bid ask) s = keeps-same s
  pressed-keeps t (Pressed side price pressing facing) s = shown-keeps s s _ (keeps-same s)

  opened-keeps : (t : Terms) (w : Tried) (s : State) (outcome : Outcome) → Keeps s (opened t w s outcome).state
  opened-keeps t w s outcome =
      let u : State = (held t w outcome s).state in
      keeps-then s u (quote_pressed t outcome u).state (held-keeps t w outcome s) (pressed-keeps t outcome u)

  -- after a boundary: its phase, its moment, and the book
  pub record WasBoundary (at : ℕ) (boundary : Boundary) (s u : State) : Type 0 where
    pub phase : u.phase ≡ phase_after boundary
    pub now : u.now ≡ at
    pub book : KeepsBook s u

  pub boundary-keeps : (t : Terms) (at : ℕ) (boundary : Boundary) (s : State) → WasBoundary at boundary s (step_at at (at_boundary t boundary) s).state
  boundary-keeps t at Accept s = record { phase = refl; now = refl; book = record { entries = refl; nodes = refl; orders = λ h. h } }
  boundary-keeps t at Begin s =
      let u : State = record s { now = at; phase = Trading } in
      let h : Keeps u (open_trading t u).state = opened-keeps t (around_last t u) u (answer_at t (around_last t u) u) in
      record { phase = h.phase; now = h.now; book = record { entries = h.entries; nodes = h.nodes; orders = h.orders } }
  boundary-keeps t at Finish s =
      let u : State = record s { now = at } in
      let h : Keeps u (close_trading t u).state = closed_by-keeps t (close_window t u.quote u) u (answer_at t (close_window t u.quote u) u) in
      record { phase = refl; now = h.now; book = record { entries = h.entries; nodes = h.nodes; orders = h.orders } }

  pub record WasServed (at : ℕ) (s u : State) : Type 0 where
    pub phase : u.phase ≡ s.phase
    pub now : u.now ≡ at
    pub book : KeepsBook s u

  pub served-keeps : (t : Terms) (at : ℕ) (q : Quote) (s : State) → WasServed at s (step_at at (serve t q) s).state
  served-keeps t at q s =
      let u : State = record s { now = at } in
      let h : Keeps u (serve t q u).state = serve-keeps t q u in
      record { phase = h.phase; now = h.now; book = record { entries = h.entries; nodes = h.nodes; orders = h.orders } }

  -- ---- events

  pub refused-keeps : (why : Option Reason) (s : State) (r : Replied) → Keeps s r.move.state → Keeps s (unless why s r).move.state
  refused-keeps None s r h = h
  refused-keeps (Some reason) s r h = keeps-same s

  module _ (e : Entry) (fresh : (participant : Participant) (side : Side) (spot : Spot) (qty : ℕ) → P (order_of e participant side spot qty)) where
    pub take_order-keeps : (t : Terms) (participant : Participant) (side : Side) (kind : Kind) (qty : Qty) (s : State) → Keeps s (take_order t e participant side kind qty s).move.state
    take_order-keeps t participant side kind qty s =
        let o : Order = order_of e participant side (unwrap_or (spot_of t kind) Market) qty.0 in
        let u : State = (enter t o s).state in
        refused-keeps (first_reason (closed s ∷ bad_qty t qty ∷ bad_price t kind ∷ [])) s (accepted o (enter t o s then try_quote t))
        (keeps-then s u (try_quote t u).state (enter-keeps t o s (fresh participant side (unwrap_or (spot_of t kind) Market) qty.0)) (try_quote-keeps t u))

-- ---- changes and cancellations, which speak of an order of the book

-- what holds of each order
abbrev pub OfEach : Order → Type 0
OfEach o = Unit {0}

pub of-each : (o : Order) (left : ℕ) → OfEach o → OfEach (record o { left = left })
of-each o left h = tt

-- the same kept by what happens to an order of which it is known only where it is known of all
plainly : (P : Order → Type 0) (keyed : (o : Order) (left : ℕ) → P o → P (record o { left = left })) (s u : State) → Keeps OfEach of-each s u → (All P s.orders → Keeps P keyed s u) → Keeps P keyed s u
plainly P keyed s u h k = record { phase = h.phase; now = h.now; entries = h.entries; nodes = h.nodes; orders = λ all. (k all).orders all }

module _ (P : Order → Type 0) (keyed : (o : Order) (left : ℕ) → P o → P (record o { left = left })) (e : Entry) (anew : (o : Order) (spot : Spot) (qty : ℕ) → P o → P (record o { place = e.place; spot = spot; left = qty })) where
  again-keeps : (t : Terms) (o : Order) (spot : Spot) (qty : ℕ) (s : State) → P o
      → Keeps P keyed s (enter t (record o { place = e.place; spot = spot; left = qty }) (take_out o.caller o.own s) then try_quote t).state
  again-keeps t o spot qty s h =
      let u : State = take_out o.caller o.own s in
      let w : State = (enter t (record o { place = e.place; spot = spot; left = qty }) u).state in
      keeps-then P keyed s u (try_quote t w).state (take_out-keeps P keyed o.caller o.own s)
      (keeps-then P keyed u w (try_quote t w).state (enter-keeps P keyed t (record o { place = e.place; spot = spot; left = qty }) u (anew o spot qty h)) (try_quote-keeps P keyed t w))

  change_to-keeps : (t : Terms) (spot : Spot) (qty : ℕ) (o : Order) (s : State) → P o → Keeps P keyed s (change_to t e spot qty o s).move.state
  change_to-keeps t spot qty o s h =
      let less : State = lower o.caller o.own qty s in
      of-either (λ (r : Replied). Keeps P keyed s r.move.state) (is_same_spot spot o.spot && ltb qty o.left) _ _
      (keeps-then P keyed s less (try_quote t less).state (lower-keeps P keyed o.caller o.own qty s) (try_quote-keeps P keyed t less)) (again-keeps t o spot qty s h)

  change_named-keeps : (t : Terms) (spot : Spot) (qty : ℕ) (found : Option Order) (s : State) → IfSome found P → Keeps P keyed s (change_named t e spot qty found s).move.state
  change_named-keeps t spot qty None s h = keeps-same P keyed s
  change_named-keeps t spot qty (Some o) s h = change_to-keeps t spot qty o s h

  pub take_change-by : (t : Terms) (participant : Participant) (target : ℕ) (kind : Kind) (qty : Qty) (s : State) → IfSome (named e.caller target s) P
      → Keeps P keyed s (take_change t e participant target kind qty s).move.state
  take_change-by t participant target kind qty s h =
      let found : Option Order = named e.caller target s in
      let spot : Spot = unwrap_or (spot_of t kind) Market in
      refused-keeps P keyed (first_reason (closed s ∷ bad_qty t qty ∷ bad_price t kind ∷ unknown target found ∷ not_yours participant found ∷ [])) s (change_named t e spot qty.0 found s)
      (change_named-keeps t spot qty.0 found s h)

  cancel_named-keeps : (t : Terms) (found : Option Order) (s : State) → Keeps P keyed s (cancel_named t e found s).move.state
  cancel_named-keeps t None s = keeps-same P keyed s
  cancel_named-keeps t (Some o) s =
      let u : State = take_out o.caller o.own s in
      keeps-then P keyed s u (try_quote t u).state (take_out-keeps P keyed o.caller o.own s) (try_quote-keeps P keyed t u)

  pub take_cancel-keeps : (t : Terms) (participant : Participant) (target : ℕ) (s : State) → Keeps P keyed s (take_cancel t e participant target s).move.state
  take_cancel-keeps t participant target s =
      let found : Option Order = named e.caller target s in
      refused-keeps P keyed (first_reason (closed s ∷ unknown target found ∷ not_yours participant found ∷ [])) s (cancel_named t e found s) (cancel_named-keeps t found s)

-- what holds of all orders holds of one that is looked for
of-named : (P : Order → Type 0) (caller : Caller) (own : ℕ) (s : State) → All P s.orders → IfSome (named caller own s) P
of-named P caller own s all = step (named caller own s) refl
  where
    step : (found : Option Order) → named caller own s ≡ found → IfSome found P
    step None e = tt
    step (Some o) e = named-has P caller own s o all e

if-each : (found : Option Order) → IfSome found OfEach
if-each None = tt
if-each (Some o) = tt

-- a change keeps what holds of all orders, and of the changed one where it held of it
pub take_change-keeps : (P : Order → Type 0) (keyed : (o : Order) (left : ℕ) → P o → P (record o { left = left })) (e : Entry) (anew : (o : Order) (spot : Spot) (qty : ℕ) → P o → P (record o { place = e.place; spot = spot; left = qty }))
    → (t : Terms) (participant : Participant) (target : ℕ) (kind : Kind) (qty : Qty) (s : State) → Keeps P keyed s (take_change t e participant target kind qty s).move.state
take_change-keeps P keyed e anew t participant target kind qty s =
    plainly P keyed s (take_change t e participant target kind qty s).move.state
    (take_change-by OfEach of-each e (λ o spot left h. tt) t participant target kind qty s (if-each (named e.caller target s)))
    (λ all. take_change-by P keyed e anew t participant target kind qty s (of-named P e.caller target s all))
