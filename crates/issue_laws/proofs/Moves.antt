-- What the moves of an issue trade is what its orders lose, by every measure by which this holds of auctions and arrivals.
use Rattle.std.proofs.Common.{◌≡◌, ℕ, zero, suc, ◌+◌, ◌<◌, Bool, true, false, cond, ltb, ◌&&◌, List, [], ◌∷◌, ◌++◌, length, Option, Some, None, refl, ap, arith}
use Rattle.std.specs.Option.{unwrap_or}
use Rattle.std.proofs.lemmas.List.Elements.{filter_map-append}
use Rattle.mkt_base.specs.Fills.{after_trades}
use Rattle.mkt_base.specs.Priority.{is_same_spot}
use Rattle.mkt_base.specs.declared.auction.Outcome.{Outcome}
use Rattle.mkt_base.specs.declared.auction.Outcome.TheVariants.{Traded, Calm, Pressed}
use Rattle.mkt_base.specs.declared.auction.Trade.{Trade}
use Rattle.mkt_base.specs.declared.event.Entry.{Entry}
use Rattle.mkt_base.specs.declared.event.Event.{Event}
use Rattle.mkt_base.specs.declared.event.Event.TheVariants as events
use Rattle.mkt_base.specs.declared.event.Phase.{Phase}
use Rattle.mkt_base.specs.declared.event.Phase.TheVariants.{Idle, Collecting, Trading}
use Rattle.mkt_base.specs.declared.event.Reason.{Reason}
use Rattle.mkt_base.specs.declared.event.Reason.TheVariants.{TimeBack}
use Rattle.mkt_base.specs.declared.order.Kind.{Kind}
use Rattle.mkt_base.specs.declared.order.Order.{Order}
use Rattle.mkt_base.specs.declared.order.Side.{Side}
use Rattle.mkt_base.specs.declared.order.Spot.{Spot}
use Rattle.mkt_base.specs.declared.order.Spot.TheVariants.{Market}
use Rattle.mkt_base.specs.declared.quote.Quote.{Quote}
use Rattle.mkt_base.specs.declared.units.Participant.{Participant}
use Rattle.mkt_base.specs.declared.units.Qty.{Qty}
use Rattle.book_law.specs.BookView.{IsSpotBelow}
use Rattle.itayose.specs.Fills.{Settlement, allotted_fills, auction_fills}
use Rattle.itayose.specs.declared.margin.Margin.{Margin}
use Rattle.itayose.specs.declared.margin.Margin.TheVariants.{Time}
use Rattle.quote_law.specs.Quotes.{after_event, at_due, opposite}
use Rattle.session_phase.specs.declared.session.Boundary.{Boundary}
use Rattle.session_phase.specs.declared.session.Boundary.TheVariants.{Accept, Begin, Finish}
use Rattle.zaraba.specs.Arrival.{opposite as facing, book_after}
use Rattle.zaraba.specs.declared.stop.Stop.{Stop}
use Rattle.zaraba.specs.declared.stop.Stop.TheVariants.{Done, Gap, Sequence}
use Rattle.issue_book.specs.Entering.{arrival_at, arrive, arrived, enter, join, lower, named, quote_for, spot_of, take_out, trades_now}
use Rattle.issue_book.specs.Filled.{trade_in}
use Rattle.issue_book.specs.IssueView.{AreTerms}
use Rattle.issue_book.specs.Quoting.{Tried, answer_at, due_by, fill, held, is_trading, moved, new_special, presses, serve, settle_at, show_quote, tell_auction, tried_by, try_if_shown, try_quote, try_shown}
use Rattle.issue_book.specs.Sessions.{around_last, at_boundary, close_fills, close_margin, close_trading, close_window, end_quote, end_shown, enter_phase, held_close, is_allotted, open_trading, quote_pressed, step_at}
use Rattle.issue_book.specs.State.{Move, State, Terms, stay, ◌then◌}
use Rattle.node_rules.specs.Nodes.{is_lost, state_at}
use Rattle.issue_machine.proofs.MoveLemmas.{of-either}
use Rattle.issue_machine.specs.Answering.{Replied, accepted, bad_price, bad_qty, cancel_named, change_named, change_to, changed, closed, first_reason, not_yours, order_of, refused, take_cancel, take_change, take_order, unknown, unless}
use Rattle.issue_machine.specs.Clock.{Due, AllDone, BoundaryDue, QuoteDue, due_steps, moment_reply, next_due, set_clock, steps_to, take_clock}
use Rattle.issue_machine.specs.Step.{event_step, step}
use Rattle.issue_laws.specs.Brought.{brought, brought_by, is_refused, trades_in, where_found, with_change, without}
use Rattle.issue_laws.specs.Lower.{LowerLaws}
use Rattle.issue_laws.proofs.Standing.{Stands, StaysCalm, trades-settled, trades-told}
use Rattle.issue_laws.proofs.Auctions.{good-boundary, good-serve, good-step, none-told}
use Rattle.issue_laws.proofs.Orders.{IsEntering, calm-out, first-none, good-enter, some-qty, spot-below, stands-lower, stands-out}
use Rattle.issue_laws.proofs.Steps.{IsSound, go_on}

-- A measure of trades and of orders, by which auctions and arrivals trade what the orders lose.
pub record IsMeasure (t : Terms) (traded : List Trade → ℕ) (left : List Order → ℕ) : Type 0 where
  pub none : traded [] ≡ 0
  pub append : (xs ys : List Trade) → traded (xs ++ ys) ≡ traded xs + traded ys
  pub auction : (n : ℕ) (s : State) → Stands t n s → (p : ℕ) (margin : Margin)
      → let ts : List Trade = (auction_fills t.grid s.orders p margin t.rounds t.unit).trades in
      traded ts + left (after_trades ts s.orders) ≡ left s.orders
  pub allotted : (n : ℕ) (s : State) → Stands t n s → (pressed : Side)
      → let ts : List Trade = (allotted_fills t.grid s.orders pressed t.rounds t.unit).trades in
      traded ts + left (after_trades ts s.orders) ≡ left s.orders
  pub arrival : (n : ℕ) (o : Order) (s : State) → IsEntering t n o → Stands t n s
      → traded (arrival_at t o s).trades + left (book_after (arrival_at t o s) s.orders o) ≡ left (s.orders ++ o ∷ [])

module _ (laws : LowerLaws) (t : Terms) (is : AreTerms t) (traded : List Trade → ℕ) (left : List Order → ℕ) (ok : IsMeasure t traded left) where
  -- what a move trades and leaves is what some orders have
  abbrev pub IsBalanced : List Order → Move → Type 0
  IsBalanced os m = traded (trades_in m.outputs) + left m.state.orders ≡ left os

  balanced-stay : (s : State) → IsBalanced s.orders (stay s)
  balanced-stay s = omega (arith, ok.none)

  -- outputs without a trade, and the same orders
  balanced-put : (os : List Order) (m : Move) → trades_in m.outputs ≡ [] → m.state.orders ≡ os → IsBalanced os m
  balanced-put os m none same = omega (arith, ap traded none, ap left same, ok.none)

  balanced-then : (os : List Order) (m : Move) (f : State → Move) → IsBalanced os m → IsBalanced m.state.orders (f m.state) → IsBalanced os (m then f)
  balanced-then os m f one two =
      let both = ap traded (filter_map-append trade_in m.outputs (f m.state).outputs) in
      omega (arith, one, two, both, ok.append (trades_in m.outputs) (trades_in (f m.state).outputs))

  balanced-settle : (p : ℕ) (f : Settlement) (s : State) → traded f.trades + left (after_trades f.trades s.orders) ≡ left s.orders → IsBalanced s.orders (settle_at p f s)
  balanced-settle p f s e =
      let told = ap traded (trades-settled f.shares f.trades) in
      omega (arith, e, told)

  -- ---- auctions and quotes

  balanced-fill : (n : ℕ) (margin : Margin) (outcome : Outcome) (s : State) → Stands t n s → IsBalanced s.orders (fill t margin outcome s)
  balanced-fill n margin (Traded volume sums) s stands =
      balanced-settle sums.price.0 (auction_fills t.grid s.orders sums.price.0 margin t.rounds t.unit) s (ok.auction n s stands sums.price.0 margin)
  balanced-fill n margin (Calm bid ask) s stands = balanced-stay s
  balanced-fill n margin (Pressed side price pressing facing) s stands = balanced-stay s

  balanced-told : (w : Tried) (outcome : Outcome) (s : State) → IsBalanced s.orders (tell_auction t w outcome s)
  balanced-told w outcome s = balanced-put s.orders (tell_auction t w outcome s) (none-told t.grid s.orders w.reference w.lo w.hi outcome) refl

  balanced-held : (n : ℕ) (w : Tried) (outcome : Outcome) (s : State) → Stands t n s → IsBalanced s.orders (held t w outcome s)
  balanced-held n w outcome s stands = balanced-then s.orders (tell_auction t w outcome s) (fill t Time outcome) (balanced-told w outcome s) (balanced-fill n Time outcome s stands)

  balanced-quote : (q : Option Quote) (s : State) → IsBalanced s.orders (show_quote q s)
  balanced-quote q s = balanced-put s.orders (show_quote q s) refl refl

  balanced-shown : (n : ℕ) (q : Quote) (s : State) → Stands t n s → IsBalanced s.orders (try_shown t q s)
  balanced-shown n q s stands = by (presses q.side (answer_at t (tried_by t q s) s))
    where
      by : (b : Bool) → IsBalanced s.orders (cond b (stay s) (held t (tried_by t q s) (answer_at t (tried_by t q s) s) s then show_quote (after_event q (answer_at t (tried_by t q s) s) (new_special t (opposite q.side) s))))
      by true = balanced-stay s
      by false =
          let m = held t (tried_by t q s) (answer_at t (tried_by t q s) s) s in
          let after = after_event q (answer_at t (tried_by t q s) s) (new_special t (opposite q.side) s) in
          balanced-then s.orders m (show_quote after) (balanced-held n (tried_by t q s) (answer_at t (tried_by t q s) s) s stands) (balanced-quote after m.state)

  balanced-if_shown : (n : ℕ) (q : Option Quote) (s : State) → Stands t n s → IsBalanced s.orders (try_if_shown t q s)
  balanced-if_shown n None s stands = balanced-stay s
  balanced-if_shown n (Some q) s stands = balanced-shown n q s stands

  pub balanced-try : (n : ℕ) (s : State) → Stands t n s → IsBalanced s.orders (try_quote t s)
  balanced-try n s stands = by (is_trading s.phase)
    where
      by : (b : Bool) → IsBalanced s.orders (cond b (try_if_shown t s.quote s) (stay s))
      by true = balanced-if_shown n s.quote s stands
      by false = balanced-stay s

  balanced-serve : (n : ℕ) (q : Quote) (s : State) → Stands t n s → IsBalanced s.orders (serve t q s)
  balanced-serve n q s stands =
      let w = due_by t q s in
      let outcome = answer_at t w s in
      let next = at_due q outcome (moved t q s) (new_special t (opposite q.side) s) in
      balanced-then s.orders (held t w outcome s) (show_quote next) (balanced-held n w outcome s stands) (balanced-quote next (held t w outcome s).state)

  -- ---- boundaries

  balanced-pressed : (outcome : Outcome) (s : State) → IsBalanced s.orders (quote_pressed t outcome s)
  balanced-pressed (Traded volume sums) s = balanced-stay s
  balanced-pressed (Calm bid ask) s = balanced-stay s
  balanced-pressed (Pressed side price pressing facing) s = balanced-quote (Some (new_special t side s)) s

  balanced-open : (n : ℕ) (s : State) → Stands t n s → IsBalanced s.orders (open_trading t s)
  balanced-open n s stands =
      let w = around_last t s in
      let outcome = answer_at t w s in
      balanced-then s.orders (held t w outcome s) (quote_pressed t outcome) (balanced-held n w outcome s stands) (balanced-pressed outcome (held t w outcome s).state)

  balanced-close : (n : ℕ) (outcome : Outcome) (s : State) → Stands t n s → IsBalanced s.orders (close_fills t outcome s)
  balanced-close n (Traded volume sums) s stands = balanced-fill n (close_margin t sums.price.0 s) (Traded volume sums) s stands
  balanced-close n (Calm bid ask) s stands = balanced-stay s
  balanced-close n (Pressed pressed price pressing facing) s stands = by (is_allotted t pressed price.0 s)
    where
      by : (b : Bool) → IsBalanced s.orders (cond b (settle_at price.0 (allotted_fills t.grid s.orders pressed t.rounds t.unit) s) (stay s))
      by true =
          balanced-settle price.0 (allotted_fills t.grid s.orders pressed t.rounds t.unit) s (ok.allotted n s stands pressed)
      by false = balanced-stay s

  balanced-ended : (q : Option Quote) (s : State) → IsBalanced s.orders (end_shown q s)
  balanced-ended None s = balanced-stay s
  balanced-ended (Some q) s = balanced-quote None s

  balanced-closed : (n : ℕ) (s : State) → Stands t n s → IsBalanced s.orders (close_trading t s)
  balanced-closed n s stands =
      let w = close_window t s.quote s in
      let outcome = answer_at t w s in
      let m = held_close t w outcome s in
      balanced-then s.orders m end_quote
      (balanced-then s.orders (tell_auction t w outcome s) (close_fills t outcome) (balanced-told w outcome s) (balanced-close n outcome s stands))
      (balanced-ended m.state.quote m.state)

  balanced-phase : (phase : Phase) (s : State) → IsBalanced s.orders (enter_phase phase s)
  balanced-phase phase s = balanced-put s.orders (enter_phase phase s) refl refl

  in-phase : (n : ℕ) (phase : Phase) (s : State) → Stands t n s → Stands t n (record s { phase = phase })
  in-phase n phase s stands = record { by_place = stands.by_place; below = stands.below; some = stands.some; spots = stands.spots; last = stands.last }

  balanced-boundary : (n : ℕ) (boundary : Boundary) (s : State) → Stands t n s → IsBalanced s.orders (at_boundary t boundary s)
  balanced-boundary n Accept s stands = balanced-phase Collecting s
  balanced-boundary n Begin s stands =
      balanced-then s.orders (enter_phase Trading s) (open_trading t) (balanced-phase Trading s) (balanced-open n (enter_phase Trading s).state (in-phase n Trading s stands))
  balanced-boundary n Finish s stands =
      balanced-then s.orders (close_trading t s) (enter_phase Idle) (balanced-closed n s stands) (balanced-phase Idle (close_trading t s).state)

  balanced-step : (n at : ℕ) (does : State → Move) (s : State) → Stands t n s → ((u : State) → Stands t n u → IsBalanced u.orders (does u)) → IsBalanced s.orders (step_at at does s)
  balanced-step n at does s stands all =
      all (record s { now = at }) (record { by_place = stands.by_place; below = stands.below; some = stands.some; spots = stands.spots; last = stands.last })

  -- ---- the clock

  balanced-due : (n most to : ℕ) (left : List (ℕ × Boundary)) (s : State) → Stands t n s
      → ((rest : List (ℕ × Boundary)) (u : State) → Stands t n u → IsBalanced u.orders (due_steps most t to rest u).move)
      → (d : Due) → IsBalanced s.orders (go_on laws t is most to left s d).move
  balanced-due n most to left s stands rest AllDone = balanced-stay s
  balanced-due n most to left s stands rest (BoundaryDue at boundary more) =
      let m = step_at at (at_boundary t boundary) s in
      let good = good-step laws.calm_afterwards t is.grid n at (at_boundary t boundary) s stands (λ u h. good-boundary laws.calm_afterwards t is.grid n boundary u h) in
      balanced-then s.orders m (λ u. (due_steps most t to more u).move) (balanced-step n at (at_boundary t boundary) s stands (λ u h. balanced-boundary n boundary u h)) (rest more m.state good.fine.stands)
  balanced-due n most to left s stands rest (QuoteDue at q) =
      let m = step_at at (serve t q) s in
      let good = good-step laws.calm_afterwards t is.grid n at (serve t q) s stands (λ u h. good-serve laws.calm_afterwards t is.grid n q u h) in
      balanced-then s.orders m (λ u. (due_steps most t to left u).move) (balanced-step n at (serve t q) s stands (λ u h. balanced-serve n q u h)) (rest left m.state good.fine.stands)

  balanced-steps : (n most to : ℕ) (left : List (ℕ × Boundary)) (s : State) → Stands t n s → IsBalanced s.orders (due_steps most t to left s).move
  balanced-steps n zero to left s stands = balanced-stay s
  balanced-steps n (suc most) to left s stands = balanced-due n most to left s stands (λ rest u h. balanced-steps n most to rest u h) (next_due to left s.quote)

  -- ---- an order enters

  balanced-quote_for : (first : ℕ) (stop : Stop) (s : State) → IsBalanced s.orders (quote_for t first stop s)
  balanced-quote_for first Done s = balanced-stay s
  balanced-quote_for first (Gap side) s = balanced-put s.orders (quote_for t first (Gap side) s) refl refl
  balanced-quote_for first (Sequence side) s = balanced-put s.orders (quote_for t first (Sequence side) s) refl refl

  balanced-arrived : (n : ℕ) (o : Order) (s : State) → IsEntering t n o → Stands t n s → IsBalanced (s.orders ++ o ∷ []) (arrived o s (arrival_at t o s))
  balanced-arrived n o s enters stands =
      let told = trades-told (arrival_at t o s).trades in
      omega (arith, ok.arrival n o s enters stands, ap traded told)

  balanced-enter : (n : ℕ) (o : Order) (s : State) → IsEntering t n o → Stands t n s → IsBalanced (s.orders ++ o ∷ []) (enter t o s)
  balanced-enter n o s enters stands = by (trades_now s)
    where
      by : (b : Bool) → IsBalanced (s.orders ++ o ∷ []) (cond b (arrive t o s) (join o s))
      by true =
          let a = arrival_at t o s in
          balanced-then (s.orders ++ o ∷ []) (arrived o s a) (quote_for t s.last a.stop) (balanced-arrived n o s enters stands) (balanced-quote_for s.last a.stop (arrived o s a).state)
      by false = balanced-put (s.orders ++ o ∷ []) (join o s) refl refl

  balanced-entered : (n : ℕ) (o : Order) (s : State) → IsEntering t n o → Stands t n s → StaysCalm t s → IsBalanced (s.orders ++ o ∷ []) (enter t o s then try_quote t)
  balanced-entered n o s enters stands calm =
      let good = good-enter laws t is n o s enters stands calm in
      balanced-then (s.orders ++ o ∷ []) (enter t o s) (try_quote t) (balanced-enter n o s enters stands) (balanced-try (n + 1) (enter t o s).state good.fine.stands)

  -- ---- entries

  -- a reply is balanced against the orders that it finds
  abbrev pub IsFair : List Order → List Order → Replied → Type 0
  IsFair stood found r = IsBalanced (cond (is_refused r.reply) stood found) r.move

  fair-refused : (found : List Order) (reason : Reason) (s : State) → IsFair s.orders found (refused reason s)
  fair-refused found reason s = balanced-stay s

  unless-fair : (r : Option Reason) (s : State) (found : List Order) (x : Replied) → (r ≡ None → IsFair s.orders found x) → IsFair s.orders found (unless r s x)
  unless-fair None s found x h = h refl
  unless-fair (Some reason) s found x h = fair-refused found reason s

  module _ (e : Entry) (s : State) (here : e.place ≡ s.entries) (sound : IsSound t s) where
    abbrev n : ℕ
    n = s.entries

    fair-order : (participant : Participant) (side : Side) (kind : Kind) (qty : Qty) → IsFair s.orders (brought_by t e (events.Order participant side kind qty) s.orders) (take_order t e participant side kind qty s)
    fair-order participant side kind qty =
        let o = order_of e participant side (unwrap_or (spot_of t kind) Market) qty.0 in
        unless-fair (first_reason (closed s ∷ bad_qty t qty ∷ bad_price t kind ∷ [])) s (s.orders ++ o ∷ []) (accepted o (enter t o s then try_quote t)) (λ none.
        let first = first-none (closed s) (bad_qty t qty ∷ bad_price t kind ∷ []) none in
        let fits = first-none (bad_qty t qty) (bad_price t kind ∷ []) first.1 in
        balanced-entered n o s (record { place = here; some = some-qty t qty fits.0; spot = spot-below t kind }) sound.stands sound.calm)

    fair-changed : (spot : Spot) (qty : ℕ) → IsSpotBelow (length t.grid) spot → 0 < qty → (o : Order) → IsFair s.orders (with_change e spot qty o s.orders) (change_to t e spot qty o s)
    fair-changed spot qty below some o = by (is_same_spot spot o.spot && ltb qty o.left)
      where
        by : (b : Bool) → IsFair s.orders (cond b (lower o.caller o.own qty s).orders (without o s.orders ++ record o { place = e.place; spot = spot; left = qty } ∷ []))
            (cond b (changed o (stay (lower o.caller o.own qty s) then try_quote t))
            (changed (record o { place = e.place; spot = spot; left = qty }) (enter t (record o { place = e.place; spot = spot; left = qty }) (take_out o.caller o.own s) then try_quote t)))
        by true =
            let low = lower o.caller o.own qty s in
            balanced-then low.orders (stay low) (try_quote t) (balanced-stay low) (balanced-try n low (stands-lower t n o.caller o.own qty s some sound.stands))
        by false =
            balanced-entered n (record o { place = e.place; spot = spot; left = qty }) (take_out o.caller o.own s) (record { place = here; some = some; spot = below })
            (stands-out t n o.caller o.own s sound.stands) (calm-out t o.caller o.own s sound.calm)

    fair-named : (spot : Spot) (qty : ℕ) → IsSpotBelow (length t.grid) spot → 0 < qty → (found : Option Order) → IsFair s.orders (where_found found (with_change e spot qty) s.orders) (change_named t e spot qty found s)
    fair-named spot qty below some None = balanced-stay s
    fair-named spot qty below some (Some o) = fair-changed spot qty below some o

    fair-change : (participant : Participant) (target : ℕ) (kind : Kind) (qty : Qty)
        → IsFair s.orders (brought_by t e (events.Change participant target kind qty) s.orders) (take_change t e participant target kind qty s)
    fair-change participant target kind qty =
        let found = named e.caller target s in
        let spot = unwrap_or (spot_of t kind) Market in
        unless-fair (first_reason (closed s ∷ bad_qty t qty ∷ bad_price t kind ∷ unknown target found ∷ not_yours participant found ∷ [])) s (where_found found (with_change e spot qty.0) s.orders) (change_named t e spot qty.0 found s) (λ none.
        let first = first-none (closed s) (bad_qty t qty ∷ bad_price t kind ∷ unknown target found ∷ not_yours participant found ∷ []) none in
        let fits = first-none (bad_qty t qty) (bad_price t kind ∷ unknown target found ∷ not_yours participant found ∷ []) first.1 in
        fair-named spot qty.0 (spot-below t kind) (some-qty t qty fits.0) found)

    fair-cancelled : (found : Option Order) → IsFair s.orders (where_found found without s.orders) (cancel_named t e found s)
    fair-cancelled None = balanced-stay s
    fair-cancelled (Some o) =
        let out = take_out o.caller o.own s in
        balanced-then out.orders (stay out) (try_quote t) (balanced-stay out) (balanced-try n out (stands-out t n o.caller o.own s sound.stands))

    fair-cancel : (participant : Participant) (target : ℕ) → IsFair s.orders (brought_by t e (events.Cancel participant target) s.orders) (take_cancel t e participant target s)
    fair-cancel participant target =
        let found = named e.caller target s in
        unless-fair (first_reason (closed s ∷ unknown target found ∷ not_yours participant found ∷ [])) s (where_found found without s.orders) (cancel_named t e found s) (λ none. fair-cancelled found)

    fair-clock : (to : ℕ) → IsFair s.orders s.orders (take_clock t to s)
    fair-clock to = by (ltb to s.now)
      where
        by : (b : Bool) → IsFair s.orders s.orders (cond b (refused (TimeBack s.now) s) (moment_reply to (steps_to t to s)))
        by true = balanced-stay s
        by false =
            let done = (steps_to t to s).move in
            balanced-then s.orders done (set_clock to) (balanced-steps n _ to _ s sound.stands) (balanced-put done.state.orders (set_clock to done.state) refl refl)

    fair-event : (event : Event) → IsFair s.orders (brought_by t e event s.orders) (event_step t e event s)
    fair-event (events.Order participant side kind qty) = fair-order participant side kind qty
    fair-event (events.Change participant target kind qty) = fair-change participant target kind qty
    fair-event (events.Cancel participant target) = fair-cancel participant target
    fair-event (events.Clock at) = fair-clock at
    fair-event (events.Crash node) = of-either (λ (r : Replied). IsFair s.orders s.orders r) (is_lost (state_at s.nodes node)) _ _ (balanced-stay s) (balanced-stay s)
    fair-event (events.Rejoin node) = of-either (λ (r : Replied). IsFair s.orders s.orders r) (is_lost (state_at s.nodes node)) _ _ (balanced-stay s) (balanced-stay s)

    -- what a step trades and leaves is what its entry finds
    pub step-balanced : traded (trades_in (step t e s).outputs) + left (step t e s).state.orders ≡ left (brought t e s)
    unfolding step
    step-balanced = fair-event e.event
