-- Steps of an issue, one after another: what every state behind a journal keeps.
use Rattle.std.proofs.Common.{◌≡◌, ℕ, zero, suc, ◌+◌, ◌-◌, ◌<◌, ◌≤◌, ◌⊎◌, inl, inr, Bool, true, false, cond, ltb, List, [], ◌∷◌, ◌++◌, length, refl, sym, ap, subst, ◌∙◌, arith}
use Rattle.std.specs.List.{AllByRecursion}
use Rattle.std.proofs.lemmas.Bool.{cases_lt}
use Rattle.mkt_base.specs.Book.{price_at}
use Rattle.mkt_base.specs.declared.auction.Trade.{Trade}
use Rattle.tick_grid.specs.Grid.{first_price, last_price}
use Rattle.book_law.proofs.Pairs.{weaken}
use Rattle.issue_laws.specs.Laws.{IsWithinLimits}
use Rattle.mkt_base.specs.declared.event.Entry.{Entry}
use Rattle.mkt_base.specs.declared.event.Event.{Event}
use Rattle.mkt_base.specs.declared.event.Event.TheVariants as events
use Rattle.mkt_base.specs.declared.event.Reason.TheVariants.{TimeBack}
use Rattle.session_phase.specs.declared.session.Boundary.{Boundary}
use Rattle.issue_book.specs.IssueView.{AreTerms, IsPriceOf}
use Rattle.issue_book.specs.Quoting.{serve}
use Rattle.issue_book.specs.Sessions.{at_boundary, step_at}
use Rattle.issue_book.specs.State.{Move, State, Terms, start, stay}
use Rattle.node_rules.specs.Nodes.{is_lost, state_at}
use Rattle.mkt_base.specs.declared.journal.NodeState.{NodeState}
use Rattle.issue_machine.specs.Answering.{Replied, refused}
use Rattle.issue_machine.specs.Clock.{Due, AllDone, BoundaryDue, DueSteps, QuoteDue, due_steps, moment_reply, next_due, one_more, set_clock, steps_to, take_clock}
use Rattle.issue_machine.specs.Journal.{AreEntries, IsEventOf, own_after}
use Rattle.issue_machine.specs.Step.{counted, event_step, nodes_behind, state_from, step}
use Rattle.issue_machine.proofs.MoveLemmas.{of-either}
use Rattle.issue_laws.specs.Brought.{trades_in}
use Rattle.issue_laws.specs.Lower.{LowerLaws}
use Rattle.issue_laws.proofs.Standing.{ArePriced, IsGood, Stands, StaysCalm, fine-stay, good-then}
use Rattle.issue_laws.proofs.Auctions.{good-boundary, good-serve, good-step}
use Rattle.issue_laws.proofs.Orders.{good-cancel, good-change, good-order, stands-more}

-- a sound state: its book stands, and is calm where it has to be
pub record IsSound (t : Terms) (s : State) : Type 0 where
  pub stands : Stands t s.entries s
  pub calm : StaysCalm t s

-- the state before the first entry
pub sound-start : (t : Terms) → AreTerms t → IsSound t (start t)
sound-start t is = record {
  stands = record { by_place = tt; below = tt; some = tt; spots = tt; last = is.base };
  calm = λ phase quote. absurd (let other = phase in cc);
}

module _ (laws : LowerLaws) (t : Terms) (is : AreTerms t) where
  -- ---- the clock

  -- one step that is due, and what follows it
  abbrev pub go_on : ℕ → ℕ → List (ℕ × Boundary) → State → Due → DueSteps
  go_on most to left s d = elim d [
    | AllDone ↦ record { steps = 0; move = stay s }
    | BoundaryDue at boundary more ↦ let m : Move = step_at at (at_boundary t boundary) s in one_more m.outputs (due_steps most t to more m.state)
    | QuoteDue at q ↦ let m : Move = step_at at (serve t q) s in one_more m.outputs (due_steps most t to left m.state)
  ]

  good-behind : (n : ℕ) (s : State) (m : Move) (more : State → DueSteps) → IsGood t n s m → IsGood t n m.state (more m.state).move → IsGood t n s (one_more m.outputs (more m.state)).move
  good-behind n s m more one two = good-then t n s m (λ u. (more u).move) one two

  good-due : (n most to : ℕ) (left : List (ℕ × Boundary)) (s : State) → Stands t n s → StaysCalm t s
      → ((rest : List (ℕ × Boundary)) (u : State) → Stands t n u → StaysCalm t u → IsGood t n u (due_steps most t to rest u).move)
      → (d : Due) → IsGood t n s (go_on most to left s d).move
  good-due n most to left s stands calm rest AllDone = record { fine = fine-stay t n s stands; calm = calm }
  good-due n most to left s stands calm rest (BoundaryDue at boundary more) =
      let m = step_at at (at_boundary t boundary) s in
      let first = good-step laws.calm_afterwards t is.grid n at (at_boundary t boundary) s stands (λ u h. good-boundary laws.calm_afterwards t is.grid n boundary u h) in
      good-behind n s m (due_steps most t to more) first (rest more m.state first.fine.stands first.calm)
  good-due n most to left s stands calm rest (QuoteDue at q) =
      let m = step_at at (serve t q) s in
      let first = good-step laws.calm_afterwards t is.grid n at (serve t q) s stands (λ u h. good-serve laws.calm_afterwards t is.grid n q u h) in
      good-behind n s m (due_steps most t to left) first (rest left m.state first.fine.stands first.calm)

  good-steps : (n most to : ℕ) (left : List (ℕ × Boundary)) (s : State) → Stands t n s → StaysCalm t s → IsGood t n s (due_steps most t to left s).move
  good-steps n zero to left s stands calm = record { fine = fine-stay t n s stands; calm = calm }
  good-steps n (suc most) to left s stands calm = good-due n most to left s stands calm (λ rest u h c. good-steps n most to rest u h c) (next_due to left s.quote)

  good-set : (n to : ℕ) (s : State) → Stands t n s → StaysCalm t s → IsGood t n s (set_clock to s)
  good-set n to s stands calm = record {
    fine = record {
      stands = record { by_place = stands.by_place; below = stands.below; some = stands.some; spots = stands.spots; last = stands.last };
      priced = tt;
      entries = refl;
    };
    calm = calm;
  }

  good-clock : (n to : ℕ) (s : State) → Stands t n s → StaysCalm t s → IsGood t n s (take_clock t to s).move
  good-clock n to s stands calm = by (ltb to s.now)
    where
      by : (b : Bool) → IsGood t n s (cond b (refused (TimeBack s.now) s) (moment_reply to (steps_to t to s))).move
      by true = record { fine = fine-stay t n s stands; calm = calm }
      by false =
          let done = (steps_to t to s).move in
          let first = good-steps n _ to _ s stands calm in
          good-then t n s done (set_clock to) first (good-set n to done.state first.fine.stands first.calm)

  -- ---- a step

  good-event : (e : Entry) (event : Event) (s : State) → e.place ≡ s.entries → IsSound t s → IsGood t (s.entries + 1) s (event_step t e event s).move
  good-event e (events.Order participant side kind qty) s here sound = good-order laws t is e s here sound.stands sound.calm participant side kind qty
  good-event e (events.Change participant target kind qty) s here sound = good-change laws t is e s here sound.stands sound.calm participant target kind qty
  good-event e (events.Cancel participant target) s here sound = good-cancel laws t is e s here sound.stands sound.calm participant target
  good-event e (events.Clock at) s here sound = good-clock (s.entries + 1) at s (stands-more t s.entries s sound.stands) sound.calm
  good-event e (events.Crash node) s here sound =
      let still : IsGood t (s.entries + 1) s (stay s) = record { fine = fine-stay t (s.entries + 1) s (stands-more t s.entries s sound.stands); calm = sound.calm } in
      of-either (λ (r : Replied). IsGood t (s.entries + 1) s r.move) (is_lost (state_at s.nodes node)) _ _ still still
  good-event e (events.Rejoin node) s here sound =
      let still : IsGood t (s.entries + 1) s (stay s) = record { fine = fine-stay t (s.entries + 1) s (stands-more t s.entries s sound.stands); calm = sound.calm } in
      of-either (λ (r : Replied). IsGood t (s.entries + 1) s r.move) (is_lost (state_at s.nodes node)) _ _ still still

  -- a step from a sound state leads to one, trades at prices of the grid, and is counted
  pub record IsStep (e : Entry) (s : State) : Type 0 where
    pub sound : IsSound t (step t e s).state
    pub priced : ArePriced t (trades_in (step t e s).outputs)
    pub entries : (step t e s).state.entries ≡ s.entries + 1

  sound-counted : (n : ℕ) (s : State) (nodes : List NodeState) (r : Replied) → n ≡ s.entries + 1 → IsGood t n s r.move → IsSound t (counted nodes r).state
  sound-counted n s nodes r here good =
      let same : n ≡ (counted nodes r).state.entries = here ∙ ap (λ k. k + 1) (sym good.fine.entries) in
      let stands = good.fine.stands in
      record {
        stands = subst (λ k. Stands t k (counted nodes r).state) same (record { by_place = stands.by_place; below = stands.below; some = stands.some; spots = stands.spots; last = stands.last });
        calm = good.calm;
      }

  pub step-is : (e : Entry) (s : State) → e.place ≡ s.entries → IsSound t s → IsStep e s
  unfolding step
  step-is e s here sound =
      let good = good-event e e.event s here sound in
      record { sound = sound-counted (s.entries + 1) s (nodes_behind e s) (event_step t e e.event s) refl good; priced = good.fine.priced; entries = ap (λ k. k + 1) good.fine.entries }

  -- ---- journals

  -- the state behind a journal, and the entry that comes next
  pub record IsBehind (participants : ℕ) (e : Entry) (s : State) : Type 0 where
    pub sound : IsSound t s
    pub place : e.place ≡ s.entries
    pub event : IsEventOf participants e.event

  pub sound-behind : (participants entries : ℕ) (next : List ℕ) (es : List Entry) (s : State) → s.entries ≡ entries → IsSound t s → AreEntries participants entries next es → IsSound t (state_from t es s)
  sound-behind participants entries next [] s same sound are = sound
  sound-behind participants entries next (e ∷ es) s same sound are =
      let one = step-is e s (are.0.place ∙ sym same) sound in
      sound-behind participants (entries + 1) (own_after next e) es (step t e s).state (one.entries ∙ ap (λ k. k + 1) same) one.sound are.1

  -- as many entries as the journal has
  pub counted-behind : (participants entries : ℕ) (next : List ℕ) (es : List Entry) (s : State) → s.entries ≡ entries → IsSound t s → AreEntries participants entries next es → (state_from t es s).entries ≡ entries + length es
  counted-behind participants entries next [] s same sound are = omega (arith, same)
  counted-behind participants entries next (e ∷ es) s same sound are =
      let one = step-is e s (are.0.place ∙ sym same) sound in
      let rest = counted-behind participants (entries + 1) (own_after next e) es (step t e s).state (one.entries ∙ ap (λ k. k + 1) same) one.sound are.1 in
      omega (arith, rest)

  pub next-behind : (participants entries : ℕ) (next : List ℕ) (es : List Entry) (e : Entry) (s : State) → s.entries ≡ entries → IsSound t s
      → AreEntries participants entries next (es ++ e ∷ []) → IsBehind participants e (state_from t es s)
  next-behind participants entries next [] e s same sound are = record { sound = sound; place = are.0.place ∙ sym same; event = are.0.event }
  next-behind participants entries next (x ∷ es) e s same sound are =
      let one = step-is x s (are.0.place ∙ sym same) sound in
      next-behind participants (entries + 1) (own_after next x) es e (step t x s).state (one.entries ∙ ap (λ k. k + 1) same) one.sound are.1

-- ---- the daily limits

limits-at : (t : Terms) → AreTerms t → (i : ℕ) → i < length t.grid → (first_price t.grid ≤ price_at t.grid i) × (price_at t.grid i ≤ last_price t.grid)
limits-at t is i inside = (from-first i inside, to-last (cases_lt i (length t.grid - 1)))
  where
    from-first : (k : ℕ) → k < length t.grid → first_price t.grid ≤ price_at t.grid k
    from-first zero h = omega arith
    from-first (suc k) h = let above = is.grid.rising 0 (suc k) (omega arith) h in omega (arith, above)

    to-last : (i < length t.grid - 1) ⊎ (length t.grid - 1 ≤ i) → price_at t.grid i ≤ last_price t.grid
    to-last (inl h) = let below = is.grid.rising i (length t.grid - 1) h (omega (arith, inside)) in omega (arith, below)
    to-last (inr h) =
        let same : i ≡ length t.grid - 1 = omega (arith, h, inside) in
        omega (arith, ap (price_at t.grid) same)

-- a price of the grid is within the daily limits
pub within-limits : (t : Terms) → AreTerms t → (ts : List Trade) → ArePriced t ts → AllByRecursion (λ x. IsWithinLimits t.grid x.price.0) ts
within-limits t is ts priced =
    weaken (λ x. IsPriceOf t.grid x.price.0) (λ x. IsWithinLimits t.grid x.price.0) (λ x p. one x.price.0 p) ts priced
  where
    one : (p : ℕ) → IsPriceOf t.grid p → IsWithinLimits t.grid p
    one p there =
        let limits = limits-at t is there.0 there.1 in
        (there, omega (arith, limits.0, there.2), omega (arith, limits.1, there.2))
