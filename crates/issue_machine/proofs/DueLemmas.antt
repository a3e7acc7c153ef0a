-- The due steps of a clock event: what comes next, that there are enough of them, and that they come to an end.
use Rattle.std.proofs.Common.{◌≡◌, ℕ, zero, suc, ◌+◌, ◌-◌, ◌<◌, ◌≤◌, Bool, true, false, cond, ltb, leb, ◌&&◌, ◌==◌, List, [], ◌∷◌, length, filter, Option, None, Some, refl, sym, ap, subst, ◌∙◌, arith, inl, inr}
use Rattle.std.specs.List.{AllByRecursion}
use Rattle.std.specs.Option.{IfSome}
use Rattle.std.proofs.lemmas.Bool.{and_cases, and_parts, leb-false, leb-true, ltb-true}
use Rattle.std.proofs.lemmas.List.Elements.{All-weaker, filter_passes, recursion_from_All}
use Rattle.std.proofs.lemmas.List.Kept.{AllPairs-filter}
use Rattle.mkt_base.specs.Priority.{is_same_side}
use Rattle.mkt_base.specs.declared.auction.Outcome.{Outcome}
use Rattle.mkt_base.specs.declared.auction.Outcome.TheVariants.{Traded, Calm, Pressed}
use Rattle.mkt_base.specs.declared.event.Phase.TheVariants.{Trading}
use Rattle.mkt_base.specs.declared.order.Side.{Side}
use Rattle.mkt_base.specs.declared.quote.Quote.{Quote}
use Rattle.mkt_base.specs.declared.units.Price.{Price}
use Rattle.quote_law.specs.Quotes.{answered, daily_limit, later, opposite, special_at}
use Rattle.session_phase.specs.Sessions.{AreSessions, boundaries}
use Rattle.session_phase.specs.declared.session.Boundary.{Boundary}
use Rattle.session_phase.specs.declared.session.Boundary.TheVariants.{Accept, Begin, Finish}
use Rattle.session_phase.proofs.SessionLemmas.{boundaries-rise}
use Rattle.book_law.proofs.Pairs.{Pairs, pairs-from_AllPairs, weaken}
use Rattle.issue_book.specs.Quoting.{Tried, answer_at, due_by, moved, new_special, serve}
use Rattle.issue_book.specs.Sessions.{around_last, at_boundary, close_window, closed_by, end_shown, held_close, opened, step_at}
use Rattle.issue_book.specs.State.{Move, State, Terms, stay}
use Rattle.issue_floor.specs.Floor.{IsUndue}
use Rattle.issue_machine.specs.Clock.{AllDone, BoundaryDue, Due, DueSteps, QuoteDue, boundaries_in, due_steps, first_left, most_steps, next_due, one_more, quote_or_first}
use Rattle.issue_machine.specs.Laws.{DueStepsEnd}
use Rattle.issue_machine.proofs.MoveLemmas.{OfEach, WasBoundary, WasServed, boundary-keeps, of-each, of-either, served-keeps}

-- ---- quotes that begin or move at a moment are due later

undue-later : (now ms : ℕ) → 1 ≤ ms → IfSome (later now ms) (λ d. now < d)
undue-later now ms some = of-either (λ (o : Option ℕ). IfSome o (λ d. now < d)) (ltb (now + ms) 86400000) (Some (now + ms)) None (omega (arith, some)) tt

undue-special : (grid : List Price) (side : Side) (p now ms : ℕ) → 1 ≤ ms → IsUndue now (Some (special_at grid side p now ms))
undue-special grid side p now ms some = of-either (λ (o : Option ℕ). IfSome o (λ d. now < d)) (p == daily_limit grid side) None (later now ms) tt (undue-later now ms some)

undue-answered : (at : ℕ) (q : Quote) (own other : Option Quote) (outcome : Outcome) → IsUndue at own → IsUndue at other → IsUndue at (answered q own other outcome)
undue-answered at q own other (Traded volume sums) h k = tt
undue-answered at q own other (Calm bid ask) h k = tt
undue-answered at q own other (Pressed side price pressing facing) h k = of-either (IsUndue at) (is_same_side side q.side) own other h k

pub undue-served : (t : Terms) (at : ℕ) (q : Quote) (s : State) → 1 ≤ t.special_ms → IsUndue at (step_at at (serve t q) s).state.quote
undue-served t at q s some =
    let u : State = record s { now = at } in
    undue-answered at q (Some (moved t q u)) (Some (new_special t (opposite q.side) u)) (answer_at t (due_by t q u) u) (undue-special t.grid q.side _ at t.special_ms some)
    (undue-special t.grid (opposite q.side) _ at t.special_ms some)

undue-opened : (t : Terms) (w : Tried) (s : State) (outcome : Outcome) → 1 ≤ t.special_ms → IsUndue s.now s.quote → IsUndue s.now (opened t w s outcome).state.quote
undue-opened t w s (Traded volume sums) some h = h
undue-opened t w s (Calm bid ask) some h = h
undue-opened t w s (Pressed side price pressing facing) some h = undue-special t.grid side _ s.now t.special_ms some

ended-none : (q : Option Quote) (s : State) → s.quote ≡ q → (end_shown q s).state.quote ≡ None
ended-none None s e = e
ended-none (Some q) s e = refl

closed-none : (t : Terms) (w : Tried) (s : State) (outcome : Outcome) → (closed_by t w s outcome).state.quote ≡ None
closed-none t w s outcome = let u : State = (held_close t w outcome s).state in ended-none u.quote u refl

pub undue-boundary : (t : Terms) (at : ℕ) (boundary : Boundary) (s : State) → 1 ≤ t.special_ms → IsUndue at s.quote → IsUndue at (step_at at (at_boundary t boundary) s).state.quote
undue-boundary t at Accept s some h = h
undue-boundary t at Begin s some h =
    let u : State = record s { now = at; phase = Trading } in
    undue-opened t (around_last t u) u (answer_at t (around_last t u) u) some h
undue-boundary t at Finish s some h =
    let u : State = record s { now = at } in
    subst (IsUndue at) (sym (closed-none t (close_window t u.quote u) u (answer_at t (close_window t u.quote u) u))) tt

-- ---- what is due next

abbrev Bounds : Type 0
Bounds = List (ℕ × Boundary)

abbrev Rises : ℕ × Boundary → ℕ × Boundary → Type 0
Rises a b = a.0 < b.0

-- the first boundary, if there is one, is not earlier than a moment
abbrev IsFrom : ℕ → Bounds → Type 0
IsFrom at [] = Unit {0}
IsFrom at (b ∷ left) = at ≤ b.0

-- what it means that something is due next, or nothing
abbrev IsNextOf : ℕ → ℕ → Bounds → Option Quote → Due → Type 0
IsNextOf now to left quote AllDone = (left ≡ []) × IsUndue to quote
IsNextOf now to left quote (BoundaryDue at boundary more) = (left ≡ (at, boundary) ∷ more) × IsUndue at quote
IsNextOf now to left quote (QuoteDue at q) = (now < at) × (at ≤ to) × IsFrom at left

first-of-left : (now to : ℕ) (left : Bounds) (quote : Option Quote) → IsUndue to quote → AllByRecursion (λ b. b.0 ≤ to) left → ((at : ℕ) → at ≤ to → IsUndue at quote)
    → IsNextOf now to left quote (first_left left)
first-of-left now to [] quote h within all = (refl, h)
first-of-left now to (b ∷ left) quote h within all = (refl, all b.0 within.0)

next-shown : (now to : ℕ) (left : Bounds) (q : Quote) (d : ℕ) → q.due ≡ Some d → now < d → AllByRecursion (λ b. b.0 ≤ to) left → IsNextOf now to left (Some q) (quote_or_first d q to left)
next-shown now to [] q d e h within = step (leb d to) refl
  where
    step : (x : Bool) → leb d to ≡ x → IsNextOf now to [] (Some q) (cond x (QuoteDue d q) AllDone)
    step true f = (h, leb-true d to f, tt)
    step false f = (refl, subst (λ (o : Option ℕ). IfSome o (λ n. to < n)) (sym e) (leb-false d to f))
next-shown now to (b ∷ left) q d e h within = step (leb d to && leb d b.0) refl
  where
    step : (x : Bool) → (leb d to && leb d b.0) ≡ x → IsNextOf now to (b ∷ left) (Some q) (cond x (QuoteDue d q) (BoundaryDue b.0 b.1 left))
    step true f = let parts = and_parts (leb d to) (leb d b.0) f in (h, leb-true d to parts.0, leb-true d b.0 parts.1)
    step false f =
        let past : b.0 < d = elim (and_cases (leb d to) (leb d b.0) f) [ inl g ↦ omega (arith, leb-false d to g, within.0) | inr g ↦ leb-false d b.0 g ] in
        (refl, subst (λ (o : Option ℕ). IfSome o (λ n. b.0 < n)) (sym e) past)

next-of-quote : (now to : ℕ) (left : Bounds) (q : Quote) (d : Option ℕ) → q.due ≡ d → IfSome d (λ n. now < n) → AllByRecursion (λ b. b.0 ≤ to) left
    → IsNextOf now to left (Some q) (elim d [ None ↦ first_left left | Some n ↦ quote_or_first n q to left ])
next-of-quote now to left q None e h within =
    let never : (at : ℕ) → IsUndue at (Some q) = λ at. subst (λ (o : Option ℕ). IfSome o (λ n. at < n)) (sym e) tt in
    first-of-left now to left (Some q) (never to) within (λ at upto. never at)
next-of-quote now to left q (Some n) e h within = next-shown now to left q n e h within

next-is : (now to : ℕ) (left : Bounds) (quote : Option Quote) → IsUndue now quote → AllByRecursion (λ b. b.0 ≤ to) left → IsNextOf now to left quote (next_due to left quote)
next-is now to left None h within = first-of-left now to left None tt within (λ at upto. tt)
next-is now to left (Some q) h within = next-of-quote now to left q q.due refl h within

-- ---- a step

-- the first step, with what comes after it handed in
abbrev pub step_by : (Bounds → State → DueSteps) → Terms → Bounds → State → Due → DueSteps
step_by next t left s AllDone = record { steps = 0; move = stay s }
step_by next t left s (BoundaryDue at boundary more) = let m : Move = step_at at (at_boundary t boundary) s in one_more m.outputs (next more m.state)
step_by next t left s (QuoteDue at q) = let m : Move = step_at at (serve t q) s in one_more m.outputs (next left m.state)

pub stepped-by : (most : ℕ) (t : Terms) (to : ℕ) (left : Bounds) (s : State) → due_steps (suc most) t to left s ≡ step_by (due_steps most t to) t left s (next_due to left s.quote)
stepped-by most t to left s = refl

-- with nothing due nothing is done
pub none-stepped : (most : ℕ) (t : Terms) (to : ℕ) (left : Bounds) (s : State) → next_due to left s.quote ≡ AllDone → due_steps most t to left s ≡ record { steps = 0; move = stay s }
none-stepped zero t to left s e = refl
none-stepped (suc most) t to left s e = stepped-by most t to left s ∙ ap (step_by (due_steps most t to) t left s) e

-- ---- the bound

-- boundaries that are left, none earlier than now nor later than the clock event
record IsTicking (to : ℕ) (left : Bounds) (s : State) : Type 0 where
  undue : IsUndue s.now s.quote
  rise : Pairs Rises left
  within : AllByRecursion (λ b. (s.now ≤ b.0) × (b.0 ≤ to)) left

ends : (to : ℕ) (left : Bounds) (s : State) → IsTicking to left s → AllByRecursion (λ b. b.0 ≤ to) left
ends to left s h = weaken (λ b. (s.now ≤ b.0) × (b.0 ≤ to)) (λ b. b.0 ≤ to) (λ b k. k.1) left h.within

-- each boundary behind the first is later
behind-first : (now at to : ℕ) (left : Bounds) → Pairs Rises left → AllByRecursion (λ b. (now ≤ b.0) × (b.0 ≤ to)) left → IsFrom at left → AllByRecursion (λ b. (at ≤ b.0) × (b.0 ≤ to)) left
behind-first now at to [] rise within from = tt
behind-first now at to (b ∷ left) rise within from =
    ((from, within.0.1), behind-first now at to left rise.1 within.1 (later-from left rise.0))
  where
    later-from : (bs : Bounds) → AllByRecursion (Rises b) bs → IsFrom at bs
    later-from [] all = tt
    later-from (c ∷ cs) all = omega (arith, from, all.0)

module _ (t : Terms) (to : ℕ) (some : 1 ≤ t.special_ms) where
  ticking-boundary : (at : ℕ) (boundary : Boundary) (more : Bounds) (s : State) → IsTicking to ((at, boundary) ∷ more) s → IsUndue at s.quote → IsTicking to more (step_at at (at_boundary t boundary) s).state
  ticking-boundary at boundary more s h undue =
      let u : State = (step_at at (at_boundary t boundary) s).state in
      let was : WasBoundary OfEach of-each at boundary s u = boundary-keeps OfEach of-each t at boundary s in
      record {
        undue = subst (λ (n : ℕ). IsUndue n u.quote) (sym was.now) (undue-boundary t at boundary s some undue);
        rise = h.rise.1;
        within = subst (λ (n : ℕ). AllByRecursion (λ b. (n ≤ b.0) × (b.0 ≤ to)) more) (sym was.now)
            (behind-first s.now at to more h.rise.1 h.within.1 (from-later more h.rise.0));
      }
    where
      from-later : (bs : Bounds) → AllByRecursion (Rises (at, boundary)) bs → IsFrom at bs
      from-later [] all = tt
      from-later (c ∷ cs) all = omega (arith, all.0)

  ticking-quote : (at : ℕ) (q : Quote) (left : Bounds) (s : State) → IsTicking to left s → IsFrom at left → IsTicking to left (step_at at (serve t q) s).state
  ticking-quote at q left s h from =
      let u : State = (step_at at (serve t q) s).state in
      let was : WasServed OfEach of-each at s u = served-keeps OfEach of-each t at q s in
      record {
        undue = subst (λ (n : ℕ). IsUndue n u.quote) (sym was.now) (undue-served t at q s some);
        rise = h.rise;
        within = subst (λ (n : ℕ). AllByRecursion (λ b. (n ≤ b.0) × (b.0 ≤ to)) left) (sym was.now) (behind-first s.now at to left h.rise h.within from);
      }

  now-boundary : (at : ℕ) (boundary : Boundary) (s : State) → (step_at at (at_boundary t boundary) s).state.now ≡ at
  now-boundary at boundary s = let was : WasBoundary OfEach of-each at boundary s (step_at at (at_boundary t boundary) s).state = boundary-keeps OfEach of-each t at boundary s in was.now

  now-quote : (at : ℕ) (q : Quote) (s : State) → (step_at at (serve t q) s).state.now ≡ at
  now-quote at q s = let was : WasServed OfEach of-each at s (step_at at (serve t q) s).state = served-keeps OfEach of-each t at q s in was.now

  -- any two bounds that are great enough give the same
  same-steps : (m n : ℕ) (left : Bounds) (s : State) → IsTicking to left s → (to - s.now) + length left ≤ m → (to - s.now) + length left ≤ n → due_steps m t to left s ≡ due_steps n t to left s
  same-steps zero zero left s h a b = refl
  same-steps zero (suc n) left s h a b = step (next_due to left s.quote) (next-is s.now to left s.quote h.undue (ends to left s h))
    where
      step : (d : Due) → IsNextOf s.now to left s.quote d → record { steps = 0; move = stay s } ≡ step_by (due_steps n t to) t left s d
      step AllDone is = refl
      step (BoundaryDue at boundary more) is = absurd (omega (arith, ap length is.0, a))
      step (QuoteDue at q) is = absurd (omega (arith, is.0, is.1, a))
  same-steps (suc m) zero left s h a b = step (next_due to left s.quote) (next-is s.now to left s.quote h.undue (ends to left s h))
    where
      step : (d : Due) → IsNextOf s.now to left s.quote d → step_by (due_steps m t to) t left s d ≡ record { steps = 0; move = stay s }
      step AllDone is = refl
      step (BoundaryDue at boundary more) is = absurd (omega (arith, ap length is.0, b))
      step (QuoteDue at q) is = absurd (omega (arith, is.0, is.1, b))
  same-steps (suc m) (suc n) left s h a b =
      step (λ more u k x y. same-steps m n more u k x y) (next_due to left s.quote) (next-is s.now to left s.quote h.undue (ends to left s h))
    where
      step : ((more : Bounds) (u : State) → IsTicking to more u → (to - u.now) + length more ≤ m → (to - u.now) + length more ≤ n → due_steps m t to more u ≡ due_steps n t to more u)
          → (d : Due) → IsNextOf s.now to left s.quote d → step_by (due_steps m t to) t left s d ≡ step_by (due_steps n t to) t left s d
      step rest AllDone is = refl
      step rest (BoundaryDue at boundary more) is =
          let u : State = (step_at at (at_boundary t boundary) s).state in
          let k : IsTicking to ((at, boundary) ∷ more) s = subst (λ (x : Bounds). IsTicking to x s) is.0 h in
          let count = ap length is.0 in
          let now = now-boundary at boundary s in
          ap (one_more (step_at at (at_boundary t boundary) s).outputs)
          (rest more u (ticking-boundary at boundary more s k is.1) (omega (arith, now, k.within.0.0, count, a)) (omega (arith, now, k.within.0.0, count, b)))
      step rest (QuoteDue at q) is =
          let u : State = (step_at at (serve t q) s).state in
          let now = now-quote at q s in
          ap (one_more (step_at at (serve t q) s).outputs)
          (rest left u (ticking-quote at q left s h is.2) (omega (arith, now, is.0, is.1, a)) (omega (arith, now, is.0, is.1, b)))

  -- and behind them no quote is due
  end-undue : (m : ℕ) (left : Bounds) (s : State) → IsTicking to left s → (to - s.now) + length left ≤ m → IsUndue to (due_steps m t to left s).move.state.quote
  end-undue zero left s h a = step (next_due to left s.quote) (next-is s.now to left s.quote h.undue (ends to left s h))
    where
      step : (d : Due) → IsNextOf s.now to left s.quote d → IsUndue to s.quote
      step AllDone is = is.1
      step (BoundaryDue at boundary more) is = absurd (omega (arith, ap length is.0, a))
      step (QuoteDue at q) is = absurd (omega (arith, is.0, is.1, a))
  end-undue (suc m) left s h a =
      step (λ more u k x. end-undue m more u k x) (next_due to left s.quote) (next-is s.now to left s.quote h.undue (ends to left s h))
    where
      step : ((more : Bounds) (u : State) → IsTicking to more u → (to - u.now) + length more ≤ m → IsUndue to (due_steps m t to more u).move.state.quote)
          → (d : Due) → IsNextOf s.now to left s.quote d → IsUndue to (step_by (due_steps m t to) t left s d).move.state.quote
      step rest AllDone is = is.1
      step rest (BoundaryDue at boundary more) is =
          let u : State = (step_at at (at_boundary t boundary) s).state in
          let k : IsTicking to ((at, boundary) ∷ more) s = subst (λ (x : Bounds). IsTicking to x s) is.0 h in
          rest more u (ticking-boundary at boundary more s k is.1) (omega (arith, now-boundary at boundary s, k.within.0.0, ap length is.0, a))
      step rest (QuoteDue at q) is =
          let u : State = (step_at at (serve t q) s).state in
          rest left u (ticking-quote at q left s h is.2) (omega (arith, now-quote at q s, is.0, is.1, a))

-- a clock event begins with the boundaries that are later than now
ticking-first : (t : Terms) (to : ℕ) (s : State) → AreSessions t.sessions → IsUndue s.now s.quote → IsTicking to (boundaries_in t s.now to) s
ticking-first t to s are undue =
    let passes : ℕ × Boundary → Bool = λ b. ltb s.now b.0 && leb b.0 to in
    record {
      undue = undue;
      rise = pairs-from_AllPairs Rises (filter passes (boundaries t.sessions)) (AllPairs-filter Rises passes (boundaries t.sessions) (boundaries-rise t.sessions are));
      within =
          recursion_from_All (λ b. (s.now ≤ b.0) × (b.0 ≤ to)) (filter passes (boundaries t.sessions))
          (All-weaker (λ b. passes b ≡ true) (λ b. (s.now ≤ b.0) × (b.0 ≤ to))
          (λ b h. let parts = and_parts (ltb s.now b.0) (leb b.0 to) h in (omega (arith, ltb-true s.now b.0 parts.0), leb-true b.0 to parts.1)) (filter passes (boundaries t.sessions))
          (filter_passes passes (boundaries t.sessions)));
    }

pub due-steps-end : DueStepsEnd
due-steps-end t are some to s undue =
    let first : IsTicking to (boundaries_in t s.now to) s = ticking-first t to s are undue in (
      λ more. same-steps t to some (most_steps t to s + more) (most_steps t to s) (boundaries_in t s.now to) s first (omega arith) (omega arith),
      end-undue t to some (most_steps t to s) (boundaries_in t s.now to) s first (omega arith),
    )
