-- The due steps of a clock event, as far as they have come.
use Rattle.std.specs.Prelude.{◌≡◌, ℕ, suc, ◌+◌, ◌-◌, ◌<◌, ◌≤◌, List, [], ◌∷◌, ◌++◌, length, Option, None, Some, IfSome}
use Rattle.mkt_base.specs.declared.output.Output.{Output}
use Rattle.mkt_base.specs.declared.quote.Quote.{Quote}
use Rattle.session_phase.specs.Sessions.{next_boundary}
use Rattle.session_phase.specs.declared.session.Boundary.{Boundary}
use Rattle.issue_book.specs.IssueView.{IssueView}
use Rattle.issue_book.specs.State.{Move, State, Terms}
use Rattle.issue_floor.specs.Floor.{IsUndue}
use Rattle.issue_machine.specs.Clock.{AllDone, BoundaryDue, DueSteps, QuoteDue, boundaries_in, due_steps, next_due, one_more, steps_to}
use Rattle.issue_machine.specs.Replying.{WasMoved}
use Rattle.issue_machine.specs.Standing.{AwaitsFinish}
use Rattle.issue_machine.specs.declared.clock.DueStep.{DueStep}

-- a clock event has come to a state: the boundaries up to a moment, which is not later than now, are done
pub record IsOnWay (t : Terms) (passed to : ℕ) (s : State) : Type 0 where
  pub behind : passed ≤ s.now
  pub upto : s.now ≤ to
  pub ahead : IfSome (next_boundary t.sessions passed) (λ b. s.now ≤ b.0)
  pub finish : AwaitsFinish t.sessions passed s.phase

-- no boundary is later than one moment and not later than another
pub record IsNoBoundary (t : Terms) (passed to : ℕ) : Type 0 where
  pub none_in : boundaries_in t passed to ≡ []
  pub same : next_boundary t.sessions to ≡ next_boundary t.sessions passed
  pub beyond : IfSome (next_boundary t.sessions passed) (λ b. to < b.0)

-- this is the first that is
pub record IsFirstBoundary (t : Terms) (passed to : ℕ) (b : ℕ × Boundary) : Type 0 where
  pub first : boundaries_in t passed to ≡ b ∷ boundaries_in t b.0 to
  pub next : next_boundary t.sessions passed ≡ Some b
  pub upto : b.0 ≤ to

-- nothing is due up to a moment
pub record IsAllDone (t : Terms) (passed to : ℕ) (s : State) : Type 0 where
  pub due : next_due to (boundaries_in t passed to) s.quote ≡ AllDone
  pub none : next_boundary t.sessions to ≡ next_boundary t.sessions passed
  pub undue : IsUndue to s.quote

-- a boundary is due next
pub record IsBoundaryNext (t : Terms) (passed to : ℕ) (s : State) (at : ℕ) (boundary : Boundary) : Type 0 where
  pub due : next_due to (boundaries_in t passed to) s.quote ≡ BoundaryDue at boundary (boundaries_in t at to)
  pub first : boundaries_in t passed to ≡ (at, boundary) ∷ boundaries_in t at to
  pub next : next_boundary t.sessions passed ≡ Some (at, boundary)
  pub upto : at ≤ to

-- a quote is due next
pub record IsQuoteNext (t : Terms) (passed to : ℕ) (s : State) (at : ℕ) : Type 0 where
  pub quote : Quote
  pub shown : s.quote ≡ Some quote
  pub moment : quote.due ≡ Some at
  pub due : next_due to (boundaries_in t passed to) s.quote ≡ QuoteDue at quote
  pub upto : at ≤ to
  pub ahead : IfSome (next_boundary t.sessions passed) (λ b. at ≤ b.0)

-- this is due next at a moment: a boundary, or the shown quote
abbrev pub IsNext : Terms → ℕ → ℕ → State → ℕ → Option Boundary → Type 0
IsNext t passed to s at (Some boundary) = IsBoundaryNext t passed to s at boundary
IsNext t passed to s at None = IsQuoteNext t passed to s at

abbrev pub IsDueNext : Terms → ℕ → ℕ → State → Option DueStep → Type 0
IsDueNext t passed to s None = IsAllDone t passed to s
IsDueNext t passed to s (Some step) = IsNext t passed to s step.at step.boundary

-- how many steps may be left at most
abbrev pub steps_left : Terms → ℕ → ℕ → State → ℕ
steps_left t passed to s = (to - s.now) + length (boundaries_in t passed to)

-- the first due step was done, which is a move, and the others are still to be done
pub record IsStepDone {W : Type 0} (took : W → List Output → W → Type 0) (passed now_passed to : ℕ) (old new : IssueView) (from on : W) : Type 0 where
  pub move : Move
  pub moved : WasMoved took move old new from on
  pub step : (most : ℕ) → due_steps (suc most) old.terms to (boundaries_in old.terms passed to) old.state
      ≡ one_more move.outputs (due_steps most old.terms to (boundaries_in old.terms now_passed to) move.state)
  pub way : IsOnWay old.terms now_passed to move.state
  pub fewer : steps_left old.terms now_passed to move.state < steps_left old.terms passed to old.state

-- nothing was due and nothing was done, or the first due step was done
abbrev pub WasAdvanced : {W : Type 0} → (W → List Output → W → Type 0) → ℕ → ℕ → IssueView → IssueView → W → W → Option ℕ → Type 0
WasAdvanced took passed to old new from on None = (new ≡ old) × (on ≡ from) × IsAllDone old.terms passed to old.state
WasAdvanced took passed to old new from on (Some now_passed) = IsStepDone took passed now_passed to old new from on

-- steps behind so many others with these outputs
abbrev pub behind_steps : ℕ → List Output → DueSteps → DueSteps
behind_steps steps outputs more = record { steps = steps + more.steps; move = record { state = more.move.state; outputs = outputs ++ more.move.outputs } }

-- the due steps that were done, and those that are left, are the steps of the clock event
pub record IsAdvancing {W : Type 0} (took : W → List Output → W → Type 0) (passed to steps : ℕ) (old new : IssueView) (from on : W) : Type 0 where
  pub done : Move
  pub moved : WasMoved took done old new from on
  pub most : ℕ
  pub enough : steps_left old.terms passed to done.state ≤ most
  pub few : steps + most ≤ 172800000
  pub exact : steps_to old.terms to old.state ≡ behind_steps steps done.outputs (due_steps most old.terms to (boundaries_in old.terms passed to) done.state)
  pub way : IsOnWay old.terms passed to done.state
