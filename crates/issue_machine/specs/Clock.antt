-- The clock: boundaries of sessions and due moments of quotes, one after another.
use Rattle.std.specs.Prelude.{ℕ, zero, suc, ◌+◌, ◌-◌, ◌&&◌, List, [], ◌∷◌, filter, length, Option, None, Some, if◌then◌else◌, nat_lt, nat_le}
use Rattle.mkt_base.specs.declared.event.Reason.TheVariants.{TimeBack}
use Rattle.mkt_base.specs.declared.event.Reply.TheVariants as replies
use Rattle.mkt_base.specs.declared.output.Output.{Output}
use Rattle.mkt_base.specs.declared.quote.Quote.{Quote}
use Rattle.session_phase.specs.Sessions.{boundaries}
use Rattle.session_phase.specs.declared.session.Boundary.{Boundary}
use Rattle.issue_book.specs.State.{Move, State, Terms, behind, stay, ◌then◌}
use Rattle.issue_book.specs.Quoting.{serve}
use Rattle.issue_book.specs.Sessions.{at_boundary, step_at}
use Rattle.issue_machine.specs.Answering.{Replied, refused}

-- what is due next: nothing up to a moment, the first boundary left, or the shown quote
pub data Due : Type 0 where
  AllDone : Due
  BoundaryDue : (at : ℕ) → (boundary : Boundary) → (left : List (ℕ × Boundary)) → Due
  QuoteDue : (at : ℕ) → (quote : Quote) → Due

abbrev pub first_left : List (ℕ × Boundary) → Due
first_left [] = AllDone
first_left (b ∷ left) = BoundaryDue b.0 b.1 left

-- a quote comes no later than a boundary at the same moment
abbrev pub quote_or_first : ℕ → Quote → ℕ → List (ℕ × Boundary) → Due
quote_or_first d q to [] = if nat_le d to then QuoteDue d q else AllDone
quote_or_first d q to (b ∷ left) = if nat_le d to && nat_le d b.0 then QuoteDue d q else first_left (b ∷ left)

abbrev pub due_moment : Option Quote → Option ℕ
due_moment None = None
due_moment (Some q) = q.due

abbrev pub next_due : ℕ → List (ℕ × Boundary) → Option Quote → Due
next_due to left None = first_left left
next_due to left (Some q) = elim q.due [ None ↦ first_left left | Some d ↦ quote_or_first d q to left ]

-- moves in a row, and how many
pub record DueSteps : Type 0 where
  pub steps : ℕ
  pub move : Move

-- one step more, in front of the others
abbrev pub one_more : List Output → DueSteps → DueSteps
one_more outputs more = record { steps = more.steps + 1; move = behind outputs more.move }

-- the due steps up to a moment, at most so many of them
abbrev pub due_steps : ℕ → Terms → ℕ → List (ℕ × Boundary) → State → DueSteps
due_steps zero t to left s = record { steps = 0; move = stay s }
due_steps (suc most) t to left s =
    elim (next_due to left s.quote) [
      | AllDone ↦ record { steps = 0; move = stay s }
      | BoundaryDue at boundary more ↦ let m : Move = step_at at (at_boundary t boundary) s in one_more m.outputs (due_steps most t to more m.state)
      | QuoteDue at q ↦ let m : Move = step_at at (serve t q) s in one_more m.outputs (due_steps most t to left m.state)
    ]

-- the boundaries of the day later than one moment and not later than another
abbrev pub boundaries_in : Terms → ℕ → ℕ → List (ℕ × Boundary)
boundaries_in t now to = filter (λ b. nat_lt now b.0 && nat_le b.0 to) (boundaries t.sessions)

-- at most one quote comes due a millisecond, and each boundary once: a bound that no clock event meets
abbrev pub most_steps : Terms → ℕ → State → ℕ
most_steps t to s = (to - s.now) + length (boundaries_in t s.now to)

-- all steps that are due up to a moment, and the clock at it
abbrev pub steps_to : Terms → ℕ → State → DueSteps
steps_to t to s = due_steps (most_steps t to s) t to (boundaries_in t s.now to) s

abbrev pub set_clock : ℕ → State → Move
set_clock to s = stay (record s { now = to })

-- A clock event: refused where the clock is later already.
abbrev pub moment_reply : ℕ → DueSteps → Replied
moment_reply to done = record { move = done.move then set_clock to; reply = replies.Moment done.steps }

abbrev pub take_clock : Terms → ℕ → State → Replied
take_clock t to s = if nat_lt to s.now then refused (TimeBack s.now) s else moment_reply to (steps_to t to s)
