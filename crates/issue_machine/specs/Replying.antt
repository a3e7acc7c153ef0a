-- What the parts of the code promise of an event.
use Rattle.std.specs.Prelude.{◌≡◌, ℕ, ◌+◌, ◌%◌, ◌≤◌, List, [], ◌∷◌, ◌++◌, Option, None, length, Some}
use Rattle.mkt_base.specs.declared.event.Reason.{Reason}
use Rattle.mkt_base.specs.declared.event.Reply.{Reply}
use Rattle.mkt_base.specs.declared.order.Kind.{Kind}
use Rattle.mkt_base.specs.declared.order.Order.{Order}
use Rattle.mkt_base.specs.declared.order.Spot.{Spot}
use Rattle.mkt_base.specs.declared.output.Output.{Output}
use Rattle.mkt_base.specs.declared.units.Caller.{Caller}
use Rattle.mkt_base.specs.declared.units.Participant.{Participant}
use Rattle.mkt_base.specs.declared.units.Qty.{Qty}
use Rattle.book_law.specs.BookView.{IsSpotBelow}
use Rattle.issue_book.specs.Entering.{named, spot_of}
use Rattle.issue_book.specs.Filled.{filled_on, left_of}
use Rattle.issue_book.specs.IssueView.{IssueView, in_state}
use Rattle.issue_book.specs.State.{Move, State, Terms}
use Rattle.issue_machine.specs.Answering.{Replied, bad_price, bad_qty, closed, first_reason, not_yours, unknown}

-- an issue went through a move, and the watch was told its outputs
pub record WasMoved {W : Type 0} (took : W → List Output → W → Type 0) (m : Move) (old new : IssueView) (from to : W) : Type 0 where
  pub state : new ≡ in_state m.state old
  pub told : (start : W) (outputs : List Output) → took start outputs from → took start (outputs ++ m.outputs) to

-- an event was done as it is defined, and this was replied
pub record WasReplied {W : Type 0} (took : W → List Output → W → Type 0) (r : Replied) (old new : IssueView) (from to : W) (answer : Reply) : Type 0 where
  pub move : WasMoved took r.move old new from to
  pub reply : answer ≡ r.reply

-- an order traded on a move, which left it so many shares
pub record WasLeft (o : Order) (m : Move) (rest : ℕ) : Type 0 where
  pub left : rest ≡ left_of o.caller o.own m.state
  pub filled : filled_on m o.place + rest ≡ o.left

-- a kind and a quantity that the issue takes now, and the spot of the kind
pub record IsAccepted (t : Terms) (s : State) (kind : Kind) (qty : Qty) (stands : Spot) : Type 0 where
  pub reasons : (more : List (Option Reason)) → first_reason (closed s ∷ bad_qty t qty ∷ bad_price t kind ∷ more) ≡ first_reason more
  pub spot : spot_of t kind ≡ Some stands
  pub on_grid : IsSpotBelow (length t.grid) stands
  pub some : 1 ≤ qty.0
  pub limit : qty.0 ≤ 100000000
  pub units : qty.0 % t.unit ≡ 0

-- this is the first reason to refuse it, whatever others come behind
abbrev pub IsRefusedAnyway : Terms → State → Kind → Qty → Reason → Type 0
IsRefusedAnyway t s kind qty reason = (more : List (Option Reason)) → first_reason (closed s ∷ bad_qty t qty ∷ bad_price t kind ∷ more) ≡ Some reason

-- the first reason why a participant may not change an order that was looked for, or take it out
abbrev pub not_own : Participant → ℕ → Option Order → Option Reason
not_own participant target found = first_reason (unknown target found ∷ not_yours participant found ∷ [])

-- the order of a caller with this own number, which the participant may change
pub record IsOwn (caller : Caller) (target : ℕ) (participant : Participant) (s : State) (o : Order) : Type 0 where
  pub named : named caller target s ≡ Some o
  pub own : not_own participant target (Some o) ≡ None
