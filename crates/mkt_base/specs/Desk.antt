-- What a desk stands for, and what its calls do to it.
use Rattle.std.specs.Prelude.{◌≡◌, ℕ, ◌≤◌, Bool, true, List, [], ◌∷◌, ◌++◌, Option, None, Some, Result, Ok, Err}
use Rattle.mkt_base.specs.declared.event.Event.{Event}
use Rattle.mkt_base.specs.declared.event.Reply.{Reply}
use Rattle.mkt_base.specs.declared.journal.Halt.{Halt}
use Rattle.mkt_base.specs.declared.journal.Stopped.{Stopped}
use Rattle.mkt_base.specs.declared.journal.TurnStop.{TurnStop}
use Rattle.mkt_base.specs.declared.journal.TurnStop.TheVariants.{NoNode}
use Rattle.mkt_base.specs.declared.quote.Board.{Board}

-- What a desk has done: the events that it has entered, in order; how many entries of its journal it has seen; the first event
-- that it could not enter; the halt that it has seen; and whether it enters nothing any more.
pub record DeskState : Type 0 where
  pub made : List Event
  pub seen : ℕ
  pub stop : Option Stopped
  pub halt : Option Halt
  pub ended : Bool

-- a desk that could not enter an event since no node was left, or has seen a halt, enters nothing any more
pub record IsDeskState (d : DeskState) : Type 0 where
  pub no_node : (event : Event) → d.stop ≡ Some (record { event = event; cause = NoNode }) → d.ended ≡ true
  pub halted : (h : Halt) → d.halt ≡ Some h → d.ended ≡ true

-- the events that were entered, after the answer to one more
abbrev pub made_with : List Event → Event → Result Reply TurnStop → List Event
made_with made event (Ok _) = made ++ event ∷ []
made_with made event (Err _) = made

-- the first stop, after the answer to one event more
abbrev pub stop_with : Option Stopped → Event → Result Reply TurnStop → Option Stopped
stop_with (Some first) event answer = Some first
stop_with None event (Ok _) = None
stop_with None event (Err cause) = Some (record { event = event; cause = cause })

-- An event was submitted: it joins those that were entered where it was answered with Ok; the first stop is kept; a desk that
-- enters nothing any more answers so. What was seen does not become less, and a halt that was seen stays.
pub record WasSubmitted (event : Event) (answer : Result Reply TurnStop) (old new : DeskState) : Type 0 where
  pub made : new.made ≡ made_with old.made event answer
  pub stop : new.stop ≡ stop_with old.stop event answer
  pub seen : old.seen ≤ new.seen
  pub halt : (h : Halt) → old.halt ≡ Some h → new.halt ≡ Some h
  pub quiet : old.ended ≡ true → answer ≡ Err NoNode
  pub no_node : answer ≡ Err NoNode → new.ended ≡ true
  pub ended : old.ended ≡ true → new.ended ≡ true

-- The board was read: nothing was entered, the stop is as before, and the board is that of all that was seen.
pub record WasShown (board : Board) (old new : DeskState) : Type 0 where
  pub made : new.made ≡ old.made
  pub stop : new.stop ≡ old.stop
  pub seen : old.seen ≤ new.seen
  pub all : board.length ≡ new.seen
  pub halt : (h : Halt) → old.halt ≡ Some h → new.halt ≡ Some h
  pub ended : old.ended ≡ true → new.ended ≡ true
