-- What lines of a script ask of one desk, what it answers, and what becomes of it.
use Rattle.std.specs.Prelude.{◌≡◌, ℕ, ◌+◌, ◌≤◌, Bool, true, false, List, [], ◌∷◌, ◌++◌, length, map, filter_map, Option, Some, None, Result, Ok, Err, All, AllPairs, slice_get}
use Rattle.mkt_base.specs.Desk.{DeskState}
use Rattle.mkt_base.specs.declared.event.Event.{Event}
use Rattle.mkt_base.specs.declared.event.Reply.{Reply}
use Rattle.mkt_base.specs.declared.journal.Halt.{Halt}
use Rattle.mkt_base.specs.declared.journal.Stopped.{Stopped}
use Rattle.mkt_base.specs.declared.journal.TurnStop.{TurnStop}
use Rattle.mkt_base.specs.declared.journal.TurnStop.TheVariants.{NoNode, JournalFull}
use Rattle.mkt_base.specs.declared.quote.Board.{Board}
use Rattle.mkt_base.specs.declared.script.Act.{Act}
use Rattle.mkt_base.specs.declared.script.Act.TheVariants.{Do, Show}

-- ---- what is asked and answered

-- an event was submitted and answered so, or the board was read
pub data Answer : Type 0 where
  Entered : Event → Result Reply TurnStop → Answer
  Shown : Board → Answer

-- the act that it answers
abbrev pub act_of : Answer → Act
act_of (Entered event reply) = Do event
act_of (Shown board) = Show

-- the event that was entered: none where it was stopped
abbrev pub made_by : Answer → Option Event
made_by (Entered event (Ok reply)) = Some event
made_by (Entered event (Err cause)) = None
made_by (Shown board) = None

-- the event that was stopped, with the cause
abbrev pub stop_by : Answer → Option Stopped
stop_by (Entered event (Ok reply)) = None
stop_by (Entered event (Err cause)) = Some (record { event = event; cause = cause })
stop_by (Shown board) = None

-- the board that was read
abbrev pub board_by : Answer → Option Board
board_by (Entered event reply) = None
board_by (Shown board) = Some board

-- it was answered that no node is left
abbrev pub is_no_node : Answer → Bool
is_no_node (Entered event (Ok reply)) = false
is_no_node (Entered event (Err NoNode)) = true
is_no_node (Entered event (Err (JournalFull length up capacity))) = false
is_no_node (Shown board) = false

-- ---- in order

abbrev pub events_made : List Answer → List Event
events_made answers = filter_map made_by answers

-- the lengths of the boards that were read
abbrev pub lengths_shown : List Answer → List ℕ
lengths_shown answers = map (λ (board : Board). board.length) (filter_map board_by answers)

-- the stop that a desk keeps: the one that it had, else the first of these
abbrev pub first_stop : Option Stopped → List Answer → Option Stopped
first_stop (Some kept) answers = Some kept
first_stop None answers = slice_get (filter_map stop_by answers) 0

-- each board was told with as many events as had been made by then, of which so many were made before
abbrev pub AreTold : (Board → ℕ → Type 0) → ℕ → List Answer → Type 0
AreTold tells made [] = Unit {0}
AreTold tells made (Entered event (Ok reply) ∷ answers) = AreTold tells (made + 1) answers
AreTold tells made (Entered event (Err cause) ∷ answers) = AreTold tells made answers
AreTold tells made (Shown board ∷ answers) = tells board made × AreTold tells made answers

-- ---- what becomes of the desk

-- A desk of one state gave these answers, and is of another state afterwards. It may have shown more boards than these.
pub record Served {D F : Type 0} (state : D → DeskState) (fixed : D → F) (tells : D → Board → ℕ → Type 0) (answers : List Answer) (old new : D) : Type 0 where
  -- what is fixed stays, and what it has seen or said stays true
  pub same : fixed new ≡ fixed old
  pub seen : (state old).seen ≤ (state new).seen
  pub told : (board : Board) (made : ℕ) → tells old board made → tells new board made
  pub halt : (h : Halt) → (state old).halt ≡ Some h → (state new).halt ≡ Some h
  pub ended : (state old).ended ≡ true → (state new).ended ≡ true
  -- the events that were not stopped are entered, in order, and the first stop is kept
  pub made : (state new).made ≡ (state old).made ++ events_made answers
  pub stop : (state new).stop ≡ first_stop (state old).stop answers
  -- nothing is entered behind an event for which no node was left
  pub quiet : AllPairs (λ (x y : Answer). is_no_node x ≡ true → made_by y ≡ None) answers
  pub gave_up : All (λ (x : Answer). is_no_node x ≡ true → (state new).ended ≡ true) answers
  -- nor where that was so before, or a halt was seen
  pub no_node_before : (event : Event) → (state old).stop ≡ Some (record { event = event; cause = NoNode }) → events_made answers ≡ []
  pub halt_before : (h : Halt) → (state old).halt ≡ Some h → events_made answers ≡ []
  pub ended_before : (state old).ended ≡ true → events_made answers ≡ []
  -- each board is that of the events made by then, and their lengths do not fall
  pub boards : AreTold (tells new) (length (state old).made) answers
  pub from : All (λ (n : ℕ). (state old).seen ≤ n) (lengths_shown answers)
  pub upto : All (λ (n : ℕ). n ≤ (state new).seen) (lengths_shown answers)
  pub forward : AllPairs (λ (m n : ℕ). m ≤ n) (lengths_shown answers)

-- ---- what a line needs

-- a desk that is fixed so takes the event of the act
abbrev pub TakesAct : {F : Type 0} → (F → Event → Type 0) → F → Act → Type 0
TakesAct takes f (Do event) = takes f event
TakesAct takes f Show = Unit {0}
