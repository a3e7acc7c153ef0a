-- Worked examples of what lines ask of desks, and of what becomes of them.
use Rattle.std.proofs.Common.{◌≡◌, ℕ, List, [], ◌∷◌, Some, None, Ok, Err, refl}
use Rattle.mkt_base.specs.declared.event.Event.{Event}
use Rattle.mkt_base.specs.declared.event.Event.TheVariants.{Cancel}
use Rattle.mkt_base.specs.declared.event.Phase.TheVariants.{Idle}
use Rattle.mkt_base.specs.declared.event.Reply.{Reply}
use Rattle.mkt_base.specs.declared.event.Reply.TheVariants.{Cancelled}
use Rattle.mkt_base.specs.declared.journal.TurnStop.{TurnStop}
use Rattle.mkt_base.specs.declared.journal.TurnStop.TheVariants.{NoNode, JournalFull}
use Rattle.mkt_base.specs.declared.quote.Board.{Board}
use Rattle.mkt_base.specs.declared.script.Act.{Act}
use Rattle.mkt_base.specs.declared.script.Act.TheVariants.{Do, Show}
use Rattle.mkt_base.specs.declared.script.ScriptLine.{ScriptLine}
use Rattle.gateway.specs.Ran.{Deed, answers_at, lines_after, lines_in, show_of}
use Rattle.gateway.specs.Served.{Answer, AreTold, Entered, Shown, events_made, first_stop, lengths_shown}

-- cancels of the orders 1, 2 and so on, a reply, a stop, and a board of so many entries
abbrev cancel : ℕ → Event
cancel n = Cancel (record { 0 = 1 }) n

abbrev reply : Reply
reply = Cancelled 100

abbrev full : TurnStop
full = JournalFull 20 3 20

abbrev board : ℕ → Board
board n = record { length = n; phase = Idle; last = record { 0 = 500 }; quote = None; bid = None; ask = None }

abbrev line : ℕ → ℕ → ℕ → Act → ScriptLine
line n stage issue act = record { line = n; stage = stage; issue = issue; act = act }

-- one event entered, one stopped, a board, one entered
abbrev day : List Answer
day = Entered (cancel 1) (Ok reply) ∷ Entered (cancel 2) (Err full) ∷ Shown (board 7) ∷ Entered (cancel 3) (Err NoNode) ∷ Shown (board 9) ∷ []

pub made : events_made (Entered (cancel 5) (Ok reply) ∷ day) ≡ cancel 5 ∷ cancel 1 ∷ []
made = refl

pub first_of_two_stops : first_stop None day ≡ Some (record { event = cancel 2; cause = full })
first_of_two_stops = refl

pub stop_of_before : first_stop (Some (record { event = cancel 8; cause = NoNode })) day ≡ Some (record { event = cancel 8; cause = NoNode })
stop_of_before = refl

pub lengths : lengths_shown day ≡ 7 ∷ 9 ∷ []
lengths = refl

-- four events were made before, so both boards have five
pub told : (tells : Board → ℕ → Type 0) → tells (board 7) 5 → tells (board 9) 5 → AreTold tells 4 day
told tells first second = (first, (second, tt))

-- ---- lines of two stages and two issues

abbrev lines : List ScriptLine
lines = line 1 0 0 Show ∷ line 3 1 0 (Do (cancel 1)) ∷ line 4 1 1 Show ∷ line 8 2 1 Show ∷ []

pub in_stage : lines_in 1 lines ≡ line 3 1 0 (Do (cancel 1)) ∷ line 4 1 1 Show ∷ []
in_stage = refl

pub after_stage : lines_after 1 lines ≡ line 8 2 1 Show ∷ []
after_stage = refl

abbrev deeds : List Deed
deeds = record { line = line 3 1 0 (Do (cancel 1)); answer = Entered (cancel 1) (Ok reply) } ∷ record { line = line 4 1 1 Show; answer = Shown (board 6) } ∷ []

pub at_the_second : answers_at 1 deeds ≡ Shown (board 6) ∷ []
at_the_second = refl

pub kept : show_of (record { 0 = 2 }) (record { line = line 4 1 1 Show; answer = Shown (board 6) }) ≡ Some (record { line = 4; gateway = record { 0 = 2 }; issue = 1; board = board 6 })
kept = refl
