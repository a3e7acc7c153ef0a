-- What a turn of a server does to the pass that takes it, for each answer.
use Rattle.std.specs.Prelude.{◌≡◌, ℕ, ◌+◌, ◌<◌, ◌≤◌, List, [], ◌∷◌, ◌++◌, length, Option, Some, None, Result, Ok, Err, ◌≢◌}
use Rattle.mkt_base.specs.declared.event.Entry.{Entry}
use Rattle.mkt_base.specs.declared.event.Event.{Event}
use Rattle.mkt_base.specs.declared.event.Reply.{Reply}
use Rattle.mkt_base.specs.declared.journal.Halt.{Halt}
use Rattle.mkt_base.specs.declared.journal.TurnStop.{TurnStop}
use Rattle.mkt_base.specs.declared.journal.TurnStop.TheVariants.{NoNode, JournalFull}
use Rattle.mkt_base.specs.declared.quote.Board.{Board}
use Rattle.mkt_base.specs.declared.units.Caller.{Caller}
use Rattle.node_rules.specs.Nodes.{up}
use Rattle.turn_cell.specs.Marks.{entries_in, halt_in, marks_in, Begins}
use Rattle.turn_cell.specs.Passes.{Known, tried, Holds}
use Rattle.turn_cell.specs.declared.value.Mark.TheVariants.{Made}
use Rattle.issue_machine.specs.History.{entries_by, nodes_after}
use Rattle.issue_machine.specs.Step.{board_of, state_after, step}
use Rattle.turn_writer.specs.Writing.{asks}
use Rattle.issue_journal.specs.Issue.{Fixed}
use Rattle.issue_journal.specs.Turned.{entry_behind, with_turn}
use Rattle.issue_server.specs.declared.served.TryStop.{TryStop}
use Rattle.issue_server.specs.declared.served.TryStop.TheVariants.{Busy, Stop}

-- the caller of a pass
abbrev pub caller_of : Known Fixed → Caller
caller_of p = record { 0 = p.caller }

-- one turn of the pass more is counted; what it has seen and what it made may be new, and all else of it stays
abbrev pub HasTakenTurn : Known Fixed → Known Fixed → Type 0
HasTakenTurn p q = q ≡ record p { turns = p.turns + 1; seen = q.seen; made = q.made }

-- and so for a turn that makes nothing
abbrev pub HasOnlySeen : Known Fixed → Known Fixed → Type 0
HasOnlySeen p q = q ≡ record p { turns = p.turns + 1; seen = q.seen }

-- whatever a try answers, its cell, caller, block, callers that were met and fixed part stay
abbrev pub StaysThePass : Known Fixed → Known Fixed → Type 0
StaysThePass p q =
    q ≡ record p {
      turns = q.turns;
      tries = q.tries;
      served = q.served;
      ticket = q.ticket;
      seen = q.seen;
      made = q.made;
    }

-- a journal goes on from the entries that the pass has seen, with entries of other callers alone
pub record GoesOnFrom (p : Known Fixed) (journal : List Entry) : Type 0 where
  pub between : List Entry
  pub whole : journal ≡ entries_in p.seen ++ between
  pub others : entries_by p.caller between ≡ []

-- a journal has room for an event and for the losses that it may leave
abbrev pub HasRoom : Fixed → List Entry → Event → Type 0
HasRoom fixed journal event = length journal + 1 + (up (nodes_after journal) + asks event) ≤ fixed.capacity

-- the reply that the rules give to an entry behind a journal
abbrev pub reply_behind : Fixed → List Entry → Entry → Reply
reply_behind fixed journal e = (step fixed.terms e (state_after fixed.terms journal)).reply

-- The event was entered behind a journal that went on from what the pass had seen. The pass has now seen it with the event's entry,
-- which has the caller's next own number, and with the losses that the turn met. The entry joins those that the pass made, and the
-- reply is that of the rules at the entry's place. No halt is seen.
pub record HasEntered (event : Event) (reply : Reply) (p q : Known Fixed) : Type 0 where
  pub fixed : Fixed
  pub fixed_is : p.fixed ≡ Some fixed
  pub journal : List Entry
  pub found : GoesOnFrom p journal
  pub losses : List ℕ
  pub seen : entries_in q.seen ≡ with_turn journal (caller_of p) event losses
  pub own : (entry_behind journal (caller_of p) event).own ≡ length (entries_in p.made)
  pub made : q.made ≡ p.made ++ Made (entry_behind journal (caller_of p) event) ∷ []
  pub reply_is : reply ≡ reply_behind fixed journal (entry_behind journal (caller_of p) event)
  pub running : halt_in q.seen ≡ None
  pub room : HasRoom fixed journal event

-- The journal that the pass has now seen had no room for the event. The three numbers are its length, how many losses the event may
-- leave, and the capacity. The pass made nothing, and no halt is seen.
pub record WasFull (event : Event) (entries losses capacity : ℕ) (p q : Known Fixed) : Type 0 where
  pub fixed : Fixed
  pub fixed_is : p.fixed ≡ Some fixed
  pub found : GoesOnFrom p (entries_in q.seen)
  pub made : q.made ≡ p.made
  pub running : halt_in q.seen ≡ None
  pub entries_are : entries ≡ length (entries_in q.seen)
  pub losses_are : losses ≡ up (nodes_after (entries_in q.seen)) + asks event
  pub capacity_is : capacity ≡ fixed.capacity
  pub full : capacity < entries + 1 + losses

-- The issue is halted, and the pass has seen by what. It entered nothing. A halt of its own caller that it had not seen before is that of this
-- event, for which the journal had room.
pub record HadNoNode (event : Event) (p q : Known Fixed) : Type 0 where
  pub fixed : Fixed
  pub fixed_is : p.fixed ≡ Some fixed
  pub found : GoesOnFrom p (entries_in q.seen)
  pub made : entries_in q.made ≡ entries_in p.made
  pub halt : Halt
  pub halted : halt_in q.seen ≡ Some halt
  pub by_this : halt_in p.seen ≡ None → halt.caller.0 ≡ p.caller → halt.event ≡ event
  pub room : halt_in p.seen ≡ None → halt.caller.0 ≡ p.caller → HasRoom fixed (entries_in q.seen) event

-- why nothing was entered
abbrev pub HasStopped : Event → TurnStop → Known Fixed → Known Fixed → Type 0
HasStopped event NoNode p q = HadNoNode event p q
HasStopped event (JournalFull entries losses capacity) p q = WasFull event entries losses capacity p q

-- what became of an event that was submitted, by the answer
abbrev pub HasAnswered : Event → Result Reply TurnStop → Known Fixed → Known Fixed → Type 0
HasAnswered event (Ok reply) p q = HasEntered event reply p q
HasAnswered event (Err stop) p q = HasStopped event stop p q

-- a pass that has seen a halt is answered that no node is left, and sees no more
abbrev pub StaysHalted : Result Reply TurnStop → Known Fixed → Known Fixed → Type 0
StaysHalted answer p q = (halt : Halt) → halt_in p.seen ≡ Some halt → (answer ≡ Err NoNode) × (q.seen ≡ p.seen)

-- what was seen is a journal, with its halt at the end where there is one
abbrev pub IsJournalSeen : Known Fixed → Type 0
IsJournalSeen q = q.seen ≡ marks_in (entries_in q.seen) (halt_in q.seen)

-- A turn for an event was taken: it is counted; what is seen goes on from what was seen, by whole turns; the pass's own marks, and those of
-- the callers that it met, are those that they made; the answer has its cause; and a halt that was seen stays.
pub record IsServed (event : Event) (answer : Result Reply TurnStop) (p q : Known Fixed) : Type 0 where
  pub turn : HasTakenTurn p q
  pub grows : Begins p.seen q.seen
  pub whole : IsJournalSeen q
  pub holds : Holds q.seen q
  pub answered : HasAnswered event answer p q
  pub halted : StaysHalted answer p q

-- What a try did: what a turn does; or the try failed, which is counted with the two numbers that it found, and these differ.
abbrev pub HasTried : Event → Result Reply TryStop → Known Fixed → Known Fixed → Type 0
HasTried event (Ok reply) p q = IsServed event (Ok reply) p q
HasTried event (Err (Stop stop)) p q = IsServed event (Err stop) p q
HasTried event (Err (Busy served ticket)) p q = (served ≢ ticket) × (q ≡ tried p served ticket)

-- the board of the entries that a pass has seen
pub record IsBoardSeen (board : Board) (q : Known Fixed) : Type 0 where
  pub fixed : Fixed
  pub fixed_is : q.fixed ≡ Some fixed
  pub board_is : board ≡ board_of fixed.terms (state_after fixed.terms (entries_in q.seen))
