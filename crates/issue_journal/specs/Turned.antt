-- What a turn did to an issue: for each of its answers.
use Rattle.std.specs.Prelude.{◌≡◌, ℕ, ◌+◌, ◌<◌, ◌≤◌, List, ◌++◌, length, Some, None, Result, Ok, Err, ◌⊎◌}
use Rattle.mkt_base.specs.declared.event.Entry.{Entry}
use Rattle.mkt_base.specs.declared.event.Event.{Event}
use Rattle.mkt_base.specs.declared.event.Reply.{Reply}
use Rattle.mkt_base.specs.declared.journal.Halt.{Halt}
use Rattle.mkt_base.specs.declared.journal.TurnStop.{TurnStop}
use Rattle.mkt_base.specs.declared.journal.TurnStop.TheVariants.{NoNode, JournalFull}
use Rattle.mkt_base.specs.declared.units.Caller.{Caller}
use Rattle.node_rules.specs.Nodes.{up}
use Rattle.issue_machine.specs.History.{entries_by, nodes_after}
use Rattle.issue_machine.specs.Step.{step}
use Rattle.turn_writer.specs.Losses.{AreLosses, Grew}
use Rattle.turn_writer.specs.Writing.{NoneLeft, asks, nodes_behind, turn_entries}
use Rattle.issue_journal.specs.Issue.{IssueNow, state_of}

-- the entry that an event of a caller makes behind a journal
abbrev pub entry_behind : List Entry → Caller → Event → Entry
entry_behind journal caller event = record { place = length journal; caller = caller; own = length (entries_by caller.0 journal); event = event }

-- the journal with a turn: the event's entry, and the losses of nodes that the turn met
abbrev pub with_turn : List Entry → Caller → Event → List ℕ → List Entry
with_turn journal caller event losses = journal ++ turn_entries (entry_behind journal caller event) (length (entries_by 0 journal)) losses

-- The event was recorded, with the losses that the turn met: each of a node that was not lost before, whose count of faults rose. The reply is
-- that of the rules. The issue was not halted, and is not.
pub record TurnDone (caller : Caller) (event : Event) (reply : Reply) (old new : IssueNow) : Type 0 where
  pub losses : List ℕ
  pub entries : new.entries ≡ with_turn old.entries caller event losses
  pub lost : AreLosses (nodes_behind (entry_behind old.entries caller event) old.nodes) losses
  pub grew : Grew losses old.nodes new.nodes
  pub reply_is : reply ≡ (step old.fixed.terms (entry_behind old.entries caller event) (state_of old)).reply
  pub before : old.halt ≡ None
  pub after : new.halt ≡ None

-- the halt of an event
abbrev pub halt_of : Caller → ℕ → Event → Halt
halt_of caller own event = record { caller = caller; own = own; event = event }

-- the issue was halted by this event, since no node was left for it; its journal stays
pub record WasHalted (caller : Caller) (event : Event) (old new : IssueNow) : Type 0 where
  pub running : old.halt ≡ None
  pub halt : new.halt ≡ Some (halt_of caller (length (entries_by caller.0 old.entries)) event)
  pub entries : new.entries ≡ old.entries
  pub left : NoneLeft (entry_behind old.entries caller event) old.nodes new.nodes

-- the issue is halted: it was already, and nothing is changed, or it is by this event
abbrev pub HasNoNode : Caller → Event → IssueNow → IssueNow → Type 0
HasNoNode caller event old new = ((h : Halt) × (old.halt ≡ Some h) × (new ≡ old)) ⊎ WasHalted caller event old new

-- how many losses an event may leave to be recorded: one for each node that is up after it
abbrev pub losses_after : IssueNow → Event → ℕ
losses_after i event = up (nodes_after i.entries) + asks event

-- the issue is not halted, and its journal has no room for the event and these losses; nothing is changed
pub record IsFull (event : Event) (length_is up_is capacity_is : ℕ) (old new : IssueNow) : Type 0 where
  pub running : old.halt ≡ None
  pub full : old.fixed.capacity < length old.entries + 1 + losses_after old event
  pub entries : length_is ≡ length old.entries
  pub losses : up_is ≡ losses_after old event
  pub capacity : capacity_is ≡ old.fixed.capacity
  pub same : new ≡ old

-- why a turn stopped
abbrev pub HasStopped : Caller → Event → TurnStop → IssueNow → IssueNow → Type 0
HasStopped caller event NoNode old new = HasNoNode caller event old new
HasStopped caller event (JournalFull length_is up_is capacity_is) old new = IsFull event length_is up_is capacity_is old new

-- what a turn did, by its answer
abbrev pub HasTurned : Caller → Event → Result Reply TurnStop → IssueNow → IssueNow → Type 0
HasTurned caller event (Ok reply) old new = TurnDone caller event reply old new
HasTurned caller event (Err stop) old new = HasStopped caller event stop old new

-- the journal has room for the event and the losses that it may leave
abbrev pub HasPlace : Event → IssueNow → Type 0
HasPlace event i = length i.entries + 1 + losses_after i event ≤ i.fixed.capacity
