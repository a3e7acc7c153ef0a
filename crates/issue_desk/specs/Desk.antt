-- The desk of a gateway in one issue: its pass, and the first event that it could not enter.
use Rattle.std.specs.Prelude.{◌≡◌, ℕ, ◌+◌, ◌<◌, ◌≤◌, Bool, true, false, ◌||◌, List, [], length, map, take, Option, None, Some, IfSome, is_some, slice_get}
use Rattle.atomic_table.specs.Seated.{TableId}
use Rattle.mkt_base.specs.Desk.{DeskState}
use Rattle.mkt_base.specs.declared.event.Entry.{Entry}
use Rattle.mkt_base.specs.declared.event.Event.{Event}
use Rattle.mkt_base.specs.declared.journal.Halt.{Halt}
use Rattle.mkt_base.specs.declared.journal.Stopped.{Stopped}
use Rattle.mkt_base.specs.declared.journal.TurnStop.{TurnStop}
use Rattle.mkt_base.specs.declared.journal.TurnStop.TheVariants.{NoNode, JournalFull}
use Rattle.mkt_base.specs.declared.quote.Board.{Board}
use Rattle.node_rules.specs.Nodes.{up}
use Rattle.turn_cell.specs.Marks.{entries_in, halt_in}
use Rattle.turn_cell.specs.Passes.{Holds, Known}
use Rattle.turn_writer.specs.Writing.{asks}
use Rattle.issue_machine.specs.History.{entries_by, nodes_after}
use Rattle.issue_machine.specs.Journal.{IsEventOf}
use Rattle.issue_machine.specs.Step.{board_of, state_after}
use Rattle.issue_journal.specs.Issue.{Fixed}

pub record DeskNow : Type 0 where
  pub pass : Known Fixed
  pub stop : Option Stopped

-- what no turn changes of a pass: its cell, its caller, the callers of the cell, its block, those that it has met, and the fixed part of the
-- cell's value
abbrev pub at_rest : Known Fixed → Known Fixed
at_rest p = record p { turns = 0; tries = 0; served = 0; ticket = 0; seen = []; made = [] }

-- the events that the pass's caller has entered
abbrev pub events_of : Known Fixed → List Event
events_of p = map (λ (e : Entry). e.event) (entries_in p.made)

-- no node was left
abbrev pub has_no_node : TurnStop → Bool
has_no_node NoNode = true
has_no_node (JournalFull entries losses capacity) = false

-- the stop found no node
abbrev pub is_no_node : Option Stopped → Bool
is_no_node None = false
is_no_node (Some s) = has_no_node s.cause

abbrev pub state_of : DeskNow → DeskState
state_of d =
    record {
      made = events_of d.pass;
      seen = length (entries_in d.pass.seen);
      stop = d.stop;
      halt = halt_in d.pass.seen;
      ended = is_some (halt_in d.pass.seen) || is_no_node d.stop;
    }

-- the issue takes an event of these participants
abbrev pub Takes : Known Fixed → Event → Type 0
Takes p event = IfSome p.fixed (λ (f : Fixed). IsEventOf f.participants event)

-- The board is that of the first entries that the pass has seen, as many as it tells: whole turns, among them the first so many of its own
-- caller's entries and none of the later ones.
pub record Tells (p : Known Fixed) (board : Board) (made : ℕ) : Type 0 where
  pub within : board.length ≤ length (entries_in p.seen)
  pub board_is : (f : Fixed) → p.fixed ≡ Some f → board ≡ board_of f.terms (state_after f.terms (take board.length (entries_in p.seen)))
  pub own : entries_by p.caller (take board.length (entries_in p.seen)) ≡ take made (entries_in p.made)
  pub made_by_then : made ≤ length (entries_in p.made)
  pub whole : IfSome (slice_get (entries_in p.seen) board.length) (λ (e : Entry). 1 ≤ e.caller.0)

-- The journal had no room for an event when it had so many entries, all of which the pass has seen.
pub record WasFull (event : Event) (entries : ℕ) (p : Known Fixed) : Type 0 where
  pub seen : entries ≤ length (entries_in p.seen)
  pub fixed : Fixed
  pub fixed_is : p.fixed ≡ Some fixed
  pub full : fixed.capacity < entries + 1 + (up (nodes_after (take entries (entries_in p.seen))) + asks event)

-- What holds of every desk. The pass is a gateway's, and the marks of its caller are those that it made. A stop has its cause: the journal was
-- full, or the pass has seen a halt. A halt of the caller's own event is the first stop that found no node.
pub record IsDesk (d : DeskNow) : Type 0 where
  pub gateway : (1 ≤ d.pass.caller) × (d.pass.caller ≤ 16)
  pub fixed : is_some d.pass.fixed ≡ true
  pub holds : Holds d.pass.seen d.pass
  pub no_node : (event : Event) → d.stop ≡ Some (record { event = event; cause = NoNode }) → is_some (halt_in d.pass.seen) ≡ true
  pub full : (event : Event) (entries losses capacity : ℕ) → d.stop ≡ Some (record { event = event; cause = JournalFull entries losses capacity }) → WasFull event entries d.pass
  pub stopped : (h : Halt) → halt_in d.pass.seen ≡ Some h → h.caller.0 ≡ d.pass.caller → is_some d.stop ≡ true
  pub own : (h : Halt) (event : Event) → halt_in d.pass.seen ≡ Some h → h.caller.0 ≡ d.pass.caller → d.stop ≡ Some (record { event = event; cause = NoNode }) → event ≡ h.event

-- the pass that a desk holds; while a call has it there is none, and this one stands for it
abbrev pub held : TableId → Option (Known Fixed) → Known Fixed
held cell (Some p) = p
held cell None = record { cell = cell; caller = 0; callers = 0; block = 0; turns = 0; tries = 0; served = 0; ticket = 0; seen = []; made = []; met = []; fixed = None }

abbrev pub desk_of : TableId → Option (Known Fixed) → Option Stopped → DeskNow
desk_of cell pass stop = record { pass = held cell pass; stop = stop }

-- between its calls it holds a pass of its server
pub record HoldsPass (cell : TableId) (pass : Option (Known Fixed)) (stop : Option Stopped) : Type 0 where
  pub some : is_some pass ≡ true
  pub cell_is : (held cell pass).cell ≡ cell
  pub desk : IsDesk (desk_of cell pass stop)
