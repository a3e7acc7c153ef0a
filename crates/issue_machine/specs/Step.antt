-- One entry's step, the replay of a journal, and the board.
use Rattle.std.specs.Prelude.{ℕ, ◌+◌, List, [], ◌∷◌, if◌then◌else◌}
use Rattle.mkt_base.specs.declared.event.Entry.{Entry}
use Rattle.mkt_base.specs.declared.event.Event.{Event}
use Rattle.mkt_base.specs.declared.event.Event.TheVariants as events
use Rattle.mkt_base.specs.declared.event.Reason.TheVariants.{NodeDown, NodeUp}
use Rattle.mkt_base.specs.declared.event.Reply.{Reply}
use Rattle.mkt_base.specs.declared.event.Reply.TheVariants as replies
use Rattle.mkt_base.specs.declared.journal.NodeState.{NodeState}
use Rattle.mkt_base.specs.declared.output.Output.{Output}
use Rattle.mkt_base.specs.declared.quote.Board.{Board}
use Rattle.node_rules.specs.Nodes.{is_lost, node_step, state_at}
use Rattle.auction_law.specs.Attempt.{best_ask, best_bid}
use Rattle.issue_book.specs.State.{State, Terms, start, stay}
use Rattle.issue_machine.specs.Answering.{Replied, refused, take_cancel, take_change, take_order}
use Rattle.issue_machine.specs.Clock.{take_clock}

-- The crash of a node is refused where it is lost already, and a rejoin where it is not. What becomes of the nodes is told below, by
-- their own rules.
abbrev pub take_crash : ℕ → State → Replied
take_crash node s = if is_lost (state_at s.nodes node) then refused (NodeDown node) s else record { move = stay s; reply = replies.NodeOut node }

abbrev pub take_rejoin : ℕ → State → Replied
take_rejoin node s = if is_lost (state_at s.nodes node) then record { move = stay s; reply = replies.NodeIn node } else refused (NodeUp node) s

-- what the event of an entry does, but for the nodes
abbrev pub event_step : Terms → Entry → Event → State → Replied
event_step t e (events.Order participant side kind qty) s = take_order t e participant side kind qty s
event_step t e (events.Change participant target kind qty) s = take_change t e participant target kind qty s
event_step t e (events.Cancel participant target) s = take_cancel t e participant target s
event_step t e (events.Clock at) s = take_clock t at s
event_step t e (events.Crash node) s = take_crash node s
event_step t e (events.Rejoin node) s = take_rejoin node s

-- a step: the state after it, its reply and its outputs
pub record Stepped : Type 0 where
  pub state : State
  pub reply : Reply
  pub outputs : List Output

-- the nodes after an entry, by their rules
abbrev pub nodes_behind : Entry → State → List NodeState
nodes_behind e s = node_step s.entries e.caller.0 e.event s.nodes

-- the entry is counted, also one that is refused
abbrev pub counted : List NodeState → Replied → Stepped
counted nodes r = record { state = record r.move.state { nodes = nodes; entries = r.move.state.entries + 1 }; reply = r.reply; outputs = r.move.outputs }

unfoldable pub step : Terms → Entry → State → Stepped
step t e s = counted (nodes_behind e s) (event_step t e e.event s)

-- the state after a journal, from a state on and from the start
abbrev pub state_from : Terms → List Entry → State → State
state_from t [] s = s
state_from t (e ∷ es) s = state_from t es (step t e s).state

abbrev pub state_after : Terms → List Entry → State
state_after t journal = state_from t journal (start t)

-- an entry and what its step did
pub record Done : Type 0 where
  pub entry : Entry
  pub stepped : Stepped

-- the steps of a journal's entries, one after another, from a state on
abbrev pub replay : Terms → State → List Entry → List Done
replay t s [] = []
replay t s (e ∷ es) = record { entry = e; stepped = step t e s } ∷ replay t (step t e s).state es

-- the board of a state
abbrev pub board_of : Terms → State → Board
board_of t s =
    record {
      length = s.entries;
      phase = s.phase;
      last = record { 0 = s.last };
      quote = s.quote;
      bid = best_bid t.grid s.orders;
      ask = best_ask t.grid s.orders;
    }
