-- The law of the room that an issue needs for the lines of a script, in whichever order its gateways enter their events.
use Rattle.std.specs.Prelude.{ℕ, ◌+◌, ◌<◌, ◌≤◌, List, length, take, All}
use Rattle.mkt_base.specs.declared.event.Entry.{Entry}
use Rattle.mkt_base.specs.declared.event.Event.{Event}
use Rattle.node_rules.specs.Nodes.{up}
use Rattle.script_file.specs.declared.script.GatewayScriptLine.{GatewayScriptLine}
use Rattle.issue_machine.specs.History.{IsHistory, nodes_after}
use Rattle.turn_writer.specs.Writing.{asks}
use Rattle.run_law.specs.Run.{count_of, lines_of}
use Rattle.script_run.specs.Running.{capacity_for, count_for}

-- the lines are of gateways with these numbers, from 1 on
abbrev pub AreOfGateways : ℕ → List GatewayScriptLine → Type 0
AreOfGateways gateways made = All (λ (of : GatewayScriptLine). (1 ≤ of.gateway.0) × (of.gateway.0 ≤ gateways)) made

-- the entries are of these gateways, or of the system
abbrev pub AreByGateways : ℕ → List Entry → Type 0
AreByGateways gateways journal = All (λ (e : Entry). e.caller.0 ≤ gateways) journal

-- each gateway has entered no more events in the issue than its lines ask for
abbrev pub AreWithinLines : ℕ → ℕ → List GatewayScriptLine → List Entry → Type 0
AreWithinLines gateways issue made journal = (g : ℕ) → 1 ≤ g → g ≤ gateways → count_of g journal ≤ length (lines_of issue g made)

-- a gateway has entered fewer than its lines ask for: an event of it was stopped, or is still to come
abbrev pub IsShort : ℕ → ℕ → List GatewayScriptLine → List Entry → Type 0
IsShort gateway issue made journal = count_of gateway journal < length (lines_of issue gateway made)

-- how many entries a journal has once an event is entered, with a loss of each node that may be up after it
abbrev pub length_with : Event → List Entry → ℕ
length_with event journal = length journal + 1 + (up (nodes_after journal) + asks event)

-- Where a gateway is short of an event, every front part of the journal leaves room for one event more and for the losses that it may
-- leave, in an issue that was opened for the script.
abbrev pub NoJournalIsFull : Type 0
NoJournalIsFull =
    (participants gateways issue : ℕ) (made : List GatewayScriptLine) (journal : List Entry) (n gateway : ℕ) (event : Event)
    → AreOfGateways gateways made → IsHistory participants journal → n ≤ length journal → AreByGateways gateways journal
    → AreWithinLines gateways issue made journal → 1 ≤ gateway → gateway ≤ gateways → IsShort gateway issue made journal
    → length_with event (take n journal) ≤ capacity_for (count_for issue made)
