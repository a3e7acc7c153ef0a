-- A law of histories: the clause of the function of the same name.
use Rattle.std.specs.Prelude.{ℕ, ◌+◌, ◌≤◌, Bool, true, false, List, length, count_by}
use Rattle.mkt_base.specs.declared.event.Entry.{Entry}
use Rattle.mkt_base.specs.declared.event.Event.{Event}
use Rattle.mkt_base.specs.declared.event.Event.TheVariants as events
use Rattle.node_rules.specs.Nodes.{up}
use Rattle.issue_machine.specs.History.{IsHistory, entries_by, nodes_after}

-- a rejoin of a node
abbrev pub is_rejoin : Event → Bool
is_rejoin (events.Rejoin node) = true
is_rejoin event = false

-- how many entries are rejoins
abbrev pub rejoins : List Entry → ℕ
rejoins journal = count_by (λ e. is_rejoin e.event) journal

-- In every history the system's entries, and the nodes that are up at its end, are no more than three and one for each rejoin. So a capacity
-- of twice the events and four is never met.
abbrev pub LossesStayFew : Type 0
LossesStayFew = (participants : ℕ) (journal : List Entry) → IsHistory participants journal → length (entries_by 0 journal) + up (nodes_after journal) ≤ 3 + rejoins journal
