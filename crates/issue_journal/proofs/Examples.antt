-- Worked examples: the definitions compute to what a reader of the journal would say.
use Rattle.std.specs.Prelude.{◌≡◌, ℕ, true, false, List, [], ◌∷◌, refl}
use Rattle.mkt_base.specs.declared.event.Entry.{Entry}
use Rattle.mkt_base.specs.declared.event.Event.{Event}
use Rattle.mkt_base.specs.declared.event.Event.TheVariants as events
use Rattle.mkt_base.specs.declared.journal.NodeState.TheVariants.{Lost, Joining, Synchronised}
use Rattle.memory_node.specs.declared.node.Label.{Label}
use Rattle.mirror.specs.Replicas.{Replica, replica}
use Rattle.issue_journal.specs.Issue.{recorded}
use Rattle.issue_journal.specs.Laws.{rejoins}
use Rattle.issue_journal.specs.Reading.{is_gone, lose_if, met}
use Rattle.issue_journal.specs.Turned.{entry_behind, with_turn}

abbrev entry : ℕ → ℕ → ℕ → Event → Entry
entry place caller own event = record { place = place; caller = record { 0 = caller }; own = own; event = event }

-- a gateway's clock, the loss of node 1, a gateway's crash of node 2, its rejoin
abbrev journal : List Entry
journal = entry 0 1 0 (events.Clock 5) ∷ entry 1 0 0 (events.Crash 1) ∷ entry 2 1 1 (events.Crash 2) ∷ entry 3 2 0 (events.Rejoin 2) ∷ []

a_loss_is_recorded : recorded 1 journal ≡ 1
a_loss_is_recorded = refl

-- the crash that a gateway asks for is no loss
a_crash_is_no_loss : recorded 2 journal ≡ 0
a_crash_is_no_loss = refl

one_rejoin : rejoins journal ≡ 1
one_rejoin = refl

next_of_the_first_gateway : entry_behind journal (record { 0 = 1 }) (events.Clock 6) ≡ entry 4 1 2 (events.Clock 6)
next_of_the_first_gateway = refl

next_of_another : entry_behind journal (record { 0 = 3 }) (events.Clock 6) ≡ entry 4 3 0 (events.Clock 6)
next_of_another = refl

-- a turn that loses nodes 2 and 0 has their losses behind it, in this order, with the system's next own numbers
losses_stand_behind : with_turn (entry 0 1 0 (events.Clock 5) ∷ []) (record { 0 = 1 }) (events.Clock 6) (2 ∷ 0 ∷ [])
    ≡ entry 0 1 0 (events.Clock 5) ∷ entry 1 1 1 (events.Clock 6) ∷ entry 2 0 0 (events.Crash 2) ∷ entry 3 0 1 (events.Crash 0) ∷ []
losses_stand_behind = refl

no_loss : with_turn [] (record { 0 = 1 }) (events.Clock 6) [] ≡ entry 0 1 0 (events.Clock 6) ∷ []
no_loss = refl

-- ---- nodes that are read

abbrev empty : Label → Replica
empty label = replica Lost [] 8 label 3 1

an_empty_node_is_gone : (label : Label) → is_gone 3 Synchronised (empty label) ≡ true
an_empty_node_is_gone label = refl

-- of an empty journal it holds all
nothing_is_all_of_nothing : (label : Label) → is_gone 0 Synchronised (empty label) ≡ false
nothing_is_all_of_nothing label = refl

-- one that was joining or lost before is none of them
joining_is_not_gone : (label : Label) → is_gone 3 (Joining 1) (empty label) ≡ false
joining_is_not_gone label = refl

losses_by_number : met true false true ≡ 0 ∷ 2 ∷ []
losses_by_number = refl

one_is_lost : lose_if true 1 (Synchronised ∷ Synchronised ∷ Joining 2 ∷ []) ≡ Synchronised ∷ Lost ∷ Joining 2 ∷ []
one_is_lost = refl
