-- Worked examples: the losses of turns as a reader would write them down.
use Rattle.std.specs.Prelude.{◌≡◌, ◌<◌, List, [], ◌∷◌, true, false, refl}
use Rattle.mkt_base.specs.declared.event.Entry.{Entry}
use Rattle.mkt_base.specs.declared.event.Event.TheVariants as events
use Rattle.mkt_base.specs.declared.journal.NodeState.{NodeState}
use Rattle.mkt_base.specs.declared.journal.NodeState.TheVariants.{Lost, Joining, Synchronised}
use Rattle.turn_writer.specs.Losses.{AreLosses, loss_at, losses_from, times, with_lost}
use Rattle.turn_writer.specs.Went.{caught_order, in_order, without}
use Rattle.turn_writer.specs.Writing.{asks, turn_entries}

-- a moment that gateway 2 entered as its own number 5, at place 40
abbrev moment : Entry
moment = record { place = 40; caller = record { 0 = 2 }; own = 5; event = events.Clock 3600000 }

-- node 0 joins with ten records, the others are synchronised
abbrev joining : List NodeState
joining = Joining 10 ∷ Synchronised ∷ Synchronised ∷ []

the_loss_of_a_node : loss_at 41 7 2 ≡ record { place = 41; caller = record { 0 = 0 }; own = 7; event = events.Crash 2 }
the_loss_of_a_node = refl

-- losses have places and own numbers in a row
two_losses : losses_from 41 7 (2 ∷ 0 ∷ []) ≡ loss_at 41 7 2 ∷ loss_at 42 8 0 ∷ []
two_losses = refl

-- they stand behind the entry
a_turn_with_a_loss : turn_entries moment 7 (1 ∷ []) ≡ moment ∷ loss_at 41 7 1 ∷ []
a_turn_with_a_loss = refl

a_turn_without : turn_entries moment 7 [] ≡ moment ∷ []
a_turn_without = refl

two_nodes_lost : with_lost (1 ∷ 0 ∷ []) joining ≡ Lost ∷ Lost ∷ Synchronised ∷ []
two_nodes_lost = refl

-- a joining node may be lost too, and each node is lost once
in_this_order : (1 < 3) → (0 < 3) → AreLosses joining (1 ∷ 0 ∷ [])
in_this_order one zero = (one, refl, (zero, refl, tt))

-- so a node is not lost again
lost_once : AreLosses (Lost ∷ Synchronised ∷ Synchronised ∷ []) (0 ∷ []) → ◌≡◌ true false
lost_once losses = losses.1

one_of_two : times 0 (1 ∷ 0 ∷ []) ≡ 1
one_of_two = refl

-- a rejoin asks for room for one node more
a_rejoin_asks : asks (events.Rejoin 1) ≡ 1
a_rejoin_asks = refl

a_crash_does_not : asks (events.Crash 1) ≡ 0
a_crash_does_not = refl

-- what one put lost stands by number; what a catch-up lost has the node that joins behind its sources
by_number : in_order 0 1 2 (true ∷ false ∷ true ∷ []) ≡ 0 ∷ 2 ∷ []
by_number = refl

joining_node_last : caught_order 0 (true ∷ false ∷ true ∷ []) ≡ 2 ∷ 0 ∷ []
joining_node_last = refl

-- a crash takes its node out of the list
no_loss_any_more : without 2 (2 ∷ 0 ∷ []) ≡ 0 ∷ []
no_loss_any_more = refl
