-- Worked examples: the states compute to what a reader of the rules would say.
use Rattle.std.specs.Prelude.{◌≡◌, true, false, List, [], ◌∷◌, None, Some, refl}
use Rattle.mkt_base.specs.declared.event.Event.TheVariants as events
use Rattle.mkt_base.specs.declared.journal.NodeState.{NodeState}
use Rattle.mkt_base.specs.declared.journal.NodeState.TheVariants.{Lost, Joining, Synchronised}
use Rattle.node_rules.specs.Nodes.{after_event, all_caught, all_synchronised, has_synchronised, joins, node_step, up}

-- one node is lost, one joins with ten records, one is synchronised
abbrev mixed : List NodeState
mixed = Lost ∷ Joining 10 ∷ Synchronised ∷ []

two_are_up : up mixed ≡ 2
two_are_up = refl

joining_is_not_enough : has_synchronised (Lost ∷ Joining 10 ∷ Lost ∷ []) ≡ false
joining_is_not_enough = refl

a_crash_takes_one : node_step 0 1 (events.Crash 0) all_synchronised ≡ Lost ∷ Synchronised ∷ Synchronised ∷ []
unfolding node_step all_caught after_event
a_crash_takes_one = refl

-- a short journal is copied at once, the rejoin's own entry included
short_journal_joins_at_once : node_step 63 1 (events.Rejoin 0) (Lost ∷ Synchronised ∷ Synchronised ∷ []) ≡ all_synchronised
unfolding node_step all_caught after_event
short_journal_joins_at_once = refl

-- a longer one in pieces
longer_journal_joins_in_pieces : node_step 100 1 (events.Rejoin 0) (Lost ∷ Synchronised ∷ Synchronised ∷ []) ≡ Joining 64 ∷ Synchronised ∷ Synchronised ∷ []
unfolding node_step all_caught after_event
longer_journal_joins_in_pieces = refl

next_entry_ends_it : node_step 101 1 (events.Clock 0) (Joining 64 ∷ Synchronised ∷ Synchronised ∷ []) ≡ all_synchronised
unfolding node_step all_caught after_event
next_entry_ends_it = refl

piece_by_piece : node_step 200 1 (events.Clock 0) (Joining 64 ∷ Synchronised ∷ Synchronised ∷ []) ≡ Joining 128 ∷ Synchronised ∷ Synchronised ∷ []
unfolding node_step all_caught after_event
piece_by_piece = refl

-- what the system enters moves no joining node
the_system_copies_nothing : node_step 200 0 (events.Crash 1) (Joining 64 ∷ Synchronised ∷ Synchronised ∷ []) ≡ Joining 64 ∷ Lost ∷ Synchronised ∷ []
unfolding node_step all_caught after_event
the_system_copies_nothing = refl

-- the last synchronised node crashes, while another catches up at the same entry
caught_up_in_time : has_synchronised (node_step 101 1 (events.Crash 1) (Joining 64 ∷ Synchronised ∷ Lost ∷ [])) ≡ true
unfolding node_step all_caught after_event
caught_up_in_time = refl

-- only a lost node joins
a_joining_node_does_not_join_again : joins (events.Rejoin 1) mixed ≡ None
a_joining_node_does_not_join_again = refl

a_lost_node_joins : joins (events.Rejoin 0) mixed ≡ Some 0
a_lost_node_joins = refl
