-- Worked examples: the definitions compute to what a reader of the rack would say.
use Rattle.std.specs.Prelude.{◌≡◌, ℕ, List, [], ◌∷◌, Some, None, refl}
use Rattle.memory_node.specs.Given.{Given}
use Rattle.memory_node.specs.Slots.{Away, Back, Nothing, given_at, given_by, place_of, told_at}
use Rattle.memory_node.specs.declared.node.Label.{Label}
use Rattle.memory_node.specs.declared.slots.Slot.{Slot}
use Rattle.memory_node.specs.declared.slots.Slot.TheVariants.{Never, Out}

abbrev label : ℕ → ℕ → Label
label issue node = record { issue = issue; node = node }

-- node 1 of issue 0 is out
abbrev slots : List Slot
slots = Never ∷ Out ∷ []

third_of_an_issue : place_of (label 2 1) ≡ 7
third_of_an_issue = refl

next_issue : place_of (label 3 0) ≡ 9
next_issue = refl

never_taken : told_at slots (place_of (label 0 0)) ≡ Nothing
never_taken = refl

taken : told_at slots (place_of (label 0 1)) ≡ Away
taken = refl

behind_the_slots : told_at slots (place_of (label 5 2)) ≡ Nothing
behind_the_slots = refl

-- nothing is told of a node that is out, and of no node above 2
nothing_given : given_at slots (label 0 1) ≡ None
nothing_given = refl

no_such_node : given_at slots (label 0 3) ≡ None
no_such_node = refl

told_as_it_was : (given : Given) → given_by (Back given) ≡ Some given
told_as_it_was given = refl
