-- Worked examples: the definitions compute to what a reader of the rule would say.
use Rattle.std.specs.Prelude.{◌≡◌, ℕ, List, [], ◌∷◌, Some, None, refl}
use Rattle.mkt_base.specs.declared.event.Entry.{Entry}
use Rattle.mkt_base.specs.declared.journal.Halt.{Halt}
use Rattle.mkt_base.specs.declared.event.Event.TheVariants.{Crash}
use Rattle.turn_cell.specs.Marks.{marks_in, entries_in, halt_in, marks_of, added_to, own_mark, longer_of}
use Rattle.turn_cell.specs.Views.{turn_at, in_block, names_of, size_of, first_view, drawn, readied, counted, rested, lessened, newcomer, joined}
use Rattle.turn_cell.specs.declared.value.Mark.TheVariants.{Made, Ended}
use Rattle.turn_cell.specs.declared.view.Stage.TheVariants.{Idle, Noted, Waiting, Ready}
use Rattle.turn_cell.specs.declared.view.View.{View}

-- an entry of a caller with an own number, at a place
abbrev entry : ℕ → ℕ → ℕ → Entry
entry place caller own = record { place = place; caller = record { 0 = caller }; own = own; event = Crash 0 }

abbrev halt : Halt
halt = record { caller = record { 0 = 2 }; own = 1; event = Crash 0 }

-- caller 1 enters, which loses a node; caller 2 enters
abbrev day : List Entry
day = entry 0 1 0 ∷ entry 1 0 0 ∷ entry 2 2 0 ∷ []

abbrev first : View ℕ
first = first_view 3 7

the_halt_is_last : marks_in day (Some halt) ≡ Made (entry 0 1 0) ∷ Made (entry 1 0 0) ∷ Made (entry 2 2 0) ∷ Ended halt ∷ []
the_halt_is_last = refl

entries_of_the_marks : entries_in (marks_in day (Some halt)) ≡ day
entries_of_the_marks = refl

halt_of_the_marks : halt_in (marks_in day (Some halt)) ≡ Some halt
halt_of_the_marks = refl

no_halt : halt_in (marks_in day None) ≡ None
no_halt = refl

marks_of_a_caller : marks_of 2 (marks_in day (Some halt)) ≡ Made (entry 2 2 0) ∷ Ended halt ∷ []
marks_of_a_caller = refl

-- the turn of caller 1 adds its entry and a loss, of which only the first is its own
own_of_a_turn : own_mark (added_to [] (marks_in (entry 0 1 0 ∷ entry 1 0 0 ∷ []) None)) ≡ Made (entry 0 1 0) ∷ []
own_of_a_turn = refl

longer_list : longer_of (Made (entry 0 1 0) ∷ []) (marks_in day None) ≡ marks_in day None
longer_list = refl

one_caller_in_three : first.caller ∷ first.block ∷ size_of first ∷ [] ≡ 1 ∷ 2 ∷ 3 ∷ []
one_caller_in_three = refl

-- the block of callers 2 and 3
block_of_two : in_block 1 2 3 ∷ in_block 2 2 3 ∷ in_block 3 2 3 ∷ in_block 4 2 3 ∷ [] ≡ 0 ∷ 1 ∷ 1 ∷ 0 ∷ []
block_of_two = refl

first_of_the_block : (newcomer first).caller ≡ 2
first_of_the_block = refl

-- a view has its ticket while it waits and while it has the turn, and no other
ticket_of_a_view : turn_at 5 Waiting 5 ∷ turn_at 5 Ready 5 ∷ turn_at 5 Waiting 6 ∷ turn_at 5 Noted 5 ∷ turn_at 5 Idle 5 ∷ [] ≡ 1 ∷ 1 ∷ 0 ∷ 0 ∷ 0 ∷ []
ticket_of_a_view = refl

-- a turn from the draw to the end
a_whole_turn : rested (counted (readied (drawn first 4) []) (Made (entry 0 1 0) ∷ []))
    ≡ record first { turns = 1; seen = Made (entry 0 1 0) ∷ []; made = Made (entry 0 1 0) ∷ [] }
a_whole_turn = refl

-- caller 2 has ended in caller 1
a_join : size_of (joined (lessened first) (newcomer first)) ∷ names_of 2 (joined (lessened first) (newcomer first)) ∷ [] ≡ 3 ∷ 1 ∷ []
a_join = refl
