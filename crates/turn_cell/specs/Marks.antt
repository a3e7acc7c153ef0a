-- Journals as lists of marks, and what one turn may add to them.
use Rattle.std.specs.Prelude.{◌≡◌, ◌≢◌, ℕ, ◌==◌, ◌<◌, slice_index_or, List, [], ◌∷◌, ◌++◌, map, filter, drop, length, take, Option, Some, None, All, cond, nat_lt}
use Rattle.mkt_base.specs.declared.event.Entry.{Entry}
use Rattle.mkt_base.specs.declared.journal.Halt.{Halt}
use Rattle.turn_cell.specs.declared.value.Mark.{Mark}
use Rattle.turn_cell.specs.declared.value.Mark.TheVariants.{Made, Ended}
use Rattle.turn_cell.specs.declared.view.Gone.{Gone}

-- a halt, where there is one, as the last mark
abbrev pub end_of : Option Halt → List Mark
end_of None = []
end_of (Some halt) = Ended halt ∷ []

-- the marks of a journal: its entries, and after them its halt
abbrev pub marks_in : List Entry → Option Halt → List Mark
marks_in entries halt = map Made entries ++ end_of halt

-- the marks of a value, by the meanings of its journal
abbrev pub marks_by : {T : Type 0} → (T → List Entry) → (T → Option Halt) → T → List Mark
marks_by entries halt x = marks_in (entries x) (halt x)

-- the entries among the marks
abbrev pub entries_in : List Mark → List Entry
entries_in [] = []
entries_in (Made e ∷ ms) = e ∷ entries_in ms
entries_in (Ended h ∷ ms) = entries_in ms

-- the first halt among the marks
abbrev pub halt_in : List Mark → Option Halt
halt_in [] = None
halt_in (Made e ∷ ms) = halt_in ms
halt_in (Ended h ∷ ms) = Some h

-- whose mark it is: 0 is the system
abbrev pub caller_of : Mark → ℕ
caller_of (Made e) = e.caller.0
caller_of (Ended h) = h.caller.0

-- the marks of one caller, in order
abbrev pub marks_of : ℕ → List Mark → List Mark
marks_of caller = filter (λ m. caller_of m == caller)

-- the list is empty, or it starts with a mark that is not the system's: a turn starts there
abbrev pub StartsTurn : List Mark → Type 0
StartsTurn [] = Unit {0}
StartsTurn (m ∷ ms) = caller_of m ≢ 0

-- the second list begins with the first, and what follows starts a turn
abbrev pub Begins : List Mark → List Mark → Type 0
Begins front whole = (rest : List Mark) × (whole ≡ front ++ rest) × StartsTurn rest

-- an entry of the system, which says that a node was lost
abbrev pub IsLoss : Mark → Type 0
IsLoss (Made e) = e.caller.0 ≡ 0
IsLoss (Ended h) = ⊥

-- what one turn of a caller may add: nothing, or its entry with its next own number and then losses, or such a halt
abbrev pub IsTurn : ℕ → ℕ → List Mark → Type 0
IsTurn caller own [] = Unit {0}
IsTurn caller own (Made e ∷ losses) = (e.caller.0 ≡ caller) × (e.own ≡ own) × All IsLoss losses
IsTurn caller own (Ended h ∷ rest) = (h.caller.0 ≡ caller) × (h.own ≡ own) × (rest ≡ [])

-- what stands in the longer list after the first one
abbrev pub added_to : List Mark → List Mark → List Mark
added_to seen marks = drop (length seen) marks

-- the mark that a turn made for its own caller, if any: it is the first that the turn added
abbrev pub own_mark : List Mark → List Mark
own_mark added = take 1 added

-- the marks of the caller are those that it made, and the marks of each caller that it has met those that were made there
abbrev pub Owned : List Mark → ℕ → List Mark → List Gone → Type 0
Owned marks caller made met = (marks_of caller marks ≡ made) × All (λ g. marks_of g.caller marks ≡ g.made) met

-- the own numbers of the entries that a caller made are 0, 1, 2 and so on
abbrev pub Numbered : List Mark → Type 0
Numbered made = (k : ℕ) (d : Entry) → k < length (entries_in made) → (slice_index_or (entries_in made) k d).own ≡ k

-- of two lists the longer one, and the shorter one
abbrev pub longer_of : List Mark → List Mark → List Mark
longer_of a b = cond (nat_lt (length a) (length b)) b a

abbrev pub shorter_of : List Mark → List Mark → List Mark
shorter_of a b = cond (nat_lt (length a) (length b)) a b
