-- The events that a desk in memory has entered, by their places in its journal.
use Rattle.std.specs.Prelude.{ℕ, ◌<◌, List, count_by, nat_lt, All}

-- how many of them stand in a front of so many entries
abbrev pub entered_in : ℕ → List ℕ → ℕ
entered_in entries places = count_by (λ (place : ℕ). nat_lt place entries) places

-- they stand in a front of so many entries
abbrev pub AreWithin : ℕ → List ℕ → Type 0
AreWithin entries places = All (λ (place : ℕ). place < entries) places
