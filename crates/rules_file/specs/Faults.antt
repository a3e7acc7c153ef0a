-- The faults of a rules file, and what a call that reads a part of one answers.
use Rattle.std.specs.Prelude.{◌≡◌, ℕ, Option, Some, None, Result, Ok, Err}
use Rattle.rules_file.specs.declared.fault.RulesFault.{RulesFault}
use Rattle.rules_file.specs.declared.fault.RulesFault.TheVariants.{NotToml, MissingKey, BadNumber, RowsOutOfOrder, OffTick, GridTooLarge, BadPhases, BadRounds, TooMany, Twice, Memory}

-- the number by which a fault is told; none for want of memory
abbrev pub fault_number : RulesFault → Option ℕ
fault_number NotToml = Some 1
fault_number (MissingKey key) = Some 2
fault_number (BadNumber key) = Some 3
fault_number (RowsOutOfOrder key row) = Some 4
fault_number (OffTick code) = Some 5
fault_number (GridTooLarge code n) = Some 6
fault_number (BadPhases row) = Some 7
fault_number (BadRounds row) = Some 8
fault_number (TooMany key n) = Some 9
fault_number (Twice name) = Some 10
fault_number Memory = None

-- unless there was no memory, the fault is the one that was to be told
abbrev pub IsTold : RulesFault → RulesFault → Type 0
IsTold told Memory = Unit {0}
IsTold told fault = fault ≡ told

-- unless there was no memory, the fault is the one that reading gives
abbrev pub Fails : {A : Type 0} → RulesFault → Result A RulesFault → Type 0
Fails Memory read = Unit {0}
Fails fault read = read ≡ Err fault

-- the answer means what reading gives, or there was no memory
abbrev pub GivesAs : {A B : Type 0} → (A → B) → Result A RulesFault → Result B RulesFault → Type 0
GivesAs meaning (Ok x) read = read ≡ Ok (meaning x)
GivesAs meaning (Err fault) read = Fails fault read

-- the answer is what reading gives, or there was no memory
abbrev pub Gives : {A : Type 0} → Result A RulesFault → Result A RulesFault → Type 0
Gives answer read = GivesAs (λ x. x) answer read
