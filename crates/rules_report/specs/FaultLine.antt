-- The line that tells the first fault of a rules file.
use Rattle.std.specs.Prelude.{ℕ, List, [], ◌∷◌, codes}
use Rattle.std.specs.Fmt.{decimal}
use Rattle.std.specs.Option.{option_map_or}
use Rattle.mkt_base.specs.Text.{line}
use Rattle.rules_file.specs.Faults.{fault_number}
use Rattle.rules_file.specs.declared.fault.RulesFault.{RulesFault}
use Rattle.rules_file.specs.declared.fault.RulesFault.TheVariants.{NotToml, MissingKey, BadNumber, RowsOutOfOrder, OffTick, GridTooLarge, BadPhases, BadRounds, TooMany, Twice, Memory}

-- what a fault names: a key, a code or a name, and a row or a count
abbrev pub fault_details : RulesFault → List (List ℕ)
fault_details NotToml = []
fault_details (MissingKey key) = key ∷ []
fault_details (BadNumber key) = key ∷ []
fault_details (RowsOutOfOrder key row) = key ∷ decimal row ∷ []
fault_details (OffTick code) = code ∷ []
fault_details (GridTooLarge code n) = code ∷ decimal n ∷ []
fault_details (BadPhases row) = decimal row ∷ []
fault_details (BadRounds row) = decimal row ∷ []
fault_details (TooMany key n) = key ∷ decimal n ∷ []
fault_details (Twice name) = name ∷ []
fault_details Memory = []

-- `rules`, the fault's number and what it names; for want of memory one word
abbrev pub fault_words : RulesFault → List (List ℕ)
fault_words fault = option_map_or (λ n. codes "rules" ∷ decimal n ∷ fault_details fault) (fault_number fault) (codes "memory" ∷ [])

-- the line of a fault
abbrev pub fault_line : RulesFault → List ℕ
fault_line fault = line (fault_words fault)
