-- The rounds of an allotment, as a rules file is accepted with them, and their words.
use Rattle.std.specs.Prelude.{◌≡◌, ℕ, ◌+◌, ◌<◌, ◌≤◌, ◌↔◌, List, [], ◌∷◌, length, codes, slice_index_or, All as Each}
use Rattle.std.specs.Fmt.{decimal}
use Rattle.allotment.specs.declared.round.Round.{Round}
use Rattle.allotment.specs.declared.round.Round.TheVariants.{Units, Part, All}

-- the numbers of a round are in range
abbrev pub IsRound : Round → Type 0
IsRound (Units k) = (1 ≤ k) × (k ≤ 1000000)
IsRound (Part n d) = (1 ≤ n) × (n ≤ d) × (d ≤ 1000)
IsRound All = Unit {0}

-- rounds of an allotment: the last gives all that is lacking, and no other does
pub record AreRounds (rounds : List Round) : Type 0 where
  pub some : 0 < length rounds
  pub each : Each IsRound rounds
  pub ends : (k : ℕ) (d : Round) → k < length rounds → (slice_index_or rounds k d ≡ All) ↔ (k + 1 ≡ length rounds)

-- the words of a round
abbrev pub round_words : Round → List (List ℕ)
round_words (Units k) = codes "units" ∷ decimal k ∷ []
round_words (Part n d) = codes "part" ∷ decimal n ∷ decimal d ∷ []
round_words All = codes "all" ∷ []
