-- Worked examples: the definitions compute to what a reader of the rules would say.
use Rattle.std.specs.Prelude.{◌≡◌, ◌++◌, ℕ, List, [], ◌∷◌, refl, codes}
use Rattle.std.specs.Fmt.{digits}
use Rattle.mkt_base.specs.Text.{line}
use Rattle.allotment.specs.Allotment.{after_round, allot}
use Rattle.allotment.specs.Rounds.{round_words}
use Rattle.allotment.specs.declared.demand.Demand.{Demand}
use Rattle.allotment.specs.declared.round.Round.{Round}
use Rattle.allotment.specs.declared.round.Round.TheVariants.{Units, Part, All}

one_unit : line (codes "round" ∷ round_words (Units 1)) ≡ codes "round units 1" ++ 10 ∷ []
unfolding digits
one_unit = refl

a_third : line (codes "round" ∷ round_words (Part 1 3)) ≡ codes "round part 1 3" ++ 10 ∷ []
unfolding digits
a_third = refl

all_that_is_lacking : line (codes "round" ∷ round_words All) ≡ codes "round all" ++ 10 ∷ []
unfolding digits
all_that_is_lacking = refl

-- the demand of the participant whose number is its first place
abbrev demand : ℕ → ℕ → ℕ → Demand
demand first asked share = record { participant = record { 0 = first }; first = first; asked = asked; share = share }

-- one unit each, then a third of the rest, then half of it, then all
abbrev rounds : List Round
rounds = Units 1 ∷ Part 1 3 ∷ Part 1 2 ∷ All ∷ []

-- a unit each leaves 700; thirds of 700, 500 and 100 are 200, 100 and one unit at least, which leaves 300; half of 500 is 200,
-- and of half of 400 only 100 are left
four_rounds : allot rounds 100 (demand 1 800 0 ∷ demand 2 600 0 ∷ demand 3 200 0 ∷ []) 1000 ≡ demand 1 800 500 ∷ demand 2 600 300 ∷ demand 3 200 200 ∷ []
unfolding allot after_round
four_rounds = refl

-- a single unit goes to the greatest demand
one_unit_in_all : allot rounds 100 (demand 3 200 0 ∷ demand 2 600 0 ∷ demand 1 800 0 ∷ []) 100 ≡ demand 1 800 100 ∷ demand 2 600 0 ∷ demand 3 200 0 ∷ []
unfolding allot after_round
one_unit_in_all = refl

-- of two equal demands the one with the earlier place stands first
equal_demands : allot (All ∷ []) 100 (demand 5 300 0 ∷ demand 2 300 0 ∷ []) 400 ≡ demand 2 300 300 ∷ demand 5 300 100 ∷ []
unfolding allot after_round
equal_demands = refl
