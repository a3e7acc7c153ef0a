use Rattle.std.proofs.Common.{◌≡◌, ℕ, zero, suc, ◌+◌, ◌<◌, ◌↔◌, List, [], ◌∷◌, get_or, refl, arith}
use Rattle.std.proofs.lemmas.List.Elements.{All-from_recursion}
use Rattle.allotment.specs.Rounds.{AreRounds, IsRound}
use Rattle.allotment.specs.declared.round.Round.{Round}
use Rattle.allotment.specs.declared.round.Round.TheVariants.{Units, Part, All}
use Rattle.itayose_tests.proofs.tests.auctions.rounds.Goals as goal

abbrev four : List Round
four = Units 1 ∷ Part 1 3 ∷ Part 1 2 ∷ All ∷ []

-- the last of them gives all that is lacking, and no other does
ends-at : (k : ℕ) (d : Round) → k < 4 → (get_or four k d ≡ All) ↔ (k + 1 ≡ 4)
ends-at zero d h = (λ e. absurd (cc), λ e. absurd (omega (arith, e)))
ends-at (suc zero) d h = (λ e. absurd (cc), λ e. absurd (omega (arith, e)))
ends-at (suc (suc zero)) d h = (λ e. absurd (cc), λ e. absurd (omega (arith, e)))
ends-at (suc (suc (suc zero))) d h = (λ e. refl, λ e. refl)
ends-at (suc (suc (suc (suc k)))) d h = absurd (omega (arith, h))

pub returns : goal.returns
returns c = record {
  some = omega arith;
  each = All-from_recursion IsRound four ((omega arith, omega arith), ((omega arith, omega arith, omega arith), ((omega arith, omega arith, omega arith), (tt, tt))));
  ends = λ k d h. ends-at k d h;
}
