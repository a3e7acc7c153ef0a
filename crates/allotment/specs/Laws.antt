-- Laws of an allotment: each is the clause of a function of the same name.
use Rattle.std.specs.Prelude.{◌≡◌, ◌≢◌, ◌≤◌, ◌%◌, ℕ, List, All as Each, AllPairs, None, Some, IsTrue, IsPermutation, map}
use Rattle.std.specs.List.{last_or}
use Rattle.allotment.specs.Allotment.{allot, asked_in_all, comes_before, shared}
use Rattle.allotment.specs.Rounds.{AreRounds, IsRound}
use Rattle.allotment.specs.declared.demand.Demand.{Demand}
use Rattle.allotment.specs.declared.round.Round.{Round}
use Rattle.allotment.specs.declared.round.Round.TheVariants.{All}

-- rounds as a rules file is accepted with them are in range, and the last gives all that is lacking: so they serve an allotment
abbrev pub AcceptedRoundsServe : Type 0
AcceptedRoundsServe = (rounds : List Round) → AreRounds rounds → Each IsRound rounds × (last_or None rounds ≡ Some All)

-- nobody is given more than was asked for
abbrev pub NoneGetsMore : Type 0
NoneGetsMore = (rounds : List Round) (unit : ℕ) (demands : List Demand) (total : ℕ) → Each (λ d. d.share ≡ 0) demands
    → Each (λ d. d.share ≤ d.asked) (allot rounds unit demands total)

-- where the last round gives all that is lacking, and no more is there than was asked for, all of it is given out
abbrev pub SharesAddUp : Type 0
SharesAddUp = (rounds : List Round) (unit : ℕ) (demands : List Demand) (total : ℕ) → Each (λ d. d.share ≡ 0) demands
    → last_or None rounds ≡ Some All → total ≤ asked_in_all demands → shared (allot rounds unit demands total) ≡ total

-- where the total and all that was asked for are in trading units, each share is
abbrev pub SharesInUnits : Type 0
SharesInUnits = (rounds : List Round) (unit : ℕ) (demands : List Demand) (total : ℕ) → Each (λ d. d.share ≡ 0) demands
    → Each (λ d. d.asked % unit ≡ 0) demands → total % unit ≡ 0 → Each (λ d. d.share % unit ≡ 0) (allot rounds unit demands total)

-- the demand as it was before the allotment
abbrev pub before_shares : Demand → Demand
before_shares d = record d { share = 0 }

-- the demands afterwards are the demands before, each once, with their shares; where their places differ they stand in order
abbrev pub DemandsInOrder : Type 0
DemandsInOrder = (rounds : List Round) (unit : ℕ) (demands : List Demand) (total : ℕ) → Each (λ d. d.share ≡ 0) demands
    → IsPermutation demands (map before_shares (allot rounds unit demands total))
    × (AllPairs (λ a b. a.first ≢ b.first) demands → AllPairs (λ a b. IsTrue (comes_before a b)) (allot rounds unit demands total))
