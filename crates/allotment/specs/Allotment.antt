-- An allotment: shares given out in rounds, first to those who asked for the most.
use Rattle.std.specs.Prelude.{ℕ, ◌+◌, ◌-◌, ◌*◌, ◌/◌, min, max, Bool, ◌&&◌, ◌||◌, ◌==◌, nat_lt, List, [], ◌∷◌, sum_by}
use Rattle.std.specs.List.{fold}
use Rattle.allotment.specs.Sorting.{sort_by}
use Rattle.allotment.specs.declared.demand.Demand.{Demand}
use Rattle.allotment.specs.declared.round.Round.{Round}
use Rattle.allotment.specs.declared.round.Round.TheVariants.{Units, Part, All}

-- the first asked for more, or for as much and stands at an earlier place
abbrev pub comes_before : Demand → Demand → Bool
comes_before a b = nat_lt b.asked a.asked || (a.asked == b.asked && nat_lt a.first b.first)

-- what was asked for in all, and what is given out
abbrev pub asked_in_all : List Demand → ℕ
asked_in_all demands = sum_by (λ d. d.asked) demands

abbrev pub shared : List Demand → ℕ
shared demands = sum_by (λ d. d.share) demands

-- what a demand still lacks
abbrev pub rest : Demand → ℕ
rest d = d.asked - d.share

-- a number of shares, rounded down to trading units
abbrev pub in_units : ℕ → ℕ → ℕ
in_units unit n = n / unit * unit

-- what a round gives at most for a rest: so many units; a part of the rest in units, and one unit at least; or the rest
abbrev pub amount : Round → ℕ → ℕ → ℕ
amount (Units k) unit rest = k * unit
amount (Part n d) unit rest = max unit (in_units unit (rest * n / d))
amount All unit rest = rest

-- a demand is given the least of the round's amount, its rest, and what is left of the total
abbrev pub given : Round → ℕ → ℕ → Demand → ℕ
given round unit left d = min (min (amount round unit (rest d)) (rest d)) left

-- a demand with so many shares more
abbrev pub with_more : ℕ → Demand → Demand
with_more n d = record d { share = d.share + n }

-- the demands after a round, which gives to each in turn while some is left
unfoldable pub after_round : Round → ℕ → ℕ → List Demand → List Demand
after_round round unit left [] = []
after_round round unit left (d ∷ ds) = with_more (given round unit left d) d ∷ after_round round unit (left - given round unit left d) ds

-- the demands in their order, after all rounds: each gives from what the rounds before it left of the total
unfoldable pub allot : List Round → ℕ → List Demand → ℕ → List Demand
allot rounds unit demands total =
    fold (λ ds round. after_round round unit (total - shared ds) ds) (sort_by comes_before demands) rounds
