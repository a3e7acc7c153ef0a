use Rattle.std.proofs.Common.{◌≡◌, ℕ, ◌<◌, [], length, get_or}
use Rattle.allotment.specs.declared.demand.Demand.{Demand}
use Rattle.itayose.specs.Fills.{demand_of}
use Rattle.itayose.proofs.rounds.no_demands.Given as goal

-- the demands until now
abbrev pub invariant-loop-i : goal.invariant-loop-i
invariant-loop-i l = (length l.table ≡ 64) × ((k : ℕ) (d : Demand) → k < l.i → get_or l.table k d ≡ demand_of [] k)
