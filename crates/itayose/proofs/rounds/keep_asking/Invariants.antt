use Rattle.std.proofs.Common.{◌≡◌, ◌≤◌, filter, ltb, take}
use Rattle.itayose.proofs.rounds.keep_asking.Given as goal

-- those of the demands until now that ask for shares stand at the front
abbrev pub invariant-loop-demand : goal.invariant-loop-demand
invariant-loop-demand l = (l.count ≤ l.demand-index) × (take l.count l.demands ≡ filter (λ d. ltb 0 d.asked) (take l.demand-index l.table))
