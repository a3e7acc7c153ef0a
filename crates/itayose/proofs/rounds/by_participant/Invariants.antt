use Rattle.std.proofs.Common.{◌≡◌, take}
use Rattle.itayose.specs.Sharing.{shares_by_number}
use Rattle.itayose.proofs.rounds.by_participant.Given as goal

-- the shares until now
abbrev pub invariant-loop-demand : goal.invariant-loop-demand
invariant-loop-demand l = l.shares ≡ shares_by_number (take l.demand-index l.demands)
