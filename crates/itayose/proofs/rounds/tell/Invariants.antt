use Rattle.std.proofs.Common.{◌++◌, List, take}
use Rattle.mkt_base.specs.declared.output.Output.{Output}
use Rattle.itayose.specs.Fills.{share_outputs}
use Rattle.itayose.proofs.rounds.tell.Given as goal

-- the shares until now were told
abbrev pub invariant-loop-demand : goal.invariant-loop-demand
invariant-loop-demand g l = (start : g.row.W.Denot) (outputs : List Output) → g.W.Watch.took start outputs l.fn.watch → g.W.Watch.took start (outputs ++ share_outputs (take l.demand-index l.demands)) l.watch
