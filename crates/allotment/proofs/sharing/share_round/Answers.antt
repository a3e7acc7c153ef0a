use Rattle.std.proofs.Common.{arith}
use Rattle.allotment.proofs.RoundLemmas.{sharing-done, sharing-more}
use Rattle.allotment.proofs.sharing.share_round.Goals as goal

pub loop-demand-preserved : goal.loop-demand-preserved
loop-demand-preserved c =
    sharing-more c.args.round.now c.args.unit c.args.total c.args.demands.now c.loop-demand.demand-index c.loop-demand.left c.loop-demand.demands c.give-left.result c.give-left.new.demand _ c.loop-demand-test.true
    c.give-left.ensures.given c.give-left.ensures.more c.loop-demand.invariant

pub returns-clause-demands : goal.returns-clause-demands
returns-clause-demands c = sharing-done c.args.round.now c.args.unit c.args.total c.args.demands.now c.loop-demand.demand-index c.loop-demand.left c.loop-demand.demands (omega arith) c.loop-demand.invariant
