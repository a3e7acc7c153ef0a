use Rattle.allotment.proofs.LawLemmas.{allotting-more, allotting-starts}
use Rattle.allotment.proofs.sharing.allot.Goals as goal

pub loop-round-init : goal.loop-round-init
loop-round-init c = allotting-starts c.args.rounds.now c.args.unit c.args.demands.now c.args.total c.sort.new.demands c.requires.unshared c.sort.ensures

pub loop-round-preserved : goal.loop-round-preserved
loop-round-preserved c =
    allotting-more c.args.rounds.now c.args.unit c.args.demands.now c.args.total c.loop-round.round-index c.loop-round.left c.share_round-left.result c.loop-round.demands c.share_round-left.new.demands _
    c.loop-round-test.true c.share_round-left.ensures.demands c.share_round-left.ensures.left c.loop-round.invariant
