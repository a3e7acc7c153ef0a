use Rattle.std.proofs.Common.{arith}
use Rattle.stage_play.proofs.UptoLemmas.{upto-first, upto-more}
use Rattle.stage_play.proofs.sights.look.Goals as goal

pub loop-issue-init : goal.loop-issue-init
loop-issue-init g c = upto-first _ _

pub loop-issue-preserved : goal.loop-issue-preserved
loop-issue-preserved g c = upto-more _ _ _ _ _ (omega arith) c.loop-issue.invariant (λ s. c.sight_of.ensures)

pub returns : goal.returns
returns g c = λ issue s d within. c.loop-issue.invariant.done issue s (omega arith) within d
