use Rattle.std.proofs.Common.{arith}
use Rattle.std.proofs.lemmas.List.{get_or_default}
use Rattle.stage_play.proofs.CatchLemmas.{caught-at}
use Rattle.stage_play.proofs.UptoLemmas.{upto-first, upto-more}
use Rattle.stage_play.proofs.sights.catch_up_each.Goals as goal

pub loop-issue-init : goal.loop-issue-init
loop-issue-init g c = upto-first _ _

pub loop-issue-preserved : goal.loop-issue-preserved
loop-issue-preserved g c =
    upto-more _ _ _ _ _ (omega arith) c.loop-issue.invariant
    (λ d s. caught-at g.D.Desk.state g.D.Desk.fixed g.D.SeenDesk.caller g.D.Desk.tells _ _ _ _ _ c.catch_up.ensures
    (get_or_default c.args.sights.now c.loop-issue.issue _ s (omega arith))
    (get_or_default c.loop-issue.desks c.loop-issue.issue c.index-desks-issue.result d (omega arith)))

pub returns : goal.returns
returns g c = λ issue d s within. c.loop-issue.invariant.done issue d (omega arith) within s
