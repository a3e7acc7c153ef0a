use Rattle.issue_machine.proofs.AdvanceLemmas.{advance-first, advance-more, advance-moved, advance-steps}
use Rattle.issue_machine.proofs.OrderLemmas.{told-none}
use Rattle.issue_machine.proofs.clock.catch_up.Goals as goal

pub loop-now_passed-init : goal.loop-now_passed-init
loop-now_passed-init g c =
    advance-first g.W.Watch.took c.now-passed.result c.args.to c.args.floor.now c.args.watch.now (λ start outputs h. told-none g.W.Watch.took start c.args.watch.now outputs h)
    c.stands.ensures.issue.terms.sessions c.now-passed.ensures c.requires.later c.requires.day c.requires.finish

pub loop-now_passed-preserved : goal.loop-now_passed-preserved
loop-now_passed-preserved g c =
    advance-more g.W.Watch.took c.loop-now_passed.passed c.in-Some.now_passed c.args.to c.loop-now_passed.steps c.args.floor.now c.loop-now_passed.floor c.advance.new.floor c.args.watch.now
    c.loop-now_passed.watch c.advance.new.watch c.loop-now_passed.invariant c.in-Some.ensures

pub returns-clause-steps : goal.returns-clause-steps
returns-clause-steps g c =
    advance-steps g.W.Watch.took c.loop-now_passed.passed c.args.to c.loop-now_passed.steps c.args.floor.now c.loop-now_passed.floor c.args.watch.now c.loop-now_passed.watch c.loop-now_passed.invariant
    c.in_default.ensures.2

pub returns-clause-moved : goal.returns-clause-moved
returns-clause-moved g c =
    advance-moved g.W.Watch.took c.loop-now_passed.passed c.args.to c.loop-now_passed.steps c.args.floor.now c.loop-now_passed.floor c.advance.new.floor c.args.watch.now c.loop-now_passed.watch
    c.advance.new.watch c.loop-now_passed.invariant c.in_default.ensures.2 c.in_default.ensures.0 c.in_default.ensures.1
