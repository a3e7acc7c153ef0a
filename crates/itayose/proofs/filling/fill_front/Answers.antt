use Rattle.std.proofs.Common.{arith}
use Rattle.itayose.proofs.FillingLemmas.{first-some, fronting-done, fronting-faced, fronting-more, fronting-none, fronting-passed, fronting-some, fronting-within}
use Rattle.itayose.proofs.filling.fill_front.Goals as goal

pub loop-left-init : goal.loop-left-init
loop-left-init g c = fronting-none g.W.Watch.took c.args.price.0 c.args.side c.args.shares c.args.book.now c.args.watch.now c.stands.ensures.book c.requires.whole

pub first_of-handle-requires : goal.first_of-handle-requires
first_of-handle-requires g c =
    fronting-some g.W.Watch.took c.args.price.0 c.args.side c.args.shares c.args.book.now c.args.watch.now c.loop-left.left c.loop-left.book c.loop-left.watch c.loop-left.invariant c.loop-left-test.true

pub fill-requires-clause-faced : goal.fill-requires-clause-faced
fill-requires-clause-faced g c =
    fronting-faced g.W.Watch.took c.args.price.0 c.args.side c.args.shares c.args.book.now c.args.watch.now c.loop-left.left c.loop-left.book c.loop-left.watch c.loop-left.invariant c.loop-left-test.true
    c.first_of-handle.result.0 c.first_of-handle.result.1 c.first_of-handle.ensures.first c.stands-in-loop-left.ensures.book c.requires.faced c.requires.whole

pub overflow_sub-left : goal.overflow_sub-left
overflow_sub-left g c =
    fronting-within g.W.Watch.took c.args.price.0 c.args.side c.args.shares c.args.book.now c.args.watch.now c.loop-left.left c.loop-left.book c.loop-left.watch c.loop-left.invariant c.loop-left-test.true
    c.first_of-handle.result.0 c.first_of-handle.result.1 c.first_of-handle.ensures.first c.stands-in-loop-left.ensures.book

pub loop-left-smaller : goal.loop-left-smaller
loop-left-smaller g c =
    let some = first-some c.loop-left.book c.stands-in-loop-left.ensures.book c.args.side c.first_of-handle.result.1 c.first_of-handle.ensures.first in
    omega (arith, some, c.loop-left-test.true)

pub loop-left-preserved : goal.loop-left-preserved
loop-left-preserved g c =
    fronting-more g.W.Watch.took c.args.price.0 c.args.side c.args.shares c.args.book.now c.args.watch.now c.loop-left.left c.loop-left.book c.loop-left.watch c.loop-left.invariant c.loop-left-test.true
    c.first_of-handle.result.0 c.first_of-handle.result.1 c.first_of-handle.ensures.first c.stands-in-loop-left.ensures.book c.fill.new.book c.fill.new.watch c.fill.ensures.filled c.fill.ensures.side

pub returns-clause-filled : goal.returns-clause-filled
returns-clause-filled g c =
    fronting-done g.W.Watch.took c.args.price.0 c.args.side c.args.shares c.args.book.now c.args.watch.now c.loop-left.left c.loop-left.book c.loop-left.watch (omega (arith, c.loop-left-test.false)) c.loop-left.invariant

pub returns-clause-side : goal.returns-clause-side
returns-clause-side g c =
    fronting-passed g.W.Watch.took c.args.price.0 c.args.side c.args.shares c.args.book.now c.args.watch.now c.loop-left.left c.loop-left.book c.loop-left.watch (omega (arith, c.loop-left-test.false)) c.loop-left.invariant
