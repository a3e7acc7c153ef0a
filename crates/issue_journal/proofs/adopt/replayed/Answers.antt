use Rattle.std.proofs.Common.{◌≡◌, Some, slice_get, refl, arith}
use Rattle.std.proofs.lemmas.Option.{slice_get_read}
use Rattle.issue_journal.proofs.Replaying.{may-replay, replaying-more}
use Rattle.issue_journal.proofs.adopt.replayed.Goals as goal

pub step-requires : goal.step-requires
step-requires c =
    let here : slice_get c.args.log.items c.loop-i.i ≡ Some c.index.result.now = slice_get_read c.args.log.items _ c.loop-i.i c.index.result.now refl (omega (arith, c.loop-i-test.true)) (c.index.ensures) in
    may-replay c.args.machine c.loop-i.machine c.args.log.items c.loop-i.i c.index.result.now c.loop-i.invariant c.requires.history here
    (omega (arith, c.requires.within, c.requires.ready.capacity_is))

pub loop-i-preserved : goal.loop-i-preserved
loop-i-preserved c =
    let here : slice_get c.args.log.items c.loop-i.i ≡ Some c.index.result.now = slice_get_read c.args.log.items _ c.loop-i.i c.index.result.now refl (omega (arith, c.loop-i-test.true)) (c.index.ensures) in
    replaying-more c.args.machine c.loop-i.machine c.args.log.items c.loop-i.i c.index.result.now c.loop-i.invariant c.requires.history here c.step.new.self c.step.ensures.state
