use Rattle.std.proofs.Common.{◌≡◌, Some, slice_get, refl, sym, ap, ◌∙◌, arith}
use Rattle.std.proofs.lemmas.Option.{slice_get-get_or}
use Rattle.issue_machine.specs.History.{nodes_after}
use Rattle.issue_journal.proofs.Replaying.{nodes-front}
use Rattle.issue_journal.proofs.reading.nodes_after.Goals as goal

pub loop-i-init : goal.loop-i-init
unfolding nodes_after
loop-i-init c = refl

pub loop-i-preserved : goal.loop-i-preserved
loop-i-preserved c =
    let e = c.index-journal-i.result in
    let here : slice_get c.args.journal.now c.loop-i.i ≡ Some e =
    slice_get-get_or c.args.journal.now c.loop-i.i e (omega (arith, c.loop-i-test.true)) ∙ ap Some (sym c.index-journal-i.is) in
    nodes-front c.args.journal.now c.loop-i.i e c.loop-i.nodes c.advance.new.nodes here c.loop-i.invariant c.advance.ensures
