use Rattle.std.proofs.Common.{◌∷◌, drop, ◌+◌, sym, subst}
use Rattle.mkt_base.specs.declared.event.Entry.{Entry}
use Rattle.issue_machine.specs.History.{Follows}
use Rattle.issue_journal.specs.Inside.{IsRecording}
use Rattle.issue_journal.proofs.Working.{loss-here, recording-next}
use Rattle.issue_journal.proofs.turn.record_losses.Goals as goal

pub step-requires-clause-follows : goal.step-requires-clause-follows
step-requires-clause-follows c =
    let left : IsRecording c.args.lost.now (c.node.result ∷ drop (c.loop-i.i + 1) c.args.lost.now) c.args.work.now c.loop-i.work =
    recording-next c.args.lost.now c.loop-i.i c.node.result c.args.work.now c.loop-i.work c.node.ensures c.loop-i.invariant in
    let places = c.length-place.ensures in
    let owns = c.next_own-own.ensures in
    subst (λ (e : Entry). Follows c.loop-i.work.participants c.loop-i.work.entries e)
    (sym (loss-here c.loss_entry.result c.length-place.result c.next_own-own.result c.node.result _ _ c.loss_entry.ensures places owns)) left.follow.0
