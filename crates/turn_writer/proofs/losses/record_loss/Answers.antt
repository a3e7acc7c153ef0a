use Rattle.std.proofs.Common.{◌+◌, ◌∙◌, ap}
use Rattle.record_codec.specs.Entry.{spelling}
use Rattle.turn_writer.specs.Losses.{loss_at}
use Rattle.turn_writer.proofs.Recording.{recorded}
use Rattle.turn_writer.proofs.losses.record_loss.Goals as goal

pub returns-clause-recorded : goal.returns-clause-recorded
returns-clause-recorded g c = λ e start before r.
    let put = c.put_entry.ensures.put e in
    recorded c.args.own c.args.done start c.args.lost.now c.put_entry.new.lost put.0 c.node.result (spelling c.loss_entry-entry.result) before c.args.mirror.now c.put_entry.new.mirror
    c.node.ensures c.requires.next c.requires.few put.1
    (ap (λ x. spelling x) c.loss_entry-entry.ensures ∙ ap (λ n. spelling (loss_at n (c.args.own + c.args.done) c.node.result)) c.length.ensures.value)
    put.2 (c.put_entry.ensures.still e) r
