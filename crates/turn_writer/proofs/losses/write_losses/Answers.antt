use Rattle.turn_writer.proofs.Losing.{losses-written}
use Rattle.turn_writer.proofs.losses.write_losses.Goals as goal

pub returns-clause-written : goal.returns-clause-written
returns-clause-written g c = λ e. losses-written c.args.own c.args.lost.now c.record_losses.new.lost c.args.mirror.now c.record_losses.new.mirror (c.record_losses.ensures.known e)
