use Rattle.turn_writer.proofs.Whole.{turn-gone, turn-room, turn-written}
use Rattle.turn_writer.proofs.turn.write_turn.Goals as goal

pub record_losses-requires-clause-room : goal.record_losses-requires-clause-room
record_losses-requires-clause-room g c =
    turn-room c.args.entry.now c.in-Some.lost c.args.mirror.now c.write_event.new.mirror c.in-Some.ensures.written c.requires.room

pub returns-then-not-record_losses-clause-none_left : goal.returns-then-not-record_losses-clause-none_left
returns-then-not-record_losses-clause-none_left g c = λ _.
    turn-gone c.args.entry.now c.in-Some.lost c.args.mirror.now c.write_event.new.mirror c.in-Some.ensures.written c.requires.caller c.record_losses.new.mirror
    (c.record_losses.ensures.gone c.if-not-record_losses.true)

pub returns-clause-written : goal.returns-clause-written
returns-clause-written g c =
    turn-written c.args.entry.now c.in-Some.lost c.args.mirror.now c.write_event.new.mirror c.in-Some.ensures.written c.requires.caller c.args.own c.record_losses.new.lost c.record_losses.new.mirror
    c.requires.place (c.record_losses.ensures.known c.if-not-record_losses.false)
