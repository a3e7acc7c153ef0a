use Rattle.turn_writer.proofs.Joining.{joined-took}
use Rattle.turn_writer.proofs.putting.rejoin.Goals as goal

pub returns-clause-joined : goal.returns-clause-joined
returns-clause-joined g c = λ e.
    let took = c.take_piece.ensures.took e in
    (took.0, took.1, joined-took c.args.node c.in-Some.k took.0 c.args.mirror.now c.rejoin.new.self c.take_piece.new.mirror c.in-Some.is c.rejoin.ensures.node c.rejoin.ensures.mirrored took.2)
