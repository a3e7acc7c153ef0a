use Rattle.std.proofs.Common.{◌≡◌, ◌+◌, ◌≤◌, arith, length}
use Rattle.node_rules.specs.Nodes.{up}
use Rattle.mirror.specs.Replicas.{states}
use Rattle.turn_writer.specs.Went.{TookPiece, caught_order}
use Rattle.turn_writer.proofs.Going.{took, took-up}
use Rattle.turn_writer.proofs.catching.take_piece.Goals as goal

pub note_caught-requires : goal.note_caught-requires
note_caught-requires g c =
    let piece : TookPiece c.args.k (caught_order c.args.k c.in-Ok.kept.lost) c.args.mirror.now c.catch_up.new.self =
    took c.args.k c.args.mirror.now c.catch_up.new.self c.in-Ok.kept.lost c.in-Ok.ensures.lost c.catch_up.ensures.mirrored c.catch_up.ensures.keeps c.catch_up.ensures.length in
    let left : length (caught_order c.args.k c.in-Ok.kept.lost) + up (states c.catch_up.new.self) ≡ up (states c.args.mirror.now) = took-up c.args.k _ _ _ piece in
    let three : length c.args.lost.now + up (states c.args.mirror.now) ≤ 3 = c.requires.three in
    record { three = omega (arith, left, three) }

pub returns-clause-took : goal.returns-clause-took
returns-clause-took g c = λ _. (
  caught_order c.args.k c.in-Ok.kept.lost,
  c.note_caught.ensures.noted,
  took c.args.k c.args.mirror.now c.catch_up.new.self c.in-Ok.kept.lost c.in-Ok.ensures.lost c.catch_up.ensures.mirrored c.catch_up.ensures.keeps c.catch_up.ensures.length,
)
