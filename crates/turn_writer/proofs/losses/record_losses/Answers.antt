use Rattle.std.proofs.Common.{◌≡◌, ◌<◌, length, false, rules}
use Rattle.node_rules.specs.Nodes.{has_synchronised}
use Rattle.mirror.specs.Replicas.{states}
use Rattle.turn_writer.proofs.Recording.{none-stands, recording-failed, recording-gone, recording-none, recording-place, recording-three}
use Rattle.turn_writer.proofs.losses.record_losses.Goals as goal

pub loop-lost-init : goal.loop-lost-init
loop-lost-init g c = recording-none c.args.own c.args.lost.now c.args.mirror.now

pub record_loss-requires-clause-place : goal.record_loss-requires-clause-place
record_loss-requires-clause-place g c =
    let next : c.loop-lost.done < length c.loop-lost.lost = search rules in
    recording-place c.args.own c.loop-lost.done c.args.lost.now c.loop-lost.lost c.args.mirror.now c.loop-lost.mirror c.loop-lost.invariant c.requires.room next

pub record_loss-requires-clause-three : goal.record_loss-requires-clause-three
record_loss-requires-clause-three g c =
    recording-three c.args.own c.loop-lost.done c.args.lost.now c.loop-lost.lost c.args.mirror.now c.loop-lost.mirror c.loop-lost.invariant c.requires.room

pub returns-then-not-record_loss-clause-gone : goal.returns-then-not-record_loss-clause-gone
returns-then-not-record_loss-clause-gone g c = λ _.
    recording-gone c.args.own c.loop-lost.done c.args.lost.now c.loop-lost.lost c.args.mirror.now c.loop-lost.mirror c.record_loss.new.mirror c.loop-lost.invariant
    (c.record_loss.ensures.none c.if-not-record_loss.true)

pub returns-then-not-record_loss-clause-failed : goal.returns-then-not-record_loss-clause-failed
returns-then-not-record_loss-clause-failed g c = λ _.
    recording-failed c.args.own c.loop-lost.done c.args.lost.now c.loop-lost.lost c.args.mirror.now c.loop-lost.mirror c.record_loss.new.mirror c.loop-lost.invariant
    (c.record_loss.ensures.none c.if-not-record_loss.true) c.states.ensures.mirrored

pub returns-clause-gone : goal.returns-clause-gone
returns-clause-gone g c = λ _.
    let none : has_synchronised (states c.loop-lost.mirror) ≡ false = search rules in
    recording-gone c.args.own c.loop-lost.done c.args.lost.now c.loop-lost.lost c.args.mirror.now c.loop-lost.mirror c.loop-lost.mirror c.loop-lost.invariant
    (none-stands c.loop-lost.mirror none)

pub returns-clause-failed : goal.returns-clause-failed
returns-clause-failed g c = λ _.
    let none : has_synchronised (states c.loop-lost.mirror) ≡ false = search rules in
    recording-failed c.args.own c.loop-lost.done c.args.lost.now c.loop-lost.lost c.args.mirror.now c.loop-lost.mirror c.loop-lost.mirror c.loop-lost.invariant
    (none-stands c.loop-lost.mirror none) c.states.ensures.mirrored
