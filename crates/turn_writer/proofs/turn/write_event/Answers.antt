use Rattle.std.proofs.Common.{◌≡◌, ◌<◌, ◌≤◌, IfSome, ◌+◌, [], ◌∷◌, ◌++◌, ap, ◌∙◌, arith, length, subst, sym}
use Rattle.record_codec.specs.Entry.{spelling}
use Rattle.node_rules.specs.Nodes.{joins, up}
use Rattle.mirror.specs.Replicas.{states}
use Rattle.turn_writer.specs.Went.{EventWritten}
use Rattle.turn_writer.proofs.Going.{went-three}
use Rattle.turn_writer.proofs.Turning.{CameSoFar, came-so-far, event-written, gone-put, none-left-crashed, put-place, put-room, rejoin-lost, rejoin-place, rejoin-three, still-mirrored}
use Rattle.turn_writer.proofs.turn.write_event.Goals as goal

pub put_entry-requires-clause-place : goal.put_entry-requires-clause-place
put_entry-requires-clause-place g c =
    let p : CameSoFar [] c.args.entry.now c.crash.new.lost c.args.mirror.now c.crash.new.mirror = c.crash.ensures c.args.mirror.now _ _ _ c.in-Some.ensures.caught in
    put-place c.args.entry.now c.crash.new.lost c.args.mirror.now c.crash.new.mirror c.requires.place p

pub put_entry-requires-clause-room : goal.put_entry-requires-clause-room
put_entry-requires-clause-room g c =
    let p : CameSoFar [] c.args.entry.now c.crash.new.lost c.args.mirror.now c.crash.new.mirror = c.crash.ensures c.args.mirror.now _ _ _ c.in-Some.ensures.caught in
    put-room c.args.entry.now c.crash.new.lost c.args.mirror.now c.crash.new.mirror c.requires.room c.states.ensures.mirrored p

pub put_entry-requires-clause-three : goal.put_entry-requires-clause-three
put_entry-requires-clause-three g c =
    let p : CameSoFar [] c.args.entry.now c.crash.new.lost c.args.mirror.now c.crash.new.mirror = c.crash.ensures c.args.mirror.now _ _ _ c.in-Some.ensures.caught in
    went-three [] _ _ _ c.crash.new.lost c.args.mirror.now c.crash.new.mirror p

pub returns-then-not-put_entry-clause-none_left : goal.returns-then-not-put_entry-clause-none_left
returns-then-not-put_entry-clause-none_left g c = λ _.
    let p : CameSoFar [] c.args.entry.now c.crash.new.lost c.args.mirror.now c.crash.new.mirror = c.crash.ensures c.args.mirror.now _ _ _ c.in-Some.ensures.caught in
    none-left-crashed c.args.entry.now c.args.mirror.now c.requires.caller c.requires.some [] c.crash.new.lost c.crash.new.mirror c.put_entry.new.mirror (omega arith) p
    (gone-put c.crash.new.mirror c.put_entry.new.mirror (c.put_entry.ensures.none c.if-not-put_entry.true))

pub rejoin-requires-clause-lost : goal.rejoin-requires-clause-lost
rejoin-requires-clause-lost g c =
    let put = c.put_entry.ensures.put c.if-not-put_entry.false in
    let q : CameSoFar (spelling c.args.entry.now ∷ []) c.args.entry.now (c.crash.new.lost ++ put.0) c.args.mirror.now c.put_entry.new.mirror =
    came-so-far c.args.entry.now c.in-Some.lost c.crash.new.lost put.0 c.args.mirror.now c.catch_all.new.mirror c.crash.new.mirror c.put_entry.new.mirror c.in-Some.ensures.caught c.crash.ensures put.2 in
    let node : c.joins-node.result ≡ joins c.args.entry.now.event (states c.args.mirror.now) = c.joins-node.ensures ∙ ap (λ ss. joins c.args.entry.now.event ss) c.states.ensures.value in
    rejoin-lost c.args.entry.now (spelling c.args.entry.now ∷ []) (c.crash.new.lost ++ put.0) c.args.mirror.now c.put_entry.new.mirror q c.joins-node.result node

pub rejoin-requires-clause-mirrored : goal.rejoin-requires-clause-mirrored
rejoin-requires-clause-mirrored g c =
    let put = c.put_entry.ensures.put c.if-not-put_entry.false in
    let q : CameSoFar (spelling c.args.entry.now ∷ []) c.args.entry.now (c.crash.new.lost ++ put.0) c.args.mirror.now c.put_entry.new.mirror =
    came-so-far c.args.entry.now c.in-Some.lost c.crash.new.lost put.0 c.args.mirror.now c.catch_all.new.mirror c.crash.new.mirror c.put_entry.new.mirror c.in-Some.ensures.caught c.crash.ensures put.2 in
    still-mirrored (spelling c.args.entry.now ∷ []) _ _ _ (c.crash.new.lost ++ put.0) c.args.mirror.now c.put_entry.new.mirror q c.states.ensures.mirrored

pub rejoin-requires-clause-place : goal.rejoin-requires-clause-place
rejoin-requires-clause-place g c =
    let put = c.put_entry.ensures.put c.if-not-put_entry.false in
    let q : CameSoFar (spelling c.args.entry.now ∷ []) c.args.entry.now (c.crash.new.lost ++ put.0) c.args.mirror.now c.put_entry.new.mirror =
    came-so-far c.args.entry.now c.in-Some.lost c.crash.new.lost put.0 c.args.mirror.now c.catch_all.new.mirror c.crash.new.mirror c.put_entry.new.mirror c.in-Some.ensures.caught c.crash.ensures put.2 in
    rejoin-place c.args.entry.now (c.crash.new.lost ++ put.0) c.args.mirror.now c.put_entry.new.mirror c.requires.room q

pub rejoin-requires-clause-three : goal.rejoin-requires-clause-three
rejoin-requires-clause-three g c =
    let put = c.put_entry.ensures.put c.if-not-put_entry.false in
    let q : CameSoFar (spelling c.args.entry.now ∷ []) c.args.entry.now (c.crash.new.lost ++ put.0) c.args.mirror.now c.put_entry.new.mirror =
    came-so-far c.args.entry.now c.in-Some.lost c.crash.new.lost put.0 c.args.mirror.now c.catch_all.new.mirror c.crash.new.mirror c.put_entry.new.mirror c.in-Some.ensures.caught c.crash.ensures put.2 in
    let node : c.joins-node.result ≡ joins c.args.entry.now.event (states c.args.mirror.now) = c.joins-node.ensures ∙ ap (λ ss. joins c.args.entry.now.event ss) c.states.ensures.value in
    subst (λ l. IfSome c.joins-node.result (λ k. k < 3 → length l + up (states c.put_entry.new.mirror) ≤ 2)) (sym put.1)
    (rejoin-three c.args.entry.now (spelling c.args.entry.now ∷ []) (c.crash.new.lost ++ put.0) c.args.mirror.now c.put_entry.new.mirror q c.joins-node.result node)

pub returns-then-not-rejoin-clause-none_left : goal.returns-then-not-rejoin-clause-none_left
returns-then-not-rejoin-clause-none_left g c = λ _.
    let put = c.put_entry.ensures.put c.if-not-put_entry.false in
    let q : CameSoFar (spelling c.args.entry.now ∷ []) c.args.entry.now (c.crash.new.lost ++ put.0) c.args.mirror.now c.put_entry.new.mirror =
    came-so-far c.args.entry.now c.in-Some.lost c.crash.new.lost put.0 c.args.mirror.now c.catch_all.new.mirror c.crash.new.mirror c.put_entry.new.mirror c.in-Some.ensures.caught c.crash.ensures put.2 in
    none-left-crashed c.args.entry.now c.args.mirror.now c.requires.caller c.requires.some (spelling c.args.entry.now ∷ []) (c.crash.new.lost ++ put.0) c.put_entry.new.mirror c.rejoin.new.mirror (omega arith) q
    (c.rejoin.ensures.gone c.if-not-rejoin.true)

pub returns-clause-written : goal.returns-clause-written
returns-clause-written g c =
    let put = c.put_entry.ensures.put c.if-not-put_entry.false in
    let back = c.rejoin.ensures.joined c.if-not-rejoin.false in
    let q : CameSoFar (spelling c.args.entry.now ∷ []) c.args.entry.now (c.crash.new.lost ++ put.0) c.args.mirror.now c.put_entry.new.mirror =
    came-so-far c.args.entry.now c.in-Some.lost c.crash.new.lost put.0 c.args.mirror.now c.catch_all.new.mirror c.crash.new.mirror c.put_entry.new.mirror c.in-Some.ensures.caught c.crash.ensures put.2 in
    let node : c.joins-node.result ≡ joins c.args.entry.now.event (states c.args.mirror.now) = c.joins-node.ensures ∙ ap (λ ss. joins c.args.entry.now.event ss) c.states.ensures.value in
    let more : c.put_entry.new.lost ++ back.0 ≡ c.crash.new.lost ++ put.0 ++ back.0 = ap (λ l. l ++ back.0) put.1 in
    let list : c.rejoin.new.lost ≡ c.crash.new.lost ++ put.0 ++ back.0 = back.1 ∙ more in
    subst (λ l. EventWritten c.args.entry.now l c.args.mirror.now c.rejoin.new.mirror) (sym list)
    (event-written c.args.entry.now (c.crash.new.lost ++ put.0) back.0 c.args.mirror.now c.put_entry.new.mirror c.rejoin.new.mirror q c.joins-node.result node c.rejoin.ensures.a_node back.2)
