use Rattle.std.proofs.Common.{◌≡◌, ◌+◌, ◌≤◌, [], ◌++◌, ap, length, subst, sym, ◌∙◌}
use Rattle.node_rules.specs.Nodes.{caught_at, up}
use Rattle.mirror.specs.Replicas.{states}
use Rattle.turn_writer.specs.Went.{CaughtAll}
use Rattle.turn_writer.proofs.Going.{numbered, one-gone, three-caught, two-caught, two-gone, went-three}
use Rattle.turn_writer.proofs.catching.catch_all.Goals as goal

pub catch_one-requires-2-clause-three : goal.catch_one-requires-2-clause-three
catch_one-requires-2-clause-three g c =
    let one = c.catch_one.ensures.caught c.if-not-catch_one.false in
    let list : c.catch_one.new.lost ≡ c.none-lost.result ++ one.0 = one.1 in
    let empty : c.none-lost.result ≡ [] = c.none-lost.ensures in
    let same : c.catch_one.new.lost ≡ one.0 = list ∙ ap (λ l. l ++ one.0) empty in
    subst (λ l. length l + up (states c.catch_one.new.mirror) ≤ 3) (sym same) (went-three [] (caught_at c.args.event.now c.args.mirror.now.length 0 c.args.mirror.now.first.state) c.args.mirror.now.second.state c.args.mirror.now.third.state one.0 c.args.mirror.now c.catch_one.new.mirror (numbered c.args.event.now c.node_no.result 0 one.0 c.args.mirror.now c.catch_one.new.mirror c.node_no.ensures one.2))

pub catch_one-requires-3-clause-three : goal.catch_one-requires-3-clause-three
catch_one-requires-3-clause-three g c =
    let one = c.catch_one.ensures.caught c.if-not-catch_one.false in
    let two = c.catch_one-2.ensures.caught c.if-not-catch_one-2.false in
    let same : c.catch_one-2.new.lost ≡ one.0 ++ two.0 = two.1 ∙ ap (λ l. l ++ two.0) (one.1 ∙ ap (λ l. l ++ one.0) c.none-lost.ensures) in
    subst (λ l. length l + up (states c.catch_one-2.new.mirror) ≤ 3) (sym same)
    (went-three _ _ _ _ _ _ _ (two-caught c.args.event.now one.0 two.0 c.args.mirror.now c.catch_one.new.mirror c.catch_one-2.new.mirror (numbered c.args.event.now c.node_no.result 0 one.0 c.args.mirror.now c.catch_one.new.mirror c.node_no.ensures one.2) (numbered c.args.event.now c.node_no-2.result 1 two.0 c.catch_one.new.mirror c.catch_one-2.new.mirror c.node_no-2.ensures two.2)))

pub returns-then-not-catch_one-2-clause-gone : goal.returns-then-not-catch_one-2-clause-gone
returns-then-not-catch_one-2-clause-gone g c = λ _.
    let one = c.catch_one.ensures.caught c.if-not-catch_one.false in
    one-gone c.args.event.now one.0 c.args.mirror.now c.catch_one.new.mirror c.catch_one-2.new.mirror (numbered c.args.event.now c.node_no.result 0 one.0 c.args.mirror.now c.catch_one.new.mirror c.node_no.ensures one.2) (c.catch_one-2.ensures.gone c.if-not-catch_one-2.true)

pub returns-then-not-catch_one-3-clause-gone : goal.returns-then-not-catch_one-3-clause-gone
returns-then-not-catch_one-3-clause-gone g c = λ _.
    let one = c.catch_one.ensures.caught c.if-not-catch_one.false in
    let two = c.catch_one-2.ensures.caught c.if-not-catch_one-2.false in
    two-gone c.args.event.now (one.0 ++ two.0) c.args.mirror.now c.catch_one-2.new.mirror c.catch_one-3.new.mirror
    (two-caught c.args.event.now one.0 two.0 c.args.mirror.now c.catch_one.new.mirror c.catch_one-2.new.mirror (numbered c.args.event.now c.node_no.result 0 one.0 c.args.mirror.now c.catch_one.new.mirror c.node_no.ensures one.2) (numbered c.args.event.now c.node_no-2.result 1 two.0 c.catch_one.new.mirror c.catch_one-2.new.mirror c.node_no-2.ensures two.2))
    (c.catch_one-3.ensures.gone c.if-not-catch_one-3.true)

pub returns-clause-caught : goal.returns-clause-caught
returns-clause-caught g c =
    let one = c.catch_one.ensures.caught c.if-not-catch_one.false in
    let two = c.catch_one-2.ensures.caught c.if-not-catch_one-2.false in
    let three = c.catch_one-3.ensures.caught c.if-not-catch_one-3.false in
    let same : c.catch_one-3.new.lost ≡ one.0 ++ two.0 ++ three.0 =
    three.1 ∙ ap (λ l. l ++ three.0) (two.1 ∙ ap (λ l. l ++ two.0) (one.1 ∙ ap (λ l. l ++ one.0) c.none-lost.ensures)) in
    subst (λ l. CaughtAll c.args.event.now l c.args.mirror.now c.catch_one-3.new.mirror) (sym same)
    (three-caught c.args.event.now (one.0 ++ two.0) three.0 c.args.mirror.now c.catch_one-2.new.mirror c.catch_one-3.new.mirror
    (two-caught c.args.event.now one.0 two.0 c.args.mirror.now c.catch_one.new.mirror c.catch_one-2.new.mirror (numbered c.args.event.now c.node_no.result 0 one.0 c.args.mirror.now c.catch_one.new.mirror c.node_no.ensures one.2) (numbered c.args.event.now c.node_no-2.result 1 two.0 c.catch_one.new.mirror c.catch_one-2.new.mirror c.node_no-2.ensures two.2)) (numbered c.args.event.now c.node_no-3.result 2 three.0 c.catch_one-2.new.mirror c.catch_one-3.new.mirror c.node_no-3.ensures three.2))
