use Rattle.std.proofs.Common.{◌<◌, ◌≤◌, length, get_or, vec_capacity, sym, subst, arith}
use Rattle.script_file.specs.declared.script.GatewayScriptLine.{GatewayScriptLine}
use Rattle.gateway_lines.proofs.LineLemmas.{lists-more, lists-room}
use Rattle.gateway_lines.proofs.making.share_lines.Goals as goal

pub push-requires : goal.push-requires
push-requires c =
    let i = c.loop-of.of-index in
    let of = c.of-item.result in
    let gateways = length c.args.lists.now in
    let list = c.index-lists-place_of.result in
    let known : (1 ≤ of.gateway.0) × (of.gateway.0 ≤ gateways) =
    subst (λ (l : GatewayScriptLine). (1 ≤ l.gateway.0) × (l.gateway.0 ≤ gateways)) (sym c.of-item.is) (c.requires.lines i of c.loop-of-test.true) in
    let within : c.place_of.result < gateways = omega (arith, known.1, c.place_of.ensures) in
    let its = get_or c.loop-of.lists c.place_of.result list in
    let room : length its.items < vec_capacity its =
    lists-room c.args.lines.now i of c.loop-of-test.true c.of-item.is gateways c.place_of.result c.place_of.ensures within c.loop-of.lists c.loop-of.invariant list in
    omega (arith, room, its.ok)

pub loop-of-preserved : goal.loop-of-preserved
loop-of-preserved c =
    let i = c.loop-of.of-index in
    let of = c.of-item.result in
    let gateways = length c.args.lists.now in
    let known : (1 ≤ of.gateway.0) × (of.gateway.0 ≤ gateways) =
    subst (λ (l : GatewayScriptLine). (1 ≤ l.gateway.0) × (l.gateway.0 ≤ gateways)) (sym c.of-item.is) (c.requires.lines i of c.loop-of-test.true) in
    let within : c.place_of.result < gateways = omega (arith, known.1, c.place_of.ensures) in
    lists-more c.args.lines.now i of c.loop-of-test.true c.of-item.is gateways c.place_of.result c.place_of.ensures within c.loop-of.lists c.loop-of.invariant c.index-lists-place_of.result c.push.new.list
    c.push.ensures.items c.push.ensures.capacity
