use Rattle.std.proofs.Common.{◌≡◌, ℕ, ◌+◌, ◌==◌, ◌<◌, ◌≤◌, [], length, replicate, take, sym, ap, subst, ◌∙◌, arith}
use Rattle.std.proofs.lemmas.List.{length-take}
use Rattle.std.proofs.lemmas.List.Sums.{count_by-le-length, length-filter}
use Rattle.script_file.specs.declared.script.GatewayScriptLine.{GatewayScriptLine}
use Rattle.stage_law.specs.Played.{lines_by}
use Rattle.gateway_lines.specs.Lists.{AreCounts}
use Rattle.gateway_lines.proofs.LineLemmas.{counts-more, counts-none}
use Rattle.gateway_lines.proofs.making.count_lines.Goals as goal

pub overflow_add-index_mut : goal.overflow_add-index_mut
overflow_add-index_mut c =
    let i = c.loop-of.of-index in
    let front = take i c.args.lines.now in
    let of = c.of-item.result in
    let place = c.place_of.result in
    let known : (1 ≤ of.gateway.0) × (of.gateway.0 ≤ c.args.gateways) =
    subst (λ (l : GatewayScriptLine). (1 ≤ l.gateway.0) × (l.gateway.0 ≤ c.args.gateways)) (sym c.of-item.is) (c.requires i of c.loop-of-test.true) in
    let within : place < c.args.gateways = omega (arith, known.1, c.place_of.ensures) in
    let read : c.index_mut.result.now ≡ length (lines_by (place + 1) front) = c.index_mut.ensures.value ∙ c.loop-of.invariant.each place c.index_mut.result.now within in
    let is_its = λ (l : GatewayScriptLine). l.gateway.0 == place + 1 in
    omega (arith, read, length-filter is_its front, count_by-le-length is_its front, length-take i c.args.lines.now)

pub loop-of-preserved : goal.loop-of-preserved
loop-of-preserved c =
    let i = c.loop-of.of-index in
    let of = c.of-item.result in
    let known : (1 ≤ of.gateway.0) × (of.gateway.0 ≤ c.args.gateways) =
    subst (λ (l : GatewayScriptLine). (1 ≤ l.gateway.0) × (l.gateway.0 ≤ c.args.gateways)) (sym c.of-item.is) (c.requires i of c.loop-of-test.true) in
    let within : c.place_of.result < c.args.gateways = omega (arith, known.1, c.place_of.ensures) in
    counts-more c.args.lines.now i of c.loop-of-test.true c.of-item.is c.args.gateways c.place_of.result c.place_of.ensures within c.loop-of.counts.items c.loop-of.invariant c.index_mut.result.now c.index_mut.result.now
    c.index_mut.ensures.value

pub loop-of-init : goal.loop-of-init
loop-of-init c =
    let counts = c.in_ok-counts.ensures.items_if_clones_equal (λ y is. is) ∙ ap (λ (n : ℕ). replicate n 0) c.from.ensures in
    subst (AreCounts [] c.args.gateways) (sym counts) (counts-none c.args.gateways)
