use Rattle.std.proofs.Common.{List, Vec, Global, length, subst}
use Rattle.mkt_base.specs.declared.script.ScriptLine.{ScriptLine}
use Rattle.gateway_lines.specs.Lists.{AreLists}
use Rattle.gateway_lines.proofs.LineLemmas.{gateways-all, lists-stages, shared}
use Rattle.gateway_lines.proofs.making.make_gateways.Goals as goal

pub number_gateways-requires-clause-stages : goal.number_gateways-requires-clause-stages
number_gateways-requires-clause-stages c =
    let lines = c.args.lines.now in
    let new = c.share_lines.new.lists in
    let list = c.in-Ok.lists in
    let all : AreLists lines lines (length list.items) new = subst (λ (ls : List (Vec ScriptLine Global)). AreLists lines lines (length ls) new) c.deref_mut.ensures.value c.share_lines.ensures in
    lists-stages lines c.args.gateways _ (shared lines c.args.gateways list new c.in-Ok.ensures.many all) c.requires.stages

pub returns : goal.returns
returns c =
    let lines = c.args.lines.now in
    let new = c.share_lines.new.lists in
    let list = c.in-Ok.lists in
    let all : AreLists lines lines (length list.items) new = subst (λ (ls : List (Vec ScriptLine Global)). AreLists lines lines (length ls) new) c.deref_mut.ensures.value c.share_lines.ensures in
    gateways-all lines c.args.gateways _ (shared lines c.args.gateways list new c.in-Ok.ensures.many all) c.number_gateways.result c.number_gateways.ensures
