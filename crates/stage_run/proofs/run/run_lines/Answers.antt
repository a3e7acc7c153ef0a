use Rattle.std.proofs.Common.{ℕ, ◌≤◌, List, All, length, sym, ap, subst, ◌∙◌, arith}
use Rattle.mkt_base.specs.declared.script.ShowLine.{ShowLine}
use Rattle.rules_file.specs.Rules.{issues_in, participants_in}
use Rattle.script_file.specs.declared.script.GatewayScriptLine.{GatewayScriptLine}
use Rattle.gateway.specs.Ran.{GatewayNow}
use Rattle.run_law.specs.Run.{IsRunOf}
use Rattle.run_report.specs.declared.ended.EndedIssue.{EndedIssue}
use Rattle.script_run.specs.Running.{AreOutFrom, run_of}
use Rattle.script_run.proofs.ClosingLemmas.{below-from}
use Rattle.script_run.proofs.CountLemmas.{count_for-le, counts-few, length-counts}
use Rattle.show_merge.specs.Merged.{AreMerged}
use Rattle.stage_run.specs.Played.{WerePlayed}
use Rattle.stage_run.proofs.RunLemmas.{all-fresh, few-closed, is-run, labelled, lines-for, lines-named}
use Rattle.stage_run.proofs.run.run_lines.Goals as goal

pub open_all-requires-clause-each : goal.open_all-requires-clause-each
open_all-requires-clause-each g c = λ κs bounds. ap length c.requires.counts ∙ length-counts (length (issues_in c.args.rules.now)) c.args.script.now.lines

pub open_all-requires-clause-few : goal.open_all-requires-clause-few
open_all-requires-clause-few g c = λ κs bounds.
    let lines = c.args.script.now.lines in
    subst (All (λ (n : ℕ). n ≤ 500000)) (sym c.requires.counts)
    (counts-few (length (issues_in c.args.rules.now)) 500000 lines (λ issue. let few = count_for-le issue lines in omega (arith, few, c.requires.script.few)))

pub play_issues-requires-clause-fresh : goal.play_issues-requires-clause-fresh
play_issues-requires-clause-fresh g c = λ κs bounds.
    all-fresh c.args.rules.now c.args.script.now c.requires.script c.args.counts.now c.in_ok-issues.issues.items c.requires.counts c.in_ok-issues.ensures.each c.in_ok-issues.ensures.fresh

pub play_issues-requires-clause-lines : goal.play_issues-requires-clause-lines
play_issues-requires-clause-lines g c = λ κs bounds. (
  length (participants_in c.args.rules.now),
  lines-for c.args.rules.now c.args.script.now c.requires.script c.args.counts.now c.in_ok-issues.issues.items c.requires.counts c.in_ok-issues.ensures.each c.in_ok-issues.ensures.fresh,
)

pub close_all-requires-clause-labelled : goal.close_all-requires-clause-labelled
close_all-requires-clause-labelled g c = λ κs bounds.
    let closed = c.in_ok-issues-2.field-0.issues.items in
    let back = c.in_ok-issues-2.field-0.gateways.items in
    let played = subst (λ (n : ℕ). WerePlayed c.args.script.now n c.in_ok-issues.issues.items closed back) c.requires.gateways.many c.in_ok-issues-2.ensures in
    labelled c.args.rules.now c.args.script.now c.requires.script c.args.counts.now c.in_ok-issues.issues.items c.requires.counts c.in_ok-issues.ensures.each c.in_ok-issues.ensures.fresh c.end_is_played.ensures c.played_is_run.ensures
    c.played_shows.ensures closed back played

pub close_all-requires-clause-out : goal.close_all-requires-clause-out
close_all-requires-clause-out g c = λ κs bounds.
    let closed = c.in_ok-issues-2.field-0.issues.items in
    let back = c.in_ok-issues-2.field-0.gateways.items in
    let played = subst (λ (n : ℕ). WerePlayed c.args.script.now n c.in_ok-issues.issues.items closed back) c.requires.gateways.many c.in_ok-issues-2.ensures in
    let many = few-closed c.args.rules.now c.args.script.now c.requires.script c.args.counts.now c.in_ok-issues.issues.items c.requires.counts c.in_ok-issues.ensures.each c.in_ok-issues.ensures.fresh c.end_is_played.ensures
    c.played_is_run.ensures c.played_shows.ensures closed back played in
    subst (λ (n : ℕ). AreOutFrom (g.R.Rack.is_out c.open_all.new.rack) 0 n) (sym many) (below-from (g.R.Rack.is_out c.open_all.new.rack) (length (issues_in c.args.rules.now)) c.in_ok-issues.ensures.out)

pub merge_shows-requires-clause-gateways : goal.merge_shows-requires-clause-gateways
merge_shows-requires-clause-gateways g c =
    let closed = c.in_ok-issues-2.field-0.issues.items in
    let back = c.in_ok-issues-2.field-0.gateways.items in
    let played = subst (λ (n : ℕ). WerePlayed c.args.script.now n c.in_ok-issues.issues.items closed back) c.requires.gateways.many c.in_ok-issues-2.ensures in
    let named = lines-named c.args.rules.now c.args.script.now c.requires.script c.args.counts.now c.in_ok-issues.issues.items c.requires.counts c.in_ok-issues.ensures.each c.in_ok-issues.ensures.fresh c.end_is_played.ensures
    c.played_is_run.ensures c.played_shows.ensures closed back played in
    subst (λ (ls : List GatewayScriptLine). All (λ (of : GatewayScriptLine). (1 ≤ of.gateway.0) × (of.gateway.0 ≤ length c.as_slice-2.result.now)) ls) (sym c.as_slice.ensures)
    (subst (λ (gs : List GatewayNow). All (λ (of : GatewayScriptLine). (1 ≤ of.gateway.0) × (of.gateway.0 ≤ length gs)) c.args.script.now.lines) (sym c.as_slice-2.ensures.value) named)

pub returns-clause-run : goal.returns-clause-run
returns-clause-run g c =
    let closed = c.in_ok-issues-2.field-0.issues.items in
    let back = c.in_ok-issues-2.field-0.gateways.items in
    let shows : List ShowLine = c.merge_shows.new.shows.items in
    let played = subst (λ (n : ℕ). WerePlayed c.args.script.now n c.in_ok-issues.issues.items closed back) c.requires.gateways.many c.in_ok-issues-2.ensures in
    let merged =
    subst (λ (gs : List GatewayNow). AreMerged c.args.script.now.lines gs shows) c.as_slice-2.ensures.value
    (subst (λ (ls : List GatewayScriptLine). AreMerged ls c.as_slice-2.result.now shows) c.as_slice.ensures c.merge_shows.ensures) in
    subst (λ (es : List EndedIssue). IsRunOf c.args.rules.now c.args.script.now (run_of es shows)) (sym c.close_all.ensures.ended)
    (is-run c.args.rules.now c.args.script.now c.requires.script c.args.counts.now c.in_ok-issues.issues.items c.requires.counts c.in_ok-issues.ensures.each c.in_ok-issues.ensures.fresh c.end_is_played.ensures c.played_is_run.ensures
    c.played_shows.ensures closed back played shows merged)
