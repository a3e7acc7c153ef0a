use Rattle.std.proofs.Common.{◌≡◌, ◌≤◌, ◌<◌, ◌+◌, get_or, ◌++◌, ℕ, List, All, Some, slice_get, length, take, drop, sym, ap, subst, ◌∙◌, arith}
use Rattle.rules_file.specs.Rules.{issues_in}
use Rattle.issue_journal.specs.Issue.{IssueNow}
use Rattle.run_report.specs.Report.{IsRun}
use Rattle.run_report.specs.declared.ended.EndedIssue.{EndedIssue}
use Rattle.run_law.specs.Replayed.{IsReplayOf}
use Rattle.script_file.specs.declared.script.GatewayScriptLine.{GatewayScriptLine}
use Rattle.script_run.specs.Running.{AreOutFrom, HasCome, MayDo, WasDone, WasRead, run_of}
use Rattle.script_run.proofs.ClosingLemmas.{below-from}
use Rattle.script_run.proofs.CountLemmas.{count_for-le, counts-few, length-counts}
use Rattle.script_run.proofs.LineLemmas.{written-back}
use Rattle.script_run.proofs.RunningLemmas.{come-all, come-begins, labelled-all, line-done, line-may, line-room, printable, replayed}
use Rattle.script_run.proofs.replay.replay_lines.Goals as goal

pub open_all-requires-clause-each : goal.open_all-requires-clause-each
open_all-requires-clause-each g c lives within = ap length c.requires.counts ∙ length-counts (length (issues_in c.args.rules.now)) c.args.script.now.lines

pub open_all-requires-clause-few : goal.open_all-requires-clause-few
open_all-requires-clause-few g c lives within =
    let lines = c.args.script.now.lines in
    subst (All (λ (n : ℕ). n ≤ 500000)) (sym c.requires.counts)
    (counts-few (length (issues_in c.args.rules.now)) 500000 lines (λ issue. let few = count_for-le issue lines in omega (arith, few, c.requires.script.few)))

pub loop-of-init : goal.loop-of-init
loop-of-init g c = record {
  come = come-begins c.args.rules.now c.args.script.now.lines c.args.counts.now c.in_ok-issues.issues.items c.args.shows.items c.requires.counts c.in_ok-issues.ensures.each c.in_ok-issues.ensures.fresh c.requires.shows.0;
  room = c.requires.shows.1;
}

pub do_line-requires-clause-may : goal.do_line-requires-clause-may
do_line-requires-clause-may g c =
    subst (λ (xs : List IssueNow). (i : IssueNow) → slice_get xs c.of-item.result.line.issue ≡ Some i → MayDo c.of-item.result.gateway c.of-item.result.line.act i) (sym c.as_mut_slice.ensures.value)
    (line-may c.args.rules.now c.args.script.now c.requires.script c.loop-of.of-index c.of-item.result (subst (λ (ls : List GatewayScriptLine). c.loop-of.of-index < length ls) c.as_slice-of-items.ensures c.loop-of-test.true)
    (c.of-item.is ∙ ap (λ (ls : List GatewayScriptLine). get_or ls c.loop-of.of-index c.of-item.result) c.as_slice-of-items.ensures) c.losses_stay_few.ensures c.loop-of.issues.items c.loop-of.shows.items c.loop-of.invariant.come)

pub do_line-requires-clause-room : goal.do_line-requires-clause-room
do_line-requires-clause-room g c =
    line-room c.args.rules.now c.args.script.now c.requires.script c.loop-of.of-index c.of-item.result (subst (λ (ls : List GatewayScriptLine). c.loop-of.of-index < length ls) c.as_slice-of-items.ensures c.loop-of-test.true)
    (c.of-item.is ∙ ap (λ (ls : List GatewayScriptLine). get_or ls c.loop-of.of-index c.of-item.result) c.as_slice-of-items.ensures) c.loop-of.issues.items c.loop-of.shows.items _ c.loop-of.invariant.come c.loop-of.invariant.room

pub loop-of-preserved : goal.loop-of-preserved
loop-of-preserved g c =
    let rules = c.args.rules.now in
    let made = c.args.script.now.lines in
    let of = c.of-item.result in
    let k = c.loop-of.of-index in
    let old = c.loop-of.issues.items in
    let done : WasDone of of.line.act old c.do_line.new.issues = subst (λ (xs : List IssueNow). WasDone of of.line.act xs c.do_line.new.issues) c.as_mut_slice.ensures.value c.do_line.ensures.issues in
    let read = subst (λ (xs : List IssueNow). WasRead of of.line.act xs c.loop-of.shows.items c.do_line.new.shows.items) c.as_mut_slice.ensures.value c.do_line.ensures.shows in
    let come : HasCome rules made (take (k + 1) made) c.do_line.new.issues c.do_line.new.shows.items =
    line-done rules c.args.script.now c.requires.script k of (subst (λ (ls : List GatewayScriptLine). c.loop-of.of-index < length ls) c.as_slice-of-items.ensures c.loop-of-test.true)
    (c.of-item.is ∙ ap (λ (ls : List GatewayScriptLine). get_or ls c.loop-of.of-index c.of-item.result) c.as_slice-of-items.ensures) old c.do_line.new.issues c.loop-of.shows.items c.do_line.new.shows.items c.loop-of.invariant.come done read in
    let same : take c.loop-of.issues.len (c.do_line.new.issues ++ drop (length c.do_line.new.issues) old) ≡ c.do_line.new.issues =
    written-back c.loop-of.issues.len old c.do_line.new.issues (omega (arith, come.each, c.loop-of.invariant.come.each, c.loop-of.issues.ok)) (omega (arith, come.each, c.loop-of.invariant.come.each)) in
    record {
      come = subst (λ (xs : List IssueNow). HasCome rules made (take (k + 1) made) xs c.do_line.new.shows.items) (sym same) come;
      room = omega (arith, c.loop-of.invariant.room, c.do_line.ensures.room);
    }

pub close_all-requires-clause-labelled : goal.close_all-requires-clause-labelled
close_all-requires-clause-labelled g c lives within =
    labelled-all c.args.rules.now c.args.script.now.lines (take c.loop-of.of-index c.args.script.now.lines) c.loop-of.issues.items c.loop-of.invariant.come.after

pub close_all-requires-clause-out : goal.close_all-requires-clause-out
close_all-requires-clause-out g c lives within =
    subst (λ n. AreOutFrom (g.R.Rack.is_out c.open_all.new.rack) 0 n) (sym c.loop-of.invariant.come.each) (below-from (g.R.Rack.is_out c.open_all.new.rack) (length (issues_in c.args.rules.now)) c.in_ok-issues.ensures.out)

pub returns-clause-printable : goal.returns-clause-printable
returns-clause-printable g c =
    let rules = c.args.rules.now in
    let script = c.args.script.now in
    let issues = c.loop-of.issues.items in
    let shows = c.loop-of.shows.items in
    let come = come-all rules script.lines c.loop-of.of-index issues shows (subst (λ (ls : List GatewayScriptLine). length ls ≤ c.loop-of.of-index) c.as_slice-of-items.ensures c.loop-of-test.false) c.loop-of.invariant.come in
    subst (λ (es : List EndedIssue). IsRun rules (run_of es shows)) (sym c.close_all.ensures.ended) (printable rules script c.requires.script issues shows come)

pub returns-clause-replayed : goal.returns-clause-replayed
returns-clause-replayed g c =
    let rules = c.args.rules.now in
    let script = c.args.script.now in
    let issues = c.loop-of.issues.items in
    let shows = c.loop-of.shows.items in
    let come = come-all rules script.lines c.loop-of.of-index issues shows (subst (λ (ls : List GatewayScriptLine). length ls ≤ c.loop-of.of-index) c.as_slice-of-items.ensures c.loop-of-test.false) c.loop-of.invariant.come in
    subst (λ (es : List EndedIssue). IsReplayOf script (run_of es shows)) (sym c.close_all.ensures.ended) (replayed rules script c.requires.script issues shows come)
