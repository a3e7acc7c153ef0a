use Rattle.std.proofs.Common.{ap, arith, ◌∙◌}
use Rattle.script_file.specs.declared.script.GatewayScriptLine.{GatewayScriptLine}
use Rattle.script_file.proofs.ReaderLemmas.{run-fits, run-more, run-none, run-whole}
use Rattle.script_file.proofs.reader.Reader.add_run.Goals as goal

pub loop-issue-init : goal.loop-issue-init
loop-issue-init c = run-none c.args.self.now c.args.number c.args.gateway c.args.act.now c.args.first

pub push-requires-clause-room : goal.push-requires-clause-room
push-requires-clause-room c =
    run-fits c.args.self.now c.args.number c.args.gateway c.args.act.now c.args.first c.loop-issue.self c.line_for-line.result c.args.count c.loop-issue.issue
    c.requires.room (omega arith) (omega arith) c.loop-issue.invariant (ap (λ (line : GatewayScriptLine). line.line.act) c.line_for-line.ensures)

pub push-requires-clause-gateway : goal.push-requires-clause-gateway
push-requires-clause-gateway c = rw c.line_for-line.ensures c.requires.gateway

pub push-requires-clause-issue : goal.push-requires-clause-issue
push-requires-clause-issue c = rw c.line_for-line.ensures (omega arith)

pub loop-issue-preserved : goal.loop-issue-preserved
loop-issue-preserved c =
    run-more c.args.self.now c.args.number c.args.gateway c.args.act.now c.args.first c.loop-issue.self c.push.new.self c.line_for-line.result c.loop-issue.issue
    (omega arith) c.loop-issue.invariant
    (c.line_for-line.ensures ∙ ap (λ stage. record { gateway = c.args.gateway; line = record { line = c.args.number; stage = stage; issue = c.loop-issue.issue; act = c.args.act.now } }) c.open_stage-stage.ensures)
    c.in_ok-push.ensures

pub returns : goal.returns
returns c =
    run-whole c.args.self.now c.args.number c.args.gateway c.args.act.now c.args.first c.loop-issue.self c.args.count c.loop-issue.issue (omega arith) c.loop-issue.invariant
