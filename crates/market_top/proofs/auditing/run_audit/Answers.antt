use Rattle.std.proofs.Common.{◌≡◌, Ok, Err, sym, ap, ◌∙◌}
use Rattle.rules_file.specs.Faults.{Fails}
use Rattle.rules_file.specs.Rules.{rules_of}
use Rattle.market_top.specs.Audit.{IsAuditVerdict, IsAuditedUnder}
use Rattle.market_top.specs.Check.{no_rules}
use Rattle.market_top.specs.Verdict.{OnFile, unread}
use Rattle.market_top.proofs.ReplayLemmas.{OnFile-since, Rises-since, no-rules-on, rules-on}
use Rattle.market_top.proofs.VerdictLemmas.{Delivered-told, no-rules-out, unread-is, unread-out}
use Rattle.market_top.proofs.auditing.run_audit.Goals as goal

pub returns-in-Err-clause-verdict : goal.returns-in-Err-clause-verdict
returns-in-Err-clause-verdict g c =
    let fault = c.in-Err.fault in
    let files = g.F.Shelf.files c.args.shelf.now in (
      unread fault,
      unread-is 1048576 files _ c.args.rules.now (IsAuditVerdict (OnFile 268435456 files _ c.args.report.now)) fault (λ read. c.read_whole.ensures.failed (c.in-Err.is ∙ ap Err read)),
      Delivered-told _ _ _ _ (unread fault) _ _ _ _ (unread-out fault) c.tell_unread.ensures,
    )

pub returns-in-Ok-read_rules-clause-verdict : goal.returns-in-Ok-read_rules-clause-verdict
returns-in-Ok-read_rules-clause-verdict g c =
    let rules = c.in-Ok-read_rules.said in
    let files = g.F.Shelf.files c.args.shelf.now in
    let said : rules_of c.in-Ok.bytes.items ≡ Ok rules = ap rules_of (sym c.deref.ensures.value) ∙ c.in-Ok-read_rules.ensures.exact in
    let verdict = c.audit_under.ensures.verdict in (
      verdict.0,
      rules-on files _ c.args.rules.now (λ said. OnFile 268435456 files _ c.args.report.now (IsAuditedUnder said)) c.in-Ok.bytes.items c.in-Ok.ensures.bytes rules verdict.0 said
          (OnFile-since 268435456 files _ _ _ c.args.report.now (IsAuditedUnder rules) verdict.0 c.read_whole.ensures.files (Rises-since _ _ _ c.read_whole.ensures.count) verdict.1),
      verdict.2,
    )

pub returns-clause-verdict : goal.returns-clause-verdict
returns-clause-verdict g c =
    let fault = c.in-Err-read_rules.fault in
    let files = g.F.Shelf.files c.args.shelf.now in
    let fails : Fails fault (rules_of c.in-Ok.bytes.items) = rw (← c.deref.ensures.value) c.in-Err-read_rules.ensures.exact in (
      no_rules fault,
      no-rules-on files _ c.args.rules.now (λ said. OnFile 268435456 files _ c.args.report.now (IsAuditedUnder said)) c.in-Ok.bytes.items c.in-Ok.ensures.bytes fault fails,
      Delivered-told _ _ _ _ (no_rules fault) _ _ _ _ (no-rules-out fault) c.tell_no_rules.ensures,
    )
