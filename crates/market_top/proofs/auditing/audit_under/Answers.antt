use Rattle.std.proofs.Common.{Err, List, ℕ, ap, inr, subst, ◌∙◌}
use Rattle.market_top.specs.Audit.{IsAuditedUnder}
use Rattle.market_top.specs.Verdict.{unread}
use Rattle.market_top.proofs.VerdictLemmas.{Delivered-told, unread-is, unread-out}
use Rattle.market_top.proofs.auditing.audit_under.Goals as goal

pub returns-in-Err-clause-verdict : goal.returns-in-Err-clause-verdict
returns-in-Err-clause-verdict g c =
    let fault = c.in-Err.fault in (
      unread fault,
      unread-is 268435456 (g.F.Shelf.files c.args.shelf.now) _ c.args.name.now (IsAuditedUnder c.args.rules.now) fault (λ read. c.read_whole.ensures.failed (c.in-Err.is ∙ ap Err read)),
      Delivered-told _ _ _ _ (unread fault) _ _ _ _ (unread-out fault) c.tell_unread.ensures,
    )

pub returns-clause-verdict : goal.returns-clause-verdict
returns-clause-verdict g c =
    let verdict = c.audit_bytes.ensures in
    let P : List ℕ → Type 0 = λ bytes. IsAuditedUnder c.args.rules.now bytes verdict.0 in
    (verdict.0, inr (inr (c.in-Ok.bytes.items, c.in-Ok.ensures.bytes, subst P c.deref.ensures.value verdict.1)), verdict.2)
