use Rattle.std.proofs.Common.{arith, inl, inr, refl}
use Rattle.market_top.specs.Audit.{audited, too_long}
use Rattle.market_top.specs.Verdict.{no_memory}
use Rattle.market_top.proofs.VerdictLemmas.{Delivered-printed, Delivered-told}
use Rattle.market_top.proofs.auditing.audit_bytes.Goals as goal

pub returns-then-report-gt-REPORT_LIMIT : goal.returns-then-report-gt-REPORT_LIMIT
returns-then-report-gt-REPORT_LIMIT g c =
    (too_long, inl (omega (arith, c.if-report-gt-REPORT_LIMIT.true), refl), Delivered-told _ _ _ _ too_long _ _ _ _ refl c.tell.ensures)

pub returns-in-Ok : goal.returns-in-Ok
returns-in-Ok g c =
    let answer = c.in-Ok.answer in
    (audited answer, inr (omega (arith, c.if-report-gt-REPORT_LIMIT.false), inr (answer, c.in-Ok.ensures, refl)), Delivered-printed _ _ _ _ (audited answer) _ _ _ _ refl c.print_answer.ensures)

pub returns-in-Err-Memory : goal.returns-in-Err-Memory
returns-in-Err-Memory g c =
    (no_memory, inr (omega (arith, c.if-report-gt-REPORT_LIMIT.false), inl refl), Delivered-told _ _ _ _ no_memory _ _ _ _ refl c.tell-in-Err-Memory.ensures)
