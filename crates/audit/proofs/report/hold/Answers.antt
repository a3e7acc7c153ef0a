use Rattle.std.proofs.Common.{refl}
use Rattle.audit.proofs.HoldLemmas.{failed-cause, held-all, held-part}
use Rattle.audit.proofs.report.hold.Goals as goal

pub returns-in-Ok : goal.returns-in-Ok
returns-in-Ok c = c.verdict.ensures c.args.report.now _ (held-all c.args.report.now _ _ _ _ c.new-matcher.ensures.contents c.in-Ok.ensures.all)

pub returns-in-Err-Write : goal.returns-in-Err-Write
returns-in-Err-Write c =
    c.verdict-in-Err-Write.ensures c.args.report.now _
    (held-part c.args.report.now _ _ _ _ _ c.new-matcher.ensures.contents c.new-matcher.ensures.faults c.in-Err-Write.ensures.part
    (failed-cause c.in-Err-Write.field-0 c.in-Err-Write.field-0-is (c.in-Err-Write.ensures.cause c.in-Err-Write.field-0 refl)))
