use Rattle.audit.proofs.AuditLemmas.{audited-result, told-asked, told-run}
use Rattle.audit.proofs.report.audit.Goals as goal

pub judge-requires-clause-run : goal.judge-requires-clause-run
judge-requires-clause-run c =
    told-run c.args.rules.now c.requires.rules c.args.report.now c.in-Ok.told.done.items c.in-Ok.told.asked.items c.in-Ok.ensures.issues c.in-Ok.ensures.asked

pub judge-requires-clause-asked : goal.judge-requires-clause-asked
judge-requires-clause-asked c =
    told-asked c.args.rules.now c.requires.rules c.args.report.now c.in-Ok.told.done.items c.in-Ok.told.asked.items c.in-Ok.ensures.issues c.in-Ok.ensures.asked

pub returns-in-Ok : goal.returns-in-Ok
returns-in-Ok c =
    audited-result c.args.rules.now c.requires.rules c.args.report.now c.in-Ok.told.done.items c.in-Ok.told.asked.items c.in-Ok.ensures.issues c.in-Ok.ensures.asked c.judge.result c.judge.ensures
