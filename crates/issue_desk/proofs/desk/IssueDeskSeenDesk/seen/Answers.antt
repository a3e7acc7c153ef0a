use Rattle.std.proofs.Common.{subst}
use Rattle.issue_desk.specs.Desk.{IsDesk}
use Rattle.issue_desk.proofs.ShowLemmas.{desk-told}
use Rattle.issue_desk.proofs.desk.IssueDeskSeenDesk.seen.Goals as goal

pub returns-clause-told : goal.returns-clause-told
returns-clause-told g c = desk-told c.args.self.now (subst IsDesk c.self.view_is c.self.invariant.desk)
