use Rattle.std.proofs.Common.{◌<◌, subst}
use Rattle.issue_book.specs.IssueView.{IsIssue}
use Rattle.issue_book.proofs.FieldLemmas.{stands-as}
use Rattle.issue_book.proofs.issue.IssueBook.stands.Goals as goal

pub returns : goal.returns
returns c =
    subst IsIssue c.self.view_is
    (stands-as c.self.inside c.stands.ensures.book c.self.invariant (subst (λ n. n < 86400000) c.ms.ensures.value c.ms.ensures.within_the_day))
