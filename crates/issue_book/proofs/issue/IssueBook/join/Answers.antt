use Rattle.std.proofs.Common.{subst, sym}
use Rattle.issue_book.specs.IssueView.{MayEnter}
use Rattle.issue_book.proofs.FieldLemmas.{enters-fresh}
use Rattle.issue_book.proofs.FilledLemmas.{join-filled}
use Rattle.issue_book.proofs.issue.IssueBook.join.Goals as goal

pub insert-requires : goal.insert-requires
insert-requires c = enters-fresh c.self.inside c.args.order c.self.invariant (subst (λ v. MayEnter v c.args.order) (sym c.self.view_is) c.requires)

pub returns-clause-filled : goal.returns-clause-filled
returns-clause-filled c = join-filled c.args.order c.args.self.now.state c.requires.last c.requires.pair
