use Rattle.issue_book.proofs.FilledLemmas.{join-left}
use Rattle.issue_floor.proofs.entering.join.Goals as goal

pub returns-clause-left : goal.returns-clause-left
returns-clause-left c = join-left c.args.order c.args.book.now.state c.join.ensures.filled
