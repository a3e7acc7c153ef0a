use Rattle.issue_book.proofs.SlotLemmas.{handle-if_none, handle-if_some}
use Rattle.issue_book.proofs.handles.handle_of.Goals as goal

pub returns-clause-none : goal.returns-clause-none
returns-clause-none c = handle-if_none c.args.book.now c.args.caller c.args.own c.find.result c.find.ensures

pub returns-clause-some : goal.returns-clause-some
returns-clause-some c = handle-if_some c.args.book.now c.args.caller c.args.own c.find.result c.stands.ensures.book c.find.ensures
