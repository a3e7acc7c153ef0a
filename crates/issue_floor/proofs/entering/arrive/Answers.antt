use Rattle.std.proofs.Common.{◌++◌, List, subst}
use Rattle.mkt_base.specs.declared.output.Output.{Output}
use Rattle.issue_floor.proofs.FilledLemmas.{filled-quoted}
use Rattle.issue_floor.proofs.ToldLemmas.{arrive-outputs, told-then}
use Rattle.issue_floor.proofs.entering.arrive.Goals as goal

pub returns-clause-filled : goal.returns-clause-filled
returns-clause-filled g c =
    filled-quoted c.args.order.caller c.args.order.own c.args.order.place c.args.order.left c.args.book.now.terms c.args.book.now.state.last _ _ c.arrive-arrived.ensures.filled

pub returns-clause-told : goal.returns-clause-told
returns-clause-told g c = λ from outputs h.
    subst (λ (more : List Output). g.W.Watch.took from (outputs ++ more) c.quote_for.new.watch)
    (arrive-outputs c.args.book.now c.arrive-arrived.new.self c.args.order c.last-first.result.0 c.arrive-arrived.result.stop c.arrive-arrived.ensures.state c.last-first.ensures c.arrive-arrived.ensures.stop)
    (told-then g.W.Watch.took from c.quote_for.new.watch outputs _ _ (c.quote_for.ensures.told from _ (c.arrive-arrived.ensures.told from outputs h)))
