use Rattle.std.proofs.Common.{◌++◌, List, subst}
use Rattle.mkt_base.specs.declared.output.Output.{Output}
use Rattle.issue_book.specs.Holding.{tried_at}
use Rattle.issue_floor.proofs.ToldLemmas.{close-outputs, told-thrice}
use Rattle.issue_floor.proofs.boundaries.close_trading.Goals as goal

pub returns-clause-told : goal.returns-clause-told
returns-clause-told g c = λ from outputs h.
    let v = c.args.book.now in
    subst (λ (more : List Output). g.W.Watch.took from (outputs ++ more) c.enter_phase.new.watch)
    (close-outputs v c.close.new.self c.end_quote.new.book (tried_at v.terms.grid c.close_window-window.result) c.close_window-window.ensures.exact c.close.ensures.state)
    (told-thrice g.W.Watch.took from c.enter_phase.new.watch outputs _ _ _ (c.enter_phase.ensures.told from _ (c.end_quote.ensures.told from _ (c.close.ensures.told from outputs h))))
