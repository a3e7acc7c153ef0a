use Rattle.std.proofs.Common.{subst}
use Rattle.mkt_base.specs.declared.order.Side.{Side}
use Rattle.quote_law.specs.Quotes.{IsToward}
use Rattle.quote_law.proofs.WindowLemmas.{window-holds}
use Rattle.quote_law.proofs.windows.due_window.Goals as goal

pub returns-clause-holds : goal.returns-clause-holds
returns-clause-holds c =
    window-holds c.args.grid.now c.args.quote.now.side c.args.quote.now.price.0 c.args.last c.position-at.result c.renewed-near.result c.renewed-far.result
    c.window_to.result c.stands.ensures.rising c.requires.last c.position-at.ensures.within c.position-at.ensures.exact c.window_to.ensures
    (subst (λ (s : Side). IsToward s c.args.last c.renewed-near.result) c.opposite.ensures c.renewed-near.ensures.toward)
    c.renewed-far.ensures.toward
