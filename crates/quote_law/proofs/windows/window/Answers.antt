use Rattle.std.proofs.Common.{subst}
use Rattle.mkt_base.specs.declared.order.Side.{Side}
use Rattle.quote_law.specs.Quotes.{IsToward}
use Rattle.quote_law.proofs.WindowLemmas.{toward-itself, window-holds}
use Rattle.quote_law.proofs.windows.window.Goals as goal

pub returns-clause-holds : goal.returns-clause-holds
returns-clause-holds c =
    let side = c.args.quote.now.side in
    window-holds c.args.grid.now side c.args.quote.now.price.0 c.args.last c.position-at.result c.renewed-near.result c.position-at.result c.window_to.result
    c.stands.ensures.rising c.requires.last c.position-at.ensures.within c.position-at.ensures.exact c.window_to.ensures
    (subst (λ (s : Side). IsToward s c.args.last c.renewed-near.result) c.opposite.ensures c.renewed-near.ensures.toward)
    (toward-itself side c.position-at.result)
