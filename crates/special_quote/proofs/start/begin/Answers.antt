use Rattle.quote_law.proofs.WindowLemmas.{price-on-grid}
use Rattle.special_quote.proofs.start.begin.Goals as goal

pub returns-clause-on_grid : goal.returns-clause-on_grid
returns-clause-on_grid c = price-on-grid c.args.grid.now _ _ c.stands.ensures.rising c.renewed.ensures.within c.price-price.ensures.value
