use Rattle.quote_law.proofs.WindowLemmas.{price-on-grid}
use Rattle.sequential_quote.proofs.start.begin.Goals as goal

pub returns-clause-on_grid : goal.returns-clause-on_grid
returns-clause-on_grid c = price-on-grid c.args.grid.now _ _ c.stands.ensures.rising c.twice_away.ensures.within c.price.ensures.value
