use Rattle.std.proofs.Common.{sym, ◌∙◌}
use Rattle.quote_law.proofs.WindowLemmas.{price-found}
use Rattle.quote_law.proofs.windows.position.Goals as goal

pub returns-clause-price : goal.returns-clause-price
returns-clause-price c = price-found c.args.grid.now c.args.quote.now.price.0 c.in-Some.at (sym c.index.ensures.exact ∙ c.in-Some.is)
