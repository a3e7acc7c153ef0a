use Rattle.order_book.proofs.BestLemmas.{best-sell-first}
use Rattle.order_book.proofs.depths.sell_after.Goals as goal

pub returns : goal.returns
returns g c before left is less best = best-sell-first c.args.sells.now c.find_first.result c.find_first.ensures.exact
