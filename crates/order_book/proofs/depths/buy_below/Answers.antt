use Rattle.std.proofs.Common.{arith}
use Rattle.order_book.proofs.depths.buy_below.Goals as goal

pub returns : goal.returns
returns g c = c.last_buy.ensures c.args.below (omega arith) (omega (arith, c.requires)) c.upto-rest.ensures.exact
