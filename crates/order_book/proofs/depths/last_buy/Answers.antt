use Rattle.std.proofs.Common.{arith}
use Rattle.depth_index.specs.Depths.{IsFirstReaching, IsNowhereReached}
use Rattle.order_book.specs.Depths.{IsEmptyWithin, IsLastBelow}
use Rattle.order_book.proofs.DepthLemmas.{last-below, match-weaker, none-below, reached-below}
use Rattle.order_book.proofs.depths.last_buy.Goals as goal

pub returns-then-rest-eq0 : goal.returns-then-rest-eq0
returns-then-rest-eq0 g c below some within is = none-below c.args.buys.now below (omega (arith, is)) some

pub returns : goal.returns
returns g c below some within is =
    let xs = c.args.buys.now in
    let rest = c.args.rest in
    match-weaker c.find_first.result (IsNowhereReached xs rest) (IsEmptyWithin xs 0 below) (IsFirstReaching xs rest) (IsLastBelow xs below)
    (λ nowhere. absurd (reached-below xs below rest some within is nowhere))
    (λ i first. last-below xs below rest i some within is (omega arith) first) c.find_first.ensures.exact
