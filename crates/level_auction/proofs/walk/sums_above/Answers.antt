use Rattle.std.proofs.Common.{refl, arith}
use Rattle.itayose.proofs.WalkLemmas.{same_sums, with_lower}
use Rattle.level_auction.proofs.walk.sums_above.Goals as goal

pub overflow_sub-result : goal.overflow_sub-result
overflow_sub-result c =
    let can = c.requires.can in
    let n = with_lower c.args.grid.now c.args.levels.now.orders can.on_grid can.fits can.rising c.args.i c.args.next.now c.requires.some c.requires.in_range c.requires.next in
    omega (arith, n.above, n.high_buys, c.left.ensures)

pub overflow_add-result : goal.overflow_add-result
overflow_add-result c =
    let can = c.requires.can in
    let n = with_lower c.args.grid.now c.args.levels.now.orders can.on_grid can.fits can.rising c.args.i c.args.next.now c.requires.some c.requires.in_range c.requires.next in
    omega (arith, n.sells, n.high_sells, n.sold, c.left-2.ensures)

pub returns : goal.returns
returns c =
    let can = c.requires.can in
    let n = with_lower c.args.grid.now c.args.levels.now.orders can.on_grid can.fits can.rising c.args.i c.args.next.now c.requires.some c.requires.in_range c.requires.next in
    same_sums c.args.grid.now c.args.levels.now.orders c.args.i _ refl n.above (omega (arith, n.above, n.high_buys, c.left.ensures)) (omega (arith, n.sells, n.high_sells, c.left-2.ensures)) n.sells
