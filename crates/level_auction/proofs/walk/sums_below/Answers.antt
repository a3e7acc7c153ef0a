use Rattle.std.proofs.Common.{refl, sym, arith}
use Rattle.itayose.proofs.WalkLemmas.{same_sums, with_upper}
use Rattle.level_auction.proofs.walk.sums_below.Goals as goal

pub overflow_add-result : goal.overflow_add-result
overflow_add-result c =
    let can = c.requires.can in
    let n = with_upper c.args.grid.now c.args.levels.now.orders can.on_grid can.fits can.rising c.args.i c.args.next.now c.requires.in_range c.requires.next in
    omega (arith, n.buys, n.bought, c.left.ensures)

pub overflow_sub-result : goal.overflow_sub-result
overflow_sub-result c =
    let can = c.requires.can in
    let n = with_upper c.args.grid.now c.args.levels.now.orders can.on_grid can.fits can.rising c.args.i c.args.next.now c.requires.in_range c.requires.next in
    omega (arith, n.below, c.left-2.ensures)

pub returns : goal.returns
returns c =
    let can = c.requires.can in
    let n = with_upper c.args.grid.now c.args.levels.now.orders can.on_grid can.fits can.rising c.args.i c.args.next.now c.requires.in_range c.requires.next in
    same_sums c.args.grid.now c.args.levels.now.orders c.args.i _ refl (omega (arith, n.buys, c.left.ensures)) (sym n.above) (sym n.sells) (omega (arith, n.below, c.left-2.ensures))
