use Rattle.std.proofs.Common.{sym, arith}
use Rattle.book_law.specs.BookView.{orders}
use Rattle.itayose.proofs.SumLemmas.{orders-on_grid}
use Rattle.itayose.proofs.WalkLemmas.{same_sums, with_upper}
use Rattle.itayose.proofs.outward.sums_below.Goals as goal

pub overflow_add-result : goal.overflow_add-result
overflow_add-result c =
    let grid = c.args.grid.now in
    let os = orders c.args.book.now in
    let on = orders-on_grid c.args.book.now grid c.stands.ensures.book c.requires.size in
    let n = with_upper grid os on c.stands.ensures.sums c.stands-2.ensures.rising c.args.i c.args.next.now c.requires.in_range c.requires.next in
    omega (arith, n.buys, n.bought, c.level.ensures)

pub overflow_sub-result : goal.overflow_sub-result
overflow_sub-result c =
    let grid = c.args.grid.now in
    let os = orders c.args.book.now in
    let on = orders-on_grid c.args.book.now grid c.stands.ensures.book c.requires.size in
    let n = with_upper grid os on c.stands.ensures.sums c.stands-2.ensures.rising c.args.i c.args.next.now c.requires.in_range c.requires.next in
    omega (arith, n.below, c.level-2.ensures)

pub returns : goal.returns
returns c =
    let grid = c.args.grid.now in
    let os = orders c.args.book.now in
    let on = orders-on_grid c.args.book.now grid c.stands.ensures.book c.requires.size in
    let n = with_upper grid os on c.stands.ensures.sums c.stands-2.ensures.rising c.args.i c.args.next.now c.requires.in_range c.requires.next in
    same_sums grid os c.args.i _ c.price.ensures.value (omega (arith, n.buys, c.level.ensures)) (sym n.above) (sym n.sells) (omega (arith, n.below, c.level-2.ensures))
