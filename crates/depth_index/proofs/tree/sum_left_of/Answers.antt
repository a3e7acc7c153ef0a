use Rattle.std.proofs.Common.{◌-◌, arith}
use Rattle.depth_index.proofs.RowLemmas.{left_of-root, left_of-up, twice-up}
use Rattle.depth_index.proofs.tree.sum_left_of.Goals as goal

pub overflow_add-left : goal.overflow_add-left
overflow_add-left g c =
    record {
      fits = omega (arith, left_of-up c.args.sums.now c.args.rows c.loop-row._row c.loop-row.at c.loop-row-test.true c.requires.unused, c.requires.fits);
    }

pub loop-row-preserved : goal.loop-row-preserved
loop-row-preserved g c =
    let more = twice-up c.args.sums.now c.args.rows c.loop-row._row c.loop-row.at c.loop-row-test.true in
    record {
      first = omega (arith, more);
      last = omega (arith, more);
      within = omega arith;
      sum = omega (arith, left_of-up c.args.sums.now c.args.rows c.loop-row._row c.loop-row.at c.loop-row-test.true c.requires.unused);
      steps = omega arith;
    }

pub returns-clause-exact : goal.returns-clause-exact
returns-clause-exact g c =
    let i = c.loop-row.invariant in
    omega (arith, left_of-root c.args.sums.now (c.args.rows - c.loop-row._row) c.loop-row.at (omega arith) i.first i.last)
