use Rattle.std.proofs.Common.{take, arith}
use Rattle.std.proofs.lemmas.List.{length-take}
use Rattle.std.proofs.lemmas.List.Sums.{count_by-le-length, length-filter}
use Rattle.run_law.specs.Run.{is_show}
use Rattle.script_run.proofs.counting.count_shows.Goals as goal

pub overflow_add-shows : goal.overflow_add-shows
overflow_add-shows c =
    let front = take c.loop-of.of-index c.args.lines.now in
    omega (arith, c.loop-of.invariant, length-filter is_show front, count_by-le-length is_show front, length-take c.loop-of.of-index c.args.lines.now, c.loop-of-test.true)
