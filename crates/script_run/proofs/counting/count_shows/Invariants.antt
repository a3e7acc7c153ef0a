use Rattle.std.proofs.Common.{◌≡◌, filter, length, take}
use Rattle.run_law.specs.Run.{is_show}
use Rattle.script_run.proofs.counting.count_shows.Given as goal

abbrev pub invariant-loop-of : goal.invariant-loop-of
invariant-loop-of l = l.shows ≡ length (filter is_show (take l.of-index l.lines))
