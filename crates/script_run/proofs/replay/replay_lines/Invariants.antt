use Rattle.std.proofs.Common.{◌≤◌, filter, length, take, vec_capacity}
use Rattle.run_law.specs.Run.{is_show}
use Rattle.script_run.specs.Running.{HasCome}
use Rattle.script_run.proofs.replay.replay_lines.Given as goal

-- what the lines so far made, with room for the reads that are left
abbrev pub invariant-loop-of : goal.invariant-loop-of
invariant-loop-of g l = record {
  come : HasCome l.rules l.script.lines (take l.of-index l.script.lines) l.issues.items l.shows.items;
  room : length (filter is_show l.script.lines) ≤ vec_capacity l.shows;
}
