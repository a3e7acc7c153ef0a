use Rattle.std.proofs.Common.{◌≡◌, ◌-◌}
use Rattle.script_file.specs.Reader.{with_run}
use Rattle.script_file.proofs.reader.Reader.add_run.Given as goal

-- the script has a line for each issue before this one
abbrev pub invariant-loop-issue : goal.invariant-loop-issue
invariant-loop-issue l = l.self ≡ with_run l.fn.self l.number l.gateway l.act l.first (l.issue - l.first)
