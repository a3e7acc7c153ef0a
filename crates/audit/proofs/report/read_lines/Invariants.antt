use Rattle.std.proofs.Common.{◌≡◌, length}
use Rattle.text_match.specs.Lines.{lines_of}
use Rattle.audit.specs.Reading.{scanned}
use Rattle.audit.specs.State.{at_of}
use Rattle.audit.proofs.report.read_lines.Given as goal

-- the lines that are left lead where all lines lead
abbrev pub invariant-loop-line : goal.invariant-loop-line
invariant-loop-line l = scanned l.rules (at_of l.told) (lines_of l.rest) ≡ scanned l.rules (at_of l.fn.told) (lines_of l.report)

abbrev pub decreases-loop-line : goal.decreases-loop-line
decreases-loop-line l = length l.rest
