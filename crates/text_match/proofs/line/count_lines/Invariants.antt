use Rattle.std.proofs.Common.{◌≡◌, ◌≤◌, ◌+◌, drop, length}
use Rattle.text_match.specs.Lines.{lines_of}
use Rattle.text_match.proofs.line.count_lines.Given as goal

-- the lines so far, and those of the bytes that are left
abbrev pub invariant-loop-b : goal.invariant-loop-b
invariant-loop-b l = record {
  all : l.n + length (lines_of (drop l.b-index l.bytes)) ≡ length (lines_of l.bytes);
  few : l.n ≤ l.b-index;
}
