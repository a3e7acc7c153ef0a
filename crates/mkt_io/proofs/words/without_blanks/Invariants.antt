use Rattle.std.proofs.Common.{◌≡◌, length}
use Rattle.mkt_io.specs.Ends.{AreEnds}
use Rattle.mkt_io.specs.Words.{words}
use Rattle.mkt_io.proofs.words.without_blanks.Given as goal

-- the same words are left
abbrev pub invariant-loop-rest : goal.invariant-loop-rest
invariant-loop-rest l = record {
  words : words l.rest ≡ words l.line;
  ends : AreEnds l.rest l.left;
}

abbrev pub decreases-loop-rest : goal.decreases-loop-rest
decreases-loop-rest l = length l.rest
