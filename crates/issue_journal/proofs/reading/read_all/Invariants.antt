use Rattle.std.proofs.Common.{◌≡◌, vec_capacity}
use Rattle.issue_journal.specs.Reading.{IsReading}
use Rattle.issue_journal.proofs.reading.read_all.Given as goal

abbrev pub invariant-loop-at : goal.invariant-loop-at
invariant-loop-at g l =
    IsReading l.end l.at l.fn.first l.fn.second l.fn.third l.first l.second l.third l.log.items × (vec_capacity l.log ≡ vec_capacity l.fn.log)
