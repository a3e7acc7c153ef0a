use Rattle.std.proofs.Common.{◌≡◌, length, take, arith}
use Rattle.std.proofs.lemmas.List.{length-take-le}
use Rattle.issue_journal.proofs.Turning.{entries_by-few}
use Rattle.issue_journal.proofs.reading.system_entries.Goals as goal

pub overflow_add-count : goal.overflow_add-count
overflow_add-count c =
    let front = take c.loop-i.i c.args.journal.now in
    let long : length front ≡ c.loop-i.i = length-take-le c.loop-i.i c.args.journal.now (omega (arith, c.loop-i-test.true)) in
    omega (arith, c.loop-i.invariant, entries_by-few 0 front, long, c.loop-i-test.true, c.requires)
