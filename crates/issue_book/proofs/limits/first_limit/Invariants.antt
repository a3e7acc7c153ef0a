use Rattle.std.proofs.Common.{length}
use Rattle.issue_book.specs.Limits.{IsAlong, from_handle}
use Rattle.issue_book.proofs.limits.first_limit.Given as goal

abbrev pub invariant-loop-next : goal.invariant-loop-next
invariant-loop-next l = IsAlong l.book l.fn.side l.next

abbrev pub decreases-loop-next : goal.decreases-loop-next
decreases-loop-next l = length (from_handle l.book l.fn.side l.next)
