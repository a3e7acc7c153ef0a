use Rattle.std.proofs.Common.{◌≡◌, ℕ, drop, slice_index_or}
use Rattle.turn_cell.specs.Passes.{Known}
use Rattle.issue_journal.specs.Issue.{Fixed}
use Rattle.issue_desk.specs.Desk.{DeskNow}
use Rattle.issue_seats.specs.Steps.{HasJoined}
use Rattle.issue_seats.proofs.ListLemmas.{Upto}
use Rattle.issue_seats.proofs.back.meet_passes.Given as goal

-- the passes of the desks so far have met, and the other desks are left
abbrev pub invariant-loop-n : goal.invariant-loop-n
invariant-loop-n g l = record {
  left : l.desks.rest.items ≡ drop l.n l.fn.desks.items;
  met : Upto (λ (n : ℕ) (p q : Known Fixed). (d : DeskNow) → HasJoined (slice_index_or l.fn.desks.items n d) p q) l.fn.passes l.passes l.n;
}
