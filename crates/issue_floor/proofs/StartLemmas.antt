-- What holds of the trading of an issue before its first entry.
use Rattle.std.proofs.Common.{◌≡◌, ◌<◌, ℕ, List, length, Some, sym, subst, inl, inr, arith}
use Rattle.std.specs.List.{slice_get}
use Rattle.std.proofs.lemmas.Option.{slice_get_cases}
use Rattle.issue_book.specs.IssueView.{IsIssue, IssueView}
use Rattle.issue_book.specs.State.{Terms, start}
use Rattle.issue_floor.specs.Floor.{IsFloor}

pub some_at : {X : Type 0} (xs : List X) (i : ℕ) → i < length xs → (x : X) × (slice_get xs i ≡ Some x)
some_at xs i h = elim (slice_get_cases xs i).1 [ inl found ↦ (found.0, found.2) | inr past ↦ absurd (omega (arith, past.0)) ]

-- it is idle, and shows no quote
pub floor-start : (t : Terms) (capacity : ℕ) (v : IssueView) → v ≡ record { terms = t; capacity = capacity; state = start t } → IsIssue v → IsFloor v
floor-start t capacity v e issue = subst IsFloor (sym e) (record { issue = subst IsIssue e issue; quote = tt; calm = λ trading unquoted. absurd (cc) })
