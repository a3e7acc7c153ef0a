use Rattle.std.proofs.Common.{◌≡◌, ℕ, ◌+◌, ◌<◌, length, slice_index_or}
use Rattle.stage_play.specs.Seen.{sight_at}
use Rattle.stage_play.specs.declared.notes.Note.{Note}
use Rattle.stage_play.proofs.notes.note_own.Given as goal

-- the desks so far are noted
abbrev pub invariant-loop-issue : goal.invariant-loop-issue
invariant-loop-issue g l =
    (length l.board ≡ length l.initial.board)
    × ((issue : ℕ) (d : g.row.D.Denot) (n : Note) → issue < l.issue
    → slice_index_or l.board (l.first + issue) n ≡ record { issue = issue; sight = sight_at (g.D.Desk.state (slice_index_or l.desks issue d)) })
