-- A note as three words.
use Rattle.std.specs.Prelude.{◌≡◌, ℕ, Bool, true, false, not, cond, ◌==◌, refl}
use Rattle.all_gather.specs.declared.packed.Words.{Words}
use Rattle.stage_play.specs.declared.notes.Note.{Note}

-- the issue, how much is seen, and 1 for a halt that is seen
abbrev pub packed : Note → Words
packed n = record { first = n.issue; second = n.sight.seen; third = cond {A = ℕ} n.sight.halted 1 0 }

abbrev pub unpacked : Words → Note
unpacked w = record { issue = w.first; sight = record { seen = w.second; halted = not (w.third == 0) } }

-- the words of a note tell the note
pub unpacked_packed : (n : Note) → unpacked (packed n) ≡ n
unpacked_packed n = by n.issue n.sight.seen n.sight.halted
  where
    by : (issue seen : ℕ) (halted : Bool)
        → unpacked (packed (record { issue = issue; sight = record { seen = seen; halted = halted } })) ≡ record { issue = issue; sight = record { seen = seen; halted = halted } }
    by issue seen true = refl
    by issue seen false = refl
