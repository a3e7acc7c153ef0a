-- What the steps of seating, and those of the end, do to desks and passes.
use Rattle.std.specs.Prelude.{◌≡◌, ℕ, ◌+◌, ◌-◌, ◌<◌, ◌≤◌, List, length, None, true, is_some, slice_index_or}
use Rattle.atomic_table.specs.Seated.{TableId}
use Rattle.turn_cell.specs.Marks.{Begins, halt_in}
use Rattle.turn_cell.specs.Passes.{Holds, Known, met_with, next_pass, one_less}
use Rattle.issue_journal.specs.Issue.{Fixed}
use Rattle.issue_desk.specs.Desk.{DeskNow, IsDesk}

-- ---- seating

-- a pass of this cell with which a gateway can begin
pub record MayBegin (cell : TableId) (p : Known Fixed) : Type 0 where
  pub cell_is : p.cell ≡ cell
  pub gateway : (1 ≤ p.caller) × (p.caller ≤ 16)
  pub fixed : is_some p.fixed ≡ true
  pub holds : Holds p.seen p
  pub halt : halt_in p.seen ≡ None

-- the desk of a pass at which nothing was done yet
abbrev pub desk_with : Known Fixed → DeskNow
desk_with p = record { pass = p; stop = None }

-- a desk whose pass has a gateway in its block, and has seen no halt
pub record MaySplit (d : DeskNow) : Type 0 where
  pub block : 0 < d.pass.block
  pub gateway : (1 ≤ d.pass.callers + 1 - d.pass.block) × (d.pass.callers + 1 - d.pass.block ≤ 16)
  pub halt : halt_in d.pass.seen ≡ None

-- the desk once the first gateway of its block has one of its own, and that one
abbrev pub less_desk : DeskNow → DeskNow
less_desk d = record d { pass = one_less d.pass }

abbrev pub next_desk : DeskNow → DeskNow
next_desk d = desk_with (next_pass d.pass)

-- of each desk one more has come
pub record AreSplit (old new next : List DeskNow) : Type 0 where
  pub same : length new ≡ length old
  pub many : length next ≡ length old
  pub less : (n : ℕ) (d e : DeskNow) → n < length old → slice_index_or new n d ≡ less_desk (slice_index_or old n e)
  pub others : (n : ℕ) (d e : DeskNow) → n < length old → slice_index_or next n d ≡ next_desk (slice_index_or old n e)

-- ---- the end

-- the pass of a desk of this cell can end in another pass of the cell
pub record MayMeet (cell : TableId) (d : DeskNow) (p : Known Fixed) : Type 0 where
  pub pass : p.cell ≡ cell
  pub desk : d.pass.cell ≡ cell
  pub block : d.pass.block ≡ 0

-- the pass of a desk has ended in another pass
pub record HasJoined (d : DeskNow) (p q : Known Fixed) : Type 0 where
  pub desk : IsDesk d
  pub pass : q ≡ met_with p d.pass
  pub grows : Begins p.seen q.seen × Begins d.pass.seen q.seen
  pub holds : Holds q.seen q

-- in each pass that of its desk has ended
pub record AreJoined (desks : List DeskNow) (old new : List (Known Fixed)) : Type 0 where
  pub same : length new ≡ length old
  pub each : (n : ℕ) (d : DeskNow) (p q : Known Fixed) → n < length old → HasJoined (slice_index_or desks n d) (slice_index_or old n p) (slice_index_or new n q)
