-- What desks have seen of an issue, and how one of them catches up with the others.
use Rattle.std.specs.Prelude.{◌≡◌, ℕ, ◌≤◌, true, false, ◌||◌, List, [], ◌∷◌, length, max, Some, None}
use Rattle.mkt_base.specs.Desk.{DeskState}
use Rattle.mkt_base.specs.declared.journal.Halt.{Halt}
use Rattle.mkt_base.specs.declared.quote.Board.{Board}
use Rattle.stage_play.specs.declared.seen.Sight.{Sight}

-- a desk has said of a board of this length that it has so many of its events
pub record HasTold (tells : Board → ℕ → Type 0) (length made : ℕ) : Type 0 where
  pub board : Board
  pub length_is : board.length ≡ length
  pub told : tells board made

-- a halt that was seen of an event of this caller has stopped the caller's desk
abbrev pub IsOwnStopped : ℕ → DeskState → Type 0
IsOwnStopped caller d = (h : Halt) → d.halt ≡ Some h → h.caller.0 ≡ caller → d.stop ≡ None → ⊥

-- what one desk has seen
abbrev pub sight_at : DeskState → Sight
sight_at d = record { seen = d.seen; halted = d.ended }

-- what is seen by both together
abbrev pub joined : Sight → Sight → Sight
joined a b = record { seen = max a.seen b.seen; halted = a.halted || b.halted }

-- what some desks have seen together
abbrev pub seen_by : List DeskState → Sight
seen_by [] = record { seen = 0; halted = false }
seen_by (d ∷ ds) = joined (sight_at d) (seen_by ds)

-- A desk has seen as much as this, and a halt if one was seen. It has entered nothing meanwhile, and what it had said is still said.
pub record CaughtUp {D F : Type 0} (state : D → DeskState) (fixed : D → F) (caller : F → ℕ) (tells : D → Board → ℕ → Type 0) (sight : Sight) (old new : D) : Type 0 where
  pub same : fixed new ≡ fixed old
  pub keeps : (board : Board) (made : ℕ) → tells old board made → tells new board made
  pub made : (state new).made ≡ (state old).made
  pub stop : (state new).stop ≡ (state old).stop
  pub halt : (h : Halt) → (state old).halt ≡ Some h → (state new).halt ≡ Some h
  pub ended : (state old).ended ≡ true → (state new).ended ≡ true
  -- what it has seen, before and now, has all that it has entered
  pub low : HasTold (tells new) (state old).seen (length (state old).made)
  pub high : HasTold (tells new) (state new).seen (length (state old).made)
  pub seen : sight.seen ≤ (state new).seen
  pub halted : sight.halted ≡ true → (h : Halt) × ((state new).halt ≡ Some h)
  pub own : IsOwnStopped (caller (fixed new)) (state new)
