-- What each step on the table tells its caller: of the step, the seat before, the number found and the seat after.
use Rattle.std.specs.Prelude.{◌≡◌, ◌≢◌, ℕ, ◌<◌, ◌≤◌, List, [], ◌∷◌, ◌++◌, Option, Some, None}
use Rattle.atomic_table.specs.Table.{Me, Step}
use Rattle.turn_cell.specs.Marks.{marks_of, StartsTurn, Begins, Owned}
use Rattle.turn_cell.specs.Views.{size_of, drawn, readied, noted, won, failed, counted, rested}
use Rattle.turn_cell.specs.declared.value.Mark.{Mark}
use Rattle.turn_cell.specs.declared.view.Gone.{Gone}
use Rattle.turn_cell.specs.declared.view.View.{View}

abbrev pub Sat : Type 0 → Type 0 → Type 0
Sat T F = Me (Option T) (View F)

abbrev pub Tells : Type 0 → Type 0 → Type 1
Tells T F = Step (Option T) → Sat T F → ℕ → Sat T F → Type 0

-- the longer list begins with what was seen; what is new in it starts a turn, and is not of this caller
abbrev pub SeesMore : ℕ → List Mark → List Mark → Type 0
SeesMore caller seen marks =
    (rest : List Mark) × (marks ≡ seen ++ rest) × StartsTurn rest × (marks_of caller rest ≡ [])

-- What a caller finds when its turn comes. The value has the fixed part of the cell, and its marks go on from those that the
-- caller has seen with marks of others. Of the caller, and of each caller that it has met, the value has exactly the marks
-- that were made there, all of which the caller had seen.
pub record Finds {T F : Type 0} (marks : T → List Mark) (fixed : T → F) (plain : Option F) (caller : ℕ)
    (seen made : List Mark) (met : List Gone) (x : T) : Type 0 where
  pub fixed_is : Some (fixed x) ≡ plain
  pub more : SeesMore caller seen (marks x)
  pub own : Owned (marks x) caller made met
  pub own_seen : Owned seen caller made met

module _ {T F : Type 0} (marks : T → List Mark) (fixed : T → F) where
  abbrev pub FindsFor : View F → T → Type 0
  FindsFor v x = Finds marks fixed v.fixed v.caller v.seen v.made v.met x

  -- the caller has the slot with the value, and its view is that of the value's marks
  abbrev pub Takes : View F → (List Mark → View F) → Sat T F → Type 0
  Takes v after n = (x : T) × (n ≡ (after (marks x), (0, Some x) ∷ [])) × FindsFor v x

  -- the marks of the value that the caller holds
  abbrev pub held_marks : List (ℕ × Option T) → List Mark
  held_marks [] = []
  held_marks (h ∷ hs) = marks_or h.1
    where
      marks_or : Option T → List Mark
      marks_or None = []
      marks_or (Some x) = marks x

  -- draw: a ticket below 2^48
  abbrev pub draws : Tells T F
  draws st m r n = (n ≡ (drawn m.0 r, m.1)) × (r < 281474976710656)

  -- look: the caller has the turn where its ticket is served, and nothing changes where it is not
  abbrev pub looks : Tells T F
  looks st m r n = (r ≡ m.0.at → Takes m.0 (readied m.0) n) × (r ≢ m.0.at → n ≡ m)

  -- the look before a try
  abbrev pub notes : Tells T F
  notes st m r n = (n ≡ (noted m.0 r, m.1)) × (r < 281474976710656)

  -- the try: the turn where the ticket is the number that was noted, and a failed try where it is another
  abbrev pub tries : Tells T F
  tries st m r n = (r ≡ m.0.at → Takes m.0 (won m.0) n) × (r ≢ m.0.at → n ≡ (failed m.0 r, m.1))

  -- count: the marks of the value that the caller holds are the journal
  abbrev pub counts : Tells T F
  counts st m r n = (n ≡ (counted m.0 (held_marks m.1), m.1)) × Owned n.0.seen n.0.caller n.0.made n.0.met

  -- serve: the turn and the slot are given back
  abbrev pub serves : Tells T F
  serves st m r n = n ≡ (rested m.0, [])

  -- the load after a split or a join, which changes nothing and tells what the rule knows of the view
  abbrev pub learns : Tells T F
  learns st m r n = (n ≡ m) × Owned m.0.seen m.0.caller m.0.made m.0.met × Begins m.0.short m.0.seen × (size_of m.0 ≤ m.0.callers)
