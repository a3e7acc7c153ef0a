-- What contracts see of a pass and of a turn, and what the calls do to them.
use Rattle.std.specs.Prelude.{ℕ, ◌+◌, ◌-◌, List, [], ◌∷◌, ◌++◌, Option, Some}
use Rattle.atomic_table.specs.Seated.{TableId}
use Rattle.turn_cell.specs.Marks.{added_to, own_mark, Owned, longer_of}
use Rattle.turn_cell.specs.Views.{total, only, named_gone}
use Rattle.turn_cell.specs.Steps.{Finds}
use Rattle.turn_cell.specs.declared.value.Mark.{Mark}
use Rattle.turn_cell.specs.declared.view.Gone.{Gone}
use Rattle.turn_cell.specs.declared.view.View.{View}

-- A pass: whose it is and of which cell; how many turns it made, how many of its tries failed, and the two numbers that the
-- last of these found; the marks that it has seen, and those that it made; the callers at the end that have no pass yet and
-- get theirs from it, and those whose passes ended in it; and the fixed part of the cell's value.
pub record Known (F : Type 0) : Type 0 where
  pub cell : TableId
  pub caller : ℕ
  pub callers : ℕ
  pub block : ℕ
  pub turns : ℕ
  pub tries : ℕ
  pub served : ℕ
  pub ticket : ℕ
  pub seen : List Mark
  pub made : List Mark
  pub met : List Gone
  pub fixed : Option F

-- a turn: the pass, which has seen the marks that the value had when the turn began, and the value as it is now
pub record Taken (T F : Type 0) : Type 0 where
  pub pass : Known F
  pub value : T

module _ {F : Type 0} where
  abbrev pub known : TableId → View F → Known F
  known cell v = record {
    cell = cell;
    caller = v.caller;
    callers = v.callers;
    block = v.block;
    turns = v.turns;
    tries = v.tries;
    served = v.served;
    ticket = v.ticket;
    seen = v.seen;
    made = v.made;
    met = v.met;
    fixed = v.fixed;
  }

  -- the pass of caller 1, to which all other callers still belong
  abbrev pub first_pass : TableId → ℕ → F → Known F
  first_pass cell callers fixed = record {
    cell = cell;
    caller = 1;
    callers = callers;
    block = callers - 1;
    turns = 0;
    tries = 0;
    served = 0;
    ticket = 0;
    seen = [];
    made = [];
    met = [];
    fixed = Some fixed;
  }

  -- one turn more, which has seen these marks
  abbrev pub entered : Known F → List Mark → Known F
  entered p marks = record p { turns = p.turns + 1; seen = marks }

  -- one failed try more
  abbrev pub tried : Known F → ℕ → ℕ → Known F
  tried p served ticket = record p { tries = p.tries + 1; served = served; ticket = ticket }

  -- the turn has left these marks; the first that it added is one more of the caller's own
  abbrev pub left_with : Known F → List Mark → Known F
  left_with p marks = record p { seen = marks; made = p.made ++ own_mark (added_to p.seen marks) }

  -- the block without its first caller
  abbrev pub one_less : Known F → Known F
  one_less p = record p { block = p.block - 1 }

  -- the pass of the first caller of the block: it has seen what the pass has seen, and made nothing
  abbrev pub next_pass : Known F → Known F
  next_pass p = record {
    cell = p.cell;
    caller = p.callers + 1 - p.block;
    callers = p.callers;
    block = 0;
    turns = 0;
    tries = 0;
    served = 0;
    ticket = 0;
    seen = p.seen;
    made = [];
    met = [];
    fixed = p.fixed;
  }

  abbrev pub gone_of : Known F → Gone
  gone_of p = record { caller = p.caller; made = p.made; turns = p.turns }

  -- the other pass has ended in this one, which has seen the longer of the two lists
  abbrev pub met_with : Known F → Known F → Known F
  met_with p other = record p { seen = longer_of p.seen other.seen; met = p.met ++ gone_of other ∷ other.met }

  -- in these marks, those of the pass's caller are those that it made, and likewise for each caller that it has met
  abbrev pub Holds : List Mark → Known F → Type 0
  Holds marks p = Owned marks p.caller p.made p.met

  -- how often a caller is named in a pass: as its own, or as one that it has met
  abbrev pub names_in : ℕ → Known F → ℕ
  names_in caller p = only caller p.caller + total (named_gone caller) p.met

  abbrev pub GoesOn : {T : Type 0} → (T → List Mark) → (T → F) → Known F → T → Type 0
  GoesOn marks fixed p x = Finds marks fixed p.fixed p.caller p.seen p.made p.met x
