-- How the steps change what a caller knows, and what is counted of it.
use Rattle.std.specs.Prelude.{ℕ, ◌+◌, ◌-◌, ◌==◌, List, [], ◌∷◌, ◌++◌, length, cond, nat_lt, Some, None}
use Rattle.turn_cell.specs.Marks.{added_to, own_mark, longer_of, shorter_of}
use Rattle.turn_cell.specs.declared.value.Mark.{Mark}
use Rattle.turn_cell.specs.declared.view.Gone.{Gone}
use Rattle.turn_cell.specs.declared.view.Stage.{Stage}
use Rattle.turn_cell.specs.declared.view.Stage.TheVariants.{Idle, Noted, Waiting, Ready}
use Rattle.turn_cell.specs.declared.view.View.{View}

-- f of each, added up
abbrev pub total : {A : Type 0} → (A → ℕ) → List A → ℕ
total f [] = 0
total f (x ∷ xs) = f x + total f xs

-- 1 at the number itself, and 0 at each other
abbrev pub only : ℕ → ℕ → ℕ
only t a = cond (a == t) 1 0

-- 1 for a caller, and 0 for the mark of a spent view
abbrev pub lives : ℕ → ℕ
lives caller = cond (caller == 0) 0 1

-- 1 where a caller in this stage has this ticket
abbrev pub turn_at : ℕ → Stage → ℕ → ℕ
turn_at t Idle at = 0
turn_at t Noted at = 0
turn_at t Waiting at = only t at
turn_at t Ready at = only t at

-- 1 where a caller in this stage has the turn
abbrev pub ready_at : Stage → ℕ
ready_at Ready = 1
ready_at Idle = 0
ready_at Noted = 0
ready_at Waiting = 0

-- 1 for each of the callers `callers - block + 1` to `callers`
abbrev pub in_block : ℕ → ℕ → ℕ → ℕ
in_block caller block callers = cond (nat_lt callers (caller + block)) (cond (nat_lt callers caller) 0 1) 0

abbrev pub turns_gone : Gone → ℕ
turns_gone g = g.turns

abbrev pub named_gone : ℕ → Gone → ℕ
named_gone caller g = only caller g.caller

module _ {F : Type 0} where
  -- the turns of the caller and of those that it has met
  abbrev pub turns_of : View F → ℕ
  turns_of v = v.turns + total turns_gone v.met

  abbrev pub has_ticket : ℕ → View F → ℕ
  has_ticket t v = turn_at t v.stage v.at

  abbrev pub is_ready : View F → ℕ
  is_ready v = ready_at v.stage

  -- the callers that stand in this view: its own, those that it has met, and its block
  abbrev pub size_of : View F → ℕ
  size_of v = lives v.caller + length v.met + v.block

  -- how often a caller is named there, as the view's own or as one that it has met
  abbrev pub names_of : ℕ → View F → ℕ
  names_of caller v = only caller v.caller + total (named_gone caller) v.met

  abbrev pub places_of : ℕ → View F → ℕ
  places_of caller v = names_of caller v + in_block caller v.block v.callers

  -- the first caller of a cell for so many callers
  abbrev pub first_view : ℕ → F → View F
  first_view callers fixed = record {
    stage = Idle;
    at = 0;
    caller = 1;
    callers = callers;
    block = callers - 1;
    turns = 0;
    tries = 0;
    served = 0;
    ticket = 0;
    seen = [];
    short = [];
    made = [];
    met = [];
    fixed = Some fixed;
  }

  abbrev pub spent : View F
  spent = record {
    stage = Idle;
    at = 0;
    caller = 0;
    callers = 0;
    block = 0;
    turns = 0;
    tries = 0;
    served = 0;
    ticket = 0;
    seen = [];
    short = [];
    made = [];
    met = [];
    fixed = None;
  }

  -- it has drawn a ticket
  abbrev pub drawn : View F → ℕ → View F
  drawn v ticket = record v { stage = Waiting; at = ticket; turns = v.turns + 1 }

  -- its ticket is served, and the value has these marks
  abbrev pub readied : View F → List Mark → View F
  readied v marks = record v { stage = Ready; seen = marks }

  -- it has looked at the number that is served
  abbrev pub noted : View F → ℕ → View F
  noted v served = record v { stage = Noted; at = served }

  -- its try won the ticket of that number
  abbrev pub won : View F → List Mark → View F
  won v marks = record v { stage = Ready; turns = v.turns + 1; seen = marks }

  -- its try failed
  abbrev pub failed : View F → ℕ → View F
  failed v ticket = record v { stage = Idle; at = 0; tries = v.tries + 1; served = v.at; ticket = ticket }

  -- its turn has made these marks of those that it found
  abbrev pub counted : View F → List Mark → View F
  counted v marks = record v { seen = marks; made = v.made ++ own_mark (added_to v.seen marks) }

  -- it has given its turn back
  abbrev pub rested : View F → View F
  rested v = record v { stage = Idle; at = 0 }

  -- the first caller of its block has a view of its own
  abbrev pub lessened : View F → View F
  lessened v = record v { block = v.block - 1 }

  abbrev pub newcomer : View F → View F
  newcomer v = record {
    stage = Idle;
    at = 0;
    caller = v.callers + 1 - v.block;
    callers = v.callers;
    block = 0;
    turns = 0;
    tries = 0;
    served = 0;
    ticket = 0;
    seen = v.seen;
    short = v.seen;
    made = [];
    met = [];
    fixed = v.fixed;
  }

  abbrev pub gone : View F → Gone
  gone v = record { caller = v.caller; made = v.made; turns = v.turns }

  -- another caller ends in this one
  abbrev pub joined : View F → View F → View F
  joined v w = record v {
    seen = longer_of v.seen w.seen;
    short = shorter_of v.seen w.seen;
    met = v.met ++ gone w ∷ w.met;
  }
