-- What a pass and a turn keep as numbers, and that these are what the rule's view says.
use Rattle.std.specs.Prelude.{◌≡◌, ◌≢◌, ℕ, ◌<◌, ◌≤◌, List, [], ◌∷◌, length, None}
use Rattle.turn_cell.specs.Marks.{entries_in, halt_in, Owned}
use Rattle.turn_cell.specs.Steps.{Sat}
use Rattle.turn_cell.specs.Passes.{Taken}
use Rattle.turn_cell.specs.declared.value.Mark.{Mark}
use Rattle.turn_cell.specs.declared.view.Stage.TheVariants.{Idle, Ready}
use Rattle.turn_cell.specs.declared.view.View.{View}
use Rattle.turn_cell.specs.declared.pass.Numbers.{Numbers}
use Rattle.turn_cell.specs.declared.pass.Sight.{Sight}

abbrev pub numbers_of : {F : Type 0} → View F → Numbers
numbers_of v = record {
  caller = v.caller;
  callers = v.callers;
  block = v.block;
  met = length v.met;
  turns = v.turns;
  own = length (entries_in v.made);
}

abbrev pub with_own : Numbers → ℕ → Numbers
with_own numbers own = record numbers { own = own }

abbrev pub sight_of : List Mark → Sight
sight_of ms = record { marks = length ms; entries = length (entries_in ms); halt = halt_in ms }

-- a pass between two calls
pub record Rests {T F : Type 0} (m : Sat T F) (numbers : Numbers) (sight : Sight) : Type 0 where
  pub empty : m.1 ≡ []
  pub idle : m.0.stage ≡ Idle
  pub real : m.0.caller ≢ 0
  pub block : m.0.block < m.0.callers
  pub entries : length (entries_in m.0.made) ≤ m.0.turns
  pub own : Owned m.0.seen m.0.caller m.0.made m.0.met
  pub numbers_are : numbers ≡ numbers_of m.0
  pub sight_is : sight ≡ sight_of m.0.seen

-- a turn: the slot is out with the seat, and the value that it held is in hand
pub record Acts {T F : Type 0} (m : Sat T F) (numbers : Numbers) (start : Sight) : Type 0 where
  pub empty : m.1 ≡ (0, None) ∷ []
  pub ready : m.0.stage ≡ Ready
  pub real : m.0.caller ≢ 0
  pub block : m.0.block < m.0.callers
  pub entries : length (entries_in m.0.made) < m.0.turns
  pub own : Owned m.0.seen m.0.caller m.0.made m.0.met
  pub numbers_are : numbers ≡ numbers_of m.0
  pub start_is : start ≡ sight_of m.0.seen

abbrev pub with_value : {T F : Type 0} → Taken T F → T → Taken T F
with_value t x = record t { value = x }
