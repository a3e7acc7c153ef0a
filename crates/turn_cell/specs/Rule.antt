-- The rule of the cell's table: a ticket lock with a journal. Word 16 is the ticket, the next number to be drawn. Word 32 is
-- the number that is served. Word 48 counts the marks. The words between them are there so that each has cache lines of its
-- own. One slot holds the value, and nothing while the value is out with the caller that has the turn.
use Rattle.std.specs.Prelude.{◌≡◌, ◌≢◌, ℕ, ◌*◌, ◌<◌, ◌≤◌, List, [], length, slice_index, Option, Some, All}
use mathlib.Core.Option.{some, none}
use mathlib.Core.Option as maybe
use lib.ListN.{get_elem?}
use Rattle.atomic_table.specs.Table.{State}
use Rattle.turn_cell.specs.Marks.{marks_of, StartsTurn, Begins, Owned, Numbered}
use Rattle.turn_cell.specs.Views.{total, lives, turns_gone, turns_of, has_ticket, is_ready, size_of, names_of, places_of}
use Rattle.turn_cell.specs.declared.value.Mark.{Mark}
use Rattle.turn_cell.specs.declared.view.Gone.{Gone}
use Rattle.turn_cell.specs.declared.view.Stage.TheVariants.{Noted, Ready}
use Rattle.turn_cell.specs.declared.view.View.{View}

-- The tickets that are out are the numbers from the served one to the next one less one, each once; the next one is the
-- number of all turns.
pub record Queue {F : Type 0} (next served : ℕ) (views : List (View F)) : Type 0 where
  pub order : served ≤ next
  pub all_turns : total turns_of views ≡ next
  pub in_line : (t : ℕ) → served ≤ t → t < next → total (has_ticket t) views ≡ 1
  pub past : (t : ℕ) → t < served → total (has_ticket t) views ≡ 0
  pub to_come : (t : ℕ) → next ≤ t → total (has_ticket t) views ≡ 0

-- The slot is out exactly while some caller has the turn. At home it has a value with the marks of the journal and with the
-- fixed part of the cell.
pub record Slot {T F : Type 0} (marks : T → List Mark) (fixed : T → F) (homes : List (maybe.Option (Option T)))
    (views : List (View F)) (log : List Mark) (plain : F) : Type 0 where
  pub one_slot : length homes ≡ 1
  pub home : total is_ready views ≡ 0
      → (x : T) × (get_elem? homes 0 ≡ some (some (Some x))) × (marks x ≡ log) × (fixed x ≡ plain)
  pub out : 0 < total is_ready views → get_elem? homes 0 ≡ some none

-- The count is the length of the journal, which starts with a turn.
pub record Journal (count : ℕ) (log : List Mark) : Type 0 where
  pub counted : count ≡ length log
  pub short_log : length log ≤ 9223372036854775808
  pub turns_start : StartsTurn log

-- Each caller stands in exactly one place: it has a view, or is in the block of one, or was met by one. A caller that no
-- view names has no mark.
pub record Places {F : Type 0} (callers : ℕ) (log : List Mark) (views : List (View F)) : Type 0 where
  pub whole : total size_of views ≡ callers
  pub placed : (c : ℕ) → 0 < c → c ≤ callers → total (places_of c) views ≡ 1
  pub beyond : (c : ℕ) → callers < c → total (places_of c) views ≡ 0
  pub silent : (c : ℕ) → 0 < c → total (names_of c) views ≡ 0 → marks_of c log ≡ []

-- What a caller knows: it has seen a beginning of the journal that ends with a whole turn. In the journal, and in what it
-- has seen of it, its marks and those of the callers that it has met are exactly those that were made there, with own numbers
-- from 0.
pub record Informed {F : Type 0} (callers : ℕ) (log : List Mark) (plain : F) (caller its_callers : ℕ)
    (seen short made : List Mark) (met : List Gone) (fixed : Option F) : Type 0 where
  pub fixed_is : fixed ≡ Some plain
  pub callers_is : its_callers ≡ callers
  pub begins : Begins seen log
  pub shorter : Begins short seen
  pub own : Owned log caller made met
  pub own_seen : Owned seen caller made met
  pub numbered : Numbered made × All (λ (g : Gone). Numbered g.made) met
  pub met_real : All (λ (g : Gone). g.caller ≢ 0) met

abbrev pub IsInformed : {F : Type 0} → ℕ → List Mark → F → View F → Type 0
IsInformed callers log plain v = Informed callers log plain v.caller v.callers v.seen v.short v.made v.met v.fixed

-- A number that was noted has been served or is. The caller with the turn has the ticket that is served, and has seen all.
-- A view with no caller is spent and knows nothing.
pub record Knows {F : Type 0} (callers served : ℕ) (log : List Mark) (plain : F) (v : View F) : Type 0 where
  pub noted : v.stage ≡ Noted → v.at ≤ served
  pub ready : v.stage ≡ Ready → (v.at ≡ served) × (v.seen ≡ log) × (v.caller ≢ 0)
  pub few : v.turns ≤ 4294967295 * lives v.caller
  pub few_met : total turns_gone v.met ≤ 4294967295 * length v.met
  pub informed : v.caller ≢ 0 → IsInformed callers log plain v

-- The rule. `log` is the journal: the marks of the value at home, or those that the caller with the turn has noted.
pub record Line {T F : Type 0} (marks : T → List Mark) (fixed : T → F) (callers : ℕ) (plain : F)
    (s : State (Option T) (View F)) : Type 0 where
  pub log : List Mark
  pub few_callers : callers < 65536
  pub sized : length s.words ≡ 64
  pub queue : Queue (slice_index s.words 16) (slice_index s.words 32) s.views
  pub slot : Slot marks fixed s.homes s.views log plain
  pub journal : Journal (slice_index s.words 48) log
  pub places : Places callers log s.views
  pub each : (j : ℕ) (v : View F) → get_elem? s.views j ≡ some v → Knows callers (slice_index s.words 32) log plain v
