-- The keys of a rules file: what stands at one, the form of its rows, and the check of each list.
use Rattle.std.specs.Prelude.{◌≡◌, ◌<◌, ◌≤◌, ℕ, ◌+◌, ◌-◌, ◌%◌, ◌==◌, Bool, true, false, not, ◌&&◌, ◌||◌, List, [], ◌∷◌, length, take, find, Option, Some, None, Result, Ok, Err, if◌then◌else◌, nat_lt, nat_le, slice_index_or, codes, All as Each}
use Rattle.std.specs.List.{list_any, range_with_len}
use Rattle.std.specs.Option.{ok_or, option_map_or}
use Rattle.std.specs.Str.{bytes_eq}
use Rattle.toml.specs.Data.{Data, Members, get_member}
use Rattle.mkt_io.specs.LineFault.{◌>>=◌}
use Rattle.tick_grid.specs.declared.rows.TickRow.{TickRow}
use Rattle.tick_grid.specs.declared.rows.BandRow.{BandRow}
use Rattle.session_phase.specs.declared.session.Session.{Session}
use Rattle.allotment.specs.declared.round.Round.{Round}
use Rattle.allotment.specs.declared.round.Round.TheVariants.{Units, Part, All}
use Rattle.rules_file.specs.Forms.{all_of, band_row, is_empty_list, is_name, items_in, name_row, round_row, session_row, tick_row}
use Rattle.rules_file.specs.declared.fault.RulesFault.{RulesFault}
use Rattle.rules_file.specs.declared.fault.RulesFault.TheVariants.{MissingKey, BadNumber, RowsOutOfOrder, BadPhases, BadRounds, TooMany, Twice}

-- what stands at a key: nothing and an empty list are missing
unfoldable pub wanted : List ℕ → Option Data → Result Data RulesFault
wanted key None = Err (MissingKey key)
wanted key (Some found) = if is_empty_list found then Err (MissingKey key) else Ok found

-- what stands at a key, in its form
unfoldable pub formed : {A : Type 0} → (Data → Option A) → List ℕ → Option Data → Result A RulesFault
formed form key found = wanted key found >>= λ value. ok_or (form value) (BadNumber key)

-- a list has at most so many items
unfoldable pub few : List ℕ → ℕ → List Data → Result (List Data) RulesFault
few key limit items =
    if nat_lt limit (length items) then Err (TooMany key (length items)) else Ok items

-- the items of the list at a key: at most so many
unfoldable pub listed : List ℕ → ℕ → Members → Result (List Data) RulesFault
listed key limit table = formed items_in key (get_member key table) >>= few key limit

-- the rows of the list at a key, each in its form
unfoldable pub rows_at : {A : Type 0} → (Data → Option A) → List ℕ → ℕ → Members → Result (List A) RulesFault
rows_at form key limit table = do
  items ← listed key limit table
  ok_or (all_of form items) (BadNumber key)

-- the place of the first row that fails a test
abbrev pub first_failing : {A : Type 0} → (List A → ℕ → Bool) → List A → Option ℕ
first_failing fails rows = find (fails rows) (range_with_len 0 (length rows))

-- rows of which none fails, or the fault of the first that does
unfoldable pub checked : {A : Type 0} → (List A → ℕ → Bool) → (ℕ → RulesFault) → List A → Result (List A) RulesFault
checked fails fault rows =
    option_map_or (λ i. Err (fault i)) (first_failing fails rows) (Ok rows)

-- the rows of the list at a key, of which none fails; rows are counted from 1
unfoldable pub checked_rows : {A : Type 0} → (Data → Option A) → (List A → ℕ → Bool) → (List ℕ → ℕ → RulesFault) → List ℕ → ℕ → Members → Result (List A) RulesFault
checked_rows form fails fault key limit table =
    rows_at form key limit table >>= checked fails (λ i. fault key (i + 1))

-- a list of 1 to so many rows, each of them good, of which none fails
pub record AreChecked {A : Type 0} (good : A → Type 0) (fails : List A → ℕ → Bool) (limit : ℕ) (rows : List A) : Type 0 where
  pub some : 1 ≤ length rows
  pub few : length rows ≤ limit
  pub each : Each good rows
  pub none_fails : first_failing fails rows ≡ None

-- the row of ticks at a place
abbrev pub tick_at : List TickRow → ℕ → TickRow
tick_at rows i = slice_index_or rows i (record { upto = 0; tick = 0 })

-- the same of limits or ranges
abbrev pub band_at : List BandRow → ℕ → BandRow
band_at rows i = slice_index_or rows i (record { below = 0; value = 0 })

-- the session at a place
abbrev pub session_at : List Session → ℕ → Session
session_at rows i = slice_index_or rows i (record { accept = 0; begin = 0; finish = 0 })

-- the round at a place
abbrev pub round_at : List Round → ℕ → Round
round_at rows i = slice_index_or rows i All

-- the name at a place
abbrev pub name_at : List (List ℕ) → ℕ → List ℕ
name_at names i = slice_index_or names i []

-- the bound of the row before, and 0 before the first
abbrev pub upto_before : List TickRow → ℕ → ℕ
upto_before rows i = if i == 0 then 0 else (tick_at rows (i - 1)).upto

-- the same of limits or ranges
abbrev pub below_before : List BandRow → ℕ → ℕ
below_before rows i = if i == 0 then 0 else (band_at rows (i - 1)).below

-- the end of the session before, and midnight before the first
abbrev pub finish_before : List Session → ℕ → ℕ
finish_before rows i = if i == 0 then 0 else (session_at rows (i - 1)).finish

-- a bound is a multiple of a tick
abbrev pub is_multiple : ℕ → ℕ → Bool
is_multiple upto tick = upto % tick == 0

-- the bound of the last row is the greatest price, and that of any other is a multiple of the next row's tick
abbrev pub goes_on : List TickRow → ℕ → Bool
goes_on rows i =
    if i + 1 == length rows then (tick_at rows i).upto == 1000000000
    else is_multiple (tick_at rows i).upto (tick_at rows (i + 1)).tick

-- a row of ticks is out of order
unfoldable pub tick_row_fails : List TickRow → ℕ → Bool
tick_row_fails rows i =
    let row = tick_at rows i in
    nat_le row.upto (upto_before rows i) || not (is_multiple row.upto row.tick) || not (goes_on rows i)

-- a row of limits or of ranges is out of order
unfoldable pub band_row_fails : List BandRow → ℕ → Bool
band_row_fails rows i =
    let row = band_at rows i in
    nat_le row.below (below_before rows i) || (i + 1 == length rows && not (row.below == 1000000001))

-- the times of a session, in order
abbrev pub times_of : Session → List ℕ
times_of s = s.accept ∷ s.begin ∷ s.finish ∷ []

-- moments rise strictly after a moment
abbrev pub rise_after : ℕ → List ℕ → Bool
rise_after before [] = true
rise_after before (time ∷ times) = nat_lt before time && rise_after time times

-- a session's times do not rise after the session before
unfoldable pub session_fails : List Session → ℕ → Bool
session_fails rows i = not (rise_after (finish_before rows i) (times_of (session_at rows i)))

-- the round gives all that is lacking
abbrev pub is_all : Round → Bool
is_all (Units k) = false
is_all (Part n d) = false
is_all All = true

-- a round is `all` and not the last, or the last and not `all`
unfoldable pub round_fails : List Round → ℕ → Bool
round_fails rows i = if i + 1 == length rows then not (is_all (round_at rows i)) else is_all (round_at rows i)

-- a name stands earlier in the list
unfoldable pub stands_earlier : List (List ℕ) → ℕ → Bool
stands_earlier names i = list_any (bytes_eq (name_at names i)) (take i names)

-- no name stands earlier in the list
abbrev pub AreDistinct : List (List ℕ) → Type 0
AreDistinct names = (k : ℕ) → k < length names → stands_earlier names k ≡ false

-- at most 64 names, no two of them the same
pub record AreKept (names : List (List ℕ)) : Type 0 where
  pub few : length names ≤ 64
  pub distinct : AreDistinct names

-- 1 to so many names, no two of them the same
pub record AreNames (limit : ℕ) (names : List (List ℕ)) : Type 0 where
  pub some : 1 ≤ length names
  pub few : length names ≤ limit
  pub each : Each (λ name. is_name name ≡ true) names
  pub distinct : AreDistinct names

-- the rows of ticks
unfoldable pub ticks_at : Members → Result (List TickRow) RulesFault
ticks_at table = checked_rows tick_row tick_row_fails RowsOutOfOrder (codes "ticks") 32 table

-- the rows of limits or of ranges
unfoldable pub bands_at : List ℕ → Members → Result (List BandRow) RulesFault
bands_at key table = checked_rows band_row band_row_fails RowsOutOfOrder key 64 table

-- the sessions of the day
unfoldable pub sessions_at : Members → Result (List Session) RulesFault
sessions_at table = checked_rows session_row session_fails (λ key row. BadPhases row) (codes "sessions") 4 table

-- the rounds of an allotment
unfoldable pub rounds_at : Members → Result (List Round) RulesFault
rounds_at table = checked_rows round_row round_fails (λ key row. BadRounds row) (codes "rounds") 16 table

-- the names of a list, no two of them the same
unfoldable pub names_at : List ℕ → ℕ → Members → Result (List (List ℕ)) RulesFault
names_at key limit table =
    rows_at name_row key limit table >>= λ names. checked stands_earlier (λ i. Twice (name_at names i)) names
