-- The forms of the values in a rules file: numbers, times, names, and the rows of its lists.
use Rattle.std.specs.Prelude.{ℕ, ◌+◌, ◌-◌, ◌==◌, Bool, false, ◌&&◌, ◌||◌, ℤ, pos, negsuc, List, [], ◌∷◌, length, take, drop, Option, Some, None, if◌then◌else◌, nat_le, position, slice_get, slice_index, codes, is_some, unwrap_or}
use Rattle.std.specs.List.{list_all}
use Rattle.std.specs.Option.{option_map_or}
use Rattle.std.specs.Str.{bytes_eq, is_utf8}
use Rattle.toml.specs.Data.{Data, Items, no_items, item, Members, no_members, as_table, as_array, as_integer, as_str}
use Rattle.toml.specs.Parse.{parse_document}
use Rattle.mkt_io.specs.Time.{time_of}
use Rattle.mkt_io.specs.Words.{is_digit, number_of}
use Rattle.tick_grid.specs.declared.rows.TickRow.{TickRow}
use Rattle.tick_grid.specs.declared.rows.BandRow.{BandRow}
use Rattle.session_phase.specs.declared.session.Session.{Session}
use Rattle.allotment.specs.declared.round.Round.{Round}
use Rattle.allotment.specs.declared.round.Round.TheVariants.{Units, Part, All}

-- one part after another, where each is there
infixl 10 ◌>>=◌
abbrev pub ◌>>=◌ : {A B : Type 0} → Option A → (A → Option B) → Option B
(Some x) >>= f = f x
None >>= f = None

-- the table of a text, where it is UTF-8 and a TOML document
unfoldable pub document_of : List ℕ → Option Members
document_of bytes = if is_utf8 bytes then parse_document bytes else None

-- the items of a TOML array as a list
abbrev pub list_of : Items → List Data
list_of no_items = []
list_of (item d ds) = d ∷ list_of ds

-- the items of a value that is an array
unfoldable pub items_in : Data → Option (List Data)
items_in d = as_array d >>= λ items. Some (list_of items)

-- the value is an array without items
unfoldable pub is_empty_list : Data → Bool
is_empty_list d = option_map_or (λ items. length items == 0) (items_in d) false

-- the items of an array that has n of them
unfoldable pub row_of : ℕ → Data → Option (List Data)
row_of n d = items_in d >>= λ items. if length items == n then Some items else None

-- a number in a range
abbrev pub within : ℕ → ℕ → ℕ → Option ℕ
within low high n = if nat_le low n && nat_le n high then Some n else None

-- an integer in a range
abbrev pub integer_within : ℕ → ℕ → ℤ → Option ℕ
integer_within low high (pos n) = within low high n
integer_within low high (negsuc n) = None

-- a value that is an integer in a range
unfoldable pub integer_in : ℕ → ℕ → Data → Option ℕ
integer_in low high d = as_integer d >>= integer_within low high

-- the same, as an item of a row
unfoldable pub integer_at : ℕ → ℕ → List Data → ℕ → Option ℕ
integer_at low high row i = slice_get row i >>= integer_in low high

-- a time word as an item of a row
unfoldable pub time_at : List Data → ℕ → Option ℕ
time_at row i = slice_get row i >>= as_str >>= time_of

-- a row of ticks: [upto, tick]
unfoldable pub tick_row : Data → Option TickRow
tick_row d = do
  row ← row_of 2 d
  upto ← integer_at 1 1000000000 row 0
  tick ← integer_at 1 1000000 row 1
  Some (record { upto = upto; tick = tick })

-- a row of limits or of ranges: [below, value]
unfoldable pub band_row : Data → Option BandRow
band_row d = do
  row ← row_of 2 d
  below ← integer_at 1 1000000001 row 0
  value ← integer_at 1 1000000000 row 1
  Some (record { below = below; value = value })

-- a session: [accept, begin, finish]
unfoldable pub session_row : Data → Option Session
session_row d = do
  row ← row_of 3 d
  accept ← time_at row 0
  begin ← time_at row 1
  finish ← time_at row 2
  Some (record { accept = accept; begin = begin; finish = finish })

-- a number word in a range
unfoldable pub number_within : ℕ → ℕ → List ℕ → Option ℕ
number_within low high word = number_of word >>= within low high

-- what stands before the letter u at the end of a word
unfoldable pub amount_of : List ℕ → Option (List ℕ)
amount_of word =
    let n = length word - 1 in if slice_index word n == 117 then Some (take n word) else None

-- so many trading units
unfoldable pub units_of : List ℕ → Option Round
units_of word = number_within 1 1000000 word >>= λ k. Some (Units k)

-- the byte between the two numbers of a part
abbrev pub is_slash : ℕ → Bool
is_slash b = b == 47

-- a part N/D, with 1 <= N <= D <= 1000
unfoldable pub part_of : List ℕ → Option Round
part_of word = do
  slash ← position is_slash word
  n ← number_within 1 1000 (take slash word)
  d ← number_within n 1000 (drop (slash + 1) word)
  Some (Part n d)

-- the word of a round: all, Ku or N/D
unfoldable pub round_of : List ℕ → Option Round
round_of word =
    if bytes_eq word (codes "all") then Some All
    else option_map_or units_of (amount_of word) (part_of word)

-- a round, as a string
unfoldable pub round_row : Data → Option Round
round_row d = as_str d >>= round_of

-- a letter or a digit of ASCII
abbrev pub is_name_byte : ℕ → Bool
is_name_byte b = is_digit b || (nat_le 65 b && nat_le b 90) || (nat_le 97 b && nat_le b 122)

-- 1 to 8 letters and digits
unfoldable pub is_name : List ℕ → Bool
is_name word = nat_le 1 (length word) && nat_le (length word) 8 && list_all is_name_byte word

-- a name, as a string
unfoldable pub name_row : Data → Option (List ℕ)
name_row d = as_str d >>= λ word. if is_name word then Some word else None

-- the form of each value, where all have it
abbrev pub all_of : {A : Type 0} → (Data → Option A) → List Data → Option (List A)
all_of form [] = Some []
all_of form (d ∷ ds) = do
  row ← form d
  rows ← all_of form ds
  Some (row ∷ rows)

-- a value is a table
abbrev pub is_table : Data → Bool
is_table d = is_some (as_table d)

-- the table that a value is
abbrev pub members_in : Data → Members
members_in d = unwrap_or (as_table d) no_members
