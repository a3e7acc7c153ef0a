-- The words of a line, and number words.
use Rattle.std.specs.Prelude.{ℕ, ◌+◌, ◌-◌, ◌*◌, ◌^◌, Bool, not, ◌&&◌, ◌||◌, List, length, Option, Some, None, filter, fold, if◌then◌else◌, ◌==◌, nat_lt, nat_le, slice_index}
use Rattle.std.specs.List.{slice_split, list_all}

-- a space or a tab
abbrev pub is_blank : ℕ → Bool
is_blank b = b == 32 || b == 9

-- a tab, or one of the printed characters of ASCII
abbrev pub is_text_byte : ℕ → Bool
is_text_byte b = b == 9 || (nat_le 32 b && nat_le b 126)

-- the parts of a line between blanks that are not empty
unfoldable pub words : List ℕ → List (List ℕ)
words line = filter (λ part. nat_lt 0 (length part)) (slice_split is_blank line)

abbrev pub is_digit : ℕ → Bool
is_digit b = nat_le 48 b && nat_le b 57

-- what digits stand for, the first of them the highest
abbrev pub digits_value : List ℕ → ℕ
digits_value digits = fold (λ n digit. 10 * n + (digit - 48)) 0 digits

-- 1 to 10 digits, and no zero in front but in the word 0
abbrev pub is_number_word : List ℕ → Bool
is_number_word word = list_all is_digit word && nat_le 1 (length word) && nat_le (length word) 10 && (length word == 1 || not (slice_index word 0 == 48))

-- the value of a number word, which 32 bits hold
unfoldable pub number_of : List ℕ → Option ℕ
number_of word = if is_number_word word && nat_lt (digits_value word) (2 ^ 32) then Some (digits_value word) else None
