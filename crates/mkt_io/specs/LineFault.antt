-- What may be wrong with a line, and in which order that is tested.
use Rattle.std.specs.Prelude.{ℕ, Bool, true, ◌&&◌, List, [], ◌∷◌, length, Option, Some, None, Result, Ok, Err, if◌then◌else◌, ◌==◌, nat_lt, nat_le, slice_index, codes}
use Rattle.std.specs.List.{list_all}
use Rattle.std.specs.Str.{bytes_eq}
use Rattle.mkt_base.specs.declared.order.Side.{Side}
use Rattle.mkt_base.specs.declared.order.Side.TheVariants.{Buy, Sell}
use Rattle.mkt_io.specs.Words.{is_text_byte, number_of, words}
use Rattle.mkt_io.specs.declared.fault.LineFault.{LineFault}
use Rattle.mkt_io.specs.declared.fault.LineFault.TheVariants.{Word, Number, Issue, Gateway, Participant, Own, TooLong, TooMany, NotText}

-- the number by which a fault is told
abbrev pub fault_number : LineFault → ℕ
fault_number Word = 1
fault_number Number = 2
fault_number Issue = 3
fault_number Gateway = 4
fault_number Participant = 5
fault_number Own = 6
fault_number TooLong = 7
fault_number TooMany = 8
fault_number NotText = 9

-- the words of a line with this number, or the first of its faults that come before the words: a text has at most 500,000
-- lines, and a line at most 200 bytes
unfoldable pub checked_words : ℕ → List ℕ → Result (List (List ℕ)) LineFault
checked_words number line =
    if nat_lt 500000 number then Err TooMany
    else (if nat_lt 200 (length line) then Err TooLong
    else (if list_all is_text_byte line then Ok (words line) else Err NotText))

-- a line without words, or whose first word begins with #, says nothing
abbrev pub is_skipped : List (List ℕ) → Bool
is_skipped [] = true
is_skipped (word ∷ more) = slice_index word 0 == 35

-- the next word and those after it, where one is wanted
abbrev pub wanted : List (List ℕ) → Result (List ℕ × List (List ℕ)) LineFault
wanted [] = Err Word
wanted (word ∷ more) = Ok (word, more)

-- no word is wanted any more
abbrev pub no_more : List (List ℕ) → Result (Unit {0}) LineFault
no_more [] = Ok tt
no_more (word ∷ more) = Err Word

-- the value of a number word in a range
unfoldable pub number_in : ℕ → ℕ → List ℕ → Result ℕ LineFault
number_in low high word = in_range (number_of word)
  where
    in_range : Option ℕ → Result ℕ LineFault
    in_range None = Err Number
    in_range (Some n) = if nat_le low n && nat_le n high then Ok n else Err Number

-- one step after another, up to the first fault
infixl 10 ◌>>=◌
abbrev pub ◌>>=◌ : {A B E : Type 0} → Result A E → (A → Result B E) → Result B E
(Ok x) >>= f = f x
(Err e) >>= f = Err e

-- a fault, with the number of its line
abbrev pub at_line : {A : Type 0} → ℕ → Result A LineFault → Result A (ℕ × LineFault)
at_line number (Ok x) = Ok x
at_line number (Err fault) = Err (number, fault)

-- a number in a range as the next word, and the words after it
unfoldable pub next_number : ℕ → ℕ → List (List ℕ) → Result (ℕ × List (List ℕ)) LineFault
next_number low high words = do
  word ← wanted words
  n ← number_in low high word.0
  Ok (n, word.1)

-- the word of a side
abbrev pub side_of : List ℕ → Result Side LineFault
side_of word = if bytes_eq word (codes "buy") then Ok Buy else (if bytes_eq word (codes "sell") then Ok Sell else Err Word)
