-- The texts of the program: lines of words, numbers in decimal, times.
use Rattle.std.specs.Prelude.{ℕ, ◌+◌, ◌/◌, ◌%◌, List, [], ◌∷◌, ◌++◌}
use Rattle.std.specs.List.{join_with_byte}

-- words with one space between, and LF
abbrev pub line : List (List ℕ) → List ℕ
line words = join_with_byte 32 words ++ 10 ∷ []

-- a number of at most two digits, as two
abbrev pub two_digits : ℕ → List ℕ
two_digits n = (48 + n / 10) ∷ (48 + n % 10) ∷ []

-- a number of at most three digits, as three
abbrev pub three_digits : ℕ → List ℕ
three_digits n = (48 + n / 100) ∷ two_digits (n % 100)

-- a moment of the day, as HH:MM:SS.mmm
abbrev pub time_text : ℕ → List ℕ
time_text ms = two_digits (ms / 3600000) ++ 58 ∷ two_digits (ms / 60000 % 60) ++ 58 ∷ two_digits (ms / 1000 % 60) ++ 46 ∷ three_digits (ms % 1000)
