-- The words of times: HH:MM:SS, or HH:MM:SS.mmm.
use Rattle.std.specs.Prelude.{◌≡◌, ℕ, ◌+◌, ◌-◌, ◌*◌, ◌<◌, ◌&&◌, List, length, Option, Some, None, if◌then◌else◌, ◌==◌, nat_lt, slice_index}
use Rattle.mkt_base.specs.Text.{time_text}
use Rattle.mkt_io.specs.Words.{is_digit}

-- one part after another, where each is there
infixl 10 ◌>>=◌
abbrev ◌>>=◌ : {A B : Type 0} → Option A → (A → Option B) → Option B
(Some x) >>= f = f x
None >>= f = None

-- the value of a digit
unfoldable pub digit_of : ℕ → Option ℕ
digit_of b = if is_digit b then Some (b - 48) else None

-- the value of the two digits at a place of a word
unfoldable pub two_at : List ℕ → ℕ → Option ℕ
two_at word at = do
  tens ← digit_of (slice_index word at)
  ones ← digit_of (slice_index word (at + 1))
  Some (10 * tens + ones)

-- the two digits at a place, where their value is below a limit
unfoldable pub part_at : ℕ → List ℕ → ℕ → Option ℕ
part_at limit word at = two_at word at >>= λ n. if nat_lt n limit then Some n else None

-- the milliseconds behind a point, and 0 where the word ends with its seconds
unfoldable pub millis_of : List ℕ → Option ℕ
millis_of word =
    if length word == 8 then Some 0
    else (if length word == 12 && slice_index word 8 == 46 then (do
      hundreds ← digit_of (slice_index word 9)
      ones ← two_at word 10
      Some (100 * hundreds + ones))
    else None)

-- the milliseconds since midnight of a time word: hours 00 to 23, minutes and seconds 00 to 59, with a colon between
unfoldable pub time_of : List ℕ → Option ℕ
time_of word =
    if slice_index word 2 == 58 && slice_index word 5 == 58 then (do
      hours ← part_at 24 word 0
      minutes ← part_at 60 word 3
      seconds ← part_at 60 word 6
      ms ← millis_of word
      Some (((hours * 60 + minutes) * 60 + seconds) * 1000 + ms))
    else None

-- a moment that is printed reads back as itself
abbrev pub PrintedMomentsReadBack : Type 0
PrintedMomentsReadBack = (ms : ℕ) → ms < 86400000 → time_of (time_text ms) ≡ Some ms
