-- Where the words of a line end, as a number whose bits tell it.
use Rattle.std.specs.Prelude.{◌≡◌, ℕ, ◌<◌, List, [], ◌∷◌, ◌++◌, length, map}
use Rattle.std.specs.Simd.Lanes.{mask_l}
use Rattle.mkt_io.specs.Words.{is_blank}

-- bit k is set where byte k is a blank, and behind the last byte stands one blank more
abbrev pub ends_of : List ℕ → ℕ
ends_of line = mask_l (map is_blank (line ++ 32 ∷ []))

-- the ends of the words of a line of at most 63 bytes, or 0
abbrev pub AreEnds : List ℕ → ℕ → Type 0
AreEnds line ends = 0 < ends → (length line < 64) × (ends ≡ ends_of line)
