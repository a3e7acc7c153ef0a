-- The lines of a text.
use Rattle.std.specs.Prelude.{◌≡◌, ℕ, ◌+◌, ◌<◌, ◌≤◌, List, [], ◌∷◌, length, if◌then◌else◌, ◌==◌}
use Rattle.std.specs.List.{slice_split}
use Rattle.std.specs.Str.Lines.{strip_carriage_return}
use Rattle.mkt_io.specs.declared.lines.Piece.{Piece}
use Rattle.mkt_io.specs.declared.lines.Piece.TheVariants.{Line, TooLong, End}

-- the lines that are left, and how many were given
pub record LinesLeft : Type 0 where
  pub left : List (List ℕ)
  pub given : ℕ

-- each part that LF ends, and what stands behind the last LF where that is not empty; without one CR at the end
abbrev pub lines_of_parts : List (List ℕ) → List (List ℕ)
lines_of_parts [] = []
lines_of_parts (part ∷ []) = if length part == 0 then [] else strip_carriage_return part ∷ []
lines_of_parts (part ∷ next ∷ more) = strip_carriage_return part ∷ lines_of_parts (next ∷ more)

-- the lines of a text
abbrev pub lines : List ℕ → List (List ℕ)
lines bytes = lines_of_parts (slice_split (λ b. b == 10) bytes)

-- the next line is given with its number, or told as too long; where none is left, the end is told
abbrev pub IsNextPiece : LinesLeft → Piece → LinesLeft → Type 0
IsNextPiece old (Line number text) new = (old.left ≡ text.now ∷ new.left) × (number ≡ old.given + 1) × (new.given ≡ number) × (length text.now ≤ 200)
IsNextPiece old (TooLong number) new = (line : List ℕ) × (old.left ≡ line ∷ new.left) × (number ≡ old.given + 1) × (new.given ≡ number) × (200 < length line)
IsNextPiece old End new = (old.left ≡ []) × (new ≡ old)
