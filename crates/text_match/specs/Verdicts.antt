-- Whether a text is one of a family of texts, and else the first line that none of them has.
use Rattle.std.specs.Prelude.{ℕ, ◌+◌, ◌<◌, ◌≤◌, List, ◌++◌, length, take}
use Rattle.text_match.specs.Lines.{lines_of, text_of}
use Rattle.text_match.specs.declared.matcher.Verdict.{Verdict}
use Rattle.text_match.specs.declared.matcher.Verdict.TheVariants.{Yes, No}

-- some text of the family begins with these lines
abbrev pub Begins : (List ℕ → Type 0) → List (List ℕ) → Type 0
Begins IsTold lines = (rest : List ℕ) × IsTold (text_of lines ++ rest)

-- The least number of lines with which no text of the family begins; and the number of lines plus one where some text begins with all
-- of them.
pub record IsFirstBad (IsTold : List ℕ → Type 0) (lines : List (List ℕ)) (line : ℕ) : Type 0 where
  pub first : 1 ≤ line
  pub within : line ≤ length lines + 1
  pub before : (n : ℕ) → n < line → Begins IsTold (take n lines)
  pub at : line ≤ length lines → Begins IsTold (take line lines) → ⊥

-- a text is one of the family; or it is none, and this is the first line up to which none begins as it does
abbrev pub IsVerdictOf : (List ℕ → Type 0) → List ℕ → Verdict → Type 0
IsVerdictOf IsTold text Yes = IsTold text
IsVerdictOf IsTold text (No line) = (IsTold text → ⊥) × IsFirstBad IsTold (lines_of text) line
