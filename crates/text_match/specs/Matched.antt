-- What is known of two texts that were held against each other.
use Rattle.std.specs.Prelude.{◌≡◌, ℕ, suc, ◌+◌, ◌≤◌, List, [], ◌∷◌, ◌++◌, Option, Some, None, length, map, take}
use Rattle.text_match.specs.Lines.{lines_of}
use Rattle.text_match.specs.declared.matcher.Verdict.{Verdict}
use Rattle.text_match.specs.declared.matcher.Verdict.TheVariants.{Yes, No}

-- two texts begin with this one, and with no longer one
pub record IsCommon (common text other : List ℕ) : Type 0 where
  pub of_text : (rest : List ℕ) × (text ≡ common ++ rest)
  pub of_other : (rest : List ℕ) × (other ≡ common ++ rest)
  pub most : (front xs ys : List ℕ) → text ≡ front ++ xs → other ≡ front ++ ys → length front ≤ length common

-- two texts are the same; or they are not, and this is the first line that they do not share whole
abbrev pub IsComparison : List ℕ → List ℕ → Verdict → Type 0
IsComparison text other Yes = text ≡ other
IsComparison text other (No line) = (text ≡ other → ⊥) × ((common : List ℕ) × IsCommon common text other × (line ≡ length (lines_of common) + 1))

-- a byte that differs from the text, where one was taken
abbrev pub odd_bytes : Option ℕ → List ℕ
odd_bytes None = []
odd_bytes (Some b) = b ∷ []

-- what was taken: a front part of the text, and the byte that differs from it
abbrev pub taken : ℕ → List ℕ → Option ℕ → List ℕ
taken at text odd = take at text ++ odd_bytes odd

-- The contents of a matcher: the text that it holds others against, spelled with no 0, a 0, and the bytes that it took.
unfoldable pub known : List ℕ → List ℕ → List ℕ
known text bytes = map suc text ++ 0 ∷ bytes

-- The contents and the faults of a matcher that was to be handed another text: it took a front part of it, and the whole where it has
-- not failed.
pub record WasHanded (text other : List ℕ) (contents : Option (List ℕ)) (faults : ℕ) : Type 0 where
  pub n : ℕ
  pub within : n ≤ length other
  pub front : contents ≡ Some (known text (take n other))
  pub whole : faults ≡ 0 → n ≡ length other
