-- The first line of a text.
use Rattle.std.proofs.Common.{◌≡◌, ℕ, ◌+◌, ◌<◌, ◌==◌, Bool, false, List, [], ◌∷◌, length, take, drop, refl, ap, subst, ◌∙◌, arith}
use Rattle.std.specs.List.{All, slice_split, position_or_len}
use Rattle.std.specs.Str.Lines.{strip_carriage_return}
use Rattle.std.proofs.lemmas.Bool.Decides.{nat_tests}
use Rattle.std.proofs.lemmas.List.Splits.{slice_split_first, slice_split_none, length-slice_split}
use Rattle.mkt_io.specs.Lines.{lines, lines_of_parts}

-- the byte that ends a line
abbrev pub is_line_end : ℕ → Bool
is_line_end b = b == 10

lines_of_parts-cons : (part : List ℕ) (parts : List (List ℕ)) → 0 < length parts → lines_of_parts (part ∷ parts) ≡ strip_carriage_return part ∷ lines_of_parts parts
lines_of_parts-cons part [] h = absurd (omega (arith, h))
lines_of_parts-cons part (next ∷ more) h = refl

lines_of_parts-last : (part : List ℕ) → 0 < length part → lines_of_parts (part ∷ []) ≡ strip_carriage_return part ∷ []
lines_of_parts-last [] h = absurd (omega (arith, h))
lines_of_parts-last (b ∷ bytes) h = grind (arith, nat_tests)

-- a line ends at the first LF
pub lines-first : (bytes : List ℕ) (at : ℕ) → position_or_len is_line_end bytes ≡ at → at < length bytes → lines bytes ≡ strip_carriage_return (take at bytes) ∷ lines (drop (at + 1) bytes)
lines-first bytes at e h =
    let P : ℕ → Type 0 = λ n. lines bytes ≡ strip_carriage_return (take n bytes) ∷ lines (drop (n + 1) bytes) in
    let n = position_or_len is_line_end bytes in
    subst P e (ap lines_of_parts (slice_split_first is_line_end bytes 0 (omega (arith, e, h)))
    ∙ lines_of_parts-cons (take n bytes) (slice_split is_line_end (drop (n + 1) bytes)) (omega (arith, length-slice_split is_line_end (drop (n + 1) bytes))))

-- a text without LF is one line
pub lines-last : (bytes : List ℕ) → All (λ b. is_line_end b ≡ false) bytes → 0 < length bytes → lines bytes ≡ strip_carriage_return bytes ∷ []
lines-last bytes none h = ap lines_of_parts (slice_split_none is_line_end bytes none) ∙ lines_of_parts-last bytes h
