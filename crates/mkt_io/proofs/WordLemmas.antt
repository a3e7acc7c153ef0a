-- The first word of a line.
use Rattle.std.proofs.Common.{◌≡◌, ℕ, ◌+◌, ◌-◌, ◌*◌, ◌^◌, ◌<◌, ◌≤◌, nat_le, Bool, true, false, not, cond, nat_lt, List, [], ◌∷◌, length, take, drop, get_or, slice_get, IfSome, filter, map, ◌&&◌, refl, sym, ap, subst, ◌∙◌, length-take, arith}
use Rattle.std.specs.List.{All, slice_split, position_or_len}
use Rattle.std.proofs.lemmas.Bool.Decides.{nat_tests}
use Rattle.std.proofs.lemmas.List.Splits.{slice_split_first, slice_split_none, slice_split-cons_yes}
use Rattle.std.proofs.lemmas.List.{take_rest, length-map}
use Rattle.std.proofs.Math.Nat.{pow-le-pow_right}
use Rattle.std.specs.List.{fold, list_all}
use Rattle.std.specs.Int.Digits.{number_from_digits_after, AllBelowBase}
use Rattle.std.proofs.lemmas.Int.Digits.{number_after_lt}
use Rattle.mkt_io.specs.Words.{is_blank, is_digit, digits_value, words}

abbrev is_word : List ℕ → Bool
is_word part = nat_lt 0 (length part)

filter-cons : (part : List ℕ) (parts : List (List ℕ)) → 0 < length part → filter is_word (part ∷ parts) ≡ part ∷ filter is_word parts
filter-cons [] parts h = absurd (omega (arith, h))
filter-cons (b ∷ bytes) parts h = grind (arith, nat_tests)

-- an empty line has no word
pub words-nothing : (line : List ℕ) → length line ≡ 0 → words line ≡ []
unfolding words
words-nothing [] h = refl
words-nothing (b ∷ line) h = absurd (omega (arith, h))

-- a blank in front changes no word
pub words-blank : (b : ℕ) (line : List ℕ) → is_blank b ≡ true → words (b ∷ line) ≡ words line
unfolding words
words-blank b line h = ap (filter is_word) (slice_split-cons_yes is_blank b line h)

-- the same, where the line is cut behind its first byte
pub words-behind : (line : List ℕ) → 1 ≤ length line → is_blank (get_or line 0 0) ≡ true → words (take (length line - 1) (drop 1 line)) ≡ words line
words-behind [] h blank = absurd (omega (arith, h))
words-behind (b ∷ line) h blank = ap words (take_rest (b ∷ line) 1) ∙ sym (words-blank b line blank)

-- a line begins with no blank
abbrev pub BeginsWithWord : List ℕ → Type 0
BeginsWithWord line = IfSome (slice_get line 0) (λ b. is_blank b ≡ false)

-- a first blank does not stand in front
first-behind : (line : List ℕ) → BeginsWithWord line → position_or_len is_blank line < length line → 0 < position_or_len is_blank line
first-behind [] begins h = absurd (omega (arith, h))
first-behind (b ∷ line) begins h = let P : Bool → Type 0 = λ v. 0 < cond (not v) (1 + position_or_len is_blank line) 0 in subst P (sym begins) (omega arith)

-- a word ends at the first blank
pub words-first : (line : List ℕ) (at : ℕ) → position_or_len is_blank line ≡ at → at < length line → BeginsWithWord line → words line ≡ take at line ∷ words (drop (at + 1) line)
unfolding words
words-first line at e h begins =
    let P : ℕ → Type 0 = λ n. words line ≡ take n line ∷ words (drop (n + 1) line) in
    let n = position_or_len is_blank line in
    let inside : n < length line = omega (arith, e, h) in
    subst P e (ap (filter is_word) (slice_split_first is_blank line 0 inside)
    ∙ filter-cons (take n line) (slice_split is_blank (drop (n + 1) line)) (omega (arith, length-take n line, first-behind line begins inside)))

-- a line without blanks is one word
pub words-last : (line : List ℕ) → All (λ b. is_blank b ≡ false) line → 0 < length line → words line ≡ line ∷ []
unfolding words
words-last line none h = ap (filter is_word) (slice_split_none is_blank line none) ∙ filter-cons line [] h

-- what a digit adds to the digits before it
abbrev step : ℕ → ℕ → ℕ
step n digit = 10 * n + (digit - 48)

both : (a b : Bool) → (a && b) ≡ true → (a ≡ true) × (b ≡ true)
both true b h = (refl, h)
both false b h = absurd (cc)

digit-within : (d : ℕ) → is_digit d ≡ true → (48 ≤ d) × (d ≤ 57)
digit-within d h = let t = both (nat_le 48 d) (nat_le d 57) h in (grind (arith, nat_tests, t.0), grind (arith, nat_tests, t.1))

value-after : (a : ℕ) (digits : List ℕ) → fold step a digits ≡ number_from_digits_after 10 a (map (λ d. d - 48) digits)
value-after a [] = refl
value-after a (d ∷ digits) = value-after (step a d) digits ∙ ap (λ n. number_from_digits_after 10 n (map (λ c. c - 48) digits)) (omega arith)

below-ten : (digits : List ℕ) → list_all is_digit digits ≡ true → AllBelowBase 10 (map (λ d. d - 48) digits)
below-ten [] h = tt
below-ten (d ∷ digits) h = let t = both (is_digit d) (list_all is_digit digits) h in (omega (arith, digit-within d t.0), below-ten digits t.1)

-- nine digits stand for less than 10^9
pub digits_value-lt : (digits : List ℕ) → list_all is_digit digits ≡ true → length digits ≤ 9 → digits_value digits < 10 ^ 9
digits_value-lt digits h short =
    omega (
      arith,
      value-after 0 digits,
      number_after_lt 10 0 (map (λ d. d - 48) digits) (below-ten digits h),
      length-map digits (λ d. d - 48),
      pow-le-pow_right {n = 10} (omega arith) {i = length (map (λ d. d - 48) digits)} {j = 9} (omega (arith, length-map digits (λ d. d - 48), short)),
    )
