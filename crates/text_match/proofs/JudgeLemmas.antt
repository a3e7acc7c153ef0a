-- The verdict on a text, from a text of the family that it is held against.
use Rattle.std.proofs.Common.{◌≡◌, ℕ, ◌+◌, ◌≤◌, List, ◌++◌, length, take, append_assoc, length-append, sym, ap, subst, ◌∙◌, arith}
use Rattle.std.proofs.lemmas.List.{length-take-le, take-append-le}
use Rattle.text_match.specs.Lines.{lines_of, text_of}
use Rattle.text_match.specs.Matched.{IsCommon, IsComparison}
use Rattle.text_match.specs.Verdicts.{Begins, IsVerdictOf}
use Rattle.text_match.specs.declared.matcher.Verdict.{Verdict}
use Rattle.text_match.specs.declared.matcher.Verdict.TheVariants.{Yes, No}
use Rattle.text_match.proofs.FrontLemmas.{shorter_front}
use Rattle.text_match.proofs.LineLemmas.{AreLines-take, lines-of_front, lines-of_text, tail_of, text-of_first}

-- A text of the family that goes along with a text as far as any does: it is the text, where that is one of the family; and it begins
-- with each number of the text's first lines with which some text of the family begins.
pub record GoesAlong (IsTold : List ℕ → Type 0) (text other : List ℕ) : Type 0 where
  pub told : IsTold other
  pub same : IsTold text → text ≡ other
  pub as_far : (n : ℕ) → n ≤ length (lines_of text) → Begins IsTold (take n (lines_of text)) → (rest : List ℕ) × (other ≡ text_of (take n (lines_of text)) ++ rest)

module _ (IsTold : List ℕ → Type 0) (text other : List ℕ) (along : GoesAlong IsTold text other) where
  module _ (common : List ℕ) (is : IsCommon common text other) where
    -- the text goes on with a line more than both have whole
    common-lines : (n : ℕ) → length (lines_of common) + 1 ≤ n → n ≤ length (lines_of text) → Begins IsTold (take n (lines_of text)) → ⊥
    common-lines n more within begins =
        let first = take n (lines_of text) in
        let far = along.as_far n within begins in
        let rest = text-of_first n text in
        let short = is.most (text_of first) rest.0 far.0 rest.1 far.1 in
        let front = shorter_front common is.of_text.0 (text_of first) rest.0 (sym is.of_text.1 ∙ rest.1) short in
        let lines : lines_of common ≡ first ++ lines_of front.0 =
        ap lines_of front.1 ∙ lines-of_text first front.0 (AreLines-take n (lines_of text) (tail_of text).1.lines_are) in
        let count : length first ≡ n = length-take-le n (lines_of text) within in
        omega (arith, more, ap length lines, length-append first (lines_of front.0), count)

    -- both have as many lines as the common text
    common-within : (front : List (List ℕ)) × (lines_of text ≡ lines_of common ++ front)
    common-within = let lines = lines-of_front common is.of_text.0 in (lines.0, ap lines_of is.of_text.1 ∙ lines.1)

    common-begins : (n : ℕ) → n ≤ length (lines_of common) → Begins IsTold (take n (lines_of text))
    common-begins n within =
        let lines = common-within in
        let first : take n (lines_of text) ≡ take n (lines_of common) = ap (take n) lines.1 ∙ take-append-le n (lines_of common) lines.0 within in
        let front = text-of_first n common in
        let whole : other ≡ text_of (take n (lines_of text)) ++ (front.0 ++ is.of_other.0) =
        is.of_other.1 ∙ ap (λ t. t ++ is.of_other.0) front.1 ∙ append_assoc (text_of (take n (lines_of common))) front.0 is.of_other.0
        ∙ ap (λ ls. text_of ls ++ (front.0 ++ is.of_other.0)) (sym first) in
        (front.0 ++ is.of_other.0, subst IsTold whole along.told)

  -- what a comparison says of the text is the verdict
  pub judged : (verdict : Verdict) → IsComparison text other verdict → IsVerdictOf IsTold text verdict
  judged Yes e = subst IsTold (sym e) along.told
  judged (No line) (differs, found) =
      let common = found.0 in
      let is = found.1 in
      let lines = common-within common is in (
        λ told. differs (along.same told),
        record {
          first = omega (arith, found.2);
          within = omega (arith, found.2, ap length lines.1, length-append (lines_of common) lines.0);
          before = λ n h. common-begins common is n (omega (arith, h, found.2));
          at = λ h. common-lines common is line (omega (arith, found.2)) h;
        },
      )
