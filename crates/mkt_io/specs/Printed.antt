-- What a printer has printed since it was made.
use Rattle.std.specs.Prelude.{◌≡◌, length, drop, ℕ, ◌≤◌, Bool, true, false, List, [], ◌∷◌, ◌++◌, Option, take, cond}
use Rattle.std.proofs.Common.{append_assoc, append-nil, refl, subst, sym, ◌∙◌}
use Rattle.std.specs.List.{join_with_byte}
use Rattle.std.specs.Io.KnownBytes.{Appends}
use Rattle.mkt_base.specs.Text.{line}
use Rattle.mkt_io.specs.Faults.{Rises}
use Rattle.mkt_io.specs.declared.printer.Printer.{Printer}

-- `bytes` were handed to the printer since it was made over the sink `from`. The first n of them are written, and
-- the others stand in its block; after a fault nothing more is written.
pub record Handed {O : Type 0} (contents : O → Option (List ℕ)) (faults : O → ℕ) (from : O) (bytes : List ℕ) (p : Printer O) : Type 0 where
  pub n : ℕ
  pub within : n ≤ length bytes
  pub written : Appends (contents from) (contents p.sink.now) (take n bytes)
  pub gathered : p.fault ≡ false → drop n bytes ≡ p.block
  pub cause : p.fault ≡ true → Rises (faults from) (faults p.sink.now)
  pub count : faults from ≤ faults p.sink.now

-- a line has begun: some of its words are printed
abbrev pub is_begun : List (List ℕ) → Bool
is_begun [] = false
is_begun (word ∷ more) = true

-- a space stands before each word but the first of a line
abbrev pub spaced : Bool → List ℕ → List ℕ
spaced begun text = cond begun (32 ∷ text) text

-- lines that are ended, and the words of one that is not, with a space between each two
abbrev pub with_words : List ℕ → List (List ℕ) → List ℕ
with_words text [] = text
with_words text (word ∷ more) = text ++ join_with_byte 32 (word ∷ more)

-- since it was made over the sink `from` the printer was handed the lines `text`, and then the words of a line that is
-- not ended
pub record Printed {O : Type 0} (contents : O → Option (List ℕ)) (faults : O → ℕ) (from : O) (text : List ℕ) (words : List (List ℕ)) (p : Printer O) : Type 0 where
  pub handed : Handed contents faults from (with_words text words) p
  pub begun : p.in_line ≡ is_begun words

-- exactly these words more, of one line, over the same sink
pub record PrintsWords {O : Type 0} (contents : O → Option (List ℕ)) (faults : O → ℕ) (old new : Printer O) (more : List (List ℕ)) : Type 0 where
  pub same_sink : new.sink.ghost_name ≡ old.sink.ghost_name
  pub printed : (from : O) (text : List ℕ) (words : List (List ℕ)) → Printed contents faults from text words old → Printed contents faults from text (words ++ more) new

-- exactly this text more, of whole lines, over the same sink
pub record PrintsLines {O : Type 0} (contents : O → Option (List ℕ)) (faults : O → ℕ) (old new : Printer O) (more : List ℕ) : Type 0 where
  pub same_sink : new.sink.ghost_name ≡ old.sink.ghost_name
  pub printed : (from : O) (text : List ℕ) → Printed contents faults from text [] old → Printed contents faults from (text ++ more) [] new

-- a fault is kept
abbrev pub has_fault : {O : Type 0} → Printer O → Bool
has_fault p = p.fault

-- what became of a sink and of its fault where a text was to be written: nothing where a fault was kept, and else
-- the first n bytes of the text are written, all of them without a fault
pub record Emitted {O : Type 0} (contents : O → Option (List ℕ)) (faults : O → ℕ) (old : O) (kept : Bool) (text : List ℕ) (new : O) (fault : Bool) : Type 0 where
  pub n : ℕ
  pub within : n ≤ length text
  pub same : kept ≡ true → (new ≡ old) × (fault ≡ true)
  pub written : kept ≡ false → Appends (contents old) (contents new) (take n text)
  pub whole : fault ≡ false → n ≡ length text
  pub cause : kept ≡ false → fault ≡ true → Rises (faults old) (faults new)
  pub count : faults old ≤ faults new

-- the line is ended, over the same sink
pub record EndsLine {O : Type 0} (contents : O → Option (List ℕ)) (faults : O → ℕ) (old new : Printer O) : Type 0 where
  pub same_sink : new.sink.ghost_name ≡ old.sink.ghost_name
  pub printed : (from : O) (text : List ℕ) (words : List (List ℕ)) → Printed contents faults from text words old → Printed contents faults from (text ++ line words) [] new

-- How print calls compose. An answer for a line is `ended (c.word.ensures and_then c.number.ensures) c.line_end.ensures`.
infixl 10 ◌and_then◌
module _ {O : Type 0} {contents : O → Option (List ℕ)} {faults : O → ℕ} where
  -- words, and then others of the same line
  pub ◌and_then◌ : {p q r : Printer O} {xs ys : List (List ℕ)} → PrintsWords contents faults p q xs → PrintsWords contents faults q r ys → PrintsWords contents faults p r (xs ++ ys)
  ◌and_then◌ {p} {q} {r} {xs} {ys} first second = record {
    same_sink = second.same_sink ∙ first.same_sink;
    printed = λ from text words before.
        let P : List (List ℕ) → Type 0 = λ ws. Printed contents faults from text ws r in
        subst P (append_assoc words xs ys) (second.printed from text (words ++ xs) (first.printed from text words before));
  }

  -- the words of a line, and its end
  pub ended : {p q r : Printer O} {words : List (List ℕ)} → PrintsWords contents faults p q words → EndsLine contents faults q r → PrintsLines contents faults p r (line words)
  ended {p} {q} {r} {words} said end = record {
    same_sink = end.same_sink ∙ said.same_sink;
    printed = λ from text before. end.printed from text words (said.printed from text [] before);
  }

  -- no line
  pub no_lines : {p : Printer O} → PrintsLines contents faults p p []
  no_lines {p} = record {
    same_sink = refl;
    printed = λ from text before. let P : List ℕ → Type 0 = λ xs. Printed contents faults from xs [] p in subst P (sym (append-nil text)) before;
  }

  -- lines, and then others
  pub before_lines : {p q r : Printer O} {xs ys : List ℕ} → PrintsLines contents faults p q xs → PrintsLines contents faults q r ys → PrintsLines contents faults p r (xs ++ ys)
  before_lines {p} {q} {r} {xs} {ys} first second = record {
    same_sink = second.same_sink ∙ first.same_sink;
    printed = λ from text before.
        let P : List ℕ → Type 0 = λ zs. Printed contents faults from zs [] r in
        subst P (append_assoc text xs ys) (second.printed from (text ++ xs) (first.printed from text before));
  }

  -- the same lines under another name
  pub same_lines : {p q : Printer O} {xs ys : List ℕ} → xs ≡ ys → PrintsLines contents faults p q xs → PrintsLines contents faults p q ys
  same_lines {p} {q} e printed = let P : List ℕ → Type 0 = λ zs. PrintsLines contents faults p q zs in subst P e printed

  pub same_words : {p q : Printer O} {xs ys : List (List ℕ)} → xs ≡ ys → PrintsWords contents faults p q xs → PrintsWords contents faults p q ys
  same_words {p} {q} e printed = let P : List (List ℕ) → Type 0 = λ zs. PrintsWords contents faults p q zs in subst P e printed
