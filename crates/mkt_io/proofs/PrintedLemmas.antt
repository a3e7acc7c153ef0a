-- What a printer has printed after a text was written to its sink.
use Rattle.std.proofs.Common.{◌≡◌, ℕ, ◌+◌, ◌≤◌, Bool, true, false, List, [], ◌∷◌, ◌++◌, append_assoc, Option, length, take, drop, refl, sym, ap, subst, ◌∙◌, append-nil, length-append, length-drop, arith}
use Rattle.std.proofs.Math.Seq.{take-add}
use Rattle.std.proofs.Math.ListN.{drop_of_length-le}
use Rattle.std.proofs.lemmas.List.{take-append-le, drop-append-le, drop-drop, take-append-drop}
use Rattle.std.specs.Io.KnownBytes.{Appends}
use Rattle.mkt_io.specs.Faults.{Rises}
use Rattle.std.specs.List.{join_with_byte}
use Rattle.mkt_base.specs.Text.{line}
use Rattle.mkt_io.specs.Printed.{Emitted, Handed, Printed, is_begun, spaced, with_words}
use Rattle.mkt_io.specs.declared.printer.Printer.{Printer}
use Rattle.mkt_io.proofs.KnownLemmas.{Appends-then, Appends-same, Rises-after}

-- the first bytes of a text that is cut after n, and more
take-seam : (n m : ℕ) (before more text : List ℕ) → n ≤ length before → text ≡ drop n before ++ more → take (n + m) (before ++ more) ≡ take n before ++ take m text
take-seam n m before more text h e =
    take-add n m (before ++ more)
    ∙ ap (λ z. z ++ take m (drop n (before ++ more))) (take-append-le n before more h)
    ∙ ap (λ z. take n before ++ take m z) (drop-append-le n before more h ∙ sym e)

drop-seam : (n m : ℕ) (before more text : List ℕ) → n ≤ length before → text ≡ drop n before ++ more → drop (n + m) (before ++ more) ≡ drop m text
drop-seam n m before more text h e =
    sym (drop-drop m n (before ++ more)) ∙ ap (drop m) (drop-append-le n before more h ∙ sym e)

seam-within : (n m : ℕ) (before more text : List ℕ) → n ≤ length before → text ≡ drop n before ++ more → m ≤ length text → n + m ≤ length (before ++ more)
seam-within n m before more text h e k =
    omega (arith, ap length e, length-append (drop n before) more, length-drop n before, length-append before more)

-- the space before a word, and the word
spaced-word : (begun : Bool) (block word : List ℕ) → (block ++ spaced begun []) ++ word ≡ block ++ spaced begun word
spaced-word true block word = append_assoc block (32 ∷ []) word
spaced-word false block word = ap (λ z. z ++ word) (append-nil block)

module _ {O : Type 0} (contents : O → Option (List ℕ)) (faults : O → ℕ) (from : O) where
  -- the block and more bytes were to be written, and the block is empty now
  pub emit-prints : (before more text : List ℕ) (p q : Printer O) → Handed contents faults from before p → Emitted contents faults p.sink.now p.fault text q.sink.now q.fault → text ≡ p.block ++ more → q.block ≡ []
      → Handed contents faults from (before ++ more) q
  emit-prints before more text p q printed emitted whole empty = by p.fault refl
    where
      by : (kept : Bool) → p.fault ≡ kept → Handed contents faults from (before ++ more) q
      by true k =
          let same = emitted.same k in
          let P : O → Type 0 = λ s. Appends (contents from) (contents s) (take printed.n (before ++ more)) in
          let R : O → Type 0 = λ s. Rises (faults from) (faults s) in
          let S : O → Type 0 = λ s. faults from ≤ faults s in
          record {
            n = printed.n;
            within = omega (arith, printed.within, length-append before more);
            written = subst P (sym same.0) (Appends-same _ _ _ _ (sym (take-append-le printed.n before more printed.within)) printed.written);
            gathered = λ f. absurd (cc (f, same.1));
            cause = λ _. subst R (sym same.0) (printed.cause k);
            count = subst S (sym same.0) printed.count;
          }
      by false k =
          let seam : text ≡ drop printed.n before ++ more = whole ∙ ap (λ z. z ++ more) (sym (printed.gathered k)) in
          record {
            n = printed.n + emitted.n;
            within = seam-within printed.n emitted.n before more text printed.within seam emitted.within;
            written = Appends-same _ _ _ _ (sym (take-seam printed.n emitted.n before more text printed.within seam)) (Appends-then _ _ _ _ _ printed.written (emitted.written k));
            gathered = λ f. drop-seam printed.n emitted.n before more text printed.within seam ∙ drop_of_length-le text {i = emitted.n} (omega (arith, emitted.whole f)) ∙ sym empty;
            cause = λ f. Rises-after _ _ _ printed.count (emitted.cause k f);
            count = omega (arith, printed.count, emitted.count);
          }

  -- the block alone was to be written
  pub flush-prints : (before text : List ℕ) (p q : Printer O) → Handed contents faults from before p → Emitted contents faults p.sink.now p.fault text q.sink.now q.fault → text ≡ p.block → q.block ≡ []
      → Handed contents faults from before q
  flush-prints before text p q printed emitted whole empty =
      let P : List ℕ → Type 0 = λ z. Handed contents faults from z q in
      subst P (append-nil before) (emit-prints before [] text p q printed emitted (whole ∙ sym (append-nil p.block)) empty)

  -- all is written where nothing is gathered any more and no fault is kept
  pub Appends-of_printed : (bytes : List ℕ) (q : Printer O) → Handed contents faults from bytes q → q.fault ≡ false → q.block ≡ [] → Appends (contents from) (contents q.sink.now) bytes
  Appends-of_printed bytes q printed f empty =
      let front : take printed.n bytes ≡ bytes = sym (append-nil (take printed.n bytes)) ∙ ap (λ z. take printed.n bytes ++ z) (sym (printed.gathered f ∙ empty)) ∙ take-append-drop printed.n bytes in
      Appends-same _ _ _ _ front printed.written

  -- a word behind those of its line, with a space between
  join-push : (v : List ℕ) (words : List (List ℕ)) (word : List ℕ) → join_with_byte 32 (v ∷ (words ++ word ∷ [])) ≡ join_with_byte 32 (v ∷ words) ++ (32 ∷ word)
  join-push v [] word = refl
  join-push v (w ∷ words) word = ap (λ z. v ++ (32 ∷ z)) (join-push w words word) ∙ sym (append_assoc v (32 ∷ join_with_byte 32 (w ∷ words)) (32 ∷ word))

  -- one word more
  pub word-printed : (text : List ℕ) (words : List (List ℕ)) (word : List ℕ) (begun : Bool) (p : Printer O) → begun ≡ is_begun words
      → Handed contents faults from (with_words text words ++ spaced begun word) p → p.in_line ≡ true → Printed contents faults from text (words ++ word ∷ []) p
  word-printed text [] word begun p e handed b = record { handed = rw e at handed; begun = b }
  word-printed text (w ∷ words) word begun p e handed b =
      let P : List ℕ → Type 0 = λ z. Handed contents faults from z p in
      record {
        handed = subst P (ap (λ z. (text ++ join_with_byte 32 (w ∷ words)) ++ spaced z word) e ∙ append_assoc text _ _ ∙ ap (λ z. text ++ z) (sym (join-push w words word))) handed;
        begun = b;
      }

  -- the block holds so much more
  more-gathered : (before more : List ℕ) (p q : Printer O) → Handed contents faults from before p → q.sink.now ≡ p.sink.now → q.fault ≡ p.fault → q.block ≡ p.block ++ more → Handed contents faults from (before ++ more) q
  more-gathered before more p q handed same kept block =
      let P : O → Type 0 = λ s. Appends (contents from) (contents s) (take handed.n (before ++ more)) in
      let R : O → Type 0 = λ s. Rises (faults from) (faults s) in
      let S : O → Type 0 = λ s. faults from ≤ faults s in
      record {
        n = handed.n;
        within = omega (arith, handed.within, length-append before more);
        written = subst P (sym same) (Appends-same _ _ _ _ (sym (take-append-le handed.n before more handed.within)) handed.written);
        gathered = λ f. drop-append-le handed.n before more handed.within ∙ ap (λ z. z ++ more) (handed.gathered (sym kept ∙ f)) ∙ sym block;
        cause = λ f. subst R (sym same) (handed.cause (sym kept ∙ f));
        count = subst S (sym same) handed.count;
      }

  -- one word more, which the block has room for
  pub word-gathered : (text : List ℕ) (words : List (List ℕ)) (word : List ℕ) (p q : Printer O) → p.in_line ≡ is_begun words → Handed contents faults from (with_words text words) p
      → q.sink.now ≡ p.sink.now → q.fault ≡ p.fault → q.in_line ≡ true → q.block ≡ (p.block ++ spaced p.in_line []) ++ word → Printed contents faults from text (words ++ word ∷ []) q
  word-gathered text words word p q begun handed same kept b block =
      word-printed text words word p.in_line q begun
      (more-gathered (with_words text words) (spaced p.in_line word) p q handed same kept (block ∙ spaced-word p.in_line p.block word)) b

  -- the line is ended
  pub line-printed : (text : List ℕ) (words : List (List ℕ)) (p : Printer O) → Handed contents faults from (with_words text words ++ 10 ∷ []) p → p.in_line ≡ false
      → Printed contents faults from (text ++ line words) [] p
  line-printed text [] p handed b = record { handed = handed; begun = b }
  line-printed text (w ∷ words) p handed b =
      let P : List ℕ → Type 0 = λ z. Handed contents faults from z p in
      record { handed = subst P (append_assoc text (join_with_byte 32 (w ∷ words)) (10 ∷ [])) handed; begun = b }
