-- What a matcher took, and what that says of the two texts.
use Rattle.std.proofs.Common.{◌≡◌, ◌≢◌, ℕ, zero, suc, ◌+◌, ◌<◌, ◌≤◌, List, [], ◌∷◌, ◌++◌, Option, Some, None, inl, inr, length, map, take, drop, get_or, slice_get, append_assoc, append-nil, length-append, refl, sym, ap, subst, ◌∙◌, arith}
use Rattle.std.specs.Option.{ForSome}
use Rattle.std.specs.Io.KnownBytes.{Appends}
use Rattle.std.proofs.Math.Seq.{take-add}
use Rattle.std.proofs.lemmas.Bool.{cases_lt}
use Rattle.std.proofs.lemmas.List.{length-take-le, take_all}
use Rattle.mkt_io.specs.Faults.{Rises}
use Rattle.mkt_io.specs.Sink.{AppendsPart}
use Rattle.text_match.specs.Matched.{IsCommon, WasHanded, known, taken}
use Rattle.text_match.proofs.FrontLemmas.{take_drop}

-- ---- contents

-- the contents of a matcher are its text and what it took
pub known-injective : (a b c d : List ℕ) → known a b ≡ known c d → (a ≡ c) × (b ≡ d)
unfolding known
known-injective [] b [] d e = (refl, cc)
known-injective [] b (y ∷ c) d e = let heads : zero ≡ suc y = cc in absurd (omega (arith, heads))
known-injective (x ∷ a) b [] d e = let heads : suc x ≡ zero = cc in absurd (omega (arith, heads))
known-injective (x ∷ a) b (y ∷ c) d e =
    let heads : suc x ≡ suc y = cc in
    let tails : known a b ≡ known c d = cc in
    let more = known-injective a b c d tails in
    let same : x ≡ y = omega (arith, heads) in
    (cc, more.1)

-- more is taken
pub known-append : (text bytes more : List ℕ) → known text bytes ++ more ≡ known text (bytes ++ more)
unfolding known
known-append text bytes more = append_assoc (map suc text) (0 ∷ bytes) more

-- the byte that differs is taken
pub taken-odd : (text piece : List ℕ) (at : ℕ) (odd : Option ℕ) → odd ≡ None → 0 < length piece
    → known text (taken at text (Some (get_or piece 0 0))) ≡ known text (taken at text odd) ++ take 1 piece
taken-odd text [] at odd none some = absurd (omega (arith, some))
taken-odd text (b ∷ piece) at (Some c) none some = absurd (cc)
taken-odd text (b ∷ piece) at None none some =
    ap (λ xs. known text (xs ++ b ∷ [])) (sym (append-nil (take at text))) ∙ sym (known-append text (take at text ++ []) (b ∷ []))

-- bytes that are those of the text are taken
pub taken-more : (text piece : List ℕ) (at n : ℕ) (odd : Option ℕ) → odd ≡ None → take n (drop at text) ≡ take n piece
    → known text (taken (at + n) text odd) ≡ known text (taken at text odd) ++ take n piece
taken-more text piece at n (Some c) none same = absurd (cc)
taken-more text piece at n None none same =
    ap (λ xs. known text xs) (append-nil (take (at + n) text) ∙ take-add at n text ∙ ap (λ xs. take at text ++ xs) same ∙ ap (λ xs. xs ++ take n piece) (sym (append-nil (take at text))))
    ∙ sym (known-append text (take at text ++ []) (take n piece))

-- ---- what was handed

-- all of another text, to a matcher that had taken nothing
pub handed-all : (text other : List ℕ) (new : Option (List ℕ)) (faults : ℕ) → Appends (Some (known text [])) new other → WasHanded text other new faults
handed-all text other None faults appends = absurd appends
handed-all text other (Some bytes) faults appends = record {
  n = length other;
  within = omega arith;
  front = ap (λ xs. Some xs) (appends ∙ known-append text [] other ∙ ap (known text) (sym (take_all (length other) other (omega arith))));
  whole = λ clean. refl;
}

-- a front part of it, up to a fault
pub handed-part : (text other : List ℕ) (new : Option (List ℕ)) (old faults : ℕ) → AppendsPart (Some (known text [])) new other → old ≡ 0 → Rises old faults → WasHanded text other new faults
handed-part text other None old faults part none rises = absurd part.2
handed-part text other (Some bytes) old faults part none rises = record {
  n = part.0;
  within = part.1;
  front = ap (λ xs. Some xs) (part.2 ∙ known-append text [] (take part.0 other));
  whole = λ clean. absurd (elim rises [ inl below ↦ omega (arith, below, clean) | inr most ↦ omega (arith, most, clean) ]);
}

-- ---- what is known then

-- the element at a place stands first behind those before it
get-drop : (xs : List ℕ) (at : ℕ) → slice_get (drop at xs) 0 ≡ slice_get xs at
get-drop [] zero = refl
get-drop [] (suc at) = refl
get-drop (x ∷ xs) zero = refl
get-drop (x ∷ xs) (suc at) = get-drop xs at

-- two texts with a longer front than this one go on with the same byte
goes-on : (common t u front xs ys : List ℕ) (b : ℕ) → common ++ t ≡ front ++ xs → common ++ b ∷ u ≡ front ++ ys → length common < length front → slice_get t 0 ≡ Some b
goes-on [] t u [] xs ys b e f h = absurd (omega (arith, h))
goes-on [] t u (z ∷ front) xs ys b e f h =
    let same : b ≡ z = cc in
    ap (λ zs. slice_get zs 0) e ∙ ap (λ c. Some c) (sym same)
goes-on (a ∷ common) t u [] xs ys b e f h = absurd (omega (arith, h))
goes-on (a ∷ common) t u (z ∷ front) xs ys b e f h =
    let first : common ++ t ≡ front ++ xs = cc in
    let second : common ++ b ∷ u ≡ front ++ ys = cc in
    goes-on common t u front xs ys b first second (omega (arith, h))

-- a text that was taken up to its end, and goes on
ended : (text other : List ℕ) (at : ℕ) → at < length text → other ≡ take at text → (text ≡ other → ⊥) × IsCommon (take at text) text other
ended text other at more whole =
    let count : length (take at text) ≡ at = length-take-le at text (omega (arith, more)) in
    let short : length other ≡ at = ap length whole ∙ count in (
      λ same. omega (arith, more, short, ap length same),
      record {
        of_text = (drop at text, sym (take_drop at text));
        of_other = ([], whole ∙ sym (append-nil (take at text)));
        most = λ front xs ys e f. omega (arith, count, short, ap length f, length-append front ys);
      },
    )

-- a text that goes on with another byte
parted : (text other rest : List ℕ) (at b : ℕ) → at ≤ length text → slice_get text at ≢ Some b → other ≡ take at text ++ b ∷ rest
    → (text ≡ other → ⊥) × IsCommon (take at text) text other
parted text other rest at b within differs whole =
    let common = take at text in
    let count : length common ≡ at = length-take-le at text within in
    let long : length other ≡ length common + length (b ∷ rest) = ap length whole ∙ length-append common (b ∷ rest) in
    let on : (front xs ys : List ℕ) → text ≡ front ++ xs → other ≡ front ++ ys → length common < length front → ⊥ =
    λ front xs ys e f h. differs (sym (get-drop text at) ∙ goes-on common (drop at text) rest front xs ys b (take_drop at text ∙ e) (sym whole ∙ f) h) in (
      λ same. on text [] [] (sym (append-nil text)) (sym same ∙ sym (append-nil text)) (omega (arith, long, ap length same)),
      record {
        of_text = (drop at text, sym (take_drop at text));
        of_other = (b ∷ rest, whole);
        most = λ front xs ys e f. elim (cases_lt (length common) (length front)) [ inl h ↦ absurd (on front xs ys e f h) | inr h ↦ h ];
      },
    )

module _ (text other held : List ℕ) (at faults : ℕ) (odd : Option ℕ) (handed : WasHanded text other (Some (known held (taken at held odd))) faults) where
  -- it is this text that the matcher held, and this front of the other that it took
  what-taken : (text ≡ held) × (take handed.n other ≡ taken at held odd)
  what-taken =
      let same : known held (taken at held odd) ≡ known text (take handed.n other) = cc (handed.front) in
      let parts = known-injective held (taken at held odd) text (take handed.n other) same in
      (sym parts.0, sym parts.1)

  -- the two are the same
  pub matched-all : odd ≡ None → faults ≡ 0 → at ≡ length held → text ≡ other
  matched-all none clean end =
      let parts = what-taken in
      let all : take handed.n other ≡ other = take_all handed.n other (omega (arith, handed.whole clean)) in
      parts.0 ∙ sym (take_all at held (omega (arith, end))) ∙ sym (append-nil (take at held)) ∙ ap (λ o. taken at held o) (sym none) ∙ sym parts.1 ∙ all

  -- the two are not the same
  pub matched-not : at ≤ length held → ForSome odd (λ b. slice_get held at ≢ Some b) → (odd ≡ None → faults ≡ 0) → (odd ≡ None → at < length held)
      → (text ≡ other → ⊥) × IsCommon (take at held) text other
  matched-not within differs cause more =
      let parts = what-taken in
      let P : List ℕ → Type 0 = λ t. (t ≡ other → ⊥) × IsCommon (take at held) t other in
      subst P (sym parts.0) (cases odd differs cause more parts.1)
    where
      cases : (o : Option ℕ) → ForSome o (λ b. slice_get held at ≢ Some b) → (o ≡ None → faults ≡ 0) → (o ≡ None → at < length held) → take handed.n other ≡ taken at held o
          → (held ≡ other → ⊥) × IsCommon (take at held) held other
      cases None differs cause more is =
          let all : take handed.n other ≡ other = take_all handed.n other (omega (arith, handed.whole (cause refl))) in
          ended held other at (more refl) (sym all ∙ is ∙ append-nil (take at held))
      cases (Some b) differs cause more is =
          parted held other (drop handed.n other) at b within (differs b refl)
          (sym (take_drop handed.n other) ∙ ap (λ xs. xs ++ drop handed.n other) is ∙ append_assoc (take at held) (b ∷ []) (drop handed.n other))
