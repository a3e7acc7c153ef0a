-- The gateways of a block, when all have left it.
use Rattle.std.proofs.Common.{◌≡◌, ℕ, ◌<◌, true, false, List, [], ◌∷◌, length, map, Option, None, Some, All, slice_index_or, refl, sym, ap, subst, ◌∙◌, arith}
use Rattle.std.proofs.Math.ListN.{get_or-map}
use Rattle.std.proofs.lemmas.List.{ext_get_or, length-map}
use Rattle.mkt_base.specs.Desk.{DeskState}
use Rattle.mkt_base.specs.declared.event.Event.{Event}
use Rattle.mkt_base.specs.declared.quote.Board.{Board}
use Rattle.stage_play.specs.Blocks.{Advances, AllGoOn, HasComeTo, HasLeft, IsOf, Knows, cuts_after}
use Rattle.stage_play.specs.declared.blocks.Member.{Member}
use Rattle.stage_play.specs.declared.blocks.Went.{Went}
use Rattle.stage_play.specs.declared.notes.Note.{Note}
use Rattle.stage_play.specs.declared.part.Part.{Part}

-- what is known is one thing
one-went : (o : Option Went) (a b : Went) → o ≡ Some a → o ≡ Some b → a ≡ b
one-went o a b first second = ap (λ (x : Option Went). out x) (sym first ∙ second)
  where
    out : Option Went → Went
    out (Some w) = w
    out None = a

-- lists with the same elements
same-list : {X : Type 0} (xs ys : List X) → length xs ≡ length ys → ((k : ℕ) (x : X) → k < length ys → slice_index_or xs k x ≡ slice_index_or ys k x) → xs ≡ ys
same-list [] [] many at = refl
same-list [] (y ∷ ys) many at = absurd (omega (arith, many))
same-list (x ∷ xs) ys many at = ext_get_or x (x ∷ xs) ys many (λ i within. at i x (subst (λ (n : ℕ). i < n) many within))

abbrev outside : {D : Type 0} → Part D → Member D
outside p = record { part = p; went = None }

module _ {D F : Type 0} (state : D → DeskState) (fixed : D → F) (caller : F → ℕ) (takes : F → Event → Type 0) (tells : D → Board → ℕ → Type 0) where
  -- the gateways that came into a block have come to its first stage
  pub come-in : (issues stage : ℕ) (ps : List (Part D)) (ms : List (Member D)) → map (λ (m : Member D). m.part) ms ≡ ps → All (HasComeTo state fixed caller takes tells issues stage) ps
      → All (λ (m : Member D). HasComeTo state fixed caller takes tells issues stage m.part) ms
  come-in issues stage ps ms are all = λ k m within.
      subst (λ (p : Part D). HasComeTo state fixed caller takes tells issues stage p)
      (ap (λ (xs : List (Part D)). slice_index_or xs k m.part) (sym are) ∙ get_or-map (λ (x : Member D). x.part) ms k m)
      (all k m.part (subst (λ (n : ℕ). k < n) (sym (length-map ms (λ (x : Member D). x.part)) ∙ ap (λ (xs : List (Part D)). length xs) are) within))

  -- each has left it
  pub all-of : (issues width stage count cell : ℕ) (ms ns : List (Member D)) → length ns ≡ length ms
      → ((k : ℕ) (m : Member D) → k < length ms → HasLeft state fixed caller takes tells issues width stage count cell (slice_index_or ms k m).part (slice_index_or ns k m)) → All (IsOf cell) ns
  all-of issues width stage count cell ms ns same left = λ k m within.
      let one = left k m (subst (λ (n : ℕ). k < n) same within) in record { went = one.went; is = one.is; of = one.of }

  module _ (issues width stage count cell : ℕ) (ps rs : List (Part D)) (ms ns : List (Member D)) (came : map (λ (m : Member D). m.part) ms ≡ ps) (go_on : rs ≡ map (λ (m : Member D). m.part) ns) (same : length ns ≡ length ms)
      (left : (k : ℕ) (m : Member D) → k < length ms → HasLeft state fixed caller takes tells issues width stage count cell (slice_index_or ms k m).part (slice_index_or ns k m)) where
    pub as-many : length rs ≡ length ps
    as-many = ap (λ (xs : List (Part D)). length xs) go_on ∙ length-map ns (λ (m : Member D). m.part) ∙ same ∙ sym (length-map ms (λ (m : Member D). m.part)) ∙ ap (λ (xs : List (Part D)). length xs) came

    before : (k : ℕ) (p : Part D) → (slice_index_or ms k (outside p)).part ≡ slice_index_or ps k p
    before k p = sym (get_or-map (λ (m : Member D). m.part) ms k (outside p)) ∙ ap (λ (xs : List (Part D)). slice_index_or xs k p) came

    after : (k : ℕ) (p : Part D) → (slice_index_or ns k (outside p)).part ≡ slice_index_or rs k p
    after k p = sym (get_or-map (λ (m : Member D). m.part) ns k (outside p)) ∙ ap (λ (xs : List (Part D)). slice_index_or xs k p) (sym go_on)

    there : (k : ℕ) → k < length ps → k < length ms
    there k within = subst (λ (n : ℕ). k < n) (ap (λ (xs : List (Part D)). length xs) (sym came) ∙ length-map ms (λ (m : Member D). m.part)) within

    -- it was not played
    pub all-stayed : (notes : List Note) → All (Knows false notes) ns → rs ≡ ps
    all-stayed notes know = same-list rs ps as-many at
      where
        at : (k : ℕ) (p : Part D) → k < length ps → slice_index_or rs k p ≡ slice_index_or ps k p
        at k p within =
            let here = there k within in
            let one = left k (outside p) here in
            let knows = know k (outside p) (subst (λ (n : ℕ). k < n) (sym same) here) in
            sym (after k p) ∙ one.stays (ap (λ (w : Went). w.go.value) (one-went _ one.went knows.went one.is knows.is) ∙ knows.said) ∙ before k p

    -- it was
    pub all-went : (notes : List Note) → All (Knows true notes) ns → AllGoOn state fixed caller takes tells issues stage count (λ cuts. cuts_after issues width stage cuts count notes) ps rs
    all-went notes know = λ k p within.
        let here = there k within in
        let one = left k (outside p) here in
        let knows = know k (outside p) (subst (λ (n : ℕ). k < n) (sym same) here) in
        let is : one.went ≡ knows.went = one-went _ one.went knows.went one.is knows.is in
        let went : Advances state fixed caller takes tells issues width stage count one.went.gathered.values (slice_index_or ms k (outside p)).part (slice_index_or ns k (outside p)).part = one.on (ap (λ (w : Went). w.go.value) is ∙ knows.said) in
        subst (λ (q : Part D). Advances state fixed caller takes tells issues width stage count notes q (slice_index_or rs k p)) (before k p)
        (subst (λ (q : Part D). Advances state fixed caller takes tells issues width stage count notes (slice_index_or ms k (outside p)).part q) (after k p)
        (subst (λ (xs : List Note). Advances state fixed caller takes tells issues width stage count xs (slice_index_or ms k (outside p)).part (slice_index_or ns k (outside p)).part) (ap (λ (w : Went). w.gathered.values) is ∙ knows.read refl) went))
