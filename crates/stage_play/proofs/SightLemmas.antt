-- What several desks have seen together, desk by desk.
use Rattle.std.proofs.Common.{◌≡◌, ℕ, zero, suc, ◌<◌, ◌≤◌, ◌+◌, Bool, true, false, ◌||◌, List, [], ◌∷◌, length, map, take, drop, ◌++◌, max, slice_index_or, refl, sym, ap, subst, ◌∙◌, arith, append-nil}
use Rattle.std.proofs.lemmas.Bool.Decides.{nat_tests}
use Rattle.std.proofs.lemmas.List.{drop_all, take_all}
use Rattle.std.proofs.Math.Seq.{drop-cons}
use Rattle.mkt_base.specs.Desk.{DeskState}
use Rattle.mkt_base.specs.declared.event.Event.{Event}
use Rattle.mkt_base.specs.declared.quote.Board.{Board}
use Rattle.stage_play.specs.Playing.{HasLevelled, desk_at}
use Rattle.stage_play.specs.Seen.{CaughtUp, joined, seen_by, sight_at}
use Rattle.stage_play.specs.declared.part.Part.{Part}
use Rattle.stage_play.specs.declared.seen.Sight.{Sight}

or-assoc : (a b c : Bool) → ((a || b) || c) ≡ (a || (b || c))
or-assoc true b c = refl
or-assoc false b c = refl

max-assoc : (a b c : ℕ) → max (max a b) c ≡ max a (max b c)
max-assoc a b c = grind (arith, nat_tests)

joined-assoc : (a b c : Sight) → joined (joined a b) c ≡ joined a (joined b c)
joined-assoc a b c = let first = max-assoc a.seen b.seen c.seen in let second = or-assoc a.halted b.halted c.halted in cc

abbrev none : Sight
none = record { seen = 0; halted = false }

joined-none : (s : Sight) → joined s none ≡ s
joined-none s = ap (λ (n : ℕ). sight n (s.halted || false)) (max-none s.seen) ∙ ap (λ (b : Bool). sight s.seen b) (or-none s.halted)
  where
    or-none : (b : Bool) → (b || false) ≡ b
    or-none true = refl
    or-none false = refl

    max-none : (n : ℕ) → max n 0 ≡ n
    max-none n = grind (arith, nat_tests)

    sight : ℕ → Bool → Sight
    sight n b = record { seen = n; halted = b }

module _ {X : Type 0} (f : X → DeskState) (all : Sight) where
  -- a desk more
  pub sight-more : (xs : List X) (i : ℕ) (x : X) (s t : Sight) → i < length xs → slice_index_or xs i x ≡ x → t ≡ joined s (sight_at (f x))
      → joined s (seen_by (map f (drop i xs))) ≡ all → joined t (seen_by (map f (drop (i + 1) xs))) ≡ all
  sight-more xs i x s t within is with_x before =
      ap (λ (u : Sight). joined u (seen_by (map f (drop (i + 1) xs)))) with_x
      ∙ joined-assoc s (sight_at (f x)) (seen_by (map f (drop (i + 1) xs)))
      ∙ ap (λ (ys : List X). joined s (seen_by (map f ys))) (ap (λ (y : X). y ∷ drop (i + 1) xs) (sym is) ∙ ap (λ (n : ℕ). slice_index_or xs i x ∷ drop n xs) (one-more i) ∙ sym (drop-cons xs i x within))
      ∙ before
    where
      one-more : (n : ℕ) → n + 1 ≡ suc n
      one-more n = omega arith

  -- all desks
  pub sight-all : (xs : List X) (i : ℕ) (s : Sight) → length xs ≤ i → joined s (seen_by (map f (drop i xs))) ≡ all → s ≡ all
  sight-all xs i s past before = sym (joined-none s) ∙ ap (λ (ys : List X). joined s (seen_by (map f ys))) (sym (drop_all i xs past)) ∙ before

-- what a desk has seen all desks together have seen
pub within-sight : {X : Type 0} (f : X → DeskState) (xs : List X) (k : ℕ) (x : X) → k < length xs
    → ((f (slice_index_or xs k x)).seen ≤ (seen_by (map f xs)).seen) × ((f (slice_index_or xs k x)).ended ≡ true → (seen_by (map f xs)).halted ≡ true)
within-sight f [] k x within = absurd (omega (arith, within))
within-sight f (y ∷ ys) zero x within = (grind (arith, nat_tests), λ is. ap (λ (b : Bool). b || (seen_by (map f ys)).halted) is)
within-sight f (y ∷ ys) (suc k) x within =
    let rest = within-sight f ys k x (omega (arith, within)) in
    (let fewer = rest.0 in grind (arith, nat_tests), λ is. or-right (f y).ended _ (rest.1 is))
  where
    or-right : (a b : Bool) → b ≡ true → (a || b) ≡ true
    or-right true b is = refl
    or-right false b is = is

-- what is written back to a whole vector is the new list
pub written-back : {X : Type 0} (n : ℕ) (old new : List X) → length new ≡ n → length new ≡ length old → take n (new ++ drop (length new) old) ≡ new
written-back n old new all same =
    ap (λ (xs : List _). take n (new ++ xs)) (drop_all (length new) old (omega (arith, same))) ∙ ap (take n) (append-nil new) ∙ take_all n new (omega (arith, all))

-- the desks of a gateway, each of which has caught up
pub levelled : {D F : Type 0} (state : D → DeskState) (fixed : D → F) (caller : F → ℕ) (takes : F → Event → Type 0) (tells : D → Board → ℕ → Type 0) (sights : List Sight) (part : Part D) (lent new : List D) (now : Part D)
    → lent ≡ part.desks.items → now.gateway ≡ part.gateway → now.desks.items ≡ new → length new ≡ length lent
    → ((issue : ℕ) (d : D) (s : Sight) → issue < length lent → CaughtUp state fixed caller tells (slice_index_or sights issue s) (slice_index_or lent issue d) (slice_index_or new issue d))
    → HasLevelled state fixed caller takes tells sights part now
levelled state fixed caller takes tells sights part lent new now is kept with_new size each = record {
  gateway = kept;
  desks = ap (λ ds. length ds) with_new ∙ size ∙ ap (λ ds. length ds) is;
  each = λ issue d s within.
      subst (λ ds. CaughtUp state fixed caller tells (slice_index_or sights issue s) (desk_at part issue d) (slice_index_or ds issue d)) (sym with_new)
      (subst (λ ds. CaughtUp state fixed caller tells (slice_index_or sights issue s) (slice_index_or ds issue d) (slice_index_or new issue d)) is
      (each issue d s (subst (λ ds. issue < length ds) (sym is) within)));
}
