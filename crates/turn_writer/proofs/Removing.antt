-- A list of lost nodes without one of them.
use Rattle.std.proofs.Common.{◌≡◌, ℕ, ◌+◌, ◌==◌, ◌∙◌, Bool, true, false, cond, List, [], ◌∷◌, ap, arith, if◌then◌else◌, length, refl, sym, tests}
use Rattle.std.proofs.lemmas.List.Sums.{sum_by-cons}
use Rattle.turn_writer.specs.Losses.{times}
use Rattle.turn_writer.specs.Went.{without}

-- a list by its front
pub times-cons : (k j : ℕ) (l : List ℕ) → times k (j ∷ l) ≡ cond (j == k) 1 0 + times k l
times-cons k j l = sum_by-cons (λ i. cond (i == k) 1 0) j l

-- the node is none of it
pub times-without : (k : ℕ) (l : List ℕ) → times k (without k l) ≡ 0
times-without k [] = refl
times-without k (j ∷ l) = by-test (j == k) refl (times-without k l)
  where
    by-test : (b : Bool) → (j == k) ≡ b → times k (without k l) ≡ 0 → times k (if b then without k l else j ∷ without k l) ≡ 0
    by-test true e ih = ih
    by-test false e ih = times-cons k j (without k l) ∙ ap (λ b. cond {A = ℕ} b 1 0 + times k (without k l)) e ∙ (let z : 0 + times k (without k l) ≡ times k (without k l) = omega arith in z) ∙ ih

-- and another is there as often
pub times-others : (k i : ℕ) (l : List ℕ) → (k == i) ≡ false → times i (without k l) ≡ times i l
times-others k i [] apart = refl
times-others k i (j ∷ l) apart = by-test (j == k) refl (times-others k i l apart)
  where
    by-test : (b : Bool) → (j == k) ≡ b → times i (without k l) ≡ times i l → times i (if b then without k l else j ∷ without k l) ≡ times i (j ∷ l)
    by-test true e ih =
        let same : j ≡ k = search (tests, e) in
        let other : (j == i) ≡ false = ap (λ n. n == i) same ∙ apart in
        let z : 0 + times i l ≡ times i l = omega arith in
        ih ∙ sym z ∙ ap (λ b. cond {A = ℕ} b 1 0 + times i l) (sym other) ∙ sym (times-cons i j l)
    by-test false e ih = times-cons i j (without k l) ∙ ap (λ n. cond {A = ℕ} (j == i) 1 0 + n) ih ∙ sym (times-cons i j l)

-- it is shorter by as much
pub length-without : (k : ℕ) (l : List ℕ) → length (without k l) + times k l ≡ length l
length-without k [] = refl
length-without k (j ∷ l) = by-test (j == k) refl (length-without k l)
  where
    by-test : (b : Bool) → (j == k) ≡ b → length (without k l) + times k l ≡ length l → length (if b then without k l else j ∷ without k l) + times k (j ∷ l) ≡ length (j ∷ l)
    by-test true e ih =
        let c : times k (j ∷ l) ≡ 1 + times k l = times-cons k j l ∙ ap (λ b. cond {A = ℕ} b 1 0 + times k l) e in omega (arith, ih, c)
    by-test false e ih =
        let c : times k (j ∷ l) ≡ 0 + times k l = times-cons k j l ∙ ap (λ b. cond {A = ℕ} b 1 0 + times k l) e in omega (arith, ih, c)
