-- Worked examples: the definitions say what a reader of the rules would say.
use Rattle.std.specs.Prelude.{◌≡◌, ℕ, ◌+◌, ◌≤◌, ◌^◌, List, [], ◌∷◌, refl}
use Rattle.std.proofs.Common.{inl, inr, ap, arith}
use Rattle.std.proofs.Math.Pow.{pow_mono}
use Rattle.std.proofs.lemmas.Bool.{cases_lt}
use Rattle.depth_index.specs.Depths.{IsFirstReaching, TakesFewSteps, sum_upto}
use Rattle.depth_index.specs.Tree.{left_of}

-- quantities at five positions
abbrev quantities : List ℕ
quantities = 0 ∷ 300 ∷ 0 ∷ 200 ∷ 0 ∷ []

sum_of_one_position : sum_upto quantities 0 ≡ 0
sum_of_one_position = refl

own_position_counts : sum_upto quantities 1 ≡ 300
own_position_counts = refl

sum_of_all : sum_upto quantities 4 ≡ 500
sum_of_all = refl

nothing_is_reached_at_once : IsFirstReaching quantities 0 0
nothing_is_reached_at_once = record { within = omega arith; reached = omega arith; first = λ k less. absurd (omega arith) }

reached_exactly : IsFirstReaching quantities 300 1
reached_exactly =
    record {
      within = omega arith;
      reached = omega arith;
      first = λ k less. let none : k ≡ 0 = omega arith in omega (arith, ap (sum_upto quantities) none);
    }

-- the tree over the quantities 1, 2 and 3: the root, its children, the leaves
abbrev sums : List ℕ
sums = 0 ∷ 6 ∷ 3 ∷ 3 ∷ 1 ∷ 2 ∷ 3 ∷ []

left_of_the_third : left_of sums 2 6 ≡ 3
unfolding left_of
left_of_the_third = refl

left_of_what_follows : left_of sums 2 7 ≡ 6
unfolding left_of
left_of_what_follows = refl

past_the_row : left_of sums 2 8 ≡ 6
unfolding left_of
past_the_row = refl

-- 5 has three binary digits
four_steps_for_five : TakesFewSteps 5 0 4
four_steps_for_five =
    record {
      some = omega arith;
      few = λ digits enough.
          elim (cases_lt digits 3) [
            | inl less ↦ let mono : 2 ^ digits ≤ 2 ^ 2 = pow_mono {i = digits} {j = 2} (omega arith) in absurd (omega arith)
            | inr more ↦ omega arith
          ];
    }

five_steps_are_too_many : TakesFewSteps 5 0 5 → ⊥
five_steps_are_too_many takes = let most : 5 ≤ 0 + 3 + 1 = takes.few 3 (omega arith) in omega arith

no_step_is_too_few : TakesFewSteps 5 7 7 → ⊥
no_step_is_too_few takes = omega (arith, takes.some)
