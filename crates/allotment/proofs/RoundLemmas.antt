-- Lemmas on what a round gives.
use Rattle.std.proofs.Common.{◌≡◌, ℕ, zero, suc, ◌+◌, ◌-◌, ◌*◌, ◌/◌, ◌%◌, ◌<◌, ◌≤◌, min, List, [], ◌∷◌, ◌++◌, length, get_or, take, drop, All, refl, sym, ap, ◌∙◌, arith, add-one, append-nil, length-set, take_all}
use Rattle.std.proofs.Math.ListN.{set}
use Rattle.std.proofs.Math.Nat.{add-mul-div_left}
use Rattle.std.proofs.lemmas.Nat.{div-add-mod'}
use Rattle.std.proofs.lemmas.List.{drop_all}
use Rattle.std.proofs.lemmas.List.Elements.{All-set}
use Rattle.std.proofs.lemmas.List.Sums.{sum_by-set}
use Rattle.allotment.specs.Allotment.{after_round, amount, given, shared, with_more}
use Rattle.allotment.specs.declared.demand.Demand.{Demand}
use Rattle.allotment.specs.declared.round.Round.{Round}

-- a part of a number by the parts of its quotient and its remainder
pub part-is : (w n d : ℕ) → 0 < d → w / d * n + w % d * n / d ≡ w * n / d
part-is w n d h =
    let q : ℕ = w / d in
    let r : ℕ = w % d in
    let whole : q * d + r ≡ w = div-add-mod' w d in
    let e : w * n ≡ r * n + d * (q * n) = regroup q r w n d whole in
    let f : (r * n + d * (q * n)) / d ≡ r * n / d + q * n = add-mul-div_left (r * n) (q * n) h in
    omega (arith, ap (λ x. x / d) e, f)
  where
    regroup : (q r w n d : ℕ) → q * d + r ≡ w → w * n ≡ r * n + d * (q * n)
    regroup q r w n d e = ap (λ x. x * n) (sym e) ∙ grind arith

-- what is given is within the rest and within what is left
pub given-fits : (round : Round) (unit left : ℕ) (d : Demand) → (given round unit left d ≤ d.asked - d.share) × (given round unit left d ≤ left)
given-fits round unit left d = at (amount round unit (d.asked - d.share)) (d.asked - d.share)
  where
    at : (most lacks : ℕ) → (min (min most lacks) left ≤ lacks) × (min (min most lacks) left ≤ left)
    at most lacks = (omega arith, omega arith)

-- the demand at n is given its part, and the round goes on behind it
turn : (round : Round) (unit left : ℕ) (xs : List Demand) (n : ℕ) (d : Demand) → n < length xs
    → take (suc n) (set xs n (with_more (given round unit left (get_or xs n d)) (get_or xs n d)))
    ++ after_round round unit (left - given round unit left (get_or xs n d)) (drop (suc n) (set xs n (with_more (given round unit left (get_or xs n d)) (get_or xs n d))))
    ≡ take n xs ++ after_round round unit left (drop n xs)
unfolding after_round
turn round unit left [] n d l = absurd (omega arith)
turn round unit left (x ∷ xs) zero d l = refl
turn round unit left (x ∷ xs) (suc n) d l = ap (λ zs. x ∷ zs) (turn round unit left xs n d (omega arith))

-- A round at work: behind the first i demands it still does what it was to do, nothing is lost of what is left, and no
-- share is above what was asked.
pub record IsSharing (round : Round) (unit total : ℕ) (start : List Demand) (i left : ℕ) (demands : List Demand) : Type 0 where
  pub same_length : length demands ≡ length start
  pub goes_on : take i demands ++ after_round round unit left (drop i demands) ≡ after_round round unit total start
  pub adds_up : left + shared demands ≡ total + shared start
  pub within : All (λ d. d.share ≤ d.asked) demands

-- one demand more
pub sharing-more : (round : Round) (unit total : ℕ) (start : List Demand) (i left : ℕ) (demands : List Demand) (g : ℕ) (after d : Demand) → i < length start
    → g ≡ given round unit left (get_or demands i d) → after ≡ with_more g (get_or demands i d)
    → IsSharing round unit total start i left demands → IsSharing round unit total start (i + 1) (left - g) (set demands i after)
sharing-more round unit total start i left demands g after d in_start gives is h =
    let l : i < length demands = omega (arith, h.same_length) in
    let here : Demand = get_or demands i d in
    let fits = given-fits round unit left here in
    let before : here.share ≤ here.asked = h.within i d l in
    let now : after ≡ with_more (given round unit left here) here = is ∙ ap (λ n. with_more n here) gives in
    let share : after.share ≡ here.share + g = ap (λ x. x.share) is in
    let asked : after.asked ≡ here.asked = ap (λ x. x.asked) is in
    let sums : shared (set demands i after) + here.share ≡ shared demands + after.share = sum_by-set (λ x. x.share) demands i after d l in
    record {
      same_length = length-set demands i after ∙ h.same_length;
      goes_on =
          ap (λ m. take m (set demands i after) ++ after_round round unit (left - g) (drop m (set demands i after))) (add-one i)
          ∙ ap (λ m. take (suc i) (set demands i after) ++ after_round round unit (left - m) (drop (suc i) (set demands i after))) gives
          ∙ ap (λ x. take (suc i) (set demands i x) ++ after_round round unit (left - given round unit left here) (drop (suc i) (set demands i x))) now
          ∙ turn round unit left demands i d l ∙ h.goes_on;
      adds_up = omega (arith, sums, share, gives, fits.1, h.adds_up);
      within = All-set (λ x. x.share ≤ x.asked) demands i after (omega (arith, fits.0, before, share, asked, gives)) h.within;
    }

-- behind the last demand
pub sharing-done : (round : Round) (unit total : ℕ) (start : List Demand) (i left : ℕ) (demands : List Demand) → length start ≤ i
    → IsSharing round unit total start i left demands → demands ≡ after_round round unit total start
unfolding after_round
sharing-done round unit total start i left demands behind h =
    let l : length demands ≤ i = omega (arith, h.same_length) in
    sym (append-nil demands)
    ∙ ap (λ xs. xs ++ []) (sym (take_all i demands l))
    ∙ ap (λ xs. take i demands ++ after_round round unit left xs) (sym (drop_all i demands l))
    ∙ h.goes_on
