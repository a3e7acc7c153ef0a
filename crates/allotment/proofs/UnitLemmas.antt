-- Shares in trading units.
use Rattle.std.proofs.Common.{◌≡◌, ℕ, ◌+◌, ◌-◌, ◌*◌, ◌/◌, ◌%◌, min, max, inl, inr, List, [], ◌∷◌, All as Each, ap, ◌∙◌, arith}
use Rattle.std.specs.List.{fold}
use Rattle.std.proofs.Math.Nat.{dvd-add, dvd-sub, mul-mod_left, mod_self, zero-mod}
use Rattle.std.proofs.lemmas.Nat.Gcd.{dvd_of_mod-eq-zero, mod-eq-zero_of_dvd}
use Rattle.std.proofs.lemmas.Bool.Decides.{leb_tells}
use Rattle.std.proofs.lemmas.List.Elements.{All-cons, All-head, All-tail, All-weaker}
use Rattle.std.proofs.lemmas.List.Sorted.{All-permutation}
use Rattle.std.proofs.lemmas.List.Sums.{sum_by-cons}
use Rattle.allotment.specs.Allotment.{after_round, allot, amount, comes_before, given, shared, with_more}
use Rattle.allotment.specs.Laws.{SharesInUnits}
use Rattle.allotment.specs.Sorting.{sort_by}
use Rattle.allotment.specs.declared.demand.Demand.{Demand}
use Rattle.allotment.specs.declared.round.Round.{Round}
use Rattle.allotment.specs.declared.round.Round.TheVariants.{Units, Part, All}
use Rattle.allotment.proofs.LawLemmas.{then_round}
use Rattle.allotment.proofs.SortLemmas.{sort-permutes}

-- sums, differences, the lesser and the greater of numbers in units are in units
units-add : (unit a b : ℕ) → a % unit ≡ 0 → b % unit ≡ 0 → (a + b) % unit ≡ 0
units-add unit a b s t = mod-eq-zero_of_dvd unit (dvd-add unit (dvd_of_mod-eq-zero unit s) (dvd_of_mod-eq-zero unit t))

units-sub : (unit a b : ℕ) → a % unit ≡ 0 → b % unit ≡ 0 → (a - b) % unit ≡ 0
units-sub unit a b s t = mod-eq-zero_of_dvd unit (dvd-sub unit (dvd_of_mod-eq-zero unit s) (dvd_of_mod-eq-zero unit t))

units-min : (unit a b : ℕ) → a % unit ≡ 0 → b % unit ≡ 0 → min a b % unit ≡ 0
units-min unit a b s t = elim (leb_tells a b) [
  | inl h ↦ let e : min a b ≡ a = omega arith in ap (λ n. n % unit) e ∙ s
  | inr h ↦ let e : min a b ≡ b = omega arith in ap (λ n. n % unit) e ∙ t
]

units-max : (unit a b : ℕ) → a % unit ≡ 0 → b % unit ≡ 0 → max a b % unit ≡ 0
units-max unit a b s t = elim (leb_tells a b) [
  | inl h ↦ let e : max a b ≡ b = omega arith in ap (λ n. n % unit) e ∙ t
  | inr h ↦ let e : max a b ≡ a = omega arith in ap (λ n. n % unit) e ∙ s
]

-- what a round gives for a rest in units
amount-units : (round : Round) (unit rest : ℕ) → rest % unit ≡ 0 → amount round unit rest % unit ≡ 0
amount-units (Units k) unit rest s = mul-mod_left k unit
amount-units (Part n d) unit rest s = units-max unit unit (rest * n / d / unit * unit) (mod_self unit) (mul-mod_left (rest * n / d / unit) unit)
amount-units All unit rest s = s

-- asks and has in units
abbrev InUnits : ℕ → Demand → Type 0
InUnits unit d = (d.asked % unit ≡ 0) × (d.share % unit ≡ 0)

given-units : (round : Round) (unit left : ℕ) (d : Demand) → left % unit ≡ 0 → InUnits unit d → given round unit left d % unit ≡ 0
given-units round unit left d s h =
    let rest : (d.asked - d.share) % unit ≡ 0 = units-sub unit d.asked d.share h.0 h.1 in
    units-min unit (min (amount round unit (d.asked - d.share)) (d.asked - d.share)) left (units-min unit (amount round unit (d.asked - d.share)) (d.asked - d.share) (amount-units round unit (d.asked - d.share) rest) rest) s

-- a round keeps all in units
round-units : (round : Round) (unit left : ℕ) (ds : List Demand) → left % unit ≡ 0 → Each (InUnits unit) ds → Each (InUnits unit) (after_round round unit left ds)
unfolding after_round
round-units round unit left [] s h = h
round-units round unit left (d ∷ ds) s h =
    let here : InUnits unit d = All-head (InUnits unit) d ds h in
    let g : ℕ = given round unit left d in
    let gives : g % unit ≡ 0 = given-units round unit left d s here in
    All-cons (InUnits unit) (with_more g d) (after_round round unit (left - g) ds) (here.0, units-add unit d.share g here.1 gives)
    (round-units round unit (left - g) ds (units-sub unit left g s gives) (All-tail (InUnits unit) d ds h))

-- the shares together
shared-units : (unit : ℕ) (ds : List Demand) → Each (InUnits unit) ds → shared ds % unit ≡ 0
shared-units unit [] h = zero-mod unit
shared-units unit (d ∷ ds) h =
    ap (λ n. n % unit) (sum_by-cons (λ d. d.share) d ds) ∙ units-add unit d.share (shared ds) (All-head (InUnits unit) d ds h).1 (shared-units unit ds (All-tail (InUnits unit) d ds h))

-- all rounds
rounds-units : (rounds : List Round) (unit total : ℕ) (ds : List Demand) → total % unit ≡ 0 → Each (InUnits unit) ds → Each (InUnits unit) (fold (then_round unit total) ds rounds)
rounds-units [] unit total ds s h = h
rounds-units (r ∷ rounds) unit total ds s h = rounds-units rounds unit total (then_round unit total ds r) s (round-units r unit (total - shared ds) ds (units-sub unit total (shared ds) s (shared-units unit ds h)) h)

pub shares_in_units : SharesInUnits
unfolding allot
shares_in_units rounds unit demands total none asked s =
    let sorted = sort_by comes_before demands in
    let start : Each (InUnits unit) demands = λ k d l. (asked k d l, ap (λ n. n % unit) (none k d l) ∙ zero-mod unit) in
    All-weaker (InUnits unit) (λ d. d.share % unit ≡ 0) (λ d h. h.1) (fold (then_round unit total) sorted rounds)
    (rounds-units rounds unit total sorted s (All-permutation (InUnits unit) demands sorted (sort-permutes comes_before demands) start))
