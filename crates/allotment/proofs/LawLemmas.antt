-- What rounds keep, what they give, and the laws of an allotment.
use Rattle.std.proofs.Common.{◌≡◌, ℕ, zero, suc, ◌+◌, ◌-◌, ◌<◌, ◌≤◌, min, List, [], ◌∷◌, length, get_or, drop, Option, Some, None, All as Each, refl, sym, ap, ◌∙◌, arith}
use Rattle.std.specs.List.{fold, last_or}
use Rattle.std.proofs.lemmas.List.{drop_more}
use Rattle.std.proofs.lemmas.List.Elements.{All-cons, All-head, All-tail, All-weaker}
use Rattle.std.proofs.lemmas.List.Sorted.{All-permutation, sum_by-IsPermutation}
use Rattle.std.proofs.lemmas.List.Sums.{sum_by-cons}
use Rattle.allotment.specs.Allotment.{after_round, allot, asked_in_all, comes_before, given, shared, with_more}
use Rattle.allotment.specs.Laws.{AcceptedRoundsServe, NoneGetsMore, SharesAddUp}
use Rattle.allotment.specs.Sorting.{sort_by}
use Rattle.allotment.specs.declared.demand.Demand.{Demand}
use Rattle.allotment.specs.declared.round.Round.{Round}
use Rattle.allotment.specs.declared.round.Round.TheVariants.{All}
use Rattle.allotment.proofs.SortLemmas.{sort-permutes}
use Rattle.allotment.proofs.RoundLemmas.{given-fits}

-- no share is above what was asked for
abbrev pub Within : List Demand → Type 0
Within demands = Each (λ d. d.share ≤ d.asked) demands

-- ---- one round

-- it keeps every share within what was asked for
pub round-within : (round : Round) (unit left : ℕ) (ds : List Demand) → Within ds → Within (after_round round unit left ds)
unfolding after_round
round-within round unit left [] h = h
round-within round unit left (d ∷ ds) h =
    let here : d.share ≤ d.asked = All-head (λ d. d.share ≤ d.asked) d ds h in
    All-cons (λ d. d.share ≤ d.asked) (with_more (given round unit left d) d) (after_round round unit (left - given round unit left d) ds)
    (omega (arith, (given-fits round unit left d).0)) (round-within round unit (left - given round unit left d) ds (All-tail (λ d. d.share ≤ d.asked) d ds h))

-- and what was asked for
pub round-asked : (round : Round) (unit left : ℕ) (ds : List Demand) → asked_in_all (after_round round unit left ds) ≡ asked_in_all ds
unfolding after_round
round-asked round unit left [] = refl
round-asked round unit left (d ∷ ds) =
    let f : Demand → ℕ = λ d. d.asked in
    sum_by-cons f (with_more (given round unit left d) d) (after_round round unit (left - given round unit left d) ds)
    ∙ ap (λ n. d.asked + n) (round-asked round unit (left - given round unit left d) ds) ∙ sym (sum_by-cons f d ds)

-- it gives no more than is left
pub round-gives : (round : Round) (unit left : ℕ) (ds : List Demand) → shared (after_round round unit left ds) ≤ shared ds + left
unfolding after_round
round-gives round unit left [] = omega arith
round-gives round unit left (d ∷ ds) =
    let f : Demand → ℕ = λ d. d.share in
    let g : ℕ = given round unit left d in
    omega (arith, sum_by-cons f (with_more g d) (after_round round unit (left - g) ds), sum_by-cons f d ds, round-gives round unit (left - g) ds, (given-fits round unit left d).1)

-- no more is given out in all than was asked for
within-in_all : (ds : List Demand) → Within ds → shared ds ≤ asked_in_all ds
within-in_all [] h = omega arith
within-in_all (d ∷ ds) h =
    let here : d.share ≤ d.asked = All-head (λ d. d.share ≤ d.asked) d ds h in
    omega (arith, sum_by-cons (λ d. d.share) d ds, sum_by-cons (λ d. d.asked) d ds, within-in_all ds (All-tail (λ d. d.share ≤ d.asked) d ds h))

-- a round that gives all that is lacking gives all that is left, where no more is left than is lacking
pub all-gives : (unit left : ℕ) (ds : List Demand) → Within ds → shared ds + left ≤ asked_in_all ds → shared (after_round All unit left ds) ≡ shared ds + left
unfolding after_round
all-gives unit left [] h l = omega arith
all-gives unit left (d ∷ ds) h l =
    let f : Demand → ℕ = λ d. d.share in
    let a : Demand → ℕ = λ d. d.asked in
    let here : d.share ≤ d.asked = All-head (λ d. d.share ≤ d.asked) d ds h in
    let others : Within ds = All-tail (λ d. d.share ≤ d.asked) d ds h in
    let g : ℕ = min (min (d.asked - d.share) (d.asked - d.share)) left in
    let s : shared (d ∷ ds) ≡ d.share + shared ds = sum_by-cons f d ds in
    let t : asked_in_all (d ∷ ds) ≡ d.asked + asked_in_all ds = sum_by-cons a d ds in
    let u : shared ds ≤ asked_in_all ds = within-in_all ds others in
    let i : shared (after_round All unit (left - g) ds) ≡ shared ds + (left - g) = all-gives unit (left - g) ds others (omega arith) in
    omega (arith, sum_by-cons f (with_more g d) (after_round All unit (left - g) ds))

-- ---- all rounds

-- the demands after one round more
abbrev pub then_round : ℕ → ℕ → List Demand → Round → List Demand
then_round unit total ds round = after_round round unit (total - shared ds) ds

pub rounds-within : (rounds : List Round) (unit total : ℕ) (ds : List Demand) → Within ds → Within (fold (then_round unit total) ds rounds)
rounds-within [] unit total ds h = h
rounds-within (r ∷ rounds) unit total ds h = rounds-within rounds unit total (then_round unit total ds r) (round-within r unit (total - shared ds) ds h)

-- the last round brings the shares to the total
pub rounds-add_up : (rounds : List Round) (last : Option Round) (unit total : ℕ) (ds : List Demand) → Within ds → shared ds ≤ total → total ≤ asked_in_all ds
    → last_or last rounds ≡ Some All → (last ≡ Some All → shared ds ≡ total) → shared (fold (then_round unit total) ds rounds) ≡ total
rounds-add_up [] last unit total ds h s t ends done = done ends
rounds-add_up (r ∷ rounds) last unit total ds h s t ends done =
    let left : ℕ = total - shared ds in
    rounds-add_up rounds (Some r) unit total (after_round r unit left ds) (round-within r unit left ds h)
    (omega (arith, round-gives r unit left ds))
    (omega (arith, round-asked r unit left ds))
    ends
    (λ e.
    let is_all : r ≡ All = cc in
    let all : shared (after_round All unit left ds) ≡ shared ds + left = all-gives unit left ds h (omega arith) in
    ap (λ r. shared (after_round r unit left ds)) is_all ∙ omega arith)

-- ---- the laws

-- the last item, by its place
last-at : {X : Type 0} (before : Option X) (xs : List X) (k : ℕ) (d : X) → k + 1 ≡ length xs → last_or before xs ≡ Some (get_or xs k d)
last-at before [] k d e = absurd (omega arith)
last-at before (x ∷ []) zero d e = refl
last-at before (x ∷ []) (suc k) d e = absurd (omega arith)
last-at before (x ∷ y ∷ ys) zero d e = absurd (omega arith)
last-at before (x ∷ y ∷ ys) (suc k) d e = last-at (Some x) (y ∷ ys) k d (omega arith)

-- rounds of a rules file have what an allotment asks of them
pub accepted_rounds_serve : AcceptedRoundsServe
accepted_rounds_serve rounds h =
    let k : ℕ = length rounds - 1 in
    let here : k < length rounds = omega (arith, h.some) in
    let last : k + 1 ≡ length rounds = omega (arith, h.some) in
    (h.each, last-at None rounds k All last ∙ ap Some ((h.ends k All here).1 last))

-- in order, the demands are still within what they asked for, where they have no shares yet
sorted-within : (ds : List Demand) → Each (λ d. d.share ≡ 0) ds → Within (sort_by comes_before ds)
sorted-within ds h = All-permutation (λ d. d.share ≤ d.asked) ds (sort_by comes_before ds) (sort-permutes comes_before ds) (All-weaker (λ d. d.share ≡ 0) (λ d. d.share ≤ d.asked) (λ d e. omega arith) ds h)

-- no shares are given out yet
none-shared : (ds : List Demand) → Each (λ d. d.share ≡ 0) ds → shared ds ≡ 0
none-shared [] h = refl
none-shared (d ∷ ds) h =
    let here : d.share ≡ 0 = All-head (λ d. d.share ≡ 0) d ds h in
    omega (arith, sum_by-cons (λ d. d.share) d ds, none-shared ds (All-tail (λ d. d.share ≡ 0) d ds h))

pub none_gets_more : NoneGetsMore
unfolding allot
none_gets_more rounds unit demands total h = rounds-within rounds unit total (sort_by comes_before demands) (sorted-within demands h)

pub shares_add_up : SharesAddUp
unfolding allot
shares_add_up rounds unit demands total h ends enough =
    let perm = sort-permutes comes_before demands in
    rounds-add_up rounds None unit total (sort_by comes_before demands) (sorted-within demands h)
    (omega (arith, sum_by-IsPermutation (λ d. d.share) demands (sort_by comes_before demands) perm, none-shared demands h))
    (omega (arith, sum_by-IsPermutation (λ d. d.asked) demands (sort_by comes_before demands) perm))
    ends (λ e. absurd (cc))

-- ---- the loop over the rounds

-- An allotment at work: the rounds from the i-th on do what is still to be done, nothing of the total is lost, and no share
-- is above what was asked for.
pub record IsAllotting (rounds : List Round) (unit : ℕ) (start : List Demand) (total i left : ℕ) (demands : List Demand) : Type 0 where
  pub goes_on : fold (then_round unit total) demands (drop i rounds) ≡ allot rounds unit start total
  pub adds_up : left + shared demands ≡ total
  pub within : Within demands

-- before the first round
pub allotting-starts : (rounds : List Round) (unit : ℕ) (start : List Demand) (total : ℕ) (demands : List Demand) → Each (λ d. d.share ≡ 0) start
    → demands ≡ sort_by comes_before start → IsAllotting rounds unit start total 0 total demands
unfolding allot
allotting-starts rounds unit start total demands h is = record {
  goes_on = ap (λ ds. fold (then_round unit total) ds rounds) is;
  adds_up = omega (arith, ap shared is, sum_by-IsPermutation (λ d. d.share) start (sort_by comes_before start) (sort-permutes comes_before start), none-shared start h);
  within = rw is (sorted-within start h);
}

-- one round more
pub allotting-more : (rounds : List Round) (unit : ℕ) (start : List Demand) (total i left left' : ℕ) (demands new : List Demand) (d : Round) → i < length rounds
    → new ≡ after_round (get_or rounds i d) unit left demands → left' + shared new ≡ left + shared demands
    → IsAllotting rounds unit start total i left demands → IsAllotting rounds unit start total (i + 1) left' new
allotting-more rounds unit start total i left left' demands new d l is sums h = record {
  goes_on =
      ap (λ ds. fold (then_round unit total) ds (drop (i + 1) rounds))
      (is ∙ ap (λ n. after_round (get_or rounds i d) unit n demands) (let e : left ≡ total - shared demands = omega (arith, h.adds_up) in e))
      ∙ sym (ap (fold (then_round unit total) demands) (drop_more rounds i d l)) ∙ h.goes_on;
  adds_up = sums ∙ h.adds_up;
  within = rw is (round-within (get_or rounds i d) unit left demands h.within);
}
