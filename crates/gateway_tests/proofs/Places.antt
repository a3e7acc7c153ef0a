-- The places of the events that a desk has entered.
use Rattle.std.proofs.Common.{◌≡◌, ℕ, ◌+◌, ◌<◌, Bool, cond, List, [], ◌∷◌, length, nat_lt, refl, ap, ◌∙◌, arith}
use Rattle.std.proofs.lemmas.Bool.{lt-ltb}
use Rattle.std.proofs.lemmas.List.Elements.{All-head, All-tail}
use Rattle.std.proofs.lemmas.List.Sums.{sum_by-cons}
use Rattle.gateway_tests.specs.Entered.{AreWithin, entered_in}

-- all are in a front that they stand in
pub entered-all : (n : ℕ) (places : List ℕ) → AreWithin n places → entered_in n places ≡ length places
entered-all n [] within = refl
entered-all n (p ∷ places) within =
    let rest = entered-all n places (All-tail (λ (q : ℕ). q < n) p places within) in
    sum_by-cons (λ (q : ℕ). cond (nat_lt q n) 1 0) p places
    ∙ ap (λ (b : Bool). cond b 1 0 + entered_in n places) (lt-ltb p n (All-head (λ (q : ℕ). q < n) p places within)) ∙ omega (arith, rest)
