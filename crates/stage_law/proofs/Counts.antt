-- How many entries of a caller stand in a front part of a journal.
use Rattle.std.proofs.Common.{◌≡◌, ℕ, zero, suc, ◌==◌, ◌≤◌, Bool, true, false, cond, List, [], ◌∷◌, ◌++◌, length, take, Some, sym, ap, subst, ◌∙◌, arith, append-nil, append_assoc, eq-eqb}
use Rattle.std.specs.List.{slice_get}
use Rattle.std.proofs.lemmas.Option.{none-some, same_Some}
use Rattle.mkt_base.specs.declared.event.Entry.{Entry}
use Rattle.issue_machine.specs.History.{FollowOn, entries_by}
use Rattle.run_law.specs.Run.{count_of}

-- no fewer in a longer front part, and in the whole
pub count-grows : (g m n : ℕ) (journal : List Entry) → m ≤ n → count_of g (take m journal) ≤ count_of g (take n journal)
count-grows g zero n journal less = omega arith
count-grows g (suc m) zero journal less = absurd (omega (arith, less))
count-grows g (suc m) (suc n) [] less = omega arith
count-grows g (suc m) (suc n) (e ∷ journal) less = by (count-grows g m n journal (omega (arith, less))) (e.caller.0 == g)
  where
    by : count_of g (take m journal) ≤ count_of g (take n journal) → (b : Bool)
        → length (cond b (e ∷ entries_by g (take m journal)) (entries_by g (take m journal))) ≤ length (cond b (e ∷ entries_by g (take n journal)) (entries_by g (take n journal)))
    by rest true = omega (arith, rest)
    by rest false = rest

pub count-within : (g n : ℕ) (journal : List Entry) → count_of g (take n journal) ≤ count_of g journal
count-within g zero journal = omega arith
count-within g (suc n) [] = omega arith
count-within g (suc n) (e ∷ journal) = by (count-within g n journal) (e.caller.0 == g)
  where
    by : count_of g (take n journal) ≤ count_of g journal → (b : Bool) → length (cond b (e ∷ entries_by g (take n journal)) (entries_by g (take n journal))) ≤ length (cond b (e ∷ entries_by g journal) (entries_by g journal))
    by rest true = omega (arith, rest)
    by rest false = rest

-- one more behind an entry of its own
pub count-next : (g n : ℕ) (journal : List Entry) (e : Entry) → slice_get journal n ≡ Some e → e.caller.0 ≡ g → count_of g (take (suc n) journal) ≡ suc (count_of g (take n journal))
count-next g n [] e at mine = absurd (none-some e at)
count-next g zero (f ∷ journal) e at mine =
    let own : f.caller.0 ≡ g = ap (λ (x : Entry). x.caller.0) (same_Some f e at) ∙ mine in
    ap (λ (b : Bool). length (cond b (f ∷ []) [])) (eq-eqb f.caller.0 g own)
count-next g (suc n) (f ∷ journal) e at mine = by (count-next g n journal e at mine) (f.caller.0 == g)
  where
    by : count_of g (take (suc n) journal) ≡ suc (count_of g (take n journal)) → (b : Bool)
        → length (cond b (f ∷ entries_by g (take (suc n) journal)) (entries_by g (take (suc n) journal))) ≡ suc (length (cond b (f ∷ entries_by g (take n journal)) (entries_by g (take n journal))))
    by rest true = ap suc rest
    by rest false = rest

-- an entry's own number is how many of its caller stand before it
pub own-is : (participants : ℕ) (before es : List Entry) (n : ℕ) (e : Entry) → FollowOn participants before es → slice_get es n ≡ Some e → e.own ≡ count_of e.caller.0 (before ++ take n es)
own-is participants before [] n e on at = absurd (none-some e at)
own-is participants before (f ∷ es) zero e on at =
    let here : f.own ≡ count_of f.caller.0 (before ++ []) = on.0.own ∙ ap (count_of f.caller.0) (sym (append-nil before)) in
    subst (λ (x : Entry). x.own ≡ count_of x.caller.0 (before ++ [])) (same_Some f e at) here
own-is participants before (f ∷ es) (suc n) e on at =
    own-is participants (before ++ f ∷ []) es n e on.1 at ∙ ap (count_of e.caller.0) (append_assoc before (f ∷ []) (take n es))
