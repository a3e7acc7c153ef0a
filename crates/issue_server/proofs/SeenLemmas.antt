-- Lists of marks: the entries among them, and the halt.
use Rattle.std.proofs.Common.{◌≡◌, ◌≢◌, ℕ, suc, ◌+◌, List, [], ◌∷◌, ◌++◌, length, drop, map, cond, eqb, sym, refl, ap, ◌∙◌, subst, arith, append-nil}
use Rattle.std.specs.Prelude.{All, Bool, true, false, Option, Some, None}
use Rattle.std.proofs.lemmas.List.{map-append}
use Rattle.std.proofs.lemmas.List.Elements.{All-cons}
use Rattle.mkt_base.specs.declared.event.Entry.{Entry}
use Rattle.mkt_base.specs.declared.journal.Halt.{Halt}
use Rattle.turn_cell.specs.Marks.{marks_in, entries_in, halt_in, marks_of, end_of, Begins, IsLoss}
use Rattle.turn_cell.specs.declared.value.Mark.{Mark}
use Rattle.turn_cell.specs.declared.value.Mark.TheVariants.{Made, Ended}
use Rattle.turn_cell.proofs.Marks.{entries_in-made, halt_in-made, marks_of_hit, nothing_more}
use Rattle.issue_machine.specs.History.{entries_by}
use Rattle.turn_writer.specs.Losses.{losses_from}

-- ---- entries

pub entries_in-append : (a b : List Mark) → entries_in (a ++ b) ≡ entries_in a ++ entries_in b
entries_in-append [] b = refl
entries_in-append (Made e ∷ a) b = ap (λ (l : List Entry). e ∷ l) (entries_in-append a b)
entries_in-append (Ended h ∷ a) b = entries_in-append a b

-- the entries of a caller are those among its marks
pub entries_in-of : (c : ℕ) (ms : List Mark) → entries_in (marks_of c ms) ≡ entries_by c (entries_in ms)
entries_in-of c [] = refl
entries_in-of c (Made e ∷ ms) = by_test (eqb e.caller.0 c) (entries_in-of c ms)
  where
    by_test : (t : Bool) → entries_in (marks_of c ms) ≡ entries_by c (entries_in ms)
        → entries_in (cond t (Made e ∷ marks_of c ms) (marks_of c ms)) ≡ cond t (e ∷ entries_by c (entries_in ms)) (entries_by c (entries_in ms))
    by_test true h = ap (λ (l : List Entry). e ∷ l) h
    by_test false h = h
entries_in-of c (Ended x ∷ ms) = by_test (eqb x.caller.0 c) (entries_in-of c ms)
  where
    by_test : (t : Bool) → entries_in (marks_of c ms) ≡ entries_by c (entries_in ms)
        → entries_in (cond t (Ended x ∷ marks_of c ms) (marks_of c ms)) ≡ entries_by c (entries_in ms)
    by_test true h = h
    by_test false h = h

-- entries more, where no halt is
pub marks_in-more : (es more : List Entry) → marks_in (es ++ more) None ≡ marks_in es None ++ map Made more
marks_in-more es more =
    append-nil (map Made (es ++ more)) ∙ (map-append Made es more ∙ ap (λ (l : List Mark). l ++ map Made more) (sym (append-nil (map Made es))))

-- and the halt
pub marks_in-halted : (es : List Entry) (h : Halt) → marks_in es (Some h) ≡ marks_in es None ++ Ended h ∷ []
marks_in-halted es h = ap (λ (l : List Mark). l ++ Ended h ∷ []) (sym (append-nil (map Made es)))

-- the entries of losses are losses
loss-head : (place own k : ℕ) (more : List ℕ) → All IsLoss (map Made (losses_from (place + 1) (own + 1) more)) → All IsLoss (map Made (losses_from place own (k ∷ more)))
loss-head place own k more rest = All-cons IsLoss _ _ refl rest

pub losses-lost : (place own : ℕ) (lost : List ℕ) → All IsLoss (map Made (losses_from place own lost))
losses-lost place own [] = λ k d h. absurd (omega arith)
losses-lost place own (k ∷ more) = loss-head place own k more (losses-lost (place + 1) (own + 1) more)

-- ---- halts

pub halt_in-front : (a r : List Mark) (h : Halt) → halt_in a ≡ Some h → halt_in (a ++ r) ≡ Some h
halt_in-front [] r h e = absurd (cc)
halt_in-front (Made x ∷ a) r h e = halt_in-front a r h e
halt_in-front (Ended x ∷ a) r h e = e

pub halt_in-behind : (a r : List Mark) → halt_in a ≡ None → halt_in (a ++ r) ≡ halt_in r
halt_in-behind [] r e = refl
halt_in-behind (Made x ∷ a) r e = halt_in-behind a r e
halt_in-behind (Ended x ∷ a) r e = absurd (cc)

empty-behind : (a r : List Mark) → length (a ++ r) ≡ 0 → r ≡ []
empty-behind [] [] e = refl
empty-behind [] (m ∷ r) e = absurd (omega arith)
empty-behind (m ∷ a) r e = absurd (omega arith)

-- nothing stands behind the halt of a journal
pub halt_in-last : (es : List Entry) (end : Option Halt) (a r : List Mark) (h : Halt) → marks_in es end ≡ a ++ r → halt_in a ≡ Some h → r ≡ []
halt_in-last es end [] r h is e = absurd (cc)
halt_in-last [] None (m ∷ a) r h is e = absurd (let n : 0 ≡ suc (length (a ++ r)) = ap length is in omega arith)
halt_in-last [] (Some x) (m ∷ a) r h is e = empty-behind a r (let n : 1 ≡ suc (length (a ++ r)) = ap length is in omega arith)
halt_in-last (x ∷ es) end (Made y ∷ a) r h is e = halt_in-last es end a r h (ap (drop 1) is) e
halt_in-last (x ∷ es) end (Ended y ∷ a) r h is e = absurd (cc)

-- the halt that a list has is a mark of its caller
pub halt-marked : (c : ℕ) (l : List Mark) (h : Halt) → halt_in l ≡ Some h → h.caller.0 ≡ c → marks_of c l ≡ [] → ⊥
halt-marked c [] h e same none = cc
halt-marked c (Made x ∷ l) h e same none = halt-marked c l h e same (by_test (eqb x.caller.0 c) none)
  where
    by_test : (t : Bool) → cond t (Made x ∷ marks_of c l) (marks_of c l) ≡ [] → marks_of c l ≡ []
    by_test true n = absurd (let k : suc (length (marks_of c l)) ≡ 0 = ap length n in omega arith)
    by_test false n = n
halt-marked c (Ended x ∷ l) h e same none =
    let is : x ≡ h = ap (λ (o : Option Halt). or_halt x o) e in
    let hit : marks_of c (Ended x ∷ l) ≡ Ended x ∷ marks_of c l = marks_of_hit c (Ended x) l (ap (λ (z : Halt). z.caller.0) is ∙ same) in
    let k : 0 ≡ suc (length (marks_of c l)) = ap length (sym none ∙ hit) in
    omega arith
  where
    or_halt : Halt → Option Halt → Halt
    or_halt d None = d
    or_halt d (Some z) = z

-- a halt that only the longer of two lists has is not of a caller whose marks both have
pub halt-of_others : (c : ℕ) (a l made : List Mark) → Begins a l → marks_of c a ≡ made → marks_of c l ≡ made → halt_in a ≡ None
    → (h : Halt) → halt_in l ≡ Some h → h.caller.0 ≢ c
halt-of_others c a l made p here all none h is = λ (same : h.caller.0 ≡ c).
    halt-marked c p.0 h (sym (halt_in-behind a p.0 none) ∙ (ap halt_in (sym p.1) ∙ is)) same (nothing_more c a p.0 l made p.1 here all)

-- ---- journals

-- the marks of a journal and its halt are those of what is read off them
pub journal-seen : (es : List Entry) (h : Option Halt) (ms : List Mark) → ms ≡ marks_in es h → ms ≡ marks_in (entries_in ms) (halt_in ms)
journal-seen es h ms is =
    subst (λ (k : List Mark). k ≡ marks_in (entries_in k) (halt_in k)) (sym is)
    (sym (ap (λ (l : List Entry). marks_in l (halt_in (marks_in es h))) (entries_in-made es h) ∙ ap (λ (o : Option Halt). marks_in es o) (halt_in-made es h)))
