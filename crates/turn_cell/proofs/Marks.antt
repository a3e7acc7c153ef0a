-- Lists of marks: beginnings, the marks of one caller, and what a turn adds.
use Rattle.std.proofs.Common.{◌≡◌, ℕ, suc, ◌≤◌, ◌≢◌, List, [], ◌∷◌, ◌++◌, length, drop, cond, eqb, eq-eqb, ne_eqb, sym, refl, ap, ◌∙◌, subst, arith, append_assoc, append-nil}
use Rattle.std.specs.Prelude.{All, Option, Some, None, Bool, true, false, nat_lt}
use Rattle.std.proofs.lemmas.List.{append_cancel_left}
use Rattle.std.proofs.lemmas.List.Elements.{filter-append, All-head, All-tail}
use Rattle.mkt_base.specs.declared.event.Entry.{Entry}
use Rattle.mkt_base.specs.declared.journal.Halt.{Halt}
use Rattle.turn_cell.specs.Marks.{marks_in, entries_in, halt_in, caller_of, marks_of, StartsTurn, Begins, IsLoss, IsTurn, own_mark, added_to, longer_of, shorter_of}
use Rattle.turn_cell.specs.declared.value.Mark.{Mark}
use Rattle.turn_cell.specs.declared.value.Mark.TheVariants.{Made, Ended}

pub marks_of-append : (c : ℕ) (a b : List Mark) → marks_of c (a ++ b) ≡ marks_of c a ++ marks_of c b
marks_of-append c a b = filter-append (λ m. eqb (caller_of m) c) a b

pub marks_of_hit : (c : ℕ) (m : Mark) (ms : List Mark) → caller_of m ≡ c → marks_of c (m ∷ ms) ≡ m ∷ marks_of c ms
marks_of_hit c m ms e = ap (λ b. cond b (m ∷ marks_of c ms) (marks_of c ms)) (eq-eqb (caller_of m) c e)

pub marks_of_miss : (c : ℕ) (m : Mark) (ms : List Mark) → caller_of m ≢ c → marks_of c (m ∷ ms) ≡ marks_of c ms
marks_of_miss c m ms n = ap (λ b. cond b (m ∷ marks_of c ms) (marks_of c ms)) (ne_eqb (caller_of m) c n)

pub begins_refl : (l : List Mark) → Begins l l
begins_refl l = ([], sym (append-nil l), tt)

pub starts_append : (a b : List Mark) → StartsTurn a → StartsTurn b → StartsTurn (a ++ b)
starts_append [] b ha hb = hb
starts_append (m ∷ ms) b ha hb = ha

pub starts_front : (a b : List Mark) → StartsTurn (a ++ b) → StartsTurn a
starts_front [] b h = tt
starts_front (m ∷ ms) b h = h

pub begins_trans : (a b c : List Mark) → Begins a b → Begins b c → Begins a c
begins_trans a b c p q = (
  p.0 ++ q.0,
  q.1 ∙ (ap (λ (l : List Mark). l ++ q.0) p.1 ∙ append_assoc a p.0 q.0),
  starts_append p.0 q.0 p.2 q.2,
)

-- of two beginnings of one list the shorter one begins the longer one
front : (a b r q : List Mark) → a ++ r ≡ b ++ q → length a ≤ length b → (d : List Mark) × (b ≡ a ++ d) × (r ≡ d ++ q)
front [] b r q e h = (b, refl, e)
front (x ∷ a) [] r q e h = absurd (omega arith)
front (x ∷ a) (y ∷ b) r q e h =
    let inner = front a b r q (ap (drop 1) e) (omega arith) in
    let head : x ≡ y = ap (λ (l : List Mark). first_or x l) e in
    (inner.0, (ap (λ (z : Mark). z ∷ b) (sym head) ∙ ap (λ (l : List Mark). x ∷ l) inner.1), inner.2)
  where
    first_or : Mark → List Mark → Mark
    first_or d [] = d
    first_or d (m ∷ ms) = m

begins_longer : (a b l : List Mark) → Begins a l → Begins b l → length a ≤ length b → Begins a b
begins_longer a b l p q h = let f = front a b p.0 q.0 (sym p.1 ∙ q.1) h in
    (f.0, f.1, starts_front f.0 q.0 (subst StartsTurn f.2 p.2))

pub shorter_begins : (a b l : List Mark) → Begins a l → Begins b l → Begins (shorter_of a b) (longer_of a b)
shorter_begins a b l p q = by_test (nat_lt (length a) (length b)) (grind (arith)) (grind (arith))
  where
    by_test : (t : Bool) → (t ≡ true → length a ≤ length b) → (t ≡ false → length b ≤ length a) → Begins (cond t a b) (cond t b a)
    by_test true lt ge = begins_longer a b l p q (lt refl)
    by_test false lt ge = begins_longer b a l q p (ge refl)

pub longer_begins : (a b l : List Mark) → Begins a l → Begins b l → Begins (longer_of a b) l
longer_begins a b l p q = by_test (nat_lt (length a) (length b))
  where
    by_test : (t : Bool) → Begins (cond t b a) l
    by_test true = q
    by_test false = p

-- each of two lists begins the longer one
pub left_begins : (a b l : List Mark) → Begins a l → Begins b l → Begins a (longer_of a b)
left_begins a b l p q = by_test (nat_lt (length a) (length b)) (grind (arith))
  where
    by_test : (t : Bool) → (t ≡ true → length a ≤ length b) → Begins a (cond t b a)
    by_test true lt = begins_longer a b l p q (lt refl)
    by_test false lt = begins_refl a

pub right_begins : (a b l : List Mark) → Begins a l → Begins b l → Begins b (longer_of a b)
right_begins a b l p q = by_test (nat_lt (length a) (length b)) (grind (arith))
  where
    by_test : (t : Bool) → (t ≡ false → length b ≤ length a) → Begins b (cond t b a)
    by_test true ge = begins_refl b
    by_test false ge = begins_longer b a l q p (ge refl)

-- a caller whose marks all stand in the front has none behind it
pub nothing_more : (c : ℕ) (a r l made : List Mark) → l ≡ a ++ r → marks_of c a ≡ made → marks_of c l ≡ made → marks_of c r ≡ []
nothing_more c a r l made e here all =
    append_cancel_left (marks_of c a) (marks_of c r) []
    (sym (marks_of-append c a r) ∙ (ap (marks_of c) (sym e) ∙ (all ∙ (sym here ∙ sym (append-nil (marks_of c a))))))

empty_front : (a b : List Mark) → a ++ b ≡ [] → a ≡ []
empty_front [] b e = refl
empty_front (m ∷ ms) b e = let n : suc (length (ms ++ b)) ≡ 0 = ap length e in absurd (omega arith)

-- a list between two that agree on a caller agrees with them
pub between : (c : ℕ) (a b l made : List Mark) → Begins a b → Begins b l → marks_of c a ≡ made → marks_of c l ≡ made → marks_of c b ≡ made
unfolding begins_trans
between c a b l made p q here all =
    let rest = nothing_more c a (p.0 ++ q.0) l made (begins_trans a b l p q).1 here all in
    let none : marks_of c p.0 ≡ [] = empty_front (marks_of c p.0) (marks_of c q.0) (sym (marks_of-append c p.0 q.0) ∙ rest) in
    ap (marks_of c) p.1 ∙ (marks_of-append c a p.0 ∙ (ap (λ (l : List Mark). marks_of c a ++ l) none ∙ (append-nil (marks_of c a) ∙ here)))

-- a caller without marks has none in a beginning
pub none_before : (c : ℕ) (a l : List Mark) → Begins a l → marks_of c l ≡ [] → marks_of c a ≡ []
none_before c a l p none = empty_front (marks_of c a) (marks_of c p.0) (sym (marks_of-append c a p.0) ∙ (ap (marks_of c) (sym p.1) ∙ none))

pub no_losses : (c : ℕ) (ms : List Mark) → c ≢ 0 → All IsLoss ms → marks_of c ms ≡ []
no_losses c [] n h = refl
no_losses c (Made e ∷ ms) n h =
    let zero_is : e.caller.0 ≡ 0 = All-head IsLoss (Made e) ms h in
    marks_of_miss c (Made e) ms (λ (same : e.caller.0 ≡ c). n (sym same ∙ zero_is)) ∙ no_losses c ms n (All-tail IsLoss (Made e) ms h)
no_losses c (Ended x ∷ ms) n h = absurd (All-head IsLoss (Ended x) ms h)

pub turn_starts : (c own : ℕ) (added : List Mark) → c ≢ 0 → IsTurn c own added → StartsTurn added
turn_starts c own [] n h = tt
turn_starts c own (Made e ∷ ms) n h = λ (z : e.caller.0 ≡ 0). n (sym h.0 ∙ z)
turn_starts c own (Ended x ∷ ms) n h = λ (z : x.caller.0 ≡ 0). n (sym h.0 ∙ z)

pub turn_own : (c own : ℕ) (added : List Mark) → c ≢ 0 → IsTurn c own added → marks_of c added ≡ own_mark added
turn_own c own [] n h = refl
turn_own c own (Made e ∷ ms) n h =
    marks_of_hit c (Made e) ms h.0 ∙ ap (λ (l : List Mark). Made e ∷ l) (no_losses c ms n h.2)
turn_own c own (Ended x ∷ ms) n h =
    marks_of_hit c (Ended x) ms h.0 ∙ ap (λ (l : List Mark). Ended x ∷ marks_of c l) h.2

pub turn_other : (c d own : ℕ) (added : List Mark) → d ≢ 0 → d ≢ c → IsTurn c own added → marks_of d added ≡ []
turn_other c d own [] n ne h = refl
turn_other c d own (Made e ∷ ms) n ne h =
    marks_of_miss d (Made e) ms (λ (same : e.caller.0 ≡ d). ne (sym same ∙ h.0)) ∙ no_losses d ms n h.2
turn_other c d own (Ended x ∷ ms) n ne h =
    marks_of_miss d (Ended x) ms (λ (same : x.caller.0 ≡ d). ne (sym same ∙ h.0)) ∙ ap (marks_of d) h.2

pub added_is : (a r l : List Mark) → l ≡ a ++ r → added_to a l ≡ r
added_is a r l e = ap (drop (length a)) e ∙ dropped a r
  where
    dropped : (a r : List Mark) → drop (length a) (a ++ r) ≡ r
    dropped [] r = refl
    dropped (x ∷ a) r = dropped a r

-- where no caller has a mark behind the front, nothing stands behind it
pub nobody_more : (a l : List Mark) → Begins a l → ((c : ℕ) → c ≢ 0 → marks_of c (added_to a l) ≡ []) → l ≡ a
nobody_more a l p none = by_rest p.0 p.1 p.2 (λ c n. ap (marks_of c) (sym (added_is a p.0 l p.1)) ∙ none c n)
  where
    by_rest : (r : List Mark) → l ≡ a ++ r → StartsTurn r → ((c : ℕ) → c ≢ 0 → marks_of c r ≡ []) → l ≡ a
    by_rest [] e s h = e ∙ append-nil a
    by_rest (m ∷ ms) e s h =
        let both : m ∷ marks_of (caller_of m) ms ≡ [] = sym (marks_of_hit (caller_of m) m ms refl) ∙ h (caller_of m) s in
        let n : suc (length (marks_of (caller_of m) ms)) ≡ 0 = ap length both in absurd (omega arith)

-- what there is to see of a journal
pub entries_in-made : (es : List Entry) (h : Option Halt) → entries_in (marks_in es h) ≡ es
entries_in-made [] None = refl
entries_in-made [] (Some h) = refl
entries_in-made (e ∷ es) h = ap (λ (l : List Entry). e ∷ l) (entries_in-made es h)

pub halt_in-made : (es : List Entry) (h : Option Halt) → halt_in (marks_in es h) ≡ h
halt_in-made [] None = refl
halt_in-made [] (Some h) = refl
halt_in-made (e ∷ es) h = halt_in-made es h
