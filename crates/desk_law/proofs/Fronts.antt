-- Front parts of a journal by whole turns, and whose entries a journal has.
use Rattle.std.proofs.Common.{◌≡◌, ◌≢◌, ℕ, zero, suc, ◌<◌, ◌≤◌, ◌⊎◌, inl, inr, ◌==◌, Bool, true, false, cond, List, [], ◌∷◌, ◌++◌, length, Option, Some, None, IfSome, All, refl, sym, subst, ◌∙◌, arith, append_assoc, eq-eqb, slice_get}
use Rattle.std.proofs.lemmas.Bool.{cases_lt}
use Rattle.std.proofs.lemmas.List.Elements.{All-cons, All-nil}
use Rattle.mkt_base.specs.declared.event.Entry.{Entry}
use Rattle.mkt_base.specs.declared.journal.Halt.{Halt}
use Rattle.turn_cell.specs.Marks.{StartsTurn, entries_in, halt_in, marks_in}
use Rattle.turn_cell.specs.declared.value.Mark.{Mark}
use Rattle.turn_cell.specs.declared.value.Mark.TheVariants.{Made, Ended}
use Rattle.issue_machine.specs.History.{entries_by}
use Rattle.issue_server.proofs.SeenLemmas.{halt_in-behind, halt_in-front, halt_in-last}

-- the item at a place within a front part, or the first one behind it
pub get-front : {X : Type 0} (P : X → Type 0) (xs ys : List X) (n : ℕ) → n ≤ length xs → IfSome (slice_get xs n) P → IfSome (slice_get ys 0) P → IfSome (slice_get (xs ++ ys) n) P
get-front P [] ys zero within first next = next
get-front P [] ys (suc n) within first next = absurd (omega (arith, within))
get-front P (x ∷ xs) ys zero within first next = first
get-front P (x ∷ xs) ys (suc n) within first next = get-front P xs ys n (omega (arith, within)) first next

-- a gateway entered it
abbrev pub IsCalled : Entry → Type 0
IsCalled e = 1 ≤ e.caller.0

-- nothing stands behind a halt
none-behind : (front rest : List Mark) (h : Halt) (es : List Entry) (halt : Option Halt) → front ++ Ended h ∷ rest ≡ marks_in es halt → rest ≡ []
none-behind front rest h es halt is = by (halt_in front) refl (sym is ∙ sym (append_assoc front (Ended h ∷ []) rest))
  where
    by : (o : Option Halt) → halt_in front ≡ o → marks_in es halt ≡ (front ++ Ended h ∷ []) ++ rest → rest ≡ []
    by None none all = halt_in-last es halt (front ++ Ended h ∷ []) rest h all (halt_in-behind front (Ended h ∷ []) none)
    by (Some first) some all = halt_in-last es halt (front ++ Ended h ∷ []) rest first all (halt_in-front front (Ended h ∷ []) first some)

-- behind whole turns a journal goes on with a gateway's entry, if with any
pub next-called : (front rest : List Mark) (es : List Entry) (halt : Option Halt) → front ++ rest ≡ marks_in es halt → StartsTurn rest → IfSome (slice_get (entries_in rest) 0) IsCalled
next-called front [] es halt is starts = tt
next-called front (Made e ∷ rest) es halt is starts = some e.caller.0 starts
  where
    some : (n : ℕ) → n ≢ 0 → 1 ≤ n
    some zero none = absurd (none refl)
    some (suc n) none = omega arith
next-called front (Ended h ∷ rest) es halt is starts =
    subst (λ (ms : List Mark). IfSome (slice_get (entries_in ms) 0) IsCalled) (sym (none-behind front rest h es halt is)) tt

-- where no caller above a number has an entry, all entries are of callers up to it
pub callers-within : (n : ℕ) (journal : List Entry) → ((g : ℕ) → n < g → entries_by g journal ≡ []) → All (λ (e : Entry). e.caller.0 ≤ n) journal
callers-within n [] none = All-nil (λ (e : Entry). e.caller.0 ≤ n)
callers-within n (e ∷ journal) none =
    All-cons (λ (x : Entry). x.caller.0 ≤ n) e journal (head (cases_lt n e.caller.0)) (callers-within n journal (λ g above. rest g (e.caller.0 == g) (none g above)))
  where
    never : (x : Entry) (xs : List Entry) → x ∷ xs ≡ [] → ⊥
    never x xs is = cc

    head : ((n < e.caller.0) ⊎ (e.caller.0 ≤ n)) → e.caller.0 ≤ n
    head (inl above) =
        absurd (never e (entries_by e.caller.0 journal)
        (subst (λ (b : Bool). cond b (e ∷ entries_by e.caller.0 journal) (entries_by e.caller.0 journal) ≡ []) (eq-eqb e.caller.0 e.caller.0 refl) (none e.caller.0 above)))
    head (inr within) = within

    rest : (g : ℕ) (b : Bool) → cond b (e ∷ entries_by g journal) (entries_by g journal) ≡ [] → entries_by g journal ≡ []
    rest g true is = absurd (never e (entries_by g journal) is)
    rest g false is = is
