-- What passes that meet know of a halt, and what a closed issue has of each caller.
use Rattle.std.proofs.Common.{◌≡◌, ◌≢◌, ℕ, ◌<◌, ◌+◌, List, [], ◌∷◌, ◌++◌, length, get_or, sym, refl, ap, ◌∙◌, subst, arith}
use Rattle.std.specs.Prelude.{All, Option, Some, None}
use Rattle.std.proofs.lemmas.List.Elements.{All-cons, All-head, All-tail}
use Rattle.mkt_base.specs.declared.event.Entry.{Entry}
use Rattle.mkt_base.specs.declared.journal.Halt.{Halt}
use Rattle.turn_cell.specs.Marks.{entries_in, halt_in, marks_of, Begins, Owned}
use Rattle.turn_cell.specs.Passes.{Known, Holds, gone_of, met_with, names_in}
use Rattle.turn_cell.specs.declared.value.Mark.{Mark}
use Rattle.turn_cell.specs.declared.view.Gone.{Gone}
use Rattle.issue_machine.specs.History.{entries_by}
use Rattle.issue_journal.specs.Issue.{Fixed}
use Rattle.issue_server.specs.Meeting.{AreTheirs, HaltsByOthers, KeepsHalt}
use Rattle.issue_server.proofs.SeenLemmas.{entries_in-of, halt_in-front, halt-of_others}

-- of two lists the first has the property, and so has the second
all-front : (P : Gone → Type 0) (xs ys : List Gone) → All P (xs ++ ys) → All P xs
all-front P [] ys h = λ k d lt. absurd (omega arith)
all-front P (x ∷ xs) ys h = All-cons P x xs (All-head P x (xs ++ ys) h) (all-front P xs ys (All-tail P x (xs ++ ys) h))

all-back : (P : Gone → Type 0) (xs ys : List Gone) → All P (xs ++ ys) → All P ys
all-back P [] ys h = h
all-back P (x ∷ xs) ys h = all-back P xs ys (All-tail P x (xs ++ ys) h)

keeps : (p q : Known Fixed) → Begins p.seen q.seen → KeepsHalt p q
keeps p q b halt is = ap halt_in b.1 ∙ halt_in-front p.seen b.0 halt is

pub others : (p q : Known Fixed) → Begins p.seen q.seen → Holds p.seen p → Holds q.seen p → HaltsByOthers p q
others p q b here there halt none is = (
  halt-of_others p.caller p.seen q.seen p.made b here.0 there.0 none halt is,
  λ k d lt same.
      halt-of_others (get_or p.met k d).caller p.seen q.seen (get_or p.met k d).made b (here.1 k d lt) (there.1 k d lt) none halt is (sym same),
)

-- the longer list has the marks of the other pass too
holds-first : (p o q : Known Fixed) → q ≡ met_with p o → Holds q.seen q → Holds q.seen p
holds-first p o q is h =
    let all : Owned q.seen p.caller p.made (p.met ++ gone_of o ∷ o.met) =
    subst (λ (z : Known Fixed). Owned q.seen z.caller z.made z.met) is h in
    (all.0, all-front (λ (g : Gone). marks_of g.caller q.seen ≡ g.made) p.met (gone_of o ∷ o.met) all.1)

holds-other : (p o q : Known Fixed) → q ≡ met_with p o → Holds q.seen q → Holds q.seen o
holds-other p o q is h =
    let all : Owned q.seen p.caller p.made (p.met ++ gone_of o ∷ o.met) =
    subst (λ (z : Known Fixed). Owned q.seen z.caller z.made z.met) is h in
    let P : Gone → Type 0 = λ (g : Gone). marks_of g.caller q.seen ≡ g.made in
    let rest : All P (gone_of o ∷ o.met) = all-back P p.met (gone_of o ∷ o.met) all.1 in
    (All-head P (gone_of o) o.met rest, All-tail P (gone_of o) o.met rest)

pub keep-halt : (p o q : Known Fixed) → Begins p.seen q.seen × Begins o.seen q.seen → KeepsHalt p q × KeepsHalt o q
keep-halt p o q b = (keeps p q b.0, keeps o q b.1)

pub halts-met : (p o q : Known Fixed) → q ≡ met_with p o → Begins p.seen q.seen × Begins o.seen q.seen → Holds q.seen q → Holds p.seen p × Holds o.seen o
    → HaltsByOthers p q × HaltsByOthers o q
halts-met p o q is b all held = (
  others p q b.0 held.0 (holds-first p o q is all),
  others o q b.1 held.1 (holds-other p o q is all),
)

-- ---- a closed issue

module _ (journal : List Entry) (p : Known Fixed) (journal_is : journal ≡ entries_in p.seen) where
  entries-of : (c : ℕ) (made : List Mark) → marks_of c p.seen ≡ made → entries_by c journal ≡ entries_in made
  entries-of c made is = ap (entries_by c) journal_is ∙ (sym (entries_in-of c p.seen) ∙ ap entries_in is)

  pub theirs : Holds p.seen p → ((c : ℕ) → c ≢ 0 → names_in c p ≡ 0 → marks_of c p.seen ≡ []) → AreTheirs journal p
  theirs holds nobody = record {
    own = entries-of p.caller p.made holds.0;
    met = λ k d lt. entries-of (get_or p.met k d).caller (get_or p.met k d).made (holds.1 k d lt);
    nobody_else = λ c real unnamed. entries-of c [] (nobody c real unnamed);
  }
