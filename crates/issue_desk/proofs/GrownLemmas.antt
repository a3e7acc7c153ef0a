-- A pass that has seen more, and what its desk had said.
use Rattle.std.proofs.Common.{◌≡◌, ◌≢◌, ℕ, zero, suc, ◌+◌, ◌≤◌, true, List, [], ◌∷◌, ◌++◌, length, take, Option, Some, None, refl, sym, ap, subst, ◌∙◌, arith, append_assoc}
use Rattle.std.specs.Prelude.{IfSome, slice_get, is_some}
use Rattle.std.proofs.lemmas.List.{length-append, take-append-le, take_all}
use Rattle.mkt_base.specs.declared.event.Entry.{Entry}
use Rattle.mkt_base.specs.declared.journal.Halt.{Halt}
use Rattle.mkt_base.specs.declared.quote.Board.{Board}
use Rattle.turn_cell.specs.Marks.{StartsTurn, entries_in, halt_in, marks_in}
use Rattle.turn_cell.specs.Passes.{Holds, Known}
use Rattle.turn_cell.specs.declared.value.Mark.{Mark}
use Rattle.turn_cell.specs.declared.value.Mark.TheVariants.{Made, Ended}
use Rattle.issue_machine.specs.History.{entries_by}
use Rattle.issue_machine.specs.Step.{board_of, state_after}
use Rattle.issue_machine.proofs.HistoryLemmas.{entries-over}
use Rattle.issue_journal.specs.Issue.{Fixed}
use Rattle.issue_server.specs.Served.{IsJournalSeen}
use Rattle.issue_server.proofs.SeenLemmas.{entries_in-append, entries_in-of, halt_in-behind, halt_in-front, halt_in-last}
use Rattle.stage_play.specs.Seen.{HasTold}
use Rattle.issue_desk.specs.Desk.{Tells}

-- a pass has seen more, by whole turns, and may have made more
pub record HasGrown (p q : Known Fixed) : Type 0 where
  pub caller : q.caller ≡ p.caller
  pub fixed : q.fixed ≡ p.fixed
  pub rest : List Mark
  pub seen : q.seen ≡ p.seen ++ rest
  pub starts : StartsTurn rest
  pub whole : IsJournalSeen q
  pub more : List Entry
  pub made : entries_in q.made ≡ entries_in p.made ++ more

module _ (p q : Known Fixed) (grown : HasGrown p q) where
  pub entries-grown : entries_in q.seen ≡ entries_in p.seen ++ entries_in grown.rest
  entries-grown = ap entries_in grown.seen ∙ entries_in-append p.seen grown.rest

  pub seen-grown : length (entries_in p.seen) ≤ length (entries_in q.seen)
  seen-grown = let all = ap (λ (es : List Entry). length es) entries-grown in let parts = length-append (entries_in p.seen) (entries_in grown.rest) in omega (arith, all, parts)

  pub halt-grown : (h : Halt) → halt_in p.seen ≡ Some h → halt_in q.seen ≡ Some h
  halt-grown h is = ap halt_in grown.seen ∙ halt_in-front p.seen grown.rest h is

  -- what follows is a gateway's entry, if any
  next-entry : (ms : List Mark) → q.seen ≡ p.seen ++ ms → StartsTurn ms → IfSome (slice_get (entries_in ms) 0) (λ (e : Entry). 1 ≤ e.caller.0)
  next-entry [] is starts = tt
  next-entry (Made e ∷ ms) is starts = some e.caller.0 starts
    where
      some : (n : ℕ) → n ≢ 0 → 1 ≤ n
      some zero none = absurd (none refl)
      some (suc n) none = omega arith
  next-entry (Ended h ∷ ms) is starts =
      let all : marks_in (entries_in q.seen) (halt_in q.seen) ≡ (p.seen ++ Ended h ∷ []) ++ ms = sym grown.whole ∙ is ∙ sym (append_assoc p.seen (Ended h ∷ []) ms) in
      subst (λ (ns : List Mark). IfSome (slice_get (entries_in ns) 0) (λ (e : Entry). 1 ≤ e.caller.0)) (sym (last (halt_in p.seen) refl all)) tt
    where
      last : (o : Option Halt) → halt_in p.seen ≡ o → marks_in (entries_in q.seen) (halt_in q.seen) ≡ (p.seen ++ Ended h ∷ []) ++ ms → ms ≡ []
      last None none all = halt_in-last (entries_in q.seen) (halt_in q.seen) (p.seen ++ Ended h ∷ []) ms h all (halt_in-behind p.seen (Ended h ∷ []) none)
      last (Some first) some all = halt_in-last (entries_in q.seen) (halt_in q.seen) (p.seen ++ Ended h ∷ []) ms first all (halt_in-front p.seen (Ended h ∷ []) first some)

  -- an item of a longer list
  get-front : {X : Type 0} (P : X → Type 0) (xs ys : List X) (n : ℕ) → n ≤ length xs → IfSome (slice_get xs n) P → IfSome (slice_get ys 0) P → IfSome (slice_get (xs ++ ys) n) P
  get-front P [] ys zero within first next = next
  get-front P [] ys (suc n) within first next = absurd (omega (arith, within))
  get-front P (x ∷ xs) ys zero within first next = first
  get-front P (x ∷ xs) ys (suc n) within first next = get-front P xs ys n (omega (arith, within)) first next

  -- what its desk had said it still says
  pub told-later : (board : Board) (made : ℕ) → Tells p board made → Tells q board made
  told-later board made told = record {
    within = let more = seen-grown in let there = told.within in omega (arith, more, there);
    board_is = λ f is. told.board_is f (sym grown.fixed ∙ is) ∙ ap (λ (es : List Entry). board_of f.terms (state_after f.terms es)) (sym same);
    own = ap (entries_by q.caller) same ∙ ap (λ (c : ℕ). entries_by c (take board.length (entries_in p.seen))) grown.caller ∙ told.own
        ∙ sym (ap (take made) grown.made ∙ take-append-le made (entries_in p.made) grown.more told.made_by_then);
    made_by_then = let all = ap (λ (es : List Entry). length es) grown.made in let parts = length-append (entries_in p.made) grown.more in let there = told.made_by_then in omega (arith, all, parts, there);
    whole = subst (λ (es : List Entry). IfSome (slice_get es board.length) (λ (e : Entry). 1 ≤ e.caller.0)) (sym entries-grown)
        (get-front (λ (e : Entry). 1 ≤ e.caller.0) (entries_in p.seen) (entries_in grown.rest) board.length told.within told.whole (next-entry grown.rest grown.seen grown.starts));
  }
    where
      same : take board.length (entries_in q.seen) ≡ take board.length (entries_in p.seen)
      same = ap (take board.length) entries-grown ∙ take-append-le board.length (entries_in p.seen) (entries_in grown.rest) told.within

-- what a pass has seen has just what it made
pub own-entries : (p : Known Fixed) → Holds p.seen p → entries_by p.caller (entries_in p.seen) ≡ entries_in p.made
own-entries p holds = sym (entries_in-of p.caller p.seen) ∙ ap entries_in holds.0

-- the board of all that a pass has seen
pub tells-all : (p : Known Fixed) (f : Fixed) (board : Board) → p.fixed ≡ Some f → Holds p.seen p → board ≡ board_of f.terms (state_after f.terms (entries_in p.seen)) → board.length ≡ length (entries_in p.seen)
    → Tells p board (length (entries_in p.made))
tells-all p f board fixed holds is all = record {
  within = omega (arith, all);
  board_is = λ g same. subst (λ (h : Fixed). board ≡ board_of h.terms (state_after h.terms (take board.length (entries_in p.seen)))) (one f g (sym fixed ∙ same))
      (is ∙ ap (λ (es : List Entry). board_of f.terms (state_after f.terms es)) (sym front));
  own = ap (entries_by p.caller) front ∙ own-entries p holds ∙ sym (take_all (length (entries_in p.made)) (entries_in p.made) (omega arith));
  made_by_then = omega arith;
  whole = subst (λ (n : ℕ). IfSome (slice_get (entries_in p.seen) n) (λ (e : Entry). 1 ≤ e.caller.0)) (sym all) (none-there (entries_in p.seen));
}
  where
    one : (a b : Fixed) → Some a ≡ Some b → a ≡ b
    one a b same = cc

    front : take board.length (entries_in p.seen) ≡ entries_in p.seen
    front = take_all board.length (entries_in p.seen) (omega (arith, all))

    none-there : (es : List Entry) → IfSome (slice_get es (length es)) (λ (e : Entry). 1 ≤ e.caller.0)
    none-there [] = tt
    none-there (e ∷ es) = none-there es

-- so every desk can tell a board of what it has seen
pub told-seen : (p : Known Fixed) → is_some p.fixed ≡ true → Holds p.seen p → HasTold (λ (b : Board) (made : ℕ). Tells p b made) (length (entries_in p.seen)) (length (entries_in p.made))
told-seen p some holds = by p.fixed refl some
  where
    by : (o : Option Fixed) → p.fixed ≡ o → is_some o ≡ true → HasTold (λ (b : Board) (made : ℕ). Tells p b made) (length (entries_in p.seen)) (length (entries_in p.made))
    by None none is = absurd (cc)
    by (Some f) fixed is =
        let board : Board = board_of f.terms (state_after f.terms (entries_in p.seen)) in
        let count : (state_after f.terms (entries_in p.seen)).entries ≡ 0 + length (entries_in p.seen) = entries-over f.terms (entries_in p.seen) _ in
        let all : board.length ≡ length (entries_in p.seen) = omega (arith, count) in
        record { board = board; length_is = all; told = tells-all p f board fixed holds refl all }
