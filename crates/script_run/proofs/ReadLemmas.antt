-- Reads of boards while a script is replayed.
use Rattle.std.proofs.Common.{◌≡◌, ◌⊎◌, inl, inr, ℕ, zero, suc, ◌+◌, ◌≤◌, Bool, true, false, cond, ltb, List, [], ◌∷◌, ◌++◌, length, min, take, Option, Some, None, refl, sym, ap, subst, ◌∙◌, arith, append-nil, length-append}
use Rattle.std.proofs.lemmas.Bool.Decides.{nat_tests}
use Rattle.std.specs.List.{AllByRecursion, cons_option, slice_get}
use Rattle.std.specs.Option.{IfSome}
use Rattle.std.proofs.lemmas.List.{length_push}
use Rattle.std.proofs.lemmas.List.Elements.{filter-append}
use Rattle.mkt_base.specs.declared.event.Entry.{Entry}
use Rattle.mkt_base.specs.declared.event.Event.{Event}
use Rattle.mkt_base.specs.declared.event.Reply.{Reply}
use Rattle.mkt_base.specs.declared.journal.Halt.{Halt}
use Rattle.mkt_base.specs.declared.script.ShowLine.{ShowLine}
use Rattle.script_file.specs.Script.{IsBefore}
use Rattle.script_file.specs.declared.script.GatewayScriptLine.{GatewayScriptLine}
use Rattle.issue_book.specs.State.{start}
use Rattle.issue_machine.specs.History.{entries_by}
use Rattle.issue_machine.specs.Step.{board_of, state_after}
use Rattle.issue_machine.proofs.HistoryLemmas.{entries-over}
use Rattle.issue_journal.specs.Issue.{Fixed, IssueNow, state_of}
use Rattle.issue_journal.specs.Turned.{HasNoNode, TurnDone, entry_behind}
use Rattle.turn_writer.specs.Writing.{turn_entries}
use Rattle.run_law.specs.Replayed.{AreInFileOrder, Call, call_at_halt, call_in, calls_for, calls_in, lines_before}
use Rattle.run_law.proofs.Shows.{calls-before}
use Rattle.script_run.specs.Entering.{WasEntered}
use Rattle.script_run.specs.Running.{IsReadNow, read_of}
use Rattle.script_run.proofs.EnteringLemmas.{calls-turned}

-- ---- the lines before a line

-- a line that is no sooner adds none
pub before-more : (n issue : ℕ) (done : List GatewayScriptLine) (of : GatewayScriptLine) → n ≤ of.line.line → calls_for issue (lines_before n (done ++ of ∷ [])) ≡ calls_for issue (lines_before n done)
before-more n issue done of later =
    ap (calls_for issue) (filter-append (λ (l : GatewayScriptLine). ltb l.line.line n) done (of ∷ [])
    ∙ ap (λ (b : Bool). lines_before n done ++ cond b (of ∷ []) []) (no of.line.line later) ∙ append-nil (lines_before n done))
  where
    no : (a : ℕ) → n ≤ a → ltb a n ≡ false
    no a h = grind (arith, nat_tests, h)

-- some of the lines make no more calls than all
pub before-few : (n issue : ℕ) (done : List GatewayScriptLine) → length (calls_for issue (lines_before n done)) ≤ length (calls_for issue done)
before-few n issue [] = omega arith
before-few n issue (of ∷ done) = by (before-few n issue done) (ltb of.line.line n)
  where
    both : length (calls_for issue (lines_before n done)) ≤ length (calls_for issue done) → (o : Option Call) → length (cons_option o (calls_for issue (lines_before n done))) ≤ length (cons_option o (calls_for issue done))
    both rest None = rest
    both rest (Some c) = omega (arith, rest)

    one : length (calls_for issue (lines_before n done)) ≤ length (calls_for issue done) → (o : Option Call) → length (calls_for issue (lines_before n done)) ≤ length (cons_option o (calls_for issue done))
    one rest None = rest
    one rest (Some c) = omega (arith, rest)

    by : length (calls_for issue (lines_before n done)) ≤ length (calls_for issue done) → (b : Bool) → length (calls_for issue (cond b (of ∷ lines_before n done) (lines_before n done))) ≤ length (cons_option (call_in issue of) (calls_for issue done))
    by rest true = both rest (call_in issue of)
    by rest false = one rest (call_in issue of)

-- ---- front parts of a journal with more entries

take-same : (n : ℕ) (xs ys : List Entry) → n ≤ length xs → take n (xs ++ ys) ≡ take n xs
take-same zero xs ys within = refl
take-same (suc n) [] ys within = absurd (omega (arith, within))
take-same (suc n) (x ∷ xs) ys within = ap (λ zs. x ∷ zs) (take-same n xs ys (omega (arith, within)))

take-whole : (n : ℕ) (xs : List Entry) → n ≡ length xs → take n xs ≡ xs
take-whole zero [] is = refl
take-whole zero (x ∷ xs) is = absurd (omega (arith, is))
take-whole (suc n) [] is = absurd (omega (arith, is))
take-whole (suc n) (x ∷ xs) is = ap (λ zs. x ∷ zs) (take-whole n xs (omega (arith, is)))

none-past : (n : ℕ) (xs : List Entry) → n ≡ length xs → slice_get xs n ≡ None
none-past zero [] is = refl
none-past zero (x ∷ xs) is = absurd (omega (arith, is))
none-past (suc n) [] is = absurd (omega (arith, is))
none-past (suc n) (x ∷ xs) is = none-past n xs (omega (arith, is))

-- the entry behind a front part, where the first of those that are added is a gateway's
whole-more : (n : ℕ) (xs : List Entry) (e : Entry) (es : List Entry) → n ≤ length xs → 1 ≤ e.caller.0 → IfSome (slice_get xs n) (λ (x : Entry). 1 ≤ x.caller.0) → IfSome (slice_get (xs ++ e ∷ es) n) (λ (x : Entry). 1 ≤ x.caller.0)
whole-more zero [] e es within some whole = some
whole-more zero (x ∷ xs) e es within some whole = whole
whole-more (suc n) [] e es within some whole = absurd (omega (arith, within))
whole-more (suc n) (x ∷ xs) e es within some whole = whole-more n xs e es (omega (arith, within)) some whole

-- ---- a read of an issue stays one

pub read-shown : (done : List GatewayScriptLine) (of : GatewayScriptLine) (i : IssueNow) (l : GatewayScriptLine) (s : ShowLine) → l.line.line ≤ of.line.line → IsReadNow done i l s → IsReadNow (done ++ of ∷ []) i l s
read-shown done of i l s later read = record {
  line = read.line;
  gateway = read.gateway;
  issue = read.issue;
  within = read.within;
  board_is = read.board_is;
  whole = read.whole;
  calls = read.calls ∙ ap (λ (cs : List Call). min (length cs) (length (calls_in i.entries))) (sym (before-more l.line.line l.line.issue done of later));
}

module _ (done : List GatewayScriptLine) (of : GatewayScriptLine) (event : Event) (old new : IssueNow) (l : GatewayScriptLine) (s : ShowLine) (some : 1 ≤ of.gateway.0) (later : l.line.line ≤ of.line.line)
    (read : IsReadNow done old l s) where
  abbrev next : List GatewayScriptLine
  next = done ++ of ∷ []

  -- of one whose journal is the same
  read-same : new.fixed ≡ old.fixed → new.entries ≡ old.entries → IsReadNow next new l s
  read-same fixed entries = record {
    line = read.line;
    gateway = read.gateway;
    issue = read.issue;
    within = subst (λ (es : List Entry). s.board.length ≤ length es) (sym entries) read.within;
    board_is = read.board_is ∙ ap (λ (es : List Entry). board_of old.fixed.terms (state_after old.fixed.terms (take s.board.length es))) (sym entries)
        ∙ ap (λ (f : Fixed). board_of f.terms (state_after f.terms (take s.board.length new.entries))) (sym fixed);
    whole = subst (λ (es : List Entry). IfSome (slice_get es s.board.length) (λ (x : Entry). 1 ≤ x.caller.0)) (sym entries) read.whole;
    calls = subst (λ (es : List Entry). length (calls_in (take s.board.length es)) ≡ min (length (calls_for l.line.issue (lines_before l.line.line next))) (length (calls_in es))) (sym entries) (read-shown done of old l s later read).calls;
  }

  -- of one that has a turn more
  read-turned : (reply : Reply) → new.fixed ≡ old.fixed → calls_in old.entries ≡ calls_for l.line.issue done → TurnDone of.gateway event reply old new → IsReadNow next new l s
  read-turned reply fixed order turn =
      let front : take s.board.length new.entries ≡ take s.board.length old.entries =
      ap (take s.board.length) turn.entries ∙ take-same s.board.length old.entries _ read.within in
      let few : length (calls_for l.line.issue (lines_before l.line.line done)) ≤ length (calls_in old.entries) =
      subst (λ (n : ℕ). length (calls_for l.line.issue (lines_before l.line.line done)) ≤ n) (sym (ap length order)) (before-few l.line.line l.line.issue done) in
      let longer : length (calls_in new.entries) ≡ length (calls_in old.entries) + 1 =
      ap length (ap calls_in turn.entries ∙ calls-turned old.entries of.gateway event turn.losses some) ∙ length_push (calls_in old.entries) _ in
      record {
        line = read.line;
        gateway = read.gateway;
        issue = read.issue;
        within = subst (λ (es : List Entry). s.board.length ≤ length es) (sym turn.entries)
            (let all = length-append old.entries (turn_entries (entry_behind old.entries of.gateway event) (length (entries_by 0 old.entries)) turn.losses) in omega (arith, all, read.within));
        board_is = read.board_is ∙ ap (λ (es : List Entry). board_of old.fixed.terms (state_after old.fixed.terms es)) (sym front)
            ∙ ap (λ (f : Fixed). board_of f.terms (state_after f.terms (take s.board.length new.entries))) (sym fixed);
        whole = subst (λ (es : List Entry). IfSome (slice_get es s.board.length) (λ (x : Entry). 1 ≤ x.caller.0)) (sym turn.entries)
            (whole-more s.board.length old.entries (entry_behind old.entries of.gateway event) _ read.within some read.whole);
        calls = ap (λ (es : List Entry). length (calls_in es)) front ∙ read.calls ∙ least _ _ _ few longer
            ∙ ap (λ (cs : List Call). min (length cs) (length (calls_in new.entries))) (sym (before-more l.line.line l.line.issue done of later));
      }
    where
      least : (a b c : ℕ) → a ≤ b → c ≡ b + 1 → min a b ≡ min a c
      least a b c h k = grind (arith, nat_tests, h, k)

  pub read-kept : (order : AreInFileOrder l.line.issue done old.entries old.halt) → WasEntered of.gateway event old new → IsReadNow next new l s
  read-kept order entered = by entered.turned
    where
      by : ((reply : Reply) × TurnDone of.gateway event reply old new) ⊎ HasNoNode of.gateway event old new → IsReadNow next new l s
      by (inl turn) = read-turned turn.0 entered.fixed (subst (AreInFileOrder l.line.issue done old.entries) turn.1.before order) turn.1
      by (inr (inl none)) = read-same entered.fixed (ap (λ (x : IssueNow). x.entries) none.2)
      by (inr (inr halted)) = read-same entered.fixed halted.entries

-- ---- a read that is made now

-- the calls of a journal are no more than those of the lines
calls-few : (issue : ℕ) (done : List GatewayScriptLine) (journal : List Entry) (h : Option Halt) → AreInFileOrder issue done journal h → length (calls_in journal) ≤ length (calls_for issue done)
calls-few issue done journal None order = let same : length (calls_in journal) ≡ length (calls_for issue done) = ap length order in omega (arith, same)
calls-few issue done journal (Some h) order = omega (arith, ap length order.1, length-append (calls_in journal) (call_at_halt h ∷ order.0))

pub read-made : (done : List GatewayScriptLine) (of : GatewayScriptLine) (i : IssueNow) → AllByRecursion (λ (l : GatewayScriptLine). IsBefore l of) done → AreInFileOrder of.line.issue done i.entries i.halt
    → IsReadNow (done ++ of ∷ []) i of (read_of of i)
read-made done of i ahead order =
    let number : (state_of i).entries ≡ length i.entries = plain (entries-over i.fixed.terms i.entries (start i.fixed.terms)) in
    let whole : take (state_of i).entries i.entries ≡ i.entries = take-whole (state_of i).entries i.entries number in
    let lines : calls_for of.line.issue (lines_before of.line.line (done ++ of ∷ [])) ≡ calls_for of.line.issue done = calls-before of done [] ahead tt in
    record {
      line = refl;
      gateway = refl;
      issue = refl;
      within = omega (arith, number);
      board_is = ap (λ (es : List Entry). board_of i.fixed.terms (state_after i.fixed.terms es)) (sym whole);
      whole = subst (λ (o : Option Entry). IfSome o (λ (x : Entry). 1 ≤ x.caller.0)) (sym (none-past (state_of i).entries i.entries number)) tt;
      calls = ap (λ (es : List Entry). length (calls_in es)) whole ∙ least _ _ (calls-few of.line.issue done i.entries i.halt order) ∙ ap (λ (cs : List Call). min (length cs) (length (calls_in i.entries))) (sym lines);
    }
  where
    plain : {n m : ℕ} → n ≡ 0 + m → n ≡ m
    plain {n} {m} h = omega (arith, h)

    least : (a b : ℕ) → b ≤ a → b ≡ min a b
    least a b h = grind (arith, nat_tests, h)
