-- A script that is done in file order is a run of the script.
use Rattle.std.proofs.Common.{◌≡◌, ℕ, zero, suc, ◌==◌, ◌≤◌, ◌<◌, inl, inr, Bool, true, false, cond, ltb, List, [], ◌∷◌, ◌++◌, length, min, take, All, Option, Some, None, refl, sym, ap, subst, ◌∙◌, arith, append-nil, append_assoc}
use Rattle.std.proofs.lemmas.Bool.Decides.{nat_tests}
use Rattle.std.specs.List.{AllByRecursion, AllPairs, AllZip, cons_option, filter, slice_get}
use Rattle.std.specs.Option.{IfSome}
use Rattle.std.proofs.lemmas.List.Elements.{All-from_recursion, recursion_from_All}
use Rattle.std.proofs.lemmas.List.Kept.{AllPairs-cons}
use Rattle.std.proofs.lemmas.Option.{get_or_from_slice_get, slice_get_cases, slice_get_within}
use Rattle.mkt_base.specs.declared.event.Entry.{Entry}
use Rattle.mkt_base.specs.declared.journal.Halt.{Halt}
use Rattle.mkt_base.specs.declared.script.ShowLine.{ShowLine}
use Rattle.book_law.proofs.Pairs.{Pairs, pairs-from_AllPairs}
use Rattle.rules_file.specs.Rules.{gateways_in, issues_in, participants_in}
use Rattle.rules_file.specs.declared.issue.IssueRules.{IssueRules}
use Rattle.rules_file.specs.declared.rules.Rules.{Rules}
use Rattle.script_file.specs.Script.{IsBefore, IsScript}
use Rattle.script_file.specs.declared.script.GatewayScriptLine.{GatewayScriptLine}
use Rattle.script_file.specs.declared.script.Script.{Script}
use Rattle.run_report.specs.Report.{IsEnded, IsHaltOf, IsNamed, IsRun, IsShown, IsShownBefore, Run}
use Rattle.run_report.specs.declared.ended.EndedIssue.{EndedIssue}
use Rattle.run_law.specs.Laws.{ReplayIsRun}
use Rattle.run_law.specs.Replayed.{AreInFileOrder, Call, IsReplayOf, IsShowAt, call_at_halt, call_in, call_of, calls_for, calls_in, lines_before}
use Rattle.run_law.specs.Run.{AreEntered, IsIssueRun, IsNoShorter, IsShowOf, is_show, stages_in}
use Rattle.run_law.proofs.Halts.{halted}
use Rattle.run_law.proofs.Lists.{each-back}
use Rattle.run_law.proofs.Shows.{show-is}
use Rattle.run_law.proofs.Stages.{StagesRise, all-entered, rise-pairs, stages-rise}

-- ---- lists

pub at-place : {X : Type 0} (P : X → Type 0) (xs : List X) (i : ℕ) (x : X) → slice_get xs i ≡ Some x → All P xs → P x
at-place P xs i x is all =
    subst P (get_or_from_slice_get xs i x x is) (all i x (slice_get_within xs i x is))

module _ {X : Type 0} (R : X → X → Type 0) where
  pub pairs-ahead : (p q : List X) (x : X) → Pairs R (p ++ x ∷ q) → AllByRecursion (λ y. R y x) p
  pairs-ahead [] q x is = tt
  pairs-ahead (y ∷ p) q x is = (first p is.0, pairs-ahead p q x is.1)
    where
      first : (ys : List X) → AllByRecursion (R y) (ys ++ x ∷ q) → R y x
      first [] all = all.0
      first (z ∷ ys) all = first ys all.1

  pub pairs-behind : (p q : List X) (x : X) → Pairs R (p ++ x ∷ q) → AllByRecursion (R x) q
  pairs-behind [] q x is = is.0
  pairs-behind (y ∷ p) q x is = pairs-behind p q x is.1

  pub pairs-all : (xs : List X) → Pairs R xs → AllPairs R xs
  pairs-all [] is = λ i j d h k. absurd (omega (arith, k))
  pairs-all (x ∷ xs) is = AllPairs-cons R x xs (All-from_recursion (R x) xs is.0) (pairs-all xs is.1)

-- ---- one issue

-- the calls of a journal, and those that are left
file-order : (issue : ℕ) (made : List GatewayScriptLine) (journal : List Entry) (h : Option Halt) → AreInFileOrder issue made journal h → (rest : List Call) × (calls_for issue made ≡ calls_in journal ++ rest)
file-order issue made journal None is = ([], sym is ∙ sym (append-nil (calls_in journal)))
file-order issue made journal (Some h) is = (call_at_halt h ∷ is.0, is.1)

entered-is : (rules : Rules) (issue : ℕ) (made : List GatewayScriptLine) (journal : List Entry) (h : Option Halt) → StagesRise made → IfSome h (IsHaltOf rules journal) → AreInFileOrder issue made journal h
    → AreEntered issue made journal h
entered-is rules issue made journal None rises halt is = all-entered issue made journal is
entered-is rules issue made journal (Some h) rises halt is = halted issue made journal h is.0 rises halt.caller is.1

-- ---- reads of boards

-- the lines before a line are not fewer than those before an earlier one
longer-before : (issue a b : ℕ) → a ≤ b → (made : List GatewayScriptLine) → length (calls_for issue (lines_before a made)) ≤ length (calls_for issue (lines_before b made))
longer-before issue a b less [] = omega arith
longer-before issue a b less (of ∷ made) = by (longer-before issue a b less made) (ltb of.line.line a) (ltb of.line.line b) refl refl
  where
    both : length (calls_for issue (lines_before a made)) ≤ length (calls_for issue (lines_before b made)) → (o : Option Call) → length (cons_option o (calls_for issue (lines_before a made))) ≤ length (cons_option o (calls_for issue (lines_before b made)))
    both rest None = rest
    both rest (Some c) = omega (arith, rest)

    one : length (calls_for issue (lines_before a made)) ≤ length (calls_for issue (lines_before b made)) → (o : Option Call)
        → length (calls_for issue (lines_before a made)) ≤ length (cons_option o (calls_for issue (lines_before b made)))
    one rest None = rest
    one rest (Some c) = omega (arith, rest)

    by : length (calls_for issue (lines_before a made)) ≤ length (calls_for issue (lines_before b made)) → (s t : Bool) → ltb of.line.line a ≡ s → ltb of.line.line b ≡ t
        → length (calls_for issue (cond s (of ∷ lines_before a made) (lines_before a made))) ≤ length (calls_for issue (cond t (of ∷ lines_before b made) (lines_before b made)))
    by rest true true h k = both rest (call_in issue of)
    by rest true false h k = absurd (grind (arith, nat_tests, less, h, k))
    by rest false true h k = one rest (call_in issue of)
    by rest false false h k = rest

-- a longer front part has no fewer calls
pub more-calls : (m n : ℕ) (journal : List Entry) → m ≤ n → length (calls_in (take m journal)) ≤ length (calls_in (take n journal))
more-calls zero n journal less = omega arith
more-calls (suc m) zero journal less = absurd (omega (arith, less))
more-calls (suc m) (suc n) [] less = omega arith
more-calls (suc m) (suc n) (e ∷ journal) less = by (more-calls m n journal (omega (arith, less))) (call_of e)
  where
    by : length (calls_in (take m journal)) ≤ length (calls_in (take n journal)) → (o : Option Call) → length (cons_option o (calls_in (take m journal))) ≤ length (cons_option o (calls_in (take n journal)))
    by rest None = rest
    by rest (Some c) = omega (arith, rest)

-- and more where the entry behind the shorter one is a gateway's
gateway-call : (m : ℕ) (journal : List Entry) → m < length journal → IfSome (slice_get journal m) (λ (e : Entry). 1 ≤ e.caller.0)
    → length (calls_in (take (suc m) journal)) ≡ suc (length (calls_in (take m journal)))
gateway-call m [] within is = absurd (omega (arith, within))
gateway-call zero (e ∷ journal) within is = by (e.caller.0 == 0) refl
  where
    by : (b : Bool) → (e.caller.0 == 0) ≡ b → length (cons_option (cond b None (Some (let c : Call = record { gateway = e.caller.0; event = e.event } in c))) (calls_in (take 0 journal))) ≡ 1
    by true h = absurd (grind (arith, nat_tests, h, is))
    by false h = refl
gateway-call (suc m) (e ∷ journal) within is = by (gateway-call m journal (omega (arith, within)) is) (call_of e)
  where
    by : length (calls_in (take (suc m) journal)) ≡ suc (length (calls_in (take m journal))) → (o : Option Call) → length (cons_option o (calls_in (take (suc m) journal))) ≡ suc (length (cons_option o (calls_in (take m journal))))
    by rest None = rest
    by rest (Some c) = ap suc rest

-- what is known of a read by its own numbers
pub record IsCounted (made : List GatewayScriptLine) (journal : List Entry) (s : ShowLine) : Type 0 where
  pub whole : IfSome (slice_get journal s.board.length) (λ (e : Entry). 1 ≤ e.caller.0)
  pub calls : length (calls_in (take s.board.length journal)) ≡ min (length (calls_for s.issue (lines_before s.line made))) (length (calls_in journal))

-- two reads of one journal
no-shorter : (made : List GatewayScriptLine) (journal : List Entry) (s u : ShowLine) → s.issue ≡ u.issue → s.line ≤ u.line → s.board.length ≤ length journal → IsCounted made journal s → IsCounted made journal u
    → s.board.length ≤ u.board.length
no-shorter made journal s u same later within first second = by (ltb u.board.length s.board.length) refl
  where
    few : length (calls_for s.issue (lines_before s.line made)) ≤ length (calls_for u.issue (lines_before u.line made))
    few = subst (λ (i : ℕ). length (calls_for s.issue (lines_before s.line made)) ≤ length (calls_for i (lines_before u.line made))) same (longer-before s.issue s.line u.line later made)

    mins : (a b c : ℕ) → a ≤ b → min a c ≤ min b c
    mins a b c h = grind (arith, nat_tests, h)

    by : (t : Bool) → ltb u.board.length s.board.length ≡ t → s.board.length ≤ u.board.length
    by false h = grind (arith, nat_tests, h)
    by true h =
        let less : u.board.length < s.board.length = grind (arith, nat_tests, h) in
        let next = gateway-call u.board.length journal (omega (arith, less, within)) second.whole in
        let more = more-calls (suc u.board.length) s.board.length journal (omega (arith, less)) in
        let fewer = mins (length (calls_for s.issue (lines_before s.line made))) (length (calls_for u.issue (lines_before u.line made))) (length (calls_in journal)) few in
        absurd (omega (arith, next, more, fewer, first.calls, second.calls))

module _ (rules : Rules) (script : Script) (run : Run) (sound : IsScript rules script) (printable : IsRun rules run) (replay : IsReplayOf script run) where
  abbrev made : List GatewayScriptLine
  made = script.lines

  rises : StagesRise made
  rises = pairs-from_AllPairs (λ (a b : GatewayScriptLine). a.line.stage ≤ b.line.stage) made sound.stages

  ended-is : (issue : ℕ) (ended : EndedIssue) → slice_get run.issues issue ≡ Some ended → IsEnded rules ended
  ended-is issue ended at = at-place (IsEnded rules) run.issues issue ended at printable.ended

  issue-run : (issue : ℕ) (ended : EndedIssue) → slice_get run.issues issue ≡ Some ended → IsIssueRun issue made ended
  issue-run issue ended at =
      let is = ended-is issue ended at in
      let order = replay.issues issue ended at in
      let left = file-order issue made ended.journal ended.halt order in
      record {
        entered = entered-is rules issue made ended.journal ended.halt rises is.halt order;
        order = rise-pairs (stages_in issue made ended.journal) (stages-rise (length (participants_in rules)) issue made ended.journal left.0 rises is.history left.1);
      }

  abbrev ReadAt : GatewayScriptLine → ShowLine → Type 0
  ReadAt of s = (ended : EndedIssue) → slice_get run.issues of.line.issue ≡ Some ended → IsShowAt made ended.journal of s

  abbrev ReadOf : GatewayScriptLine → ShowLine → Type 0
  ReadOf of s = (ended : EndedIssue) → slice_get run.issues of.line.issue ≡ Some ended → IsShowOf made ended.journal of s

  read-of : (p q : List GatewayScriptLine) (of : GatewayScriptLine) (s : ShowLine) → made ≡ p ++ of ∷ q → ReadAt of s → ReadOf of s
  read-of p q of s split read ended at =
      let is = ended-is of.line.issue ended at in
      let left = file-order of.line.issue made ended.journal ended.halt (replay.issues of.line.issue ended at) in
      let lines : Pairs IsBefore (p ++ of ∷ q) = subst (Pairs IsBefore) split (pairs-from_AllPairs IsBefore made sound.rise) in
      let stages : StagesRise (p ++ of ∷ q) = subst StagesRise split rises in
      let By : GatewayScriptLine → Type 0 = λ l. (1 ≤ l.gateway.0) × (l.gateway.0 ≤ length (gateways_in rules)) in
      let gateways : AllByRecursion By (p ++ of ∷ q) = subst (AllByRecursion By) split (recursion_from_All By made sound.gateways) in
      let own : By of = (each-back By p (of ∷ q) gateways).0 in
      subst (λ (ls : List GatewayScriptLine). IsShowOf ls ended.journal of s) (sym split)
      (show-is (length (participants_in rules)) p q of ended.journal left.0 s own.0 (pairs-ahead IsBefore p q of lines) (pairs-behind IsBefore p q of lines)
      (pairs-ahead (λ (a b : GatewayScriptLine). a.line.stage ≤ b.line.stage) p q of stages)
      (omega arith, pairs-behind (λ (a b : GatewayScriptLine). a.line.stage ≤ b.line.stage) p q of stages) is.history
      (subst (λ (ls : List GatewayScriptLine). calls_for of.line.issue ls ≡ calls_in ended.journal ++ left.0) split left.1)
      (subst (λ (ls : List GatewayScriptLine). IsShowAt ls ended.journal of s) split (read ended at)))

  shows-of : (p q : List GatewayScriptLine) (shows : List ShowLine) → made ≡ p ++ q → AllZip ReadAt (filter is_show q) shows → AllZip ReadOf (filter is_show q) shows
  shows-of p [] shows split all = by shows all
    where
      by : (ss : List ShowLine) → AllZip ReadAt [] ss → AllZip ReadOf [] ss
      by [] h = tt
      by (s ∷ ss) h = absurd h
  shows-of p (of ∷ q) shows split all = by (λ ss h. shows-of (p ++ of ∷ []) q ss (split ∙ sym (append_assoc p (of ∷ []) q)) h) (is_show of) shows all
    where
      by : ((ss : List ShowLine) → AllZip ReadAt (filter is_show q) ss → AllZip ReadOf (filter is_show q) ss) → (b : Bool) (ss : List ShowLine) → AllZip ReadAt (cond b (of ∷ filter is_show q) (filter is_show q)) ss → AllZip ReadOf (cond b (of ∷ filter is_show q) (filter is_show q)) ss
      by next true [] h = absurd h
      by next true (s ∷ ss) h = (read-of p q of s split h.0, next ss h.1)
      by next false ss h = next ss h

  -- ---- lengths do not fall

  abbrev Counted : ShowLine → Type 0
  Counted s = (ended : EndedIssue) → slice_get run.issues s.issue ≡ Some ended → IsCounted made ended.journal s

  counted-of : (of : GatewayScriptLine) (s : ShowLine) → ReadAt of s → s.issue ≡ of.line.issue → Counted s
  counted-of of s read same ended at =
      let is = read ended (ap (slice_get run.issues) (sym same) ∙ at) in
      record {
        whole = is.whole;
        calls = is.calls ∙ ap (λ (i : ℕ). min (length (calls_for i (lines_before of.line.line made))) (length (calls_in ended.journal))) (sym is.issue)
            ∙ ap (λ (n : ℕ). min (length (calls_for s.issue (lines_before n made))) (length (calls_in ended.journal))) (sym is.line);
      }

  -- every issue that is named is there
  there : (s : ShowLine) → IsNamed rules s → (ended : EndedIssue) × (slice_get run.issues s.issue ≡ Some ended)
  there s named = elim (slice_get_cases run.issues s.issue).1 [
    | inl found ↦ (found.0, found.2)
    | inr past ↦ absurd (omega (arith, past.0, named.issue, printable.each))
  ]

  its-rules : (s : ShowLine) → IsNamed rules s → (r : IssueRules) × (slice_get (issues_in rules) s.issue ≡ Some r)
  its-rules s named = elim (slice_get_cases (issues_in rules) s.issue).1 [
    | inl found ↦ (found.0, found.2)
    | inr past ↦ absurd (omega (arith, past.0, named.issue))
  ]

  issues-same : (ofs : List GatewayScriptLine) (shows : List ShowLine) → AllByRecursion (λ (of : GatewayScriptLine). of.line.issue < length (issues_in rules)) ofs → AllZip ReadAt ofs shows → AllByRecursion Counted shows
  issues-same [] [] below all = tt
  issues-same [] (s ∷ ss) below all = absurd all
  issues-same (of ∷ ofs) [] below all = absurd all
  issues-same (of ∷ ofs) (s ∷ ss) below all = (
    counted-of of s all.0 (elim (slice_get_cases run.issues of.line.issue).1 [
      | inl found ↦ (all.0 found.0 found.2).issue
      | inr past ↦ absurd (omega (arith, past.0, below.0, printable.each))
    ]),
    issues-same ofs ss below.1 all.1,
  )

  abbrev Facts : ShowLine → Type 0
  Facts s = IsNamed rules s × Counted s × ((r : IssueRules) (ended : EndedIssue) → slice_get (issues_in rules) s.issue ≡ Some r → slice_get run.issues s.issue ≡ Some ended → IsShown rules r ended.journal s.board)

  pair-forward : (s u : ShowLine) → Facts s → Facts u → IsShownBefore s u → IsNoShorter s u
  pair-forward s u first second before gateway issue =
      let here = there s first.0 in
      let rules-of = its-rules s first.0 in
      let shown : IsShown rules rules-of.0 here.0.journal s.board = first.2 rules-of.0 here.0 rules-of.1 here.1 in
      no-shorter made here.0.journal s u issue (later before) shown.within (first.1 here.0 here.1) (second.1 here.0 (ap (slice_get run.issues) (sym issue) ∙ here.1))
    where
      later : IsShownBefore s u → s.line ≤ u.line
      later (inl less) = omega (arith, less)
      later (inr same) = omega (arith, same.0)

  forward : (shows : List ShowLine) → AllByRecursion Facts shows → Pairs IsShownBefore shows → Pairs IsNoShorter shows
  forward [] facts before = tt
  forward (s ∷ ss) facts before = (first ss facts.1 before.0, forward ss facts.1 before.1)
    where
      first : (us : List ShowLine) → AllByRecursion Facts us → AllByRecursion (IsShownBefore s) us → AllByRecursion (IsNoShorter s) us
      first [] fs bs = tt
      first (u ∷ us) fs bs = (pair-forward s u facts.0 fs.0 bs.0, first us fs.1 bs.1)

  facts-of : (shows : List ShowLine) → AllByRecursion (IsNamed rules) shows → AllByRecursion Counted shows
      → AllByRecursion (λ (s : ShowLine). (r : IssueRules) (ended : EndedIssue) → slice_get (issues_in rules) s.issue ≡ Some r → slice_get run.issues s.issue ≡ Some ended → IsShown rules r ended.journal s.board) shows
      → AllByRecursion Facts shows
  facts-of [] named counted shown = tt
  facts-of (s ∷ ss) named counted shown = ((named.0, counted.0, shown.0), facts-of ss named.1 counted.1 shown.1)

  below : (ofs : List GatewayScriptLine) → AllByRecursion (λ (of : GatewayScriptLine). of.line.issue < length (issues_in rules)) ofs → AllByRecursion (λ (of : GatewayScriptLine). of.line.issue < length (issues_in rules)) (filter is_show ofs)
  below [] all = tt
  below (of ∷ ofs) all = by (below ofs all.1) (is_show of)
    where
      by : AllByRecursion (λ (l : GatewayScriptLine). l.line.issue < length (issues_in rules)) (filter is_show ofs) → (b : Bool) → AllByRecursion (λ (l : GatewayScriptLine). l.line.issue < length (issues_in rules)) (cond b (of ∷ filter is_show ofs) (filter is_show ofs))
      by rest true = (all.0, rest)
      by rest false = rest

  no-falls : AllPairs IsNoShorter run.shows
  no-falls =
      let counted = issues-same (filter is_show made) run.shows (below made (recursion_from_All (λ (of : GatewayScriptLine). of.line.issue < length (issues_in rules)) made sound.issues)) replay.shows in
      pairs-all IsNoShorter run.shows
      (forward run.shows (facts-of run.shows (recursion_from_All (IsNamed rules) run.shows printable.named) counted (recursion_from_All _ run.shows printable.shown))
      (pairs-from_AllPairs IsShownBefore run.shows printable.rise))

pub replay-run : ReplayIsRun
replay-run rules script run sound printable replay = record {
  printable = printable;
  issues = issue-run rules script run sound printable replay;
  shows = shows-of rules script run sound printable replay [] script.lines run.shows refl replay.shows;
  forward = no-falls rules script run sound printable replay;
}
