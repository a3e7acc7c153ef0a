-- A script that is replayed, from its begin over each line to its end.
use Rattle.std.proofs.Common.{◌≡◌, ℕ, ◌+◌, ◌<◌, ◌≤◌, Bool, true, cond, List, [], ◌∷◌, ◌++◌, length, get_or, map, take, drop, All, Some, None, refl, sym, ap, subst, ◌∙◌, arith}
use Rattle.std.specs.List.{AllByRecursion, AllZip, filter, slice_get}
use Rattle.std.proofs.lemmas.List.{drop_more, length-map, take_all, take_more}
use Rattle.std.proofs.lemmas.List.Elements.{All-from_recursion}
use Rattle.std.proofs.lemmas.List.FromFn.{get_or-map-range_with_len}
use Rattle.std.proofs.lemmas.List.Sums.{length-filter, sum_by-drop_more, sum_by-take-drop}
use Rattle.std.proofs.lemmas.Option.{slice_get_within}
use Rattle.mkt_base.specs.declared.event.Entry.{Entry}
use Rattle.mkt_base.specs.declared.script.Act.{Act}
use Rattle.mkt_base.specs.declared.script.Act.TheVariants.{Do, Show}
use Rattle.mkt_base.specs.declared.script.ShowLine.{ShowLine}
use Rattle.book_law.proofs.Pairs.{Pairs, pairs-from_AllPairs}
use Rattle.rules_file.specs.Rules.{gateways_in, issues_in}
use Rattle.rules_file.specs.declared.issue.IssueRules.{IssueRules}
use Rattle.rules_file.specs.declared.rules.Rules.{Rules}
use Rattle.script_file.specs.Script.{IsActOf, IsBefore, IsScript, is_event}
use Rattle.script_file.specs.declared.script.GatewayScriptLine.{GatewayScriptLine}
use Rattle.script_file.specs.declared.script.Script.{Script}
use Rattle.issue_book.specs.IssueView.{terms_of}
use Rattle.issue_book.specs.State.{Terms}
use Rattle.issue_machine.specs.Step.{board_of, state_after}
use Rattle.issue_journal.specs.Issue.{IssueNow}
use Rattle.issue_journal.specs.Laws.{LossesStayFew}
use Rattle.run_report.specs.Report.{IsEnded, IsRun, IsShown, Run}
use Rattle.run_report.specs.declared.ended.EndedIssue.{EndedIssue}
use Rattle.run_law.specs.Replayed.{AreInFileOrder, IsReplayOf, IsShowAt}
use Rattle.run_law.specs.Run.{is_show}
use Rattle.run_law.proofs.RunLemmas.{pairs-ahead}
use Rattle.run_law.proofs.Shows.{take-and-drop}
use Rattle.script_run.specs.Running.{AllAfter, AllReadNow, EachFrom, HasCome, IsAfter, IsFresh, IsLabelled, IsOpenedFor, IsReadNow, MayDo, WasDone, WasRead, count_for, counts_for, ended_as, run_of}
use Rattle.script_run.proofs.ComingLemmas.{come-next}
use Rattle.script_run.proofs.CountLemmas.{fewer-before}
use Rattle.script_run.proofs.EachLemmas.{each-get, each-map, get-there, zip-length, zip-map}
use Rattle.script_run.proofs.LineLemmas.{one-there}
use Rattle.script_run.proofs.EnteringLemmas.{has-place}
use Rattle.script_run.proofs.PrintLemmas.{IsFor, IsOfRules, ended-now, event-sound, found-ended, reads-known, reads-named, reads-rise}

-- ---- the begin

pub come-begins : (rules : Rules) (made : List GatewayScriptLine) (counts : List ℕ) (issues : List IssueNow) (shows : List ShowLine) → counts ≡ counts_for (length (issues_in rules)) made → length issues ≡ length (issues_in rules)
    → EachFrom (IsFresh rules counts) 0 issues → shows ≡ [] → HasCome rules made [] issues shows
come-begins rules made counts issues shows counted each fresh none = record {
  each = each;
  after = each-map (IsFresh rules counts) (IsAfter rules made []) 0 issues one fresh;
  reads = subst (λ (ss : List ShowLine). AllReadNow [] issues ss) (sym none) tt;
}
  where
    one : (i k : ℕ) (x : IssueNow) → k ≡ 0 + i → slice_get issues i ≡ Some x → IsFresh rules counts k x → IsAfter rules made [] k x
    one i k x at is h =
        let within : i < length issues = slice_get_within issues i x is in
        let below : k < length (issues_in rules) = omega (arith, within, at, each) in
        let count : get_or counts k 0 ≡ count_for k made =
        ap (λ (ns : List ℕ). get_or ns k 0) counted ∙ get_or-map-range_with_len (λ (n : ℕ). count_for n made) 0 (length (issues_in rules)) k k 0 below (omega arith) in
        let nothing : AreInFileOrder k [] [] None = refl in
        record {
          opened = subst (λ (n : ℕ). IsOpenedFor rules k n x) count h.opened;
          order = subst (λ (es : List Entry). AreInFileOrder k [] es x.halt) (sym h.entries) (subst (AreInFileOrder k [] []) (sym h.halt) nothing);
        }

-- ---- a line

module _ (rules : Rules) (script : Script) (sound : IsScript rules script) (k : ℕ) (of : GatewayScriptLine) (below : k < length script.lines) (at : of ≡ get_or script.lines k of) where
  abbrev made : List GatewayScriptLine
  made = script.lines

  at-line : (P : GatewayScriptLine → Type 0) → All P made → P of
  at-line P all = subst P (sym at) (all k of below)

  pub line-issue : of.line.issue < length (issues_in rules)
  line-issue = at-line (λ (l : GatewayScriptLine). l.line.issue < length (issues_in rules)) sound.issues

  pub line-gateway : (1 ≤ of.gateway.0) × (of.gateway.0 ≤ length (gateways_in rules))
  line-gateway = at-line (λ (l : GatewayScriptLine). (1 ≤ l.gateway.0) × (l.gateway.0 ≤ length (gateways_in rules))) sound.gateways

  split : made ≡ take k made ++ of ∷ drop (k + 1) made
  split = take-and-drop k made ∙ ap (λ (ls : List GatewayScriptLine). take k made ++ ls) (drop_more made k of below ∙ ap (λ (l : GatewayScriptLine). l ∷ drop (k + 1) made) (sym at))

  ahead : AllByRecursion (λ (l : GatewayScriptLine). IsBefore l of) (take k made)
  ahead = pairs-ahead IsBefore (take k made) (drop (k + 1) made) of (subst (Pairs IsBefore) split (pairs-from_AllPairs IsBefore made sound.rise))

  taken : take k made ++ of ∷ [] ≡ take (k + 1) made
  taken = sym (take_more made k of below ∙ ap (λ (l : GatewayScriptLine). take k made ++ l ∷ []) (sym at))

  pub line-may : LossesStayFew → (issues : List IssueNow) (shows : List ShowLine) → HasCome rules made (take k made) issues shows → (i : IssueNow) → slice_get issues of.line.issue ≡ Some i → MayDo of.gateway of.line.act i
  line-may law issues shows come i is = by of.line.act refl
    where
      after : IsAfter rules made (take k made) of.line.issue i
      after = each-get (IsAfter rules made (take k made)) 0 of.line.issue of.line.issue issues i come.after is (omega arith)

      by : (act : Act) → of.line.act ≡ act → MayDo of.gateway act i
      by (Do event) does =
          let its : IsActOf rules (Do event) = subst (IsActOf rules) does (at-line (λ (l : GatewayScriptLine). IsActOf rules l.line.act) sound.acts) in (
            event-sound rules i.fixed.participants event after.opened.participants its,
            has-place law rules made (take k made) of.line.issue event i after (fewer-before of.line.issue made k of below at refl (ap is_event does)),
          )
      by Show does = tt

  pub line-done : (old new : List IssueNow) (shows shown : List ShowLine) → HasCome rules made (take k made) old shows → WasDone of of.line.act old new → WasRead of of.line.act old shows shown
      → HasCome rules made (take (k + 1) made) new shown
  line-done old new shows shown come done-is read =
      subst (λ (ls : List GatewayScriptLine). HasCome rules made ls new shown) taken
      (come-next rules made (take k made) of old new shows shown line-gateway.0 line-gateway.1 (omega (arith, line-issue, come.each)) ahead come done-is read)

  -- there is room for a read
  pub line-room : (issues : List IssueNow) (shows : List ShowLine) (capacity : ℕ) → HasCome rules made (take k made) issues shows → length (filter is_show made) ≤ capacity → is_show of ≡ true → length shows < capacity
  line-room issues shows capacity come room reads =
      let long : length (filter is_show (take k made)) ≡ length shows = zip-length _ (filter is_show (take k made)) shows come.reads in
      let parts = sum_by-take-drop (λ (l : GatewayScriptLine). cond {A = ℕ} (is_show l) 1 0) made k in
      let rest = sum_by-drop_more (λ (l : GatewayScriptLine). cond {A = ℕ} (is_show l) 1 0) made k of below in
      let one : cond {A = ℕ} (is_show (get_or made k of)) 1 0 ≡ 1 = ap (λ (l : GatewayScriptLine). cond {A = ℕ} (is_show l) 1 0) (sym at) ∙ ap (λ (b : Bool). cond {A = ℕ} b 1 0) reads in
      omega (arith, long, parts, rest, one, room, length-filter is_show made, length-filter is_show (take k made))

-- ---- the end

pub come-all : (rules : Rules) (made : List GatewayScriptLine) (k : ℕ) (issues : List IssueNow) (shows : List ShowLine) → length made ≤ k → HasCome rules made (take k made) issues shows → HasCome rules made made issues shows
come-all rules made k issues shows past come = subst (λ (ls : List GatewayScriptLine). HasCome rules made ls issues shows) (take_all k made past) come

pub labelled-all : (rules : Rules) (made done : List GatewayScriptLine) (issues : List IssueNow) → AllAfter rules made done issues → EachFrom IsLabelled 0 issues
labelled-all rules made done issues after =
    each-map (IsAfter rules made done) IsLabelled 0 issues
    (λ i k x at is h. record { issue_now = h.opened.issue_now; place = h.opened.place; first = h.opened.first; second = h.opened.second; third = h.opened.third }) after

module _ (rules : Rules) (script : Script) (sound : IsScript rules script) (issues : List IssueNow) (shows : List ShowLine) (come : HasCome rules script.lines script.lines issues shows) where
  abbrev lines : List GatewayScriptLine
  lines = script.lines

  after-at : (i : ℕ) (x : IssueNow) → slice_get issues i ≡ Some x → IsAfter rules lines lines i x
  after-at i x is = each-get (IsAfter rules lines lines) 0 i i issues x come.after is (omega arith)

  ended-is : (i : ℕ) (x : IssueNow) → IsAfter rules lines lines i x → IsEnded rules (ended_as x)
  ended-is i x after = ended-now rules x after.opened.participants after.opened.issue_now after.opened.callers after.opened.halter

  all-ended : (n : ℕ) (xs : List IssueNow) → EachFrom (IsAfter rules lines lines) n xs → AllByRecursion (IsEnded rules) (map ended_as xs)
  all-ended n [] each = tt
  all-ended n (x ∷ xs) each = (ended-is n x each.0, all-ended (n + 1) xs each.1)

  -- ---- reads

  abbrev Read : GatewayScriptLine → ShowLine → Type 0
  Read l s = (i : IssueNow) → slice_get issues l.line.issue ≡ Some i → IsReadNow lines i l s

  read-there : (l : GatewayScriptLine) (s : ShowLine) → IsOfRules rules l → Read l s → (i : IssueNow) × (slice_get issues l.line.issue ≡ Some i) × IsReadNow lines i l s
  read-there l s known read =
      let there = get-there issues l.line.issue (omega (arith, known.0, come.each)) in
      (there.0, there.1, read there.0 there.1)

  abbrev ShownAs : ShowLine → Type 0
  ShownAs s = (r : IssueRules) (ended : EndedIssue) → slice_get (issues_in rules) s.issue ≡ Some r → slice_get (map ended_as issues) s.issue ≡ Some ended → IsShown rules r ended.journal s.board

  shown-all : (ls : List GatewayScriptLine) (ss : List ShowLine) → AllByRecursion (IsOfRules rules) ls → AllZip Read ls ss → AllByRecursion ShownAs ss
  shown-all [] [] known all = tt
  shown-all [] (s ∷ ss) known all = absurd all
  shown-all (l ∷ ls) [] known all = absurd all
  shown-all (l ∷ ls) (s ∷ ss) known all = (one, shown-all ls ss known.1 all.1)
    where
      one : ShownAs s
      one r ended rules-of at =
          let there = read-there l s known.0 all.0 in
          let found = found-ended issues s.issue ended at in
          let same : found.0 ≡ there.0 = one-there (slice_get issues s.issue) found.0 there.0 found.1 (ap (slice_get issues) there.2.issue ∙ there.1) in
          let read : IsReadNow lines found.0 l s = subst (λ (y : IssueNow). IsReadNow lines y l s) (sym same) there.2 in
          let terms : found.0.fixed.terms ≡ terms_of rules r = (after-at s.issue found.0 found.1).opened.terms r rules-of in
          subst (λ (e : EndedIssue). IsShown rules r e.journal s.board) (sym found.2) (record {
            within = read.within;
            board_is = read.board_is ∙ ap (λ (t : Terms). board_of t (state_after t (take s.board.length found.0.entries))) terms;
          })

  abbrev run : Run
  run = run_of (map ended_as issues) shows

  known-shows : AllByRecursion (IsOfRules rules) (filter is_show lines)
  known-shows = reads-known rules script sound

  reads-for : AllZip IsFor (filter is_show lines) shows
  reads-for = zip-map Read IsFor (filter is_show lines) shows (IsOfRules rules) (λ l s known read. let its = (read-there l s known read).2 in record { line = its.line; gateway = its.gateway; issue = its.issue }) known-shows come.reads

  pub printable : IsRun rules run
  printable = record {
    each = length-map issues ended_as ∙ come.each;
    ended = All-from_recursion (IsEnded rules) (map ended_as issues) (all-ended 0 issues come.after);
    named = reads-named rules script shows sound reads-for;
    shown = All-from_recursion ShownAs shows (shown-all (filter is_show lines) shows known-shows come.reads);
    rise = reads-rise rules script shows sound reads-for;
  }

  pub replayed : IsReplayOf script run
  replayed = record { issues = order; shows = zip-map Read ShownAt (filter is_show lines) shows (IsOfRules rules) (λ l s known read. one l s read) known-shows come.reads }
    where
      order : (i : ℕ) (ended : EndedIssue) → slice_get (map ended_as issues) i ≡ Some ended → AreInFileOrder i lines ended.journal ended.halt
      order i ended at =
          let found = found-ended issues i ended at in
          subst (λ (e : EndedIssue). AreInFileOrder i lines e.journal e.halt) (sym found.2) (after-at i found.0 found.1).order

      ShownAt : GatewayScriptLine → ShowLine → Type 0
      ShownAt l s = (ended : EndedIssue) → slice_get (map ended_as issues) l.line.issue ≡ Some ended → IsShowAt lines ended.journal l s

      one : (l : GatewayScriptLine) (s : ShowLine) → Read l s → (ended : EndedIssue) → slice_get (map ended_as issues) l.line.issue ≡ Some ended → IsShowAt lines ended.journal l s
      one l s read ended at =
          let found = found-ended issues l.line.issue ended at in
          let now = read found.0 found.1 in
          subst (λ (e : EndedIssue). IsShowAt lines e.journal l s) (sym found.2) (record { line = now.line; gateway = now.gateway; issue = now.issue; whole = now.whole; calls = now.calls })
