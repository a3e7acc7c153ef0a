-- A run: issues of the rules that were opened, played and closed, and the reads of boards in the order of lines.
use Rattle.std.proofs.Common.{◌≡◌, ℕ, zero, suc, ◌+◌, ◌<◌, ◌≤◌, ◌==◌, Bool, true, false, cond, List, [], ◌∷◌, length, map, filter, filter_map, take, All, AllPairs, Option, Some, None, IfSome, refl, sym, ap, subst, ◌∙◌, arith, eq-eqb, slice_get, slice_index_or}
use Rattle.std.specs.Prelude.{option_map}
use Rattle.std.specs.List.{AllZip, cons_option}
use Rattle.std.proofs.lemmas.List.{length-map}
use Rattle.std.proofs.lemmas.List.Elements.{All-cons, All-head, All-map, All-nil, All-tail}
use Rattle.std.proofs.lemmas.List.FromFn.{get_or-map-range_with_len}
use Rattle.std.proofs.lemmas.Option.{slice_get-get_or}
use Rattle.mkt_base.specs.declared.quote.Board.{Board}
use Rattle.mkt_base.specs.declared.script.ScriptLine.{ScriptLine}
use Rattle.mkt_base.specs.declared.script.Act.{Act}
use Rattle.mkt_base.specs.declared.script.Act.TheVariants.{Do, Show}
use Rattle.mkt_base.specs.declared.script.ShowLine.{ShowLine}
use Rattle.mkt_base.specs.declared.units.Caller.{Caller}
use Rattle.rules_file.specs.Rules.{gateways_in, issues_in, participants_in}
use Rattle.rules_file.specs.declared.issue.IssueRules.{IssueRules}
use Rattle.rules_file.specs.declared.rules.Rules.{Rules}
use Rattle.script_file.specs.Script.{IsActOf, IsScript}
use Rattle.script_file.specs.declared.script.GatewayScriptLine.{GatewayScriptLine}
use Rattle.script_file.specs.declared.script.Script.{Script}
use Rattle.issue_book.specs.IssueView.{terms_of}
use Rattle.issue_book.specs.State.{Terms}
use Rattle.issue_machine.specs.History.{IsHistory}
use Rattle.issue_machine.specs.Step.{board_of, state_after}
use Rattle.issue_journal.specs.Issue.{Fixed, IssueNow}
use Rattle.run_report.specs.Report.{IsEnded, IsRun, IsShown}
use Rattle.run_report.specs.declared.ended.EndedIssue.{EndedIssue}
use Rattle.run_law.specs.Run.{AreShowsOf, IsNoShorter, IsRunOf, IsShowOf, is_show}
use Rattle.gateway.specs.Ran.{Deed, GatewayNow, show_of}
use Rattle.gateway.specs.Served.{board_by}
use Rattle.stage_law.specs.Laws.{AllPlayed, PlayedIsRun, PlayedShows}
use Rattle.stage_law.specs.Played.{AreReadsBy, deeds_at, lines_done}
use Rattle.stage_law.proofs.Deeds.{some-then, unmapped}
use Rattle.show_merge.specs.Merged.{AreMerged, AreNumbered, EachGateway, IsBoardOf}
use Rattle.desk_law.specs.Laws.{EndIsPlayed, IsBoardIn, IsPlayed}
use Rattle.script_run.specs.Running.{EachFrom, IsFresh, IsLabelled, IsOpenedFor, count_for, counts_for, ended_as, run_of}
use Rattle.script_run.proofs.EachLemmas.{each-get, get-there, zip-map}
use Rattle.script_run.proofs.PrintLemmas.{IsFor, IsOfRules, ended-now, event-sound, found-ended, reads-known, reads-named, reads-rise}
use Rattle.stage_run.specs.Played.{AreLinesFor, IsActIn, WerePlayed}
use Rattle.stage_run.proofs.ReadyLemmas.{bare-all}

-- ---- lists

each-from : (P : ℕ → IssueNow → Type 0) (k : ℕ) (xs : List IssueNow) → ((n : ℕ) (d : IssueNow) → n < length xs → P (k + n) (slice_index_or xs n d)) → EachFrom P k xs
each-from P k [] h = tt
each-from P k (x ∷ xs) h = (
  subst (λ (m : ℕ). P m x) (none k) (h 0 x (omega arith)),
  each-from P (k + 1) xs (λ n d within. subst (λ (m : ℕ). P m (slice_index_or xs n d)) (one k n) (h (suc n) d (omega (arith, within)))),
)
  where
    none : (m : ℕ) → m + 0 ≡ m
    none m = omega arith

    one : (m n : ℕ) → m + suc n ≡ m + 1 + n
    one m n = omega arith

-- an item that was found stands there
got : {X : Type 0} (xs : List X) (n : ℕ) (x : X) → slice_get xs n ≡ Some x → (n < length xs) × (slice_index_or xs n x ≡ x)
got [] n x is = absurd (cc)
got {X} (y ∷ xs) zero x is = (omega arith, same y x is)
  where
    same : (a b : X) → Some a ≡ Some b → a ≡ b
    same a b h = cc
got (y ∷ xs) (suc n) x is = let rest = got xs n x is in (omega (arith, rest.0), rest.1)

-- what holds of the deeds of each issue holds of all
deeds-each : (Q : ℕ → Deed → Type 0) (issues : ℕ) (ds : List Deed) → ((n : ℕ) → n < issues → All (Q n) (deeds_at n ds)) → All (λ (x : Deed). x.line.issue < issues) ds → All (λ (x : Deed). Q x.line.issue x) ds
deeds-each Q issues [] each within = All-nil (λ (x : Deed). Q x.line.issue x)
deeds-each Q issues (x ∷ ds) each within =
    All-cons (λ (y : Deed). Q y.line.issue y) x ds here (deeds-each Q issues ds (λ n there. rest n (x.line.issue == n) (each n there)) (All-tail (λ (y : Deed). y.line.issue < issues) x ds within))
  where
    here : Q x.line.issue x
    here = All-head (Q x.line.issue) x (deeds_at x.line.issue ds)
        (subst (λ (b : Bool). All (Q x.line.issue) (cond b (x ∷ deeds_at x.line.issue ds) (deeds_at x.line.issue ds))) (eq-eqb x.line.issue x.line.issue refl)
        (each x.line.issue (All-head (λ (y : Deed). y.line.issue < issues) x ds within)))

    rest : (n : ℕ) (b : Bool) → All (Q n) (cond b (x ∷ deeds_at n ds) (deeds_at n ds)) → All (Q n) (deeds_at n ds)
    rest n true all = All-tail (Q n) x (deeds_at n ds) all
    rest n false all = all

-- what holds of each read
module _ (P : ShowLine → Type 0) (gateway : Caller) where
  abbrev read_at : Deed → Board → ShowLine
  read_at x b = record { line = x.line.line; gateway = gateway; issue = x.line.issue; board = b }

  abbrev Shows : Deed → Type 0
  Shows x = IfSome (board_by x.answer) (λ (b : Board). P (read_at x b))

  reads-all : (ds : List Deed) → All Shows ds → All P (filter_map (show_of gateway) ds)
  reads-all [] all = All-nil P
  reads-all (x ∷ ds) all = by (board_by x.answer) (All-head Shows x ds all) (reads-all ds (All-tail Shows x ds all))
    where
      by : (o : Option Board) → IfSome o (λ (b : Board). P (read_at x b)) → All P (filter_map (show_of gateway) ds) → All P (cons_option (option_map (read_at x) o) (filter_map (show_of gateway) ds))
      by None here rest = rest
      by (Some b) here rest = All-cons P (read_at x b) (filter_map (show_of gateway) ds) here rest

module _ (rules : Rules) (script : Script) (sound : IsScript rules script) (counts : List ℕ) (opened : List IssueNow) (counted : counts ≡ counts_for (length (issues_in rules)) script.lines)
    (each : length opened ≡ length (issues_in rules)) (fresh : EachFrom (IsFresh rules counts) 0 opened) where
  abbrev gateways : ℕ
  gateways = length (gateways_in rules)

  fresh-at : (n : ℕ) (d : IssueNow) → n < length opened → IsFresh rules counts n (slice_index_or opened n d)
  fresh-at n d within = each-get (IsFresh rules counts) 0 n n opened (slice_index_or opened n d) fresh (slice_get-get_or opened n d within) (omega arith)

  opened-at : (n : ℕ) (d : IssueNow) → n < length opened → IsOpenedFor rules n (count_for n script.lines) (slice_index_or opened n d)
  opened-at n d within =
      let count : slice_index_or counts n 0 ≡ count_for n script.lines =
      ap (λ (ns : List ℕ). slice_index_or ns n 0) counted ∙ get_or-map-range_with_len (λ (m : ℕ). count_for m script.lines) 0 (length (issues_in rules)) n n 0 (omega (arith, within, each)) (omega arith) in
      subst (λ (m : ℕ). IsOpenedFor rules n m (slice_index_or opened n d)) count (fresh-at n d within).opened

  -- ---- before the first line

  pub all-fresh : All (λ (i : IssueNow). (i.entries ≡ []) × (i.halt ≡ None)) opened
  all-fresh n d within = let f = fresh-at n d within in (f.entries, f.halt)

  act-in : (act : Act) → IsActOf rules act → IsActIn (length (participants_in rules)) act
  act-in (Do event) is = event-sound rules (length (participants_in rules)) event refl is
  act-in Show is = tt

  pub lines-for : AreLinesFor (length (participants_in rules)) script.stages script.lines opened
  lines-for = record {
    issue = subst (λ (n : ℕ). All (λ (of : GatewayScriptLine). of.line.issue < n) script.lines) (sym each) sound.issues;
    acts = λ k of within. act-in (slice_index_or script.lines k of).line.act (sound.acts k of within);
    below = sound.below;
    same = λ n i within. (opened-at n i within).participants;
  }

  -- ---- when all is closed

  module _ (law : EndIsPlayed) (run_law : PlayedIsRun) (show_law : PlayedShows) (closed : List IssueNow) (gs : List GatewayNow) (played : WerePlayed script gateways opened closed gs) where
    abbrev issues : List EndedIssue
    issues = map ended_as closed

    as-many : length closed ≡ length (issues_in rules)
    as-many = played.issues_each ∙ each

    closed-in : (n : ℕ) → n < length closed → n < length opened
    closed-in n within = omega (arith, within, played.issues_each)

    same-fixed : (n : ℕ) (d : IssueNow) → n < length closed → (slice_index_or closed n d).fixed ≡ (slice_index_or opened n d).fixed
    same-fixed n d within = played.fixed n d (closed-in n within)

    participants-at : (n : ℕ) (d : IssueNow) → n < length closed → (slice_index_or closed n d).fixed.participants ≡ length (participants_in rules)
    participants-at n d within = ap (λ (f : Fixed). f.participants) (same-fixed n d within) ∙ (opened-at n d (closed-in n within)).participants

    played-at : (n : ℕ) (d : IssueNow) → n < length closed → IsPlayed gateways script n (played.cuts n) (λ g. deeds_at n (played.deeds g)) (slice_index_or closed n d)
    played-at n d within =
        law rules script n (played.cuts n) (λ g. deeds_at n (played.deeds g)) (played.desks n) (played.final n) (slice_index_or closed n d) sound (record {
          capacity = ap (λ (f : Fixed). f.capacity) (same-fixed n d within) ∙ (opened-at n d (closed-in n within)).capacity;
          closed = played.closed n d (closed-in n within);
          did = λ g from upto. played.all.did n g (closed-in n within) from upto;
          others = λ g above. ap (deeds_at n) (played.all.others g above);
        })

    ended-at : (n : ℕ) (d : IssueNow) → n < length closed → IsEnded rules (ended_as (slice_index_or closed n d))
    ended-at n d within =
        let p = played-at n d within in
        ended-now rules (slice_index_or closed n d) (participants-at n d within) (played.closed n d (closed-in n within)).issue_now p.callers p.halter

    pub labelled : EachFrom IsLabelled 0 closed
    labelled = each-from IsLabelled 0 closed (λ n d within.
        let o = opened-at n d (closed-in n within) in
        let f = same-fixed n d within in
        subst (λ (m : ℕ). IsLabelled m (slice_index_or closed n d)) (none n) (record {
          issue_now = (played.closed n d (closed-in n within)).issue_now;
          place = ap (λ (x : Fixed). x.place) f ∙ o.place;
          first = ap (λ (x : Fixed). x.first) f ∙ o.first;
          second = ap (λ (x : Fixed). x.second) f ∙ o.second;
          third = ap (λ (x : Fixed). x.third) f ∙ o.third;
        }))
      where
        none : (m : ℕ) → m ≡ 0 + m
        none m = omega arith

    pub few-closed : length closed ≡ length (issues_in rules)
    few-closed = as-many

    -- what is known of an issue that was found
    found : (n : ℕ) (e : EndedIssue) → slice_get issues n ≡ Some e → (x : IssueNow) × (n < length closed) × (e ≡ ended_as (slice_index_or closed n x))
    found n e is =
        let f = found-ended closed n e is in
        let at = got closed n f.0 f.1 in
        (f.0, at.0, f.2 ∙ ap ended_as (sym at.1))

    history-at : (n : ℕ) (e : EndedIssue) → slice_get issues n ≡ Some e → IsHistory (length (participants_in rules)) e.journal
    history-at n e is =
        let f = found n e is in
        subst (λ (x : EndedIssue). IsHistory (length (participants_in rules)) x.journal) (sym f.2) (ended-at n f.0 f.1).history

    all-played : (n : ℕ) (e : EndedIssue) → slice_get issues n ≡ Some e → AllPlayed script n (played.cuts n) e (λ g. deeds_at n (played.deeds g))
    all-played n e is =
        let f = found n e is in
        subst (λ (x : EndedIssue). AllPlayed script n (played.cuts n) x (λ g. deeds_at n (played.deeds g))) (sym f.2) (played-at n f.0 f.1).all

    -- ---- reads of boards

    numbered-at : (k : ℕ) (g : GatewayNow) → k < length gs → (slice_index_or gs k g).caller.0 ≡ k + 1
    numbered-at k g within = played.all.numbers k g (omega (arith, within, played.all.many))

    pub numbered : AreNumbered gs
    numbered = numbered-at

    pub lines-named : All (λ (of : GatewayScriptLine). (1 ≤ of.gateway.0) × (of.gateway.0 ≤ length gs)) script.lines
    lines-named = subst (λ (n : ℕ). All (λ (of : GatewayScriptLine). (1 ≤ of.gateway.0) × (of.gateway.0 ≤ n)) script.lines) (sym played.all.many) sound.gateways

    shows-at : (k : ℕ) (g : GatewayNow) → k < length gs → (slice_index_or gs k g).shows ≡ filter_map (show_of (slice_index_or gs k g).caller) (played.deeds (slice_index_or gs k g).caller.0)
    shows-at k g within =
        played.all.shows k g (omega (arith, within, played.all.many))
        ∙ ap (λ (m : ℕ). filter_map (show_of (slice_index_or gs k g).caller) (played.deeds m)) (sym (numbered-at k g within))

    law-at : (k : ℕ) (g : GatewayNow) → k < length gs
        → AreReadsBy script.lines issues (slice_index_or gs k g).caller.0 (filter_map (show_of (slice_index_or gs k g).caller) (played.deeds (slice_index_or gs k g).caller.0))
        × AllPairs IsNoShorter (filter_map (show_of (slice_index_or gs k g).caller) (played.deeds (slice_index_or gs k g).caller.0))
    law-at k g within =
        let number = numbered-at k g within in
        show_law rules script (length (participants_in rules)) issues played.cuts played.deeds (slice_index_or gs k g).caller sound (omega (arith, number)) (length-map closed ended_as ∙ as-many) history-at all-played
        (played.all.lines (slice_index_or gs k g).caller.0 (omega (arith, number)) (omega (arith, number, within, played.all.many)))

    reads : EachGateway (λ (g : ℕ) (ss : List ShowLine). AreReadsBy script.lines issues g ss) gs
    reads k g within =
        subst (λ (n : ℕ). AreReadsBy script.lines issues n (slice_index_or gs k g).shows) (numbered-at k g within)
        (subst (λ (ss : List ShowLine). AreReadsBy script.lines issues (slice_index_or gs k g).caller.0 ss) (sym (shows-at k g within)) (law-at k g within).0)

    forward : EachGateway (λ (g : ℕ) (ss : List ShowLine). AllPairs IsNoShorter ss) gs
    forward k g within = subst (AllPairs IsNoShorter) (sym (shows-at k g within)) (law-at k g within).1

    own : EachGateway (λ (g : ℕ) (ss : List ShowLine). All (λ (s : ShowLine). s.gateway.0 ≡ g) ss) gs
    own k g within =
        subst (All (λ (s : ShowLine). s.gateway.0 ≡ k + 1)) (sym (shows-at k g within))
        (reads-all (λ (s : ShowLine). s.gateway.0 ≡ k + 1) (slice_index_or gs k g).caller (played.deeds (slice_index_or gs k g).caller.0)
        (λ i x there. always (board_by (slice_index_or (played.deeds (slice_index_or gs k g).caller.0) i x).answer)))
      where
        always : (o : Option Board) → IfSome o (λ (b : Board). (slice_index_or gs k g).caller.0 ≡ k + 1)
        always None = tt
        always (Some b) = numbered-at k g within

    -- a gateway's deeds are in issues of the rules
    deeds-named : (gateway : ℕ) → 1 ≤ gateway → gateway ≤ gateways → All (λ (x : Deed). x.line.issue < length closed) (played.deeds gateway)
    deeds-named gateway from upto = unmapped-lines (played.deeds gateway) (subst (All (λ (l : ScriptLine). l.issue < length closed)) (sym (played.all.lines gateway from upto))
        (bare-all script.lines gateway (λ (l : ScriptLine). l.issue < length closed) (subst (λ (n : ℕ). All (λ (of : GatewayScriptLine). of.line.issue < n) script.lines) (sym as-many) sound.issues)))
      where
        unmapped-lines : (ds : List Deed) → All (λ (l : ScriptLine). l.issue < length closed) (lines_done ds) → All (λ (x : Deed). x.line.issue < length closed) ds
        unmapped-lines ds all = unmapped (λ (l : ScriptLine). l.issue < length closed) (λ (x : Deed). x.line) ds all

    -- the board of a deed in an issue
    abbrev IsBoardAt : ℕ → Deed → Type 0
    IsBoardAt n x = IfSome (board_by x.answer) (λ (b : Board). (d : IssueNow) → IsBoardIn (slice_index_or closed n d) b)

    board-of : (gateway : Caller) (x : Deed) → IsBoardAt x.line.issue x → IfSome (board_by x.answer) (λ (b : Board). IsBoardOf rules issues (record { line = x.line.line; gateway = gateway; issue = x.line.issue; board = b }))
    board-of gateway x = some-then (λ (b : Board). (d : IssueNow) → IsBoardIn (slice_index_or closed x.line.issue d) b)
        (λ (b : Board). IsBoardOf rules issues (record { line = x.line.line; gateway = gateway; issue = x.line.issue; board = b })) (board_by x.answer) (λ b its. one b its)
      where
        one : (b : Board) → ((d : IssueNow) → IsBoardIn (slice_index_or closed x.line.issue d) b) → (r : IssueRules) (ended : EndedIssue) → slice_get (issues_in rules) x.line.issue ≡ Some r → slice_get issues x.line.issue ≡ Some ended
            → IsShown rules r ended.journal b
        one b its r ended rules-of at =
            let f = found x.line.issue ended at in
            let i : IssueNow = slice_index_or closed x.line.issue f.0 in
            let board = its f.0 in
            let terms : i.fixed.terms ≡ terms_of rules r =
            ap (λ (y : Fixed). y.terms) (same-fixed x.line.issue f.0 f.1) ∙ (opened-at x.line.issue f.0 (closed-in x.line.issue f.1)).terms r rules-of in
            subst (λ (e : EndedIssue). IsShown rules r e.journal b) (sym f.2) (record {
              within = board.within;
              board_is = board.board_is ∙ ap (λ (t : Terms). board_of t (state_after t (take b.length i.entries))) terms;
            })

    boards-in : (gateway : ℕ) → 1 ≤ gateway → (n : ℕ) → n < length closed → All (IsBoardAt n) (deeds_at n (played.deeds gateway))
    boards-in gateway from n within = λ k x there.
        by (board_by (slice_index_or (deeds_at n (played.deeds gateway)) k x).answer) (λ d. (played-at n d within).boards gateway from k x there)
      where
        by : (o : Option Board) → ((d : IssueNow) → IfSome o (IsBoardIn (slice_index_or closed n d))) → IfSome o (λ (b : Board). (d : IssueNow) → IsBoardIn (slice_index_or closed n d) b)
        by None each-one = tt
        by (Some b) each-one = each-one

    boards : EachGateway (λ (g : ℕ) (ss : List ShowLine). All (IsBoardOf rules issues) ss) gs
    boards k g within =
        let number = numbered-at k g within in
        let caller : Caller = (slice_index_or gs k g).caller in
        let from : 1 ≤ caller.0 = omega (arith, number) in
        let upto : caller.0 ≤ gateways = omega (arith, number, within, played.all.many) in
        subst (All (IsBoardOf rules issues)) (sym (shows-at k g within))
        (reads-all (IsBoardOf rules issues) caller (played.deeds caller.0) (λ i x there.
        board-of caller (slice_index_or (played.deeds caller.0) i x)
        (deeds-each IsBoardAt (length closed) (played.deeds caller.0) (boards-in caller.0 from) (deeds-named caller.0 from upto) i x there)))

    -- ---- the run

    module _ (shows : List ShowLine) (merged : AreMerged script.lines gs shows) where
      shown : AreShowsOf script.lines issues shows
      shown = merged.reads issues reads

      shown-for : AllZip IsFor (filter is_show script.lines) shows
      shown-for = zip-map Read IsFor (filter is_show script.lines) shows (IsOfRules rules) one (reads-known rules script sound) shown
        where
          Read : GatewayScriptLine → ShowLine → Type 0
          Read of s = (ended : EndedIssue) → slice_get issues of.line.issue ≡ Some ended → IsShowOf script.lines ended.journal of s

          one : (of : GatewayScriptLine) (s : ShowLine) → IsOfRules rules of → Read of s → IsFor of s
          one of s known read =
              let long : length issues ≡ length (issues_in rules) = length-map closed ended_as ∙ as-many in
              let there = get-there issues of.line.issue (omega (arith, known.0, long)) in
              let its = read there.0 there.1 in
              record { line = its.line; gateway = its.gateway; issue = its.issue }

      printable : IsRun rules (run_of issues shows)
      printable = record {
        each = length-map closed ended_as ∙ as-many;
        ended = All-map (IsEnded rules) ended_as closed (λ n d within. ended-at n d within);
        named = reads-named rules script shows sound shown-for;
        shown = merged.boards rules issues boards;
        rise = reads-rise rules script shows sound shown-for;
      }

      pub is-run : IsRunOf rules script (run_of issues shows)
      is-run = record {
        printable = printable;
        issues = λ n e is. run_law rules script (length (participants_in rules)) n (played.cuts n) e (λ g. deeds_at n (played.deeds g)) sound (history-at n e is) (all-played n e is);
        shows = shown;
        forward = merged.forward issues reads own forward;
      }
