-- Trades that are counted, and the journals and totals that they come from.
use Rattle.std.proofs.Common.{◌≡◌, ℕ, ◌+◌, ◌<◌, ◌≤◌, List, [], ◌∷◌, ◌++◌, Some, length, filter_map, drop, get_or, map, slice_get, inl, inr, append-nil, append_assoc, refl, sym, ap, subst, ◌∙◌, arith}
use Rattle.std.specs.Option.{option_map_or}
use Rattle.std.proofs.lemmas.List.{drop_more}
use Rattle.std.proofs.lemmas.List.Elements.{filter_map-append}
use Rattle.std.proofs.lemmas.Option.{slice_get_cases}
use Rattle.mkt_base.specs.declared.auction.Sums.{Sums}
use Rattle.mkt_base.specs.declared.auction.Trade.{Trade}
use Rattle.mkt_base.specs.declared.event.Entry.{Entry}
use Rattle.mkt_base.specs.declared.output.Output.{Output}
use Rattle.mkt_base.specs.declared.output.Output.TheVariants as outputs
use Rattle.rules_file.specs.Rules.{issues_in}
use Rattle.rules_file.specs.declared.issue.IssueRules.{IssueRules}
use Rattle.rules_file.specs.declared.rules.Rules.{Rules}
use Rattle.issue_book.specs.Filled.{trade_in}
use Rattle.issue_book.specs.IssueView.{terms_of}
use Rattle.issue_book.specs.State.{State}
use Rattle.issue_machine.specs.Journal.{AreEntries, MachineView, MayStep, stepped}
use Rattle.issue_machine.specs.Step.{replay, state_from, step}
use Rattle.run_report.specs.Issue.{done_of, totals_line}
use Rattle.run_report.specs.Report.{trades_of}
use Rattle.run_report.specs.Summed.{CountedOutputs, issue_total, issue_total_on, issue_totals, totals_by}
use Rattle.run_report.specs.Watched.{Counted, nothing_counted}
use Rattle.run_report.specs.declared.ended.EndedIssue.{EndedIssue}
use Rattle.run_report.specs.declared.ended.Totals.{Totals}
use Rattle.run_report.specs.declared.tally.Tally.{Tally}
use Rattle.run_report.specs.declared.totals.CountingWatch.{CountingWatch}
use Rattle.run_report.proofs.ShownLemmas.{counted_then}

-- ---- what the watch counts

-- the same trades under another name
pub same_counted : {p q : Tally} {xs ys : List Trade} → xs ≡ ys → Counted p xs q → Counted p ys q
same_counted {p} {q} e counted = let P : List Trade → Type 0 = λ ts. Counted p ts q in subst P e counted

-- one output more, with the trade that it is
pub output_counted : {from p q : CountingWatch} (os : List Output) (o : Output) → CountedOutputs from os p → Counted p.tally (filter_map trade_in (o ∷ [])) q.tally → CountedOutputs from (os ++ o ∷ []) q
output_counted {from} {p} {q} os o before more = same_counted (sym (filter_map-append trade_in os (o ∷ []))) (counted_then before more)

-- rejected prices are no trades
no_trades : (rejected : List Sums) → filter_map trade_in (map (λ sums. outputs.Rejected sums) rejected) ≡ []
no_trades [] = refl
no_trades (s ∷ more) = no_trades more

pub rejected_counted : (from w : CountingWatch) (os : List Output) (rejected : List Sums) → CountedOutputs from os w → CountedOutputs from (os ++ map (λ sums. outputs.Rejected sums) rejected) w
rejected_counted from w os rejected counted =
    let more = map (λ sums. outputs.Rejected sums) rejected in
    same_counted (sym (filter_map-append trade_in os more ∙ ap (λ ts. filter_map trade_in os ++ ts) (no_trades rejected) ∙ append-nil _)) counted

-- ---- a journal

-- a journal's steps up to a machine and a tally: what was counted and the trades of the entries that are left are all; they lead to the last
-- state; and the machine may do them
pub record IsCounting (begun : Tally) (all : List Trade) (final : State) (m : MachineView) (w : CountingWatch) (left : List Entry) : Type 0 where
  pub trades : List Trade
  pub counted : Counted begun trades w.tally
  pub traded : trades ++ trades_of (replay m.issue.terms m.issue.state left) ≡ all
  pub state : state_from m.issue.terms left m.issue.state ≡ final
  pub room : m.issue.state.entries + length left ≤ m.issue.capacity
  pub entries : AreEntries m.participants m.issue.state.entries m.next_own left

pub counting-begins : {w : CountingWatch} {m : MachineView} {journal : List Entry} → m.issue.state.entries + length journal ≤ m.issue.capacity
    → AreEntries m.participants m.issue.state.entries m.next_own journal
    → IsCounting w.tally (trades_of (replay m.issue.terms m.issue.state journal)) (state_from m.issue.terms journal m.issue.state) m w journal
counting-begins room entries = record { trades = []; counted = nothing_counted; traded = refl; state = refl; room = room; entries = entries }

module _ {begun : Tally} {all : List Trade} {final : State} where
  -- the next entry may be done
  pub counting-may : {m : MachineView} {w : CountingWatch} {e : Entry} {left es : List Entry} → left ≡ e ∷ es → IsCounting begun all final m w left → MayStep m e
  counting-may {m} {w} {e} {left} {es} is counting =
      let s : IsCounting begun all final m w (e ∷ es) = rw is at counting in
      record { room = omega (arith, s.room); entry = s.entries.0 }

  -- and is done
  pub counting-next : {m n : MachineView} {w x : CountingWatch} {e : Entry} {left es : List Entry} → left ≡ e ∷ es → IsCounting begun all final m w left
      → Counted w.tally (trades_of (done_of m e ∷ [])) x.tally → n ≡ stepped m e → n.issue.state.entries ≡ m.issue.state.entries + 1
      → IsCounting begun all final n x es
  counting-next {m} {n} {w} {x} {e} {left} {es} next counting counted is count =
      let s : IsCounting begun all final m w (e ∷ es) = rw next at counting in
      let further = trades_of (replay m.issue.terms (step m.issue.terms e m.issue.state).state es) in
      let traded = trades_of (done_of m e ∷ []) in
      let P : MachineView → Type 0 = λ n. n.issue.state.entries ≡ m.issue.state.entries + 1 → IsCounting begun all final n x es in
      let here : P (stepped m e) = λ count. record {
        trades = s.trades ++ traded;
        counted = counted_then s.counted counted;
        traded = append_assoc s.trades traded further ∙ ap (λ ts. s.trades ++ (ts ++ further)) (append-nil _) ∙ s.traded;
        state = s.state;
        room = omega (arith, s.room, count);
        entries = let Q : ℕ → Type 0 = λ k. AreEntries m.participants k (stepped m e).next_own es in subst Q (sym count) s.entries.1;
      } in
      subst P (sym is) here count

  -- at the end all is counted
  pub counting-ends : {m : MachineView} {w : CountingWatch} → IsCounting begun all final m w [] → Counted begun all w.tally
  counting-ends {m} {w} s = same_counted (sym (append-nil s.trades) ∙ s.traded) s.counted

-- ---- the lines

-- the totals of an issue that the rules have
pub total-is : (rules : Rules) (issue : ℕ) (ended : EndedIssue) (r : IssueRules) → slice_get (issues_in rules) issue ≡ Some r
    → issue_total rules issue ended ≡ issue_total_on rules issue (terms_of rules r) ended
total-is rules issue ended r there = ap (λ found. option_map_or (λ r. issue_total_on rules issue (terms_of rules r) ended) found []) there

-- the totals of one issue more
pub total-next : (rules : Rules) (i : ℕ) (issues : List EndedIssue) (item : EndedIssue) (text whole : List ℕ) → i < length issues → item ≡ get_or issues i item
    → text ++ issue_totals rules i (drop i issues) ≡ whole → (text ++ issue_total rules i item) ++ issue_totals rules (i + 1) (drop (i + 1) issues) ≡ whole
total-next rules i issues item text whole within is all =
    let left : drop i issues ≡ item ∷ drop (i + 1) issues = drop_more issues i item within ∙ ap (λ x. x ∷ drop (i + 1) issues) (sym is) in
    append_assoc text (issue_total rules i item) (issue_totals rules (i + 1) (drop (i + 1) issues)) ∙ ap (λ more. text ++ issue_totals rules i more) (sym left) ∙ all

-- an issue of the rules
pub there-is : (rules : Rules) (issue : ℕ) → issue < length (issues_in rules) → (r : IssueRules) × (slice_get (issues_in rules) issue ≡ Some r)
there-is rules issue within = elim (slice_get_cases (issues_in rules) issue).1 [
  | inl there ↦ (there.0, there.2)
  | inr past ↦ absurd (omega (arith, past.0))
]

-- the line of totals that were counted is the issue's
pub line-is : (rules : Rules) (issue : ℕ) (ended : EndedIssue) (r : IssueRules) (journal : List Entry) (totals : Totals) → slice_get (issues_in rules) issue ≡ Some r
    → totals ≡ totals_by (terms_of rules r) journal → journal ≡ ended.journal → totals_line rules issue totals ≡ issue_total rules issue ended
line-is rules issue ended r journal totals there is same =
    let whole : totals ≡ totals_by (terms_of rules r) ended.journal = is ∙ ap (λ es. totals_by (terms_of rules r) es) same in
    ap (λ (t : Totals). totals_line rules issue t) whole ∙ sym (total-is rules issue ended r there)
