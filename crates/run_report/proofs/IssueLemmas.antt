-- The part of an issue, from the steps of its machine.
use Rattle.std.proofs.Common.{◌≡◌, ℕ, ◌+◌, ◌<◌, ◌≤◌, false, true, List, [], ◌++◌, Option, Some, inl, inr, length, flat_map, slice_get, append_assoc, sym, ap, subst, ◌∙◌, arith}
use Rattle.std.specs.Option.{option_map_or}
use Rattle.std.proofs.lemmas.Option.{slice_get_cases}
use Rattle.mkt_base.specs.declared.units.Price.{Price}
use Rattle.mkt_io.specs.Printed.{PrintsLines, before_lines, has_fault, same_lines}
use Rattle.mkt_io.specs.declared.printer.Printer.{Printer}
use Rattle.rules_file.specs.Rules.{issues_in, participants_in}
use Rattle.rules_file.specs.declared.issue.IssueRules.{IssueRules}
use Rattle.rules_file.specs.declared.rules.Rules.{Rules}
use Rattle.rules_report.specs.Tables.{issue_line}
use Rattle.issue_book.specs.IssueView.{terms_of}
use Rattle.issue_book.specs.State.{Terms, start}
use Rattle.issue_machine.specs.Journal.{AreEntries, IsJournal, MachineView, new_machine}
use Rattle.issue_machine.specs.Step.{replay, state_after, state_from}
use Rattle.run_report.specs.Issue.{totals_on}
use Rattle.run_report.specs.Report.{done_text, halted_line, issue_text, issue_text_on, nodes_at_end, nodes_line, trades_of}
use Rattle.run_report.specs.Watched.{Counted, shares_of}
use Rattle.run_report.specs.declared.ended.EndedIssue.{EndedIssue}
use Rattle.run_report.specs.declared.ended.Totals.{Totals}
use Rattle.run_report.specs.declared.tally.Tally.{Tally}
use Rattle.run_report.proofs.FrontLemmas.{lines_behind}

-- what the rules say of an issue that they have, with which its machine is made
pub record IsMade (rules : Rules) (issue capacity : ℕ) (m : MachineView) : Type 0 where
  pub rules_of : IssueRules
  pub there : slice_get (issues_in rules) issue ≡ Some rules_of
  pub made : m ≡ new_machine rules rules_of capacity

pub machine-made : (rules : Rules) (issue capacity : ℕ) (m : MachineView) → issue < length (issues_in rules)
    → ((r : IssueRules) → slice_get (issues_in rules) issue ≡ Some r → m ≡ new_machine rules r capacity) → IsMade rules issue capacity m
machine-made rules issue capacity m within made =
    elim (slice_get_cases (issues_in rules) issue).1 [
      | inl there ↦ record { rules_of = there.0; there = there.2; made = made there.0 there.2 }
      | inr past ↦ absurd (omega (arith, past.0))
    ]

-- a machine that is made may do its journal
pub journal-ready : (rules : Rules) (r : IssueRules) (capacity : ℕ) (m : MachineView) (ended : EndedIssue) → m ≡ new_machine rules r capacity → capacity ≡ length ended.journal
    → IsJournal (length (participants_in rules)) ended.journal
    → (m.issue.state.entries + length ended.journal ≤ m.issue.capacity) × AreEntries m.participants m.issue.state.entries m.next_own ended.journal
journal-ready rules r capacity m ended made room journal =
    let P : MachineView → Type 0 = λ m. (m.issue.state.entries + length ended.journal ≤ m.issue.capacity) × AreEntries m.participants m.issue.state.entries m.next_own ended.journal in
    let here : P (new_machine rules r capacity) = (omega (arith, room), journal) in
    subst P (sym made) here

-- the part of an issue but for its totals
abbrev pub head_text : Rules → ℕ → Terms → EndedIssue → List ℕ
head_text rules issue t ended =
    issue_line rules issue ++ flat_map (done_text rules) (replay t (start t) ended.journal) ++ halted_line rules ended.halt
    ++ nodes_line (nodes_at_end ended.halt (state_after t ended.journal))

-- the part of an issue that the rules have
pub part-is : (rules : Rules) (issue : ℕ) (ended : EndedIssue) (r : IssueRules) → slice_get (issues_in rules) issue ≡ Some r
    → issue_text rules issue ended ≡ issue_text_on rules issue (terms_of rules r) ended
part-is rules issue ended r there = ap (λ found. option_map_or (λ r. issue_text_on rules issue (terms_of rules r) ended) found []) there

-- totals are the same by their parts
totals-same : {a b c d e f : ℕ} {p q : Price} → a ≡ d → b ≡ e → c ≡ f → p ≡ q
    → let x : Totals = record { entries = a; trades = b; shares = c; last = p } in let y : Totals = record { entries = d; trades = e; shares = f; last = q } in x ≡ y
totals-same i j k l = cc

-- up to a fault all of the part counts as printed
pub stopped-part : (rules : Rules) (issue : ℕ) (r : IssueRules) (capacity : ℕ) (ended : EndedIssue) (m : MachineView) → m ≡ new_machine rules r capacity
    → {O : Type 0} {contents : O → Option (List ℕ)} {faults : O → ℕ} {p q s : Printer O} → has_fault s ≡ true → PrintsLines contents faults p q (issue_line rules issue)
    → PrintsLines contents faults q s (flat_map (done_text rules) (replay m.issue.terms m.issue.state ended.journal)) → PrintsLines contents faults p s (issue_text_on rules issue (terms_of rules r) ended)
stopped-part rules issue r capacity ended m made fault first steps =
    let t = terms_of rules r in
    let text = ap (λ (v : MachineView). issue_line rules issue ++ flat_map (done_text rules) (replay v.issue.terms v.issue.state ended.journal)) made in
    lines_behind _ fault (lines_behind _ fault (lines_behind _ fault (same_lines text (before_lines first steps))))

module _ (rules : Rules) (issue : ℕ) (r : IssueRules) (capacity : ℕ) (ended : EndedIssue) (m n : MachineView) (made : m ≡ new_machine rules r capacity)
    (state : n.issue.state ≡ state_from m.issue.terms ended.journal m.issue.state) where
  -- the machine's state in the end
  state-is : n.issue.state ≡ state_after (terms_of rules r) ended.journal
  state-is = state ∙ ap (λ (v : MachineView). state_from v.issue.terms ended.journal v.issue.state) made

  -- all but the totals is printed
  pub head-printed : {O : Type 0} {contents : O → Option (List ℕ)} {faults : O → ℕ} {p q s u : Printer O} → PrintsLines contents faults p q (issue_line rules issue)
      → PrintsLines contents faults q s (flat_map (done_text rules) (replay m.issue.terms m.issue.state ended.journal))
      → PrintsLines contents faults s u (halted_line rules ended.halt ++ nodes_line (nodes_at_end ended.halt n.issue.state))
      → PrintsLines contents faults p u (head_text rules issue (terms_of rules r) ended)
  head-printed first steps last =
      let t = terms_of rules r in
      let halted = halted_line rules ended.halt in
      let before = issue_line rules issue ++ flat_map (done_text rules) (replay t (start t) ended.journal) in
      let nodes = nodes_line (nodes_at_end ended.halt (state_after t ended.journal)) in
      let text = ap (λ (v : MachineView). (issue_line rules issue ++ flat_map (done_text rules) (replay v.issue.terms v.issue.state ended.journal)) ++ (halted ++ nodes_line (nodes_at_end ended.halt n.issue.state))) made
      ∙ ap (λ s. before ++ (halted ++ nodes_line (nodes_at_end ended.halt s))) state-is ∙ sym (append_assoc before halted nodes) in
      same_lines text (before_lines (before_lines first steps) last)

  -- what was counted are the totals
  pub totals-are : (tally none : Tally) (entries : ℕ) (last : Price) → none.trades ≡ 0 → none.shares ≡ 0 → Counted none (trades_of (replay m.issue.terms m.issue.state ended.journal)) tally
      → tally.passed ≡ false → entries ≡ length ended.journal → last ≡ record { 0 = n.issue.state.last }
      → let totals : Totals = record { entries = entries; trades = tally.trades; shares = tally.shares; last = last } in totals ≡ totals_on (terms_of rules r) ended
  totals-are tally none entries last no_trades no_shares counted not_passed all is =
      let t = terms_of rules r in
      let trades = trades_of (replay m.issue.terms m.issue.state ended.journal) in
      let trades-are : trades ≡ trades_of (replay t (start t) ended.journal) = ap (λ (v : MachineView). trades_of (replay v.issue.terms v.issue.state ended.journal)) made in
      let number : tally.trades ≡ length trades = omega (arith, counted.number not_passed, no_trades) in
      let shares : tally.shares ≡ shares_of trades = omega (arith, counted.shares not_passed, no_shares) in
      let price : ℕ → Price = λ p. record { 0 = p } in
      totals-same all (number ∙ ap length trades-are) (shares ∙ ap shares_of trades-are) (is ∙ ap (λ s. price s.last) state-is)
