-- The steps of a journal, one after another.
use Rattle.std.proofs.Common.{◌≡◌, ℕ, ◌+◌, ◌≤◌, true, List, [], ◌∷◌, ◌++◌, Option, length, flat_map, append-nil, append_assoc, refl, sym, ap, subst, ◌∙◌, arith}
use Rattle.mkt_base.specs.declared.auction.Trade.{Trade}
use Rattle.mkt_base.specs.declared.event.Entry.{Entry}
use Rattle.mkt_io.specs.Printed.{has_fault, same_lines}
use Rattle.issue_book.specs.State.{State}
use Rattle.issue_machine.specs.Journal.{AreEntries, MachineView, MayStep, stepped}
use Rattle.issue_machine.specs.Step.{replay, state_from, step}
use Rattle.run_report.specs.Issue.{done_of}
use Rattle.run_report.specs.Report.{done_text, entry_line, output_line, reply_line, trades_of}
use Rattle.run_report.specs.Watched.{Shown, ShownLines, ShownOutputs, nothing_shown}
use Rattle.run_report.specs.declared.watch.PrintWatch.{PrintWatch}
use Rattle.run_report.proofs.FrontLemmas.{lines_behind}
use Rattle.run_report.proofs.ShownLemmas.{same_shown, shown_then}

-- a journal's steps up to a machine and a watch: what was shown and what the entries that are left show is the whole text, with all
-- trades; they lead to the last state; and the machine may do them
pub record IsStepping {O : Type 0} (contents : O → Option (List ℕ)) (faults : O → ℕ) (start : PrintWatch O) (whole : List ℕ) (all : List Trade) (final : State) (m : MachineView) (w : PrintWatch O) (left : List Entry) : Type 0 where
  pub text : List ℕ
  pub trades : List Trade
  pub shown : Shown contents faults start text trades w
  pub texts : text ++ flat_map (done_text w.rules.now) (replay m.issue.terms m.issue.state left) ≡ whole
  pub traded : trades ++ trades_of (replay m.issue.terms m.issue.state left) ≡ all
  pub state : state_from m.issue.terms left m.issue.state ≡ final
  pub room : m.issue.state.entries + length left ≤ m.issue.capacity
  pub entries : AreEntries m.participants m.issue.state.entries m.next_own left

module _ {O : Type 0} {contents : O → Option (List ℕ)} {faults : O → ℕ} where
  -- an entry's line, its outputs and its reply
  pub step_shown : {v w x y : PrintWatch O} (m : MachineView) (e : Entry) → Shown contents faults v (entry_line v.rules.now e) [] w
      → ShownOutputs contents faults w (done_of m e).stepped.outputs x → Shown contents faults x (reply_line x.rules.now (done_of m e).stepped.reply) [] y
      → Shown contents faults v (done_text v.rules.now (done_of m e)) (trades_of (done_of m e ∷ [])) y
  step_shown {v} {w} {x} {y} m e first outputs last =
      let done = done_of m e in
      let text : (entry_line v.rules.now e ++ flat_map (output_line w.rules.now) done.stepped.outputs) ++ reply_line x.rules.now done.stepped.reply ≡ done_text v.rules.now done =
      ap (λ r. (entry_line v.rules.now e ++ flat_map (output_line r) done.stepped.outputs) ++ reply_line x.rules.now done.stepped.reply) first.same_rules
      ∙ ap (λ r. (entry_line v.rules.now e ++ flat_map (output_line v.rules.now) done.stepped.outputs) ++ reply_line r done.stepped.reply) (outputs.same_rules ∙ first.same_rules) in
      same_shown text refl (shown_then (shown_then first outputs) last)

module _ {O : Type 0} {contents : O → Option (List ℕ)} {faults : O → ℕ} where
  -- before the first entry
  pub stepping-begins : {m : MachineView} {w : PrintWatch O} {journal : List Entry} → m.issue.state.entries + length journal ≤ m.issue.capacity
      → AreEntries m.participants m.issue.state.entries m.next_own journal
      → let done = replay m.issue.terms m.issue.state journal in
      IsStepping contents faults w (flat_map (done_text w.rules.now) done) (trades_of done) (state_from m.issue.terms journal m.issue.state) m w journal
  stepping-begins room entries = record { text = []; trades = []; shown = nothing_shown; texts = refl; traded = refl; state = refl; room = room; entries = entries }

module _ {O : Type 0} {contents : O → Option (List ℕ)} {faults : O → ℕ} {start : PrintWatch O} {whole : List ℕ} {all : List Trade} {final : State} where
  -- the next entry may be done
  pub stepping-may : {m : MachineView} {w : PrintWatch O} {e : Entry} {left es : List Entry} → left ≡ e ∷ es → IsStepping contents faults start whole all final m w left → MayStep m e
  stepping-may {m} {w} {e} {left} {es} is stepping =
      let s : IsStepping contents faults start whole all final m w (e ∷ es) = rw is at stepping in
      record { room = omega (arith, s.room); entry = s.entries.0 }

  -- and is done
  pub stepping-next : {m n : MachineView} {w x : PrintWatch O} {e : Entry} {left es : List Entry} → left ≡ e ∷ es → IsStepping contents faults start whole all final m w left
      → Shown contents faults w (done_text w.rules.now (done_of m e)) (trades_of (done_of m e ∷ [])) x → n ≡ stepped m e → n.issue.state.entries ≡ m.issue.state.entries + 1
      → IsStepping contents faults start whole all final n x es
  stepping-next {m} {n} {w} {x} {e} {left} {es} next stepping shown is count =
      let s : IsStepping contents faults start whole all final m w (e ∷ es) = rw next at stepping in
      let more = flat_map (done_text w.rules.now) (replay m.issue.terms (step m.issue.terms e m.issue.state).state es) in
      let further = trades_of (replay m.issue.terms (step m.issue.terms e m.issue.state).state es) in
      let own = done_text w.rules.now (done_of m e) in
      let traded = trades_of (done_of m e ∷ []) in
      let P : MachineView → Type 0 = λ n. n.issue.state.entries ≡ m.issue.state.entries + 1 → IsStepping contents faults start whole all final n x es in
      let here : P (stepped m e) = λ count. record {
        text = s.text ++ own;
        trades = s.trades ++ traded;
        shown = shown_then s.shown shown;
        texts = ap (λ r. (s.text ++ own) ++ flat_map (done_text r) (replay m.issue.terms (step m.issue.terms e m.issue.state).state es)) shown.same_rules
            ∙ append_assoc s.text own more ∙ s.texts;
        traded = append_assoc s.trades traded further ∙ ap (λ ts. s.trades ++ (ts ++ further)) (append-nil _) ∙ s.traded;
        state = s.state;
        room = omega (arith, s.room, count);
        entries = let Q : ℕ → Type 0 = λ k. AreEntries m.participants k (stepped m e).next_own es in subst Q (sym count) s.entries.1;
      } in
      subst P (sym is) here count

  -- at the end all is shown
  pub stepping-ends : {m : MachineView} {w : PrintWatch O} → IsStepping contents faults start whole all final m w [] → Shown contents faults start whole all w
  stepping-ends {m} {w} s = same_shown (sym (append-nil s.text) ∙ s.texts) (sym (append-nil s.trades) ∙ s.traded) s.shown

  -- at a fault all lines count as shown
  pub stepping-stops : {m : MachineView} {w : PrintWatch O} {left : List Entry} → has_fault w.printer.now ≡ true → IsStepping contents faults start whole all final m w left
      → ShownLines contents faults start whole w
  stepping-stops {m} {w} {left} fault s = record {
    same_printer = s.shown.same_printer;
    same_sink = s.shown.same_sink;
    same_rules = s.shown.same_rules;
    printed = same_lines s.texts (lines_behind (flat_map (done_text w.rules.now) (replay m.issue.terms m.issue.state left)) fault s.shown.printed);
  }

-- what is shown are lines
pub lines-of_shown : {O : Type 0} {contents : O → Option (List ℕ)} {faults : O → ℕ} {old new : PrintWatch O} {text : List ℕ} {trades : List Trade}
    → Shown contents faults old text trades new → ShownLines contents faults old text new
lines-of_shown shown = record { same_printer = shown.same_printer; same_sink = shown.same_sink; same_rules = shown.same_rules; printed = shown.printed }
