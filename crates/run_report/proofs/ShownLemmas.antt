-- How what a watch shows composes.
use Rattle.std.proofs.Common.{◌≡◌, ℕ, ◌+◌, List, [], ◌∷◌, ◌++◌, Option, filter_map, flat_map, append-nil, length-append, sym, ap, subst, ◌∙◌, arith}
use Rattle.std.proofs.lemmas.Grind.{flat_map-append}
use Rattle.std.proofs.lemmas.List.Elements.{filter_map-append}
use Rattle.std.proofs.lemmas.List.Sums.{sum_by-append}
use Rattle.mkt_base.specs.declared.auction.Trade.{Trade}
use Rattle.mkt_base.specs.declared.output.Output.{Output}
use Rattle.mkt_io.specs.Printed.{PrintsLines, before_lines}
use Rattle.issue_book.specs.Filled.{trade_in}
use Rattle.run_report.specs.Report.{output_line}
use Rattle.run_report.specs.Watched.{Counted, Shown, ShownOutputs, shares_of}
use Rattle.run_report.specs.declared.tally.Tally.{Tally}
use Rattle.run_report.specs.declared.watch.PrintWatch.{PrintWatch}

-- the shares of trades, and of others
shares-append : (xs ys : List Trade) → shares_of (xs ++ ys) ≡ shares_of xs + shares_of ys
shares-append xs ys = sum_by-append (λ (t : Trade). t.qty) xs ys

-- the trades among outputs, and among others
trades-append : (xs ys : List Output) → filter_map trade_in (xs ++ ys) ≡ filter_map trade_in xs ++ filter_map trade_in ys
trades-append xs ys = filter_map-append trade_in xs ys

pub counted_then : {p q r : Tally} {xs ys : List Trade} → Counted p xs q → Counted q ys r → Counted p (xs ++ ys) r
counted_then {p} {q} {r} {xs} {ys} first second = record {
  kept = λ h. first.kept (second.kept h);
  number = λ h. omega (arith, first.number (second.kept h), second.number h, length-append xs ys);
  shares = λ h. omega (arith, first.shares (second.kept h), second.shares h, shares-append xs ys);
}

module _ {O : Type 0} {contents : O → Option (List ℕ)} {faults : O → ℕ} where
  -- lines, by the printer alone
  pub lines_shown : {p q : PrintWatch O} {text : List ℕ} {trades : List Trade} → q.printer.ghost_name ≡ p.printer.ghost_name → q.rules.now ≡ p.rules.now
      → PrintsLines contents faults p.printer.now q.printer.now text → Counted p.tally trades q.tally → Shown contents faults p text trades q
  lines_shown name rules lines counted = record { same_printer = name; same_sink = lines.same_sink; same_rules = rules; printed = lines; counted = counted }

  -- a text, and then another
  pub shown_then : {p q r : PrintWatch O} {xs ys : List ℕ} {ts us : List Trade} → Shown contents faults p xs ts q → Shown contents faults q ys us r → Shown contents faults p (xs ++ ys) (ts ++ us) r
  shown_then {p} {q} {r} {xs} {ys} {ts} {us} first second = record {
    same_printer = second.same_printer ∙ first.same_printer;
    same_sink = second.same_sink ∙ first.same_sink;
    same_rules = second.same_rules ∙ first.same_rules;
    printed = before_lines first.printed second.printed;
    counted = counted_then first.counted second.counted;
  }

  -- the same under other names
  pub same_shown : {p q : PrintWatch O} {xs ys : List ℕ} {ts us : List Trade} → xs ≡ ys → ts ≡ us → Shown contents faults p xs ts q → Shown contents faults p ys us q
  same_shown {p} {q} {xs} {ys} {ts} {us} e f shown =
      let P : List ℕ → Type 0 = λ zs. Shown contents faults p zs us q in
      let Q : List Trade → Type 0 = λ vs. Shown contents faults p xs vs q in
      subst P e (subst Q f shown)

  -- one output more: its line, and the trade that it is
  pub output_shown : {from p q : PrintWatch O} (outputs : List Output) (o : Output) → ShownOutputs contents faults from outputs p
      → Shown contents faults p (output_line p.rules.now o) (filter_map trade_in (o ∷ [])) q → ShownOutputs contents faults from (outputs ++ o ∷ []) q
  output_shown {from} {p} {q} outputs o before more =
      let text : flat_map (output_line from.rules.now) outputs ++ output_line p.rules.now o ≡ flat_map (output_line from.rules.now) (outputs ++ o ∷ []) =
      ap (λ r. flat_map (output_line from.rules.now) outputs ++ output_line r o) before.same_rules
      ∙ ap (λ more. flat_map (output_line from.rules.now) outputs ++ more) (sym (append-nil (output_line from.rules.now o)))
      ∙ sym (flat_map-append (output_line from.rules.now) outputs (o ∷ [])) in
      same_shown text (sym (trades-append outputs (o ∷ []))) (shown_then before more)
