-- What a printing watch has printed and counted.
use Rattle.std.specs.Prelude.{◌≡◌, ℕ, ◌+◌, false, List, [], Option, length, filter_map, flat_map, sum_by}
use Rattle.std.proofs.Common.{add-zero, refl, sym}
use Rattle.mkt_base.specs.declared.auction.Trade.{Trade}
use Rattle.mkt_base.specs.declared.output.Output.{Output}
use Rattle.mkt_io.specs.Printed.{PrintsLines, no_lines}
use Rattle.issue_book.specs.Filled.{trade_in}
use Rattle.run_report.specs.Report.{output_line}
use Rattle.run_report.specs.declared.tally.Tally.{Tally}
use Rattle.run_report.specs.declared.watch.PrintWatch.{PrintWatch}

-- the shares of trades
abbrev pub shares_of : List Trade → ℕ
shares_of trades = sum_by (λ t. t.qty) trades

-- these trades were counted, unless a count passed its u64
pub record Counted (old : Tally) (trades : List Trade) (new : Tally) : Type 0 where
  pub kept : new.passed ≡ false → old.passed ≡ false
  pub number : new.passed ≡ false → new.trades ≡ old.trades + length trades
  pub shares : new.passed ≡ false → new.shares ≡ old.shares + shares_of trades

-- from one state of a watch to another this text was printed
pub record ShownLines {O : Type 0} (contents : O → Option (List ℕ)) (faults : O → ℕ) (old : PrintWatch O) (text : List ℕ) (new : PrintWatch O) : Type 0 where
  pub same_printer : new.printer.ghost_name ≡ old.printer.ghost_name
  pub same_sink : new.printer.now.sink.ghost_name ≡ old.printer.now.sink.ghost_name
  pub same_rules : new.rules.now ≡ old.rules.now
  pub printed : PrintsLines contents faults old.printer.now new.printer.now text

-- from one state of a watch to another this text was printed, and these trades were counted
pub record Shown {O : Type 0} (contents : O → Option (List ℕ)) (faults : O → ℕ) (old : PrintWatch O) (text : List ℕ) (trades : List Trade) (new : PrintWatch O) : Type 0 where
  pub same_printer : new.printer.ghost_name ≡ old.printer.ghost_name
  pub same_sink : new.printer.now.sink.ghost_name ≡ old.printer.now.sink.ghost_name
  pub same_rules : new.rules.now ≡ old.rules.now
  pub printed : PrintsLines contents faults old.printer.now new.printer.now text
  pub counted : Counted old.tally trades new.tally

-- what a watch shows of outputs: their lines, and the trades among them
abbrev pub ShownOutputs : {O : Type 0} → (O → Option (List ℕ)) → (O → ℕ) → PrintWatch O → List Output → PrintWatch O → Type 0
ShownOutputs contents faults old outputs new =
    Shown contents faults old (flat_map (output_line old.rules.now) outputs) (filter_map trade_in outputs) new

-- nothing is counted
pub nothing_counted : {t : Tally} → Counted t [] t
nothing_counted {t} = record { kept = λ h. h; number = λ _. sym (add-zero t.trades); shares = λ _. sym (add-zero t.shares) }

-- nothing is shown by no outputs
pub nothing_shown : {O : Type 0} {contents : O → Option (List ℕ)} {faults : O → ℕ} {w : PrintWatch O} → Shown contents faults w [] [] w
nothing_shown {w} = record { same_printer = refl; same_sink = refl; same_rules = refl; printed = no_lines; counted = nothing_counted }
