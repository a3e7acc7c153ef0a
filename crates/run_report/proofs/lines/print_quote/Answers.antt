use Rattle.std.proofs.Common.{◌≡◌, [], ◌∷◌, Option, Some, None, codes, refl}
use Rattle.std.specs.Option.{option_map_or}
use Rattle.mkt_base.specs.ReportWords.{quote_words}
use Rattle.mkt_base.specs.Text.{line}
use Rattle.mkt_base.specs.declared.quote.Quote.{Quote}
use Rattle.mkt_io.specs.Printed.{◌and_then◌, ended, same_lines}
use Rattle.run_report.specs.Report.{quote_line}
use Rattle.run_report.proofs.lines.print_quote.Goals as goal

shown-is : (quote : Option Quote) → line (codes "quote" ∷ option_map_or quote_words quote (codes "none" ∷ [])) ≡ quote_line quote
shown-is None = refl
shown-is (Some quote) = refl

pub returns : goal.returns
returns g c = same_lines (shown-is c.args.quote.now) (ended (c.word.ensures and_then c.print_shown.ensures) c.line_end.ensures)
