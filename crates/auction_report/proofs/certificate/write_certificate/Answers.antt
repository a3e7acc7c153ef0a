use Rattle.std.proofs.Common.{rules}
use Rattle.auction_report.proofs.certificate.write_certificate.Goals as goal

pub returns : goal.returns
returns g c = search (rules, c.finish.ensures _ _ _ (c.print_certificate.ensures.printed _ _ c.new-printer.ensures.nothing))
