use Rattle.std.proofs.Common.{[], ◌++◌, get_or, refl}
use Rattle.mkt_base.specs.Certificate.{rejected_line}
use Rattle.mkt_base.specs.declared.auction.Sums.{Sums}
use Rattle.mkt_io.specs.Printed.{before_lines, no_lines}
use Rattle.auction_report.proofs.LineLemmas.{line-next}
use Rattle.auction_report.proofs.certificate.print_nearer.Goals as goal

pub loop-sums-init : goal.loop-sums-init
loop-sums-init g c = record { text = []; printed = no_lines; whole = refl }

pub loop-sums-preserved : goal.loop-sums-preserved
loop-sums-preserved g c =
    let kept = c.loop-sums.invariant in
    let none : Sums = record { price = record { 0 = 0 }; buys = 0; above = 0; sells = 0; below = 0 } in
    record {
      text = kept.text ++ rejected_line (get_or c.args.rejected.now c.loop-sums.sums-index none);
      printed = before_lines kept.printed c.print_rejected.ensures;
      whole = line-next c.args.rejected.now c.loop-sums.sums-index none kept.text _ c.loop-sums-test.true kept.whole;
    }
