use Rattle.std.proofs.Common.{◌≡◌, ℕ, List, ◌++◌, drop, flat_map}
use Rattle.mkt_base.specs.Certificate.{rejected_line}
use Rattle.mkt_io.specs.Printed.{PrintsLines}
use Rattle.auction_report.proofs.certificate.print_nearer.Given as goal

-- the lines so far are printed, and those that are left make them all
abbrev pub invariant-loop-sums : goal.invariant-loop-sums
invariant-loop-sums g l = record {
  text : List ℕ;
  printed : PrintsLines g.O.Sink.contents g.O.Sink.faults l.fn.printer l.printer text;
  whole : text ++ flat_map rejected_line (drop l.sums-index l.rejected) ≡ flat_map rejected_line l.rejected;
}
