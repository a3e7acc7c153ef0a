use Rattle.mkt_io.proofs.PrintedLemmas.{flush-prints}
use Rattle.mkt_io.proofs.printer.Printer.flush.Goals as goal

pub returns-clause-handed : goal.returns-clause-handed
returns-clause-handed g c = λ from before handed.
    flush-prints g.O.Sink.contents g.O.Sink.faults from before _ c.args.self.now _ handed c.emit-self.ensures c.as_slice.ensures c.clear.ensures
