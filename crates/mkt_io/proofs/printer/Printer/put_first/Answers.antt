use Rattle.std.proofs.Common.{◌++◌, sym, ap}
use Rattle.mkt_io.proofs.PrintedLemmas.{emit-prints}
use Rattle.mkt_io.proofs.printer.Printer.put_first.Goals as goal

pub returns-else-bytes-room-clause-handed : goal.returns-else-bytes-room-clause-handed
returns-else-bytes-room-clause-handed g c = λ from before handed.
    emit-prints g.O.Sink.contents g.O.Sink.faults from before c.args.bytes.now c.args.bytes.now c.args.self.now _ handed c.emit-self.ensures
    (sym (ap (λ z. z ++ c.args.bytes.now) c.requires)) c.requires
