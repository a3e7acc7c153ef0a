use Rattle.std.proofs.Common.{[], refl}
use Rattle.mkt_io.specs.Printed.{with_words}
use Rattle.mkt_io.proofs.PrintedLemmas.{flush-prints, Appends-of_printed}
use Rattle.mkt_io.proofs.printer.Printer.finish.Goals as goal

pub returns-then-emit : goal.returns-then-emit
returns-then-emit g c =
    let p = c.args.self in
    let q = record p { sink = record p.sink { now = c.emit.new.sink }; block = []; fault = c.emit.result } in
    λ from text words printed.
    let r = flush-prints g.O.Sink.contents g.O.Sink.faults from (with_words text words) _ p q printed.handed c.emit.ensures c.as_slice.ensures refl in
    record { all = tt; part = (r.n, r.within, r.written); failed = r.cause c.if-emit.true; count = r.count }

pub returns : goal.returns
returns g c =
    let p = c.args.self in
    let q = record p { sink = record p.sink { now = c.emit.new.sink }; block = []; fault = c.emit.result } in
    λ from text words printed.
    let r = flush-prints g.O.Sink.contents g.O.Sink.faults from (with_words text words) _ p q printed.handed c.emit.ensures c.as_slice.ensures refl in
    record { all = Appends-of_printed g.O.Sink.contents g.O.Sink.faults from (with_words text words) q r c.if-emit.false refl; part = tt; failed = tt; count = r.count }
