use Rattle.std.proofs.Common.{◌++◌, refl, ap, ◌∙◌}
use Rattle.std.specs.Fmt.{decimal}
use Rattle.mkt_io.proofs.PrintedLemmas.{word-gathered}
use Rattle.mkt_io.proofs.printer.Printer.number.Goals as goal

pub returns : goal.returns
returns g c =
    record {
      same_sink = c.make_room.ensures.same_sink;
      printed = λ from text words before.
          word-gathered g.O.Sink.contents g.O.Sink.faults from text words (decimal c.args.n) c.make_room.new.self _
          (c.make_room.ensures.in_line ∙ before.begun) (c.make_room.ensures.handed from _ before.handed) refl refl refl
          (c.extend_decimal.ensures ∙ ap (λ z. z ++ decimal c.args.n) c.push_space.ensures);
    }
