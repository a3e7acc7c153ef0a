use Rattle.std.proofs.Common.{◌++◌, refl, ap, ◌∙◌}
use Rattle.mkt_io.proofs.PrintedLemmas.{word-gathered}
use Rattle.mkt_io.proofs.printer.Printer.put_word.Goals as goal

pub returns : goal.returns
returns g c =
    record {
      same_sink = refl;
      printed = λ from text words before.
          word-gathered g.O.Sink.contents g.O.Sink.faults from text words c.args.bytes.now c.args.self.now _ before.begun before.handed refl refl refl
          (c.extend.ensures ∙ ap (λ z. z ++ c.args.bytes.now) c.push_space.ensures);
    }
