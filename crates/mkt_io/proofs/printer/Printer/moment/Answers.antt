use Rattle.std.proofs.Common.{ℕ, List, [], ◌∷◌, subst, ap, ◌∙◌}
use Rattle.mkt_base.specs.Text.{time_text}
use Rattle.mkt_io.specs.Printed.{PrintsWords}
use Rattle.mkt_io.proofs.printer.Printer.moment.Goals as goal

pub returns : goal.returns
returns g c =
    let P : List ℕ → Type 0 = λ text. PrintsWords g.O.Sink.contents g.O.Sink.faults c.args.self.now c.put_word.new.self (text ∷ []) in
    subst P (c.moment_text.ensures ∙ ap time_text c.ms.ensures.value) c.put_word.ensures
