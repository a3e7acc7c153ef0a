use Rattle.std.proofs.Common.{true, ◌∙◌, append_assoc, subst, sym, ℕ, List, ◌∷◌, []}
use Rattle.mkt_io.specs.Printed.{Handed, with_words}
use Rattle.mkt_io.proofs.PrintedLemmas.{word-printed}
use Rattle.mkt_io.proofs.printer.Printer.put_word_at_end.Goals as goal

pub returns-then-self : goal.returns-then-self
returns-then-self g c =
    record {
      same_sink = c.put-then-self.ensures.same_sink ∙ c.put.ensures.same_sink;
      printed = λ from text words before.
          let P : List ℕ → Type 0 = λ z. Handed g.O.Sink.contents g.O.Sink.faults from z c.put-then-self.new.self in
          let handed = subst P (append_assoc (with_words text words) (32 ∷ []) c.args.bytes.now) (c.put-then-self.ensures.handed from _ (c.put.ensures.handed from _ before.handed)) in
          word-printed g.O.Sink.contents g.O.Sink.faults from text words c.args.bytes.now true c.put-then-self.new.self
          (sym c.if-self.true ∙ before.begun) handed (c.put-then-self.ensures.in_line ∙ c.put.ensures.in_line ∙ c.if-self.true);
    }
