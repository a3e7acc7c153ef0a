use Rattle.std.proofs.Common.{◌∙◌, arith, length, sym}
use Rattle.std.proofs.lemmas.List.{take_all}
use Rattle.std.proofs.lemmas.Slice.Eq.{bytes_eq-Decides}
use Rattle.text_match.proofs.matcher.common.Goals as goal

pub returns-then-eq-clause-same : goal.returns-then-eq-clause-same
returns-then-eq-clause-same c =
    let b = c.args.b.now in
    sym c.split_at.ensures.front ∙ (bytes_eq-Decides c.split_at.result.0.now b).0 (sym c.eq.ensures ∙ c.if-eq.true) ∙ sym (take_all (length b) b (omega arith))
