use Rattle.std.proofs.Common.{◌+◌, [], ◌∷◌, drop, ap, sym, ◌∙◌}
use Rattle.std.proofs.lemmas.List.{take_rest}
use Rattle.mkt_io.specs.Lines.{lines}
use Rattle.mkt_io.proofs.FirstLemmas.{first-byte, no-byte}
use Rattle.mkt_io.proofs.LineLemmas.{is_line_end, lines-first, lines-last}
use Rattle.mkt_io.proofs.lines.cut_line.Goals as goal

pub returns-in-Some-clause-lines : goal.returns-in-Some-clause-lines
returns-in-Some-clause-lines c =
    let bytes = c.args.bytes.now in
    let at = c.in-Some.at in
    let here = first-byte is_line_end bytes at c.in-Some.ensures in
    rw (take_rest bytes (at + 1)) (lines-first bytes at here.0 here.1 ∙ ap (λ z. z ∷ lines (drop (at + 1) bytes)) (sym c.without_return.ensures))

pub returns-in-None-clause-lines : goal.returns-in-None-clause-lines
returns-in-None-clause-lines c =
    let bytes = c.args.bytes.now in
    lines-last bytes (no-byte is_line_end bytes c.in-None.ensures) c.requires ∙ ap (λ z. z ∷ []) (sym c.without_return-in-None.ensures)
