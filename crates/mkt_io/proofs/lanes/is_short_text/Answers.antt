use Rattle.std.proofs.Common.{◌-◌, length, drop, ap, length-drop, ◌∙◌, arith}
use Rattle.std.specs.List.{list_all}
use Rattle.std.proofs.lemmas.List.{take_all}
use Rattle.mkt_io.specs.Words.{is_text_byte}
use Rattle.mkt_io.proofs.TextLemmas.{all-overlapping}
use Rattle.mkt_io.proofs.lanes.is_short_text.Goals as goal

pub returns : goal.returns
returns c =
    let line = c.args.line.now in
    let last = c.is_text_of_eight-2.ensures ∙ ap (list_all is_text_byte) (take_all 8 (drop (length line - 8) line) (omega (arith, length-drop (length line - 8) line))) in
    rw (c.is_text_of_eight.ensures, last) (all-overlapping is_text_byte (length line - 8) 8 line (omega (arith, c.requires)))
