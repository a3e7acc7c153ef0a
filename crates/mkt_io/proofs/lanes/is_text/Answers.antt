use Rattle.std.proofs.Common.{◌-◌, ◌*◌, ◌+◌, length, drop, ap, length-drop, ◌∙◌, arith}
use Rattle.std.specs.List.{list_all}
use Rattle.std.proofs.lemmas.List.{take_all}
use Rattle.mkt_io.specs.Words.{is_text_byte}
use Rattle.mkt_io.proofs.TextLemmas.{all-more, all-overlapping}
use Rattle.mkt_io.proofs.lanes.is_text.Goals as goal

pub loop-i-init : goal.loop-i-init
loop-i-init c =
    let line = c.args.line.now in
    c.is_text_at-all.ensures ∙ ap (list_all is_text_byte) (take_all 16 (drop (length line - 16) line) (omega (arith, length-drop (length line - 16) line)))

pub loop-i-preserved : goal.loop-i-preserved
loop-i-preserved c =
    let line = c.args.line.now in
    rw (c.loop-i.invariant, c.is_text_at-all-in-loop-i.ensures) (all-more is_text_byte (16 * c.loop-i.i) 16 (16 * (c.loop-i.i + 1)) line (list_all is_text_byte (drop (length line - 16) line)) (omega arith))

pub returns : goal.returns
returns c =
    let line = c.args.line.now in
    c.loop-i.invariant ∙ all-overlapping is_text_byte (length line - 16) (16 * c.loop-i.i) line (omega arith)
