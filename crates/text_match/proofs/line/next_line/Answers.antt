use Rattle.std.proofs.Common.{◌+◌, ◌==◌, arith, length-drop}
use Rattle.std.proofs.lemmas.List.{take_rest}
use Rattle.mkt_io.proofs.FirstLemmas.{first-byte, no-byte}
use Rattle.text_match.proofs.LineLemmas.{lines-first, lines-none}
use Rattle.text_match.proofs.line.next_line.Goals as goal

pub returns-in-Some : goal.returns-in-Some
returns-in-Some c =
    let text = c.args.text.now in
    let end = c.in-Some.end in
    let here = first-byte (λ b. b == 10) text end c.in-Some.ensures in
    rw (take_rest text (end + 1)) (lines-first text end here.0 here.1, omega (arith, length-drop (end + 1) text, here.1))

pub returns-in-None : goal.returns-in-None
returns-in-None c = lines-none c.args.text.now (no-byte (λ b. b == 10) c.args.text.now c.in-None.ensures)
