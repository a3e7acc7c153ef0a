use Rattle.std.proofs.Common.{Ok, ap, ◌∙◌, arith}
use Rattle.mkt_io.proofs.SideLemmas.{side-told}
use Rattle.mkt_io.proofs.words.side_of.Goals as goal

pub returns : goal.returns
returns c =
    ap Ok c.side_when.ensures ∙ side-told c.args.word.now c.from_le_bytes-key.result (omega arith) (omega arith) c.type_inv.word c.from_le_bytes-key.ensures (c.if-key-side_key.false ∙ c.side_key.ensures)
