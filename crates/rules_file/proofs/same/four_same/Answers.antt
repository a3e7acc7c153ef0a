use Rattle.rules_file.proofs.SameLemmas.{same-number}
use Rattle.rules_file.proofs.same.four_same.Goals as goal

pub returns : goal.returns
returns c =
    same-number c.args.a.now c.args.b.now c.args.i c.four_at.result c.four_at-2.result c.requires.first c.requires.second c.type_inv.a c.type_inv.b c.four_at.ensures c.four_at-2.ensures
