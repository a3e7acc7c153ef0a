use Rattle.std.proofs.Common.{◌-◌, length, arith}
use Rattle.rules_file.proofs.SameLemmas.{same-parts}
use Rattle.rules_file.proofs.same.is_same.Goals as goal

pub returns-then-n-ge4 : goal.returns-then-n-ge4
returns-then-n-ge4 c =
    let a = c.args.a.now in
    let b = c.args.b.now in
    rw (c.four_same.ensures, c.four_same-then-n-ge4.ensures) (same-parts a b (length a - 4) (omega arith) (omega arith) (omega arith))
