use Rattle.std.proofs.Common.{◌≤◌, ◌<◌, arith, rules}
use Rattle.mirror.proofs.Copies.{copied-next}
use Rattle.mirror.proofs.copying.copy_all.Goals as goal

pub loop-at-preserved : goal.loop-at-preserved
loop-at-preserved g c =
    let end : c.args.end ≤ c.args.entries = c.requires.ends.1 in
    let less : c.loop-at.at < c.args.end = search rules in
    copied-next c.args.entries c.args.from c.loop-at.at _ _ _ _ _ _ _ _ _ c.in-Some.rec c.loop-at.invariant (omega (arith, end, less))
    c.read_any.ensures.a_read c.read_any.ensures.b_read (search rules) (search rules) (search rules) c.copy.ensures.keeps
    c.requires.mirrored.0 c.requires.mirrored.1
