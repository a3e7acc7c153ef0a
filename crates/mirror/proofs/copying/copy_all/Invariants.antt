use Rattle.mirror.proofs.Copies.{Copied}
use Rattle.mirror.proofs.copying.copy_all.Given as goal

abbrev pub invariant-loop-at : goal.invariant-loop-at
invariant-loop-at g l = Copied l.fn.entries l.fn.from l.at l.fn.to l.fn.a l.fn.b l.to l.a l.b
