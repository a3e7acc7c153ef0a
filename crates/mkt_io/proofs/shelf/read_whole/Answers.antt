use Rattle.std.proofs.Common.{◌+◌}
use Rattle.mkt_io.proofs.ShelfLemmas.{read-at-end}
use Rattle.mkt_io.proofs.shelf.read_whole.Goals as goal

pub returns-then-n-eq0-clause-bytes : goal.returns-then-n-eq0-clause-bytes
returns-then-n-eq0-clause-bytes g c =
    let l = c.loop-block in
    read-at-end (g.F.Shelf.files c.args.shelf.now) c.args.name.now (g.F.Shelf.left l.shelf) l.bytes.items c.in-Ok.n (c.args.limit + 1) l.invariant.so_far c.in-Ok.ensures.end c.if-n-eq0.true l.invariant.within
