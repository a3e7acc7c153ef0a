use Rattle.std.proofs.Common.{◌++◌}
use Rattle.itayose.proofs.SharingLemmas.{first-live}
use Rattle.itayose.proofs.sharing.pass.Goals as goal

pub at_spot-requires : goal.at_spot-requires
at_spot-requires c = first-live c.args.book.now _ c.next.result (c.next.ensures.after c.order-order.result c.order-order.ensures)

pub returns-clause-behind : goal.returns-clause-behind
returns-clause-behind c = λ side before rest others split own not.
    c.at_spot.ensures rest others (c.next.ensures.along side c.order-order.result before (rest ++ others) c.order-order.ensures split) own not
