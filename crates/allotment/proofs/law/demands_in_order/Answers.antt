use Rattle.allotment.proofs.OrderLemmas.{demands_in_order}
use Rattle.allotment.proofs.law.demands_in_order.Goals as goal

pub returns : goal.returns
returns c = demands_in_order
