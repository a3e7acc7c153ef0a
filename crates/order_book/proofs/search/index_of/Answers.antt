use Rattle.std.proofs.Common.{ltb, rules}
use Rattle.std.proofs.lemmas.List.Sorted.{IsPartitionPoint-from_clause, IsPartitionedBy-ltb}
use Rattle.mkt_base.specs.declared.order.Order.{Order}
use Rattle.order_book.proofs.PlaceLemmas.{places-rise, point-is}
use Rattle.order_book.proofs.search.index_of.Goals as goal

pub returns : goal.returns
returns c =
    let test = λ (o : Order). ltb o.place c.args.place in
    let orders = c.args.orders.now in
    let parted = IsPartitionedBy-ltb (λ (o : Order). o.place) orders c.args.place (places-rise orders c.requires.rising) in
    let found = point-is orders c.requires.rising c.args.place c.partition_point.result
    (IsPartitionPoint-from_clause test orders _ c.partition_point.ensures.partitioned parted (λ a r f call. search rules)) c.requires.there in
    record { within = found.0; there = found.1 }
