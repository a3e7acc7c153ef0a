use Rattle.std.proofs.Common.{leb, sym, rules}
use Rattle.std.proofs.lemmas.List.Sorted.{IsPartitionPoint-from_clause, IsPartitionedBy-leb}
use Rattle.mkt_base.specs.declared.units.Price.{Price}
use Rattle.tick_grid.proofs.GridLemmas.{non-decreasing, passing-front}
use Rattle.tick_grid.proofs.grid.count_not_above.Goals as goal

pub returns-clause-exact : goal.returns-clause-exact
returns-clause-exact c =
    let test = λ (q : Price). leb q.0 c.args.p.0 in
    let prices = c.args.prices.now in
    let parted = IsPartitionedBy-leb (λ (q : Price). q.0) prices c.args.p.0 (non-decreasing prices c.requires) in
    sym (
    passing-front test prices c.partition_point.result c.partition_point.ensures.bound
    (IsPartitionPoint-from_clause test prices _ c.partition_point.ensures.partitioned parted (λ a r f call. search rules))
    )
