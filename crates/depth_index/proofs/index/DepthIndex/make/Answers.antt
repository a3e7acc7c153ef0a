use Rattle.std.proofs.Common.{◌≡◌, ◌+◌, replicate, ℕ, rules}
use Rattle.depth_index.proofs.IndexLemmas.{drop-zeros, zeros-are-index}
use Rattle.depth_index.proofs.index.DepthIndex.make.Goals as goal

pub invariant_of-result : goal.invariant_of-result
invariant_of-result c =
    let rows = c.rows_for-rows in
    let made : c.in_ok-sums.sums.items ≡ replicate {A = ℕ} (rows.result.1 + c.args.size) 0 = search rules in
    rw made (zeros-are-index rows.result.0 rows.result.1 c.args.size rows.ensures.power c.requires.some c.requires.few rows.ensures.above rows.ensures.digits)

pub returns : goal.returns
returns c =
    let made : c.in_ok-sums.sums.items ≡ replicate {A = ℕ} (c.rows_for-rows.result.1 + c.args.size) 0 = search rules in
    rw made (drop-zeros c.rows_for-rows.result.1 c.args.size)
