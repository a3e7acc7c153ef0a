use Rattle.std.proofs.Common.{get_or, List, ℕ, ap, arith}
use Rattle.std.specs.List.{sum}
use Rattle.depth_index.proofs.IndexLemmas.{root-is}
use Rattle.depth_index.proofs.index.DepthIndex.add.Goals as goal

-- the root is the sum of all
pub add_at-requires-clause-fits : goal.add_at-requires-clause-fits
add_at-requires-clause-fits c =
    omega (arith, root-is c.self.invariant, ap sum c.self.view_is, ap (λ (xs : List ℕ). get_or xs 1 0) c.as_mut_slice.ensures.value, c.requires.fits)
