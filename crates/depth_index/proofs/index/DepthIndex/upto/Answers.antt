use Rattle.std.proofs.Common.{List, ℕ, get_or}
use Rattle.std.proofs.Common.{◌+◌, length, ℕ, ap, ◌∙◌, arith}
use Rattle.depth_index.specs.Depths.{sum_upto}
use Rattle.depth_index.specs.Tree.{left_of}
use Rattle.depth_index.proofs.IndexLemmas.{steps-are-few, upto-fits, upto-is}
use Rattle.depth_index.proofs.index.DepthIndex.upto.Goals as goal

pub sum_left_of-requires-clause-fits : goal.sum_left_of-requires-clause-fits
sum_left_of-requires-clause-fits g c =
    rw c.as_slice.ensures.value (upto-fits c.self.invariant c.args.i (omega (arith, ap (length {A = ℕ}) c.self.view_is)))

pub returns-clause-exact : goal.returns-clause-exact
returns-clause-exact g c =
    c.sum_left_of.ensures.exact ∙ ap (λ xs. left_of xs c.self.inside.rows (c.self.inside.leaves + c.args.i + 1)) c.as_slice.ensures.value
    ∙ upto-is c.self.invariant c.args.i (omega (arith, ap (length {A = ℕ}) c.self.view_is)) ∙ ap (λ xs. sum_upto xs c.args.i) c.self.view_is

pub returns-clause-steps : goal.returns-clause-steps
returns-clause-steps g c =
    rw (← c.self.view_is) (steps-are-few c.self.invariant c.args.steps.now _ (omega arith) (omega arith))

pub sum_left_of-requires-clause-unused : goal.sum_left_of-requires-clause-unused
sum_left_of-requires-clause-unused g c = ap (λ (xs : List ℕ). get_or xs 0 0) c.as_slice.ensures.value ∙ c.self.invariant.tree.unused
