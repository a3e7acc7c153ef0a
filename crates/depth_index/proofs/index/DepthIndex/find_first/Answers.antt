use Rattle.std.proofs.Common.{◌≡◌, get_or, ◌∙◌, arith}
use Rattle.std.proofs.lemmas.List.{get_or_default}
use Rattle.std.proofs.lemmas.Nat.{pow_pos}
use Rattle.depth_index.proofs.IndexLemmas.{first-is, nowhere, steps-are-few}
use Rattle.depth_index.proofs.index.DepthIndex.find_first.Goals as goal

pub returns-then-index-least-clause-exact : goal.returns-then-index-least-clause-exact
returns-then-index-least-clause-exact g c =
    let root : c.index.result.now ≡ get_or c.self.inside.sums.items 1 0 =
    c.index.ensures ∙ get_or_default c.self.inside.sums.items 1 c.index.result.now 0 (omega (arith, c.self.invariant.some, c.self.invariant.power, pow_pos c.self.inside.rows)) in
    rw (← c.self.view_is) (nowhere c.self.invariant c.args.least (omega (arith, root, c.if-index-least.true)))

pub returns-clause-exact : goal.returns-clause-exact
returns-clause-exact g c =
    let found = rw c.as_slice.ensures.value at c.first_reaching-leaf.ensures in
    rw (← c.self.view_is)
    (first-is c.self.invariant c.args.least c.first_reaching-leaf.result (omega (arith, found.from, c.self.invariant.power)) found.within found.reached
    (λ more. found.before (omega (arith, c.self.invariant.power))))

pub returns-clause-steps : goal.returns-clause-steps
returns-clause-steps g c =
    rw (← c.self.view_is) (steps-are-few c.self.invariant c.args.steps.now _ (omega arith) (omega arith))
