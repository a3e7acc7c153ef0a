use Rattle.std.proofs.Common.{◌+◌, ◌∙◌, ℕ, length-set, arith}
use Rattle.std.proofs.lemmas.List.{get_or-set_other}
use Rattle.depth_index.proofs.WriteLemmas.{but-parent, leaf-written, root-has-most}
use Rattle.depth_index.proofs.tree.add_at.Goals as goal

pub overflow_add-sums : goal.overflow_add-sums
overflow_add-sums c =
    let node = c.loop-node.node in
    record {
      fits = omega (arith, c.requires.fits, c.loop-node.invariant.same node (omega arith), root-has-most c.args.sums.now c.args.leaves node c.requires.tree (omega arith) (omega arith));
    }

pub loop-node-preserved : goal.loop-node-preserved
loop-node-preserved c =
    let sums = c.loop-node.sums in
    let node = c.loop-node.node in
    let keeps = c.loop-node.invariant in
    record {
      but = but-parent c.args.leaves sums node c.args.qty 0 _ keeps.but (omega arith) keeps.within (omega arith);
      within = omega (arith, length-set {A = ℕ});
      same = λ k small. get_or-set_other sums node k _ 0 (λ is. omega arith) ∙ keeps.same k (omega arith);
      first = λ from. absurd (omega arith);
      then = λ below. leaf-written (λ q. q + c.args.qty) sums c.args.sums.now c.args.leaves c.args.i node keeps.first keeps.then;
    }
