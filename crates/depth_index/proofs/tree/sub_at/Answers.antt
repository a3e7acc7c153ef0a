use Rattle.std.proofs.Common.{◌+◌, ◌-◌, ◌≤◌, ◌∙◌, ℕ, get_or, length-set, inl, inr, ap, arith}
use Rattle.std.proofs.lemmas.Bool.{cases_lt}
use Rattle.std.proofs.lemmas.List.{get_or-drop, get_or-set_other}
use Rattle.depth_index.proofs.WriteLemmas.{but-parent, leaf-written}
use Rattle.depth_index.proofs.tree.sub_at.Goals as goal

pub loop-node-preserved : goal.loop-node-preserved
loop-node-preserved c =
    let sums = c.loop-node.sums in
    let node = c.loop-node.node in
    let keeps = c.loop-node.invariant in
    let enough : c.args.qty ≤ get_or sums node 0 =
    elim (cases_lt node c.args.leaves) [
      | inl below ↦ omega (arith, keeps.but.at (omega arith) below)
      | inr from ↦
          omega (arith, c.requires.enough, get_or-drop c.args.leaves c.args.sums.now c.args.i 0, ap (λ k. get_or sums k 0) (keeps.first from).0, ap (λ xs. get_or xs (c.args.leaves + c.args.i) 0) (keeps.first from).1)
    ] in
    record {
      but = but-parent c.args.leaves sums node 0 c.args.qty _ keeps.but (omega arith) keeps.within (omega arith);
      within = omega (arith, length-set {A = ℕ});
      same = λ k small. get_or-set_other sums node k _ 0 (λ is. omega arith) ∙ keeps.same k (omega arith);
      first = λ from. absurd (omega arith);
      then = λ below. leaf-written (λ q. q - c.args.qty) sums c.args.sums.now c.args.leaves c.args.i node keeps.first keeps.then;
    }
