use Rattle.std.proofs.Common.{◌≡◌, ◌+◌, ◌*◌, ◌^◌, get_or, arith, ap}
use Rattle.std.proofs.lemmas.Nat.{pow_pos}
use Rattle.depth_index.specs.Tree.{left_of}
use Rattle.depth_index.proofs.RowLemmas.{child-inside, children, left_of-first, left_of-left_child, left_of-right_child, row-within, twice-next}
use Rattle.depth_index.proofs.tree.first_reaching.Goals as goal
use Rattle.depth_index.proofs.tree.first_reaching.Goals.{then-left-rest, else-left-rest}

pub loop-row-init : goal.loop-row-init
loop-row-init g c =
    record {
      first = omega arith;
      last = omega arith;
      sum = omega (arith, left_of-first c.args.sums.now 0);
      reached = c.requires.reached;
      before = λ more. absurd (omega arith);
      steps = omega arith;
    }

pub overflow_mul-node : goal.overflow_mul-node
overflow_mul-node g c = record { fits = omega (arith, row-within c.loop-row-test.true) }

pub offset_bounds-sums-node : goal.offset_bounds-sums-node
offset_bounds-sums-node g c = record { fits = omega (arith, row-within c.loop-row-test.true) }

pub bounds-sums-node : goal.bounds-sums-node
bounds-sums-node g c =
    let i = c.loop-row.invariant in
    child-inside c.args.sums.now c.args.rows c.loop-row._row c.loop-row.node c.loop-row.rest c.requires.tree c.requires.some c.loop-row-test.true i.first i.last i.reached i.before

pub loop-row-preserved : goal.loop-row-preserved
loop-row-preserved g c =
    let sums = c.args.sums.now in
    let row = c.loop-row._row in
    let node = c.loop-row.node in
    let wide = row-within c.loop-row-test.true in
    let both = children node c.requires.tree (omega (arith, pow_pos row)) (omega (arith, wide)) in
    let next : 2 ^ (row + 1) ≡ 2 * 2 ^ row = twice-next row in
    elim c.if-left-rest.branch [
      | then-left-rest w ↦
          record {
            first = omega (arith, next, w.node-is);
            last = omega (arith, next, w.node-is);
            sum = omega (arith, ap (left_of sums (row + 1)) w.node-is, left_of-right_child sums row node, w.rest-is);
            reached = omega (arith, both, ap (λ n. get_or sums n 0) w.node-is, w.rest-is);
            before = λ _. omega (arith, w.rest-is);
            steps = omega arith;
          }
      | else-left-rest w ↦
          record {
            first = omega (arith, next, w.node-is);
            last = omega (arith, next, w.node-is);
            sum = omega (arith, ap (left_of sums (row + 1)) w.node-is, left_of-left_child sums row node, w.rest-is);
            reached = omega (arith, ap (λ n. get_or sums n 0) w.node-is, w.rest-is);
            before = λ more. omega (arith, next, w.node-is, w.rest-is, c.loop-row.invariant.before);
            steps = omega arith;
          }
    ]
