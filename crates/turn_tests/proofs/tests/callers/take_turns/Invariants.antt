use Rattle.std.proofs.Common.{◌≡◌}
use Rattle.turn_tests.proofs.tests.callers.take_turns.Given as goal

abbrev pub invariant-loop : goal.invariant-loop
invariant-loop g l =
    let p = l.pass in let q = l.fn.pass in
    (p.cell ≡ q.cell) × (p.callers ≡ q.callers) × (p.block ≡ q.block) × (p.met ≡ q.met)
