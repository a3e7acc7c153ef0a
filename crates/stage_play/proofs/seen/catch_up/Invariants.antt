use Rattle.stage_play.proofs.CatchLemmas.{HasShown}
use Rattle.stage_play.proofs.seen.catch_up.Given as goal

-- it has shown its board so far
abbrev pub invariant-loop : goal.invariant-loop
invariant-loop g l =
    (goal.iterator-loop g).can_next l.iterator' × (goal.iterator-loop g).is_finite l.iterator' × HasShown g.D.Desk.state g.D.Desk.fixed g.D.Desk.tells l.fn.desk l.desk
