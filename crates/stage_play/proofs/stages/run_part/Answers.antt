use Rattle.std.proofs.Common.{List, All, sym, subst}
use Rattle.gateway.specs.Ran.{IsTaken}
use Rattle.stage_play.proofs.stages.run_part.Goals as goal

pub run-requires-clause-takes : goal.run-requires-clause-takes
run-requires-clause-takes g c = subst (λ (ds : List g.row.D.Denot). All (IsTaken g.D.Desk.takes g.D.Desk.fixed ds) c.args.part.now.gateway.lines) (sym c.as_mut_slice.ensures.value) c.requires.taken
