use Rattle.std.proofs.Common.{length, refl}
use Rattle.stage_play.proofs.PlayLemmas.{all-step, as-many, may-play}
use Rattle.stage_play.proofs.stages.play_stage.Goals as goal

pub run_stage-requires-after_bounds : goal.run_stage-requires-after_bounds
run_stage-requires-after_bounds g c κs within = may-play g.D.Desk.state g.D.Desk.fixed g.D.SeenDesk.caller g.D.Desk.takes g.D.Desk.tells (length c.args.sights.now) c.args.stage c.args.parts.now c.requires.come

pub look-requires : goal.look-requires
look-requires g c = as-many g.D.Desk.state g.D.Desk.fixed g.D.SeenDesk.caller g.D.Desk.takes g.D.Desk.tells (length c.args.sights.now) c.args.stage (length c.args.sights.now) c.args.parts.now c.run_stage.new.parts c.run_stage.auto.parts refl c.requires.come c.run_stage.ensures

pub level-requires-after_bounds : goal.level-requires-after_bounds
level-requires-after_bounds g c κs within = as-many g.D.Desk.state g.D.Desk.fixed g.D.SeenDesk.caller g.D.Desk.takes g.D.Desk.tells (length c.args.sights.now) c.args.stage (length c.look.new.sights) c.args.parts.now c.run_stage.new.parts c.run_stage.auto.parts c.look.auto.sights c.requires.come c.run_stage.ensures

pub returns : goal.returns
returns g c = (
  c.look.new.sights,
  all-step g.D.Desk.state g.D.Desk.fixed g.D.SeenDesk.caller g.D.Desk.takes g.D.Desk.tells (length c.args.sights.now) c.args.stage c.look.new.sights c.args.parts.now c.run_stage.new.parts c.level.new.parts c.run_stage.auto.parts c.run_stage.ensures c.look.ensures c.level.ensures,
)
