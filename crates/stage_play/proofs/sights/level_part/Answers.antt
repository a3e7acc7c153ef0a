use Rattle.std.proofs.Common.{refl, ap, ◌∙◌, length}
use Rattle.std.specs.Vec.{with_items}
use Rattle.stage_play.specs.declared.part.Part.{Part}
use Rattle.stage_play.proofs.SightLemmas.{levelled, written-back}
use Rattle.stage_play.proofs.sights.level_part.Goals as goal

pub returns : goal.returns
returns g c =
    let now : Part g.row.D.Denot = record { gateway = c.args.part.now.gateway; desks = with_items c.args.part.now.desks c.catch_up_each.new.desks } in
    levelled g.D.Desk.state g.D.Desk.fixed g.D.SeenDesk.caller g.D.Desk.takes g.D.Desk.tells c.args.sights.now c.args.part.now c.as_mut_slice.result.now c.catch_up_each.new.desks now
    c.as_mut_slice.ensures.value refl (written-back c.args.part.now.desks.len c.args.part.now.desks.items c.catch_up_each.new.desks (c.catch_up_each.auto.desks ∙ c.as_mut_slice.ensures.len) (c.catch_up_each.auto.desks ∙ ap (λ ds. length ds) c.as_mut_slice.ensures.value)) c.catch_up_each.auto.desks c.catch_up_each.ensures
