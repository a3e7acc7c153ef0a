use Rattle.std.proofs.Common.{◌<◌, ◌∙◌, length, sym, ap, subst}
use Rattle.std.proofs.lemmas.List.{get_or_default}
use Rattle.stage_play.specs.Playing.{desk_at}
use Rattle.stage_play.specs.Seen.{joined, sight_at}
use Rattle.stage_play.specs.declared.part.Part.{Part}
use Rattle.stage_play.proofs.SightLemmas.{sight-all, sight-more}
use Rattle.stage_play.proofs.sights.sight_of.Goals as goal

pub loop-part-preserved : goal.loop-part-preserved
loop-part-preserved g c = λ d.
    let within : c.args.issue < length c.part-item.result.desks.items =
    subst (λ (p : Part g.row.D.Denot). c.args.issue < length p.desks.items) (sym c.part-item.is) (c.requires c.loop-part.part-index c.part-item.result c.loop-part-test.true) in
    sight-more (λ (p : Part g.row.D.Denot). g.D.Desk.state (desk_at p c.args.issue d)) _ c.args.parts.now c.loop-part.part-index c.part-item.result _ _ c.loop-part-test.true (sym c.part-item.is)
    (c.with_desk-sight.ensures ∙ ap (λ (e : g.row.D.Denot). joined c.loop-part.sight (sight_at (g.D.Desk.state e))) (c.index.ensures ∙ get_or_default c.part-item.result.desks.items c.args.issue c.index.result.now d within)) (c.loop-part.invariant d)

pub returns : goal.returns
returns g c = λ d. sight-all _ _ c.args.parts.now c.loop-part.part-index _ c.loop-part-test.false (c.loop-part.invariant d)
