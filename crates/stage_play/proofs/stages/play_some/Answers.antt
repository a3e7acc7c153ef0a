use Rattle.std.proofs.Common.{◌≡◌, List, length, sym, ap, subst, ◌∙◌}
use Rattle.stage_play.specs.Blocks.{AllGoOn, next_cuts}
use Rattle.stage_play.specs.declared.part.Part.{Part}
use Rattle.stage_play.proofs.SightLemmas.{written-back}
use Rattle.stage_play.proofs.stages.play_some.Goals as goal

pub returns-clause-on : goal.returns-clause-on
returns-clause-on g c =
    let did = c.play_stage.ensures in
    let lent = c.as_mut_slice.result.now in
    let new = c.play_stage.new.parts in
    let start : lent ≡ c.args.parts.items = c.as_mut_slice.ensures.value ∙ c.try_block-parts.ensures.stays c.if-played.false in
    let back =
    written-back c.try_block-parts.result.0.len c.try_block-parts.result.0.items new (c.play_stage.auto.parts ∙ c.as_mut_slice.ensures.len) (c.play_stage.auto.parts ∙ ap (λ ps. length ps) c.as_mut_slice.ensures.value) in
    let issues = length c.args.sights.now in (
      (λ cuts. next_cuts cuts c.args.stage did.0),
      subst (λ (rs : List (Part g.row.D.Denot)). AllGoOn g.D.Desk.state g.D.Desk.fixed g.D.SeenDesk.caller g.D.Desk.takes g.D.Desk.tells issues c.args.stage 1 (λ cuts. next_cuts cuts c.args.stage did.0) c.args.parts.items rs) (sym back)
          (subst (λ (ps : List (Part g.row.D.Denot)). AllGoOn g.D.Desk.state g.D.Desk.fixed g.D.SeenDesk.caller g.D.Desk.takes g.D.Desk.tells issues c.args.stage 1 (λ cuts. next_cuts cuts c.args.stage did.0) ps new) start did.1),
    )
