use Rattle.std.proofs.Common.{rules, ℕ, length, All, refl, sym, subst, ◌∙◌, arith}
use Rattle.stage_play.specs.Blocks.{AllGoOn, HasComeTo}
use Rattle.stage_play.proofs.PlayLemmas.{all-come, all-nothing, all-on}
use Rattle.stage_play.proofs.stages.play_stages.Goals as goal

pub loop-stage-init : goal.loop-stage-init
loop-stage-init g c = (refl, refl, omega arith, omega arith, (_, all-nothing g.D.Desk.state g.D.Desk.fixed g.D.SeenDesk.caller g.D.Desk.takes g.D.Desk.tells (length c.args.sights.now) c.args.stages c.args.parts.items c.requires.ready))

pub play_some-back-requires-clause-come : goal.play_some-back-requires-clause-come
play_some-back-requires-clause-come g c κs within =
    let inv = c.loop-stage.invariant in
    subst (λ (n : ℕ). All (HasComeTo g.D.Desk.state g.D.Desk.fixed g.D.SeenDesk.caller g.D.Desk.takes g.D.Desk.tells n c.loop-stage.stage) c.loop-stage.parts.items) (sym inv.1)
    (all-come g.D.Desk.state g.D.Desk.fixed g.D.SeenDesk.caller g.D.Desk.takes g.D.Desk.tells (length c.args.sights.now) c.args.stages c.loop-stage.stage inv.4.0 c.args.parts.items c.loop-stage.parts.items inv.0 c.requires.ready inv.4.1)

pub loop-stage-preserved-then-many-count : goal.loop-stage-preserved-then-many-count
loop-stage-preserved-then-many-count g c =
    let inv = c.loop-stage.invariant in
    let did = c.play_some-back.ensures in (
      did.many ∙ inv.0,
      c.play_some-back.auto.sights ∙ inv.1,
      search rules,
      omega arith,
      (
        did.on.0 inv.4.0,
        all-on g.D.Desk.state g.D.Desk.fixed g.D.SeenDesk.caller g.D.Desk.takes g.D.Desk.tells (length c.args.sights.now) c.args.stages c.loop-stage.stage c.play_some-back.result.1 inv.4.0 did.on.0 c.args.parts.items c.loop-stage.parts.items c.play_some-back.result.0.items inv.0
            c.requires.ready inv.4.1
            (subst (λ (n : ℕ). AllGoOn g.D.Desk.state g.D.Desk.fixed g.D.SeenDesk.caller g.D.Desk.takes g.D.Desk.tells n c.loop-stage.stage c.play_some-back.result.1 did.on.0 c.loop-stage.parts.items c.play_some-back.result.0.items) inv.1 did.on.1),
      ),
    )

pub loop-stage-preserved : goal.loop-stage-preserved
loop-stage-preserved g c =
    let inv = c.loop-stage.invariant in
    let did = c.play_some-back.ensures in (
      did.many ∙ inv.0,
      c.play_some-back.auto.sights ∙ inv.1,
      search rules,
      search rules,
      (
        did.on.0 inv.4.0,
        all-on g.D.Desk.state g.D.Desk.fixed g.D.SeenDesk.caller g.D.Desk.takes g.D.Desk.tells (length c.args.sights.now) c.args.stages c.loop-stage.stage c.play_some-back.result.1 inv.4.0 did.on.0 c.args.parts.items c.loop-stage.parts.items c.play_some-back.result.0.items inv.0
            c.requires.ready inv.4.1
            (subst (λ (n : ℕ). AllGoOn g.D.Desk.state g.D.Desk.fixed g.D.SeenDesk.caller g.D.Desk.takes g.D.Desk.tells n c.loop-stage.stage c.play_some-back.result.1 did.on.0 c.loop-stage.parts.items c.play_some-back.result.0.items) inv.1 did.on.1),
      ),
    )
