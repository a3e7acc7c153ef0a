use Rattle.std.proofs.Common.{rules, ◌≡◌, ℕ, ◌*◌, length, ap, subst}
use Rattle.stage_play.specs.Blocks.{AllGoOn, cuts_after}
use Rattle.stage_play.proofs.members.play_block.Goals as goal

pub returns-clause-on : goal.returns-clause-on
returns-clause-on g c = λ played.
    let did = c.play_cells.ensures.on played in
    let many : c.len-2.result ≡ length c.args.parts.items = search rules in (
      did.0,
      subst (λ (w : ℕ). AllGoOn g.D.Desk.state g.D.Desk.fixed g.D.SeenDesk.caller g.D.Desk.takes g.D.Desk.tells c.args.issues c.args.stage c.args.count
          (λ cuts. cuts_after c.args.issues w c.args.stage cuts c.args.count did.0) c.args.parts.items c.play_cells.result.0.items) (ap (λ (n : ℕ). n * c.args.issues) many) did.1,
    )
