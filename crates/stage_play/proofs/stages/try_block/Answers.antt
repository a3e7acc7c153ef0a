use Rattle.std.proofs.Common.{◌*◌, length}
use Rattle.stage_play.specs.Blocks.{cuts_after}
use Rattle.stage_play.proofs.stages.try_block.Goals as goal

pub returns-clause-on : goal.returns-clause-on
returns-clause-on g c = λ played.
    let did = c.play_block-parts.ensures.on played in (
      (λ cuts. cuts_after c.args.issues (length c.args.parts.items * c.args.issues) c.args.stage cuts c.args.count did.0),
      did.1,
    )
