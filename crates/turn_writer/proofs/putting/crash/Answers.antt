use Rattle.std.proofs.Common.{subst, sym}
use Rattle.mkt_base.specs.declared.event.Event.TheVariants as events
use Rattle.turn_writer.specs.Went.{WasCrashed}
use Rattle.turn_writer.proofs.Crashing.{was-crashed}
use Rattle.turn_writer.proofs.putting.crash.Goals as goal

pub returns : goal.returns
returns g c =
    subst (λ e. WasCrashed e c.args.lost.now c.without.result c.args.mirror.now c.crash.new.self) (sym c.in-Crash.is)
    (subst (λ l. WasCrashed (events.Crash c.in-Crash.node) c.args.lost.now l c.args.mirror.now c.crash.new.self) (sym c.without.ensures.rest)
    (was-crashed c.in-Crash.node c.args.lost.now c.args.mirror.now c.crash.new.self c.without.ensures.a_node c.crash.ensures.node c.crash.ensures.mirrored c.crash.ensures.keeps))
