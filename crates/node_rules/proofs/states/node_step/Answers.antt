use Rattle.std.proofs.Common.{sym, ◌∙◌}
use Rattle.node_rules.proofs.QuietLemmas.{stay}
use Rattle.node_rules.proofs.states.node_step.Goals as goal

pub returns-then-moves_none : goal.returns-then-moves_none
returns-then-moves_none c =
    stay c.args.entries c.args.caller.0 c.args.event.now c.args.nodes c.if-caller-eq0.false (sym c.moves_none.ensures ∙ c.if-moves_none.true)
