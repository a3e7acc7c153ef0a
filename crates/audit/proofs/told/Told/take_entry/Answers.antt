use Rattle.std.proofs.Common.{◌∙◌, sym}
use Rattle.audit.proofs.FormLemmas.{enter-few}
use Rattle.audit.proofs.told.Told.take_entry.Goals as goal

pub enter-requires-clause-room : goal.enter-requires-clause-room
enter-requires-clause-room c = (enter-few c.gateways.result c.args.self.now.journal c.in-Ok.caller c.in-Ok-next_event.event (sym c.may_enter.ensures ∙ c.if-may_enter.true)).0
