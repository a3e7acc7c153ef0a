use Rattle.std.proofs.Common.{List, [], ◌∷◌, ◌++◌, ap, arith, refl, ◌∙◌}
use Rattle.script_file.specs.Orders.{rows_of}
use Rattle.script_file.specs.Script.{event_count}
use Rattle.script_file.specs.declared.script.GatewayScriptLine.{GatewayScriptLine}
use Rattle.script_file.specs.declared.script.Script.{Script}
use Rattle.script_file.proofs.ReaderLemmas.{IsKept-push, IsKept-same}
use Rattle.script_file.proofs.reader.Reader.push.Goals as goal

pub invariant_of-self : goal.invariant_of-self
invariant_of-self c =
    IsKept-same c.self.inside.lines.items c.make_room.new.items.items (rows_of c.self.inside.orders) (rows_of c.self.inside.orders) c.self.inside.stages c.self.inside.events
    c.self.invariant c.make_room.ensures.same refl

pub invariant_of-self-2 : goal.invariant_of-self-2
invariant_of-self-2 c =
    let same = ap (λ (s : Script). event_count s.lines) c.self.view_is in
    IsKept-push c.self.inside.lines.items c.push.new.items.items c.args.line.now (rows_of c.self.inside.orders) (rows_of c.note.new.self) c.self.inside.stages c.self.inside.events
    c.events_of-events.result c.self.invariant
    (c.push.ensures ∙ ap (λ (lines : List GatewayScriptLine). lines ++ c.args.line.now ∷ []) c.make_room.ensures.same)
    c.in_ok-note.ensures c.events_of-events.ensures (omega (arith, same, c.requires.room)) c.requires.gateway c.requires.issue
