use Rattle.std.proofs.Common.{rules}
use Rattle.issue_server.proofs.Recording.{record-adds, record-own, record-served}
use Rattle.issue_server.proofs.server.Server.record.Goals as goal

pub turn-result-requires-clause-own : goal.turn-result-requires-clause-own
turn-result-requires-clause-own g c = let f = c.requires.found in
    record-own f.0 c.args.turn.pass c.args.turn.value c.value.result.now c.args.caller f.1 f.2 c.value.ensures.value c.requires.caller.0 c.args.own c.requires.own

pub leave-pass-requires-clause-added : goal.leave-pass-requires-clause-added
leave-pass-requires-clause-added g c = let f = c.requires.found in
    record-adds f.0 c.args.turn.pass c.args.turn.value c.value.result.now c.args.caller f.1 f.2 c.value.ensures.value c.requires.caller.0
    c.args.event c.turn-result.result c.turn-result.new.self c.turn-result.ensures.turned

pub returns : goal.returns
returns g c = λ p is goes.
    record-served p c.args.turn.pass c.args.turn.value c.value.result.now c.args.caller is goes c.value.ensures.value c.requires.caller.0
    c.args.event c.turn-result.result c.turn-result.new.self c.leave-pass.result c.turn-result.ensures.turned c.turn-result.ensures.full
    c.leave-pass.ensures.pass c.leave-pass.ensures.grows c.leave-pass.ensures.holds
