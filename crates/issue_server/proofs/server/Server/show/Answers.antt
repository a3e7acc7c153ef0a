use Rattle.issue_server.proofs.Showing.{show-adds, show-board, show-halts, show-length, show-whole}
use Rattle.issue_server.proofs.server.Server.show.Goals as goal

pub leave-pass-requires-clause-added : goal.leave-pass-requires-clause-added
leave-pass-requires-clause-added g c =
    show-adds c.args.pass c.enter-turn.result.pass c.enter-turn.result.value c.value.result.now c.enter-turn.ensures.pass c.value.ensures.value

pub returns-clause-others_halt : goal.returns-clause-others_halt
returns-clause-others_halt g c =
    show-halts c.args.pass c.enter-turn.result.pass c.enter-turn.result.value c.value.result.now c.enter-turn.ensures.pass c.value.ensures.value
    c.enter-turn.ensures.finds c.leave-pass.result c.leave-pass.ensures.pass

pub returns-clause-board : goal.returns-clause-board
returns-clause-board g c =
    show-board c.args.pass c.enter-turn.result.pass c.enter-turn.result.value c.value.result.now c.enter-turn.ensures.pass c.value.ensures.value
    c.enter-turn.ensures.finds c.leave-pass.result c.leave-pass.ensures.pass c.show-board.result c.show-board.ensures

pub returns-clause-length : goal.returns-clause-length
returns-clause-length g c =
    show-length c.args.pass c.enter-turn.result.pass c.enter-turn.result.value c.value.result.now c.enter-turn.ensures.pass c.value.ensures.value
    c.enter-turn.ensures.finds c.leave-pass.result c.leave-pass.ensures.pass c.show-board.result c.show-board.ensures

pub returns-clause-whole : goal.returns-clause-whole
returns-clause-whole g c =
    show-whole c.args.pass c.enter-turn.result.pass c.enter-turn.result.value c.value.result.now c.enter-turn.ensures.pass c.value.ensures.value
    c.enter-turn.ensures.finds c.leave-pass.result c.leave-pass.ensures.pass
