use Rattle.issue_server.proofs.server.Server.submit.Goals as goal

pub returns-clause-turn : goal.returns-clause-turn
returns-clause-turn g c = (c.record.ensures c.args.pass c.enter-turn.ensures.pass c.enter-turn.ensures.finds).turn

pub returns-clause-grows : goal.returns-clause-grows
returns-clause-grows g c = (c.record.ensures c.args.pass c.enter-turn.ensures.pass c.enter-turn.ensures.finds).grows

pub returns-clause-whole : goal.returns-clause-whole
returns-clause-whole g c = (c.record.ensures c.args.pass c.enter-turn.ensures.pass c.enter-turn.ensures.finds).whole

pub returns-clause-holds : goal.returns-clause-holds
returns-clause-holds g c = (c.record.ensures c.args.pass c.enter-turn.ensures.pass c.enter-turn.ensures.finds).holds

pub returns-clause-answered : goal.returns-clause-answered
returns-clause-answered g c = (c.record.ensures c.args.pass c.enter-turn.ensures.pass c.enter-turn.ensures.finds).answered

pub returns-clause-halted : goal.returns-clause-halted
returns-clause-halted g c = (c.record.ensures c.args.pass c.enter-turn.ensures.pass c.enter-turn.ensures.finds).halted
