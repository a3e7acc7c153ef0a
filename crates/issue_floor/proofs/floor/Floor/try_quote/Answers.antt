use Rattle.issue_floor.proofs.floor.Floor.try_quote.Goals as goal

pub returns-clause-filled : goal.returns-clause-filled
returns-clause-filled g c = rw (← c.self.view_is) c.try_quote.ensures.filled
