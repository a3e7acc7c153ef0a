use Rattle.std.proofs.Common.{◌∙◌, arith}
use Rattle.gateway_tests.proofs.Places.{entered-all}
use Rattle.gateway_tests.proofs.tests.desk.ListDeskDesk.show.Goals as goal

pub returns-clause-board : goal.returns-clause-board
returns-clause-board g c = let d = c.args.self.now in (omega arith, entered-all d.seen d.places.items d.within ∙ d.each)
