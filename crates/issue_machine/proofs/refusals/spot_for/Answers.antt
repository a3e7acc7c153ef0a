use Rattle.std.proofs.Common.{◌≡◌, true, None, Some}
use Rattle.issue_book.specs.Entering.{spot_of}
use Rattle.issue_machine.specs.Answering.{closed, is_quantity}
use Rattle.issue_machine.proofs.OrderLemmas.{accepts}
use Rattle.issue_machine.proofs.refusals.spot_for.Goals as goal

pub returns-in_default-Some : goal.returns-in_default-Some
returns-in_default-Some c =
    let v = c.args.floor.now in
    let opened : closed v.state ≡ None = cc in
    let quantity : is_quantity v.terms c.args.qty.0 ≡ true = cc in
    let stands : spot_of v.terms c.args.kind ≡ Some c.in_default-Some.spot = cc in
    accepts v.terms v.state c.args.kind c.args.qty c.in_default-Some.spot opened quantity stands
