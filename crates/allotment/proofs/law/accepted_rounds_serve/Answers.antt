use Rattle.allotment.proofs.LawLemmas.{accepted_rounds_serve}
use Rattle.allotment.proofs.law.accepted_rounds_serve.Goals as goal

pub returns : goal.returns
returns c = accepted_rounds_serve
