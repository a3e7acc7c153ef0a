use Rattle.std.proofs.Common.{◌≡◌, [], rules}
use Rattle.audit.proofs.KeptLemmas.{kept-none}
use Rattle.audit.proofs.journal.Journal.new.Goals as goal

pub invariant_of-result : goal.invariant_of-result
invariant_of-result c = let none : c.new.result.items ≡ [] = search rules in rw none kept-none
