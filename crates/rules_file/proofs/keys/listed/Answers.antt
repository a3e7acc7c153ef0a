use Rattle.std.proofs.Common.{◌≤◌, length, map}
use Rattle.std.proofs.lemmas.List.{length-map}
use Rattle.toml.specs.View.{view}
use Rattle.rules_file.proofs.FormLemmas.{items_in-some}
use Rattle.rules_file.proofs.keys.listed.Goals as goal

pub returns-clause-some : goal.returns-clause-some
returns-clause-some c =
    let some : 1 ≤ length (map view c.in-Some.items.now) = items_in-some (view c.in_ok-value.value.now) (map view c.in-Some.items.now) c.in_ok-value.ensures.full c.in-Some.ensures in
    simp length-map at some
