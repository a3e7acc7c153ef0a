use Rattle.std.proofs.Common.{◌≡◌, Some}
use Rattle.toml.specs.Data.{as_array}
use Rattle.toml.specs.View.{items_view, view}
use Rattle.rules_file.proofs.FormLemmas.{items_in-array}
use Rattle.rules_file.proofs.value.items_in.Goals as goal

pub returns-in-Some : goal.returns-in-Some
returns-in-Some c =
    let seen : Some (items_view c.as_slice.result.now) ≡ as_array (view c.args.value.now) = rw c.as_slice.ensures.value c.in-Some.ensures in
    items_in-array c.as_slice.result.now (view c.args.value.now) seen
