use Rattle.std.proofs.Common.{◌≡◌, ℕ, Option, Some, slice_get, IfSome, subst, sym, rules, tests}
use Rattle.std.proofs.lemmas.Iterator.{YieldsList-from_slice}
use Rattle.std.proofs.lemmas.Iterator.Search.{position_from_yields_List}
use Rattle.mkt_io.specs.Memory.{file_of, bytes_of}
use Rattle.mkt_io.proofs.MemoryLemmas.{is_named, file-at}
use Rattle.mkt_io.proofs.memory.place.Goals as goal

pub returns : goal.returns
returns c =
    let files = c.args.files.now in
    let name = c.args.name.now in
    let found = position_from_yields_List (is_named name) _ _ c.position.result c.position.ensures.ran (YieldsList-from_slice files cc) (λ x b q k. search (rules, tests)) in
    let P : Option ℕ → Type 0 = λ r. IfSome r (λ place. file_of files name ≡ Some (bytes_of (slice_get files place))) in
    subst P (sym found) (file-at files name)
