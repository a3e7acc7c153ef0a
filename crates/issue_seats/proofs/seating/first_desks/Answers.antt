use Rattle.std.proofs.Common.{◌≡◌, length, map, inl, inr, ◌∙◌, arith}
use Rattle.std.specs.Iterator.Adapters.{zip_first, zip_second}
use Rattle.std.specs.Slice.Iter.{iter_rest}
use Rattle.std.specs.Vec.Iter.{into_iter_items}
use Rattle.std.proofs.lemmas.List.{length-map}
use Rattle.std.proofs.lemmas.Slice.Zip.{AllZip-long}
use Rattle.issue_seats.specs.Steps.{MayBegin, desk_with}
use Rattle.issue_seats.proofs.ListLemmas.{nothing-left}
use Rattle.issue_seats.proofs.seating.first_desks.Goals as goal

pub returns : goal.returns
returns g c =
    let inv = c.loop-server.invariant in
    let it = c.loop-server.server-iterator in
    let left = into_iter_items (zip_second it) in
    let same : length left ≡ length (iter_rest (zip_first it)) = AllZip-long MayBegin (iter_rest (zip_first it)) left inv.left in
    let none : length left ≡ 0 = elim c.in-None.ensures.steps [ inl w ↦ omega (arith, same, w.1.0) | inr w ↦ omega (arith, it.b.rest.ok, w.1.0) ] in
    nothing-left c.loop-server.desks.items (map desk_with left) (map desk_with c.args.passes.items) (length-map left desk_with ∙ none) inv.desks
