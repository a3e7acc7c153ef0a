-- The issues that are left.
use Rattle.std.proofs.Common.{◌≡◌, ℕ, suc, ◌-◌, ◌<◌, List, [], ◌∷◌, ◌++◌, None, Some, Option, OnOk, Result, Ok, Err, length, replicate, append_assoc, refl, sym, ap, ◌∙◌, arith}
use Rattle.std.proofs.lemmas.List.{length_push}
use Rattle.mkt_base.specs.declared.event.Entry.{Entry}
use Rattle.mkt_base.specs.declared.journal.Halt.{Halt}
use Rattle.run_report.specs.declared.ended.EndedIssue.{EndedIssue}
use Rattle.audit.specs.State.{at_of}
use Rattle.audit.specs.Told.{asked_told, at_point, ended_with, filled_up}
use Rattle.audit.specs.declared.told.Asked.{Asked}
use Rattle.audit.specs.declared.told.Point.{Point}
use Rattle.audit.specs.declared.told.Point.TheVariants as points
use Rattle.audit.specs.declared.told.Told.{Told}

-- an issue without an entry more is one of those that are filled up
pub filled-more : (n : ℕ) (done after : List EndedIssue) (size : ℕ) → size ≡ length done → size < n → after ≡ done ++ ended_with [] None ∷ [] → filled_up n after ≡ filled_up n done
filled-more n done after size size_is below pushed =
    let e = ended_with [] None in
    let left : n - length done ≡ suc (n - length (done ++ e ∷ [])) = omega (arith, size_is, below, length_push done e) in
    ap (filled_up n) pushed ∙ append_assoc done (e ∷ []) (replicate (n - length (done ++ e ∷ [])) e) ∙ ap (λ k. done ++ replicate k e) (sym left)

-- in the part of an issue nothing was asked
asked-going : (p : Point) (done : List EndedIssue) (journal : List Entry) (halt : Option Halt) (asked : List Asked) → p ≡ points.Going → asked_told (at_point p done journal halt asked) ≡ []
asked-going points.Going done journal None asked e = refl
asked-going points.Going done journal (Some h) asked e = refl
asked-going points.Showing done journal halt asked e = absurd (cc)
asked-going points.Over done journal halt asked e = absurd (cc)

pub none-asked : {A E : Type 0} (told : Told) (result : Result A E) {after : List Asked} → told.point ≡ points.Going → after ≡ [] → OnOk result (after ≡ asked_told (at_of told))
none-asked told (Ok x) {after} e none = none ∙ sym (asked-going told.point told.done.items told.journal told.halt told.asked.items e)
none-asked told (Err x) {after} e none = tt
