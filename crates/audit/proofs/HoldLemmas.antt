-- What a matcher was handed of a report.
use Rattle.std.proofs.Common.{◌≡◌, ℕ, List, [], Option, Some, subst}
use Rattle.std.specs.Io.KnownBytes.{Appends}
use Rattle.mkt_io.specs.Faults.{Rises}
use Rattle.mkt_io.specs.Sink.{AppendsPart}
use Rattle.run_report.specs.Reported.{HasCause}
use Rattle.run_report.specs.declared.ended.ReportFault.{ReportFault}
use Rattle.run_report.specs.declared.ended.ReportFault.TheVariants.{Memory, Write}
use Rattle.text_match.specs.Matched.{WasHanded, known}
use Rattle.text_match.proofs.MatchLemmas.{handed-all, handed-part}

-- the cause of a write that failed
pub failed-cause : {P : Type 0} (fault : ReportFault) → fault ≡ Write → HasCause fault P → P
failed-cause Write e cause = cause
failed-cause Memory e cause = absurd (cc)

-- all of it
pub held-all : (text other : List ℕ) (old new : Option (List ℕ)) (faults : ℕ) → old ≡ Some (known text []) → Appends old new other → WasHanded text other new faults
held-all text other old new faults is appends =
    let P : Option (List ℕ) → Type 0 = λ o. Appends o new other in handed-all text other new faults (subst P is appends)

-- a front part of it, up to a fault
pub held-part : (text other : List ℕ) (old new : Option (List ℕ)) (before faults : ℕ) → old ≡ Some (known text []) → before ≡ 0 → AppendsPart old new other → Rises before faults
    → WasHanded text other new faults
held-part text other old new before faults is none part rises =
    let P : Option (List ℕ) → Type 0 = λ o. AppendsPart o new other in handed-part text other new before faults (subst P is part) none rises
