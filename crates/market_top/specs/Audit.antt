-- What the command `audit` answers.
use Rattle.std.specs.Prelude.{◌≡◌, ◌⊎◌, ◌<◌, ◌≤◌, ℕ, List, [], ◌∷◌, length, codes}
use Rattle.std.specs.Fmt.{decimal}
use Rattle.mkt_base.specs.Text.{line}
use Rattle.rules_file.specs.Rules.{rules_of}
use Rattle.rules_file.specs.declared.rules.Rules.{Rules}
use Rattle.audit.specs.Reports.{IsVerdict}
use Rattle.text_match.specs.declared.matcher.Verdict as text
use Rattle.text_match.specs.declared.matcher.Verdict.TheVariants.{No, Yes}
use Rattle.market_top.specs.Check.{OnRules}
use Rattle.market_top.specs.Verdict.{Verdict, no_memory}

-- `yes`, or `no` with the number of the first line that no report has
abbrev pub answer_line : text.Verdict → List ℕ
answer_line Yes = line (codes "yes" ∷ [])
answer_line (No number) = line (codes "no" ∷ decimal number ∷ [])

abbrev pub answer_status : text.Verdict → ℕ
answer_status Yes = 0
answer_status (No number) = 7

-- a report was audited
abbrev pub audited : text.Verdict → Verdict
audited answer = record { status = answer_status answer; out = answer_line answer; err = [] }

-- the report has more bytes than are audited
abbrev pub too_long : Verdict
too_long = record { status = 1; out = []; err = line (codes "report" ∷ codes "too" ∷ codes "long" ∷ []) }

-- the verdict on the bytes of a report, under rules: more than 268,435,456 bytes are refused; there may be no memory for others
abbrev pub IsAuditedUnder : Rules → List ℕ → Verdict → Type 0
IsAuditedUnder rules bytes v =
    ((268435456 < length bytes) × (v ≡ too_long))
    ⊎ ((length bytes ≤ 268435456) × ((v ≡ no_memory) ⊎ ((answer : text.Verdict) × IsVerdict rules bytes answer × (v ≡ audited answer))))

-- the verdict on the bytes of a rules file, where the report is read under the rules
abbrev pub IsAuditVerdict : ((List ℕ → Verdict → Type 0) → Verdict → Type 0) → List ℕ → Verdict → Type 0
IsAuditVerdict on_report bytes v = OnRules (rules_of bytes) (λ rules. on_report (IsAuditedUnder rules)) v
