-- What the command `check` answers.
use Rattle.std.specs.Prelude.{◌≡◌, ℕ, [], List, Result, Ok, Err}
use Rattle.rules_file.specs.Rules.{rules_of}
use Rattle.rules_file.specs.declared.fault.RulesFault.{RulesFault}
use Rattle.rules_file.specs.declared.fault.RulesFault.TheVariants.{Memory}
use Rattle.rules_file.specs.declared.rules.Rules.{Rules}
use Rattle.rules_report.specs.FaultLine.{fault_line}
use Rattle.rules_report.specs.Tables.{tables_text}
use Rattle.market_top.specs.Verdict.{Verdict, no_memory}

-- the rules file is refused for its first fault
abbrev pub refused_rules : RulesFault → Verdict
refused_rules fault = record { status = 1; out = []; err = fault_line fault }

-- there are no rules: the file is refused, or there was no memory for what it says
abbrev pub no_rules : RulesFault → Verdict
no_rules Memory = no_memory
no_rules fault = refused_rules fault

-- the tables of the rules
abbrev pub tabled : Rules → Verdict
tabled rules = record { status = 0; out = tables_text rules; err = [] }

-- rules that are refused are told their first fault; on any other there is a verdict
abbrev pub OnRules : Result Rules RulesFault → (Rules → Verdict → Type 0) → Verdict → Type 0
OnRules (Err fault) on v = v ≡ refused_rules fault
OnRules (Ok rules) on v = on rules v

-- the verdict on the bytes of a rules file
abbrev pub IsCheckVerdict : List ℕ → Verdict → Type 0
IsCheckVerdict bytes v = OnRules (rules_of bytes) (λ rules w. w ≡ tabled rules) v
