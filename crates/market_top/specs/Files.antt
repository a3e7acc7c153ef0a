-- The commands over a rules file and a script: how both are read, and a verdict under both.
use Rattle.std.specs.Prelude.{◌≡◌, ℕ, List, [], ◌∷◌, Option, Result, Ok, Err, codes}
use Rattle.std.specs.Fmt.{decimal}
use Rattle.mkt_base.specs.Text.{line}
use Rattle.rules_file.specs.Rules.{rules_of}
use Rattle.rules_file.specs.declared.rules.Rules.{Rules}
use Rattle.script_file.specs.Script.{script_of}
use Rattle.script_file.specs.declared.fault.ScriptFault.{ScriptFault}
use Rattle.script_file.specs.declared.fault.ScriptFault.TheVariants.{At, Memory}
use Rattle.script_file.specs.declared.script.Script.{Script}
use Rattle.market_top.specs.Check.{OnRules}
use Rattle.market_top.specs.Verdict.{IsRead, OnFile, Told, Verdict, no_memory}

-- the line of a script's first fault
abbrev pub script_fault_line : ℕ → ℕ → List ℕ
script_fault_line number fault = line (codes "script" ∷ decimal number ∷ decimal fault ∷ [])

-- the script is refused for its first fault; or there was no memory for what it says
abbrev pub no_script : ScriptFault → Verdict
no_script (At number fault) = record { status = 1; out = []; err = script_fault_line number fault }
no_script Memory = no_memory

-- a script that is refused is told its first fault; on any other there is a verdict
abbrev pub OnScript : Result Script ScriptFault → (Script → Verdict → Type 0) → Verdict → Type 0
OnScript (Err fault) on v = v ≡ no_script fault
OnScript (Ok script) on v = on script v

-- the verdict where the rules of this name are read: at most 1,048,576 bytes, and one more
abbrev pub OnRulesFile : Option (List ℕ → Option (List ℕ)) → Type 0 → List ℕ → (Rules → Verdict → Type 0) → Verdict → Type 0
OnRulesFile files shelf_failed rules on v = OnFile 1048576 files shelf_failed rules (λ bytes. OnRules (rules_of bytes) on) v

-- the verdict where the script of this name is read under rules: at most 101,000,000 bytes, and one more
abbrev pub OnScriptFile : Option (List ℕ → Option (List ℕ)) → Type 0 → List ℕ → (Rules → Script → Verdict → Type 0) → Rules → Verdict → Type 0
OnScriptFile files shelf_failed script on rules v = OnFile 101000000 files shelf_failed script (λ bytes. OnScript (script_of rules bytes) (on rules)) v

-- The verdict over a rules file and a script of these names: the rules are read first; where they are not refused, the script is read under
-- them; and where that is not refused either, there is a verdict on both.
abbrev pub OnFiles : Option (List ℕ → Option (List ℕ)) → Type 0 → List ℕ → List ℕ → (Rules → Script → Verdict → Type 0) → Verdict → Type 0
OnFiles files shelf_failed rules script on v = OnRulesFile files shelf_failed rules (OnScriptFile files shelf_failed script on) v

-- ---- what is known once both are read

-- these are the rules of the file of this name
pub record AreRulesOf (files : Option (List ℕ → Option (List ℕ))) (name : List ℕ) (rules : Rules) : Type 0 where
  pub bytes : List ℕ
  pub read : IsRead 1048576 files name bytes
  pub said : rules_of bytes ≡ Ok rules

-- this is the script of the file of this name, under rules
pub record IsScriptOf (files : Option (List ℕ → Option (List ℕ))) (name : List ℕ) (rules : Rules) (script : Script) : Type 0 where
  pub bytes : List ℕ
  pub read : IsRead 101000000 files name bytes
  pub said : script_of rules bytes ≡ Ok script

-- no verdict on what was read
abbrev pub Unruled : Rules → Verdict → Type 0
Unruled rules v = ⊥

abbrev pub Unscripted : Rules → Script → Verdict → Type 0
Unscripted rules script v = ⊥

-- there is such a verdict with nothing for standard output, and it is told
pub record IsTold {E : Type 0} (err : E → Option (List ℕ)) (err_faults : E → ℕ) (IsOne : Verdict → Type 0) (e e' : E) (status : ℕ) : Type 0 where
  pub verdict : Verdict
  pub is : IsOne verdict
  pub nothing : verdict.out ≡ []
  pub told : Told err err_faults verdict.err verdict.status e e' status
