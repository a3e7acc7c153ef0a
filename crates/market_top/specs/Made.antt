-- What the commands over a script that is made of a number answer: `gen` and `replay --gen`.
use Rattle.std.specs.Prelude.{◌≡◌, ◌⊎◌, ℕ, List, [], Option}
use Rattle.memory_node.specs.Given.{Given}
use Rattle.memory_node.specs.declared.node.Label.{Label}
use Rattle.rules_file.specs.Rules.{rules_of}
use Rattle.rules_file.specs.declared.rules.Rules.{Rules}
use Rattle.script_file.specs.Generated.{generated}
use Rattle.script_file.specs.Script.{script_of}
use Rattle.market_top.specs.Check.{OnRules}
use Rattle.market_top.specs.Files.{OnScript}
use Rattle.market_top.specs.Replay.{IsReplayed}
use Rattle.market_top.specs.Verdict.{Verdict, no_memory}
use Rattle.market_top.specs.declared.extent.Extent.TheVariants.{Totals}

-- the script that is made of a number is printed
abbrev pub made : ℕ → ℕ → Verdict
made number orders = record { status = 0; out = generated number orders; err = [] }

-- The verdict on a script that is made, under rules: there was no memory for it; or it is refused as one that was read would be, where the
-- rules lack one of its names; or the sums of its replay are told.
abbrev pub IsMadeUnder : (Label → Type 0) → (Label → Option Given) → ℕ → ℕ → Rules → Verdict → Type 0
IsMadeUnder is_out given number orders rules v =
    (v ≡ no_memory) ⊎ OnScript (script_of rules (generated number orders)) (IsReplayed Totals is_out given rules) v

-- the verdict on the bytes of a rules file
abbrev pub IsMadeVerdict : (Label → Type 0) → (Label → Option Given) → ℕ → ℕ → List ℕ → Verdict → Type 0
IsMadeVerdict is_out given number orders bytes v = OnRules (rules_of bytes) (IsMadeUnder is_out given number orders) v
