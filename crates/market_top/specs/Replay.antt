-- What the command `replay` answers.
use Rattle.std.specs.Prelude.{Option}
use Rattle.memory_node.specs.Given.{Given}
use Rattle.memory_node.specs.declared.node.Label.{Label}
use Rattle.rules_file.specs.declared.rules.Rules.{Rules}
use Rattle.script_file.specs.declared.script.Script.{Script}
use Rattle.run_law.specs.Replayed.{IsReplayOf}
use Rattle.run_report.specs.Report.{Run}
use Rattle.market_top.specs.Reporting.{IsReportOf}
use Rattle.market_top.specs.ScriptRun.{IsScriptRun}
use Rattle.market_top.specs.Verdict.{Verdict}
use Rattle.market_top.specs.declared.extent.Extent.{Extent}

-- How a script was replayed: it was run, and its lines were done in file order.
pub record IsReplay (is_out : Label → Type 0) (given : Label → Option Given) (rules : Rules) (script : Script) (run : Run) : Type 0 where
  pub ran : IsScriptRun is_out given rules script run
  pub order : IsReplayOf script run

-- the script is replayed and its run reported; or there was no memory for it
abbrev pub IsReplayed : Extent → (Label → Type 0) → (Label → Option Given) → Rules → Script → Verdict → Type 0
IsReplayed extent is_out given rules script v = IsReportOf extent rules (IsReplay is_out given rules script) v
