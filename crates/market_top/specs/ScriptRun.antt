-- How a script was run, whichever command ran it; and what the command `run` answers.
use Rattle.std.specs.Prelude.{Option}
use Rattle.memory_node.specs.Given.{Given}
use Rattle.memory_node.specs.declared.node.Label.{Label}
use Rattle.rules_file.specs.declared.rules.Rules.{Rules}
use Rattle.script_file.specs.declared.script.Script.{Script}
use Rattle.run_law.specs.Run.{IsRunOf}
use Rattle.run_report.specs.Report.{Run}
use Rattle.script_run.specs.Nodes.{AllGivenBack}
use Rattle.market_top.specs.Reporting.{IsReportOf}
use Rattle.market_top.specs.Verdict.{Verdict}
use Rattle.market_top.specs.declared.extent.Extent.TheVariants.{Whole}

-- A script was run: each gateway's events stand in the journals once and in its order, stage by stage, with what the rules give for them; and the
-- nodes of each issue were given back as they stood at its end, with no node left out.
pub record IsScriptRun (is_out : Label → Type 0) (given : Label → Option Given) (rules : Rules) (script : Script) (run : Run) : Type 0 where
  pub holds : IsRunOf rules script run
  pub nodes : AllGivenBack given run
  pub back : (l : Label) → is_out l → ⊥

-- the script is run, in whatever order its gateways came, and the run is reported; or there was no memory for it
abbrev pub IsPlayed : (Label → Type 0) → (Label → Option Given) → Rules → Script → Verdict → Type 0
IsPlayed is_out given rules script v = IsReportOf Whole rules (IsScriptRun is_out given rules script) v
