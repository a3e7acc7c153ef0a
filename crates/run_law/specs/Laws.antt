-- The law of a script that is replayed: the clause of a function.
use Rattle.rules_file.specs.declared.rules.Rules.{Rules}
use Rattle.script_file.specs.Script.{IsScript}
use Rattle.script_file.specs.declared.script.Script.{Script}
use Rattle.run_report.specs.Report.{IsRun, Run}
use Rattle.run_law.specs.Replayed.{IsReplayOf}
use Rattle.run_law.specs.Run.{IsRunOf}

-- what is done in file order is a run of the script
abbrev pub ReplayIsRun : Type 0
ReplayIsRun = (rules : Rules) (script : Script) (run : Run) → IsScript rules script → IsRun rules run → IsReplayOf script run → IsRunOf rules script run
