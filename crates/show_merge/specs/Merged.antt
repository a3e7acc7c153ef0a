-- The reads of boards of several gateways, in the order of the script's lines.
use Rattle.std.specs.Prelude.{◌≡◌, ℕ, ◌+◌, ◌<◌, List, length, All, AllPairs, Some, slice_get, slice_index_or}
use Rattle.mkt_base.specs.declared.script.ShowLine.{ShowLine}
use Rattle.rules_file.specs.declared.issue.IssueRules.{IssueRules}
use Rattle.rules_file.specs.declared.rules.Rules.{Rules}
use Rattle.rules_file.specs.Rules.{issues_in}
use Rattle.script_file.specs.declared.script.GatewayScriptLine.{GatewayScriptLine}
use Rattle.run_report.specs.Report.{IsShown}
use Rattle.run_report.specs.declared.ended.EndedIssue.{EndedIssue}
use Rattle.run_law.specs.Run.{AreShowsOf, IsNoShorter}
use Rattle.gateway.specs.Ran.{GatewayNow}
use Rattle.stage_law.specs.Played.{AreReadsBy}

-- each gateway has the caller of its place, counted from 1
abbrev pub AreNumbered : List GatewayNow → Type 0
AreNumbered gateways = (k : ℕ) (g : GatewayNow) → k < length gateways → (slice_index_or gateways k g).caller.0 ≡ k + 1

-- what holds of the reads of each gateway
abbrev pub EachGateway : (ℕ → List ShowLine → Type 0) → List GatewayNow → Type 0
EachGateway P gateways = (k : ℕ) (g : GatewayNow) → k < length gateways → P (k + 1) (slice_index_or gateways k g).shows

-- a read shows the board of a front part of its issue's journal
abbrev pub IsBoardOf : Rules → List EndedIssue → ShowLine → Type 0
IsBoardOf rules issues s =
    (r : IssueRules) (ended : EndedIssue) → slice_get (issues_in rules) s.issue ≡ Some r → slice_get issues s.issue ≡ Some ended → IsShown rules r ended.journal s.board

-- Where each gateway's reads are those that its lines ask for, the merged ones are those that the script's lines ask for, in the order of
-- lines; what holds of each gateway's reads holds of them.
pub record AreMerged (lines : List GatewayScriptLine) (gateways : List GatewayNow) (shows : List ShowLine) : Type 0 where
  pub reads : (issues : List EndedIssue) → EachGateway (λ (g : ℕ) (ss : List ShowLine). AreReadsBy lines issues g ss) gateways → AreShowsOf lines issues shows
  pub boards : (rules : Rules) (issues : List EndedIssue) → EachGateway (λ (g : ℕ) (ss : List ShowLine). All (IsBoardOf rules issues) ss) gateways → All (IsBoardOf rules issues) shows
  pub forward : (issues : List EndedIssue) → EachGateway (λ (g : ℕ) (ss : List ShowLine). AreReadsBy lines issues g ss) gateways
      → EachGateway (λ (g : ℕ) (ss : List ShowLine). All (λ (s : ShowLine). s.gateway.0 ≡ g) ss) gateways → EachGateway (λ (g : ℕ) (ss : List ShowLine). AllPairs IsNoShorter ss) gateways → AllPairs IsNoShorter shows
