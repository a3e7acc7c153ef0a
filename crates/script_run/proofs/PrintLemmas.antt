-- What makes a run printable: how its issues ended, and its reads of boards, one for each line that asks for one.
use Rattle.std.proofs.Common.{◌≡◌, inl, inr, ℕ, zero, suc, ◌<◌, ◌≤◌, Bool, true, false, cond, List, [], ◌∷◌, length, map, All, AllPairs, Option, Some, None, refl, sym, ap, subst, ◌∙◌, arith}
use Rattle.std.specs.List.{AllByRecursion, AllZip, filter, slice_get}
use Rattle.std.specs.Option.{IfSome}
use Rattle.std.proofs.lemmas.List.Elements.{All-from_recursion, recursion_from_All}
use Rattle.mkt_base.specs.declared.event.Entry.{Entry}
use Rattle.mkt_base.specs.declared.event.Event.{Event}
use Rattle.mkt_base.specs.declared.event.Event.TheVariants as events
use Rattle.mkt_base.specs.declared.journal.Halt.{Halt}
use Rattle.mkt_base.specs.declared.script.ShowLine.{ShowLine}
use Rattle.mkt_base.specs.declared.units.Caller.{Caller}
use Rattle.book_law.proofs.Pairs.{Pairs, pairs-from_AllPairs}
use Rattle.rules_file.specs.Rules.{gateways_in, issues_in, participants_in}
use Rattle.rules_file.specs.declared.rules.Rules.{Rules}
use Rattle.script_file.specs.Script.{IsBefore, IsEventOf as IsScriptEvent, IsScript}
use Rattle.script_file.specs.declared.script.GatewayScriptLine.{GatewayScriptLine}
use Rattle.script_file.specs.declared.script.Script.{Script}
use Rattle.issue_machine.specs.History.{IsHistory}
use Rattle.issue_machine.specs.Journal.{IsEventOf}
use Rattle.issue_journal.specs.Issue.{IsIssueNow, IssueNow, Stands}
use Rattle.run_report.specs.Report.{IsEnded, IsHaltOf, IsNamed, IsShownBefore}
use Rattle.run_report.specs.declared.ended.EndedIssue.{EndedIssue}
use Rattle.run_law.specs.Run.{is_show}
use Rattle.run_law.proofs.RunLemmas.{pairs-all}
use Rattle.script_run.specs.Running.{ended_as}

-- an event of a script is one that its issues take
pub event-sound : (rules : Rules) (participants : ℕ) (event : Event) → participants ≡ length (participants_in rules) → IsScriptEvent rules event → IsEventOf participants event
event-sound rules participants (events.Order participant side kind qty) same is = omega (arith, same, is)
event-sound rules participants (events.Change participant target kind qty) same is = omega (arith, same, is)
event-sound rules participants (events.Cancel participant target) same is = omega (arith, same, is)
event-sound rules participants (events.Clock at) same is = is
event-sound rules participants (events.Crash node) same is = is
event-sound rules participants (events.Rejoin node) same is = is

-- ---- issues that ended

-- an issue that ended, by its number
pub found-ended : (issues : List IssueNow) (i : ℕ) (e : EndedIssue) → slice_get (map ended_as issues) i ≡ Some e → (x : IssueNow) × (slice_get issues i ≡ Some x) × (e ≡ ended_as x)
found-ended [] i e is = absurd (cc)
found-ended (x ∷ issues) zero e is = (x, refl, same e (ended_as x) is)
  where
    same : (a b : EndedIssue) → Some b ≡ Some a → a ≡ b
    same a b h = cc
found-ended (x ∷ issues) (suc i) e is = found-ended issues i e is

-- an issue as it stands may be printed as one that ended
pub ended-now : (rules : Rules) (x : IssueNow) → x.fixed.participants ≡ length (participants_in rules) → IsIssueNow x → All (λ (e : Entry). e.caller.0 ≤ length (gateways_in rules)) x.entries
    → IfSome x.halt (λ h. h.caller.0 ≤ length (gateways_in rules)) → IsEnded rules (ended_as x)
ended-now rules x participants now callers halter = record {
  history = subst (λ (n : ℕ). IsHistory n x.entries) participants now.history;
  few = omega (arith, now.within, now.small);
  callers = callers;
  halt = by x.halt now.stands halter;
}
  where
    by : (h : Option Halt) → Stands x h → IfSome h (λ g. g.caller.0 ≤ length (gateways_in rules)) → IfSome h (IsHaltOf rules x.entries)
    by None stands known = tt
    by (Some h) halted known = record {
      caller = halted.caller.0;
      gateway = known;
      own = halted.own;
      event = subst (λ (n : ℕ). IsEventOf n h.event) participants halted.event;
    }

-- ---- reads of boards

-- a read stands for a line
pub record IsFor (of : GatewayScriptLine) (s : ShowLine) : Type 0 where
  pub line : s.line ≡ of.line.line
  pub gateway : s.gateway ≡ of.gateway
  pub issue : s.issue ≡ of.line.issue

module _ (rules : Rules) where
  -- the line is of an issue and a gateway of the rules
  abbrev pub IsOfRules : GatewayScriptLine → Type 0
  IsOfRules l = (l.line.issue < length (issues_in rules)) × (1 ≤ l.gateway.0) × (l.gateway.0 ≤ length (gateways_in rules))

  filtered : (P : GatewayScriptLine → Type 0) (ls : List GatewayScriptLine) → AllByRecursion P ls → AllByRecursion P (filter is_show ls)
  filtered P [] all = tt
  filtered P (l ∷ ls) all = by (is_show l) (filtered P ls all.1)
    where
      by : (b : Bool) → AllByRecursion P (filter is_show ls) → AllByRecursion P (cond b (l ∷ filter is_show ls) (filter is_show ls))
      by true rest = (all.0, rest)
      by false rest = rest

  -- so are all lines of a script that read a board
  pub reads-known : (script : Script) → IsScript rules script → AllByRecursion IsOfRules (filter is_show script.lines)
  reads-known script sound = filtered IsOfRules script.lines (both script.lines (recursion_from_All _ script.lines sound.issues) (recursion_from_All _ script.lines sound.gateways))
    where
      both : (ls : List GatewayScriptLine) → AllByRecursion (λ (l : GatewayScriptLine). l.line.issue < length (issues_in rules)) ls
          → AllByRecursion (λ (l : GatewayScriptLine). (1 ≤ l.gateway.0) × (l.gateway.0 ≤ length (gateways_in rules))) ls → AllByRecursion IsOfRules ls
      both [] p q = tt
      both (l ∷ ls) p q = ((p.0, q.0.0, q.0.1), both ls p.1 q.1)

  named-for : (ls : List GatewayScriptLine) (ss : List ShowLine) → AllByRecursion IsOfRules ls → AllZip IsFor ls ss → AllByRecursion (IsNamed rules) ss
  named-for [] [] known all = tt
  named-for [] (s ∷ ss) known all = absurd all
  named-for (l ∷ ls) [] known all = absurd all
  named-for (l ∷ ls) (s ∷ ss) known all =
      let gateway = ap (λ (c : Caller). c.0) all.0.gateway in (
        record {
          issue = omega (arith, all.0.issue, known.0.0);
          caller = omega (arith, gateway, known.0.1);
          gateway = omega (arith, gateway, known.0.2);
        },
        named-for ls ss known.1 all.1,
      )

  rise-for : (ls : List GatewayScriptLine) (ss : List ShowLine) → AllZip IsFor ls ss → Pairs IsBefore ls → Pairs IsShownBefore ss
  rise-for [] [] all rise = tt
  rise-for [] (s ∷ ss) all rise = absurd all
  rise-for (l ∷ ls) [] all rise = absurd all
  rise-for (l ∷ ls) (s ∷ ss) all rise = (first ls ss all.1 rise.0, rise-for ls ss all.1 rise.1)
    where
      first : (ms : List GatewayScriptLine) (us : List ShowLine) → AllZip IsFor ms us → AllByRecursion (IsBefore l) ms → AllByRecursion (IsShownBefore s) us
      first [] [] a r = tt
      first [] (u ∷ us) a r = absurd a
      first (m ∷ ms) [] a r = absurd a
      first (m ∷ ms) (u ∷ us) a r = (by r.0, first ms us a.1 r.1)
        where
          by : IsBefore l m → IsShownBefore s u
          by (inl less) = inl (omega (arith, less, all.0.line, a.0.line))
          by (inr same) = inr (all.0.line ∙ same.0 ∙ sym a.0.line, omega (arith, same.1, all.0.issue, a.0.issue))

  pairs-filtered : (ls : List GatewayScriptLine) → Pairs IsBefore ls → Pairs IsBefore (filter is_show ls)
  pairs-filtered [] is = tt
  pairs-filtered (l ∷ ls) is = by (is_show l) (filtered (IsBefore l) ls is.0) (pairs-filtered ls is.1)
    where
      by : (b : Bool) → AllByRecursion (IsBefore l) (filter is_show ls) → Pairs IsBefore (filter is_show ls) → Pairs IsBefore (cond b (l ∷ filter is_show ls) (filter is_show ls))
      by true first rest = (first, rest)
      by false first rest = rest

  -- reads of a script's lines are named by its rules, and rise
  pub reads-named : (script : Script) (ss : List ShowLine) → IsScript rules script → AllZip IsFor (filter is_show script.lines) ss → All (IsNamed rules) ss
  reads-named script ss sound all = All-from_recursion (IsNamed rules) ss (named-for (filter is_show script.lines) ss (reads-known script sound) all)

  pub reads-rise : (script : Script) (ss : List ShowLine) → IsScript rules script → AllZip IsFor (filter is_show script.lines) ss → AllPairs IsShownBefore ss
  reads-rise script ss sound all =
      pairs-all IsShownBefore ss (rise-for (filter is_show script.lines) ss all (pairs-filtered script.lines (pairs-from_AllPairs IsBefore script.lines sound.rise)))
