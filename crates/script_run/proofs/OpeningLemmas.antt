-- Issues that are opened.
use Rattle.std.proofs.Common.{◌≡◌, ℕ, ◌<◌, ◌≤◌, [], length, All, Option, Some, None, inl, inr, sym, ap, subst, ◌∙◌, arith}
use Rattle.std.specs.List.{slice_get}
use Rattle.std.specs.Option.{IfSome}
use Rattle.std.proofs.lemmas.List.Elements.{All-nil}
use Rattle.std.proofs.lemmas.Option.{slice_get_cases}
use Rattle.mkt_base.specs.declared.event.Entry.{Entry}
use Rattle.mkt_base.specs.declared.journal.Halt.{Halt}
use Rattle.memory_node.specs.declared.node.Label.{Label}
use Rattle.rules_file.specs.Rules.{gateways_in, issues_in, participants_in}
use Rattle.rules_file.specs.declared.issue.IssueRules.{IssueRules}
use Rattle.rules_file.specs.declared.rules.Rules.{Rules}
use Rattle.issue_journal.specs.Issue.{Fixed, IsIssueNow, IssueNow, RoomView, fixed_in, room_for}
use Rattle.script_run.specs.Nodes.{node_label}
use Rattle.script_run.specs.Running.{IsOpenedFor, capacity_for}

module _ (rules : Rules) (issue capacity : ℕ) (room : RoomView) (inside : issue < length (issues_in rules)) (making : (r : IssueRules) → slice_get (issues_in rules) issue ≡ Some r → room ≡ room_for rules r issue capacity) where
  -- the rules of the issue are there
  found : (r : IssueRules) × (slice_get (issues_in rules) issue ≡ Some r)
  found = elim (slice_get_cases (issues_in rules) issue).1 [
    | inl there ↦ (there.0, there.2)
    | inr past ↦ absurd (omega (arith, past.0, inside))
  ]

  pub room-capacity : room.capacity ≡ capacity
  room-capacity = ap (λ (v : RoomView). v.capacity) (making found.0 found.1)

  room-participants : room.participants ≡ length (participants_in rules)
  room-participants = ap (λ (v : RoomView). v.participants) (making found.0 found.1)

  pub room-holds : (n : ℕ) → capacity ≤ n → room.capacity ≤ n
  room-holds n h = omega (arith, h, room-capacity)

  pub opened-is : (count : ℕ) (i : IssueNow) (a b c : Label) → capacity ≡ capacity_for count → i.fixed ≡ fixed_in room 0 a b c → i.entries ≡ [] → i.halt ≡ None → IsIssueNow i
      → a ≡ node_label issue 0 → b ≡ node_label issue 1 → c ≡ node_label issue 2 → IsOpenedFor rules issue count i
  opened-is count i a b c cap fixed entries halt stands la lb lc = record {
    issue_now = stands;
    terms = λ r is. ap (λ (f : Fixed). f.terms) fixed ∙ ap (λ (v : RoomView). v.terms) (making r is);
    participants = ap (λ (f : Fixed). f.participants) fixed ∙ room-participants;
    capacity = ap (λ (f : Fixed). f.capacity) fixed ∙ room-capacity ∙ cap;
    place = ap (λ (f : Fixed). f.place) fixed;
    first = ap (λ (f : Fixed). f.first) fixed ∙ la;
    second = ap (λ (f : Fixed). f.second) fixed ∙ lb;
    third = ap (λ (f : Fixed). f.third) fixed ∙ lc;
    callers = subst (All (λ (e : Entry). e.caller.0 ≤ length (gateways_in rules))) (sym entries) (All-nil (λ (e : Entry). e.caller.0 ≤ length (gateways_in rules)));
    halter = subst (λ (h : Option Halt). IfSome h (λ x. x.caller.0 ≤ length (gateways_in rules))) (sym halt) tt;
  }
