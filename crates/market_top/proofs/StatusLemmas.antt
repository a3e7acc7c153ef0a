-- An issue that may be printed has a synchronised node at its end exactly where it is not halted.
use Rattle.std.proofs.Common.{◌≡◌, ℕ, Bool, true, false, not, ◌&&◌, ◌||◌, if◌then◌else◌, List, [], ◌∷◌, ◌++◌, Option, Some, None, All, length, refl, sym, ap, ◌∙◌, append_assoc, append-nil, is_some}
use Rattle.std.proofs.lemmas.List.Elements.{All-head, All-tail}
use Rattle.std.specs.List.{list_all, list_any}
use Rattle.mkt_base.specs.declared.event.Entry.{Entry}
use Rattle.mkt_base.specs.declared.journal.Halt.{Halt}
use Rattle.rules_file.specs.Rules.{participants_in}
use Rattle.rules_file.specs.declared.rules.Rules.{Rules}
use Rattle.node_rules.specs.Nodes.{has_synchronised}
use Rattle.issue_machine.specs.History.{FollowOn, IsHistory, nodes_after}
use Rattle.run_report.specs.Report.{IsEnded}
use Rattle.run_report.specs.declared.ended.EndedIssue.{EndedIssue}
use Rattle.market_top.specs.Reporting.{has_node, nodes_left, status_of}

-- an issue is halted
abbrev pub is_halted : EndedIssue → Bool
is_halted ended = is_some ended.halt

-- each entry of a history leaves a synchronised node
kept-on : (participants : ℕ) (before journal : List Entry) → has_synchronised (nodes_after before) ≡ true → FollowOn participants before journal → has_synchronised (nodes_after (before ++ journal)) ≡ true
kept-on participants before [] has follow = ap (λ (j : List Entry). has_synchronised (nodes_after j)) (append-nil before) ∙ has
kept-on participants before (e ∷ es) has follow =
    ap (λ (j : List Entry). has_synchronised (nodes_after j)) (sym (append_assoc before (e ∷ []) es)) ∙ kept-on participants (before ++ e ∷ []) es follow.0.kept follow.1

-- and so does the journal with no entry
kept : (participants : ℕ) (journal : List Entry) → IsHistory participants journal → has_synchronised (nodes_after journal) ≡ true
unfolding nodes_after
kept participants journal follow = kept-on participants [] journal refl follow

has-node : (rules : Rules) (ended : EndedIssue) → IsEnded rules ended → has_node ended ≡ not (is_halted ended)
has-node rules ended is = by ended.halt
  where
    by : (halt : Option Halt) → has_synchronised (nodes_left ended.journal halt) ≡ not (is_some halt)
    by None = kept (length (participants_in rules)) ended.journal is.history
    by (Some h) = refl

both : (a b x y : Bool) → a ≡ not x → b ≡ not y → (a && b) ≡ not (x || y)
both a b true y no-a no-b = ap (λ (t : Bool). t && b) no-a
both a b false y yes-a no-b = ap (λ (t : Bool). t && b) yes-a ∙ no-b

all-have : (rules : Rules) (issues : List EndedIssue) → All (IsEnded rules) issues → list_all has_node issues ≡ not (list_any is_halted issues)
all-have rules [] are = refl
all-have rules (e ∷ es) are = both (has_node e) (list_all has_node es) (is_halted e) (list_any is_halted es) (has-node rules e (All-head (IsEnded rules) e es are)) (all-have rules es (All-tail (IsEnded rules) e es are))

-- the status is 6 where an issue is halted
pub status-halted : (rules : Rules) (issues : List EndedIssue) → All (IsEnded rules) issues → true ≡ list_any is_halted issues → 6 ≡ status_of issues
unfolding status_of
status-halted rules issues are some =
    let none : list_all has_node issues ≡ false = all-have rules issues are ∙ ap not (sym some) in
    ap (λ (all : Bool). let s : ℕ = if all then 0 else 6 in s) (sym none)

-- and else 0
pub status-done : (rules : Rules) (issues : List EndedIssue) → All (IsEnded rules) issues → false ≡ list_any is_halted issues → 0 ≡ status_of issues
unfolding status_of
status-done rules issues are no-halt =
    let whole : list_all has_node issues ≡ true = all-have rules issues are ∙ ap not (sym no-halt) in
    ap (λ (all : Bool). let s : ℕ = if all then 0 else 6 in s) (sym whole)
