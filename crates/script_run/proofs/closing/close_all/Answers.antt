use Rattle.std.proofs.Common.{◌≡◌, suc, length-append, ◌+◌, [], ◌∷◌, ◌++◌, List, Some, length, map, slice_get, refl, sym, ap, subst, ◌∙◌, arith, append_assoc}
use Rattle.std.proofs.lemmas.List.{length-map, length_push, map_push}
use Rattle.issue_journal.specs.Issue.{IssueNow}
use Rattle.run_law.proofs.Lists.{get-behind}
use Rattle.run_report.specs.declared.ended.EndedIssue.{EndedIssue}
use Rattle.script_run.specs.Running.{AreOutFrom, IsLabelled, ended_as}
use Rattle.script_run.specs.Nodes.{node_label}
use Rattle.script_run.proofs.ClosingLemmas.{given-push, none-from, out-less}
use Rattle.script_run.proofs.LineLemmas.{nothing-left}
use Rattle.script_run.proofs.EachLemmas.{each-get}
use Rattle.script_run.proofs.closing.close_all.Goals as goal

pub close_issue-closed-requires-clause-labelled : goal.close_issue-closed-requires-clause-labelled
close_issue-closed-requires-clause-labelled g c lives within =
    let inv = c.loop-issue.invariant in
    let all : c.args.issues.items ≡ c.loop-issue.yielded ++ c.in-Some.issue ∷ c.next.new.self.rest.items =
    sym inv.whole ∙ ap (λ (xs : List IssueNow). c.loop-issue.yielded ++ xs) c.in-Some.ensures.steps.0 in
    let there : slice_get c.args.issues.items (length c.loop-issue.yielded) ≡ Some c.in-Some.issue =
    ap (λ (xs : List IssueNow). slice_get xs (length c.loop-issue.yielded)) all ∙ get-behind c.loop-issue.yielded c.next.new.self.rest.items c.in-Some.issue (length c.loop-issue.yielded) refl in
    each-get IsLabelled 0 (length c.loop-issue.yielded) c.len-number.result c.args.issues.items c.in-Some.issue c.requires.labelled there
    (omega (arith, c.len-number.ensures, c.loop-issue.ended.ok, ap length inv.ended, length-map c.loop-issue.yielded ended_as))

pub loop-issue-preserved : goal.loop-issue-preserved
loop-issue-preserved g c =
    let inv = c.loop-issue.invariant in
    let issue = c.in-Some.issue in
    let yielded = c.loop-issue.yielded in
    let items = c.loop-issue.ended.items in
    let number : c.len-number.result ≡ length items = omega (arith, c.len-number.ensures, c.loop-issue.ended.ok) in
    let many : length items ≡ length yielded = ap length inv.ended ∙ length-map yielded ended_as in
    let same : c.len-number.result ≡ length yielded = number ∙ many in
    let pushed = c.push_reserved.ensures.items ∙ ap (λ (e : EndedIssue). items ++ e ∷ []) c.close_issue-closed.ensures.ended in
    record {
      whole = append_assoc yielded (issue ∷ []) c.next.new.self.rest.items ∙ ap (λ (xs : List IssueNow). yielded ++ xs) (sym c.in-Some.ensures.steps.0) ∙ inv.whole;
      ended = pushed ∙ ap (λ (es : List EndedIssue). es ++ ended_as issue ∷ []) inv.ended ∙ sym (map_push ended_as yielded issue);
      given = λ n e is. given-push (g.R.Rack.given c.loop-issue.rack) (g.R.Rack.given c.close_issue-closed.new.rack) items c.len-number.result (ended_as issue) number inv.given
          (λ l other. (c.close_issue-closed.ensures.others l other).1) c.close_issue-closed.ensures.given n e (ap (λ (es : List EndedIssue). slice_get es n) (sym pushed) ∙ is);
      out = let less = out-less (g.R.Rack.is_out c.loop-issue.rack) (g.R.Rack.is_out c.close_issue-closed.new.rack) c.len-number.result (λ l other. (c.close_issue-closed.ensures.others l other).0)
          (length c.args.issues.items) (subst (λ n. AreOutFrom (g.R.Rack.is_out c.loop-issue.rack) n (length c.args.issues.items)) (sym same) inv.out) c.close_issue-closed.ensures.back in
          subst (λ n. AreOutFrom (g.R.Rack.is_out c.close_issue-closed.new.rack) n (length c.args.issues.items)) (ap (λ n. n + 1) same ∙ sym (length_push yielded issue)) less;
      room = omega (arith, inv.room, c.push_reserved.ensures.capacity);
    }

pub close_issue-closed-requires-clause-out : goal.close_issue-closed-requires-clause-out
close_issue-closed-requires-clause-out g c lives within k less =
    let inv = c.loop-issue.invariant in
    let all : c.args.issues.items ≡ c.loop-issue.yielded ++ c.in-Some.issue ∷ c.next.new.self.rest.items =
    sym inv.whole ∙ ap (λ (xs : List IssueNow). c.loop-issue.yielded ++ xs) c.in-Some.ensures.steps.0 in
    let same : c.len-number.result ≡ length c.loop-issue.yielded = omega (arith, c.len-number.ensures, c.loop-issue.ended.ok, ap length inv.ended, length-map c.loop-issue.yielded ended_as) in
    let long : length c.args.issues.items ≡ length c.loop-issue.yielded + suc (length c.next.new.self.rest.items) = ap length all ∙ length-append c.loop-issue.yielded (c.in-Some.issue ∷ c.next.new.self.rest.items) in
    inv.out.out (node_label c.len-number.result k) (omega (arith, same)) (omega (arith, same, long)) less

pub returns-clause-ended : goal.returns-clause-ended
returns-clause-ended g c =
    let inv = c.loop-issue.invariant in
    let done : c.loop-issue.yielded ≡ c.args.issues.items = nothing-left c.loop-issue.yielded c.loop-issue.issue-iterator.rest.items c.args.issues.items (omega (arith, c.in-None.ensures.steps.0, c.loop-issue.issue-iterator.rest.ok)) inv.whole in
    inv.ended ∙ ap (map ended_as) done

pub returns-clause-back : goal.returns-clause-back
returns-clause-back g c =
    let inv = c.loop-issue.invariant in
    let done : c.loop-issue.yielded ≡ c.args.issues.items = nothing-left c.loop-issue.yielded c.loop-issue.issue-iterator.rest.items c.args.issues.items (omega (arith, c.in-None.ensures.steps.0, c.loop-issue.issue-iterator.rest.ok)) inv.whole in
    none-from (g.R.Rack.is_out c.loop-issue.rack) (length c.args.issues.items) (subst (λ (xs : List IssueNow). AreOutFrom (g.R.Rack.is_out c.loop-issue.rack) (length xs) (length c.args.issues.items)) done inv.out)
