use Rattle.std.proofs.Common.{◌≡◌, [], ◌∷◌, length-append, arith}
use Rattle.std.proofs.lemmas.Result.{err_from_is_err_and}
use Rattle.rules_file.specs.Issues.{with_issue}
use Rattle.rules_file.proofs.KeyLemmas.{Fails-as}
use Rattle.rules_file.proofs.IssueLemmas.{AreIssues-more, issues_of-end, issues_of-fault, issues_of-more, table_at}
use Rattle.rules_file.proofs.issues.issues_of.Goals as goal

pub issue_in-requires-clause-table : goal.issue_in-requires-clause-table
issue_in-requires-clause-table c =
    rw c.value-item.is (table_at c.args.values.now c.loop-value.value-index c.value-item.result c.requires.tables c.loop-value-test.true)

pub returns-in_err-issue-clause-exact : goal.returns-in_err-issue-clause-exact
returns-in_err-issue-clause-exact c =
    let p = err_from_is_err_and c.from_residual.result c.from_residual.ensures.1 in
    rw (p.1, p.2) (Fails-as _ _ _ (λ fault said.
    issues_of-fault c.args.ticks.now c.args.limits.now c.args.values.now c.loop-value.value-index c.loop-value.issues _ c.loop-value.invariant.left
    c.value-item.result fault c.loop-value-test.true c.value-item.is said) c.in_err-issue.ensures.exact)

pub loop-value-preserved : goal.loop-value-preserved
loop-value-preserved c =
    let before = c.loop-value.issues in
    let added : c.in_ok-issues.issues ≡ with_issue before c.in_ok-issue.issue = c.in_ok-issues.ensures.ok in
    record {
      left = issues_of-more c.args.ticks.now c.args.limits.now c.args.values.now c.loop-value.value-index before _ c.loop-value.invariant.left
          c.value-item.result c.in_ok-issue.issue c.in_ok-issues.issues c.loop-value-test.true c.value-item.is c.in_ok-issue.ensures.exact added;
      sound = rw added (AreIssues-more c.args.ticks.now c.args.limits.now before c.in_ok-issue.issue c.loop-value.invariant.sound c.in_ok-issue.ensures.code c.in_ok-issue.ensures.sound);
      size = rw added (omega (arith, c.loop-value.invariant.size, length-append before.rules (c.in_ok-issue.issue.1 ∷ [])));
    }

pub returns-clause-exact : goal.returns-clause-exact
returns-clause-exact c =
    issues_of-end c.args.ticks.now c.args.limits.now c.args.values.now c.loop-value.value-index c.loop-value.issues _ c.loop-value.invariant.left (omega (arith, c.loop-value-test.false))
