use Rattle.std.proofs.Common.{◌≡◌, Some}
use Rattle.std.specs.List.{slice_get}
use Rattle.rules_file.specs.Rules.{issues_in}
use Rattle.rules_file.specs.declared.issue.IssueRules.{IssueRules}
use Rattle.issue_book.specs.IssueView.{terms_of}
use Rattle.issue_floor.proofs.StartLemmas.{floor-start, some_at}
use Rattle.issue_floor.proofs.floor.Floor.make.Goals as goal

pub invariant_of-result : goal.invariant_of-result
invariant_of-result c =
    let found : (r : IssueRules) × (slice_get (issues_in c.args.rules.now) c.args.issue ≡ Some r) = some_at (issues_in c.args.rules.now) c.args.issue c.requires.issue in
    floor-start (terms_of c.args.rules.now found.0) c.args.capacity c.in_ok-book.book (c.in_ok-book.ensures found.0 found.1) c.stands.ensures

pub returns : goal.returns
returns c = λ r e. c.in_ok-book.ensures r e
