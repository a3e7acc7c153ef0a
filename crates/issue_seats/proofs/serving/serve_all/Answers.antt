use Rattle.std.proofs.Common.{◌≡◌, ◌∷◌, ◌++◌, [], List, rules, sym, ap, subst, ◌∙◌, arith, append_assoc}
use Rattle.issue_journal.specs.Issue.{IssueNow}
use Rattle.issue_seats.specs.Seats.{AreServed}
use Rattle.issue_seats.proofs.ListLemmas.{nothing-left}
use Rattle.issue_seats.proofs.ServeLemmas.{served-begin, served-pushed}
use Rattle.issue_seats.proofs.serving.serve_all.Goals as goal

pub loop-issue-init : goal.loop-issue-init
loop-issue-init g c = record {
  whole = c.into_iter-issue-iterator.ensures.into_iter_gives.0;
  served = served-begin c.args.callers c.in-Ok.servers.items c.in-Ok-with_capacity.passes.items c.in-Ok.ensures.items c.in-Ok-with_capacity.ensures.items;
  servers = omega (arith, c.in-Ok.ensures.exact, c.len.ensures, c.args.issues.ok);
  passes = omega (arith, c.in-Ok-with_capacity.ensures.exact, c.len-2.ensures, c.args.issues.ok);
}

pub loop-issue-preserved : goal.loop-issue-preserved
loop-issue-preserved g c =
    let inv = c.loop-issue.invariant in
    let yielded = c.loop-issue.yielded in
    let made = c.in-Ok-make.made in
    record {
      whole = append_assoc yielded (c.in-Some.issue ∷ []) c.next.new.self.rest.items ∙ ap (λ (xs : List IssueNow). yielded ++ xs) (sym c.in-Some.ensures.steps.0) ∙ inv.whole;
      served = served-pushed c.args.callers yielded c.loop-issue.servers.items c.push_reserved.new.self.items c.loop-issue.passes.items c.push_reserved-in-loop-issue.new.self.items c.in-Some.issue made.0 made.1
          inv.served (search rules) c.push_reserved.ensures.items c.push_reserved-in-loop-issue.ensures.items;
      servers = omega (arith, inv.servers, c.push_reserved.ensures.capacity);
      passes = omega (arith, inv.passes, c.push_reserved-in-loop-issue.ensures.capacity);
    }

pub returns : goal.returns
returns g c =
    let inv = c.loop-issue.invariant in
    let done : c.loop-issue.yielded ≡ c.args.issues.items =
    nothing-left c.loop-issue.yielded c.loop-issue.issue-iterator.rest.items c.args.issues.items (omega (arith, c.in-None.ensures.steps.0, c.loop-issue.issue-iterator.rest.ok)) inv.whole in
    subst (λ (xs : List IssueNow). AreServed c.args.callers xs c.loop-issue.servers.items c.loop-issue.passes.items) done inv.served
