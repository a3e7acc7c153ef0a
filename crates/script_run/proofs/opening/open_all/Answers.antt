use Rattle.std.proofs.Common.{◌≡◌, ◌+◌, List, length, get_or, sym, ap, subst, ◌∙◌, arith}
use Rattle.std.proofs.lemmas.List.{length_push}
use Rattle.issue_journal.specs.Issue.{IssueNow}
use Rattle.rules_file.specs.Rules.{issues_in}
use Rattle.script_run.specs.Running.{AreOutBelow, EachFrom, IsFresh, IsOpenedFor}
use Rattle.script_run.proofs.ClosingLemmas.{out-more}
use Rattle.script_run.proofs.EachLemmas.{each-push}
use Rattle.script_run.proofs.opening.open_all.Goals as goal

pub open_issue-requires-clause-here : goal.open_issue-requires-clause-here
open_issue-requires-clause-here g c lives within k is = let there = c.loop-i.invariant.out.below _ is in absurd (omega (arith, there.0))

pub loop-i-preserved : goal.loop-i-preserved
loop-i-preserved g c =
    let inv = c.loop-i.invariant in
    let items = c.loop-i.issues.items in
    let issue = c.in_ok-issue.issue in
    let made = c.in_ok-issue.ensures in
    let rules = c.args.rules.now in
    let counts = c.args.counts.now in
    let fresh : IsFresh rules counts c.loop-i.i issue = record {
      opened = subst (λ n. IsOpenedFor rules c.loop-i.i (get_or counts n 0) issue) c.from.ensures made.opened;
      entries = made.empty.0;
      halt = made.empty.1;
    } in
    record {
      each = ap length c.push_reserved.ensures.items ∙ length_push items issue ∙ ap (λ n. n + 1) inv.each;
      fresh = subst (λ (xs : List IssueNow). EachFrom (IsFresh rules counts) 0 xs) (sym c.push_reserved.ensures.items)
          (each-push (IsFresh rules counts) 0 c.loop-i.i items issue (omega (arith, inv.each)) inv.fresh fresh);
      out = out-more (g.R.Rack.is_out c.loop-i.rack) (g.R.Rack.is_out c.open_issue.new.rack) c.loop-i.i made.others inv.out made.out;
      room = c.push_reserved.ensures.capacity ∙ inv.room;
    }

pub returns-clause-out : goal.returns-clause-out
returns-clause-out g c =
    let all : c.loop-i.i ≡ length (issues_in c.args.rules.now) = omega (arith, c.loop-i-test.false, c.loop-i.auto.i-end, c.issues-i-end.ensures.value) in
    subst (λ n. AreOutBelow (g.R.Rack.is_out c.loop-i.rack) n) all c.loop-i.invariant.out
