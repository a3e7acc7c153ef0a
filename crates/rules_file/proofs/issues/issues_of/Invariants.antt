use Rattle.std.proofs.Common.{◌≡◌, drop, length, map}
use Rattle.toml.specs.View.{view}
use Rattle.rules_file.specs.Forms.{members_in}
use Rattle.rules_file.specs.Issues.{AreIssues, issues_of, no_issues}
use Rattle.rules_file.proofs.issues.issues_of.Given as goal

-- the tables that are left, after the issues so far, say what all tables say
abbrev pub invariant-loop-value : goal.invariant-loop-value
invariant-loop-value l = record {
  left : issues_of l.ticks l.limits l.issues (map members_in (map view (drop l.value-index l.values))) ≡ issues_of l.ticks l.limits no_issues (map members_in (map view l.values));
  sound : AreIssues l.ticks l.limits l.issues;
  size : length l.issues.rules ≡ l.value-index;
}
