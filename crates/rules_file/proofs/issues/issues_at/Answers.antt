use Rattle.std.proofs.Common.{◌≡◌, true, false, map, sym, ◌∙◌}
use Rattle.std.specs.List.{list_all}
use Rattle.toml.specs.View.{table_view, view}
use Rattle.rules_file.specs.Forms.{is_table}
use Rattle.rules_file.proofs.KeyLemmas.{Fails-told}
use Rattle.rules_file.proofs.IssueLemmas.{issues_at-refused, issues_at-tables}
use Rattle.rules_file.proofs.issues.issues_at.Goals as goal

pub returns-then-not-all_tables-clause-exact : goal.returns-then-not-all_tables-clause-exact
returns-then-not-all_tables-clause-exact c =
    let items = map view c.in_ok-values.values.now in
    let none : list_all is_table items ≡ false = sym c.all_tables.ensures ∙ c.if-not-all_tables.true in
    Fails-told _ _ _ (issues_at-refused c.args.ticks.now c.args.limits.now (table_view c.args.table.now) items c.in_ok-values.ensures.exact none) c.bad_number.ensures

pub returns-clause-exact : goal.returns-clause-exact
returns-clause-exact c =
    let items = map view c.in_ok-values.values.now in
    let all : list_all is_table items ≡ true = sym c.all_tables.ensures ∙ c.if-not-all_tables.false in
    rw (issues_at-tables c.args.ticks.now c.args.limits.now (table_view c.args.table.now) items c.in_ok-values.ensures.exact all) c.issues_of.ensures.exact
