use Rattle.std.proofs.Common.{◌≡◌, drop, map}
use Rattle.std.specs.List.{list_all}
use Rattle.toml.specs.View.{view}
use Rattle.rules_file.specs.Forms.{is_table}
use Rattle.rules_file.proofs.issues.all_tables.Given as goal

-- all are tables where those that are left are
abbrev pub invariant-loop-value : goal.invariant-loop-value
invariant-loop-value l = list_all is_table (map view (drop l.value-index l.values)) ≡ list_all is_table (map view l.values)
