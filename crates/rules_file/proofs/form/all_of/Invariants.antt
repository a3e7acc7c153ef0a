use Rattle.std.proofs.Common.{◌≡◌, ◌++◌, All, drop, length, map, option_map}
use Rattle.toml.specs.View.{view}
use Rattle.rules_file.specs.Forms.{all_of}
use Rattle.rules_file.proofs.form.all_of.Given as goal

-- the rows so far, with those that are left, are all rows
abbrev pub invariant-loop-value : goal.invariant-loop-value
invariant-loop-value g l = record {
  so_far : option_map (λ rest. l.rows.items ++ rest) (all_of g.R.Form.form (map view (drop l.value-index l.values))) ≡ all_of g.R.Form.form (map view l.values);
  good : All g.R.Form.good l.rows.items;
  size : length l.rows.items ≡ l.value-index;
}
