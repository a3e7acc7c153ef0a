use Rattle.std.proofs.lemmas.List.{take_more}
use Rattle.std.proofs.Common.{◌≡◌, true, false, [], ◌∷◌, ◌++◌, length, refl, sym, ap, ◌∙◌, rules}
use borrow.Author.Count.{below_more}
use Rattle.rules_file.specs.Keys.{name_at, stands_earlier}
use Rattle.rules_file.specs.declared.fault.RulesFault.TheVariants.{Twice}
use Rattle.rules_file.proofs.FormLemmas.{find-later}
use Rattle.rules_file.proofs.KeyLemmas.{Fails-told, checked-here, name_at-is, stands_earlier-is}
use Rattle.rules_file.proofs.names.distinct.Goals as goal

pub returns-then-contains-clause-exact : goal.returns-then-contains-clause-exact
returns-then-contains-clause-exact c =
    let rows = c.args.rows.now in
    let i = c.loop-row.row-index in
    let told : c.as_str.result.now ≡ c.row-item.result = search rules in
    let again : stands_earlier rows i ≡ true =
    stands_earlier-is rows i c.row-item.result c.loop-row-test.true c.row-item.is
    ∙ rw (← c.loop-row.invariant.so_far) (sym (rw (c.as_bytes.ensures.value, told) at c.contains.ensures) ∙ c.if-contains.true) in
    let named : c.as_str-then-contains.result.now ≡ name_at rows i = search rules ∙ name_at-is rows i c.row-item.result c.loop-row-test.true c.row-item.is in
    Fails-told _ _ _ (checked-here stands_earlier (λ k. Twice (name_at rows k)) rows i c.loop-row.invariant.left c.loop-row-test.true again) (rw named at c.twice.ensures)

pub loop-row-preserved : goal.loop-row-preserved
loop-row-preserved c =
    let rows = c.args.rows.now in
    let i = c.loop-row.row-index in
    let told : c.as_str.result.now ≡ c.row-item.result = search rules in
    let fresh : stands_earlier rows i ≡ false =
    stands_earlier-is rows i c.row-item.result c.loop-row-test.true c.row-item.is
    ∙ rw (← c.loop-row.invariant.so_far) (sym (rw (c.as_bytes.ensures.value, told) at c.contains.ensures) ∙ c.if-contains.false) in
    let added : c.in_ok-names.names ≡ c.loop-row.names ++ c.row-item.result ∷ [] = search rules in
    record {
      so_far = added ∙ ap (λ names. names ++ c.row-item.result ∷ []) c.loop-row.invariant.so_far
          ∙ rw (take_more rows i c.row-item.result c.loop-row-test.true, ← c.row-item.is) refl;
      new = below_more (λ k. stands_earlier rows k ≡ false) i c.loop-row.invariant.new fresh;
      left = sym (find-later (stands_earlier rows) i (length rows) c.loop-row-test.true fresh) ∙ c.loop-row.invariant.left;
    }
