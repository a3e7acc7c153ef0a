use Rattle.std.proofs.Common.{◌≡◌, Ok, Err, refl, sym, ap, ◌∙◌, inr}
use Rattle.rules_file.specs.Faults.{Fails}
use Rattle.rules_file.specs.Rules.{rules_of}
use Rattle.market_top.specs.Check.{IsCheckVerdict, no_rules, tabled}
use Rattle.market_top.specs.Verdict.{unread}
use Rattle.market_top.proofs.VerdictLemmas.{Delivered-printed, Delivered-told, good-rules, no-rules-is, no-rules-out, unread-is, unread-out}
use Rattle.market_top.proofs.check.run_check.Goals as goal

pub returns-in-Err-clause-verdict : goal.returns-in-Err-clause-verdict
returns-in-Err-clause-verdict g c =
    let fault = c.in-Err.fault in (
      unread fault,
      unread-is 1048576 (g.F.Shelf.files c.args.shelf.now) _ c.args.name.now IsCheckVerdict fault (λ read. c.read_whole.ensures.failed (c.in-Err.is ∙ ap Err read)),
      Delivered-told _ _ _ _ (unread fault) _ _ _ _ (unread-out fault) c.tell_unread.ensures,
    )

pub returns-in-Ok-read_rules-clause-verdict : goal.returns-in-Ok-read_rules-clause-verdict
returns-in-Ok-read_rules-clause-verdict g c =
    let rules = c.in-Ok-read_rules.rules in
    let said : rules_of c.in-Ok.bytes.items ≡ Ok rules = ap rules_of (sym c.deref.ensures.value) ∙ c.in-Ok-read_rules.ensures.exact in (
      tabled rules,
      inr (inr (c.in-Ok.bytes.items, c.in-Ok.ensures.bytes, good-rules _ rules said)),
      Delivered-printed _ _ _ _ (tabled rules) _ _ _ _ refl c.print_rules.ensures,
    )

pub returns-clause-verdict : goal.returns-clause-verdict
returns-clause-verdict g c =
    let fault = c.in-Err-read_rules.fault in
    let fails : Fails fault (rules_of c.in-Ok.bytes.items) = rw (← c.deref.ensures.value) c.in-Err-read_rules.ensures.exact in (
      no_rules fault,
      no-rules-is 1048576 (g.F.Shelf.files c.args.shelf.now) _ c.args.name.now fault c.in-Ok.bytes.items c.in-Ok.ensures.bytes fails,
      Delivered-told _ _ _ _ (no_rules fault) _ _ _ _ (no-rules-out fault) c.tell_no_rules.ensures,
    )
