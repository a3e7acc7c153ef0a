use Rattle.std.proofs.Common.{◌≡◌, Ok, Err, sym, ap, ◌∙◌, arith}
use Rattle.rules_file.specs.Faults.{Fails}
use Rattle.rules_file.specs.Rules.{rules_of}
use Rattle.market_top.specs.Check.{no_rules}
use Rattle.market_top.specs.Made.{IsMadeUnder, IsMadeVerdict}
use Rattle.market_top.specs.Verdict.{unread}
use Rattle.market_top.proofs.ReplayLemmas.{no-rules-on, rules-on}
use Rattle.market_top.proofs.VerdictLemmas.{Answered-by, Delivered-told, no-rules-out, unread-is, unread-out}
use Rattle.market_top.proofs.made.run_made.Goals as goal

pub returns-in-Err : goal.returns-in-Err
returns-in-Err g c =
    let fault = c.in-Err.fault in
    let files = g.F.Shelf.files c.args.shelf.now in
    Answered-by _ _ _ _ _ _ _ _ _ _ _ _ _ _ _ (unread fault) _
    (unread-is 1048576 files _ c.args.rules.now (IsMadeVerdict _ _ c.args.number c.args.orders) fault (λ read. c.read_whole.ensures.failed (c.in-Err.is ∙ ap Err read)))
    (Delivered-told _ _ _ _ (unread fault) _ _ _ _ (unread-out fault) c.tell_unread.ensures) (omega arith)

pub returns-in-Ok-read_rules : goal.returns-in-Ok-read_rules
returns-in-Ok-read_rules g c =
    let rules = c.in-Ok-read_rules.said in
    let files = g.F.Shelf.files c.args.shelf.now in
    let said : rules_of c.in-Ok.bytes.items ≡ Ok rules = ap rules_of (sym c.deref.ensures.value) ∙ c.in-Ok-read_rules.ensures.exact in
    let verdict = c.made_under.ensures in
    Answered-by _ _ _ _ _ _ _ _ _ _ _ _ _ _ _ verdict.0 _
    (rules-on files _ c.args.rules.now (IsMadeUnder _ _ c.args.number c.args.orders) c.in-Ok.bytes.items c.in-Ok.ensures.bytes rules verdict.0 said verdict.1)
    verdict.2 (omega arith)

pub returns : goal.returns
returns g c =
    let fault = c.in-Err-read_rules.fault in
    let files = g.F.Shelf.files c.args.shelf.now in
    let fails : Fails fault (rules_of c.in-Ok.bytes.items) = rw (← c.deref.ensures.value) c.in-Err-read_rules.ensures.exact in
    Answered-by _ _ _ _ _ _ _ _ _ _ _ _ _ _ _ (no_rules fault) _
    (no-rules-on files _ c.args.rules.now (IsMadeUnder _ _ c.args.number c.args.orders) c.in-Ok.bytes.items c.in-Ok.ensures.bytes fault fails)
    (Delivered-told _ _ _ _ (no_rules fault) _ _ _ _ (no-rules-out fault) c.tell_no_rules.ensures) (omega arith)
