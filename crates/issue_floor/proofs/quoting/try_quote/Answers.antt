use Rattle.std.proofs.Common.{sym, subst}
use Rattle.issue_book.specs.Filled.{IsFilled, left_of}
use Rattle.issue_book.specs.State.{Move}
use Rattle.issue_floor.proofs.FilledLemmas.{filled-stay}
use Rattle.issue_floor.proofs.QuotedLemmas.{try-idle, try-none, try-some}
use Rattle.issue_floor.proofs.quoting.try_quote.Goals as goal

pub returns-then-not-is_trading-clause-filled : goal.returns-then-not-is_trading-clause-filled
returns-then-not-is_trading-clause-filled g c = λ caller own place k.
    let s = c.args.book.now.state in
    subst (λ (m : Move). IsFilled caller own place (left_of caller own s) m) (sym (try-idle c.args.book.now.terms s (cc (c.phase.ensures, c.is_trading.ensures, c.if-not-is_trading.true)))) (filled-stay caller own place s k)

pub returns-in_default-clause-filled : goal.returns-in_default-clause-filled
returns-in_default-clause-filled g c = λ caller own place k.
    let s = c.args.book.now.state in
    subst (λ (m : Move). IsFilled caller own place (left_of caller own s) m)
    (sym (try-none c.args.book.now.terms s (cc (c.phase.ensures, c.is_trading.ensures, c.if-not-is_trading.false)) (cc (c.quote.ensures, c.in_default.is)))) (filled-stay caller own place s k)

pub returns-clause-filled : goal.returns-clause-filled
returns-clause-filled g c = λ caller own place k.
    let s = c.args.book.now.state in
    subst (λ (m : Move). IsFilled caller own place (left_of caller own s) m)
    (sym (try-some c.args.book.now.terms c.in-Some.quote s (cc (c.phase.ensures, c.is_trading.ensures, c.if-not-is_trading.false)) (cc (c.quote.ensures, c.in-Some.is)))) (c.try_shown.ensures.filled caller own place k)
