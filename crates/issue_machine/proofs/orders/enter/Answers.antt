use Rattle.std.proofs.Common.{◌≡◌, ◌∙◌, None, ap, sym}
use Rattle.std.specs.Option.{is_some}
use Rattle.issue_book.specs.Entering.{enter}
use Rattle.issue_book.specs.Filled.{left_of}
use Rattle.issue_book.specs.IssueView.{IssueView}
use Rattle.issue_book.specs.Quoting.{try_quote}
use Rattle.issue_machine.proofs.OrderLemmas.{entered, none-shown, untried}
use Rattle.issue_machine.proofs.orders.enter.Goals as goal

pub returns-then-quoted-clause-left : goal.returns-then-quoted-clause-left
returns-then-quoted-clause-left g c =
    let v = c.args.floor.now in
    entered c.args.order v c.enter-left.new.self c.try_quote.new.self (enter v.terms c.args.order v.state) try_quote c.left_of.result c.enter-left.ensures.state c.try_quote.ensures.state
    c.enter-left.ensures.filled c.try_quote.ensures.filled c.left_of.ensures

pub returns-else-quoted-clause-left : goal.returns-else-quoted-clause-left
returns-else-quoted-clause-left g c =
    let v = c.args.floor.now in
    let o = c.args.order in
    let mid = c.enter-left.new.self in
    let none : mid.state.quote ≡ None = none-shown mid.state.quote (ap is_some (sym c.quote.ensures) ∙ sym c.is_some-quoted.ensures ∙ c.if-quoted.false) in
    let left : c.enter-left.result ≡ left_of o.caller o.own mid.state =
    c.enter-left.ensures.left ∙ ap (λ (x : IssueView). left_of o.caller o.own x.state) (sym c.enter-left.ensures.state) in
    entered o v mid c.try_quote.new.self (enter v.terms o v.state) try_quote c.enter-left.result c.enter-left.ensures.state c.try_quote.ensures.state
    c.enter-left.ensures.filled c.try_quote.ensures.filled (untried o mid c.try_quote.new.self c.enter-left.result none c.try_quote.ensures.state left)
