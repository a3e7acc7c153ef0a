use Rattle.std.proofs.Common.{sym, ◌∙◌}
use Rattle.std.proofs.lemmas.Bool.{false≢true}
use Rattle.order_book.proofs.FirstLemmas.{kept-at, taken-at}
use Rattle.order_book.proofs.search.first_of.Goals as goal
use Rattle.order_book.proofs.search.first_of.Goals.{then-wants+then-improves, else-wants, else-wants-via-then-wants+else-improves, else-wants-via-else-wants}

pub loop-order-preserved : goal.loop-order-preserved
loop-order-preserved c =
    let n = c.args.prices in
    let side = c.args.side in
    let after = c.args.after in
    let orders = c.args.orders.now in
    let i = c.loop-order.order-index in
    let first = c.loop-order.first in
    let next = c.if-wants.first in
    let within = c.loop-order-test.true in
    elim c.if-wants.branch [
      | then-wants+then-improves w ↦ taken-at n side after orders i _ first next within c.loop-order.invariant (sym c.wants.ensures ∙ w.if-wants.true) (sym w.improves.ensures ∙ w.if-improves.true) w.first-is
      | else-wants w ↦
          elim w.else-wants.branch [
            | else-wants-via-then-wants+else-improves v ↦ kept-at n side after orders i _ first next within c.loop-order.invariant (λ yes. sym v.improves.ensures ∙ v.if-improves.false) w.first-is
            | else-wants-via-else-wants v ↦ kept-at n side after orders i _ first next within c.loop-order.invariant (λ yes. absurd (false≢true (sym v.if-wants.false ∙ (c.wants.ensures ∙ yes)))) w.first-is
          ]
    ]
