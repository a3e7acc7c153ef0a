-- The handle of a caller's order.
use Rattle.std.specs.Prelude.{◌≡◌, ℕ, ◌-◌, ◌<◌, not, map, filter, find, Some}
use Rattle.mkt_base.specs.declared.order.Order.{Order}
use Rattle.mkt_base.specs.declared.units.Caller.{Caller}
use Rattle.book_law.specs.BookView.{BookView, Names, is_of, orders, reduced, without}
use Rattle.issue_book.specs.Entering.{lowered}

-- The handle names the caller's order of this own number, and no other order is the caller's of this number: without the
-- handle's order all others stay, and lowered to a quantity it alone is lowered.
pub record IsHandleOf (b : BookView) (caller : Caller) (own handle : ℕ) : Type 0 where
  pub order : Order
  pub names : Names b handle order
  pub found : find (is_of caller own) (orders b) ≡ Some order
  pub out : orders (without handle b) ≡ filter (λ o. not (is_of caller own o)) (orders b)
  pub lowers : (qty : ℕ) → qty < order.left → orders (reduced handle (order.left - qty) b) ≡ map (lowered caller own qty) (orders b)
