-- What an `OrderList` ends as, where a `&mut` to one of its items is returned.
use Rattle.std.specs.Prelude.{ℕ}
use Rattle.std.specs.Borrow.{Fml, Lends, MutBor, RattleType}
use Rattle.order_list.specs.Lists.{Lists, with_item}
use Rattle.order_list.specs.contracts.lists.OrderList.{the_row}

module _ (T : RattleType) where
  -- once the borrow ends, the link names the last item that was written through it
  abbrev pub LendsItem : MutBor (Lists T.Denot) → ℕ → MutBor T.Denot → Fml
  LendsItem l link r = Lends (the_row T) T l r (λ item. record l.now { lists = with_item link item l.now.lists })
