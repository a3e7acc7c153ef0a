use Rattle.std.proofs.Common.{◌≡◌, ℕ, drop}
use Rattle.std.specs.List.{filter, find}
use Rattle.std.proofs.Common.{eqb}
use Rattle.order_list.specs.Lists.{first_link, list_at}
use Rattle.book_law.specs.BookView.{is_of}
use Rattle.order_book.specs.Linked.{IsFiled, owner_at, owner_key}
use Rattle.order_book.proofs.book.own_in.Given as goal

abbrev pub invariant-loop-step : goal.invariant-loop-step
invariant-loop-step l = record {
  place : l.place ≡ first_link (drop l._step (list_at l.owners.lists l.list));
  left : (buckets : ℕ) → IsFiled (owner_key buckets) owner_at l.owners.lists (list_at l.held.lists 0)
      → find (λ n. is_of l.caller l.own n.item.order) (drop l._step (filter (λ n. eqb (owner_key buckets n.item.order) l.list) (list_at l.held.lists 0)))
      ≡ find (λ n. is_of l.caller l.own n.item.order) (filter (λ n. eqb (owner_key buckets n.item.order) l.list) (list_at l.held.lists 0));
}
