-- A book that a line of a table fills.
use Rattle.std.specs.Prelude.{◌≡◌, ℕ, ◌%◌, ◌<◌, length, All}
use Rattle.book_law.specs.BookView.{BookView, orders}

-- a book of 8 prices for 9 orders, whose places and numbers are below n, and that has fewer than n of them, all in hundreds
-- of shares and of participants below 64
pub record IsOpen (n : ℕ) (b : BookView) : Type 0 where
  pub prices : b.prices ≡ 8
  pub capacity : b.capacity ≡ 9
  pub few : length b.slots < n
  pub places : All (λ s. s.order.place < n) b.slots
  pub numbers : All (λ s. s.order.own < n) b.slots
  pub participants : All (λ s. s.order.participant.0 < 64) b.slots
  pub units : All (λ s. s.order.left % 100 ≡ 0) b.slots

-- such a book when it is filled
pub record IsReady (b : BookView) : Type 0 where
  pub prices : b.prices ≡ 8
  pub participants : All (λ o. o.participant.0 < 64) (orders b)
  pub units : All (λ o. o.left % 100 ≡ 0) (orders b)
