-- A book that a table of calls fills.
use Rattle.std.specs.Prelude.{◌≡◌, ℕ, ◌<◌, ◌≤◌, length, All}
use Rattle.book_law.specs.BookView.{BookView}

-- a book of 8 prices for 10 orders, whose places and numbers are below n, and that has no more than n of them
pub record IsOpen (n : ℕ) (b : BookView) : Type 0 where
  pub prices : b.prices ≡ 8
  pub capacity : b.capacity ≡ 10
  pub few : length b.slots ≤ n
  pub places : All (λ s. s.order.place < n) b.slots
  pub numbers : All (λ s. s.order.own < n) b.slots

-- a book of 40 prices for 600 orders, whose places and numbers are below n, and that has no more than n of them
pub record IsGrowing (n : ℕ) (b : BookView) : Type 0 where
  pub prices : b.prices ≡ 40
  pub capacity : b.capacity ≡ 600
  pub few : length b.slots ≤ n
  pub places : All (λ s. s.order.place < n) b.slots
  pub numbers : All (λ s. s.order.own < n) b.slots
