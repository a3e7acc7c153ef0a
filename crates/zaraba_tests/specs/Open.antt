-- A book at which the orders of a row arrive.
use Rattle.std.specs.Prelude.{◌≡◌, ℕ, ◌<◌, ◌≤◌, length, All}
use Rattle.mkt_base.specs.declared.order.Order.{Order}
use Rattle.book_law.specs.BookView.{BookView, IsSpotBelow}

-- a book of 8 prices for 9 orders, whose places and numbers are below n, and that has fewer than n of them
pub record IsOpen (n : ℕ) (b : BookView) : Type 0 where
  pub prices : b.prices ≡ 8
  pub capacity : b.capacity ≡ 9
  pub few : length b.slots < n
  pub places : All (λ s. s.order.place < n) b.slots
  pub numbers : All (λ s. s.order.own < n) b.slots

-- an order of 1 to 9 shares at the place n, under the number n
pub record IsEntry (n : ℕ) (o : Order) : Type 0 where
  pub place : o.place ≡ n
  pub number : o.own ≡ n
  pub some : 1 ≤ o.left
  pub few : o.left ≤ 9
  pub spot : IsSpotBelow 8 o.spot
