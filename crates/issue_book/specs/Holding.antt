-- An attempt on an issue's book over a window of positions.
use Rattle.std.specs.Prelude.{◌≡◌, ℕ, ◌<◌, ◌≤◌, Bool, true, false, IsTrue, List, length}
use Rattle.mkt_base.specs.Book.{price_at}
use Rattle.mkt_base.specs.declared.auction.Outcome.{Outcome}
use Rattle.mkt_base.specs.declared.auction.Outcome.TheVariants.{Pressed}
use Rattle.mkt_base.specs.declared.units.Price.{Price}
use Rattle.auction_law.specs.Attempt.{meets}
use Rattle.itayose.specs.Answer.{IsOnPositions, outcome_of}
use Rattle.itayose.specs.declared.positions.Attempt.{Attempt}
use Rattle.itayose.specs.declared.positions.Attempt.TheVariants as attempts
use Rattle.issue_book.specs.IssueView.{IssueView}
use Rattle.issue_book.specs.Quoting.{Tried, answer_at}
use Rattle.issue_book.specs.declared.window.Window.{Window}

-- the prices at a window's positions
abbrev pub tried_at : List Price → Window → Tried
tried_at grid w = record { reference = price_at grid w.reference; lo = price_at grid w.lo; hi = price_at grid w.hi }

-- a window of the grid that holds its reference
pub record IsWindow (grid : List Price) (w : Window) : Type 0 where
  pub lo : w.lo ≤ w.reference
  pub hi : w.reference ≤ w.hi
  pub inside : w.hi < length grid

-- the window is on these prices
pub record IsOver (grid : List Price) (prices : Tried) (w : Window) : Type 0 where
  pub window : IsWindow grid w
  pub exact : tried_at grid w ≡ prices

-- what the attempt over the window answers, in positions
pub record IsAnswer (v : IssueView) (w : Window) (a : Attempt) : Type 0 where
  pub positions : IsOnPositions v.terms.grid a
  pub answer : outcome_of v.terms.grid v.state.orders w.lo w.hi a ≡ answer_at v.terms (tried_at v.terms.grid w) v.state
  pub meets : (at volume : ℕ) → a ≡ attempts.Traded at volume → IsTrue (meets v.terms.grid v.state.orders (price_at v.terms.grid at))

abbrev pub is_pressed : Outcome → Bool
is_pressed (Pressed side price pressing facing) = true
is_pressed outcome = false
