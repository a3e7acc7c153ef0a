-- What contracts see of the book of one issue, and what holds of it.
use Rattle.std.specs.Prelude.{◌≡◌, ℕ, ◌%◌, ◌<◌, ◌≤◌, List, length, All, AllPairs, false}
use Rattle.mkt_base.specs.Book.{price_at}
use Rattle.mkt_base.specs.declared.order.Order.{Order}
use Rattle.mkt_base.specs.declared.units.Price.{Price}
use Rattle.allotment.specs.Rounds.{AreRounds}
use Rattle.book_law.specs.BookView.{IsSpotBelow, is_of}
use Rattle.rules_file.specs.declared.issue.IssueRules.{IssueRules}
use Rattle.rules_file.specs.declared.rules.Rules.{Rules}
use Rattle.session_phase.specs.Sessions.{AreSessions}
use Rattle.tick_grid.specs.Grid.{IsGrid}
use Rattle.tick_grid.specs.Rows.{AreBandRows, grid_of}
use Rattle.issue_book.specs.State.{State, Terms}

-- what the rules say of an issue's trading
abbrev pub terms_of : Rules → IssueRules → Terms
terms_of rules issue =
    record {
      grid = grid_of rules.ticks issue.low.0 issue.high.0;
      base = issue.base.0;
      unit = issue.unit;
      ranges = rules.ranges;
      sessions = rules.sessions;
      rounds = rules.rounds;
      special_ms = rules.special_ms;
      sequential_ms = rules.sequential_ms;
    }

-- the terms, the room for orders, and the state
pub record IssueView : Type 0 where
  pub terms : Terms
  pub capacity : ℕ
  pub state : State

-- the same in another state
abbrev pub in_state : State → IssueView → IssueView
in_state s v = record v { state = s }

-- a price of the grid
abbrev pub IsPriceOf : List Price → ℕ → Type 0
IsPriceOf grid p = (i : ℕ) × (i < length grid) × (price_at grid i ≡ p)

-- terms as the rules are accepted with them
pub record AreTerms (t : Terms) : Type 0 where
  pub grid : IsGrid t.grid
  pub base : IsPriceOf t.grid t.base
  pub unit : (1 ≤ t.unit) × (t.unit ≤ 100000000)
  pub ranges : AreBandRows t.ranges
  pub sessions : AreSessions t.sessions
  pub rounds : AreRounds t.rounds
  pub special : (1 ≤ t.special_ms) × (t.special_ms ≤ 86399999)
  pub sequential : (1 ≤ t.sequential_ms) × (t.sequential_ms ≤ 86399999)

-- an order as the issue takes it
pub record IsTaken (t : Terms) (o : Order) : Type 0 where
  pub some : 1 ≤ o.left
  pub limit : o.left ≤ 100000000
  pub units : o.left % t.unit ≡ 0
  pub spot : IsSpotBelow (length t.grid) o.spot
  pub participant : o.participant.0 < 64

-- what holds of every issue's book
pub record IsIssue (v : IssueView) : Type 0 where
  pub terms : AreTerms v.terms
  pub few : length v.state.orders ≤ v.capacity
  pub by_place : AllPairs (λ a b. a.place < b.place) v.state.orders
  pub pairs : AllPairs (λ a b. is_of a.caller a.own b ≡ false) v.state.orders
  pub taken : All (IsTaken v.terms) v.state.orders
  pub last : IsPriceOf v.terms.grid v.state.last
  pub now : v.state.now < 86400000

-- an order that may enter: later than all, of a caller's entry that is not there, with room
pub record MayEnter (v : IssueView) (o : Order) : Type 0 where
  pub taken : IsTaken v.terms o
  pub last : All (λ x. x.place < o.place) v.state.orders
  pub pair : All (λ x. is_of o.caller o.own x ≡ false) v.state.orders
  pub room : length v.state.orders < v.capacity
