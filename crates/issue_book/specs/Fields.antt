-- What the fields of an issue's book stand for, and what holds of them.
use Rattle.std.specs.Prelude.{◌≡◌, ℕ, ◌%◌, ◌<◌, length, All}
use Rattle.mkt_base.specs.Book.{price_at}
use Rattle.mkt_base.specs.declared.order.Order.{Order}
use Rattle.book_law.specs.BookView.{orders}
use Rattle.issue_book.specs.IssueView.{AreTerms, IssueView}
use Rattle.issue_book.specs.State.{State, Terms}
use Rattle.issue_book.specs.declared.issue.IssueBook.TheInside.{Inside}

-- the terms that the fields keep
abbrev pub terms_in : Inside → Terms
terms_in f =
    record {
      grid = f.grid;
      base = f.base.0;
      unit = f.unit;
      ranges = f.ranges;
      sessions = f.sessions;
      rounds = f.rounds;
      special_ms = f.special_ms;
      sequential_ms = f.sequential_ms;
    }

-- the state that they keep, the last price by its position
abbrev pub state_in : Inside → State
state_in f =
    record {
      orders = orders f.book;
      phase = f.phase;
      now = f.clock;
      last = price_at f.grid f.last;
      quote = f.quote;
      nodes = f.nodes;
      entries = f.entries;
    }

-- the book that the fields stand for
abbrev pub view_of : Inside → IssueView
view_of f = record { terms = terms_in f; capacity = f.book.capacity; state = state_in f }

-- an order of whole trading units, of a participant that is numbered below 64
pub record IsInUnits (unit : ℕ) (o : Order) : Type 0 where
  pub units : o.left % unit ≡ 0
  pub participant : o.participant.0 < 64

-- the terms are accepted, the book is over the grid, its orders have whole units, the last price stands on the grid, and there
-- are three nodes
pub record AreFields (f : Inside) : Type 0 where
  pub terms : AreTerms (terms_in f)
  pub size : length f.grid ≡ f.book.prices
  pub units : All (IsInUnits f.unit) (orders f.book)
  pub last : f.last < length f.grid
  pub nodes : length f.nodes ≡ 3
