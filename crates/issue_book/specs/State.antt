-- What an issue is traded by, its state, and moves from state to state.
use Rattle.std.specs.Prelude.{ℕ, List, [], ◌∷◌, ◌++◌, Option, None}
use Rattle.mkt_base.specs.declared.event.Phase.{Phase}
use Rattle.mkt_base.specs.declared.event.Phase.TheVariants.{Idle}
use Rattle.mkt_base.specs.declared.journal.NodeState.{NodeState}
use Rattle.mkt_base.specs.declared.journal.NodeState.TheVariants.{Synchronised}
use Rattle.mkt_base.specs.declared.order.Order.{Order}
use Rattle.mkt_base.specs.declared.output.Output.{Output}
use Rattle.mkt_base.specs.declared.quote.Quote.{Quote}
use Rattle.mkt_base.specs.declared.units.Price.{Price}
use Rattle.allotment.specs.declared.round.Round.{Round}
use Rattle.session_phase.specs.declared.session.Session.{Session}
use Rattle.tick_grid.specs.declared.rows.BandRow.{BandRow}

-- what the rules say of the trading of one issue
pub record Terms : Type 0 where
  pub grid : List Price
  pub base : ℕ
  pub unit : ℕ
  pub ranges : List BandRow
  pub sessions : List Session
  pub rounds : List Round
  pub special_ms : ℕ
  pub sequential_ms : ℕ

-- the state of an issue: its orders by place, and its last price
pub record State : Type 0 where
  pub orders : List Order
  pub phase : Phase
  pub now : ℕ
  pub last : ℕ
  pub quote : Option Quote
  pub nodes : List NodeState
  pub entries : ℕ

-- the state before the first entry
abbrev pub start : Terms → State
start t =
    record {
      orders = [];
      phase = Idle;
      now = 0;
      last = t.base;
      quote = None;
      nodes = Synchronised ∷ Synchronised ∷ Synchronised ∷ [];
      entries = 0;
    }

-- a state, and what was put out on the way to it
pub record Move : Type 0 where
  pub state : State
  pub outputs : List Output

-- nothing happens
abbrev pub stay : State → Move
stay s = record { state = s; outputs = [] }

-- outputs alone
abbrev pub put : List Output → State → Move
put outputs s = record { state = s; outputs = outputs }

-- a move with outputs in front of its own
abbrev pub behind : List Output → Move → Move
behind outputs m = record { state = m.state; outputs = outputs ++ m.outputs }

-- one move and then another from where it led
infixl 10 ◌then◌
abbrev pub ◌then◌ : Move → (State → Move) → Move
m then f = behind m.outputs (f m.state)
