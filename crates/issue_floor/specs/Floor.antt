-- What holds of the trading of an issue, beyond what holds of its book.
use Rattle.std.specs.Prelude.{◌≡◌, ℕ, ◌<◌, true, Option, None, IfSome, IsTrue}
use Rattle.mkt_base.specs.declared.quote.Quote.{Quote}
use Rattle.auction_law.specs.Attempt.{is_calm}
use Rattle.quote_law.specs.Quotes.{IsOn, IsToward}
use Rattle.issue_book.specs.IssueView.{IsIssue, IssueView}
use Rattle.issue_book.specs.Quoting.{is_trading}
use Rattle.issue_book.specs.State.{State, Terms}

-- a quote that is shown: in trading, on the grid, at the last price or beyond it to its side's way, and due later than now, if
-- at all
pub record IsShown (t : Terms) (s : State) (q : Quote) : Type 0 where
  pub trading : is_trading s.phase ≡ true
  pub on_grid : IsOn t.grid q
  pub toward : IsToward q.side s.last q.price.0
  pub due : IfSome q.due (λ d. (s.now < d) × (d < 86400000))

-- in trading without a quote there is no market order, and no limit buy at or above a limit sell
pub record IsFloor (v : IssueView) : Type 0 where
  pub issue : IsIssue v
  pub quote : IfSome v.state.quote (IsShown v.terms v.state)
  pub calm : is_trading v.state.phase ≡ true → v.state.quote ≡ None → IsTrue (is_calm v.terms.grid v.state.orders)

-- no shown quote comes due up to a moment
abbrev pub IsUndue : ℕ → Option Quote → Type 0
IsUndue at quote = IfSome quote (λ q. IfSome q.due (λ d. at < d))

-- the price of a shown quote stands on the grid, at the last price or beyond it
abbrev pub StandsOn : IssueView → Type 0
StandsOn v = IfSome v.state.quote (λ q. IsOn v.terms.grid q × IsToward q.side v.state.last q.price.0)
