-- The fills of an auction at a price, and of an allotted close.
use Rattle.std.specs.Prelude.{ℕ}
use Rattle.mkt_base.specs.Book.{price_at}
use Rattle.mkt_base.specs.declared.order.Side.{Side}
use Rattle.itayose.specs.Fills.{allotted_fills, auction_fills, limit_position}
use Rattle.itayose.specs.declared.margin.Margin.{Margin}
use Rattle.issue_book.specs.Quoting.{settle_at}
use Rattle.issue_book.specs.State.{Move, State, Terms}

-- what the fills at a price do, with the margin by time or by rounds
abbrev pub fills_at : Terms → Margin → ℕ → State → Move
fills_at t margin p s = settle_at p (auction_fills t.grid s.orders p margin t.rounds t.unit) s

-- what an allotted close of a side at its daily limit does
abbrev pub shared_out : Terms → Side → State → Move
shared_out t side s = settle_at (price_at t.grid (limit_position t.grid side)) (allotted_fills t.grid s.orders side t.rounds t.unit) s
