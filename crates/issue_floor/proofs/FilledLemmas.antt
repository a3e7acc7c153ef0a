-- What an order filled on the way, behind a move that only shows a quote.
use Rattle.std.proofs.Common.{◌≡◌, ℕ, ◌+◌, List, [], ◌∷◌, ◌++◌, Option, sym, subst, ◌∙◌, zero-add, append-nil}
use Rattle.std.specs.List.{filter_map}
use Rattle.std.proofs.lemmas.List.Elements.{filter_map-append}
use Rattle.mkt_base.specs.Fills.{traded_at}
use Rattle.mkt_base.specs.declared.auction.Trade.{Trade}
use Rattle.mkt_base.specs.declared.output.Output.{Output}
use Rattle.mkt_base.specs.declared.output.Output.TheVariants as outputs
use Rattle.mkt_base.specs.declared.quote.Quote.{Quote}
use Rattle.mkt_base.specs.declared.units.Caller.{Caller}
use Rattle.zaraba.specs.declared.stop.Stop.{Stop}
use Rattle.zaraba.specs.declared.stop.Stop.TheVariants.{Done, Gap, Sequence}
use Rattle.issue_book.specs.Entering.{quote_for}
use Rattle.issue_book.specs.Filled.{IsFilled, IsKey, left_of, trade_in}
use Rattle.issue_book.specs.Quoting.{show_quote}
use Rattle.issue_book.specs.State.{Move, State, Terms, stay, ◌then◌}

-- a quote is no trade
trades-quoted : (os : List Output) (q : Option Quote) → filter_map trade_in (os ++ outputs.Quoted q ∷ []) ≡ filter_map trade_in os
trades-quoted os q = filter_map-append trade_in os (outputs.Quoted q ∷ []) ∙ append-nil (filter_map trade_in os)

pub filled-shown : (caller : Caller) (own place before : ℕ) (m : Move) (q : Option Quote) → IsFilled caller own place before m
    → IsFilled caller own place before (m then show_quote q)
filled-shown caller own place before m q h = record {
  fills = subst (λ (ts : List Trade). traded_at ts place + left_of caller own m.state ≡ before) (sym (trades-quoted m.outputs q)) h.fills;
  key = h.key;
}

pub filled-unmoved : (caller : Caller) (own place before : ℕ) (m : Move) → IsFilled caller own place before m
    → IsFilled caller own place before (m then stay)
filled-unmoved caller own place before m h = record {
  fills = subst (λ (os : List Output). traded_at (filter_map trade_in os) place + left_of caller own m.state ≡ before) (sym (append-nil m.outputs)) h.fills;
  key = h.key;
}

pub filled-stay : (caller : Caller) (own place : ℕ) (s : State) → IsKey caller own place s.orders
    → IsFilled caller own place (left_of caller own s) (stay s)
unfolding traded_at
filled-stay caller own place s key = record { fills = zero-add (left_of caller own s); key = key }

pub filled-quoted : (caller : Caller) (own place before : ℕ) (t : Terms) (first : ℕ) (stop : Stop) (m : Move) → IsFilled caller own place before m
    → IsFilled caller own place before (m then quote_for t first stop)
filled-quoted caller own place before t first Done m h = filled-unmoved caller own place before m h
filled-quoted caller own place before t first (Gap side) m h = filled-shown caller own place before m _ h
filled-quoted caller own place before t first (Sequence side) m h = filled-shown caller own place before m _ h
