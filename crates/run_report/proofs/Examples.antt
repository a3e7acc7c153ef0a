-- Worked examples: lines of a report, under the names of sample rules.
use Rattle.std.specs.Prelude.{◌≡◌, ℕ, [], ◌∷◌, Some, None, codes, refl}
use Rattle.std.specs.Fmt.{digits}
use Rattle.mkt_base.specs.Text.{line}
use Rattle.mkt_base.specs.declared.auction.Trade.{Trade}
use Rattle.mkt_base.specs.declared.event.Entry.{Entry}
use Rattle.mkt_base.specs.declared.event.Event.TheVariants as events
use Rattle.mkt_base.specs.declared.event.Reason.TheVariants as reasons
use Rattle.mkt_base.specs.declared.event.Reply.TheVariants as replies
use Rattle.mkt_base.specs.declared.order.Kind.TheVariants.{Limit}
use Rattle.mkt_base.specs.declared.order.Side.TheVariants.{Buy}
use Rattle.mkt_base.specs.declared.output.Output.TheVariants as outputs
use Rattle.mkt_base.specs.declared.quote.QuoteKind.TheVariants.{Special}
use Rattle.rules_file.specs.declared.rules.Rules.{Rules}
use Rattle.run_report.specs.Report.{entry_line, output_line, reply_line, total_line}

abbrev sample : Rules
sample =
    record {
      special_ms = 180000;
      sequential_ms = 60000;
      ticks = [];
      limits = [];
      ranges = [];
      sessions = [];
      rounds = [];
      participants = codes "alpha" ∷ codes "beta" ∷ [];
      gateways = codes "g1" ∷ codes "g2" ∷ [];
      issues = record { codes = codes "7203" ∷ []; rules = [] };
    }

abbrev a_trade : ℕ → Trade
a_trade qty = record { price = record { 0 = 20010 }; qty = qty; buy = 3; sell = 1 }

abbrev order_entry : Entry
order_entry =
    record {
      place = 4;
      caller = record { 0 = 2 };
      own = 1;
      event = events.Order (record { 0 = 1 }) Buy (Limit (record { 0 = 20010 })) (record { 0 = 200 });
    }

an_order : entry_line sample order_entry ≡ line (codes "4 g2 1 order beta buy 20010 200" ∷ [])
unfolding digits
an_order = refl

-- the system enters under a dash
a_clock : entry_line sample (record { place = 0; caller = record { 0 = 0 }; own = 0; event = events.Clock 32400000 })
    ≡ line (codes "0 - 0 clock 09:00:00.000" ∷ [])
unfolding digits
a_clock = refl

a_trade_is_told : output_line sample (outputs.Traded (a_trade 100)) ≡ line (codes "trade 20010 100 3 1" ∷ [])
unfolding digits
a_trade_is_told = refl

a_quote : output_line sample (outputs.Quoted (Some (record { kind = Special; side = Buy; price = record { 0 = 20500 }; due = Some 32580000 })))
    ≡ line (codes "quote special buy 20500 09:03:00.000" ∷ [])
unfolding digits
a_quote = refl

no_quote : output_line sample (outputs.Quoted None) ≡ line (codes "quote none" ∷ [])
no_quote = refl

a_share : output_line sample (outputs.Share (record { 0 = 0 }) 300) ≡ line (codes "share alpha 300" ∷ [])
unfolding digits
a_share = refl

an_acceptance : reply_line sample (replies.Accepted 3 200 0) ≡ line (codes "= accepted 3 200 0" ∷ [])
unfolding digits
an_acceptance = refl

a_refusal : reply_line sample (replies.Refused (reasons.NotYours (record { 0 = 1 }))) ≡ line (codes "= refused 5 beta" ∷ [])
unfolding digits
a_refusal = refl

-- two trades, of 100 shares and of 200
totals : total_line sample 0 7 (a_trade 100 ∷ a_trade 200 ∷ []) 20010 ≡ line (codes "total 7203 entries 7 trades 2 shares 300 last 20010" ∷ [])
unfolding digits
totals = refl
