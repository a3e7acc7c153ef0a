-- The rows that tell, for each gateway and issue, which of the gateway's events there are orders.
use Rattle.std.specs.Prelude.{◌≡◌, ℕ, ◌+◌, ◌*◌, ◌<◌, ◌≤◌, Bool, List, [], ◌∷◌, ◌++◌, length, map, slice_index_or, slice_set}
use Rattle.mkt_base.specs.declared.script.Act.{Act}
use Rattle.mkt_base.specs.declared.script.Act.TheVariants.{Do, Show}
use Rattle.mkt_base.specs.declared.units.Caller.{Caller}
use Rattle.script_file.specs.Own.{events_by, is_order}
use Rattle.script_file.specs.declared.orders.OrderLog.{OrderLog}
use Rattle.script_file.specs.declared.script.GatewayScriptLine.{GatewayScriptLine}

-- the rows of a log
abbrev pub rows_of : OrderLog → List (List Bool)
rows_of log = map (λ row. row.items) log.rows.items

-- which of a gateway's events in an issue are orders, by own number
abbrev pub orders_by : Caller → ℕ → List GatewayScriptLine → List Bool
orders_by gateway issue made = map (λ (of : GatewayScriptLine). is_order of.line.act) (events_by gateway issue made)

-- the row of a gateway and an issue, 64 rows to a gateway
abbrev pub row_of : Caller → ℕ → ℕ
row_of gateway issue = 64 * gateway.0 + issue

-- what a row holds; a row that is not there holds nothing
abbrev pub row_at : List (List Bool) → ℕ → List Bool
row_at rows at = slice_index_or rows at []

-- the rows after an act of a gateway in an issue: an event is noted at the end of their row
abbrev pub noted : List (List Bool) → Caller → ℕ → Act → List (List Bool)
noted rows gateway issue (Do event) = slice_set rows (row_of gateway issue) (row_at rows (row_of gateway issue) ++ is_order (Do event) ∷ [])
noted rows gateway issue Show = rows

-- the row of each gateway and issue tells its orders among the events that the lines make; a caller is at most 16, and an issue
-- below 64
pub record AreRowsOf (rows : List (List Bool)) (made : List GatewayScriptLine) : Type 0 where
  pub count : length rows ≡ 1088
  pub each : (gateway : Caller) (issue : ℕ) → gateway.0 ≤ 16 → issue < 64 → row_at rows (row_of gateway issue) ≡ orders_by gateway issue made
