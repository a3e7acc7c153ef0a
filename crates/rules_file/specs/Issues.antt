-- The issues of a rules file: each after the codes before it.
use Rattle.std.specs.Prelude.{◌≡◌, ◌≤◌, ℕ, true, false, ◌+◌, ◌-◌, min, max, List, [], ◌∷◌, ◌++◌, length, Result, Ok, Err, if◌then◌else◌, nat_lt, codes, All as Each}
use Rattle.std.specs.List.{list_any}
use Rattle.std.specs.Str.{bytes_eq}
use Rattle.toml.specs.Data.{Members, as_table, get_member}
use Rattle.mkt_io.specs.LineFault.{◌>>=◌}
use Rattle.mkt_base.specs.declared.units.Price.{Price}
use Rattle.tick_grid.specs.Grid.{first_price, last_price}
use Rattle.tick_grid.specs.Rows.{band_of, grid_of, is_on_tick, price_of}
use Rattle.tick_grid.specs.declared.rows.TickRow.{TickRow}
use Rattle.tick_grid.specs.declared.rows.BandRow.{BandRow}
use Rattle.rules_file.specs.Forms.{integer_in, is_name, name_row}
use Rattle.rules_file.specs.Keys.{AreDistinct, formed, rows_at}
use Rattle.rules_file.specs.declared.fault.RulesFault.{RulesFault}
use Rattle.rules_file.specs.declared.fault.RulesFault.TheVariants.{OffTick, GridTooLarge, Twice}
use Rattle.rules_file.specs.declared.issue.IssueRules.{IssueRules}
use Rattle.rules_file.specs.declared.issue.Issues.{Issues}

-- the least price from which an issue with this base may be on tick
abbrev pub low_end : List BandRow → ℕ → ℕ
low_end limits base = max 1 (base - band_of limits base)

-- the greatest price up to which it may be
abbrev pub high_end : List BandRow → ℕ → ℕ
high_end limits base = min 1000000000 (base + band_of limits base)

-- the grid of an issue: all prices on tick within its width of the base
unfoldable pub issue_grid : List TickRow → List BandRow → ℕ → List Price
issue_grid ticks limits base = grid_of ticks (low_end limits base) (high_end limits base)

-- an issue with this base, unit and grid
abbrev pub issue_rules : ℕ → ℕ → List Price → IssueRules
issue_rules base unit prices =
    record { base = price_of base; unit = unit; low = price_of (first_price prices); high = price_of (last_price prices); prices = length prices }

-- the code and the rules of an issue, where its grid has at most 20,000 prices
unfoldable pub with_grid : List TickRow → List BandRow → List ℕ → ℕ → ℕ → Result (List ℕ × IssueRules) RulesFault
with_grid ticks limits code base unit =
    let prices = issue_grid ticks limits base in
    if nat_lt 20000 (length prices) then Err (GridTooLarge code (length prices)) else Ok (code, issue_rules base unit prices)

-- the code of an issue, where it is new
unfoldable pub new_code : List (List ℕ) → List ℕ → Result (List ℕ) RulesFault
new_code before code = if list_any (bytes_eq code) before then Err (Twice code) else Ok code

-- the code of an issue, where its base is on tick
unfoldable pub on_tick : List TickRow → List ℕ → ℕ → Result (List ℕ) RulesFault
on_tick ticks code base = if is_on_tick ticks base then Ok code else Err (OffTick code)

-- the code and the rules of the issue that a table says, after the codes before it
unfoldable pub issue_of : List TickRow → List BandRow → List (List ℕ) → Members → Result (List ℕ × IssueRules) RulesFault
issue_of ticks limits before row = do
  code ← formed name_row (codes "issue.code") (get_member (codes "code") row)
  base ← formed (integer_in 1 1000000000) (codes "issue.base") (get_member (codes "base") row)
  unit ← formed (integer_in 1 100000000) (codes "issue.unit") (get_member (codes "unit") row)
  fresh ← new_code before code
  placed ← on_tick ticks fresh base
  with_grid ticks limits placed base unit

-- the issues so far, and one more
abbrev pub with_issue : Issues → List ℕ × IssueRules → Issues
with_issue before issue = record { codes = before.codes ++ issue.0 ∷ []; rules = before.rules ++ issue.1 ∷ [] }

-- the issues that the tables say, after those before them
unfoldable pub issues_of : List TickRow → List BandRow → Issues → List Members → Result Issues RulesFault
issues_of ticks limits before [] = Ok before
issues_of ticks limits before (row ∷ rows) = do
  issue ← issue_of ticks limits before.codes row
  issues_of ticks limits (with_issue before issue) rows

-- no issue
abbrev pub no_issues : Issues
no_issues = record { codes = []; rules = [] }

-- the issues of a rules file
unfoldable pub issues_at : List TickRow → List BandRow → Members → Result Issues RulesFault
issues_at ticks limits table = rows_at as_table (codes "issue") 64 table >>= issues_of ticks limits no_issues

-- what holds of each issue that a rules file says
pub record IsIssue (ticks : List TickRow) (limits : List BandRow) (issue : IssueRules) : Type 0 where
  pub on_tick : is_on_tick ticks issue.base.0 ≡ true
  pub unit : (1 ≤ issue.unit) × (issue.unit ≤ 100000000)
  pub low : (1 ≤ issue.low.0) × (issue.low.0 ≤ issue.base.0)
  pub high : (issue.base.0 ≤ issue.high.0) × (issue.high.0 ≤ 1000000000)
  pub grid : grid_of ticks issue.low.0 issue.high.0 ≡ issue_grid ticks limits issue.base.0
  pub size : issue.prices ≡ length (grid_of ticks issue.low.0 issue.high.0)
  pub prices : (1 ≤ issue.prices) × (issue.prices ≤ 20000)

-- what holds of the code of an issue, after the codes before it
pub record IsNewCode (before : List (List ℕ)) (code : List ℕ) : Type 0 where
  pub name : is_name code ≡ true
  pub fresh : list_any (bytes_eq code) before ≡ false

-- what holds of the issues that are read: each has a code, and no two have the same
pub record AreIssues (ticks : List TickRow) (limits : List BandRow) (issues : Issues) : Type 0 where
  pub each : Each (IsIssue ticks limits) issues.rules
  pub sizes : length issues.codes ≡ length issues.rules
  pub names : Each (λ code. is_name code ≡ true) issues.codes
  pub distinct : AreDistinct issues.codes
