-- What the bytes of a rules file say: the rules, or the first fault in the one order of its checks.
use Rattle.std.specs.Prelude.{◌≤◌, ℕ, List, length, Result, Ok, Err, if◌then◌else◌, nat_lt, codes}
use Rattle.std.specs.Option.{ok_or}
use Rattle.toml.specs.Data.{Members, get_member}
use Rattle.mkt_io.specs.LineFault.{◌>>=◌}
use Rattle.rules_file.specs.Forms.{document_of, integer_in}
use Rattle.tick_grid.specs.Rows.{AreBandRows, AreTickRows}
use Rattle.session_phase.specs.Sessions.{AreSessions}
use Rattle.allotment.specs.Rounds.{AreRounds}
use Rattle.rules_file.specs.Keys.{AreNames, bands_at, formed, names_at, rounds_at, sessions_at, ticks_at}
use Rattle.rules_file.specs.Issues.{AreIssues, issues_at}
use Rattle.rules_file.specs.declared.fault.RulesFault.{RulesFault}
use Rattle.rules_file.specs.declared.fault.RulesFault.TheVariants.{NotToml, TooMany}
use Rattle.rules_file.specs.declared.issue.IssueRules.{IssueRules}
use Rattle.rules_file.specs.declared.rules.Rules.{Rules}

-- the milliseconds at a key: 1 to 86,399,999
unfoldable pub millis_at : List ℕ → Members → Result ℕ RulesFault
millis_at key table = formed (integer_in 1 86399999) key (get_member key table)

-- what a table says: its keys in their order
unfoldable pub rules_in : Members → Result Rules RulesFault
rules_in table = do
  special ← millis_at (codes "special_ms") table
  sequential ← millis_at (codes "sequential_ms") table
  ticks ← ticks_at table
  limits ← bands_at (codes "limits") table
  ranges ← bands_at (codes "ranges") table
  sessions ← sessions_at table
  rounds ← rounds_at table
  participants ← names_at (codes "participants") 64 table
  gateways ← names_at (codes "gateways") 16 table
  issues ← issues_at ticks limits table
  Ok (record { special_ms = special; sequential_ms = sequential; ticks = ticks; limits = limits; ranges = ranges; sessions = sessions; rounds = rounds; participants = participants; gateways = gateways; issues = issues })

-- what the bytes of a rules file say: at most 1,048,576 of them
abbrev pub rules_of : List ℕ → Result Rules RulesFault
rules_of bytes =
    if nat_lt 1048576 (length bytes) then Err (TooMany (codes "bytes") 1048577)
    else (ok_or (document_of bytes) NotToml >>= rules_in)

-- the issues of the rules by number
abbrev pub issues_in : Rules → List IssueRules
issues_in rules = rules.issues.rules

-- the codes of the issues by number
abbrev pub codes_in : Rules → List (List ℕ)
codes_in rules = rules.issues.codes

-- the names of the participants by number
abbrev pub participants_in : Rules → List (List ℕ)
participants_in rules = rules.participants

-- the names of the gateways by number
abbrev pub gateways_in : Rules → List (List ℕ)
gateways_in rules = rules.gateways

-- what holds of all rules that a file says
pub record IsRules (rules : Rules) : Type 0 where
  pub special : (1 ≤ rules.special_ms) × (rules.special_ms ≤ 86399999)
  pub sequential : (1 ≤ rules.sequential_ms) × (rules.sequential_ms ≤ 86399999)
  pub ticks : AreTickRows rules.ticks
  pub limits : AreBandRows rules.limits
  pub ranges : AreBandRows rules.ranges
  pub sessions : AreSessions rules.sessions
  pub rounds : AreRounds rules.rounds
  pub tick_count : length rules.ticks ≤ 32
  pub limit_count : length rules.limits ≤ 64
  pub range_count : length rules.ranges ≤ 64
  pub session_count : (1 ≤ length rules.sessions) × (length rules.sessions ≤ 4)
  pub round_count : length rules.rounds ≤ 16
  pub participants : AreNames 64 (participants_in rules)
  pub gateways : AreNames 16 (gateways_in rules)
  pub issues : AreIssues rules.ticks rules.limits rules.issues
  pub issue_count : (1 ≤ length (issues_in rules)) × (length (issues_in rules) ≤ 64)
