-- The tables of a rules file, as they are printed.
use Rattle.std.specs.Prelude.{ℕ, List, [], ◌∷◌, ◌++◌, length, map, flat_map, slice_get, codes}
use Rattle.std.specs.Fmt.{decimal}
use Rattle.std.specs.List.{range_with_len}
use Rattle.std.specs.Option.{option_map_or}
use Rattle.mkt_base.specs.ReportWords.{name_of}
use Rattle.mkt_base.specs.Text.{line, time_text}
use Rattle.session_phase.specs.declared.session.Session.{Session}
use Rattle.allotment.specs.Rounds.{round_words}
use Rattle.allotment.specs.declared.round.Round.{Round}
use Rattle.rules_file.specs.Keys.{times_of}
use Rattle.rules_file.specs.Rules.{codes_in, issues_in}
use Rattle.rules_file.specs.declared.issue.IssueRules.{IssueRules}
use Rattle.rules_file.specs.declared.rules.Rules.{Rules}

-- what is printed of an issue behind its code
abbrev pub issue_words : IssueRules → List (List ℕ)
issue_words issue =
    codes "base" ∷ decimal issue.base.0 ∷ codes "unit" ∷ decimal issue.unit ∷ codes "low" ∷ decimal issue.low.0
    ∷ codes "high" ∷ decimal issue.high.0 ∷ codes "prices" ∷ decimal issue.prices ∷ []

-- the line of an issue by its number
abbrev pub issue_line : Rules → ℕ → List ℕ
issue_line rules i =
    option_map_or (λ issue. line (codes "issue" ∷ name_of (codes_in rules) i ∷ issue_words issue)) (slice_get (issues_in rules) i) []

-- the line of a session: its times
abbrev pub session_line : Session → List ℕ
session_line session = line (codes "session" ∷ map time_text (times_of session))

-- the line of a round of an allotment
abbrev pub round_line : Round → List ℕ
round_line round = line (codes "round" ∷ round_words round)

-- the lines of the issues
abbrev pub issue_lines : Rules → List ℕ
issue_lines rules = flat_map (issue_line rules) (range_with_len 0 (length (issues_in rules)))

-- the lines of the issues, of the sessions and of the rounds, each in file order, and `end`
abbrev pub tables_text : Rules → List ℕ
tables_text rules =
    issue_lines rules ++ flat_map session_line rules.sessions ++ flat_map round_line rules.rounds ++ line (codes "end" ∷ [])
