-- A report as a text that is told by choices.
use Rattle.std.proofs.Common.{◌≡◌, ℕ, ◌+◌, ◌<◌, ◌≤◌, ◌^◌, true, List, [], ◌∷◌, ◌++◌, Option, Some, None, codes, length, map, flat_map, slice_get}
use Rattle.std.specs.Fmt.{decimal}
use Rattle.std.specs.Option.{option_map_or}
use Rattle.mkt_base.specs.Certificate.{price_word}
use Rattle.mkt_base.specs.ReportWords.{event_words, name_of, node_state_word, phase_word}
use Rattle.mkt_base.specs.declared.auction.Trade.{Trade}
use Rattle.mkt_base.specs.declared.event.Entry.{Entry}
use Rattle.mkt_base.specs.declared.event.Event.{Event}
use Rattle.mkt_base.specs.declared.journal.Halt.{Halt}
use Rattle.mkt_base.specs.declared.journal.NodeState.{NodeState}
use Rattle.mkt_base.specs.declared.journal.NodeState.TheVariants.{Lost}
use Rattle.mkt_base.specs.declared.quote.Board.{Board}
use Rattle.mkt_base.specs.declared.script.ShowLine.{ShowLine}
use Rattle.mkt_base.specs.declared.units.Caller.{Caller}
use Rattle.rules_file.specs.Rules.{codes_in, gateways_in, issues_in, participants_in}
use Rattle.rules_file.specs.declared.issue.IssueRules.{IssueRules}
use Rattle.rules_file.specs.declared.rules.Rules.{Rules}
use Rattle.rules_report.specs.Tables.{issue_words}
use Rattle.issue_book.specs.IssueView.{terms_of}
use Rattle.issue_book.specs.State.{Terms, start}
use Rattle.issue_machine.specs.History.{nodes_after}
use Rattle.issue_machine.specs.Journal.{IsEventOf}
use Rattle.issue_machine.specs.Step.{Stepped, replay, state_after, step}
use Rattle.run_report.specs.Report.{Run, caller_word, shown_quote, trades_of}
use Rattle.run_report.specs.Watched.{shares_of}
use Rattle.run_report.specs.declared.ended.EndedIssue.{EndedIssue}
use Rattle.text_match.proofs.FormLemmas.{Form}
use Rattle.text_match.proofs.WordLemmas.{body}
use Rattle.audit.specs.Reading.{read}
use Rattle.audit.specs.Reports.{HasNumbers}
use Rattle.audit.specs.Told.{At, Going, Halted, Showing, Choice, Enter, Stop, Close, Show, Finish, board_at, entry_at, halt_at, may_enter, may_show, may_stop, next}
use Rattle.audit.specs.declared.told.Asked.{Asked}
use Rattle.audit.proofs.LineLemmas.{output_body, reply_body}

-- ---- which choices are allowed

pub record MayEnter (rules : Rules) (journal : List Entry) (caller : Caller) (event : Event) : Type 0 where
  pub tests : may_enter (length (gateways_in rules)) journal caller event ≡ true
  pub of : IsEventOf (length (participants_in rules)) event
  pub numbers : HasNumbers event

pub record MayStop (rules : Rules) (caller : Caller) (event : Event) : Type 0 where
  pub tests : may_stop (length (gateways_in rules)) caller ≡ true
  pub of : IsEventOf (length (participants_in rules)) event
  pub numbers : HasNumbers event

pub record MayShow (rules : Rules) (done : List EndedIssue) (asked : List Asked) (a : Asked) : Type 0 where
  pub tests : may_show done asked a ≡ true
  pub issue : a.issue < length (issues_in rules)
  pub caller : 1 ≤ a.gateway.0
  pub gateway : a.gateway.0 ≤ length (gateways_in rules)
  pub number : a.line < 2 ^ 32
  pub few : a.length < 2 ^ 32

abbrev pub Allows : Rules → At → Choice → Type 0
Allows rules (Going done journal) (Enter caller event) = MayEnter rules journal caller event
Allows rules (Going done journal) (Stop caller event) = MayStop rules caller event
Allows rules (Going done journal) Close = Unit {0}
Allows rules (Halted done journal halt) Close = Unit {0}
Allows rules (Showing done asked) (Show a) = MayShow rules done asked a
Allows rules (Showing done asked) Finish = Unit {0}
Allows rules at choice = ⊥

-- ---- the words of their lines

abbrev pub entry_words : Rules → Entry → List (List ℕ)
entry_words rules e = decimal e.place ∷ caller_word rules e.caller.0 ∷ decimal e.own ∷ event_words (participants_in rules) e.event

abbrev pub halt_words : Rules → Halt → List (List ℕ)
halt_words rules h = codes "halted" ∷ caller_word rules h.caller.0 ∷ decimal h.own ∷ event_words (participants_in rules) h.event

abbrev pub nodes_words : List NodeState → List (List ℕ)
nodes_words nodes = codes "nodes" ∷ map node_state_word nodes

abbrev pub board_words : Board → List (List ℕ)
board_words b = phase_word b.phase ∷ decimal b.last.0 ∷ price_word b.bid ∷ price_word b.ask ∷ shown_quote b.quote

abbrev pub show_words : Rules → Asked → Board → List (List ℕ)
show_words rules a board =
    codes "show" ∷ decimal a.line ∷ caller_word rules a.gateway.0 ∷ name_of (codes_in rules) a.issue ∷ decimal a.length ∷ board_words board

unfoldable pub line_of : Rules → At → Choice → List ℕ
line_of rules (Going done journal) (Enter caller event) = body (entry_words rules (entry_at journal caller event))
line_of rules (Going done journal) (Stop caller event) = body (halt_words rules (halt_at journal caller event))
line_of rules (Going done journal) Close = body (nodes_words (nodes_after journal))
line_of rules (Halted done journal halt) Close = body (nodes_words (Lost ∷ Lost ∷ Lost ∷ []))
line_of rules (Showing done asked) (Show a) = body (show_words rules a (board_at rules done a.issue a.length))
line_of rules (Showing done asked) Finish = body (codes "end" ∷ [])
line_of rules at choice = []

-- ---- the lines that follow from them

-- the outputs and the reply of a step
abbrev pub step_lines : Rules → Stepped → List (List ℕ)
step_lines rules d = map (output_body rules) d.outputs ++ reply_body rules d.reply ∷ []

abbrev pub entry_lines : Rules → List Entry → Entry → Option IssueRules → List (List ℕ)
entry_lines rules journal e issue = option_map_or (λ (r : IssueRules). step_lines rules (step (terms_of rules r) e (state_after (terms_of rules r) journal))) issue []

abbrev pub total_words : Rules → ℕ → ℕ → List Trade → ℕ → List (List ℕ)
total_words rules issue entries trades last =
    codes "total" ∷ name_of (codes_in rules) issue ∷ codes "entries" ∷ decimal entries ∷ codes "trades" ∷ decimal (length trades)
    ∷ codes "shares" ∷ decimal (shares_of trades) ∷ codes "last" ∷ decimal last ∷ []

-- the totals of an issue
abbrev pub totals_of : Rules → ℕ → Terms → List Entry → List (List ℕ)
totals_of rules issue t journal = total_words rules issue (length journal) (trades_of (replay t (start t) journal)) (state_after t journal).last

abbrev pub total_lines : Rules → ℕ → List Entry → Option IssueRules → List (List ℕ)
total_lines rules i journal issue = option_map_or (λ (r : IssueRules). body (totals_of rules i (terms_of rules r) journal) ∷ []) issue []

-- the line of the next issue, where there is one
abbrev pub opening_at : Rules → ℕ → Option IssueRules → List (List ℕ)
opening_at rules i issue = option_map_or (λ (r : IssueRules). body (codes "issue" ∷ name_of (codes_in rules) i ∷ issue_words r) ∷ []) issue []

abbrev pub opening : Rules → ℕ → List (List ℕ)
opening rules i = opening_at rules i (slice_get (issues_in rules) i)

abbrev pub close_lines : Rules → ℕ → List Entry → List (List ℕ)
close_lines rules i journal = total_lines rules i journal (slice_get (issues_in rules) i) ++ opening rules (i + 1)

unfoldable pub forced_of : Rules → At → Choice → List (List ℕ)
forced_of rules (Going done journal) (Enter caller event) = entry_lines rules journal (entry_at journal caller event) (slice_get (issues_in rules) (length done))
forced_of rules (Going done journal) Close = close_lines rules (length done) journal
forced_of rules (Halted done journal halt) Close = close_lines rules (length done) journal
forced_of rules at choice = []

-- ---- the form

abbrev pub report_form : Rules → Form At Choice
report_form rules = record { allows = Allows rules; line = line_of rules; forced = forced_of rules; next = next rules; read = read rules }

-- ---- the choices of a run

abbrev pub enter : Entry → Choice
enter e = Enter e.caller e.event

abbrev pub halt_choices : Option Halt → List Choice
halt_choices None = []
halt_choices (Some h) = Stop h.caller h.event ∷ []

abbrev pub issue_choices : EndedIssue → List Choice
issue_choices ended = map enter ended.journal ++ (halt_choices ended.halt ++ Close ∷ [])

abbrev pub asked_of : ShowLine → Asked
asked_of s = record { line = s.line; gateway = s.gateway; issue = s.issue; length = s.board.length }

abbrev pub show_choice : ShowLine → Choice
show_choice s = Show (asked_of s)

abbrev pub choices_of : Run → List Choice
choices_of run = flat_map issue_choices run.issues ++ (map show_choice run.shows ++ Finish ∷ [])
