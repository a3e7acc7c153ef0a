-- The report of a run: its issues with their journals, and what was shown.
use Rattle.std.specs.Prelude.{◌≡◌, ◌⊎◌, ℕ, zero, suc, ◌+◌, ◌<◌, ◌≤◌, List, [], ◌∷◌, ◌++◌, length, map, flat_map, filter_map, sum_by, take, Option, Some, None, IfSome, All, AllPairs, codes, slice_get}
use Rattle.std.specs.Fmt.{decimal}
use Rattle.std.specs.Option.{option_map_or}
use Rattle.mkt_base.specs.Certificate.{outcome_line, price_word, rejected_line}
use Rattle.mkt_base.specs.ReportWords.{event_words, name_of, node_state_word, phase_word, quote_words, reply_words}
use Rattle.mkt_base.specs.Text.{line, time_text}
use Rattle.mkt_base.specs.declared.auction.Trade.{Trade}
use Rattle.mkt_base.specs.declared.event.Entry.{Entry}
use Rattle.mkt_base.specs.declared.event.Reply.{Reply}
use Rattle.mkt_base.specs.declared.journal.Halt.{Halt}
use Rattle.mkt_base.specs.declared.journal.NodeState.{NodeState}
use Rattle.mkt_base.specs.declared.journal.NodeState.TheVariants.{Lost}
use Rattle.mkt_base.specs.declared.output.Output.{Output}
use Rattle.mkt_base.specs.declared.output.Output.TheVariants as outputs
use Rattle.mkt_base.specs.declared.quote.Board.{Board}
use Rattle.mkt_base.specs.declared.quote.Quote.{Quote}
use Rattle.mkt_base.specs.declared.script.ShowLine.{ShowLine}
use Rattle.rules_file.specs.Rules.{codes_in, gateways_in, issues_in, participants_in}
use Rattle.rules_file.specs.declared.issue.IssueRules.{IssueRules}
use Rattle.rules_file.specs.declared.rules.Rules.{Rules}
use Rattle.rules_report.specs.Tables.{issue_line}
use Rattle.issue_book.specs.Filled.{trade_in}
use Rattle.issue_book.specs.IssueView.{terms_of}
use Rattle.issue_book.specs.State.{State, Terms, start}
use Rattle.issue_machine.specs.History.{IsHistory, entries_by}
use Rattle.issue_machine.specs.Journal.{IsEventOf}
use Rattle.issue_machine.specs.Step.{Done, board_of, replay, state_after}
use Rattle.run_report.specs.declared.ended.EndedIssue.{EndedIssue}

-- a run: its issues in file order, and what was shown in the order of lines
pub record Run : Type 0 where
  pub issues : List EndedIssue
  pub shows : List ShowLine

-- ---- an entry: its line, its outputs, its reply

-- the gateway's name; a dash for the system
abbrev pub caller_word : Rules → ℕ → List ℕ
caller_word rules zero = codes "-"
caller_word rules (suc gateway) = name_of (gateways_in rules) gateway

abbrev pub entry_line : Rules → Entry → List ℕ
entry_line rules e = line (decimal e.place ∷ caller_word rules e.caller.0 ∷ decimal e.own ∷ event_words (participants_in rules) e.event)

abbrev pub trade_line : Trade → List ℕ
trade_line t = line (codes "trade" ∷ decimal t.price.0 ∷ decimal t.qty ∷ decimal t.buy ∷ decimal t.sell ∷ [])

abbrev pub quote_line : Option Quote → List ℕ
quote_line None = line (codes "quote" ∷ codes "none" ∷ [])
quote_line (Some q) = line (codes "quote" ∷ quote_words q)

abbrev pub output_line : Rules → Output → List ℕ
output_line rules (outputs.Due at) = line (codes "due" ∷ time_text at ∷ [])
output_line rules (outputs.NewPhase phase) = line (codes "phase" ∷ phase_word phase ∷ [])
output_line rules (outputs.Auction reference lo hi) = line (codes "auction" ∷ decimal reference.0 ∷ decimal lo.0 ∷ decimal hi.0 ∷ [])
output_line rules (outputs.Rejected sums) = rejected_line sums
output_line rules (outputs.Answer outcome) = outcome_line outcome
output_line rules (outputs.Share participant qty) = line (codes "share" ∷ name_of (participants_in rules) participant.0 ∷ decimal qty ∷ [])
output_line rules (outputs.Traded t) = trade_line t
output_line rules (outputs.Quoted quote) = quote_line quote

abbrev pub reply_line : Rules → Reply → List ℕ
reply_line rules reply = line (codes "=" ∷ reply_words (participants_in rules) reply)

abbrev pub done_text : Rules → Done → List ℕ
done_text rules done = entry_line rules done.entry ++ flat_map (output_line rules) done.stepped.outputs ++ reply_line rules done.stepped.reply

-- ---- the end of an issue's part

-- the event of the first turn that found no node
abbrev pub halted_line : Rules → Option Halt → List ℕ
halted_line rules None = []
halted_line rules (Some h) = line (codes "halted" ∷ caller_word rules h.caller.0 ∷ decimal h.own ∷ event_words (participants_in rules) h.event)

-- the nodes as the journal leaves them; all are lost where the issue is halted
abbrev pub nodes_at_end : Option Halt → State → List NodeState
nodes_at_end None s = s.nodes
nodes_at_end (Some h) s = Lost ∷ Lost ∷ Lost ∷ []

abbrev pub nodes_line : List NodeState → List ℕ
nodes_line nodes = line (codes "nodes" ∷ map node_state_word nodes)

-- the trades of a journal's steps
abbrev pub trades_of : List Done → List Trade
trades_of done = flat_map (λ d. filter_map trade_in d.stepped.outputs) done

abbrev pub total_line : Rules → ℕ → ℕ → List Trade → ℕ → List ℕ
total_line rules issue entries trades last =
    line (codes "total" ∷ name_of (codes_in rules) issue ∷ codes "entries" ∷ decimal entries ∷ codes "trades" ∷ decimal (length trades)
    ∷ codes "shares" ∷ decimal (sum_by (λ t. t.qty) trades) ∷ codes "last" ∷ decimal last ∷ [])

-- ---- the parts

-- the part of an issue under its terms, from its steps
abbrev pub issue_text_on : Rules → ℕ → Terms → EndedIssue → List ℕ
issue_text_on rules issue t ended =
    issue_line rules issue
    ++ flat_map (done_text rules) (replay t (start t) ended.journal)
    ++ halted_line rules ended.halt
    ++ nodes_line (nodes_at_end ended.halt (state_after t ended.journal))
    ++ total_line rules issue (length ended.journal) (trades_of (replay t (start t) ended.journal)) (state_after t ended.journal).last

-- the part of an issue, by its number
abbrev pub issue_text : Rules → ℕ → EndedIssue → List ℕ
issue_text rules issue ended = option_map_or (λ r. issue_text_on rules issue (terms_of rules r) ended) (slice_get (issues_in rules) issue) []

-- the parts of the issues from this number on
abbrev pub issues_text : Rules → ℕ → List EndedIssue → List ℕ
issues_text rules issue [] = []
issues_text rules issue (ended ∷ more) = issue_text rules issue ended ++ issues_text rules (issue + 1) more

-- the words of a quote, or a dash
abbrev pub shown_quote : Option Quote → List (List ℕ)
shown_quote None = codes "-" ∷ []
shown_quote (Some q) = quote_words q

abbrev pub show_line : Rules → ShowLine → List ℕ
show_line rules s =
    line (codes "show" ∷ decimal s.line ∷ caller_word rules s.gateway.0 ∷ name_of (codes_in rules) s.issue ∷ decimal s.board.length ∷ phase_word s.board.phase
    ∷ decimal s.board.last.0 ∷ price_word s.board.bid ∷ price_word s.board.ask ∷ shown_quote s.board.quote)

-- the report of a run
abbrev pub report_text : Rules → Run → List ℕ
report_text rules run =
    line (codes "market" ∷ codes "1" ∷ []) ++ issues_text rules 0 run.issues ++ flat_map (show_line rules) run.shows ++ line (codes "end" ∷ [])

-- ---- what is printed

-- the event of a halt is its caller's next one, of a gateway of the rules
pub record IsHaltOf (rules : Rules) (journal : List Entry) (h : Halt) : Type 0 where
  pub caller : 1 ≤ h.caller.0
  pub gateway : h.caller.0 ≤ length (gateways_in rules)
  pub own : h.own ≡ length (entries_by h.caller.0 journal)
  pub event : IsEventOf (length (participants_in rules)) h.event

-- an issue that may be printed: its journal is a history, and its callers are gateways of the rules, or the system
pub record IsEnded (rules : Rules) (ended : EndedIssue) : Type 0 where
  pub history : IsHistory (length (participants_in rules)) ended.journal
  pub few : length ended.journal ≤ 100000000
  pub callers : All (λ (e : Entry). e.caller.0 ≤ length (gateways_in rules)) ended.journal
  pub halt : IfSome ended.halt (IsHaltOf rules ended.journal)

-- a read of the board is of an issue and by a gateway of the rules
pub record IsNamed (rules : Rules) (s : ShowLine) : Type 0 where
  pub issue : s.issue < length (issues_in rules)
  pub caller : 1 ≤ s.gateway.0
  pub gateway : s.gateway.0 ≤ length (gateways_in rules)

-- it shows the board of the journal's first entries, as many as it tells
pub record IsShown (rules : Rules) (r : IssueRules) (journal : List Entry) (board : Board) : Type 0 where
  pub within : board.length ≤ length journal
  pub board_is : board ≡ board_of (terms_of rules r) (state_after (terms_of rules r) (take board.length journal))

-- one read of the board stands before another: by its line, and in one line by its issue
abbrev pub IsShownBefore : ShowLine → ShowLine → Type 0
IsShownBefore a b = (a.line < b.line) ⊎ ((a.line ≡ b.line) × (a.issue < b.issue))

-- a run that may be printed: it has each issue of the rules; and its reads of boards, which rise, show the boards of its journals
pub record IsRun (rules : Rules) (run : Run) : Type 0 where
  pub each : length run.issues ≡ length (issues_in rules)
  pub ended : All (IsEnded rules) run.issues
  pub named : All (IsNamed rules) run.shows
  pub shown : All (λ (s : ShowLine). (r : IssueRules) (ended : EndedIssue) → slice_get (issues_in rules) s.issue ≡ Some r → slice_get run.issues s.issue ≡ Some ended
      → IsShown rules r ended.journal s.board) run.shows
  pub rise : AllPairs IsShownBefore run.shows
