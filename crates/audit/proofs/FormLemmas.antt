-- The choices of a report are read back from their lines, and no other line tells one.
use Rattle.std.proofs.Common.{◌≡◌, ℕ, zero, suc, ◌+◌, ◌<◌, ◌≤◌, true, ◌&&◌, cond, eqb, leb, ltb, List, [], ◌∷◌, ◌++◌, Option, Some, None, codes, length, map, slice_get, refl, ap, ◌∙◌, arith}
use Rattle.std.specs.Fmt.{decimal}
use Rattle.std.specs.List.{list_all, slice_index}
use Rattle.std.proofs.lemmas.Bool.Decides.{nat_tests}
use Rattle.mkt_base.specs.Certificate.{side_word}
use Rattle.mkt_base.specs.ReportWords.{event_words, kind_word, name_of, node_state_word, phase_word}
use Rattle.mkt_base.specs.Text.{line}
use Rattle.mkt_base.specs.declared.event.Entry.{Entry}
use Rattle.mkt_base.specs.declared.event.Event.{Event}
use Rattle.mkt_base.specs.declared.event.Event.TheVariants as events
use Rattle.mkt_base.specs.declared.event.Phase.{Phase}
use Rattle.mkt_base.specs.declared.event.Phase.TheVariants.{Idle, Collecting, Trading}
use Rattle.mkt_base.specs.declared.journal.NodeState.{NodeState}
use Rattle.mkt_base.specs.declared.journal.NodeState.TheVariants.{Lost}
use Rattle.mkt_base.specs.declared.order.Kind.{Kind}
use Rattle.mkt_base.specs.declared.order.Kind.TheVariants.{Market, Limit}
use Rattle.mkt_base.specs.declared.order.Side.{Side}
use Rattle.mkt_base.specs.declared.order.Side.TheVariants.{Buy, Sell}
use Rattle.mkt_base.specs.declared.output.Output.{Output}
use Rattle.mkt_base.specs.declared.quote.Board.{Board}
use Rattle.mkt_base.specs.declared.units.Caller.{Caller}
use Rattle.mkt_io.specs.Words.{is_digit, words}
use Rattle.node_rules.specs.Nodes.{has_synchronised, node_step}
use Rattle.rules_file.specs.Rules.{IsRules, codes_in, gateways_in, issues_in, participants_in}
use Rattle.rules_file.specs.declared.issue.IssueRules.{IssueRules}
use Rattle.rules_file.specs.declared.rules.Rules.{Rules}
use Rattle.rules_report.specs.Tables.{issue_words}
use Rattle.issue_book.specs.IssueView.{terms_of}
use Rattle.issue_machine.specs.History.{entries_by, nodes_after}
use Rattle.issue_machine.specs.Journal.{IsEventOf}
use Rattle.issue_book.specs.State.{start}
use Rattle.issue_machine.specs.Step.{Stepped, replay, state_after, step}
use Rattle.run_report.specs.Report.{caller_word, output_line, reply_line, trades_of}
use Rattle.run_report.specs.Watched.{shares_of}
use Rattle.run_report.specs.declared.ended.EndedIssue.{EndedIssue}
use Rattle.text_match.specs.Lines.{is_one_line}
use Rattle.text_match.proofs.FormLemmas.{Unread}
use Rattle.text_match.proofs.LineLemmas.{AreLines}
use Rattle.text_match.proofs.WordLemmas.{ArePlain, AreWords, IsWord, body, body-one, both, decimal-digits, decimal-plain, decimal-word, time-word, words-begin, words-body, words-front}
use Rattle.audit.specs.Reading.{asked_words, caller_event, choice_in, read}
use Rattle.audit.specs.Told.{At, Going, Halted, Showing, Over, Choice, Enter, Stop, Close, Show, Finish, board_at, crashes_up, entry_at, halt_at, may_enter}
use Rattle.audit.specs.declared.told.Asked.{Asked}
use Rattle.audit.proofs.BackLemmas.{next_caller-back, next_event-back, next_gateway-back, next_issue-back, next_number-back}
use Rattle.audit.proofs.Choices.{Allows, MayEnter, MayShow, MayStop, board_words, close_lines, entry_lines, entry_words, forced_of, halt_words, line_of, nodes_words, opening, opening_at, report_form, show_words, step_lines, total_lines, totals_of}
use Rattle.audit.proofs.LineLemmas.{IsSilent, caller-plain, event-plain, name-at, name-plain, output-silent, output_body, phase-plain, price-plain, reply-silent, reply_body, shown-plain, silent, states-plain}

-- ---- words

pub caller-word : (rules : Rules) (c : ℕ) → IsRules rules → c ≤ length (gateways_in rules) → IsWord (caller_word rules c)
caller-word rules zero is within = record { plain = refl; some = omega arith }
caller-word rules (suc c) is within = name-at (gateways_in rules) c is.gateways.each (omega (arith, within))

side-word : (s : Side) → IsWord (side_word s)
side-word Buy = record { plain = refl; some = omega arith }
side-word Sell = record { plain = refl; some = omega arith }

kind-word : (k : Kind) → IsWord (kind_word k)
kind-word Market = record { plain = refl; some = omega arith }
kind-word (Limit p) = decimal-word p.0

event-word : (rules : Rules) (e : Event) → IsRules rules → IsEventOf (length (participants_in rules)) e → AreWords (event_words (participants_in rules) e)
event-word rules (events.Order p s k q) is of =
    (record { plain = refl; some = omega arith }, (name-at (participants_in rules) p.0 is.participants.each of, (side-word s, (kind-word k, (decimal-word q.0, tt)))))
event-word rules (events.Change p t k q) is of =
    (record { plain = refl; some = omega arith }, (name-at (participants_in rules) p.0 is.participants.each of, (decimal-word t, (kind-word k, (decimal-word q.0, tt)))))
event-word rules (events.Cancel p t) is of = (record { plain = refl; some = omega arith }, (name-at (participants_in rules) p.0 is.participants.each of, (decimal-word t, tt)))
event-word rules (events.Clock at) is of = (record { plain = refl; some = omega arith }, (time-word at, tt))
event-word rules (events.Crash n) is of = (record { plain = refl; some = omega arith }, (decimal-word n, tt))
event-word rules (events.Rejoin n) is of = (record { plain = refl; some = omega arith }, (decimal-word n, tt))

phase-word : (p : Phase) → IsWord (phase_word p)
phase-word Idle = record { plain = refl; some = omega arith }
phase-word Collecting = record { plain = refl; some = omega arith }
phase-word Trading = record { plain = refl; some = omega arith }

-- a journal that may have one entry more is not long
pub enter-few : (gateways : ℕ) (journal : List Entry) (caller : Caller) (event : Event) → may_enter gateways journal caller event ≡ true → (length journal < 100000000) × (caller.0 ≤ gateways)
unfolding may_enter
enter-few gateways journal caller event h =
    let n = length journal in
    let nodes = nodes_after journal in
    let system = cond (eqb caller.0 0) (ltb 0 n && crashes_up nodes event) true in
    let a = both ((ltb n 100000000 && leb caller.0 gateways) && system) (has_synchronised (node_step n caller.0 event nodes)) h in
    let b = both (ltb n 100000000 && leb caller.0 gateways) system a.0 in
    let c = both (ltb (length journal) 100000000) (leb caller.0 gateways) b.0 in
    (grind (arith, nat_tests, c.0), grind (arith, nat_tests, c.1))

-- ---- read back

first-digit : (w : List ℕ) → list_all is_digit w ≡ true → 0 < length w → is_digit (slice_index w 0) ≡ true
first-digit [] h some = absurd (omega (arith, some))
first-digit (b ∷ w) h some = (both (is_digit b) (list_all is_digit w) h).0

module _ (rules : Rules) (is : IsRules rules) where
  enter-back : (done : List EndedIssue) (journal : List Entry) (caller : Caller) (event : Event) → MayEnter rules journal caller event
      → read rules (Going done journal) (body (entry_words rules (entry_at journal caller event))) ≡ Some (Enter caller event)
  unfolding caller_event
  enter-back done journal caller event may =
      let few = enter-few (length (gateways_in rules)) journal caller event may.tests in
      let place = decimal-word (length journal) in
      let own = decimal-word (length (entries_by caller.0 journal)) in
      let digit = first-digit (decimal (length journal)) (decimal-digits (length journal)) place.some in
      ap (choice_in rules (Going done journal)) (words-body (entry_words rules (entry_at journal caller event)) (place, (caller-word rules caller.0 is few.1, (own, event-word rules event is may.of))))
      ∙ rw (digit, next_caller-back rules caller (decimal (length (entries_by caller.0 journal)) ∷ event_words (participants_in rules) event) is few.1, next_event-back rules event is may.of may.numbers, may.tests) refl

  stop-back : (done : List EndedIssue) (journal : List Entry) (caller : Caller) (event : Event) → MayStop rules caller event
      → read rules (Going done journal) (body (halt_words rules (halt_at journal caller event))) ≡ Some (Stop caller event)
  unfolding caller_event
  stop-back done journal caller event may =
      let within = both (leb 1 caller.0) (leb caller.0 (length (gateways_in rules))) may.tests in
      let gateway : caller.0 ≤ length (gateways_in rules) = grind (arith, nat_tests, within.1) in
      let own = decimal-word (length (entries_by caller.0 journal)) in
      ap (choice_in rules (Going done journal))
      (words-body (halt_words rules (halt_at journal caller event)) (record { plain = refl; some = omega arith }, (caller-word rules caller.0 is gateway, (own, event-word rules event is may.of))))
      ∙ rw (next_caller-back rules caller (decimal (length (entries_by caller.0 journal)) ∷ event_words (participants_in rules) event) is gateway, next_event-back rules event is may.of may.numbers, may.tests) refl

  show-back : (done : List EndedIssue) (asked : List Asked) (a : Asked) (board : Board) → MayShow rules done asked a
      → read rules (Showing done asked) (body (show_words rules a board)) ≡ Some (Show a)
  unfolding asked_words
  show-back done asked a board may =
      let after_issue = decimal a.length ∷ board_words board in
      let begin = words-show a board may in
      ap (choice_in rules (Showing done asked)) begin.1
      ∙ rw (
        next_number-back a.line (caller_word rules a.gateway.0 ∷ name_of (codes_in rules) a.issue ∷ decimal a.length ∷ begin.0) may.number,
        next_gateway-back rules a.gateway (name_of (codes_in rules) a.issue ∷ decimal a.length ∷ begin.0) is may.caller may.gateway,
        next_issue-back rules a.issue (decimal a.length ∷ begin.0) is may.issue,
        next_number-back a.length begin.0 may.few,
        may.tests,
      ) refl
    where
      words-show : (a : Asked) (board : Board) → MayShow rules done asked a
          → (more : List (List ℕ))
          × (words (body (show_words rules a board)) ≡ codes "show" ∷ decimal a.line ∷ caller_word rules a.gateway.0 ∷ name_of (codes_in rules) a.issue ∷ decimal a.length ∷ more)
      words-show a board may =
          let first : IsWord (codes "show") = record { plain = refl; some = omega arith } in
          let issue = name-at (codes_in rules) a.issue is.issues.names (omega (arith, is.issues.sizes, may.issue)) in
          let caller = caller-word rules a.gateway.0 is may.gateway in
          let tail = body (board_words board) in (
            words tail,
            words-front (codes "show") (body (decimal a.line ∷ caller_word rules a.gateway.0 ∷ name_of (codes_in rules) a.issue ∷ decimal a.length ∷ board_words board)) first
                ∙ ap (λ ws. codes "show" ∷ ws) (words-front (decimal a.line) (body (caller_word rules a.gateway.0 ∷ name_of (codes_in rules) a.issue ∷ decimal a.length ∷ board_words board)) (decimal-word a.line)
                ∙ ap (λ ws. decimal a.line ∷ ws) (words-front (caller_word rules a.gateway.0) (body (name_of (codes_in rules) a.issue ∷ decimal a.length ∷ board_words board)) caller
                ∙ ap (λ ws. caller_word rules a.gateway.0 ∷ ws) (words-front (name_of (codes_in rules) a.issue) (body (decimal a.length ∷ board_words board)) issue
                ∙ ap (λ ws. name_of (codes_in rules) a.issue ∷ ws) (words-front (decimal a.length) tail (decimal-word a.length))))),
          )

  nodes-back : (at : At) (nodes : List NodeState) → choice_in rules at (codes "nodes" ∷ []) ≡ Some Close → ((more : List (List ℕ)) → choice_in rules at (codes "nodes" ∷ more) ≡ Some Close)
      → read rules at (body (nodes_words nodes)) ≡ Some Close
  nodes-back at nodes none some =
      let begin = words-begin (codes "nodes") (map node_state_word nodes) (record { plain = refl; some = omega arith }) in
      ap (choice_in rules at) begin.1 ∙ some begin.0

  pub reads : (at : At) (c : Choice) → Allows rules at c → read rules at (line_of rules at c) ≡ Some c
  unfolding line_of
  reads (Going done journal) (Enter caller event) may = enter-back done journal caller event may
  reads (Going done journal) (Stop caller event) may = stop-back done journal caller event may
  reads (Going done journal) Close may = nodes-back (Going done journal) (nodes_after journal) refl (λ more. refl)
  reads (Halted done journal halt) Close may = nodes-back (Halted done journal halt) (Lost ∷ Lost ∷ Lost ∷ []) refl (λ more. refl)
  reads (Showing done asked) (Show a) may = show-back done asked a (board_at rules done a.issue a.length) may
  reads (Showing done asked) Finish may = end-back
    where
      end-back : read rules (Showing done asked) (body (codes "end" ∷ [])) ≡ Some Finish
      end-back = ap (choice_in rules (Showing done asked)) (words-body (codes "end" ∷ []) (record { plain = refl; some = omega arith }, tt))
  reads (Going done journal) (Show a) may = absurd may
  reads (Going done journal) Finish may = absurd may
  reads (Halted done journal halt) (Enter caller event) may = absurd may
  reads (Halted done journal halt) (Stop caller event) may = absurd may
  reads (Halted done journal halt) (Show a) may = absurd may
  reads (Halted done journal halt) Finish may = absurd may
  reads (Showing done asked) (Enter caller event) may = absurd may
  reads (Showing done asked) (Stop caller event) may = absurd may
  reads (Showing done asked) Close may = absurd may
  reads (Over done asked) c may = absurd (over c may)
    where
      over : (c : Choice) → Allows rules (Over done asked) c → ⊥
      over (Enter caller event) may = may
      over (Stop caller event) may = may
      over Close may = may
      over (Show a) may = may
      over Finish may = may

  -- ---- lines that follow

  -- lines that tell no choice and have no LF inside
  pub record AreQuiet (lines : List (List ℕ)) : Type 0 where
    pub unread : (at : At) → Unread (report_form rules) at lines
    pub lines_are : AreLines lines

  quiet-none : AreQuiet []
  quiet-none = record { unread = λ at. tt; lines_are = tt }

  quiet-more : (text l : List ℕ) (lines : List (List ℕ)) → IsSilent text l → AreQuiet lines → AreQuiet (l ∷ lines)
  quiet-more text l lines first more = record { unread = λ at. (first.unread rules at, more.unread at); lines_are = (first.one, more.lines_are) }

  quiet-outputs : (os : List Output) (lines : List (List ℕ)) → AreQuiet lines → AreQuiet (map (output_body rules) os ++ lines)
  quiet-outputs [] lines more = more
  quiet-outputs (o ∷ os) lines more = quiet-more (output_line rules o) (output_body rules o) (map (output_body rules) os ++ lines) (output-silent rules o is) (quiet-outputs os lines more)

  quiet-step : (d : Stepped) → AreQuiet (step_lines rules d)
  quiet-step d = quiet-outputs d.outputs (reply_body rules d.reply ∷ []) (quiet-more (reply_line rules d.reply) (reply_body rules d.reply) [] (reply-silent rules d.reply is) quiet-none)

  quiet-entry : (journal : List Entry) (e : Entry) (issue : Option IssueRules) → AreQuiet (entry_lines rules journal e issue)
  quiet-entry journal e None = quiet-none
  quiet-entry journal e (Some r) = quiet-step (step (terms_of rules r) e (state_after (terms_of rules r) journal))

  plain-name : (i : ℕ) → ArePlain (name_of (codes_in rules) i)
  plain-name i = name-plain (codes_in rules) i is.issues.names

  pub quiet-opening : (i : ℕ) (issue : Option IssueRules) → AreQuiet (opening_at rules i issue)
  quiet-opening i None = quiet-none
  quiet-opening i (Some r) =
      quiet-more (line (codes "issue" ∷ name_of (codes_in rules) i ∷ issue_words r)) (body (codes "issue" ∷ name_of (codes_in rules) i ∷ issue_words r)) []
      (silent (codes "issue") (name_of (codes_in rules) i ∷ issue_words r) refl (record { plain = refl; some = omega arith })
      (plain-name i, (refl, (decimal-plain _, (refl, (decimal-plain _, (refl, (decimal-plain _, (refl, (decimal-plain _, (refl, (decimal-plain _, tt)))))))))))) quiet-none

  -- the words of totals behind the first
  abbrev total_rest : ℕ → List Entry → IssueRules → List (List ℕ)
  total_rest i journal r =
      let t = terms_of rules r in
      name_of (codes_in rules) i ∷ codes "entries" ∷ decimal (length journal) ∷ codes "trades" ∷ decimal (length (trades_of (replay t (start t) journal)))
      ∷ codes "shares" ∷ decimal (shares_of (trades_of (replay t (start t) journal))) ∷ codes "last" ∷ decimal (state_after t journal).last ∷ []

  quiet-total : (i : ℕ) (journal : List Entry) (issue : Option IssueRules) (lines : List (List ℕ)) → AreQuiet lines → AreQuiet (total_lines rules i journal issue ++ lines)
  quiet-total i journal None lines more = more
  quiet-total i journal (Some r) lines more =
      quiet-more (line (totals_of rules i (terms_of rules r) journal)) (body (totals_of rules i (terms_of rules r) journal)) lines
      (silent (codes "total") (total_rest i journal r) refl (record { plain = refl; some = omega arith })
      (plain-name i, (refl, (decimal-plain _, (refl, (decimal-plain _, (refl, (decimal-plain _, (refl, (decimal-plain _, tt)))))))))) more

  quiet-close : (i : ℕ) (journal : List Entry) → AreQuiet (close_lines rules i journal)
  quiet-close i journal = quiet-total i journal (slice_get (issues_in rules) i) (opening rules (i + 1)) (quiet-opening (i + 1) (slice_get (issues_in rules) (i + 1)))

  pub quiet-forced : (at : At) (c : Choice) → AreQuiet (forced_of rules at c)
  unfolding forced_of
  quiet-forced (Going done journal) (Enter caller event) = quiet-entry journal (entry_at journal caller event) (slice_get (issues_in rules) (length done))
  quiet-forced (Going done journal) (Stop caller event) = quiet-none
  quiet-forced (Going done journal) Close = quiet-close (length done) journal
  quiet-forced (Going done journal) (Show a) = quiet-none
  quiet-forced (Going done journal) Finish = quiet-none
  quiet-forced (Halted done journal halt) (Enter caller event) = quiet-none
  quiet-forced (Halted done journal halt) (Stop caller event) = quiet-none
  quiet-forced (Halted done journal halt) Close = quiet-close (length done) journal
  quiet-forced (Halted done journal halt) (Show a) = quiet-none
  quiet-forced (Halted done journal halt) Finish = quiet-none
  quiet-forced (Showing done asked) c = quiet-none
  quiet-forced (Over done asked) c = quiet-none

  -- ---- no LF inside

  pub one-line : (at : At) (c : Choice) → is_one_line (line_of rules at c) ≡ true
  unfolding line_of
  one-line (Going done journal) (Enter caller event) =
      body-one (entry_words rules (entry_at journal caller event)) (decimal-plain _, (caller-plain rules caller.0 is, (decimal-plain _, event-plain rules event is)))
  one-line (Going done journal) (Stop caller event) =
      body-one (halt_words rules (halt_at journal caller event)) (refl, (caller-plain rules caller.0 is, (decimal-plain _, event-plain rules event is)))
  one-line (Going done journal) Close = body-one (nodes_words (nodes_after journal)) (refl, states-plain (nodes_after journal))
  one-line (Going done journal) (Show a) = refl
  one-line (Going done journal) Finish = refl
  one-line (Halted done journal halt) (Enter caller event) = refl
  one-line (Halted done journal halt) (Stop caller event) = refl
  one-line (Halted done journal halt) Close = body-one (nodes_words (Lost ∷ Lost ∷ Lost ∷ [])) (refl, states-plain (Lost ∷ Lost ∷ Lost ∷ []))
  one-line (Halted done journal halt) (Show a) = refl
  one-line (Halted done journal halt) Finish = refl
  one-line (Showing done asked) (Enter caller event) = refl
  one-line (Showing done asked) (Stop caller event) = refl
  one-line (Showing done asked) Close = refl
  one-line (Showing done asked) (Show a) =
      let board = board_at rules done a.issue a.length in
      body-one (show_words rules a board)
      (refl, (decimal-plain _, (caller-plain rules a.gateway.0 is, (plain-name a.issue, (decimal-plain _, (phase-plain board.phase, (decimal-plain _, (price-plain board.bid, (price-plain board.ask, shown-plain board.quote)))))))))
  one-line (Showing done asked) Finish = body-one (codes "end" ∷ []) (refl, tt)
  one-line (Over done asked) c = refl
