-- Worked examples: the definitions compute to what a reader of the format would say.
use Rattle.std.specs.Prelude.{⊤, ◌≡◌, ℕ, List, [], ◌∷◌, ◌++◌, flat_map, Result, Ok, Err, refl, codes}
use Rattle.mkt_base.specs.declared.event.Event.TheVariants.{Order, Change, Cancel, Clock, Crash, Rejoin}
use Rattle.mkt_base.specs.declared.order.Kind.TheVariants.{Market, Limit}
use Rattle.mkt_base.specs.declared.order.Side.TheVariants.{Buy, Sell}
use Rattle.mkt_base.specs.declared.script.Act.{Act}
use Rattle.mkt_base.specs.declared.script.Act.TheVariants.{Do, Show}
use Rattle.mkt_io.specs.LineFault.{checked_words, next_number, number_in}
use Rattle.mkt_io.specs.Time.{digit_of, millis_of, part_at, time_of, two_at}
use Rattle.mkt_io.specs.Words.{number_of, words}
use Rattle.rules_file.specs.declared.issue.IssueRules.{IssueRules}
use Rattle.rules_file.specs.declared.rules.Rules.{Rules}
use Rattle.script_file.specs.Commands.{cancel_words, change_words, clock_words, crash_words, next_command, order_words, rejoin_words, show_words}
use Rattle.script_file.specs.Own.{is_order_of}
use Rattle.script_file.specs.Script.{gateway_line, line_said, read_lines, said_by, script_of, with_lines, words_said}
use Rattle.script_file.specs.Words.{gateway_of, issues_of, kind_of, next_issues, next_kind, next_moment, next_node, next_own, next_participant, next_side}
use Rattle.script_file.specs.declared.fault.ScriptFault.{ScriptFault}
use Rattle.script_file.specs.declared.fault.ScriptFault.TheVariants.{At}
use Rattle.script_file.specs.declared.script.GatewayScriptLine.{GatewayScriptLine}
use Rattle.script_file.specs.declared.script.Script.{Script}

-- what the examples unfold
unfoldable script_on_literals : ⊤
unfolding checked_words words next_number number_in number_of digit_of millis_of part_at time_of two_at clock_words cancel_words change_words crash_words next_command order_words rejoin_words show_words is_order_of gateway_line line_said read_lines said_by with_lines words_said gateway_of issues_of kind_of next_issues next_kind next_moment next_node next_own next_participant next_side
script_on_literals = tt

abbrev issue : IssueRules
issue = record { base = record { 0 = 20000 }; unit = 100; low = record { 0 = 20000 }; high = record { 0 = 20000 }; prices = 1 }

-- rules with the issues AAAA and BBBB, the participants p1 and p2, and the gateways g1 and barrier
abbrev rules : Rules
rules = record {
  special_ms = 180000;
  sequential_ms = 60000;
  ticks = [];
  limits = [];
  ranges = [];
  sessions = [];
  rounds = [];
  participants = codes "p1" ∷ codes "p2" ∷ [];
  gateways = codes "g1" ∷ codes "barrier" ∷ [];
  issues = record { codes = codes "AAAA" ∷ codes "BBBB" ∷ []; rules = issue ∷ issue ∷ [] };
}

-- what a script of these lines says
abbrev said : List (List ℕ) → Result Script ScriptFault
said lines = script_of rules (flat_map (λ line. line ++ 10 ∷ []) lines)

-- a gateway's line of a stage
abbrev made_in : ℕ → ℕ → ℕ → ℕ → Act → GatewayScriptLine
made_in stage gateway number at act = record { gateway = record { 0 = gateway }; line = record { line = number; stage = stage; issue = at; act = act } }

-- one of the first stage
abbrev made : ℕ → ℕ → ℕ → Act → GatewayScriptLine
made = made_in 0

nothing : said [] ≡ Ok (record { lines = []; stages = 1 })
unfolding script_on_literals
nothing = refl

-- the second gateway sells at any price; the last line has no end
an_order : script_of rules (codes "barrier AAAA order p2 sell market 0") ≡ Ok (record { lines = made 2 1 0 (Do (Order (record { 0 = 1 }) Sell Market (record { 0 = 0 }))) ∷ []; stages = 1 })
unfolding script_on_literals
an_order = refl

-- a moment for each issue, a comment, and a buy of line 3
every_issue : said (codes "g1 * clock 08:00:00" ∷ codes "# -" ∷ codes "g1 BBBB order p1 buy 7 5" ∷ [])
    ≡ Ok (record {
      lines = made 1 1 0 (Do (Clock 28800000)) ∷ made 1 1 1 (Do (Clock 28800000)) ∷ made 1 3 1 (Do (Order (record { 0 = 0 }) Buy (Limit (record { 0 = 7 })) (record { 0 = 5 }))) ∷ [];
      stages = 1;
    })
unfolding script_on_literals
every_issue = refl

-- `*` is no fault of its own before a word that is no command
no_command : said (codes "g1 * foo" ∷ []) ≡ Err (At 1 1)
unfolding script_on_literals
no_command = refl

-- an order is for one issue, whatever stands behind it
order_for_all : said (codes "g1 * order p9" ∷ []) ≡ Err (At 1 3)
unfolding script_on_literals
order_for_all = refl

-- the gateway comes first, then the issue
gateway_first : said (codes "g9 ZZ foo" ∷ []) ≡ Err (At 1 4)
unfolding script_on_literals
gateway_first = refl

issue_next : said (codes "g1 ZZ foo" ∷ []) ≡ Err (At 1 3)
unfolding script_on_literals
issue_next = refl

-- the one word `barrier` ends a stage, also where a gateway has that name, and also the last line
barriers : said (codes "g1 * crash 2" ∷ codes " barrier " ∷ codes "barrier AAAA rejoin 0" ∷ codes "barrier" ∷ codes "barrier" ∷ codes "g1 BBBB show" ∷ codes "barrier" ∷ [])
    ≡ Ok (record { lines = made 1 1 0 (Do (Crash 2)) ∷ made 1 1 1 (Do (Crash 2)) ∷ made_in 1 2 3 0 (Do (Rejoin 0)) ∷ made_in 3 1 6 1 Show ∷ []; stages = 5 })
unfolding script_on_literals
barriers = refl

-- with a word behind it, it is a gateway's name
no_barrier : said (codes "barrier barrier" ∷ []) ≡ Err (At 1 3)
unfolding script_on_literals
no_barrier = refl

no_node : said (codes "g1 AAAA crash 3 x" ∷ []) ≡ Err (At 1 2)
unfolding script_on_literals
no_node = refl

which_node : said (codes "g1 * rejoin" ∷ []) ≡ Err (At 1 1)
unfolding script_on_literals
which_node = refl

unknown_participant : said (codes "g1 AAAA order p9 hold x x" ∷ []) ≡ Err (At 1 5)
unfolding script_on_literals
unknown_participant = refl

signed_price : said (codes "g1 AAAA order p1 buy +7 5" ∷ []) ≡ Err (At 1 2)
unfolding script_on_literals
signed_price = refl

extra_word : said (codes "g1 AAAA clock 08:00:00.000 x" ∷ []) ≡ Err (At 1 1)
unfolding script_on_literals
extra_word = refl

-- the bytes of a line come before its words
no_text : said ((103 ∷ 57 ∷ 32 ∷ 127 ∷ []) ∷ []) ≡ Err (At 1 9)
unfolding script_on_literals
no_text = refl

-- an order's own number counts all events of its gateway in its issue: here the moment is 0 and the order 1
changed : said (codes "g1 * clock 08:00:00" ∷ codes "g1 AAAA order p1 buy 7 5" ∷ codes "g1 AAAA change p2 1 market 3" ∷ codes "g1 AAAA cancel p1 1" ∷ [])
    ≡ Ok (record {
      lines = made 1 1 0 (Do (Clock 28800000)) ∷ made 1 1 1 (Do (Clock 28800000)) ∷ made 1 2 0 (Do (Order (record { 0 = 0 }) Buy (Limit (record { 0 = 7 })) (record { 0 = 5 })))
          ∷ made 1 3 0 (Do (Change (record { 0 = 1 }) 1 Market (record { 0 = 3 }))) ∷ made 1 4 0 (Do (Cancel (record { 0 = 0 }) 1)) ∷ [];
      stages = 1;
    })
unfolding script_on_literals
changed = refl

-- a read of the board is no event: the order behind it is the gateway's event 0 there
no_event : said (codes "g1 * show" ∷ codes "g1 BBBB order p1 buy 7 5" ∷ codes "g1 BBBB show" ∷ codes "g1 BBBB cancel p1 0" ∷ [])
    ≡ Ok (record {
      lines = made 1 1 0 Show ∷ made 1 1 1 Show ∷ made 1 2 1 (Do (Order (record { 0 = 0 }) Buy (Limit (record { 0 = 7 })) (record { 0 = 5 }))) ∷ made 1 3 1 Show ∷ made 1 4 1 (Do (Cancel (record { 0 = 0 }) 0)) ∷ [];
      stages = 1;
    })
unfolding script_on_literals
no_event = refl

no_order_yet : said (codes "g1 AAAA cancel p1 0" ∷ codes "g1 AAAA order p1 buy 7 5" ∷ []) ≡ Err (At 1 6)
unfolding script_on_literals
no_order_yet = refl

-- the event of this number is a moment
own_of_a_moment : said (codes "g1 AAAA clock 08:00:00" ∷ codes "g1 AAAA order p1 buy 7 5" ∷ codes "g1 AAAA cancel p1 0" ∷ []) ≡ Err (At 3 6)
unfolding script_on_literals
own_of_a_moment = refl

-- the order is another gateway's
own_of_another : said (codes "g1 AAAA order p1 buy 7 5" ∷ codes "barrier AAAA cancel p1 0" ∷ []) ≡ Err (At 2 6)
unfolding script_on_literals
own_of_another = refl

-- the own number comes before the kind
own_first : said (codes "g1 AAAA change p1 0 x x" ∷ []) ≡ Err (At 1 6)
unfolding script_on_literals
own_first = refl
