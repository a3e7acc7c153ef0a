-- The words of a gateway's line, from left to right.
use Rattle.std.specs.Prelude.{ℕ, ◌+◌, ◌<◌, ◌≤◌, List, length, position, Result, Ok, Err, if◌then◌else◌, codes}
use Rattle.std.specs.Option.{ok_or}
use Rattle.std.specs.Str.{bytes_eq}
use Rattle.mkt_base.specs.declared.units.Caller.{Caller}
use Rattle.mkt_base.specs.declared.units.Participant.{Participant}
use Rattle.mkt_base.specs.declared.order.Kind.{Kind}
use Rattle.mkt_base.specs.declared.order.Kind.TheVariants.{Market, Limit}
use Rattle.mkt_base.specs.declared.order.Side.{Side}
use Rattle.mkt_io.specs.LineFault.{◌>>=◌, next_number, number_in, side_of, wanted}
use Rattle.mkt_io.specs.Time.{time_of}
use Rattle.mkt_io.specs.declared.fault.LineFault.{LineFault}
use Rattle.mkt_io.specs.declared.fault.LineFault.TheVariants.{Number, Issue, Gateway, Own, Participant as NoParticipant}
use Rattle.rules_file.specs.Rules.{codes_in, gateways_in, issues_in, participants_in}
use Rattle.rules_file.specs.declared.rules.Rules.{Rules}
use Rattle.script_file.specs.Own.{is_order_of}
use Rattle.script_file.specs.declared.script.GatewayScriptLine.{GatewayScriptLine}
use Rattle.script_file.specs.declared.words.Issues.{Issues}
use Rattle.script_file.specs.declared.words.Issues.TheVariants.{One, Each}

-- the caller that a gateway is: the n-th gateway of the rules is caller n, counted from 1
unfoldable pub gateway_of : Rules → List ℕ → Result Caller LineFault
gateway_of rules word = ok_or (position (bytes_eq word) (gateways_in rules)) Gateway >>= λ number. Ok (record { 0 = number + 1 })

-- the issue of a code, or every issue by `*`
unfoldable pub issues_of : Rules → List ℕ → Result Issues LineFault
issues_of rules word =
    if bytes_eq word (codes "*") then Ok Each
    else (ok_or (position (bytes_eq word) (codes_in rules)) Issue >>= λ number. Ok (One number))

-- the issues that the next word names, and the words after it
unfoldable pub next_issues : Rules → List (List ℕ) → Result (Issues × List (List ℕ)) LineFault
next_issues rules words = do
  word ← wanted words
  issues ← issues_of rules word.0
  Ok (issues, word.1)

-- the participant that the next word names, and the words after it
unfoldable pub next_participant : Rules → List (List ℕ) → Result (Participant × List (List ℕ)) LineFault
next_participant rules words = do
  word ← wanted words
  number ← ok_or (position (bytes_eq word.0) (participants_in rules)) NoParticipant
  Ok (record { 0 = number }, word.1)

-- the side that the next word names, and the words after it
unfoldable pub next_side : List (List ℕ) → Result (Side × List (List ℕ)) LineFault
next_side words = do
  word ← wanted words
  side ← side_of word.0
  Ok (side, word.1)

-- `market`, or any number word as the limit price: the market refuses a bad one, and not the file
unfoldable pub kind_of : List ℕ → Result Kind LineFault
kind_of word =
    if bytes_eq word (codes "market") then Ok Market
    else (number_in 0 4294967295 word >>= λ price. Ok (Limit (record { 0 = price })))

-- the kind that the next word says, and the words after it
unfoldable pub next_kind : List (List ℕ) → Result (Kind × List (List ℕ)) LineFault
next_kind words = do
  word ← wanted words
  kind ← kind_of word.0
  Ok (kind, word.1)

-- the moment that the next word says, and the words after it
unfoldable pub next_moment : List (List ℕ) → Result (ℕ × List (List ℕ)) LineFault
next_moment words = do
  word ← wanted words
  moment ← ok_or (time_of word.0) Number
  Ok (moment, word.1)

-- the node that the next word says, 0 to 2, and the words after it
unfoldable pub next_node : List (List ℕ) → Result (ℕ × List (List ℕ)) LineFault
next_node words = next_number 0 2 words

-- the own number that the next word says, which is that of an earlier order of the gateway in the issue, and the words after
-- it
unfoldable pub next_own : List GatewayScriptLine → Caller → ℕ → List (List ℕ) → Result (ℕ × List (List ℕ)) LineFault
next_own made gateway issue words = do
  own ← next_number 0 4294967295 words
  if is_order_of made gateway issue own.0 then Ok own else Err Own

-- what holds of the gateway of a line: it is a gateway of the rules, counted from 1
abbrev pub IsGateway : Rules → Caller → Type 0
IsGateway rules gateway = (1 ≤ gateway.0) × (gateway.0 ≤ length (gateways_in rules))

-- what holds of the issues of a line: they are issues of the rules
abbrev pub AreIssues : Rules → Issues → Type 0
AreIssues rules (One issue) = issue < length (issues_in rules)
AreIssues rules Each = Unit {0}
