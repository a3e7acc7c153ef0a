-- How the lines of a report are read.
use Rattle.std.specs.Prelude.{ℕ, List, [], ◌∷◌, position, Option, Some, None, Result, Ok, Err, if◌then◌else◌, slice_index, codes}
use Rattle.std.specs.Option.{ok_or}
use Rattle.std.specs.Str.{bytes_eq}
use Rattle.mkt_base.specs.declared.event.Event.{Event}
use Rattle.mkt_base.specs.declared.event.Event.TheVariants as events
use Rattle.mkt_base.specs.declared.units.Caller.{Caller}
use Rattle.mkt_io.specs.LineFault.{◌>>=◌, next_number, wanted}
use Rattle.mkt_io.specs.Words.{is_digit, words}
use Rattle.mkt_io.specs.declared.fault.LineFault.{LineFault}
use Rattle.mkt_io.specs.declared.fault.LineFault.TheVariants.{Word, Issue}
use Rattle.rules_file.specs.Rules.{codes_in}
use Rattle.rules_file.specs.declared.rules.Rules.{Rules}
use Rattle.script_file.specs.Words.{gateway_of, next_kind, next_moment, next_node, next_participant, next_side}
use Rattle.audit.specs.Told.{At, Going, Halted, Showing, Over, Choice, Enter, Stop, Close, Show, Finish, may, next}
use Rattle.audit.specs.declared.told.Asked.{Asked}

-- ---- the words of an event

unfoldable pub order_words : Rules → List (List ℕ) → Result Event LineFault
order_words rules words = do
  participant ← next_participant rules words
  side ← next_side participant.1
  kind ← next_kind side.1
  quantity ← next_number 0 4294967295 kind.1
  Ok (events.Order participant.0 side.0 kind.0 (record { 0 = quantity.0 }))

unfoldable pub change_words : Rules → List (List ℕ) → Result Event LineFault
change_words rules words = do
  participant ← next_participant rules words
  target ← next_number 0 4294967295 participant.1
  kind ← next_kind target.1
  quantity ← next_number 0 4294967295 kind.1
  Ok (events.Change participant.0 target.0 kind.0 (record { 0 = quantity.0 }))

unfoldable pub cancel_words : Rules → List (List ℕ) → Result Event LineFault
cancel_words rules words = do
  participant ← next_participant rules words
  target ← next_number 0 4294967295 participant.1
  Ok (events.Cancel participant.0 target.0)

unfoldable pub clock_words : List (List ℕ) → Result Event LineFault
clock_words words = do
  moment ← next_moment words
  Ok (events.Clock moment.0)

unfoldable pub crash_words : List (List ℕ) → Result Event LineFault
crash_words words = do
  node ← next_node words
  Ok (events.Crash node.0)

unfoldable pub rejoin_words : List (List ℕ) → Result Event LineFault
rejoin_words words = do
  node ← next_node words
  Ok (events.Rejoin node.0)

-- an event, by its first word
abbrev pub event_words : Rules → List ℕ → List (List ℕ) → Result Event LineFault
event_words rules word words =
    if bytes_eq word (codes "order") then order_words rules words
    else (if bytes_eq word (codes "change") then change_words rules words
    else (if bytes_eq word (codes "cancel") then cancel_words rules words
    else (if bytes_eq word (codes "clock") then clock_words words
    else (if bytes_eq word (codes "crash") then crash_words words
    else (if bytes_eq word (codes "rejoin") then rejoin_words words else Err Word)))))

unfoldable pub next_event : Rules → List (List ℕ) → Result Event LineFault
next_event rules words = do
  word ← wanted words
  event_words rules word.0 word.1

-- ---- the words of a line

-- a gateway by its name, or the system by a dash
unfoldable pub caller_of : Rules → List ℕ → Result Caller LineFault
caller_of rules word = if bytes_eq word (codes "-") then Ok (record { 0 = 0 }) else gateway_of rules word

unfoldable pub next_caller : Rules → List (List ℕ) → Result (Caller × List (List ℕ)) LineFault
next_caller rules words = do
  word ← wanted words
  caller ← caller_of rules word.0
  Ok (caller, word.1)

-- CALLER OWN EVENT, where OWN may be any word: which it has to be is known
unfoldable pub caller_event : (Caller → Event → Choice) → Rules → List (List ℕ) → Result Choice LineFault
caller_event choice rules words = do
  caller ← next_caller rules words
  own ← wanted caller.1
  event ← next_event rules own.1
  Ok (choice caller.0 event)

unfoldable pub next_gateway : Rules → List (List ℕ) → Result (Caller × List (List ℕ)) LineFault
next_gateway rules words = do
  word ← wanted words
  gateway ← gateway_of rules word.0
  Ok (gateway, word.1)

unfoldable pub next_issue : Rules → List (List ℕ) → Result (ℕ × List (List ℕ)) LineFault
next_issue rules words = do
  word ← wanted words
  issue ← ok_or (position (bytes_eq word.0) (codes_in rules)) Issue
  Ok (issue, word.1)

-- LINE GATEWAY CODE LENGTH, and what the board showed, which is known
unfoldable pub asked_words : Rules → List (List ℕ) → Result Asked LineFault
asked_words rules words = do
  line ← next_number 0 4294967295 words
  gateway ← next_gateway rules line.1
  issue ← next_issue rules gateway.1
  entries ← next_number 0 4294967295 issue.1
  Ok (record { line = line.0; gateway = gateway.0; issue = issue.0; length = entries.0 })

-- a read of a board as a choice
abbrev pub shown_by : Result Asked LineFault → Result Choice LineFault
shown_by asked = asked >>= λ a. Ok (Show a)

-- what the words behind the first one of a line tell at a point, where they tell something
abbrev pub choice_words : Rules → At → List ℕ → List (List ℕ) → Result Choice LineFault
choice_words rules (Going done journal) word words =
    if is_digit (slice_index word 0) then caller_event Enter rules words
    else (if bytes_eq word (codes "halted") then caller_event Stop rules words
    else (if bytes_eq word (codes "nodes") then Ok Close else Err Word))
choice_words rules (Halted done journal halt) word words = if bytes_eq word (codes "nodes") then Ok Close else Err Word
choice_words rules (Showing done asked) word words =
    if bytes_eq word (codes "show") then shown_by (asked_words rules words)
    else (if bytes_eq word (codes "end") then Ok Finish else Err Word)
choice_words rules (Over done asked) word words = Err Word

-- what words that tell something come to: a choice, where it may be taken
abbrev pub taken : Rules → At → Result Choice LineFault → Option Choice
taken rules at (Ok choice) = if may rules at choice then Some choice else None
taken rules at (Err fault) = None

-- the choice that the words of a line tell
abbrev pub choice_in : Rules → At → List (List ℕ) → Option Choice
choice_in rules at [] = None
choice_in rules at (word ∷ more) = taken rules at (choice_words rules at word more)

abbrev pub read : Rules → At → List ℕ → Option Choice
read rules at line = choice_in rules at (words line)

-- with a choice, where there is one
abbrev pub with_choice : Rules → At → Option Choice → At
with_choice rules at None = at
with_choice rules at (Some choice) = next rules at choice

-- what is told with lines more; the lines that tell no choice are skipped
abbrev pub scanned : Rules → At → List (List ℕ) → At
scanned rules at [] = at
scanned rules at (line ∷ more) = scanned rules (with_choice rules at (read rules at line)) more
