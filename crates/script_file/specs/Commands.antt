-- The commands of a gateway, each with the words that follow it.
use Rattle.std.specs.Prelude.{ℕ, ◌<◌, List, length, Result, Ok, Err, if◌then◌else◌, codes}
use Rattle.std.specs.Str.{bytes_eq}
use Rattle.mkt_base.specs.declared.event.Event.{Event}
use Rattle.mkt_base.specs.declared.event.Event.TheVariants as events
use Rattle.mkt_base.specs.declared.script.Act.{Act}
use Rattle.mkt_base.specs.declared.script.Act.TheVariants.{Do}
use Rattle.mkt_base.specs.declared.script.Act.TheVariants as acts
use Rattle.mkt_base.specs.declared.units.Caller.{Caller}
use Rattle.mkt_io.specs.LineFault.{◌>>=◌, next_number, no_more, wanted}
use Rattle.mkt_io.specs.declared.fault.LineFault.{LineFault}
use Rattle.mkt_io.specs.declared.fault.LineFault.TheVariants.{Word, Issue}
use Rattle.rules_file.specs.Rules.{participants_in}
use Rattle.rules_file.specs.declared.rules.Rules.{Rules}
use Rattle.script_file.specs.Words.{next_kind, next_moment, next_node, next_own, next_participant, next_side}
use Rattle.script_file.specs.declared.commands.Command.{Command}
use Rattle.script_file.specs.declared.commands.Command.TheVariants.{Order, Change, Cancel, Clock, Crash, Rejoin, Show}
use Rattle.script_file.specs.declared.script.GatewayScriptLine.{GatewayScriptLine}
use Rattle.script_file.specs.declared.words.Issues.{Issues}
use Rattle.script_file.specs.declared.words.Issues.TheVariants.{One, Each}

-- the command of a word
abbrev pub command_of : List ℕ → Result Command LineFault
command_of word =
    if bytes_eq word (codes "order") then Ok Order
    else (if bytes_eq word (codes "change") then Ok Change
    else (if bytes_eq word (codes "cancel") then Ok Cancel
    else (if bytes_eq word (codes "clock") then Ok Clock
    else (if bytes_eq word (codes "crash") then Ok Crash
    else (if bytes_eq word (codes "rejoin") then Ok Rejoin
    else (if bytes_eq word (codes "show") then Ok Show else Err Word))))))

-- the command that the next word names, and the words after it
unfoldable pub next_command : List (List ℕ) → Result (Command × List (List ℕ)) LineFault
next_command words = do
  word ← wanted words
  command ← command_of word.0
  Ok (command, word.1)

-- after `order`: P buy K QTY, or P sell K QTY
unfoldable pub order_words : Rules → List (List ℕ) → Result Act LineFault
order_words rules words = do
  participant ← next_participant rules words
  side ← next_side participant.1
  kind ← next_kind side.1
  quantity ← next_number 0 4294967295 kind.1
  end ← no_more quantity.1
  Ok (Do (events.Order participant.0 side.0 kind.0 (record { 0 = quantity.0 })))

-- after `change`: P OWN K QTY, where OWN is an earlier order of the gateway in the issue
unfoldable pub change_words : Rules → List GatewayScriptLine → Caller → ℕ → List (List ℕ) → Result Act LineFault
change_words rules made gateway issue words = do
  participant ← next_participant rules words
  own ← next_own made gateway issue participant.1
  kind ← next_kind own.1
  quantity ← next_number 0 4294967295 kind.1
  end ← no_more quantity.1
  Ok (Do (events.Change participant.0 own.0 kind.0 (record { 0 = quantity.0 })))

-- after `cancel`: P OWN, where OWN is an earlier order of the gateway in the issue
unfoldable pub cancel_words : Rules → List GatewayScriptLine → Caller → ℕ → List (List ℕ) → Result Act LineFault
cancel_words rules made gateway issue words = do
  participant ← next_participant rules words
  own ← next_own made gateway issue participant.1
  end ← no_more own.1
  Ok (Do (events.Cancel participant.0 own.0))

-- after `clock`: TIME
unfoldable pub clock_words : List (List ℕ) → Result Act LineFault
clock_words words = do
  moment ← next_moment words
  end ← no_more moment.1
  Ok (Do (events.Clock moment.0))

-- after `crash`: NODE
unfoldable pub crash_words : List (List ℕ) → Result Act LineFault
crash_words words = do
  node ← next_node words
  end ← no_more node.1
  Ok (Do (events.Crash node.0))

-- after `rejoin`: NODE
unfoldable pub rejoin_words : List (List ℕ) → Result Act LineFault
rejoin_words words = do
  node ← next_node words
  end ← no_more node.1
  Ok (Do (events.Rejoin node.0))

-- after `show`: nothing
unfoldable pub show_words : List (List ℕ) → Result Act LineFault
show_words words = do
  end ← no_more words
  Ok acts.Show

-- what the words after a command of a gateway say, after the lines made so far: an order, a change and a cancellation are
-- for one issue
abbrev pub act_words : Rules → List GatewayScriptLine → Caller → Issues → Command → List (List ℕ) → Result Act LineFault
act_words rules made gateway (One issue) Order words = order_words rules words
act_words rules made gateway (One issue) Change words = change_words rules made gateway issue words
act_words rules made gateway (One issue) Cancel words = cancel_words rules made gateway issue words
act_words rules made gateway Each Order words = Err Issue
act_words rules made gateway Each Change words = Err Issue
act_words rules made gateway Each Cancel words = Err Issue
act_words rules made gateway issues Clock words = clock_words words
act_words rules made gateway issues Crash words = crash_words words
act_words rules made gateway issues Rejoin words = rejoin_words words
act_words rules made gateway issues Show words = show_words words

-- what holds of an event of a script: its participant is one of the rules, its moment is of the day, its node is one of the three
abbrev pub IsEventOf : Rules → Event → Type 0
IsEventOf rules (events.Order participant side kind qty) = participant.0 < length (participants_in rules)
IsEventOf rules (events.Change participant target kind qty) = participant.0 < length (participants_in rules)
IsEventOf rules (events.Cancel participant target) = participant.0 < length (participants_in rules)
IsEventOf rules (events.Clock at) = at < 86400000
IsEventOf rules (events.Crash node) = node < 3
IsEventOf rules (events.Rejoin node) = node < 3

-- what holds of what a line of a script does
abbrev pub IsActOf : Rules → Act → Type 0
IsActOf rules (Do event) = IsEventOf rules event
IsActOf rules acts.Show = Unit {0}
