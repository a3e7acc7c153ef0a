-- Worked examples: a script of two gateways, and the journal that it makes in file order.
use Rattle.std.specs.Prelude.{◌≡◌, ℕ, List, [], ◌∷◌, refl}
use Rattle.mkt_base.specs.declared.event.Entry.{Entry}
use Rattle.mkt_base.specs.declared.event.Event.TheVariants as events
use Rattle.mkt_base.specs.declared.script.Act.{Act}
use Rattle.mkt_base.specs.declared.script.Act.TheVariants.{Do, Show}
use Rattle.script_file.specs.declared.script.GatewayScriptLine.{GatewayScriptLine}
use Rattle.run_law.specs.Replayed.{Call, calls_for, calls_in, lines_before}
use Rattle.run_law.specs.Run.{count_of, entered_by, events_for, made_before, stages_for, stages_in}

abbrev line_of : ℕ → ℕ → ℕ → ℕ → Act → GatewayScriptLine
line_of gateway number stage issue act = record { gateway = record { 0 = gateway }; line = record { line = number; stage = stage; issue = issue; act = act } }

-- g1 sets the clock of both issues; in the next stage g2 crashes a node of the first, reads its board, and g1 sets the clock again
abbrev script : List GatewayScriptLine
script =
    line_of 1 1 0 0 (Do (events.Clock 100)) ∷ line_of 1 1 0 1 (Do (events.Clock 100)) ∷ line_of 2 3 1 0 (Do (events.Crash 1)) ∷ line_of 2 4 1 0 Show
    ∷ line_of 1 5 1 0 (Do (events.Clock 200)) ∷ []

abbrev entry : ℕ → ℕ → ℕ → ℕ → Entry
entry place caller own at = record { place = place; caller = record { 0 = caller }; own = own; event = events.Clock at }

-- the first issue's journal, in which the system records the loss of a node
abbrev journal : List Entry
journal =
    entry 0 1 0 100 ∷ record { place = 1; caller = record { 0 = 0 }; own = 0; event = events.Crash 0 } ∷ record { place = 2; caller = record { 0 = 2 }; own = 0; event = events.Crash 1 } ∷ entry 3 1 1 200 ∷ []

abbrev call : ℕ → ℕ → Call
call gateway at = record { gateway = gateway; event = events.Clock at }

a_read_is_no_event : stages_for 0 2 script ≡ 1 ∷ []
a_read_is_no_event = refl

events_of_a_gateway : events_for 0 1 script ≡ events.Clock 100 ∷ events.Clock 200 ∷ []
events_of_a_gateway = refl

of_the_other_issue : events_for 1 1 script ≡ events.Clock 100 ∷ []
of_the_other_issue = refl

stages_of_a_gateway : stages_for 0 1 script ≡ 0 ∷ 1 ∷ []
stages_of_a_gateway = refl

-- the system's entry has no stage of its own
stages_of_the_journal : stages_in 0 script journal ≡ 0 ∷ 1 ∷ 1 ∷ []
stages_of_the_journal = refl

entered_in_the_journal : entered_by 1 journal ≡ events.Clock 100 ∷ events.Clock 200 ∷ []
entered_in_the_journal = refl

one_of_the_second : count_of 2 journal ≡ 1
one_of_the_second = refl

calls_of_the_issue : calls_for 0 script ≡ call 1 100 ∷ record { gateway = 2; event = events.Crash 1 } ∷ call 1 200 ∷ []
calls_of_the_issue = refl

the_journal_has_them : calls_in journal ≡ calls_for 0 script
the_journal_has_them = refl

before_the_read : calls_for 0 (lines_before 4 script) ≡ call 1 100 ∷ record { gateway = 2; event = events.Crash 1 } ∷ []
before_the_read = refl

its_gateway_made_one_before : made_before 0 2 4 script ≡ 1
its_gateway_made_one_before = refl

the_other_made_one_too : made_before 0 1 4 script ≡ 1
the_other_made_one_too = refl
