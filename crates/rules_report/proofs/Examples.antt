-- Worked examples: what is printed of a round, of a session, of an issue and of faults.
use Rattle.std.specs.Prelude.{◌≡◌, ◌∷◌, [], codes, refl}
use Rattle.std.specs.Fmt.{digits}
use Rattle.mkt_base.specs.Text.{line}
use Rattle.allotment.specs.declared.round.Round.TheVariants.{Units, Part, All}
use Rattle.rules_file.specs.declared.fault.RulesFault.TheVariants.{BadPhases, GridTooLarge, Memory, NotToml, RowsOutOfOrder, Twice}
use Rattle.rules_report.specs.FaultLine.{fault_line}
use Rattle.rules_report.specs.Tables.{issue_words, round_line, session_line}

three_units : round_line (Units 3) ≡ line (codes "round units 3" ∷ [])
unfolding digits
three_units = refl

a_third : round_line (Part 1 3) ≡ line (codes "round part 1 3" ∷ [])
unfolding digits
a_third = refl

all_the_rest : round_line All ≡ line (codes "round all" ∷ [])
all_the_rest = refl

a_morning : session_line (record { accept = 28800000; begin = 32400000; finish = 41400000 }) ≡ line (codes "session 08:00:00.000 09:00:00.000 11:30:00.000" ∷ [])
a_morning = refl

an_issue : line (issue_words (record { base = record { 0 = 20000 }; unit = 100; low = record { 0 = 15000 }; high = record { 0 = 25000 }; prices = 1001 }))
    ≡ line (codes "base 20000 unit 100 low 15000 high 25000 prices 1001" ∷ [])
unfolding digits
an_issue = refl

no_document : fault_line NotToml ≡ line (codes "rules 1" ∷ [])
unfolding digits
no_document = refl

a_row : fault_line (RowsOutOfOrder (codes "ticks") 2) ≡ line (codes "rules 4 ticks 2" ∷ [])
unfolding digits
a_row = refl

a_grid : fault_line (GridTooLarge (codes "AAAA") 82400) ≡ line (codes "rules 6 AAAA 82400" ∷ [])
unfolding digits
a_grid = refl

a_session : fault_line (BadPhases 1) ≡ line (codes "rules 7 1" ∷ [])
unfolding digits
a_session = refl

a_name : fault_line (Twice (codes "p1")) ≡ line (codes "rules 10 p1" ∷ [])
unfolding digits
a_name = refl

no_memory : fault_line Memory ≡ line (codes "memory" ∷ [])
no_memory = refl
