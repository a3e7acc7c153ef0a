-- Worked examples: the definitions compute to what a reader of the rules would say.
use Rattle.std.specs.Prelude.{⊤, ◌≡◌, ℕ, List, [], ◌∷◌, ◌++◌, flat_map, Ok, Err, refl, codes}
use Rattle.std.specs.Str.{chars, is_utf8}
use Rattle.toml.proofs.OnLiterals.{toml_on_literals}
use Rattle.mkt_io.specs.Time.{digit_of, millis_of, part_at, time_of, two_at}
use Rattle.mkt_io.specs.Words.{number_of}
use Rattle.tick_grid.specs.Rows.{grid_of, prices_on_tick}
use Rattle.allotment.specs.declared.round.Round.TheVariants.{Units, Part, All}
use Rattle.rules_file.specs.Forms.{amount_of, band_row, document_of, integer_at, integer_in, is_empty_list, is_name, items_in, name_row, number_within, part_of, round_of, round_row, row_of, session_row, tick_row, time_at, units_of}
use Rattle.rules_file.specs.Keys.{band_row_fails, bands_at, checked, checked_rows, few, formed, listed, names_at, round_fails, rounds_at, rows_at, session_fails, sessions_at, stands_earlier, tick_row_fails, ticks_at, wanted}
use Rattle.rules_file.specs.Issues.{issue_grid, issue_of, issues_at, issues_of, new_code, on_tick, with_grid}
use Rattle.rules_file.specs.Rules.{millis_at, rules_in, rules_of}
use Rattle.rules_file.specs.declared.fault.RulesFault.TheVariants.{BadNumber, BadPhases, BadRounds, MissingKey, NotToml, OffTick, RowsOutOfOrder, Twice}
use Rattle.rules_file.specs.declared.rules.Rules.{Rules}

-- what the examples unfold
unfoldable rules_on_literals : ⊤
unfolding toml_on_literals is_utf8 chars digit_of millis_of part_at time_of two_at number_of grid_of prices_on_tick amount_of band_row document_of integer_at integer_in is_empty_list is_name items_in name_row number_within part_of round_of round_row row_of session_row tick_row time_at units_of band_row_fails bands_at checked checked_rows few formed listed names_at round_fails rounds_at rows_at session_fails sessions_at stands_earlier tick_row_fails ticks_at wanted issue_grid issue_of issues_at issues_of new_code on_tick with_grid millis_at rules_in
rules_on_literals = tt

-- lines of text, each ended
abbrev text : List (List ℕ) → List ℕ
text lines = flat_map (λ line. line ++ 10 ∷ []) lines

abbrev special : List ℕ
special = codes "special_ms = 180000"

abbrev sequential : List ℕ
sequential = codes "sequential_ms = 60000"

abbrev ticks : List ℕ
ticks = codes "ticks = [[30000, 10], [1000000000, 50]]"

abbrev limits : List ℕ
limits = codes "limits = [[15000, 3000], [20000, 4000], [30000, 5000], [1000000001, 7000]]"

abbrev ranges : List ℕ
ranges = codes "ranges = [[15000, 300], [20000, 400], [30000, 500], [1000000001, 700]]"

abbrev sessions : List ℕ
sessions = codes "sessions = [[\"08:00:00\", \"09:00:00\", \"11:30:00\"], [\"12:05:00\", \"12:30:00\", \"15:00:00\"]]"

abbrev rounds : List ℕ
rounds = codes "rounds = [\"1u\", \"1/3\", \"1/2\", \"all\"]"

abbrev participants : List ℕ
participants = codes "participants = [\"p1\", \"p2\", \"p3\", \"p4\", \"p5\", \"p6\", \"p7\", \"p8\"]"

abbrev gateways : List ℕ
gateways = codes "gateways = [\"g1\", \"g2\", \"g3\", \"g4\"]"

-- the lines of an issue, behind an empty one
abbrev issue : List ℕ → List ℕ → List (List ℕ)
issue code base = [] ∷ codes "[[issue]]" ∷ code ∷ base ∷ codes "unit = 100" ∷ []

-- the lines of a file with these ticks, sessions and rounds
abbrev head : List ℕ → List ℕ → List ℕ → List (List ℕ)
head with_ticks with_sessions with_rounds = special ∷ sequential ∷ with_ticks ∷ limits ∷ ranges ∷ with_sessions ∷ with_rounds ∷ participants ∷ gateways ∷ []

-- a file of two issues
abbrev sample : List ℕ
sample = text (head ticks sessions rounds ++ issue (codes "code = \"AAAA\"") (codes "base = 20000") ++ issue (codes "code = \"BBBB\"") (codes "base = 12000"))

-- the same without the second issue, and with this code and base in the first
abbrev one : List ℕ → List ℕ → List ℕ
one code base = text (head ticks sessions rounds ++ issue code base)

an_empty_file : rules_of [] ≡ Err (MissingKey (codes "special_ms"))
unfolding rules_on_literals
an_empty_file = refl

no_document : rules_of (codes "special_ms = ") ≡ Err NotToml
unfolding rules_on_literals
no_document = refl

-- an empty list is missing, also where no list is wanted
an_empty_list : rules_of (text (codes "special_ms = []" ∷ [])) ≡ Err (MissingKey (codes "special_ms"))
unfolding rules_on_literals
an_empty_list = refl

a_float : rules_of (text (codes "special_ms = 1.5" ∷ [])) ≡ Err (BadNumber (codes "special_ms"))
unfolding rules_on_literals
a_float = refl

-- the whole file
abbrev said : Rules
said = record {
  special_ms = 180000;
  sequential_ms = 60000;
  ticks = record { upto = 30000; tick = 10 } ∷ record { upto = 1000000000; tick = 50 } ∷ [];
  limits = record { below = 15000; value = 3000 } ∷ record { below = 20000; value = 4000 } ∷ record { below = 30000; value = 5000 } ∷ record { below = 1000000001; value = 7000 } ∷ [];
  ranges = record { below = 15000; value = 300 } ∷ record { below = 20000; value = 400 } ∷ record { below = 30000; value = 500 } ∷ record { below = 1000000001; value = 700 } ∷ [];
  sessions = record { accept = 28800000; begin = 32400000; finish = 41400000 } ∷ record { accept = 43500000; begin = 45000000; finish = 54000000 } ∷ [];
  rounds = Units 1 ∷ Part 1 3 ∷ Part 1 2 ∷ All ∷ [];
  participants = codes "p1" ∷ codes "p2" ∷ codes "p3" ∷ codes "p4" ∷ codes "p5" ∷ codes "p6" ∷ codes "p7" ∷ codes "p8" ∷ [];
  gateways = codes "g1" ∷ codes "g2" ∷ codes "g3" ∷ codes "g4" ∷ [];
  issues = record {
    codes = codes "AAAA" ∷ codes "BBBB" ∷ [];
    rules = record { base = record { 0 = 20000 }; unit = 100; low = record { 0 = 15000 }; high = record { 0 = 25000 }; prices = 1001 }
        ∷ record { base = record { 0 = 12000 }; unit = 100; low = record { 0 = 9000 }; high = record { 0 = 15000 }; prices = 601 } ∷ [];
  };
}

the_sample : rules_of sample ≡ Ok said
unfolding rules_on_literals
the_sample = refl

-- 30000 is no multiple of 70
a_bound_off_its_tick : rules_of (text (head (codes "ticks = [[30000, 10], [1000000000, 70]]") sessions rounds)) ≡ Err (RowsOutOfOrder (codes "ticks") 1)
unfolding rules_on_literals
a_bound_off_its_tick = refl

-- the form of all rows comes before the order of the first
a_form_before_the_order : rules_of (text (head (codes "ticks = [[30000, 7], [1000000000, 0]]") sessions rounds)) ≡ Err (BadNumber (codes "ticks"))
unfolding rules_on_literals
a_form_before_the_order = refl

a_session_that_stands_still : rules_of (text (head ticks (codes "sessions = [['09:00:00', '09:00:00', '11:30:00']]") rounds)) ≡ Err (BadPhases 1)
unfolding rules_on_literals
a_session_that_stands_still = refl

all_in_front : rules_of (text (head ticks sessions (codes "rounds = ['all', '1u']"))) ≡ Err (BadRounds 1)
unfolding rules_on_literals
all_in_front = refl

no_all_at_the_end : rules_of (text (head ticks sessions (codes "rounds = ['1u']"))) ≡ Err (BadRounds 1)
unfolding rules_on_literals
no_all_at_the_end = refl

no_issue : rules_of (text (head ticks sessions rounds)) ≡ Err (MissingKey (codes "issue"))
unfolding rules_on_literals
no_issue = refl

a_base_off_tick : rules_of (one (codes "code = \"AAAA\"") (codes "base = 20005")) ≡ Err (OffTick (codes "AAAA"))
unfolding rules_on_literals
a_base_off_tick = refl

a_long_code : rules_of (one (codes "code = 'AAAAAAAAA'") (codes "base = 20000")) ≡ Err (BadNumber (codes "issue.code"))
unfolding rules_on_literals
a_long_code = refl

the_same_code : rules_of (text (head ticks sessions rounds ++ issue (codes "code = \"AAAA\"") (codes "base = 20000") ++ issue (codes "code = \"AAAA\"") (codes "base = 12000"))) ≡ Err (Twice (codes "AAAA"))
unfolding rules_on_literals
the_same_code = refl
