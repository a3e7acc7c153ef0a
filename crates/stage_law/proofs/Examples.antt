-- Worked examples: a gateway of two stages, whose last event finds the issue without a node.
use Rattle.std.proofs.Common.{◌≡◌, ℕ, zero, suc, ◌≤◌, true, false, All, List, [], ◌∷◌, length, take, Some, None, Ok, Err, refl, sym, ap, arith}
use Rattle.std.proofs.lemmas.Bool.{false≢true, true≢false}
use Rattle.std.proofs.lemmas.List.Elements.{All-from_recursion}
use Rattle.std.proofs.lemmas.Option.{none-some, same_Some}
use Rattle.mkt_base.specs.declared.event.Entry.{Entry}
use Rattle.mkt_base.specs.declared.event.Event.TheVariants.{Clock}
use Rattle.mkt_base.specs.declared.event.Phase.TheVariants.{Idle}
use Rattle.mkt_base.specs.declared.event.Reply.TheVariants.{Moment}
use Rattle.mkt_base.specs.declared.journal.Halt.{Halt}
use Rattle.mkt_base.specs.declared.journal.Stopped.{Stopped}
use Rattle.mkt_base.specs.declared.journal.TurnStop.TheVariants.{NoNode}
use Rattle.mkt_base.specs.declared.quote.Board.{Board}
use Rattle.mkt_base.specs.declared.script.Act.{Act}
use Rattle.mkt_base.specs.declared.script.Act.TheVariants.{Do, Show}
use Rattle.mkt_base.specs.declared.script.ScriptLine.{ScriptLine}
use Rattle.script_file.specs.declared.script.GatewayScriptLine.{GatewayScriptLine}
use Rattle.gateway.specs.Ran.{Deed}
use Rattle.gateway.specs.Served.{Answer, Entered, Shown, act_of, first_stop, is_no_node, lengths_shown, made_by}
use Rattle.gateway.proofs.Pairs.{pairs-one}
use Rattle.run_report.specs.declared.ended.EndedIssue.{EndedIssue}
use Rattle.run_law.specs.Run.{count_of}
use Rattle.run_law.proofs.RunLemmas.{pairs-all}
use Rattle.stage_law.specs.Come.{Cut, IsReadWithin, answers_of, cut_at, done_before, entered_in}
use Rattle.stage_law.specs.Played.{HasPlayed, HasPlayedLines, bare, deeds_at, lines_at, lines_by, lines_done}

abbrev line : ℕ → ℕ → ℕ → Act → ScriptLine
line number stage issue act = record { line = number; stage = stage; issue = issue; act = act }

abbrev by_gateway : ℕ → ScriptLine → GatewayScriptLine
by_gateway g l = record { gateway = record { 0 = g }; line = l }

-- g1 sets the clock and reads the board; g2 sets the clock of another issue; in the next stage g1 sets the clock again
abbrev script : List GatewayScriptLine
script = by_gateway 1 (line 1 0 0 (Do (Clock 100))) ∷ by_gateway 1 (line 2 0 0 Show) ∷ by_gateway 2 (line 3 0 1 (Do (Clock 100))) ∷ by_gateway 1 (line 5 1 0 (Do (Clock 200))) ∷ []

abbrev board : ℕ → Board
board n = record { length = n; phase = Idle; last = record { 0 = 500 }; quote = None; bid = None; ask = None }

abbrev set_clock : Deed
set_clock = record { line = line 1 0 0 (Do (Clock 100)); answer = Entered (Clock 100) (Ok (Moment 0)) }

abbrev read_board : Deed
read_board = record { line = line 2 0 0 Show; answer = Shown (board 1) }

abbrev found_no_node : Deed
found_no_node = record { line = line 5 1 0 (Do (Clock 200)); answer = Entered (Clock 200) (Err NoNode) }

abbrev day : List Deed
day = set_clock ∷ read_board ∷ found_no_node ∷ []

abbrev journal : List Entry
journal = record { place = 0; caller = record { 0 = 1 }; own = 0; event = Clock 100 } ∷ []

abbrev halt : Halt
halt = record { caller = record { 0 = 1 }; own = 1; event = Clock 200 }

-- where the stages begin: the first with nothing, the second behind one entry, and the issue is halted by the end
abbrev cuts : ℕ → Cut
cuts zero = record { length = 0; halted = false }
cuts (suc zero) = record { length = 1; halted = false }
cuts (suc (suc n)) = record { length = 1; halted = true }

lines_of_the_issue : bare (lines_at 0 1 script) ≡ lines_done day
lines_of_the_issue = refl

lines_of_the_other : bare (lines_by 2 script) ≡ line 3 0 1 (Do (Clock 100)) ∷ []
lines_of_the_other = refl

in_the_first_stage : done_before 1 day ≡ set_clock ∷ read_board ∷ []
in_the_first_stage = refl

none_before_it : done_before 0 day ≡ []
none_before_it = refl

of_this_issue : deeds_at 0 day ≡ day
of_this_issue = refl

of_another_issue : deeds_at 1 day ≡ []
of_another_issue = refl

what_is_stopped_is_not_entered : entered_in day ≡ Clock 100 ∷ []
what_is_stopped_is_not_entered = refl

the_first_stop : first_stop None (answers_of day) ≡ Some (record { event = Clock 200; cause = NoNode })
the_first_stop = refl

one_board : lengths_shown (answers_of day) ≡ 1 ∷ []
one_board = refl

the_cuts_so_far_stay : cut_at cuts 2 (record { length = 7; halted = true }) 1 ≡ cuts 1
the_cuts_so_far_stay = refl

the_new_cut : cut_at cuts 2 (record { length = 7; halted = true }) 2 ≡ record { length = 7; halted = true }
the_new_cut = refl

-- ---- such a day meets what is asked of it

never : (X : Type 0) → false ≡ true → X
never X is = absurd (false≢true is)

abbrev Quiet : Answer → Answer → Type 0
Quiet x y = is_no_node x ≡ true → made_by y ≡ None

its_first : (stopped : Stopped) → first_stop None (answers_of day) ≡ Some stopped → stopped.cause ≡ NoNode
its_first stopped is = ap (λ (x : Stopped). x.cause) (sym (same_Some (record { event = Clock 200; cause = NoNode }) stopped is))

its_cut : (s : ℕ) → s ≤ 2 → count_of 1 (take (cuts s).length journal) ≡ length (entered_in (done_before s day))
its_cut zero less = refl
its_cut (suc zero) less = refl
its_cut (suc (suc zero)) less = refl
its_cut (suc (suc (suc n))) less = absurd (omega (arith, less))

its_running : (s : ℕ) → s ≤ 2 → (cuts s).halted ≡ false → All (λ (x : Deed). is_no_node x.answer ≡ false) (done_before s day)
its_running zero less is = All-from_recursion (λ (x : Deed). is_no_node x.answer ≡ false) [] tt
its_running (suc zero) less is = All-from_recursion (λ (x : Deed). is_no_node x.answer ≡ false) (set_clock ∷ read_board ∷ []) (refl, (refl, tt))
its_running (suc (suc n)) less is = absurd (true≢false is)

its_halted : (s : ℕ) → s ≤ 2 → (cuts s).halted ≡ true → entered_in day ≡ entered_in (done_before s day)
its_halted zero less is = absurd (false≢true is)
its_halted (suc zero) less is = refl
its_halted (suc (suc zero)) less is = refl
its_halted (suc (suc (suc n))) less is = absurd (omega (arith, less))

its_known : (s : ℕ) → s ≤ 2 → (cuts s).halted ≡ true → first_stop None (answers_of (done_before s day)) ≡ None → ⊥
its_known zero less is none = false≢true is
its_known (suc zero) less is none = false≢true is
its_known (suc (suc zero)) less is none = none-some (record { event = Clock 200; cause = NoNode }) (sym none)
its_known (suc (suc (suc n))) less is none = omega (arith, less)

its_day : HasPlayed 1 2 cuts journal (Some halt) day
its_day = record {
  entered = refl;
  first = its_first;
  quiet = pairs-all Quiet (answers_of day) ((never _, (never _, tt)), ((never _, tt), (tt, tt)));
  calm = λ is. absurd (none-some halt (sym is));
  boards = (record { within = omega arith; own = refl; whole = tt }, tt);
  forward = pairs-one (λ (m n : ℕ). m ≤ n) 1;
  read = All-from_recursion (IsReadWithin cuts) day (tt, ((omega arith, omega arith), (tt, tt)));
  cut = its_cut;
  running = its_running;
  halted = its_halted;
  own = λ h is mine. ap (λ (x : Halt). Some (let s : Stopped = record { event = x.event; cause = NoNode } in s)) (same_Some halt h is);
  known = λ s less over h is mine none. its_known s less over none;
}

abbrev ended : EndedIssue
ended = record { journal = journal; halt = Some halt }

its_lines : HasPlayedLines script 2 0 1 cuts ended day
its_lines = record {
  lines = refl;
  asked = All-from_recursion (λ (x : Deed). act_of x.answer ≡ x.line.act) day (refl, (refl, (refl, tt)));
  played = its_day;
}
