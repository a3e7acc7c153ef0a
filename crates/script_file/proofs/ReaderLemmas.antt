-- What holds of a script while it is read.
use Rattle.std.proofs.Common.{◌≡◌, ℕ, ◌+◌, ◌-◌, ◌<◌, ◌≤◌, Bool, List, [], ◌∷◌, ◌++◌, length, length-append, append_assoc, append-nil, map, Ok, Err, refl, sym, ap, subst, ◌∙◌, arith}
use Rattle.std.specs.List.{range_with_len}
use Rattle.std.proofs.lemmas.Bool.Decides.{nat_tests}
use Rattle.std.proofs.lemmas.List.Elements.{filter-append}
use Rattle.std.proofs.lemmas.List.FromFn.{length-range_with_len, map-range_with_len_more}
use Rattle.mkt_base.specs.declared.script.Act.{Act}
use Rattle.mkt_base.specs.declared.script.Act.TheVariants.{Do, Show}
use Rattle.mkt_base.specs.declared.units.Caller.{Caller}
use Rattle.mkt_io.specs.LineFault.{checked_words, fault_number}
use Rattle.mkt_io.specs.declared.fault.LineFault.{LineFault}
use Rattle.mkt_io.specs.declared.fault.LineFault.TheVariants.{TooMany}
use Rattle.rules_file.specs.declared.rules.Rules.{Rules}
use Rattle.script_file.specs.Faults.{Fails, at_line}
use Rattle.script_file.proofs.OrderLemmas.{AreRowsOf-push}
use Rattle.script_file.specs.Orders.{AreRowsOf, noted}
use Rattle.script_file.specs.Reader.{IsKept, events_of, with_run}
use Rattle.script_file.specs.Script.{event_count, is_event, line_for, line_said, numbers_of, read_lines, script_of, with_lines, with_said, words_said}
use Rattle.script_file.specs.declared.fault.ScriptFault.{ScriptFault}
use Rattle.script_file.specs.declared.fault.ScriptFault.TheVariants.{At, Memory}
use Rattle.script_file.specs.declared.reader.Said.{Said}
use Rattle.script_file.specs.declared.reader.Said.TheVariants.{Line}
use Rattle.script_file.specs.declared.script.GatewayScriptLine.{GatewayScriptLine}
use Rattle.script_file.specs.declared.script.Script.{Script}
use Rattle.script_file.specs.declared.words.Issues.{Issues}

-- the events of two lists of lines
pub event_count-append : (made more : List GatewayScriptLine) → event_count (made ++ more) ≡ event_count made + event_count more
event_count-append made more =
    let test = λ (of : GatewayScriptLine). is_event of.line.act in
    ap length (filter-append test made more) ∙ length-append {A = GatewayScriptLine} _ _

pub event_count-push : (made : List GatewayScriptLine) (line : GatewayScriptLine) → event_count (made ++ line ∷ []) ≡ event_count made + events_of line.line.act 1
event_count-push made line = event_count-append made (line ∷ []) ∙ ap (λ n. event_count made + n) (one line.line.act)
  where
    one : (act : Act) → event_count (record line { line = record line.line { act = act } } ∷ []) ≡ events_of act 1
    one (Do event) = refl
    one Show = refl

-- one line more
pub IsKept-push : (made after : List GatewayScriptLine) (line : GatewayScriptLine) (rows next : List (List Bool)) (stages events more : ℕ) → IsKept made rows stages events → after ≡ made ++ line ∷ []
    → next ≡ noted rows line.gateway line.line.issue line.line.act → more ≡ events_of line.line.act 1 → event_count made + events_of line.line.act 1 ≤ 500000 → line.gateway.0 ≤ 16 → line.line.issue < 64
    → IsKept after next stages (events + more)
IsKept-push made after line rows next stages events more kept added note one room low in_row =
    let count : event_count after ≡ event_count made + events_of line.line.act 1 = ap event_count added ∙ event_count-push made line in
    let orders : AreRowsOf next (made ++ line ∷ []) = subst (λ (rs : List (List Bool)). AreRowsOf rs (made ++ line ∷ [])) (sym note) (AreRowsOf-push rows made line kept.orders low in_row) in
    record {
      open_stage = kept.open_stage;
      count = omega (arith, kept.count, count, one);
      few = omega (arith, kept.count, one, room);
      orders = subst (λ (lines : List GatewayScriptLine). AreRowsOf next lines) (sym added) orders;
    }

-- nothing is added
pub IsKept-same : (made after : List GatewayScriptLine) (rows next : List (List Bool)) (stages events : ℕ) → IsKept made rows stages events → after ≡ made → next ≡ rows → IsKept after next stages events
IsKept-same made after rows next stages events kept added note =
    subst (λ (lines : List GatewayScriptLine). IsKept lines next stages events) (sym added)
    (subst (λ (rs : List (List Bool)). IsKept made rs stages events) (sym note) kept)

module _ (script : Script) (number : ℕ) (gateway : Caller) where
  -- a line for each of so many issues makes as many events, or none
  pub event_count-map : (act : Act) (issues : List ℕ) → event_count (map (line_for script number gateway act) issues) ≡ events_of act (length issues)
  event_count-map (Do event) [] = refl
  event_count-map (Do event) (issue ∷ more) = let rest = event_count-map (Do event) more in omega (arith, rest)
  event_count-map Show [] = refl
  event_count-map Show (issue ∷ more) = event_count-map Show more

  pub event_count-run : (act : Act) (first count : ℕ) → event_count (with_run script number gateway act first count).lines ≡ event_count script.lines + events_of act count
  event_count-run act first count =
      event_count-append script.lines _
      ∙ ap (λ n. event_count script.lines + n) (event_count-map act (range_with_len first count) ∙ ap (events_of act) (length-range_with_len first count))

  -- one issue more
  pub with_run-more : (act : Act) (first count issue : ℕ) → first + count ≡ issue
      → record (with_run script number gateway act first count) { lines = (with_run script number gateway act first count).lines ++ line_for script number gateway act issue ∷ [] }
      ≡ with_run script number gateway act first (count + 1)
  with_run-more act first count issue at =
      ap (λ (lines : List GatewayScriptLine). record script { lines = lines })
      (append_assoc script.lines _ _ ∙ ap (λ (run : List GatewayScriptLine). script.lines ++ run) (sym (map-range_with_len_more (line_for script number gateway act) first count issue at)))

  with_run-none : (act : Act) (first count : ℕ) → count ≡ 0 → script ≡ with_run script number gateway act first count
  with_run-none act first count none = rw (none, append-nil) refl

events_of-next : (act : Act) (done count : ℕ) → done < count → events_of act done + events_of act 1 ≤ events_of act count
events_of-next (Do event) done count more = omega arith
events_of-next Show done count more = omega arith

-- while a line is added for one issue after the other
module _ (script : Script) (number : ℕ) (gateway : Caller) (act : Act) (first : ℕ) where
  pub run-none : script ≡ with_run script number gateway act first (first - first)
  run-none = with_run-none script number gateway act first (first - first) (omega arith)

  -- there is room for the events of one line more
  pub run-fits : (before : Script) (line : GatewayScriptLine) (count issue : ℕ) → event_count script.lines + events_of act count ≤ 500000 → first ≤ issue → issue < first + count
      → before ≡ with_run script number gateway act first (issue - first) → line.line.act ≡ act → event_count before.lines + events_of line.line.act 1 ≤ 500000
  run-fits before line count issue room from to is same =
      let made : event_count before.lines ≡ event_count script.lines + events_of act (issue - first) = ap (λ (s : Script). event_count s.lines) is ∙ event_count-run script number gateway act first (issue - first) in
      let one : events_of line.line.act 1 ≡ events_of act 1 = ap (λ a. events_of a 1) same in
      let next = events_of-next act (issue - first) count (omega arith) in
      omega (arith, made, one, next)

  pub run-more : (before after : Script) (line : GatewayScriptLine) (issue : ℕ) → first ≤ issue → before ≡ with_run script number gateway act first (issue - first)
      → line ≡ line_for script number gateway act issue → after ≡ record before { lines = before.lines ++ line ∷ [] } → after ≡ with_run script number gateway act first (issue + 1 - first)
  run-more before after line issue from is same added =
      let more : issue - first + 1 ≡ issue + 1 - first = omega arith in
      added ∙ ap (λ (s : Script). record s { lines = s.lines ++ line ∷ [] }) is
      ∙ ap (λ (l : GatewayScriptLine). let run = with_run script number gateway act first (issue - first) in record run { lines = run.lines ++ l ∷ [] }) same
      ∙ with_run-more script number gateway act first (issue - first) issue (omega arith) ∙ ap (with_run script number gateway act first) more

  pub run-whole : (after : Script) (count issue : ℕ) → issue ≡ first + count → after ≡ with_run script number gateway act first (issue - first) → after ≡ with_run script number gateway act first count
  run-whole after count issue end is = is ∙ ap (with_run script number gateway act first) (omega arith)

module _ (rules : Rules) (script : Script) (number : ℕ) (gateway : Caller) (issues : Issues) (act : Act) (first count : ℕ) (numbers : numbers_of rules issues ≡ range_with_len first count) where
  said-run : map (line_for script number gateway act) (numbers_of rules issues) ≡ map (line_for script number gateway act) (range_with_len first count)
  said-run = ap (map (line_for script number gateway act)) numbers

  -- there is room for the events of a line
  pub with_said-fits : event_count script.lines + events_of act count ≤ 500000 → with_said rules script number (Line gateway issues act) ≡ Ok (with_run script number gateway act first count)
  unfolding with_lines
  with_said-fits fits = rw said-run (let few = event_count-run script number gateway act first count in grind (arith, nat_tests))

  -- there is none
  pub with_said-many : 500000 < event_count script.lines + events_of act count → with_said rules script number (Line gateway issues act) ≡ Err TooMany
  unfolding with_lines
  with_said-many many = rw said-run (let more = event_count-run script number gateway act first count in grind (arith, nat_tests))

-- what a line's words say, and then what the script has by it
module _ (rules : Rules) (script : Script) (number : ℕ) (line : List ℕ) where
  pub line_said-ok : (said : Said) → words_said rules script.lines number line ≡ Ok said → line_said rules script number line ≡ at_line number (with_said rules script number said)
  unfolding line_said
  line_said-ok said e = rw e refl

  pub line_said-err : (fault : LineFault) → words_said rules script.lines number line ≡ Err fault → line_said rules script number line ≡ Err (At number (fault_number fault))
  unfolding line_said
  line_said-err fault e = rw e refl

  -- only lines up to number 500,000 are read
  pub words_said-few : (said : Said) → words_said rules script.lines number line ≡ Ok said → number ≤ 500000
  unfolding words_said checked_words
  words_said-few said e = grind (arith, nat_tests)

  -- a line whose own tests fail says nothing else
  pub line_said-checked_words : (fault : LineFault) → checked_words number line ≡ Err fault → line_said rules script number line ≡ Err (At number (fault_number fault))
  unfolding line_said words_said
  line_said-checked_words fault e = rw e refl

-- what the bytes say, where they say what the lines that are left say
module _ (rules : Rules) (bytes : List ℕ) (script : Script) (number : ℕ) (left : List (List ℕ)) (rest : read_lines rules script number left ≡ script_of rules bytes) where
  -- where no line is left, that is the script so far
  pub script_at_end : left ≡ [] → script_of rules bytes ≡ Ok script
  unfolding read_lines
  script_at_end none = sym rest ∙ ap (read_lines rules script number) none

  module _ (here : ℕ) (line : List ℕ) (more : List (List ℕ)) (next : left ≡ line ∷ more) (same : number ≡ here) where
    next_line : script_of rules bytes ≡ read_lines rules script here (line ∷ more)
    next_line = sym rest ∙ ap (read_lines rules script number) next ∙ ap (λ n. read_lines rules script n (line ∷ more)) same

    -- the next line's fault is the script's
    pub fault_at : (fault : ScriptFault) → line_said rules script here line ≡ Err fault → script_of rules bytes ≡ Err fault
    unfolding read_lines
    fault_at fault e = next_line ∙ rw e refl

    -- unless there was no memory
    pub Fails_at : (fault : ScriptFault) → Fails fault (line_said rules script here line) → Fails fault (script_of rules bytes)
    Fails_at (At at n) e = fault_at (At at n) e
    Fails_at Memory e = tt

    -- after the next line the others say what the bytes say
    pub script_at : (after : Script) → line_said rules script here line ≡ Ok after → read_lines rules after (here + 1) more ≡ script_of rules bytes
    unfolding read_lines
    script_at after e = sym (next_line ∙ rw e refl)
