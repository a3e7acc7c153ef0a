-- What holds of a script that is read.
use Rattle.std.proofs.Common.{◌≡◌, ◌⊎◌, inl, inr, ℕ, ◌+◌, ◌-◌, ◌<◌, ◌≤◌, List, [], ◌++◌, length, length-append, get_or, map, AllPairs, Result, Ok, Err, refl, sym, subst, arith, lit≤}
use Rattle.std.specs.Prelude.{Bool, true, false, nat_lt, if◌then◌else◌, All}
use Rattle.std.specs.List.{range_with_len}
use Rattle.std.proofs.lemmas.Bool.{cases_lt}
use Rattle.std.proofs.lemmas.Bool.Decides.{nat_tests}
use Rattle.std.proofs.lemmas.List.{get_or-append_right, get_or-map, get_or_append_left, length-map}
use Rattle.std.proofs.lemmas.List.Elements.{All-append, All-cons, All-map, All-nil}
use Rattle.std.proofs.lemmas.List.FromFn.{get_or-range_with_len, length-range_with_len}
use Rattle.mkt_base.specs.declared.script.Act.{Act}
use Rattle.mkt_base.specs.declared.units.Caller.{Caller}
use Rattle.mkt_io.specs.declared.fault.LineFault.{LineFault}
use Rattle.mkt_io.specs.declared.fault.LineFault.TheVariants.{TooMany}
use Rattle.rules_file.specs.Rules.{issues_in}
use Rattle.rules_file.specs.declared.rules.Rules.{Rules}
use Rattle.script_file.specs.Commands.{IsActOf}
use Rattle.script_file.specs.Faults.{at_line}
use Rattle.script_file.specs.Reader.{IsScriptBefore}
use Rattle.script_file.specs.Script.{IsBefore, IsFor, IsScript, event_count, line_for, numbers_of, with_lines, with_said}
use Rattle.script_file.specs.Words.{AreIssues, IsGateway}
use Rattle.script_file.specs.declared.reader.Said.{Said}
use Rattle.script_file.specs.declared.reader.Said.TheVariants.{Nothing, Barrier, Line}
use Rattle.script_file.specs.declared.script.GatewayScriptLine.{GatewayScriptLine}
use Rattle.script_file.specs.declared.script.Script.{Script}
use Rattle.script_file.specs.declared.words.Issues.{Issues}
use Rattle.script_file.specs.declared.words.Issues.TheVariants.{One, Each}

-- a line is of no later stage than another
abbrev IsNotLater : GatewayScriptLine → GatewayScriptLine → Type 0
IsNotLater a b = a.line.stage ≤ b.line.stage

-- of no pairs
AllPairs-nil : {X : Type 0} (R : X → X → Type 0) → AllPairs R []
AllPairs-nil R i j d before within = absurd (omega arith)

-- what holds of the pairs of two lists, and of each of the first with each of the second, holds of the pairs of both together
AllPairs-append : {X : Type 0} (R : X → X → Type 0) (xs ys : List X) → AllPairs R xs → AllPairs R ys → All (λ x. All (R x) ys) xs → AllPairs R (xs ++ ys)
AllPairs-append {X} R xs ys left right across i j d before within = by_ends (cases_lt j (length xs)) (cases_lt i (length xs))
  where
    by_ends : (j < length xs) ⊎ (length xs ≤ j) → (i < length xs) ⊎ (length xs ≤ i) → R (get_or (xs ++ ys) i d) (get_or (xs ++ ys) j d)
    by_ends (inl jl) il = rw (get_or_append_left xs ys d i (omega arith), get_or_append_left xs ys d j jl) (left i j d before jl)
    by_ends (inr jr) (inl il) =
        rw (get_or_append_left xs ys d i il, get_or-append_right xs ys (length xs) j d refl jr)
        (across i d il (j - length xs) d (let whole = length-append xs ys in omega (arith, whole)))
    by_ends (inr jr) (inr ir) =
        rw (get_or-append_right xs ys (length xs) i d refl ir, get_or-append_right xs ys (length xs) j d refl jr)
        (right (i - length xs) (j - length xs) d (omega arith) (let whole = length-append xs ys in omega (arith, whole)))

-- before the first line
pub IsScriptBefore-none : (rules : Rules) (script : Script) (number : ℕ) → script ≡ record { lines = []; stages = 1 } → 1 ≤ number → IsScriptBefore rules script number
IsScriptBefore-none rules script number none first =
    let sound : IsScript rules (record { lines = []; stages = 1 }) = record {
      issues = All-nil _;
      gateways = All-nil _;
      acts = All-nil _;
      few = lit≤ tt;
      stages = AllPairs-nil IsNotLater;
      below = All-nil _;
      rise = AllPairs-nil IsBefore;
      some = lit≤ tt;
    } in
    let start : IsScriptBefore rules (record { lines = []; stages = 1 }) number = record { sound = sound; earlier = All-nil _; ended = first } in
    subst (λ (s : Script). IsScriptBefore rules s number) (sym none) start

-- the issues that a line is for are issues of the rules
numbers-known : (rules : Rules) (issues : Issues) → AreIssues rules issues → All (λ i. i < length (issues_in rules)) (numbers_of rules issues)
numbers-known rules (One issue) known = let P : ℕ → Type 0 = λ i. i < length (issues_in rules) in All-cons P issue [] known (All-nil P)
numbers-known rules Each known = below (length (issues_in rules))
  where
    below : (n : ℕ) → All (λ i. i < n) (range_with_len 0 n)
    below n k d within =
        let few : k < n = rw (length-range_with_len 0 n) at within in
        rw (get_or-range_with_len 0 n k d few) (omega arith)

-- and they rise
numbers-rise : (rules : Rules) (issues : Issues) → AllPairs (λ a b. a < b) (numbers_of rules issues)
numbers-rise rules (One issue) i j d before within = absurd (omega arith)
numbers-rise rules Each i j d before within =
    let n = length (issues_in rules) in
    let few : j < n = rw (length-range_with_len 0 n) at within in
    rw (get_or-range_with_len 0 n i d (omega arith), get_or-range_with_len 0 n j d few) (omega arith)

-- what holds of the lines and of each line of a run holds of all
all-more : (P : GatewayScriptLine → Type 0) (lines : List GatewayScriptLine) (line : ℕ → GatewayScriptLine) (numbers : List ℕ) → All P lines → All (λ i. P (line i)) numbers
    → All P (lines ++ map line numbers)
all-more P lines line numbers old more = All-append P lines (map line numbers) old (All-map P line numbers more)

module _ (rules : Rules) (script after : Script) where
  with_lines-ok : (more : List GatewayScriptLine) → with_lines script more ≡ Ok after → (after ≡ record script { lines = script.lines ++ more }) × (event_count (script.lines ++ more) ≤ 500000)
  unfolding with_lines
  with_lines-ok more e = by_test (nat_lt 500000 (event_count (script.lines ++ more))) refl e
    where
      by_test : (many : Bool) → nat_lt 500000 (event_count (script.lines ++ more)) ≡ many → (if many then Err TooMany else Ok (record script { lines = script.lines ++ more })) ≡ Ok after
          → (after ≡ record script { lines = script.lines ++ more }) × (event_count (script.lines ++ more) ≤ 500000)
      by_test true many e = cc
      by_test false few e = (cc, grind (arith, nat_tests))

  -- the lines of a script stand before those of its next line, and these by issue
  module _ (number : ℕ) (gateway : Caller) (act : Act) (issues : Issues) (is : IsScriptBefore rules script number) where
    abbrev line : ℕ → GatewayScriptLine
    line = line_for script number gateway act

    abbrev numbers : List ℕ
    numbers = numbers_of rules issues

    run-rises : AllPairs IsBefore (map line numbers)
    run-rises i j d before within =
        let few : j < length numbers = rw (length-map numbers line) at within in
        rw (get_or-map line numbers i 0 d (omega arith), get_or-map line numbers j 0 d few) (inr (refl, numbers-rise rules issues i j 0 before few))

    run-in-stage : AllPairs IsNotLater (map line numbers)
    run-in-stage i j d before within =
        let few : j < length numbers = rw (length-map numbers line) at within in
        rw (get_or-map line numbers i 0 d (omega arith), get_or-map line numbers j 0 d few) (omega arith)

    lines-rise : AllPairs IsBefore (script.lines ++ map line numbers)
    lines-rise =
        AllPairs-append IsBefore script.lines (map line numbers) is.sound.rise run-rises
        (λ k d within. All-map (IsBefore (get_or script.lines k d)) line numbers (λ m e w. inl (is.earlier k d within)))

    stages-rise : AllPairs IsNotLater (script.lines ++ map line numbers)
    stages-rise =
        AllPairs-append IsNotLater script.lines (map line numbers) is.sound.stages run-in-stage
        (λ k d within. let below = is.sound.below k d within in All-map (IsNotLater (get_or script.lines k d)) line numbers (λ m e w. omega (arith, below)))

  -- a gateway's line that is known keeps it
  IsScriptBefore-line : (number : ℕ) (gateway : Caller) (issues : Issues) (act : Act) → with_lines script (map (line_for script number gateway act) (numbers_of rules issues)) ≡ Ok after
      → AreIssues rules issues → IsGateway rules gateway → IsActOf rules act → IsScriptBefore rules script number → IsScriptBefore rules after (number + 1)
  IsScriptBefore-line number gateway issues act e known from does is =
      let line = line_for script number gateway act in
      let numbers = numbers_of rules issues in
      let p = with_lines-ok (map line numbers) e in
      let some = is.sound.some in
      let sound : IsScript rules (record script { lines = script.lines ++ map line numbers }) = record {
        issues = all-more (λ (of : GatewayScriptLine). of.line.issue < length (issues_in rules)) script.lines line numbers is.sound.issues (numbers-known rules issues known);
        gateways = all-more (λ (of : GatewayScriptLine). IsGateway rules of.gateway) script.lines line numbers is.sound.gateways (λ k d within. from);
        acts = all-more (λ (of : GatewayScriptLine). IsActOf rules of.line.act) script.lines line numbers is.sound.acts (λ k d within. does);
        few = p.1;
        stages = stages-rise number gateway act issues is;
        below = all-more (λ (of : GatewayScriptLine). of.line.stage < script.stages) script.lines line numbers is.sound.below (λ k d within. omega (arith, some));
        rise = lines-rise number gateway act issues is;
        some = some;
      } in
      let all : IsScriptBefore rules (record script { lines = script.lines ++ map line numbers }) (number + 1) = record {
        sound = sound;
        earlier = all-more (λ (of : GatewayScriptLine). of.line.line < number + 1) script.lines line numbers
            (λ k d within. let old = is.earlier k d within in omega (arith, old)) (λ k d within. omega arith);
        ended = let old = is.ended in omega (arith, old);
      } in
      subst (λ (s : Script). IsScriptBefore rules s (number + 1)) (sym p.0) all

  -- so does a line that says nothing
  IsScriptBefore-nothing : (number : ℕ) → after ≡ script → IsScriptBefore rules script number → IsScriptBefore rules after (number + 1)
  IsScriptBefore-nothing number same is =
      let all : IsScriptBefore rules script (number + 1) = record {
        sound = is.sound;
        earlier = λ k d within. let old = is.earlier k d within in omega (arith, old);
        ended = let old = is.ended in omega (arith, old);
      } in
      subst (λ (s : Script). IsScriptBefore rules s (number + 1)) (sym same) all

  -- and a barrier, behind which the next stage is open
  IsScriptBefore-barrier : (number : ℕ) → after ≡ record script { stages = script.stages + 1 } → IsScriptBefore rules script number → IsScriptBefore rules after (number + 1)
  IsScriptBefore-barrier number next is =
      let sound : IsScript rules (record script { stages = script.stages + 1 }) = record {
        issues = is.sound.issues;
        gateways = is.sound.gateways;
        acts = is.sound.acts;
        few = is.sound.few;
        stages = is.sound.stages;
        below = λ k d within. let old = is.sound.below k d within in omega (arith, old);
        rise = is.sound.rise;
        some = omega arith;
      } in
      let all : IsScriptBefore rules (record script { stages = script.stages + 1 }) (number + 1) = record {
        sound = sound;
        earlier = λ k d within. let old = is.earlier k d within in omega (arith, old);
        ended = let old = is.ended in omega (arith, old);
      } in
      subst (λ (s : Script). IsScriptBefore rules s (number + 1)) (sym next) all

  -- what any line says keeps what holds of a script
  pub IsScriptBefore-said : (number : ℕ) (said : Said) → at_line number (with_said rules script number said) ≡ Ok after → IsFor rules said → IsScriptBefore rules script number
      → IsScriptBefore rules after (number + 1)
  IsScriptBefore-said number Nothing e known is = IsScriptBefore-nothing number (cc) is
  IsScriptBefore-said number Barrier e known is = IsScriptBefore-barrier number (cc) is
  IsScriptBefore-said number (Line gateway issues act) e known is =
      IsScriptBefore-line number gateway issues act (unnumbered (with_lines script (map (line_for script number gateway act) (numbers_of rules issues))) e) known.0 known.1 known.2 is
    where
      unnumbered : (read : Result Script LineFault) → at_line number read ≡ Ok after → read ≡ Ok after
      unnumbered (Ok s) e = cc
      unnumbered (Err fault) e = cc
