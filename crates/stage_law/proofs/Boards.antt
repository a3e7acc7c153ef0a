-- The boards that a gateway read, over all issues: one for each line that asks for one, and none goes back.
use Rattle.std.proofs.Common.{◌≡◌, ℕ, ◌==◌, ◌<◌, ◌≤◌, inl, inr, Bool, true, false, cond, ◌&&◌, not, List, [], ◌∷◌, ◌++◌, length, map, filter, filter_map, get_or, drop, Some, All, slice_get, refl, sym, ap, subst, ◌∙◌, arith, append-nil, append_assoc, eq-eqb, eqb-true}
use Rattle.std.specs.List.{AllByRecursion, AllZip, cons_option}
use Rattle.std.proofs.lemmas.List.{map-append}
use Rattle.std.proofs.lemmas.Bool.{both_ways}
use Rattle.std.proofs.lemmas.List.Elements.{All-filter, All-head, filter-append, recursion_from_All}
use Rattle.std.proofs.lemmas.Option.{slice_get_cases}
use Rattle.mkt_base.specs.declared.quote.Board.{Board}
use Rattle.mkt_base.specs.declared.script.Act.{Act}
use Rattle.mkt_base.specs.declared.script.ScriptLine.{ScriptLine}
use Rattle.mkt_base.specs.declared.script.ShowLine.{ShowLine}
use Rattle.mkt_base.specs.declared.units.Caller.{Caller}
use Rattle.rules_file.specs.Rules.{issues_in}
use Rattle.rules_file.specs.declared.rules.Rules.{Rules}
use Rattle.script_file.specs.Own.{is_event}
use Rattle.script_file.specs.Script.{IsScript}
use Rattle.script_file.specs.declared.script.GatewayScriptLine.{GatewayScriptLine}
use Rattle.script_file.specs.declared.script.Script.{Script}
use Rattle.issue_machine.specs.History.{IsHistory}
use Rattle.book_law.proofs.Pairs.{Pairs, pairs-from_AllPairs}
use Rattle.gateway.specs.Ran.{Deed, show_of}
use Rattle.gateway.specs.Served.{Answer, Entered, Shown, act_of, lengths_shown}
use Rattle.gateway.proofs.Lines.{all-behind}
use Rattle.run_report.specs.declared.ended.EndedIssue.{EndedIssue}
use Rattle.run_law.specs.Run.{IsNoShorter, IsShowOf, is_show}
use Rattle.run_law.proofs.Lists.{each-back}
use Rattle.run_law.proofs.RunLemmas.{pairs-all}
use Rattle.run_law.proofs.Stages.{Rise}
use Rattle.stage_law.specs.Come.{Cut, answers_of}
use Rattle.stage_law.specs.Laws.{AllPlayed, PlayedShows}
use Rattle.stage_law.specs.Played.{bare, deeds_at, lines_at, lines_by, lines_done}
use Rattle.stage_law.proofs.Asks.{WasAsked}
use Rattle.stage_law.proofs.Reading.{show-is}

-- ---- filters

filter-mapped : {X Y : Type 0} (f : X → Y) (p : Y → Bool) (xs : List X) → map f (filter (λ x. p (f x)) xs) ≡ filter p (map f xs)
filter-mapped f p [] = refl
filter-mapped {X} {Y} f p (x ∷ xs) = by (p (f x)) (filter-mapped f p xs)
  where
    by : (b : Bool) → map f (filter (λ y. p (f y)) xs) ≡ filter p (map f xs) → map f (cond b (x ∷ filter (λ y. p (f y)) xs) (filter (λ y. p (f y)) xs)) ≡ cond b (f x ∷ filter p (map f xs)) (filter p (map f xs))
    by true rest = ap (λ (ys : List Y). f x ∷ ys) rest
    by false rest = rest

filter-both : {X : Type 0} (p q : X → Bool) (xs : List X) → filter q (filter p xs) ≡ filter (λ x. p x && q x) xs
filter-both p q [] = refl
filter-both {X} p q (x ∷ xs) = by (p x) (q x) refl (filter-both p q xs)
  where
    by : (a b : Bool) → q x ≡ b → filter q (filter p xs) ≡ filter (λ y. p y && q y) xs → filter q (cond a (x ∷ filter p xs) (filter p xs)) ≡ cond (a && q x) (x ∷ filter (λ y. p y && q y) xs) (filter (λ y. p y && q y) xs)
    by true b is rest = ap (λ (ys : List X). cond (q x) (x ∷ ys) ys) rest
    by false b is rest = rest

-- the lines of a gateway's deeds in an issue are its lines there
pub lines-here : (issue g : ℕ) (made : List GatewayScriptLine) (xs : List Deed) → lines_done xs ≡ bare (lines_by g made) → lines_done (deeds_at issue xs) ≡ bare (lines_at issue g made)
lines-here issue g made xs lines =
    filter-mapped (λ (x : Deed). x.line) (λ (l : ScriptLine). l.issue == issue) xs
    ∙ ap (filter (λ (l : ScriptLine). l.issue == issue)) lines
    ∙ sym (filter-mapped (λ (of : GatewayScriptLine). of.line) (λ (l : ScriptLine). l.issue == issue) (lines_by g made))
    ∙ ap bare (filter-both (λ (of : GatewayScriptLine). of.gateway.0 == g) (λ (of : GatewayScriptLine). of.line.issue == issue) made)

caller-same : (a b : Caller) → a.0 ≡ b.0 → a ≡ b
caller-same a b is = ap (λ (n : ℕ). let c : Caller = record { 0 = n } in c) is

-- ---- boards of one gateway do not go back

module _ (gateway : Caller) where
  abbrev shows : List Deed → List ShowLine
  shows xs = filter_map (show_of gateway) xs

  abbrev lengths_at : ℕ → List Deed → List ℕ
  lengths_at issue xs = lengths_shown (answers_of (deeds_at issue xs))

  -- a board is no longer than those of the same issue behind it
  no-shorter-of : (s : ShowLine) (issue : ℕ) (xs : List Deed) → s.issue ≡ issue → AllByRecursion (λ (n : ℕ). s.board.length ≤ n) (lengths_at issue xs) → AllByRecursion (IsNoShorter s) (shows xs)
  no-shorter-of s issue [] same all = tt
  no-shorter-of s issue (x ∷ xs) same all = by x.answer (x.line.issue == issue) refl all (no-shorter-of s issue xs same)
    where
      by : (a : Answer) (here : Bool) → (x.line.issue == issue) ≡ here
          → AllByRecursion (λ (n : ℕ). s.board.length ≤ n) (lengths_shown (answers_of (cond here ((let y : Deed = record { line = x.line; answer = a } in y) ∷ deeds_at issue xs) (deeds_at issue xs))))
          → (AllByRecursion (λ (n : ℕ). s.board.length ≤ n) (lengths_at issue xs) → AllByRecursion (IsNoShorter s) (shows xs))
          → AllByRecursion (IsNoShorter s) (cons_option (show_of gateway (let y : Deed = record { line = x.line; answer = a } in y)) (shows xs))
      by (Entered event reply) true is long next = next long
      by (Entered event reply) false is long next = next long
      by (Shown board) true is long next = (λ whose where_read. long.0, next long.1)
      by (Shown board) false is long next = (λ whose where_read. absurd (both_ways (x.line.issue == issue) is (eq-eqb x.line.issue issue (sym where_read ∙ same))), next long)

  forward : (issues : ℕ) (xs : List Deed) → AllByRecursion (λ (x : Deed). x.line.issue < issues) xs → ((issue : ℕ) → issue < issues → Rise (lengths_at issue xs)) → Pairs IsNoShorter (shows xs)
  forward issues [] named rise = tt
  forward issues (x ∷ xs) named rise =
      by x.answer (rise x.line.issue named.0) (forward issues xs named.1 (λ issue less. behind x.answer issue (x.line.issue == issue) (rise issue less)))
    where
      behind : (a : Answer) (issue : ℕ) (here : Bool)
          → Rise (lengths_shown (answers_of (cond here ((let y : Deed = record { line = x.line; answer = a } in y) ∷ deeds_at issue xs) (deeds_at issue xs)))) → Rise (lengths_at issue xs)
      behind (Entered event reply) issue true long = long
      behind (Entered event reply) issue false long = long
      behind (Shown board) issue true long = long.1
      behind (Shown board) issue false long = long

      own : (x.line.issue == x.line.issue) ≡ true
      own = eq-eqb x.line.issue x.line.issue refl

      by : (a : Answer) → Rise (lengths_shown (answers_of (cond (x.line.issue == x.line.issue) ((let y : Deed = record { line = x.line; answer = a } in y) ∷ deeds_at x.line.issue xs) (deeds_at x.line.issue xs))))
          → Pairs IsNoShorter (shows xs) → Pairs IsNoShorter (cons_option (show_of gateway (let y : Deed = record { line = x.line; answer = a } in y)) (shows xs))
      by (Entered event reply) long rest = rest
      by (Shown board) long rest =
          let ahead : Rise (board.length ∷ lengths_at x.line.issue xs) =
          subst (λ (here : Bool). Rise (lengths_shown (answers_of (cond here ((let y : Deed = record { line = x.line; answer = Shown board } in y) ∷ deeds_at x.line.issue xs) (deeds_at x.line.issue xs))))) own long in
          (no-shorter-of (record { line = x.line.line; gateway = gateway; issue = x.line.issue; board = board }) x.line.issue xs refl ahead.0, rest)

-- ---- one board for each line

module _ (rules : Rules) (script : Script) (participants : ℕ) (issues : List EndedIssue) (cuts : ℕ → ℕ → Cut) (deeds : ℕ → List Deed) (gateway : Caller) (sound : IsScript rules script) (some : 1 ≤ gateway.0)
    (each : length issues ≡ length (issues_in rules)) (histories : (issue : ℕ) (ended : EndedIssue) → slice_get issues issue ≡ Some ended → IsHistory participants ended.journal)
    (played : (issue : ℕ) (ended : EndedIssue) → slice_get issues issue ≡ Some ended → AllPlayed script issue (cuts issue) ended (λ g. deeds_at issue (deeds g)))
    (lines : lines_done (deeds gateway.0) ≡ bare (lines_by gateway.0 script.lines)) where
  abbrev g : ℕ
  g = gateway.0

  abbrev ReadOf : GatewayScriptLine → ShowLine → Type 0
  ReadOf of s = (ended : EndedIssue) → slice_get issues of.line.issue ≡ Some ended → IsShowOf script.lines ended.journal of s

  -- every issue that is named is there
  there : (issue : ℕ) → issue < length (issues_in rules) → (ended : EndedIssue) × (slice_get issues issue ≡ Some ended)
  there issue named = elim (slice_get_cases issues issue).1 [
    | inl found ↦ (found.0, found.2)
    | inr past ↦ absurd (omega (arith, past.0, named, each))
  ]

  -- every line is of an issue that is there, so its deed answers what it asks
  lines-named : (made : List GatewayScriptLine) (xs : List Deed) → All (λ (of : GatewayScriptLine). of.line.issue < length (issues_in rules)) made → lines_done xs ≡ bare (lines_by g made)
      → AllByRecursion (λ (x : Deed). x.line.issue < length (issues_in rules)) xs
  lines-named made xs named are =
      unmap xs (subst (AllByRecursion (λ (l : ScriptLine). l.issue < length (issues_in rules))) (sym are) (mapped (lines_by g made)
      (recursion_from_All (λ (of : GatewayScriptLine). of.line.issue < length (issues_in rules)) (lines_by g made) (All-filter (λ (of : GatewayScriptLine). of.gateway.0 == g) (λ (of : GatewayScriptLine). of.line.issue < length (issues_in rules)) made named))))
    where
      mapped : (ls : List GatewayScriptLine) → AllByRecursion (λ (of : GatewayScriptLine). of.line.issue < length (issues_in rules)) ls → AllByRecursion (λ (l : ScriptLine). l.issue < length (issues_in rules)) (bare ls)
      mapped [] all = tt
      mapped (l ∷ ls) all = (all.0, mapped ls all.1)

      unmap : (ys : List Deed) → AllByRecursion (λ (l : ScriptLine). l.issue < length (issues_in rules)) (lines_done ys) → AllByRecursion (λ (x : Deed). x.line.issue < length (issues_in rules)) ys
      unmap [] all = tt
      unmap (y ∷ ys) all = (all.0, unmap ys all.1)

  named-all : AllByRecursion (λ (x : Deed). x.line.issue < length (issues_in rules)) (deeds g)
  named-all = lines-named script.lines (deeds g) sound.issues lines

  -- a deed between others
  here-split : (issue : ℕ) (front back : List Deed) (x : Deed) → deeds g ≡ front ++ x ∷ back → x.line.issue ≡ issue → deeds_at issue (deeds g) ≡ deeds_at issue front ++ x ∷ deeds_at issue back
  here-split issue front back x split same =
      ap (deeds_at issue) split ∙ filter-append (λ (y : Deed). y.line.issue == issue) front (x ∷ back)
      ∙ ap (λ (b : Bool). deeds_at issue front ++ cond b (x ∷ deeds_at issue back) (deeds_at issue back)) (eq-eqb x.line.issue issue same)

  asked-at : (front back : List Deed) (x : Deed) → deeds g ≡ front ++ x ∷ back → act_of x.answer ≡ x.line.act
  asked-at front back x split =
      let named : x.line.issue < length (issues_in rules) = (each-back (λ (y : Deed). y.line.issue < length (issues_in rules)) front (x ∷ back) (subst (AllByRecursion (λ (y : Deed). y.line.issue < length (issues_in rules))) split named-all)).0 in
      let ended = there x.line.issue named in
      let asked : All WasAsked (deeds_at x.line.issue front ++ x ∷ deeds_at x.line.issue back) =
      subst (All WasAsked) (here-split x.line.issue front back x split refl) ((played x.line.issue ended.0 ended.1).each g some).asked in
      All-head WasAsked x (deeds_at x.line.issue back) (all-behind WasAsked (deeds_at x.line.issue front) (x ∷ deeds_at x.line.issue back) asked)

  read-of : (p q : List GatewayScriptLine) (of : GatewayScriptLine) (front back : List Deed) (x : Deed) (board : Board) → script.lines ≡ p ++ of ∷ q → deeds g ≡ front ++ x ∷ back → lines_done front ≡ bare (lines_by g p)
      → of.gateway.0 ≡ g → x.line ≡ of.line → x.answer ≡ Shown board → ReadOf of (record { line = x.line.line; gateway = gateway; issue = x.line.issue; board = board })
  read-of p q of front back x board split-lines split-deeds before mine line shown ended at =
      let issue : ℕ = of.line.issue in
      show-is rules script participants (cuts issue) ended (λ c. deeds_at issue (deeds c)) sound (histories issue ended at) p q of split-lines (played issue ended at) g some (deeds_at issue front) (deeds_at issue back) x board
      (here-split issue front back x split-deeds (ap (λ (l : ScriptLine). l.issue) line)) line shown (lines-here issue g p front before)
      (record { line = x.line.line; gateway = gateway; issue = x.line.issue; board = board }) mine (ap (λ (l : ScriptLine). l.line) line) (caller-same gateway of.gateway (sym mine)) (ap (λ (l : ScriptLine). l.issue) line) refl

  abbrev shown_lines : List GatewayScriptLine → List GatewayScriptLine
  shown_lines q = filter is_show (lines_by g q)

  never : {X : Type 0} (x : X) (xs : List X) → x ∷ xs ≡ [] → ⊥
  never x xs is = cc

  -- one deed, for a line that is done: its board is the next one where it reads one
  one : (of : GatewayScriptLine) (q : List GatewayScriptLine) (x : Deed) (back : List Deed) (answer : Answer) → x.answer ≡ answer → act_of answer ≡ of.line.act
      → ((board : Board) → x.answer ≡ Shown board → ReadOf of (record { line = x.line.line; gateway = gateway; issue = x.line.issue; board = board })) → AllZip ReadOf (shown_lines q) (shows gateway back)
      → AllZip ReadOf (cond (is_show of) (of ∷ shown_lines q) (shown_lines q)) (cons_option (show_of gateway (let y : Deed = record { line = x.line; answer = answer } in y)) (shows gateway back))
  one of q x back (Entered event reply) is act read rest = subst (λ (a : Act). AllZip ReadOf (cond (not (is_event a)) (of ∷ shown_lines q) (shown_lines q)) (shows gateway back)) act rest
  one of q x back (Shown board) is act read rest =
      let s : ShowLine = record { line = x.line.line; gateway = gateway; issue = x.line.issue; board = board } in
      subst (λ (a : Act). AllZip ReadOf (cond (not (is_event a)) (of ∷ shown_lines q) (shown_lines q)) (s ∷ shows gateway back)) act (read board is, rest)

  -- the boards for the lines behind others that are done
  abbrev Walk : List GatewayScriptLine → List GatewayScriptLine → Type 0
  Walk p q = (front back : List Deed) → deeds g ≡ front ++ back → lines_done front ≡ bare (lines_by g p) → lines_done back ≡ bare (lines_by g q) → AllZip ReadOf (shown_lines q) (shows gateway back)

  -- the lines in order, of which those before are done
  walk : (p q : List GatewayScriptLine) (front back : List Deed) → script.lines ≡ p ++ q → deeds g ≡ front ++ back → lines_done front ≡ bare (lines_by g p) → lines_done back ≡ bare (lines_by g q)
      → AllZip ReadOf (shown_lines q) (shows gateway back)
  walk p [] front [] split-lines split-deeds before behind = tt
  walk p [] front (x ∷ back) split-lines split-deeds before behind = absurd (never x.line (lines_done back) behind)
  walk p (of ∷ q) front back split-lines split-deeds before behind =
      by (of.gateway.0 == g) refl back split-deeds behind (λ f bs d a b. walk (p ++ of ∷ []) q f bs (split-lines ∙ sym (append_assoc p (of ∷ []) q)) d a b)
    where
      with-it : (mine : Bool) → (of.gateway.0 == g) ≡ mine → bare (lines_by g (p ++ of ∷ [])) ≡ bare (lines_by g p) ++ bare (cond mine (of ∷ []) [])
      with-it mine is =
          ap bare (filter-append (λ (l : GatewayScriptLine). l.gateway.0 == g) p (of ∷ [])) ∙ map-append (λ (l : GatewayScriptLine). l.line) (lines_by g p) (lines_by g (of ∷ []))
          ∙ ap (λ (b : Bool). bare (lines_by g p) ++ bare (cond b (of ∷ []) [])) is

      by : (mine : Bool) → (of.gateway.0 == g) ≡ mine → (bs : List Deed) → deeds g ≡ front ++ bs → lines_done bs ≡ bare (cond mine (of ∷ lines_by g q) (lines_by g q)) → Walk (p ++ of ∷ []) q
          → AllZip ReadOf (filter is_show (cond mine (of ∷ lines_by g q) (lines_by g q))) (shows gateway bs)
      by false is bs d b next = next front bs d (before ∙ sym (with-it false is ∙ append-nil (bare (lines_by g p)))) b
      by true is [] d b next = absurd (never of.line (bare (lines_by g q)) (sym b))
      by true is (x ∷ bs) d b next =
          let line : x.line ≡ of.line = ap (λ (ls : List ScriptLine). get_or ls 0 x.line) b in
          let rest : lines_done bs ≡ bare (lines_by g q) = ap (λ (ls : List ScriptLine). drop 1 ls) b in
          let done : lines_done (front ++ x ∷ []) ≡ bare (lines_by g (p ++ of ∷ [])) =
          map-append (λ (y : Deed). y.line) front (x ∷ []) ∙ ap (λ (ls : List ScriptLine). ls ++ x.line ∷ []) before ∙ ap (λ (l : ScriptLine). bare (lines_by g p) ++ l ∷ []) line ∙ sym (with-it true is) in
          one of q x bs x.answer refl (asked-at front bs x d ∙ ap (λ (l : ScriptLine). l.act) line)
          (λ board shown. read-of p q of front bs x board split-lines d before (eqb-true of.gateway.0 g is) line shown)
          (next (front ++ x ∷ []) bs (d ∙ sym (append_assoc front (x ∷ []) bs)) done rest)

  lengths-rise : (issue : ℕ) → issue < length (issues_in rules) → Rise (lengths_at gateway issue (deeds g))
  lengths-rise issue named =
      let ended = there issue named in
      pairs-from_AllPairs (λ (m n : ℕ). m ≤ n) (lengths_at gateway issue (deeds g)) ((played issue ended.0 ended.1).each g some).played.forward

pub played-shows : PlayedShows
played-shows rules script participants issues cuts deeds gateway sound some each histories played lines = (
  walk rules script participants issues cuts deeds gateway sound some each histories played lines [] script.lines [] (deeds gateway.0) refl refl refl lines,
  pairs-all IsNoShorter (filter_map (show_of gateway) (deeds gateway.0))
      (forward gateway (length (issues_in rules)) (deeds gateway.0) (named-all rules script participants issues cuts deeds gateway sound some each histories played lines)
      (lengths-rise rules script participants issues cuts deeds gateway sound some each histories played lines)),
)
