-- One read of a board by a gateway's line, in an issue whose gateways did their lines by stages.
use Rattle.std.proofs.Common.{◌≡◌, ℕ, ◌+◌, ◌<◌, ◌≤◌, List, ◌∷◌, ◌++◌, length, min, take, drop, IfSome, All, AllPairs, slice_get, refl, sym, ap, subst, ◌∙◌, arith, length-append}
use Rattle.std.specs.List.{AllByRecursion}
use Rattle.std.proofs.lemmas.List.{get_or_append_left, length-map, map-append}
use Rattle.std.proofs.lemmas.List.Elements.{All-from_recursion, All-head}
use Rattle.mkt_base.specs.declared.event.Entry.{Entry}
use Rattle.mkt_base.specs.declared.quote.Board.{Board}
use Rattle.mkt_base.specs.declared.script.ScriptLine.{ScriptLine}
use Rattle.mkt_base.specs.declared.script.ShowLine.{ShowLine}
use Rattle.rules_file.specs.declared.rules.Rules.{Rules}
use Rattle.script_file.specs.Script.{IsBefore, IsScript}
use Rattle.script_file.specs.declared.script.GatewayScriptLine.{GatewayScriptLine}
use Rattle.script_file.specs.declared.script.Script.{Script}
use Rattle.issue_machine.specs.History.{IsHistory}
use Rattle.book_law.proofs.Pairs.{pairs-from_AllPairs}
use Rattle.gateway.specs.Ran.{Deed}
use Rattle.gateway.specs.Served.{Answer, AreTold, Shown, board_by}
use Rattle.gateway.proofs.Lines.{all-behind}
use Rattle.gateway.proofs.Serving.{told-at}
use Rattle.run_report.specs.declared.ended.EndedIssue.{EndedIssue}
use Rattle.run_law.specs.Run.{IsShowOf, count_of, made_before, stages_in}
use Rattle.run_law.proofs.RunLemmas.{pairs-ahead, pairs-behind}
use Rattle.run_law.proofs.Shows.{made-before}
use Rattle.run_law.proofs.Staged.{events-are}
use Rattle.stage_law.specs.Come.{Cut, IsReadWithin, answers_of, entered_in}
use Rattle.stage_law.specs.Laws.{AllPlayed}
use Rattle.stage_law.specs.Played.{HasPlayedLines, IsTold, bare, lines_at, lines_done}
use Rattle.stage_law.proofs.Asks.{WasAsked, asks, asks-append, entered-asked, event_at, events-asked}
use Rattle.stage_law.proofs.Places.{before-cut, behind-cut, stages-each, stages-rise, stages-under}
use Rattle.stage_law.proofs.Rises.{get-dropped, get-taken}
use Rattle.stage_law.proofs.Splits.{entered-first}
use Rattle.stage_law.proofs.Went.{Went, many-front, split, went-of}

all-front : {X : Type 0} (P : X → Type 0) (xs ys : List X) → All P (xs ++ ys) → All P xs
all-front P xs ys all = λ k d less. subst P (get_or_append_left xs ys d k less) (all k d (omega (arith, less, length-append xs ys)))

-- a line that reads the board, among the script's lines, and its deed, among its gateway's deeds in the issue
module _ (rules : Rules) (script : Script) (participants : ℕ) (cuts : ℕ → Cut) (ended : EndedIssue) (all : ℕ → List Deed) (sound : IsScript rules script) (history : IsHistory participants ended.journal)
    (p q : List GatewayScriptLine) (of : GatewayScriptLine) (split-lines : script.lines ≡ p ++ of ∷ q) (played : AllPlayed script of.line.issue cuts ended all)
    (g : ℕ) (some : 1 ≤ g) (front back : List Deed) (x : Deed) (board : Board) (split-deeds : all g ≡ front ++ x ∷ back) (line : x.line ≡ of.line) (shown : x.answer ≡ Shown board)
    (lines : lines_done front ≡ bare (lines_at of.line.issue g p)) where
  abbrev issue : ℕ
  issue = of.line.issue

  abbrev journal : List Entry
  journal = ended.journal

  went : (c : ℕ) → 1 ≤ c → Went issue c script.lines script.stages cuts journal
  went c one = went-of issue c script.stages script.lines cuts ended (all c) (played.each c one) (stages-rise rules script sound issue c) (stages-under rules script sound issue c)

  its : HasPlayedLines script.lines script.stages issue g cuts ended (front ++ x ∷ back)
  its = subst (HasPlayedLines script.lines script.stages issue g cuts ended) split-deeds (played.each g some)

  answers-are : answers_of (front ++ x ∷ back) ≡ answers_of front ++ Shown board ∷ answers_of back
  answers-are = map-append (λ (y : Deed). y.answer) front (x ∷ back) ∙ ap (λ (a : Answer). answers_of front ++ a ∷ answers_of back) shown

  told : IsTold g journal board (0 + length (entered_in front))
  told = told-at (IsTold g journal) 0 (answers_of front) (answers_of back) board (subst (AreTold (IsTold g journal) 0) answers-are its.played.boards)

  -- the cuts of its stage and of the next
  within : ((cuts of.line.stage).length ≤ board.length) × (board.length ≤ (cuts (of.line.stage + 1)).length)
  within =
      let read : IsReadWithin cuts x = All-head (IsReadWithin cuts) x back (all-behind (IsReadWithin cuts) front (x ∷ back) its.played.read) in
      let here : ((cuts x.line.stage).length ≤ board.length) × (board.length ≤ (cuts (x.line.stage + 1)).length) =
      subst (λ (a : Answer). IfSome (board_by a) (λ (b : Board). ((cuts x.line.stage).length ≤ b.length) × (b.length ≤ (cuts (x.line.stage + 1)).length))) shown read in
      subst (λ (l : ScriptLine). ((cuts l.stage).length ≤ board.length) × (board.length ≤ (cuts (l.stage + 1)).length)) line here

  under : of.line.stage < script.stages
  under = All-head (λ (l : GatewayScriptLine). l.line.stage < script.stages) of q
      (all-behind (λ (l : GatewayScriptLine). l.line.stage < script.stages) p (of ∷ q) (subst (All (λ (l : GatewayScriptLine). l.line.stage < script.stages)) split-lines sound.below))

  front-stages : AllByRecursion (λ (n : ℕ). n ≤ of.line.stage) (stages_in issue script.lines (take board.length journal))
  front-stages = stages-each issue script.lines (λ (n : ℕ). n ≤ of.line.stage) (take board.length journal) (λ k e t at is.
      let taken = get-taken board.length k journal e at in
      let less : k < (cuts (of.line.stage + 1)).length = nearer k board.length (cuts (of.line.stage + 1)).length taken.1 within.1 in
      at-most t of.line.stage (before-cut participants issue script.lines script.stages cuts journal history went k e t taken.0 is (of.line.stage + 1) (omega (arith, under)) less))
    where
      nearer : (a b c : ℕ) → a < b → b ≤ c → a < c
      nearer a b c h k = omega (arith, h, k)

      at-most : (a b : ℕ) → a < b + 1 → a ≤ b
      at-most a b h = omega (arith, h)

  behind-stages : AllByRecursion (λ (n : ℕ). of.line.stage ≤ n) (stages_in issue script.lines (drop board.length journal))
  behind-stages = stages-each issue script.lines (λ (n : ℕ). of.line.stage ≤ n) (drop board.length journal) (λ k e t at is.
      behind-cut participants issue script.lines script.stages cuts journal history went (board.length + k) e t (get-dropped board.length k (board.length + k) journal e refl at) is of.line.stage (omega (arith, under))
      (farther (cuts of.line.stage).length board.length k within.0))
    where
      farther : (a b k : ℕ) → a ≤ b → a ≤ b + k
      farther a b k h = omega (arith, h)

  -- of its own gateway's events those of the lines before it
  lines-before : made_before issue g of.line.line script.lines ≡ length (asks front)
  lines-before =
      let order = pairs-from_AllPairs IsBefore (p ++ of ∷ q) (subst (AllPairs IsBefore) split-lines sound.rise) in
      let asked : All WasAsked front = all-front WasAsked front (x ∷ back) its.asked in
      ap (made_before issue g of.line.line) split-lines
      ∙ made-before of p q (pairs-ahead IsBefore p q of order) (pairs-behind IsBefore p q of order) g
      ∙ ap length (sym (events-are issue g p) ∙ events-asked issue g p front lines asked)
      ∙ length-map (asks front) event_at

  own : count_of g (take board.length journal) ≡ min (made_before issue g of.line.line script.lines) (count_of g journal)
  own =
      let parts = split issue g script.stages script.lines cuts ended (front ++ x ∷ back) its (stages-rise rules script sound issue g) (stages-under rules script sound issue g) in
      let many : count_of g journal ≡ length parts.front = many-front issue g script.stages script.lines cuts ended (front ++ x ∷ back) its (stages-rise rules script sound issue g) (stages-under rules script sound issue g) in
      let same : asks front ++ asks (x ∷ back) ≡ parts.front ++ parts.back = sym (asks-append front (x ∷ back)) ∙ parts.whole in
      told.own ∙ plus (length (entered_in front)) ∙ ap length (entered-asked front)
      ∙ entered-first parts.front parts.back (asks front) (asks (x ∷ back)) parts.made parts.lost same
      ∙ ap (λ (n : ℕ). min n (length parts.front)) (sym lines-before) ∙ ap (min (made_before issue g of.line.line script.lines)) (sym many)
    where
      plus : (n : ℕ) → 0 + n ≡ n
      plus n = omega arith

  pub show-is : (s : ShowLine) → of.gateway.0 ≡ g → s.line ≡ of.line.line → s.gateway ≡ of.gateway → s.issue ≡ of.line.issue → s.board ≡ board → IsShowOf script.lines journal of s
  show-is s mine number whose where_read read = record {
    line = number;
    gateway = whose;
    issue = where_read;
    whole = subst (λ (b : Board). IfSome (slice_get journal b.length) (λ (e : Entry). 1 ≤ e.caller.0)) (sym read) told.whole;
    front = subst (λ (b : Board). All (λ (n : ℕ). n ≤ of.line.stage) (stages_in issue script.lines (take b.length journal))) (sym read)
        (All-from_recursion (λ (n : ℕ). n ≤ of.line.stage) (stages_in issue script.lines (take board.length journal)) front-stages);
    behind = subst (λ (b : Board). All (λ (n : ℕ). of.line.stage ≤ n) (stages_in issue script.lines (drop b.length journal))) (sym read)
        (All-from_recursion (λ (n : ℕ). of.line.stage ≤ n) (stages_in issue script.lines (drop board.length journal)) behind-stages);
    own = subst (λ (b : Board). count_of of.gateway.0 (take b.length journal) ≡ min (made_before issue of.gateway.0 of.line.line script.lines) (count_of of.gateway.0 journal)) (sym read)
        (subst (λ (c : ℕ). count_of c (take board.length journal) ≡ min (made_before issue c of.line.line script.lines) (count_of c journal)) (sym mine) own);
  }
