-- The events that deeds asked to be entered, with their stages and the answers, and what a script's lines say of them.
use Rattle.std.proofs.Common.{◌≡◌, ℕ, ◌==◌, Bool, true, false, cond, ltb, ◌&&◌, List, [], ◌∷◌, ◌++◌, map, filter, filter_map, Option, Some, None, Result, All, AllPairs, option_map, refl, sym, ap, ◌∙◌}
use Rattle.std.specs.List.{AllByRecursion, cons_option, slice_get}
use Rattle.std.proofs.lemmas.List.Elements.{All-head, All-tail, filter_map-append}
use Rattle.mkt_base.specs.declared.event.Event.{Event}
use Rattle.mkt_base.specs.declared.event.Reply.{Reply}
use Rattle.mkt_base.specs.declared.journal.Stopped.{Stopped}
use Rattle.mkt_base.specs.declared.journal.TurnStop.{TurnStop}
use Rattle.mkt_base.specs.declared.script.Act.{Act}
use Rattle.mkt_base.specs.declared.script.Act.TheVariants.{Do, Show}
use Rattle.mkt_base.specs.declared.script.ScriptLine.{ScriptLine}
use Rattle.script_file.specs.Own.{is_event}
use Rattle.script_file.specs.declared.script.GatewayScriptLine.{GatewayScriptLine}
use Rattle.book_law.proofs.Pairs.{Pairs}
use Rattle.gateway.specs.Ran.{Deed}
use Rattle.gateway.specs.Served.{Answer, Entered, Shown, act_of, first_stop, is_no_node, made_by, stop_by}
use Rattle.gateway.proofs.Pairs.{pairs-head, pairs-tail}
use Rattle.run_law.specs.Run.{event_in, events_for, stages_for}
use Rattle.run_law.proofs.Lists.{filter_map-agree, filter_map-filter, map-filter}
use Rattle.stage_law.specs.Come.{answers_of, done_before, entered_in}
use Rattle.stage_law.specs.Played.{bare, lines_at, lines_done}

-- an event that was asked to be entered in this stage, and its answer
pub data Ask : Type 0 where
  Asked : ℕ → Event → Result Reply TurnStop → Ask

abbrev pub stage_at : Ask → ℕ
stage_at (Asked stage event reply) = stage

abbrev pub event_at : Ask → Event
event_at (Asked stage event reply) = event

abbrev pub answer_at : Ask → Answer
answer_at (Asked stage event reply) = Entered event reply

abbrev pub made_at : Ask → Option Event
made_at a = made_by (answer_at a)

abbrev pub stop_at : Ask → Option Stopped
stop_at a = stop_by (answer_at a)

abbrev pub is_end : Ask → Bool
is_end a = is_no_node (answer_at a)

-- it was asked in an earlier stage
abbrev pub is_before : ℕ → Ask → Bool
is_before s a = ltb (stage_at a) s

abbrev pub asked_in : ℕ → Answer → Option Ask
asked_in stage (Entered event reply) = Some (Asked stage event reply)
asked_in stage (Shown board) = None

abbrev pub ask_of : Deed → Option Ask
ask_of x = asked_in x.line.stage x.answer

abbrev pub asks : List Deed → List Ask
asks deeds = filter_map ask_of deeds

-- ---- of deeds

pub asks-append : (xs ys : List Deed) → asks (xs ++ ys) ≡ asks xs ++ asks ys
asks-append xs ys = filter_map-append ask_of xs ys

pub entered-asked : (xs : List Deed) → entered_in xs ≡ filter_map made_at (asks xs)
entered-asked [] = refl
entered-asked (x ∷ xs) = by x.answer (entered-asked xs)
  where
    by : (a : Answer) → entered_in xs ≡ filter_map made_at (asks xs) → cons_option (made_by a) (entered_in xs) ≡ filter_map made_at (cons_option (asked_in x.line.stage a) (asks xs))
    by (Entered event reply) rest = ap (λ (es : List Event). cons_option (made_by (Entered event reply)) es) rest
    by (Shown board) rest = rest

stops-asked : (xs : List Deed) → filter_map stop_by (answers_of xs) ≡ filter_map stop_at (asks xs)
stops-asked [] = refl
stops-asked (x ∷ xs) = by x.answer (stops-asked xs)
  where
    by : (a : Answer) → filter_map stop_by (answers_of xs) ≡ filter_map stop_at (asks xs) → cons_option (stop_by a) (filter_map stop_by (answers_of xs)) ≡ filter_map stop_at (cons_option (asked_in x.line.stage a) (asks xs))
    by (Entered event reply) rest = ap (λ (ss : List Stopped). cons_option (stop_by (Entered event reply)) ss) rest
    by (Shown board) rest = rest

pub first-asked : (xs : List Deed) → first_stop None (answers_of xs) ≡ slice_get (filter_map stop_at (asks xs)) 0
first-asked xs = ap (λ (ss : List Stopped). slice_get ss 0) (stops-asked xs)

-- those of earlier stages
pub asks-before : (s : ℕ) (xs : List Deed) → asks (done_before s xs) ≡ filter (is_before s) (asks xs)
asks-before s [] = refl
asks-before s (x ∷ xs) = by x.answer (ltb x.line.stage s) refl (asks-before s xs)
  where
    by : (a : Answer) (b : Bool) → ltb x.line.stage s ≡ b → asks (done_before s xs) ≡ filter (is_before s) (asks xs)
        → asks (cond b ((let y : Deed = record { line = x.line; answer = a } in y) ∷ done_before s xs) (done_before s xs)) ≡ filter (is_before s) (cons_option (asked_in x.line.stage a) (asks xs))
    by (Entered event reply) true is rest =
        ap (λ (zs : List Ask). Asked x.line.stage event reply ∷ zs) rest
        ∙ sym (ap (λ (t : Bool). cond t (Asked x.line.stage event reply ∷ filter (is_before s) (asks xs)) (filter (is_before s) (asks xs))) is)
    by (Entered event reply) false is rest =
        rest ∙ sym (ap (λ (t : Bool). cond t (Asked x.line.stage event reply ∷ filter (is_before s) (asks xs)) (filter (is_before s) (asks xs))) is)
    by (Shown board) true is rest = rest
    by (Shown board) false is rest = rest

-- what holds of all answers holds of those to events
pub each-asked : (P : Answer → Type 0) (xs : List Deed) → All P (answers_of xs) → AllByRecursion (λ (a : Ask). P (answer_at a)) (asks xs)
each-asked P [] all = tt
each-asked P (x ∷ xs) all = by x.answer (All-head P x.answer (answers_of xs) all) (each-asked P xs (All-tail P x.answer (answers_of xs) all))
  where
    by : (a : Answer) → P a → AllByRecursion (λ (b : Ask). P (answer_at b)) (asks xs) → AllByRecursion (λ (b : Ask). P (answer_at b)) (cons_option (asked_in x.line.stage a) (asks xs))
    by (Entered event reply) first rest = (first, rest)
    by (Shown board) first rest = rest

pub pairs-asked : (R : Answer → Answer → Type 0) (xs : List Deed) → AllPairs R (answers_of xs) → Pairs (λ (a b : Ask). R (answer_at a) (answer_at b)) (asks xs)
pairs-asked R [] all = tt
pairs-asked R (x ∷ xs) all =
    by x.answer (each-asked (R x.answer) xs (pairs-head R x.answer (answers_of xs) all)) (pairs-asked R xs (pairs-tail R x.answer (answers_of xs) all))
  where
    by : (a : Answer) → AllByRecursion (λ (b : Ask). R a (answer_at b)) (asks xs) → Pairs (λ (c d : Ask). R (answer_at c) (answer_at d)) (asks xs)
        → Pairs (λ (c d : Ask). R (answer_at c) (answer_at d)) (cons_option (asked_in x.line.stage a) (asks xs))
    by (Entered event reply) first rest = (first, rest)
    by (Shown board) first rest = rest

-- ---- of lines

abbrev pub WasAsked : Deed → Type 0
WasAsked x = act_of x.answer ≡ x.line.act

abbrev pub event_by_line : ScriptLine → Option Event
event_by_line l = event_in l.act

abbrev pub stage_by_line : ScriptLine → Option ℕ
stage_by_line l = option_map (λ (event : Event). l.stage) (event_in l.act)

filter_map-map : {X Y Z : Type 0} (h : Y → Option Z) (f : X → Y) (xs : List X) → filter_map h (map f xs) ≡ filter_map (λ x. h (f x)) xs
filter_map-map h f [] = refl
filter_map-map {X} {Y} {Z} h f (x ∷ xs) = ap (λ (zs : List Z). cons_option (h (f x)) zs) (filter_map-map h f xs)

module _ (issue g : ℕ) (made : List GatewayScriptLine) where
  abbrev is_here : GatewayScriptLine → Bool
  is_here of = of.gateway.0 == g && of.line.issue == issue

  abbrev makes_here : GatewayScriptLine → Bool
  makes_here of = of.gateway.0 == g && of.line.issue == issue && is_event of.line.act

  event-same : (b : Bool) (act : Act) → cond (b && is_event act) (event_in act) None ≡ cond b (event_in act) None
  event-same true (Do event) = refl
  event-same true Show = refl
  event-same false act = refl

  stage-same : (b : Bool) (stage : ℕ) (act : Act) → cond (b && is_event act) (Some stage) None ≡ cond b (option_map (λ (event : Event). stage) (event_in act)) None
  stage-same true stage (Do event) = refl
  stage-same true stage Show = refl
  stage-same false stage act = refl

  events-of-lines : events_for issue g made ≡ filter_map event_by_line (bare (lines_at issue g made))
  events-of-lines =
      filter_map-filter (λ (of : GatewayScriptLine). event_in of.line.act) makes_here made
      ∙ filter_map-agree _ _ (λ (of : GatewayScriptLine). event-same (is_here of) of.line.act) made
      ∙ sym (filter_map-filter (λ (of : GatewayScriptLine). event_by_line of.line) is_here made)
      ∙ sym (filter_map-map event_by_line (λ (of : GatewayScriptLine). of.line) (lines_at issue g made))

  stages-of-lines : stages_for issue g made ≡ filter_map stage_by_line (bare (lines_at issue g made))
  stages-of-lines =
      map-filter (λ (of : GatewayScriptLine). of.line.stage) makes_here made
      ∙ filter_map-agree _ _ (λ (of : GatewayScriptLine). stage-same (is_here of) of.line.stage of.line.act) made
      ∙ sym (filter_map-filter (λ (of : GatewayScriptLine). stage_by_line of.line) is_here made)
      ∙ sym (filter_map-map stage_by_line (λ (of : GatewayScriptLine). of.line) (lines_at issue g made))

events-of-deeds : (xs : List Deed) → All WasAsked xs → filter_map event_by_line (lines_done xs) ≡ map event_at (asks xs)
events-of-deeds [] all = refl
events-of-deeds (x ∷ xs) all = by x.answer x.line.act (All-head WasAsked x xs all) (events-of-deeds xs (All-tail WasAsked x xs all))
  where
    by : (a : Answer) (act : Act) → act_of a ≡ act → filter_map event_by_line (lines_done xs) ≡ map event_at (asks xs) → cons_option (event_in act) (filter_map event_by_line (lines_done xs)) ≡ map event_at (cons_option (asked_in x.line.stage a) (asks xs))
    by (Entered event reply) act is rest = ap (λ (t : Act). cons_option (event_in t) (filter_map event_by_line (lines_done xs))) (sym is) ∙ ap (λ (es : List Event). event ∷ es) rest
    by (Shown board) act is rest = ap (λ (t : Act). cons_option (event_in t) (filter_map event_by_line (lines_done xs))) (sym is) ∙ rest

stages-of-deeds : (xs : List Deed) → All WasAsked xs → filter_map stage_by_line (lines_done xs) ≡ map stage_at (asks xs)
stages-of-deeds [] all = refl
stages-of-deeds (x ∷ xs) all = by x.answer x.line.act (All-head WasAsked x xs all) (stages-of-deeds xs (All-tail WasAsked x xs all))
  where
    by : (a : Answer) (act : Act) → act_of a ≡ act → filter_map stage_by_line (lines_done xs) ≡ map stage_at (asks xs)
        → cons_option (option_map (λ (event : Event). x.line.stage) (event_in act)) (filter_map stage_by_line (lines_done xs)) ≡ map stage_at (cons_option (asked_in x.line.stage a) (asks xs))
    by (Entered event reply) act is rest =
        ap (λ (t : Act). cons_option (option_map (λ (e : Event). x.line.stage) (event_in t)) (filter_map stage_by_line (lines_done xs))) (sym is) ∙ ap (λ (ns : List ℕ). x.line.stage ∷ ns) rest
    by (Shown board) act is rest = ap (λ (t : Act). cons_option (option_map (λ (e : Event). x.line.stage) (event_in t)) (filter_map stage_by_line (lines_done xs))) (sym is) ∙ rest

-- a gateway's events in an issue, and their stages, are those that its deeds asked for
pub events-asked : (issue g : ℕ) (made : List GatewayScriptLine) (xs : List Deed) → lines_done xs ≡ bare (lines_at issue g made) → All WasAsked xs → events_for issue g made ≡ map event_at (asks xs)
events-asked issue g made xs lines asked = events-of-lines issue g made ∙ ap (filter_map event_by_line) (sym lines) ∙ events-of-deeds xs asked

pub stages-asked : (issue g : ℕ) (made : List GatewayScriptLine) (xs : List Deed) → lines_done xs ≡ bare (lines_at issue g made) → All WasAsked xs → stages_for issue g made ≡ map stage_at (asks xs)
stages-asked issue g made xs lines asked = stages-of-lines issue g made ∙ ap (filter_map stage_by_line) (sym lines) ∙ stages-of-deeds xs asked
