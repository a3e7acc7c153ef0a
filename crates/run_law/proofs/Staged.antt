-- The calls of a script in an issue, with their stages, and what they say of each gateway and of a journal.
use Rattle.std.proofs.Common.{◌≡◌, ℕ, suc, ◌==◌, ◌≤◌, Bool, true, false, cond, ◌&&◌, List, [], ◌∷◌, ◌++◌, length, get_or, map, take, drop, Option, Some, None, refl, sym, ap, subst, ◌∙◌, arith, append-nil, append_assoc}
use Rattle.std.specs.List.{cons_option, filter_map, slice_get}
use Rattle.std.specs.Option.{option_map}
use Rattle.std.proofs.lemmas.Bool.{eq-eqb, eqb-false, eqb-true}
use Rattle.std.proofs.lemmas.List.{length-map, map_push}
use Rattle.std.proofs.lemmas.List.Elements.{filter_map-append}
use Rattle.mkt_base.specs.declared.event.Entry.{Entry}
use Rattle.mkt_base.specs.declared.event.Event.{Event}
use Rattle.mkt_base.specs.declared.script.Act.{Act}
use Rattle.mkt_base.specs.declared.script.Act.TheVariants.{Do, Show}
use Rattle.script_file.specs.Own.{is_event}
use Rattle.script_file.specs.declared.script.GatewayScriptLine.{GatewayScriptLine}
use Rattle.issue_machine.specs.History.{FollowOn, Follows, entries_by, is_by}
use Rattle.run_law.specs.Replayed.{Call, call_in, call_of, calls_for, calls_in}
use Rattle.run_law.specs.Run.{count_of, entered_by, event_in, events_for, stages_for, stages_in}
use Rattle.run_law.proofs.Lists.{bound, filter_map-agree, filter_map-filter, filter_map-twice, get-behind, map-filter, map-filter_map}

-- a call with its stage
pub record Staged : Type 0 where
  pub call : Call
  pub stage : ℕ

abbrev pub staged_in : ℕ → GatewayScriptLine → Option Staged
staged_in issue of = option_map (λ (c : Call). record { call = c; stage = of.line.stage }) (call_in issue of)

abbrev pub staged_for : ℕ → List GatewayScriptLine → List Staged
staged_for issue made = filter_map (staged_in issue) made

abbrev pub call_at : Staged → Call
call_at x = x.call

abbrev pub stage_at : Staged → ℕ
stage_at x = x.stage

-- of one gateway: events among calls, stages among calls with their stages
abbrev pub event_by : ℕ → Call → Option Event
event_by g c = cond (c.gateway == g) (Some c.event) None

abbrev pub events_by_calls : ℕ → List Call → List Event
events_by_calls g cs = filter_map (event_by g) cs

abbrev pub stage_by : ℕ → Staged → Option ℕ
stage_by g x = cond (x.call.gateway == g) (Some x.stage) None

abbrev pub stages_by_calls : ℕ → List Staged → List ℕ
stages_by_calls g xs = filter_map (stage_by g) xs

-- ---- a script's lines

-- the calls are those with stages
pub calls-staged : (issue : ℕ) (made : List GatewayScriptLine) → map call_at (staged_for issue made) ≡ calls_for issue made
calls-staged issue made = map-filter_map call_at (staged_in issue) (call_in issue) (λ of. by (call_in issue of) of.line.stage) made
  where
    by : (o : Option Call) (stage : ℕ) → bound (option_map (λ (c : Call). let x : Staged = record { call = c; stage = stage } in x) o) (λ x. Some (call_at x)) ≡ o
    by None stage = refl
    by (Some c) stage = refl

module _ (issue g : ℕ) where
  event-at : (a b : Bool) (gateway : ℕ) (act : Act) → (gateway == g) ≡ a
      → cond ((a && b) && is_event act) (event_in act) None ≡ bound (cond b (option_map (λ (e : Event). let c : Call = record { gateway = gateway; event = e } in c) (event_in act)) None) (event_by g)
  event-at true true gateway (Do event) is = ap (λ (t : Bool). cond t (Some event) None) (sym is)
  event-at true true gateway Show is = refl
  event-at true false gateway act is = refl
  event-at false true gateway (Do event) is = ap (λ (t : Bool). cond t (Some event) None) (sym is)
  event-at false true gateway Show is = refl
  event-at false false gateway act is = refl

  pub events-are : (made : List GatewayScriptLine) → events_for issue g made ≡ events_by_calls g (calls_for issue made)
  events-are made =
      filter_map-filter (λ (of : GatewayScriptLine). event_in of.line.act) (λ (of : GatewayScriptLine). of.gateway.0 == g && of.line.issue == issue && is_event of.line.act) made
      ∙ filter_map-agree _ _ (λ (of : GatewayScriptLine). event-at (of.gateway.0 == g) (of.line.issue == issue) of.gateway.0 of.line.act refl) made
      ∙ sym (filter_map-twice (call_in issue) (event_by g) made)

  stage-at : (a b : Bool) (gateway stage : ℕ) (act : Act) → (gateway == g) ≡ a
      → cond ((a && b) && is_event act) (Some stage) None
      ≡ bound (option_map (λ (c : Call). let x : Staged = record { call = c; stage = stage } in x) (cond b (option_map (λ (e : Event). let c : Call = record { gateway = gateway; event = e } in c) (event_in act)) None)) (stage_by g)
  stage-at true true gateway stage (Do event) is = ap (λ (t : Bool). cond t (Some stage) None) (sym is)
  stage-at true true gateway stage Show is = refl
  stage-at true false gateway stage act is = refl
  stage-at false true gateway stage (Do event) is = ap (λ (t : Bool). cond t (Some stage) None) (sym is)
  stage-at false true gateway stage Show is = refl
  stage-at false false gateway stage act is = refl

  pub stages-are : (made : List GatewayScriptLine) → stages_for issue g made ≡ stages_by_calls g (staged_for issue made)
  stages-are made =
      map-filter (λ (of : GatewayScriptLine). of.line.stage) (λ (of : GatewayScriptLine). of.gateway.0 == g && of.line.issue == issue && is_event of.line.act) made
      ∙ filter_map-agree _ _ (λ (of : GatewayScriptLine). stage-at (of.gateway.0 == g) (of.line.issue == issue) of.gateway.0 of.line.stage of.line.act refl) made
      ∙ sym (filter_map-twice (staged_in issue) (stage_by g) made)

-- ---- a journal

module _ (g : ℕ) (some : 1 ≤ g) where
  entry-at : (a b : Bool) (caller : ℕ) (event : Event) → (caller == g) ≡ a → (caller == 0) ≡ b
      → cond a (Some event) None ≡ bound (cond b None (Some (let c : Call = record { gateway = caller; event = event } in c))) (event_by g)
  entry-at true true caller event is none = absurd (omega (arith, eqb-true caller g is, eqb-true caller 0 none, some))
  entry-at true false caller event is none = ap (λ (t : Bool). cond t (Some event) None) (sym is)
  entry-at false true caller event is none = refl
  entry-at false false caller event is none = ap (λ (t : Bool). cond t (Some event) None) (sym is)

  -- what a gateway entered, by the calls
  pub entered-are : (journal : List Entry) → entered_by g journal ≡ events_by_calls g (calls_in journal)
  entered-are journal =
      map-filter (λ (e : Entry). e.event) (is_by g) journal
      ∙ filter_map-agree _ _ (λ (e : Entry). entry-at (e.caller.0 == g) (e.caller.0 == 0) e.caller.0 e.event refl refl) journal
      ∙ sym (filter_map-twice call_of (event_by g) journal)

  pub count-is : (journal : List Entry) → count_of g journal ≡ length (events_by_calls g (calls_in journal))
  count-is journal = sym (length-map (entries_by g journal) (λ (e : Entry). e.event)) ∙ ap length (entered-are journal)

-- as many stages as events
pub as-many : (g : ℕ) (xs : List Staged) → length (stages_by_calls g xs) ≡ length (events_by_calls g (map call_at xs))
as-many g [] = refl
as-many g (x ∷ xs) = by (x.call.gateway == g) (as-many g xs)
  where
    by : (b : Bool) → length (stages_by_calls g xs) ≡ length (events_by_calls g (map call_at xs)) → length (cons_option (cond b (Some x.stage) None) (stages_by_calls g xs)) ≡ length (cons_option (cond b (Some x.call.event) None) (events_by_calls g (map call_at xs)))
    by true rest = ap suc rest
    by false rest = rest

-- ---- the stages of a journal's entries, by those of the calls

pub calls-append : (es more : List Entry) → calls_in (es ++ more) ≡ calls_in es ++ calls_in more
calls-append es more = filter_map-append call_of es more

-- the stage of an entry by its own number
abbrev pub looked_up : List Staged → Entry → Option ℕ
looked_up xs e = cond (e.caller.0 == 0) None (slice_get (stages_by_calls e.caller.0 xs) e.own)

pub stages-looked_up : (issue : ℕ) (made : List GatewayScriptLine) (journal : List Entry) → stages_in issue made journal ≡ filter_map (looked_up (staged_for issue made)) journal
stages-looked_up issue made journal =
    filter_map-agree _ _ (λ (e : Entry). ap (λ (ss : List ℕ). cond (e.caller.0 == 0) None (slice_get ss e.own)) (stages-are issue e.caller.0 made)) journal

-- an entry behind others, and the entries behind it
module _ (participants : ℕ) (before es : List Entry) (e : Entry) (xb : List Staged) (rest : List Call) (follows : Follows participants before e) (these : calls_in before ≡ map call_at xb)
    (again : (xc ys : List Staged) → calls_in (before ++ e ∷ []) ≡ map call_at xc → map call_at ys ≡ calls_in es ++ rest → filter_map (looked_up (xc ++ ys)) es ≡ map stage_at (take (length (calls_in es)) ys)) where
  abbrev own-call : Option Call
  own-call = Some (record { gateway = e.caller.0; event = e.event })

  behind-system : (e.caller.0 == 0) ≡ true → (ys : List Staged) → map call_at ys ≡ calls_in es ++ rest → filter_map (looked_up (xb ++ ys)) es ≡ map stage_at (take (length (calls_in es)) ys)
  behind-system is ys are =
      let none : calls_in (e ∷ []) ≡ [] = ap (λ (b : Bool). cons_option (cond b None own-call) []) is in
      let still : calls_in (before ++ e ∷ []) ≡ map call_at xb = calls-append before (e ∷ []) ∙ ap (λ (cs : List Call). calls_in before ++ cs) none ∙ append-nil (calls_in before) ∙ these in
      again xb ys still are

  behind-gateway : (e.caller.0 == 0) ≡ false → (y : Staged) (ys : List Staged) → y.call ≡ (record { gateway = e.caller.0; event = e.event }) → map call_at ys ≡ calls_in es ++ rest
      → cons_option (slice_get (stages_by_calls e.caller.0 (xb ++ y ∷ ys)) e.own) (filter_map (looked_up (xb ++ y ∷ ys)) es) ≡ y.stage ∷ map stage_at (take (length (calls_in es)) ys)
  behind-gateway is y ys own are =
      let one : calls_in (e ∷ []) ≡ y.call ∷ [] = ap (λ (b : Bool). cons_option (cond b None own-call) []) is ∙ ap (λ (c : Call). c ∷ []) (sym own) in
      let now : calls_in (before ++ e ∷ []) ≡ map call_at (xb ++ y ∷ []) =
      calls-append before (e ∷ []) ∙ ap (λ (cs : List Call). calls_in before ++ cs) one ∙ ap (λ (cs : List Call). cs ++ y.call ∷ []) these ∙ sym (map_push call_at xb y) in
      let joined : (xb ++ y ∷ []) ++ ys ≡ xb ++ y ∷ ys = append_assoc xb (y ∷ []) ys in
      let more : filter_map (looked_up (xb ++ y ∷ ys)) es ≡ map stage_at (take (length (calls_in es)) ys) =
      subst (λ (zs : List Staged). filter_map (looked_up zs) es ≡ map stage_at (take (length (calls_in es)) ys)) joined (again (xb ++ y ∷ []) ys now are) in
      let g : ℕ = e.caller.0 in
      let some : 1 ≤ g = omega (arith, eqb-false e.caller.0 0 is) in
      let number : e.own ≡ length (stages_by_calls g xb) =
      follows.own ∙ count-is g some before ∙ ap (λ (cs : List Call). length (events_by_calls g cs)) these ∙ sym (as-many g xb) in
      let split : stages_by_calls g (xb ++ y ∷ ys) ≡ stages_by_calls g xb ++ stages_by_calls g (y ∷ ys) = filter_map-append (stage_by g) xb (y ∷ ys) in
      let its : (y.call.gateway == g) ≡ true = ap (λ (c : Call). c.gateway == g) own ∙ eq-eqb g g refl in
      let first : stages_by_calls g (y ∷ ys) ≡ y.stage ∷ stages_by_calls g ys = ap (λ (b : Bool). cons_option (cond b (Some y.stage) None) (stages_by_calls g ys)) its in
      let found : slice_get (stages_by_calls g (xb ++ y ∷ ys)) e.own ≡ Some y.stage =
      ap (λ (ss : List ℕ). slice_get ss e.own) (split ∙ ap (λ (ss : List ℕ). stages_by_calls g xb ++ ss) first) ∙ get-behind (stages_by_calls g xb) (stages_by_calls g ys) y.stage e.own number in
      ap (λ (o : Option ℕ). cons_option o (filter_map (looked_up (xb ++ y ∷ ys)) es)) found ∙ ap (λ (ss : List ℕ). y.stage ∷ ss) more

  behind-step : (b : Bool) → (e.caller.0 == 0) ≡ b → (ys : List Staged) → map call_at ys ≡ cons_option (cond b None own-call) (calls_in es) ++ rest
      → cons_option (cond b None (slice_get (stages_by_calls e.caller.0 (xb ++ ys)) e.own)) (filter_map (looked_up (xb ++ ys)) es) ≡ map stage_at (take (length (cons_option (cond b None own-call) (calls_in es))) ys)
  behind-step true is ys are = behind-system is ys are
  behind-step false is [] are = absurd (cc)
  behind-step false is (y ∷ ys) are = behind-gateway is y ys (ap (λ (cs : List Call). get_or cs 0 y.call) are) (ap (λ (cs : List Call). drop 1 cs) are)

  behind-one : (ys : List Staged) → map call_at ys ≡ calls_in (e ∷ es) ++ rest → filter_map (looked_up (xb ++ ys)) (e ∷ es) ≡ map stage_at (take (length (calls_in (e ∷ es))) ys)
  behind-one ys are = behind-step (e.caller.0 == 0) refl ys are

-- entries behind others, of calls behind those of the others
pub stages-behind : (participants : ℕ) (before es : List Entry) (xb xr : List Staged) (rest : List Call) → FollowOn participants before es → calls_in before ≡ map call_at xb → map call_at xr ≡ calls_in es ++ rest
    → filter_map (looked_up (xb ++ xr)) es ≡ map stage_at (take (length (calls_in es)) xr)
stages-behind participants before [] xb xr rest on these those = refl
stages-behind participants before (e ∷ es) xb xr rest on these those =
    behind-one participants before es e xb rest on.0 these (λ xc ys now are. stages-behind participants (before ++ e ∷ []) es xc ys rest on.1 now are) xr those
