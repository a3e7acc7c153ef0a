-- An event of a script's line is entered in its issue.
use Rattle.std.proofs.Common.{◌≡◌, ◌⊎◌, inl, inr, ℕ, suc, ◌+◌, ◌==◌, ◌≤◌, Bool, true, false, cond, List, [], ◌∷◌, ◌++◌, length, All, Option, Some, None, refl, sym, ap, subst, ◌∙◌, arith, append-nil, append_assoc}
use Rattle.std.specs.List.{cons_option}
use Rattle.std.specs.Option.{IfSome, option_map}
use Rattle.std.proofs.lemmas.Bool.{eq-eqb, eqb-true, ne_eqb}
use Rattle.std.proofs.lemmas.List.Elements.{All-append, All-cons, All-nil, filter_map-append}
use Rattle.std.proofs.lemmas.List.Sums.{sum_by-cons}
use Rattle.mkt_base.specs.declared.event.Entry.{Entry}
use Rattle.mkt_base.specs.declared.event.Event.{Event}
use Rattle.mkt_base.specs.declared.event.Event.TheVariants as events
use Rattle.mkt_base.specs.declared.event.Reply.{Reply}
use Rattle.mkt_base.specs.declared.journal.Halt.{Halt}
use Rattle.mkt_base.specs.declared.script.Act.{Act}
use Rattle.mkt_base.specs.declared.script.Act.TheVariants.{Do, Show}
use Rattle.mkt_base.specs.declared.units.Caller.{Caller}
use Rattle.node_rules.specs.Nodes.{IsCrashOf}
use Rattle.rules_file.specs.Rules.{gateways_in}
use Rattle.rules_file.specs.declared.rules.Rules.{Rules}
use Rattle.script_file.specs.declared.script.GatewayScriptLine.{GatewayScriptLine}
use Rattle.issue_machine.specs.History.{FollowOn, IsHistory, entries_by}
use Rattle.issue_journal.specs.Issue.{Fixed, IssueNow}
use Rattle.issue_journal.specs.Laws.{LossesStayFew, is_rejoin, rejoins}
use Rattle.issue_journal.specs.Turned.{HasNoNode, TurnDone, WasHalted, entry_behind, halt_of, with_turn}
use Rattle.turn_writer.specs.Losses.{losses_from}
use Rattle.turn_writer.specs.Writing.{asks, turn_entries}
use Rattle.run_law.specs.Replayed.{AreInFileOrder, Call, call_at_halt, call_in, call_of, calls_for, calls_in}
use Rattle.run_law.specs.Run.{event_in}
use Rattle.script_run.specs.Entering.{WasEntered}
use Rattle.script_run.specs.Running.{HasPlaceFor, IsAfter, IsOpenedFor, count_for}
use Rattle.script_run.proofs.CountLemmas.{calls-counted}

-- ---- the calls of a turn

losses-call-nothing : (place own : ℕ) (lost : List ℕ) → calls_in (losses_from place own lost) ≡ []
losses-call-nothing place own [] = refl
losses-call-nothing place own (k ∷ lost) = losses-call-nothing (place + 1) (own + 1) lost

abbrev pub call_by : Caller → Event → Call
call_by caller event = record { gateway = caller.0; event = event }

pub first-call : (e : Entry) (es : List Entry) → 1 ≤ e.caller.0 → calls_in (e ∷ es) ≡ call_by e.caller e.event ∷ calls_in es
first-call e es some = by (e.caller.0 == 0) refl
  where
    by : (b : Bool) → (e.caller.0 == 0) ≡ b → cons_option (cond b None (Some (call_by e.caller e.event))) (calls_in es) ≡ call_by e.caller e.event ∷ calls_in es
    by true is = absurd (omega (arith, eqb-true e.caller.0 0 is, some))
    by false is = refl

pub calls-turned : (journal : List Entry) (caller : Caller) (event : Event) (losses : List ℕ) → 1 ≤ caller.0 → calls_in (with_turn journal caller event losses) ≡ calls_in journal ++ call_by caller event ∷ []
calls-turned journal caller event losses some =
    let e : Entry = entry_behind journal caller event in
    filter_map-append call_of journal (turn_entries e (length (entries_by 0 journal)) losses)
    ∙ ap (λ (cs : List Call). calls_in journal ++ cs)
    (first-call e (losses_from (e.place + 1) (length (entries_by 0 journal)) losses) some
    ∙ ap (λ (cs : List Call). call_by caller event ∷ cs) (losses-call-nothing (e.place + 1) (length (entries_by 0 journal)) losses))

-- ---- the calls of one line more

module _ (i : ℕ) (done : List GatewayScriptLine) (of : GatewayScriptLine) where
  calls-more : calls_for i (done ++ of ∷ []) ≡ calls_for i done ++ cons_option (call_in i of) []
  calls-more = filter_map-append (call_in i) done (of ∷ [])

  pub calls-other : (of.line.issue ≡ i → ⊥) → calls_for i (done ++ of ∷ []) ≡ calls_for i done
  calls-other apart =
      calls-more
      ∙ ap (λ (b : Bool). calls_for i done ++ cons_option (cond b (option_map (λ (event : Event). let c : Call = record { gateway = of.gateway.0; event = event } in c) (event_in of.line.act)) None) []) (ne_eqb of.line.issue i apart)
      ∙ append-nil (calls_for i done)

  pub calls-event : (event : Event) → of.line.issue ≡ i → of.line.act ≡ Do event → calls_for i (done ++ of ∷ []) ≡ calls_for i done ++ call_by of.gateway event ∷ []
  calls-event event same does =
      calls-more
      ∙ ap (λ (b : Bool). calls_for i done ++ cons_option (cond b (option_map (λ (event : Event). let c : Call = record { gateway = of.gateway.0; event = event } in c) (event_in of.line.act)) None) []) (eq-eqb of.line.issue i same)
      ∙ ap (λ (act : Act). calls_for i done ++ cons_option (option_map (λ (event : Event). let c : Call = record { gateway = of.gateway.0; event = event } in c) (event_in act)) []) does

  pub calls-show : of.line.act ≡ Show → calls_for i (done ++ of ∷ []) ≡ calls_for i done
  calls-show shows =
      calls-more
      ∙ ap (λ (act : Act). calls_for i done ++ cons_option (cond (of.line.issue == i) (option_map (λ (event : Event). let c : Call = record { gateway = of.gateway.0; event = event } in c) (event_in act)) None) []) shows
      ∙ by (of.line.issue == i)
    where
      by : (b : Bool) → calls_for i done ++ cons_option (cond {A = Option Call} b None None) [] ≡ calls_for i done
      by true = append-nil (calls_for i done)
      by false = append-nil (calls_for i done)

-- ---- the issue after it

-- the system is no gateway
all-losses : (most place own : ℕ) (lost : List ℕ) → All (λ (e : Entry). e.caller.0 ≤ most) (losses_from place own lost)
all-losses most place own [] = All-nil (λ (e : Entry). e.caller.0 ≤ most)
all-losses most place own (k ∷ lost) =
    All-cons (λ (e : Entry). e.caller.0 ≤ most) _ (losses_from (place + 1) (own + 1) lost) (omega arith) (all-losses most (place + 1) (own + 1) lost)

module _ (rules : Rules) (made done : List GatewayScriptLine) (i : ℕ) (of : GatewayScriptLine) (event : Event) (old new : IssueNow) (its : of.line.issue ≡ i) (does : of.line.act ≡ Do event)
    (some : 1 ≤ of.gateway.0) (known : of.gateway.0 ≤ length (gateways_in rules)) (before : IsAfter rules made done i old) (entered : WasEntered of.gateway event old new) where
  abbrev next : List GatewayScriptLine
  next = done ++ of ∷ []

  -- an issue of the same fixed part
  opened-again : All (λ (e : Entry). e.caller.0 ≤ length (gateways_in rules)) new.entries → IfSome new.halt (λ h. h.caller.0 ≤ length (gateways_in rules)) → IsOpenedFor rules i (count_for i made) new
  opened-again callers halter =
      let opened = before.opened in record {
        issue_now = entered.stands;
        terms = λ r is. ap (λ (f : Fixed). f.terms) entered.fixed ∙ opened.terms r is;
        participants = ap (λ (f : Fixed). f.participants) entered.fixed ∙ opened.participants;
        capacity = ap (λ (f : Fixed). f.capacity) entered.fixed ∙ opened.capacity;
        place = ap (λ (f : Fixed). f.place) entered.fixed ∙ opened.place;
        first = ap (λ (f : Fixed). f.first) entered.fixed ∙ opened.first;
        second = ap (λ (f : Fixed). f.second) entered.fixed ∙ opened.second;
        third = ap (λ (f : Fixed). f.third) entered.fixed ∙ opened.third;
        callers = callers;
        halter = halter;
      }

  calls-now : calls_for i next ≡ calls_for i done ++ call_by of.gateway event ∷ []
  calls-now = calls-event i done of event its does

  -- it was recorded
  after-turn : (reply : Reply) → TurnDone of.gateway event reply old new → IsAfter rules made next i new
  after-turn reply turn =
      let By : Entry → Type 0 = λ e. e.caller.0 ≤ length (gateways_in rules) in
      let all : All By (with_turn old.entries of.gateway event turn.losses) =
      All-append By old.entries _ before.opened.callers (All-cons By _ _ known (all-losses (length (gateways_in rules)) _ _ turn.losses)) in
      let order : calls_in old.entries ≡ calls_for i done = subst (AreInFileOrder i done old.entries) turn.before before.order in
      let now : calls_in new.entries ≡ calls_for i next =
      ap calls_in turn.entries ∙ calls-turned old.entries of.gateway event turn.losses some ∙ ap (λ (cs : List Call). cs ++ call_by of.gateway event ∷ []) order ∙ sym calls-now in
      record {
        opened = opened-again (subst (All By) (sym turn.entries) all) (subst (λ (h : Option Halt). IfSome h (λ g. g.caller.0 ≤ length (gateways_in rules))) (sym turn.after) tt);
        order = subst (AreInFileOrder i next new.entries) (sym turn.after) now;
      }

  -- the issue was halted before
  after-none : (h : Halt) → old.halt ≡ Some h → new ≡ old → IsAfter rules made next i new
  after-none h is same =
      let order : AreInFileOrder i done old.entries (Some h) = subst (AreInFileOrder i done old.entries) is before.order in
      let now : calls_for i next ≡ calls_in old.entries ++ call_at_halt h ∷ (order.0 ++ call_by of.gateway event ∷ []) =
      calls-now ∙ ap (λ (cs : List Call). cs ++ call_by of.gateway event ∷ []) order.1 ∙ append_assoc (calls_in old.entries) (call_at_halt h ∷ order.0) (call_by of.gateway event ∷ []) in
      let both : AreInFileOrder i next old.entries (Some h) = (order.0 ++ call_by of.gateway event ∷ [], now) in
      subst (λ (x : IssueNow). IsAfter rules made next i x) (sym same) (record { opened = before.opened; order = subst (AreInFileOrder i next old.entries) (sym is) both })

  -- or by this event
  after-halt : WasHalted of.gateway event old new → IsAfter rules made next i new
  after-halt halted =
      let order : calls_in old.entries ≡ calls_for i done = subst (AreInFileOrder i done old.entries) halted.running before.order in
      let h : Halt = halt_of of.gateway (length (entries_by of.gateway.0 old.entries)) event in
      let now : calls_for i next ≡ calls_in new.entries ++ call_at_halt h ∷ [] =
      calls-now ∙ ap (λ (cs : List Call). cs ++ call_by of.gateway event ∷ []) (sym order ∙ ap calls_in (sym halted.entries)) in
      let By : Entry → Type 0 = λ e. e.caller.0 ≤ length (gateways_in rules) in
      record {
        opened = opened-again (subst (All By) (sym halted.entries) before.opened.callers) (subst (λ (g : Option Halt). IfSome g (λ x. x.caller.0 ≤ length (gateways_in rules))) (sym halted.halt) known);
        order = subst (AreInFileOrder i next new.entries) (sym halted.halt) (let both : AreInFileOrder i next new.entries (Some h) = ([], now) in both);
      }

  pub after-entered : IsAfter rules made next i new
  after-entered = by entered.turned
    where
      by : ((reply : Reply) × TurnDone of.gateway event reply old new) ⊎ HasNoNode of.gateway event old new → IsAfter rules made next i new
      by (inl turn) = after-turn turn.0 turn.1
      by (inr (inl none)) = after-none none.0 none.1 none.2
      by (inr (inr halted)) = after-halt halted

-- ---- there is room for it

-- the system enters no rejoin
rejoins-few : (participants : ℕ) (before es : List Entry) → FollowOn participants before es → rejoins es ≤ length (calls_in es)
rejoins-few participants before [] on = omega arith
rejoins-few participants before (e ∷ es) on = by (e.caller.0 == 0) refl (rejoins-few participants (before ++ e ∷ []) es on.1)
  where
    sums : rejoins (e ∷ es) ≡ cond (is_rejoin e.event) 1 0 + rejoins es
    sums = sum_by-cons (λ (x : Entry). cond (is_rejoin x.event) 1 0) e es

    one : (b : Bool) → cond {A = ℕ} b 1 0 ≤ 1
    one true = omega arith
    one false = omega arith

    none : (event : Event) (k : ℕ) → IsCrashOf event k → is_rejoin event ≡ false
    none (events.Order participant side kind qty) k is = absurd is
    none (events.Change participant target kind qty) k is = absurd is
    none (events.Cancel participant target) k is = absurd is
    none (events.Clock at) k is = absurd is
    none (events.Crash node) k is = refl
    none (events.Rejoin node) k is = absurd is

    by : (b : Bool) → (e.caller.0 == 0) ≡ b → rejoins es ≤ length (calls_in es) → rejoins (e ∷ es) ≤ length (cons_option (cond b None (Some (call_by e.caller e.event))) (calls_in es))
    by true is rest =
        let loss = on.0.loss (eqb-true e.caller.0 0 is) in
        let still : cond {A = ℕ} (is_rejoin e.event) 1 0 ≡ 0 = ap (λ (b : Bool). cond {A = ℕ} b 1 0) (none e.event loss.node loss.crash) in
        omega (arith, sums, rest, still)
    by false is rest = omega (arith, sums, rest, one (is_rejoin e.event))

-- the entries are the gateways' and the system's
entries-split : (es : List Entry) → length es ≡ length (calls_in es) + length (entries_by 0 es)
entries-split [] = refl
entries-split (e ∷ es) = by (e.caller.0 == 0) (entries-split es)
  where
    by : (b : Bool) → length es ≡ length (calls_in es) + length (entries_by 0 es)
        → suc (length es) ≡ length (cons_option (cond b None (Some (call_by e.caller e.event))) (calls_in es)) + length (cond b (e ∷ entries_by 0 es) (entries_by 0 es))
    by true rest = omega (arith, rest)
    by false rest = omega (arith, rest)

asks-one : (event : Event) → asks event ≤ 1
asks-one (events.Order participant side kind qty) = omega arith
asks-one (events.Change participant target kind qty) = omega arith
asks-one (events.Cancel participant target) = omega arith
asks-one (events.Clock at) = omega arith
asks-one (events.Crash node) = omega arith
asks-one (events.Rejoin node) = omega arith

pub has-place : (law : LossesStayFew) (rules : Rules) (made done : List GatewayScriptLine) (i : ℕ) (event : Event) (old : IssueNow) → IsAfter rules made done i old → count_for i done + 1 ≤ count_for i made → HasPlaceFor event old
has-place law rules made done i event old before fewer running =
    let order : calls_in old.entries ≡ calls_for i done = subst (AreInFileOrder i done old.entries) running before.order in
    let history : IsHistory old.fixed.participants old.entries = before.opened.issue_now.history in
    let few = law old.fixed.participants old.entries history in
    let rejoined = rejoins-few old.fixed.participants [] old.entries history in
    let split = entries-split old.entries in
    let calls : length (calls_in old.entries) ≡ count_for i done = ap length order ∙ calls-counted i done in
    omega (arith, few, rejoined, split, calls, fewer, asks-one event, before.opened.capacity)
