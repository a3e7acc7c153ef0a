-- Each step of a turn keeps the rule, and tells what it says: to draw, to look, to note, to try and to serve.
use Rattle.std.proofs.Common.{◌≡◌, ℕ, ◌+◌, ◌%◌, ◌^◌, ◌<◌, ◌≤◌, ◌≢◌, ⊎_elim, List, [], ◌∷◌, set, get_or, eqb, sym, refl, ap, ◌∙◌, subst, arith, length-set, get_or-set_same, get_or-set_other}
use Rattle.std.specs.Prelude.{Option, Some, None}
use mathlib.Core.Logic.{dite}
use native.Mathlib.Decide.{dec_le, ℕ_discrete}
use mathlib.Core.Option as maybe
use mathlib.Core.Option.{some, none, some-injective}
use lib.ListN.{get_elem?}
use prog.Atomic.{either}
use Rattle.atomic_table.specs.Table.{State, step, Act, keeps, takes, gives, Valid, carried_after, stepped, Allows}
use Rattle.atomic_table.proofs.Lists.{set_here, exchanged, at_set}
use Rattle.turn_cell.specs.Views.{total, only, lives, turn_at, ready_at, has_ticket, is_ready, drawn, readied, noted, won, failed, rested}
use Rattle.turn_cell.specs.Rule.{Slot, Knows, Line}
use Rattle.turn_cell.specs.Steps.{Sat, draws, looks, notes, tries, serves}
use Rattle.turn_cell.specs.declared.value.Mark.{Mark}
use Rattle.turn_cell.specs.declared.view.Stage.{Stage}
use Rattle.turn_cell.specs.declared.view.Stage.TheVariants.{Idle, Noted, Waiting, Ready}
use Rattle.turn_cell.specs.declared.view.View.{View}
use Rattle.turn_cell.proofs.Sums.{total-set, some_term, each_set, only_same, lives_real}
use Rattle.turn_cell.proofs.Marks.{begins_refl, begins_trans}
use Rattle.turn_cell.proofs.Lines.{code, ready_stage, ready_ticket, waiting_ticket, idle_ticket, noted_ticket, ticket_drawn, queue_same, queue_drawn, queue_served, places_same, slot_same, finds_home, lined, loaded, unmoved, restaged, few_tickets, nobody_else_ready, nobody_ready}

pub differ : {P : Type 0} (a b : Stage) → code a ≢ code b → a ≡ b → P
differ a b n e = absurd (n (ap code e))

-- (a `Some` has one value)
pub some_same : {A : Type 0} (a b : A) → Some a ≡ Some b → a ≡ b
some_same {A = A} a b e = ap (λ (o : Option A). or_else o) e
  where
    or_else : Option A → A
    or_else None = a
    or_else (Some x) = x

module _ {T F : Type 0} (marks : T → List Mark) (fixed : T → F) (n : ℕ) (p : F) where
  abbrev R : State (Option T) (View F) → Type 0
  R = Line marks fixed n p

  pub notes_number : (slots id : ℕ) (me : Sat T F) → me.0.stage ≡ Idle → Allows R slots id me 32 (λ y. y) (notes marks fixed (step slots 32 0 0 none) me)
  notes_number slots id me idle s l wide at _ =
      let v : View F = me.0 in let x : ℕ = get_or s.words 32 0 in let k = l.each id v at in
      let o = l.queue.order in let few = few_tickets marks fixed n p s l in (
        noted v x,
        keeps,
        tt,
        restaged marks fixed n p s 32 id v (noted v x) l at refl (λ t. sym (idle_ticket t v idle)) (sym (ap ready_at idle)) refl (λ c. refl) (λ c. refl)
            record { noted = λ _. omega arith; ready = differ Noted Ready (λ e. omega arith); few = k.few; few_met = k.few_met; informed = k.informed },
        (refl, omega arith),
      )

  pub draws_ticket : (slots id : ℕ) (me : Sat T F) → me.0.stage ≡ Idle → me.0.caller ≢ 0 → me.0.turns < 4294967295
      → Allows R slots id me 16 (λ y. (y + 1) % 2 ^ 64) (draws marks fixed (step slots 16 1 0 none) me)
  draws_ticket slots id me idle real some_left s l wide at _ =
      let v : View F = me.0 in let x : ℕ = get_or s.words 16 0 in let k = l.each id v at in
      let w : View F = drawn v x in
      let few : x < 281474976710656 = few_tickets marks fixed n p s l in
      let wrap : (x + 1) % 2 ^ 64 ≡ x + 1 = omega arith in
      let y : ℕ = (x + 1) % 2 ^ 64 in
      let sized = l.sized in let one : lives v.caller ≡ 1 = lives_real v.caller real in (
        w,
        keeps,
        tt,
        lined marks fixed n p (set s.words 16 y) s.homes (set s.views id w) l.log (x + 1) (get_or s.words 32 0) (get_or s.words 48 0)
            l.few_callers (length-set s.words 16 y ∙ l.sized) (get_or-set_same s.words 16 y 0 (omega arith) ∙ wrap)
            (get_or-set_other s.words 16 32 y 0 (λ e. omega arith)) (get_or-set_other s.words 16 48 y 0 (λ e. omega arith))
            (queue_drawn x (get_or s.words 32 0) s.views l.queue id v w at (omega arith) (λ t. idle_ticket t v idle) (λ t. refl))
            (slot_same marks fixed s.homes s.views l.log p id v w l.slot at (sym (ap ready_at idle)))
            l.journal
            (places_same n l.log s.views id v w l.places at refl (λ c. refl) (λ c. refl))
            (each_set (Knows n (get_or s.words 32 0) l.log p) s.views id w l.each
            record { noted = differ Waiting Noted (λ e. omega arith); ready = differ Waiting Ready (λ e. omega arith); few = omega arith; few_met = k.few_met; informed = k.informed }),
        (refl, few),
      )

  -- the caller with the ticket that is served takes the value
  abbrev Goes : State (Option T) (View F) → ℕ → ℕ → ℕ → Sat T F → (ℕ → Sat T F → Type 0) → Type 0
  Goes s i y id me then = (w : View F) × (a : Act (Option T)) × Valid s.homes me.1 a × R (stepped s i y id me.1 w a) × then (get_or s.words i 0) (w, carried_after me.1 a)

  -- the view of a caller that takes the turn
  takes_turn : (s : State (Option T) (View F)) (l : R s) (id : ℕ) (v : View F) (turns : ℕ) → get_elem? s.views id ≡ some v → v.caller ≢ 0 → v.at ≡ get_or s.words 32 0 → turns ≤ 4294967295
      → Knows n (get_or s.words 32 0) l.log p (record v { stage = Ready; turns = turns; seen = l.log })
  takes_turn s l id v turns at real served few =
      let k = l.each id v at in let i = k.informed real in let one : lives v.caller ≡ 1 = lives_real v.caller real in
      record {
        noted = differ Ready Noted (λ e. omega arith);
        ready = λ _. (served, refl, real);
        few = omega arith;
        few_met = k.few_met;
        informed = λ _. record {
          fixed_is = i.fixed_is;
          callers_is = i.callers_is;
          begins = begins_refl l.log;
          shorter = begins_trans v.short v.seen l.log i.shorter i.begins;
          own = i.own;
          own_seen = i.own;
          numbered = i.numbered;
          met_real = i.met_real;
        };
      }

  -- the slot once a caller has taken the turn
  slot_taken : (homes : List (maybe.Option (Option T))) (vs : List (View F)) (log : List Mark) (id : ℕ) (v w : View F) → Slot marks fixed homes vs log p → get_elem? vs id ≡ some v
      → is_ready v ≡ 0 → is_ready w ≡ 1 → Slot marks fixed (set homes 0 none) (set vs id w) log p
  slot_taken homes vs log id v w slot at was is =
      let one = slot.one_slot in
      let moved = total-set is_ready vs id v w at in
      record {
        one_slot = length-set homes 0 none ∙ slot.one_slot;
        home = λ e. absurd (omega arith);
        out = λ _. set_here homes 0 none (omega arith);
      }

  looks_bare : (slots id : ℕ) (v : View F) → v.stage ≡ Waiting → v.caller ≢ 0 → Allows R slots id (v, []) 32 (λ y. y) (looks marks fixed (step slots 32 0 0 none) (v, []))
  looks_bare slots id v waits real s l wide at _ =
      let x : ℕ = get_or s.words 32 0 in let k = l.each id v at in let i = k.informed real in
      let G : Type 0 = Goes s 32 x id (v, []) (looks marks fixed (step slots 32 0 0 none) (v, [])) in
      let hit : x ≡ v.at → G = λ e.
      let has : has_ticket x v ≡ 1 = waiting_ticket x v waits ∙ only_same x v.at (sym e) in
      let calm = nobody_ready marks fixed n p s id v l at has (λ r. differ Waiting Ready (λ q. omega arith) (sym waits ∙ r)) in
      let h = l.slot.home calm in
      let w : View F = readied v l.log in
      let was : is_ready v ≡ 0 = ap ready_at waits in (
        w,
        takes 0 (Some h.0),
        h.1,
        loaded marks fixed n p s 32 (set s.homes 0 none) (set s.views id w) l
            (queue_same (get_or s.words 16 0) x s.views l.queue id v w at refl (λ t. sym (waiting_ticket t v waits)))
            (slot_taken s.homes s.views l.log id v w l.slot at was refl)
            (places_same n l.log s.views id v w l.places at refl (λ c. refl) (λ c. refl))
            (each_set (Knows n x l.log p) s.views id w l.each (takes_turn s l id v v.turns at real (sym e) (let few = k.few in let one : lives v.caller ≡ 1 = lives_real v.caller real in omega arith))),
        (
          (λ _. (h.0, ap (λ (ms : List Mark). (readied v ms, (0, Some h.0) ∷ [])) (sym h.2), finds_home marks fixed n l.log p v h.0 i h.2 h.3)),
          (λ miss. absurd (miss e)),
        ),
      ) in
      let miss : x ≢ v.at → G = λ ne. (v, keeps, tt, unmoved marks fixed n p s 32 id v l at, ((λ e. absurd (ne e)), (λ _. refl))) in
      dite (ℕ_discrete x v.at) hit miss

  pub looks_for : (slots id : ℕ) (me : Sat T F) → me.0.stage ≡ Waiting → me.0.caller ≢ 0 → me.1 ≡ [] → Allows R slots id me 32 (λ y. y) (looks marks fixed (step slots 32 0 0 none) me)
  looks_for slots id me waits real empty =
      subst (λ (h : List (ℕ × Option T)). Allows R slots id (me.0, h) 32 (λ y. y) (looks marks fixed (step slots 32 0 0 none) (me.0, h))) (sym empty) (looks_bare slots id me.0 waits real)

  tries_bare : (slots id : ℕ) (v : View F) (old new : ℕ) → v.stage ≡ Noted → v.caller ≢ 0 → v.turns < 4294967295 → old ≡ v.at → new ≡ v.at + 1
      → Allows R slots id (v, []) 16 (λ y. either (eqb y old) new y) (tries marks fixed (step slots 16 old new none) (v, []))
  tries_bare slots id v old new waits real some_left is next s l wide at _ =
      let x : ℕ = get_or s.words 16 0 in let served : ℕ = get_or s.words 32 0 in let k = l.each id v at in let i = k.informed real in
      let tells : ℕ → Sat T F → Type 0 = tries marks fixed (step slots 16 old new none) (v, []) in
      let sized = l.sized in let order = l.queue.order in let seen = k.noted waits in
      exchanged x old new (λ y. Goes s 16 y id (v, []) tells)
      (λ e.
      let at_once : served ≡ x = omega arith in
      let fresh : v.at ≡ x = omega arith in
      let after : new ≡ x + 1 = omega arith in
      let calm : total is_ready s.views ≡ 0 = dite (dec_le (total is_ready s.views) 0) (λ z. omega arith)
      (λ some_one. let t = some_term is_ready s.views (omega arith) in let r = ready_stage t.1.stage t.3 in let its = ((l.each t.0 t.1 t.2).ready r).0 in
      let drawn_one = (ticket_drawn x served s.views l.queue t.1.at t.0 t.1 t.2 (ready_ticket t.1 r)).1 in absurd (omega arith)) in
      let h = l.slot.home calm in
      let w : View F = won v l.log in (
        w,
        takes 0 (Some h.0),
        h.1,
        lined marks fixed n p (set s.words 16 new) (set s.homes 0 none) (set s.views id w) l.log (x + 1) served (get_or s.words 48 0)
            l.few_callers (length-set s.words 16 new ∙ l.sized) (get_or-set_same s.words 16 new 0 (omega arith) ∙ after)
            (get_or-set_other s.words 16 32 new 0 (λ q. omega arith)) (get_or-set_other s.words 16 48 new 0 (λ q. omega arith))
            (queue_drawn x served s.views l.queue id v w at (omega arith) (λ t. noted_ticket t v waits) (λ t. ap (only t) fresh))
            (slot_taken s.homes s.views l.log id v w l.slot at (ap ready_at waits) refl)
            l.journal
            (places_same n l.log s.views id v w l.places at refl (λ c. refl) (λ c. refl))
            (each_set (Knows n served l.log p) s.views id w l.each (takes_turn s l id v (v.turns + 1) at real (omega arith) (omega arith))),
        (
          (λ _. (h.0, ap (λ (ms : List Mark). (won v ms, (0, Some h.0) ∷ [])) (sym h.2), finds_home marks fixed n l.log p v h.0 i h.2 h.3)),
          (λ miss. absurd (miss (e ∙ is))),
        ),
      ))
      (λ ne.
      let w : View F = failed v x in (
        w,
        keeps,
        tt,
        restaged marks fixed n p s 16 id v w l at refl (λ t. sym (noted_ticket t v waits)) (sym (ap ready_at waits)) refl (λ c. refl) (λ c. refl)
            record { noted = differ Idle Noted (λ q. omega arith); ready = differ Idle Ready (λ q. omega arith); few = k.few; few_met = k.few_met; informed = k.informed },
        ((λ e. absurd (ne (e ∙ sym is))), (λ _. refl)),
      ))

  pub tries_once : (slots id : ℕ) (me : Sat T F) (v : View F) (old new : ℕ) → me ≡ (v, []) → v.stage ≡ Noted → v.caller ≢ 0 → v.turns < 4294967295 → old ≡ v.at → new ≡ v.at + 1
      → Allows R slots id me 16 (λ y. either (eqb y old) new y) (tries marks fixed (step slots 16 old new none) me)
  tries_once slots id me v old new e waits real some_left is next =
      subst (λ (m : Sat T F). Allows R slots id m 16 (λ y. either (eqb y old) new y) (tries marks fixed (step slots 16 old new none) m)) (sym e)
      (tries_bare slots id v old new waits real some_left is next)

  serves_bare : (slots id : ℕ) (v : View F) (x : T) → v.stage ≡ Ready → marks x ≡ v.seen → Some (fixed x) ≡ v.fixed
      → Allows R slots id (v, (0, Some x) ∷ []) 32 (λ y. (y + 1) % 2 ^ 64) (serves marks fixed (step slots 32 1 0 none) (v, (0, Some x) ∷ []))
  serves_bare slots id v x has_turn is plain s l wide at _ =
      let next : ℕ = get_or s.words 16 0 in let served : ℕ = get_or s.words 32 0 in let k = l.each id v at in let r = k.ready has_turn in let i = k.informed r.2 in
      let w : View F = rested v in
      let few : next < 281474976710656 = few_tickets marks fixed n p s l in let order = l.queue.order in
      let wrap : (served + 1) % 2 ^ 64 ≡ served + 1 = omega arith in
      let y : ℕ = (served + 1) % 2 ^ 64 in let sized = l.sized in let one = l.slot.one_slot in
      let its : (t : ℕ) → has_ticket t v ≡ only t served = λ t. ap (λ z. turn_at t z v.at) has_turn ∙ ap (only t) r.0 in
      let has : has_ticket served v ≡ 1 = its served ∙ only_same served served refl in
      let others : (j : ℕ) (u : View F) → j ≢ id → get_elem? s.views j ≡ some u → u.stage ≡ Ready → ⊥ = nobody_else_ready marks fixed n p s id v l at has in
      let was : is_ready v ≡ 1 = ap ready_at has_turn in
      let moved = total-set is_ready s.views id v w at in (
        w,
        gives,
        tt,
        lined marks fixed n p (set s.words 32 y) (set s.homes 0 (some (Some x))) (set s.views id w) l.log next (served + 1) (get_or s.words 48 0)
            l.few_callers (length-set s.words 32 y ∙ l.sized) (get_or-set_other s.words 32 16 y 0 (λ e. omega arith)) (get_or-set_same s.words 32 y 0 (omega arith) ∙ wrap)
            (get_or-set_other s.words 32 48 y 0 (λ e. omega arith))
            (queue_served next served s.views l.queue id v w at refl its (λ t. refl))
            record {
              one_slot = length-set s.homes 0 (some (Some x)) ∙ l.slot.one_slot;
              home = λ _. (x, set_here s.homes 0 (some (Some x)) (omega arith), is ∙ r.1, some_same (fixed x) p (plain ∙ i.fixed_is));
              out = λ h. let t = some_term is_ready (set s.views id w) h in let rt = ready_stage t.1.stage t.3 in
                  absurd (⊎_elim (λ q. differ Idle Ready (λ z. omega arith) (ap (λ (u : View F). u.stage) q.1 ∙ rt)) (λ q. others t.0 t.1 q.0 q.1 rt) (at_set s.views id t.0 w t.1 t.2));
            }
            l.journal
            (places_same n l.log s.views id v w l.places at refl (λ c. refl) (λ c. refl))
            (λ j u there. ⊎_elim
            (λ q. subst (Knows n (served + 1) l.log p) q.1
            record { noted = differ Idle Noted (λ z. omega arith); ready = differ Idle Ready (λ z. omega arith); few = k.few; few_met = k.few_met; informed = k.informed })
            (λ q. let o = l.each j u q.1 in
            record { noted = λ e. omega (arith, o.noted e); ready = λ e. absurd (others j u q.0 q.1 e); few = o.few; few_met = o.few_met; informed = o.informed })
            (at_set s.views id j w u there)),
        refl,
      )

  pub serves_next : (slots id : ℕ) (me : Sat T F) (v : View F) (x : T) → me ≡ (v, (0, Some x) ∷ []) → v.stage ≡ Ready → marks x ≡ v.seen → Some (fixed x) ≡ v.fixed
      → Allows R slots id me 32 (λ y. (y + 1) % 2 ^ 64) (serves marks fixed (step slots 32 1 0 none) me)
  serves_next slots id me v x e has_turn is plain =
      subst (λ (m : Sat T F). Allows R slots id m 32 (λ y. (y + 1) % 2 ^ 64) (serves marks fixed (step slots 32 1 0 none) m)) (sym e) (serves_bare slots id v x has_turn is plain)
