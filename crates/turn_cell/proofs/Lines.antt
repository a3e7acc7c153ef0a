-- The rule of the cell after a change of one view, part by part.
use Rattle.std.proofs.Common.{◌≡◌, ℕ, ◌+◌, ◌*◌, ◌<◌, ◌≤◌, ◌≢◌, List, length, set, get_or, sym, refl, ap, ◌∙◌, subst, arith}
use Rattle.std.specs.Prelude.{Option, Some}
use mathlib.Core.Logic.{dite}
use native.Mathlib.Decide.{dec_le, ℕ_discrete}
use mathlib.Core.Option as maybe
use mathlib.Core.Option.{some, none, some-injective}
use lib.ListN.{get_elem?}
use lib.Seq.{set-get_or}
use Rattle.atomic_table.specs.Table.{State}
use Rattle.atomic_table.proofs.Lists.{set_again}
use Rattle.turn_cell.specs.Marks.{Owned}
use Rattle.turn_cell.specs.Views.{total, only, ready_at, turn_at, turns_of, has_ticket, is_ready, size_of, names_of, places_of}
use Rattle.turn_cell.specs.Rule.{Queue, Slot, Journal, Places, IsInformed, Knows, Line}
use Rattle.turn_cell.specs.Steps.{FindsFor}
use Rattle.turn_cell.specs.declared.value.Mark.{Mark}
use Rattle.turn_cell.specs.declared.view.Stage.{Stage}
use Rattle.turn_cell.specs.declared.view.Stage.TheVariants.{Idle, Noted, Waiting, Ready}
use Rattle.turn_cell.specs.declared.view.View.{View}
use Rattle.turn_cell.proofs.Sums.{total-set, term_le, terms_le, some_term, total_le, total_times, each_set, only_same, only_else}
use Rattle.turn_cell.proofs.Marks.{nothing_more}

-- stages as numbers, to tell them apart
abbrev pub code : Stage → ℕ
code Idle = 0
code Noted = 1
code Waiting = 2
code Ready = 3

pub ready_stage : (st : Stage) → 0 < ready_at st → st ≡ Ready
ready_stage Idle h = absurd (omega arith)
ready_stage Noted h = absurd (omega arith)
ready_stage Waiting h = absurd (omega arith)
ready_stage Ready h = refl

module _ {F : Type 0} where
  -- a caller with the turn has its ticket
  pub ready_ticket : (v : View F) → v.stage ≡ Ready → has_ticket v.at v ≡ 1
  ready_ticket v e = ap (λ z. turn_at v.at z v.at) e ∙ only_same v.at v.at refl

  pub waiting_ticket : (t : ℕ) (v : View F) → v.stage ≡ Waiting → has_ticket t v ≡ only t v.at
  waiting_ticket t v e = ap (λ z. turn_at t z v.at) e

  pub idle_ticket : (t : ℕ) (v : View F) → v.stage ≡ Idle → has_ticket t v ≡ 0
  idle_ticket t v e = ap (λ z. turn_at t z v.at) e

  pub noted_ticket : (t : ℕ) (v : View F) → v.stage ≡ Noted → has_ticket t v ≡ 0
  noted_ticket t v e = ap (λ z. turn_at t z v.at) e

module _ {F : Type 0} (next served : ℕ) (vs : List (View F)) (q : Queue next served vs) where
  -- no ticket is out twice
  pub ticket_le : (t : ℕ) → total (has_ticket t) vs ≤ 1
  ticket_le t = dite (dec_le served t)
      (λ out. dite (dec_le next t) (λ later. omega (arith, q.to_come t later)) (λ now. omega (arith, q.in_line t out (omega arith))))
      (λ gone. omega (arith, q.past t (omega arith)))

  -- a ticket that is out is one that was drawn
  pub ticket_drawn : (t j : ℕ) (v : View F) → get_elem? vs j ≡ some v → has_ticket t v ≡ 1 → (served ≤ t) × (t < next)
  ticket_drawn t j v at has =
      let here = term_le (has_ticket t) vs j v at in (
        dite (dec_le served t) (λ out. out) (λ gone. absurd (omega (arith, q.past t (omega arith)))),
        dite (dec_le next t) (λ later. absurd (omega (arith, q.to_come t later))) (λ now. omega arith),
      )

  pub one_ticket : (t j k : ℕ) (v u : View F) → k ≢ j → get_elem? vs j ≡ some v → get_elem? vs k ≡ some u → has_ticket t v ≡ 1 → has_ticket t u ≡ 1 → ⊥
  one_ticket t j k v u apart at there has also =
      let both = terms_le (has_ticket t) vs j k v u apart at there in let few = ticket_le t in omega arith

  -- a view that keeps its turns and its ticket
  pub queue_same : (j : ℕ) (v w : View F) → get_elem? vs j ≡ some v → turns_of w ≡ turns_of v → ((t : ℕ) → has_ticket t w ≡ has_ticket t v) → Queue next served (set vs j w)
  queue_same j v w at turns same =
      let moved : (t : ℕ) → total (has_ticket t) (set vs j w) ≡ total (has_ticket t) vs = λ t. omega (arith, total-set (has_ticket t) vs j v w at, same t) in
      record {
        order = q.order;
        all_turns = omega (arith, total-set turns_of vs j v w at, turns, q.all_turns);
        in_line = λ t a b. moved t ∙ q.in_line t a b;
        past = λ t a. moved t ∙ q.past t a;
        to_come = λ t a. moved t ∙ q.to_come t a;
      }

  -- a view that draws the next ticket
  pub queue_drawn : (j : ℕ) (v w : View F) → get_elem? vs j ≡ some v → turns_of w ≡ turns_of v + 1 → ((t : ℕ) → has_ticket t v ≡ 0) → ((t : ℕ) → has_ticket t w ≡ only t next) → Queue (next + 1) served (set vs j w)
  queue_drawn j v w at turns had its =
      let o : served ≤ next = q.order in
      let moved : (t : ℕ) → total (has_ticket t) (set vs j w) ≡ total (has_ticket t) vs + only t next = λ t. omega (arith, total-set (has_ticket t) vs j v w at, had t, its t) in
      record {
        order = omega arith;
        all_turns = omega (arith, total-set turns_of vs j v w at, turns, q.all_turns);
        in_line = λ t a b. dite (ℕ_discrete next t)
            (λ e. omega (arith, moved t, q.to_come t (omega arith), only_same t next e))
            (λ n. omega (arith, moved t, q.in_line t a (omega arith), only_else t next n));
        past = λ t a. omega (arith, moved t, q.past t a, only_else t next (λ e. omega arith));
        to_come = λ t a. omega (arith, moved t, q.to_come t (omega arith), only_else t next (λ e. omega arith));
      }

  -- the view with the ticket that is served gives it back
  pub queue_served : (j : ℕ) (v w : View F) → get_elem? vs j ≡ some v → turns_of w ≡ turns_of v → ((t : ℕ) → has_ticket t v ≡ only t served) → ((t : ℕ) → has_ticket t w ≡ 0) → Queue next (served + 1) (set vs j w)
  queue_served j v w at turns its has =
      let drawn = ticket_drawn served j v at (its served ∙ only_same served served refl) in let d = drawn.1 in
      let moved : (t : ℕ) → total (has_ticket t) (set vs j w) + only t served ≡ total (has_ticket t) vs = λ t. omega (arith, total-set (has_ticket t) vs j v w at, its t, has t) in
      record {
        order = omega arith;
        all_turns = omega (arith, total-set turns_of vs j v w at, turns, q.all_turns);
        in_line = λ t a b. omega (arith, moved t, q.in_line t (omega arith) b, only_else t served (λ e. omega arith));
        past = λ t a. dite (ℕ_discrete served t)
            (λ e. omega (arith, moved t, q.in_line t (omega arith) (omega arith), only_same t served e))
            (λ n. omega (arith, moved t, q.past t (omega arith), only_else t served n));
        to_come = λ t a. omega (arith, moved t, q.to_come t a, only_else t served (λ e. omega arith));
      }

module _ {F : Type 0} where
  pub places_same : (callers : ℕ) (log : List Mark) (vs : List (View F)) (j : ℕ) (v w : View F) → Places callers log vs → get_elem? vs j ≡ some v
      → size_of w ≡ size_of v → ((c : ℕ) → names_of c w ≡ names_of c v) → ((c : ℕ) → places_of c w ≡ places_of c v) → Places callers log (set vs j w)
  places_same callers log vs j v w p at size names places =
      let moved : (c : ℕ) → total (places_of c) (set vs j w) ≡ total (places_of c) vs = λ c. omega (arith, total-set (places_of c) vs j v w at, places c) in
      record {
        whole = omega (arith, total-set size_of vs j v w at, size, p.whole);
        placed = λ c a b. moved c ∙ p.placed c a b;
        beyond = λ c a. moved c ∙ p.beyond c a;
        silent = λ c a b. let e : total (names_of c) vs ≡ 0 = omega (arith, total-set (names_of c) vs j v w at, names c) in p.silent c a e;
      }

module _ {T F : Type 0} (marks : T → List Mark) (fixed : T → F) where
  pub slot_same : (homes : List (maybe.Option (Option T))) (vs : List (View F)) (log : List Mark) (p : F) (j : ℕ) (v w : View F) → Slot marks fixed homes vs log p → get_elem? vs j ≡ some v
      → is_ready w ≡ is_ready v → Slot marks fixed homes (set vs j w) log p
  slot_same homes vs log p j v w s at same =
      let moved : total is_ready (set vs j w) ≡ total is_ready vs = omega (arith, total-set is_ready vs j v w at, same) in
      record {
        one_slot = s.one_slot;
        home = λ e. s.home (sym moved ∙ e);
        out = λ h. s.out (omega arith);
      }

  -- what a caller finds in the value at home
  pub finds_home : (n : ℕ) (log : List Mark) (p : F) (v : View F) (x : T) → IsInformed n log p v → marks x ≡ log → fixed x ≡ p → FindsFor marks fixed v x
  finds_home n log p v x i is plain =
      let b = i.begins in
      record {
        fixed_is = ap Some plain ∙ sym i.fixed_is;
        more = (b.0, is ∙ b.1, b.2, nothing_more v.caller v.seen b.0 log v.made b.1 i.own_seen.0 i.own.0);
        own = subst (λ (l : List Mark). Owned l v.caller v.made v.met) (sym is) i.own;
        own_seen = i.own_seen;
      }

  module _ (n : ℕ) (p : F) where
    abbrev pub L : State (Option T) (View F) → Type 0
    L = Line marks fixed n p

    abbrev pub board : List ℕ → List (maybe.Option (Option T)) → List (View F) → State (Option T) (View F)
    board ws hs vs = record { words = ws; homes = hs; views = vs }

    -- the rule, by the numbers that its words have
    pub lined : (ws : List ℕ) (hs : List (maybe.Option (Option T))) (vs : List (View F)) (log : List Mark) (next served count : ℕ)
        → n < 65536 → length ws ≡ 64 → get_or ws 16 0 ≡ next → get_or ws 32 0 ≡ served → get_or ws 48 0 ≡ count
        → Queue next served vs → Slot marks fixed hs vs log p → Journal count log → Places n log vs
        → ((j : ℕ) (v : View F) → get_elem? vs j ≡ some v → Knows n served log p v) → L (board ws hs vs)
    lined ws hs vs log next served count few sized a b c queue slot journal places each =
        record {
          log = log;
          few_callers = few;
          sized = sized;
          queue = subst (λ (x : ℕ). Queue x (get_or ws 32 0) vs) (sym a) (subst (λ (x : ℕ). Queue next x vs) (sym b) queue);
          slot = slot;
          journal = subst (λ (x : ℕ). Journal x log) (sym c) journal;
          places = places;
          each = subst (λ (x : ℕ). (j : ℕ) (v : View F) → get_elem? vs j ≡ some v → Knows n x log p v) (sym b) each;
        }

    -- the same after a load
    pub loaded : (s : State (Option T) (View F)) (i : ℕ) (hs : List (maybe.Option (Option T))) (vs : List (View F)) → (l : L s)
        → Queue (get_or s.words 16 0) (get_or s.words 32 0) vs → Slot marks fixed hs vs l.log p → Places n l.log vs
        → ((j : ℕ) (v : View F) → get_elem? vs j ≡ some v → Knows n (get_or s.words 32 0) l.log p v)
        → L (board (set s.words i (get_or s.words i 0)) hs vs)
    loaded s i hs vs l queue slot places each =
        let same : set s.words i (get_or s.words i 0) ≡ s.words = set-get_or s.words i 0 in
        lined (set s.words i (get_or s.words i 0)) hs vs l.log (get_or s.words 16 0) (get_or s.words 32 0) (get_or s.words 48 0)
        l.few_callers (ap length same ∙ l.sized) (ap (λ (ws : List ℕ). get_or ws 16 0) same) (ap (λ (ws : List ℕ). get_or ws 32 0) same) (ap (λ (ws : List ℕ). get_or ws 48 0) same)
        queue slot l.journal places each

    pub unmoved : (s : State (Option T) (View F)) (i id : ℕ) (v : View F) → L s → get_elem? s.views id ≡ some v → L (board (set s.words i (get_or s.words i 0)) s.homes (set s.views id v))
    unmoved s i id v l at =
        let same : set s.views id v ≡ s.views = set_again s.views id v at in
        subst (λ (vs : List (View F)). L (board (set s.words i (get_or s.words i 0)) s.homes vs)) (sym same)
        (loaded s i s.homes s.views l l.queue l.slot l.places l.each)

    -- a load after which only the stage of one view has changed, which has no ticket before and after
    pub restaged : (s : State (Option T) (View F)) (i id : ℕ) (v w : View F) → (l : L s) → get_elem? s.views id ≡ some v
        → turns_of w ≡ turns_of v → ((t : ℕ) → has_ticket t w ≡ has_ticket t v) → is_ready w ≡ is_ready v
        → size_of w ≡ size_of v → ((c : ℕ) → names_of c w ≡ names_of c v) → ((c : ℕ) → places_of c w ≡ places_of c v)
        → Knows n (get_or s.words 32 0) l.log p w
        → L (board (set s.words i (get_or s.words i 0)) s.homes (set s.views id w))
    restaged s i id v w l at turns ticket ready size names places mine =
        loaded s i s.homes (set s.views id w) l
        (queue_same (get_or s.words 16 0) (get_or s.words 32 0) s.views l.queue id v w at turns ticket)
        (slot_same s.homes s.views l.log p id v w l.slot at ready)
        (places_same n l.log s.views id v w l.places at size names places)
        (each_set (Knows n (get_or s.words 32 0) l.log p) s.views id w l.each mine)

    -- the words stay below 2^48
    pub few_tickets : (s : State (Option T) (View F)) → L s → get_or s.words 16 0 < 281474976710656
    few_tickets s l =
        let each : (j : ℕ) (v : View F) → get_elem? s.views j ≡ some v → turns_of v ≤ 4294967295 * size_of v = λ j v e. let k = l.each j v e in omega (arith, k.few, k.few_met) in
        let a = total_le turns_of (λ (v : View F). 4294967295 * size_of v) s.views each in
        let b = total_times 4294967295 size_of s.views in
        let c = l.queue.all_turns in let w = l.places.whole in let few = l.few_callers in
        omega arith

    -- where a caller other than the one at `id` had the turn, it would have the served ticket too
    pub nobody_else_ready : (s : State (Option T) (View F)) (id : ℕ) (v : View F) → (l : L s) → get_elem? s.views id ≡ some v → has_ticket (get_or s.words 32 0) v ≡ 1
        → (j : ℕ) (u : View F) → j ≢ id → get_elem? s.views j ≡ some u → u.stage ≡ Ready → ⊥
    nobody_else_ready s id v l at has j u apart there is =
        let its = ((l.each j u there).ready is).0 in
        one_ticket (get_or s.words 16 0) (get_or s.words 32 0) s.views l.queue (get_or s.words 32 0) id j v u apart at there has
        (subst (λ (t : ℕ). has_ticket t u ≡ 1) its (ready_ticket u is))

    -- where a caller with the served ticket waits, the value is at home
    pub nobody_ready : (s : State (Option T) (View F)) (id : ℕ) (v : View F) → (l : L s) → get_elem? s.views id ≡ some v → has_ticket (get_or s.words 32 0) v ≡ 1
        → v.stage ≢ Ready → total is_ready s.views ≡ 0
    nobody_ready s id v l at has not =
        dite (dec_le (total is_ready s.views) 0) (λ e. omega arith)
        (λ some_one. let t = some_term is_ready s.views (omega arith) in let is = ready_stage t.1.stage t.3 in
        absurd (nobody_else_ready s id v l at has t.0 t.1
        (λ e. not (ap (λ (u : View F). u.stage) (some-injective v t.1 (sym at ∙ (ap (get_elem? s.views) (sym e) ∙ t.2))) ∙ is)) t.2 is))
