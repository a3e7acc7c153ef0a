-- To cut a view in two, to join two views, and to learn what the rule knows of one.
use Rattle.std.proofs.Common.{◌≡◌, ℕ, suc, ◌+◌, ◌-◌, ◌<◌, ◌≤◌, ◌≢◌, List, [], ◌∷◌, ◌++◌, length, set, get_or, sym, refl, ap, ◌∙◌, subst, arith, length-append}
use Rattle.std.specs.Prelude.{Option}
use Rattle.std.proofs.lemmas.Bool.Decides.{nat_tests}
use Rattle.std.proofs.lemmas.List.Elements.{All-append, All-cons}
use mathlib.Core.Option as maybe
use mathlib.Core.Option.{some, none}
use lib.ListN.{get_elem?}
use Rattle.atomic_table.specs.Table.{State, step, keeps, Allows, Splits, Joins}
use Rattle.atomic_table.proofs.Lists.{set_else}
use Rattle.turn_cell.specs.Marks.{Numbered, marks_of, Begins, longer_of}
use Rattle.turn_cell.specs.Views.{total, only, lives, ready_at, in_block, turns_gone, named_gone, turns_of, has_ticket, is_ready, size_of, names_of, places_of, spent, lessened, newcomer, gone, joined}
use Rattle.turn_cell.specs.Rule.{Queue, Slot, Places, Knows, Line}
use Rattle.turn_cell.specs.Steps.{Sat, learns}
use Rattle.turn_cell.specs.declared.value.Mark.{Mark}
use Rattle.turn_cell.specs.declared.view.Gone.{Gone}
use Rattle.turn_cell.specs.declared.view.Stage.TheVariants.{Idle, Noted, Ready}
use Rattle.turn_cell.specs.declared.view.View.{View}
use Rattle.turn_cell.proofs.Sums.{total-append, total-set, total_plus, term_le, each_set, each_snoc, only_else, lives_real}
use Rattle.turn_cell.proofs.Marks.{begins_refl, none_before, longer_begins, shorter_begins, left_begins, right_begins, between}
use Rattle.turn_cell.proofs.Lines.{idle_ticket, unmoved}
use Rattle.turn_cell.proofs.Turning.{differ}

-- a block without its first caller, and that caller
block_cut : (c b n : ℕ) → 0 < c → 0 < b → b ≤ n → in_block c (b - 1) n + (only c (n + 1 - b) + 0 + in_block c 0 n) ≡ in_block c b n
block_cut c b n real some_left within = grind (arith, nat_tests)

no_block : (c n : ℕ) → in_block c 0 n ≡ 0
no_block c n = grind (arith, nat_tests)

first_of_block : (b n : ℕ) → 0 < b → b ≤ n → in_block (n + 1 - b) b n ≡ 1
first_of_block b n some_left within = grind (arith, nat_tests)

module _ {F : Type 0} where
  queue_totals : (next served : ℕ) (vs ws : List (View F)) → Queue next served vs → total turns_of ws ≡ total turns_of vs
      → ((t : ℕ) → total (has_ticket t) ws ≡ total (has_ticket t) vs) → Queue next served ws
  queue_totals next served vs ws q turns tickets = record {
    order = q.order;
    all_turns = turns ∙ q.all_turns;
    in_line = λ t a b. tickets t ∙ q.in_line t a b;
    past = λ t a. tickets t ∙ q.past t a;
    to_come = λ t a. tickets t ∙ q.to_come t a;
  }

  places_totals : (n : ℕ) (log : List Mark) (vs ws : List (View F)) → Places n log vs → total size_of ws ≡ total size_of vs
      → ((c : ℕ) → 0 < c → total (places_of c) ws ≡ total (places_of c) vs) → ((c : ℕ) → 0 < c → total (names_of c) vs ≤ total (names_of c) ws) → Places n log ws
  places_totals n log vs ws p size places names = record {
    whole = size ∙ p.whole;
    placed = λ c a b. places c a ∙ p.placed c a b;
    beyond = λ c a. places c (omega arith) ∙ p.beyond c a;
    silent = λ c a e. p.silent c a (omega (arith, names c a));
  }

  -- (a split, for any sum over views)
  split_total : (f : View F → ℕ) (vs : List (View F)) (id : ℕ) (v : View F) → get_elem? vs id ≡ some v
      → total f (set vs id (lessened v) ++ newcomer v ∷ []) + f v ≡ total f vs + f (lessened v) + f (newcomer v)
  split_total f vs id v at =
      let a = total-append f (set vs id (lessened v)) (newcomer v ∷ []) in let b = total-set f vs id v (lessened v) at in omega arith

  -- (and a join)
  join_total : (f : View F → ℕ) (vs : List (View F)) (id other : ℕ) (v w : View F) → get_elem? vs id ≡ some v → get_elem? (set vs id (joined v w)) other ≡ some w
      → total f (set (set vs id (joined v w)) other spent) + f v + f w ≡ total f vs + f (joined v w) + f spent
  join_total f vs id other v w at there =
      let out : View F = spent in
      let a = total-set f vs id v (joined v w) at in let b = total-set f (set vs id (joined v w)) other w out there in omega arith

module _ {T F : Type 0} (marks : T → List Mark) (fixed : T → F) (n : ℕ) (p : F) where
  abbrev R : State (Option T) (View F) → Type 0
  R = Line marks fixed n p

  slot_totals : (homes : List (maybe.Option (Option T))) (log : List Mark) (vs ws : List (View F)) → Slot marks fixed homes vs log p → total is_ready ws ≡ total is_ready vs → Slot marks fixed homes ws log p
  slot_totals homes log vs ws s same = record { one_slot = s.one_slot; home = λ e. s.home (sym same ∙ e); out = λ h. s.out (omega arith) }

  pub splits_off : (id : ℕ) (v : View F) → v.stage ≡ Idle → v.caller ≢ 0 → 0 < v.block → Splits R id v (lessened v) (newcomer v)
  splits_off id v idle real some_left s l at =
      let k = l.each id v at in let i = k.informed real in
      let vs : List (View F) = s.views in
      let ws : List (View F) = set vs id (lessened v) ++ newcomer v ∷ [] in
      let n_is : v.callers ≡ n = i.callers_is in
      let whole = l.places.whole in
      let part = term_le size_of vs id v at in
      let c : ℕ = v.callers + 1 - v.block in
      let c_real : c ≢ 0 = λ z. omega arith in
      let one : lives c ≡ 1 = lives_real c c_real in
      let block_here : in_block c v.block v.callers ≡ 1 = first_of_block v.block v.callers some_left (omega arith) in
      let blocked : View F → ℕ = λ u. in_block c u.block u.callers in
      let split_up : total (places_of c) vs ≡ total (names_of c) vs + total blocked vs = total_plus (names_of c) blocked vs in
      let in_here : blocked v ≤ total blocked vs = term_le blocked vs id v at in
      let in_one : total (places_of c) vs ≡ 1 = l.places.placed c (omega arith) (omega arith) in
      let quiet : total (names_of c) vs ≡ 0 = omega arith in
      let no_marks : marks_of c l.log ≡ [] = l.places.silent c (omega arith) quiet in
      record {
        log = l.log;
        few_callers = l.few_callers;
        sized = l.sized;
        queue = queue_totals (get_or s.words 16 0) (get_or s.words 32 0) vs ws l.queue (let q = split_total turns_of vs id v at in omega arith)
            (λ t. let q = split_total (has_ticket t) vs id v at in omega arith);
        slot = slot_totals s.homes l.log vs ws l.slot (let q = split_total is_ready vs id v at in omega arith);
        journal = l.journal;
        places = places_totals n l.log vs ws l.places
            (let q = split_total size_of vs id v at in omega arith)
            (λ d a. let q = split_total (places_of d) vs id v at in let cut = block_cut d v.block v.callers a some_left (omega arith) in omega arith)
            (λ d a. let q = split_total (names_of d) vs id v at in omega arith);
        each = each_snoc (Knows n (get_or s.words 32 0) l.log p) (set vs id (lessened v)) (newcomer v)
            (each_set (Knows n (get_or s.words 32 0) l.log p) vs id (lessened v) l.each
            record { noted = k.noted; ready = k.ready; few = k.few; few_met = k.few_met; informed = k.informed })
            record {
              noted = differ Idle Noted (λ z. omega arith);
              ready = differ Idle Ready (λ z. omega arith);
              few = omega arith;
              few_met = omega arith;
              informed = λ _. record {
                fixed_is = i.fixed_is;
                callers_is = i.callers_is;
                begins = i.begins;
                shorter = begins_refl v.seen;
                own = (no_marks, λ j d h. absurd (omega arith));
                own_seen = (none_before c v.seen l.log i.begins no_marks, λ j d h. absurd (omega arith));
                numbered = ((λ j d h. absurd (omega arith)), λ j d h. absurd (omega arith));
                met_real = λ j d h. absurd (omega arith);
              };
            };
      }

  pub joins_in : (id other : ℕ) (v w : View F) → v.stage ≡ Idle → v.caller ≢ 0 → w.stage ≡ Idle → w.caller ≢ 0 → w.block ≡ 0 → Joins R id v other w (joined v w) spent
  joins_in id other v w idle real its_idle its_real no_more s l at apart in_set =
      let vs : List (View F) = s.views in
      let both : View F = joined v w in
      let out : View F = spent in
      let ws : List (View F) = set (set vs id both) other out in
      let there : get_elem? vs other ≡ some w = sym (set_else vs id other both apart) ∙ in_set in
      let k = l.each id v at in let i = k.informed real in let o = l.each other w there in let j = o.informed its_real in
      let one : lives w.caller ≡ 1 = lives_real w.caller its_real in
      let longer : List Mark = longer_of v.seen w.seen in
      let whole_begins : Begins longer l.log = longer_begins v.seen w.seen l.log i.begins j.begins in
      let left = left_begins v.seen w.seen l.log i.begins j.begins in
      let right = right_begins v.seen w.seen l.log i.begins j.begins in
      let long : length (v.met ++ gone w ∷ w.met) ≡ length v.met + suc (length w.met) = length-append v.met (gone w ∷ w.met) in
      let met_turns = total-append turns_gone v.met (gone w ∷ w.met) in
      let met_names : (c : ℕ) → total (named_gone c) (v.met ++ gone w ∷ w.met) ≡ total (named_gone c) v.met + total (named_gone c) (gone w ∷ w.met) = λ c. total-append (named_gone c) v.met (gone w ∷ w.met) in
      let no_name : (c : ℕ) → 0 < c → names_of c out ≡ 0 = λ c a. omega (arith, only_else c 0 (λ z. omega arith)) in
      record {
        log = l.log;
        few_callers = l.few_callers;
        sized = l.sized;
        queue = queue_totals (get_or s.words 16 0) (get_or s.words 32 0) vs ws l.queue (let q = join_total turns_of vs id other v w at in_set in omega arith)
            (λ t. let q = join_total (has_ticket t) vs id other v w at in_set in let a = idle_ticket t v idle in let b = idle_ticket t w its_idle in let c = idle_ticket t both idle in omega arith);
        slot = slot_totals s.homes l.log vs ws l.slot
            (let q = join_total is_ready vs id other v w at in_set in let a : is_ready v ≡ 0 = ap ready_at idle in let b : is_ready w ≡ 0 = ap ready_at its_idle in omega arith);
        journal = l.journal;
        places = places_totals n l.log vs ws l.places
            (let q = join_total size_of vs id other v w at in_set in omega arith)
            (λ c a. let q = join_total (places_of c) vs id other v w at in_set in let names = met_names c in let z = no_name c a in let none_there : in_block c w.block w.callers ≡ 0 = ap (λ b. in_block c b w.callers) no_more ∙ no_block c w.callers in let none_left = no_block c 0 in omega arith)
            (λ c a. let q = join_total (names_of c) vs id other v w at in_set in let names = met_names c in omega arith);
        each = each_set (Knows n (get_or s.words 32 0) l.log p) (set vs id both) other out
            (each_set (Knows n (get_or s.words 32 0) l.log p) vs id both l.each
            record {
              noted = λ e. differ Idle Noted (λ z. omega arith) (sym idle ∙ e);
              ready = λ e. differ Idle Ready (λ z. omega arith) (sym idle ∙ e);
              few = k.few;
              few_met = (let a = k.few_met in let b = o.few in let c = o.few_met in omega arith);
              informed = λ _. record {
                fixed_is = i.fixed_is;
                callers_is = i.callers_is;
                begins = whole_begins;
                shorter = shorter_begins v.seen w.seen l.log i.begins j.begins;
                own = (i.own.0, All-append (λ (g : Gone). marks_of g.caller l.log ≡ g.made) v.met (gone w ∷ w.met) i.own.1 (All-cons (λ (g : Gone). marks_of g.caller l.log ≡ g.made) (gone w) w.met j.own.0 j.own.1));
                numbered = (i.numbered.0, All-append (λ (g : Gone). Numbered g.made) v.met (gone w ∷ w.met) i.numbered.1 (All-cons (λ (g : Gone). Numbered g.made) (gone w) w.met j.numbered.0 j.numbered.1));
                own_seen = (
                  between v.caller v.seen longer l.log v.made left whole_begins i.own_seen.0 i.own.0,
                  All-append (λ (g : Gone). marks_of g.caller longer ≡ g.made) v.met (gone w ∷ w.met)
                      (λ q d h. between (get_or v.met q d).caller v.seen longer l.log (get_or v.met q d).made left whole_begins (i.own_seen.1 q d h) (i.own.1 q d h))
                      (All-cons (λ (g : Gone). marks_of g.caller longer ≡ g.made) (gone w) w.met (between w.caller w.seen longer l.log w.made right whole_begins j.own_seen.0 j.own.0)
                      (λ q d h. between (get_or w.met q d).caller w.seen longer l.log (get_or w.met q d).made right whole_begins (j.own_seen.1 q d h) (j.own.1 q d h))),
                );
                met_real = All-append (λ (g : Gone). g.caller ≢ 0) v.met (gone w ∷ w.met) i.met_real (All-cons (λ (g : Gone). g.caller ≢ 0) (gone w) w.met its_real j.met_real);
              };
            })
            record {
              noted = differ Idle Noted (λ z. omega arith);
              ready = differ Idle Ready (λ z. omega arith);
              few = omega arith;
              few_met = omega arith;
              informed = λ nobody. absurd (nobody refl);
            };
      }

  pub learns_all : (slots id : ℕ) (me : Sat T F) (v : View F) → me.0 ≡ v → v.caller ≢ 0 → Allows R slots id me 16 (λ y. y) (learns marks fixed (step slots 16 0 0 none) me)
  learns_all slots id me v0 e its_real s l wide at _ =
      let v : View F = me.0 in let real : v.caller ≢ 0 = subst (λ (u : View F). u.caller ≢ 0) (sym e) its_real in
      let i = (l.each id v at).informed real in let n_is = i.callers_is in let whole = l.places.whole in let part = term_le size_of s.views id v at in
      (v, keeps, tt, unmoved marks fixed n p s 16 id v l at, (refl, i.own_seen, i.shorter, omega arith))
