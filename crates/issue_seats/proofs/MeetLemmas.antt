-- The passes of an issue's gateways meet in one, gateway by gateway.
use Rattle.std.proofs.Common.{◌≡◌, ℕ, ◌<◌, ◌≤◌, ◌+◌, ◌-◌, List, [], ◌∷◌, ◌++◌, length, map, get_or, slice_index_or, refl, sym, ap, subst, ◌∙◌, arith, append_assoc, length-append}
use Rattle.std.specs.Prelude.{All}
use Rattle.std.proofs.Math.Seq.{get_or-append_seam}
use Rattle.std.proofs.lemmas.List.{get_or-map, get_or_default, length-map, length_push, map_push}
use Rattle.std.proofs.lemmas.List.Elements.{All-cons, All-head, All-tail}
use mathlib.Core.Logic.{dite}
use native.Mathlib.Decide.{dec_le}
use Rattle.atomic_table.specs.Seated.{TableId}
use Rattle.turn_cell.specs.Marks.{Begins, Owned, marks_of}
use Rattle.turn_cell.specs.Passes.{Holds, Known, gone_of, met_with, names_in}
use Rattle.turn_cell.specs.Views.{named_gone, only, total}
use Rattle.turn_cell.specs.declared.value.Mark.{Mark}
use Rattle.turn_cell.specs.declared.view.Gone.{Gone}
use Rattle.turn_cell.proofs.Marks.{begins_refl, begins_trans}
use Rattle.turn_cell.proofs.Sums.{only_else, total-append}
use Rattle.issue_journal.specs.Issue.{Fixed}
use Rattle.gateway.specs.Ran.{GatewayNow}
use Rattle.issue_desk.specs.Desk.{DeskNow, IsDesk}
use Rattle.stage_play.specs.Playing.{desk_at}
use Rattle.stage_play.specs.declared.part.Part.{Part}
use Rattle.issue_seats.specs.Back.{AllMet, AreAtDesks, ArePassesOf, IsOfSeat, desk_by}
use Rattle.issue_seats.specs.Steps.{AreJoined, HasJoined, MayMeet}
use Rattle.issue_seats.proofs.ListLemmas.{Upto, nothing-left}

-- ---- what holds of marks for a pass, for those that met in it

all-front : (P : Gone → Type 0) (xs ys : List Gone) → All P (xs ++ ys) → All P xs
all-front P [] ys h = λ k d lt. absurd (omega (arith, lt))
all-front P (x ∷ xs) ys h = All-cons P x xs (All-head P x (xs ++ ys) h) (all-front P xs ys (All-tail P x (xs ++ ys) h))

all-back : (P : Gone → Type 0) (xs ys : List Gone) → All P (xs ++ ys) → All P ys
all-back P [] ys h = h
all-back P (x ∷ xs) ys h = all-back P xs ys (All-tail P x (xs ++ ys) h)

holds-both : (seen : List Mark) (p o q : Known Fixed) → q ≡ met_with p o → Holds seen q → Holds seen p × (marks_of o.caller seen ≡ o.made)
holds-both seen p o q is h =
    let P : Gone → Type 0 = λ (g : Gone). marks_of g.caller seen ≡ g.made in
    let all : Owned seen p.caller p.made (p.met ++ gone_of o ∷ o.met) = subst (λ (z : Known Fixed). Owned seen z.caller z.made z.met) is h in
    ((all.0, all-front P p.met (gone_of o ∷ o.met) all.1), All-head P (gone_of o) o.met (all-back P p.met (gone_of o ∷ o.met) all.1))

-- ---- one issue

-- the gateway's pass has met, or is the pass itself: wherever the marks of all are those that they made, so are the gateway's
pub record HasMetSo (gateway : ℕ) (d : DeskNow) (q : Known Fixed) : Type 0 where
  pub desk : IsDesk d
  pub caller : d.pass.caller ≡ gateway
  pub fixed : d.pass.fixed ≡ q.fixed
  pub begins : Begins d.pass.seen q.seen
  pub told : (seen : List Mark) → Holds seen q → marks_of gateway seen ≡ d.pass.made

-- the passes of the first so many gateways have met
pub record MetSo (many callers : ℕ) (desks : ℕ → DeskNow) (cell : TableId) (q : Known Fixed) : Type 0 where
  pub cell_is : q.cell ≡ cell
  pub callers_are : q.callers ≡ callers
  pub block : q.block ≡ 0
  pub met : length q.met + 1 ≡ many
  pub holds : Holds q.seen q
  pub each : (gateway : ℕ) → 1 ≤ gateway → gateway ≤ many → HasMetSo gateway (desks gateway) q
  pub nobody_else : (gateway : ℕ) → many < gateway → names_in gateway q ≡ 0

total-none : (gateway : ℕ) (met : List Gone) → length met ≡ 0 → total (named_gone gateway) met ≡ 0
total-none gateway [] none = refl
total-none gateway (g ∷ met) none = absurd (omega (arith, none))

module _ (callers : ℕ) (desks : ℕ → DeskNow) (cell : TableId) (fixed : Fixed) where
  -- the first pass
  met-one : IsDesk (desks 1) → IsOfSeat cell callers fixed 0 (desks 1) → MetSo 1 callers desks cell (desks 1).pass
  met-one desk seat =
      let p = (desks 1).pass in
      let caller : p.caller ≡ 1 = ap (λ (z : Known Fixed). z.caller) seat in
      let alone : length p.met ≡ 0 = ap (λ (z : Known Fixed). length z.met) seat in
      let this : HasMetSo 1 (desks 1) p = record {
        desk = desk;
        caller = caller;
        fixed = refl;
        begins = begins_refl p.seen;
        told = λ seen h. ap (λ (c : ℕ). marks_of c seen) (sym caller) ∙ h.0;
      } in
      record {
        cell_is = ap (λ (z : Known Fixed). z.cell) seat;
        callers_are = ap (λ (z : Known Fixed). z.callers) seat;
        block = ap (λ (z : Known Fixed). z.block) seat;
        met = omega (arith, alone);
        holds = desk.holds;
        each = λ gateway low high.
            let one : 1 ≡ gateway = omega (arith, low, high) in
            subst (λ (g : ℕ). HasMetSo g (desks g) p) one this;
        nobody_else = λ gateway above.
            let other : only gateway p.caller ≡ 0 = only_else gateway p.caller (λ (same : p.caller ≡ gateway). absurd (omega (arith, same, caller, above))) in
            let none : total (named_gone gateway) p.met ≡ 0 = total-none gateway p.met alone in
            omega (arith, other, none);
      }

  -- one pass more
  met-more : (many : ℕ) (p q : Known Fixed) → 1 ≤ many → IsOfSeat cell callers fixed 0 (desks 1) → IsOfSeat cell callers fixed many (desks (many + 1))
      → MetSo many callers desks cell p → HasJoined (desks (many + 1)) p q → MetSo (many + 1) callers desks cell q
  met-more many p q some first seat before joined =
      let o = (desks (many + 1)).pass in
      let caller : o.caller ≡ many + 1 = ap (λ (z : Known Fixed). z.caller) seat in
      let alone : length o.met ≡ 0 = ap (λ (z : Known Fixed). length z.met) seat in
      let kept : q.fixed ≡ p.fixed = ap (λ (z : Known Fixed). z.fixed) joined.pass in
      let long : length q.met ≡ length (p.met ++ gone_of o ∷ o.met) = ap (λ (z : Known Fixed). length z.met) joined.pass in
      let this : HasMetSo (many + 1) (desks (many + 1)) q = record {
        desk = joined.desk;
        caller = caller;
        fixed = ap (λ (z : Known Fixed). z.fixed) seat ∙ sym (ap (λ (z : Known Fixed). z.fixed) first) ∙ (before.each 1 (omega arith) some).fixed ∙ sym kept;
        begins = joined.grows.1;
        told = λ seen h. ap (λ (c : ℕ). marks_of c seen) (sym caller) ∙ (holds-both seen p o q joined.pass h).1;
      } in
      record {
        cell_is = ap (λ (z : Known Fixed). z.cell) joined.pass ∙ before.cell_is;
        callers_are = ap (λ (z : Known Fixed). z.callers) joined.pass ∙ before.callers_are;
        block = ap (λ (z : Known Fixed). z.block) joined.pass ∙ before.block;
        met = omega (arith, long, length-append p.met (gone_of o ∷ o.met), alone, before.met);
        holds = joined.holds;
        each = λ gateway low high.
            dite (dec_le gateway many)
            (λ (under : gateway ≤ many).
            let old = before.each gateway low under in
            record {
              desk = old.desk;
              caller = old.caller;
              fixed = old.fixed ∙ sym kept;
              begins = begins_trans (desks gateway).pass.seen p.seen q.seen old.begins joined.grows.0;
              told = λ seen h. old.told seen (holds-both seen p o q joined.pass h).0;
            })
            (λ past.
            let last : many + 1 ≡ gateway = omega arith in
            subst (λ (g : ℕ). HasMetSo g (desks g) q) last this);
        nobody_else = λ gateway above.
            let other : only gateway o.caller ≡ 0 = only_else gateway o.caller (λ (same : o.caller ≡ gateway). absurd (omega (arith, same, caller, above))) in
            let none : total (named_gone gateway) o.met ≡ 0 = total-none gateway o.met alone in
            let all : total (named_gone gateway) (p.met ++ gone_of o ∷ o.met) ≡ total (named_gone gateway) p.met + (only gateway o.caller + total (named_gone gateway) o.met) =
            total-append (named_gone gateway) p.met (gone_of o ∷ o.met) in
            let names : names_in gateway q ≡ only gateway p.caller + total (named_gone gateway) (p.met ++ gone_of o ∷ o.met) = ap (λ (z : Known Fixed). names_in gateway z) joined.pass in
            let old : only gateway p.caller + total (named_gone gateway) p.met ≡ 0 = before.nobody_else gateway (omega (arith, above)) in
            omega (arith, other, none, all, names, old);
      }

all-met : (gateways : ℕ) (desks : ℕ → DeskNow) (cell : TableId) (q : Known Fixed) → MetSo gateways gateways desks cell q → AllMet gateways desks cell q
all-met gateways desks cell q s = record {
  cell_is = s.cell_is;
  all_back = omega (arith, s.block, s.met, s.callers_are);
  each = λ gateway low high.
      let x = s.each gateway low high in
      record { desk = x.desk; caller = x.caller; fixed = x.fixed; begins = x.begins; own = x.told q.seen s.holds };
  nobody_else = s.nobody_else;
}

-- ---- all issues

-- of each issue the passes of the first so many gateways have met
pub record HaveMet (many : ℕ) (servers : List TableId) (parts : List (Part DeskNow)) (passes : List (Known Fixed)) : Type 0 where
  pub long : length passes ≡ length servers
  pub each : (n : ℕ) (p : Part DeskNow) (d : DeskNow) (s : TableId) (q : Known Fixed) → n < length servers
      → MetSo many (length parts) (desk_by parts p n d) (slice_index_or servers n s) (slice_index_or passes n q)

module _ (fixed : ℕ → Fixed) (servers : List TableId) (parts : List (Part DeskNow)) (at : AreAtDesks fixed servers parts) where
  pub first-met : (first : Part DeskNow) (passes : List (Known Fixed)) → ((p : Part DeskNow) → slice_index_or parts 0 p ≡ first) → All IsDesk first.desks.items
      → passes ≡ map (λ (d : DeskNow). d.pass) first.desks.items → HaveMet 1 servers parts passes
  first-met first passes there all is =
      let many : length first.desks.items ≡ length servers = ap (λ (x : Part DeskNow). length x.desks.items) (sym (there first)) ∙ at.desks 0 first (omega (arith, at.some)) in
      record {
        long = ap (λ (ps : List (Known Fixed)). length ps) is ∙ length-map first.desks.items (λ (d : DeskNow). d.pass) ∙ many;
        each = λ n p d s q within.
            let inside : n < length first.desks.items = omega (arith, within, many) in
            let at_first : desk_by parts p n d 1 ≡ get_or first.desks.items n d = ap (λ (x : Part DeskNow). get_or x.desks.items n d) (there p) in
            let desk : IsDesk (desk_by parts p n d 1) = subst IsDesk (sym at_first) (all n d inside) in
            let pass : get_or passes n q ≡ (desk_by parts p n d 1).pass =
            ap (λ (ps : List (Known Fixed)). get_or ps n q) is ∙ get_or-map (λ (d : DeskNow). d.pass) first.desks.items n d q inside ∙ ap (λ (d : DeskNow). d.pass) (sym at_first) in
            subst (λ (z : Known Fixed). MetSo 1 (length parts) (desk_by parts p n d) (get_or servers n s) z) (sym pass)
            (met-one (length parts) (desk_by parts p n d) (get_or servers n s) (fixed n) desk (at.each 0 n p d s (omega (arith, at.some)) within));
      }

  -- what the next gateway's desks need
  pub may-meet : (many : ℕ) (part : Part DeskNow) (passes : List (Known Fixed)) → many < length parts → ((p : Part DeskNow) → slice_index_or parts many p ≡ part)
      → HaveMet many servers parts passes
      → (n : ℕ) (s : TableId) (d : DeskNow) (q : Known Fixed) → n < length passes → MayMeet (slice_index_or servers n s) (slice_index_or part.desks.items n d) (slice_index_or passes n q)
  may-meet many part passes few there before n s d q within =
      let inside : n < length servers = omega (arith, within, before.long) in
      let seat : IsOfSeat (get_or servers n s) (length parts) (fixed n) many (get_or part.desks.items n d) =
      subst (λ (x : Part DeskNow). IsOfSeat (get_or servers n s) (length parts) (fixed n) many (desk_at x n d)) (there part) (at.each many n part d s few inside) in
      record {
        pass = (before.each n part d s q inside).cell_is;
        desk = ap (λ (z : Known Fixed). z.cell) seat;
        block = ap (λ (z : Known Fixed). z.block) seat;
      }

  pub part-long : (many : ℕ) (part : Part DeskNow) (passes : List (Known Fixed)) → many < length parts → ((p : Part DeskNow) → slice_index_or parts many p ≡ part)
      → HaveMet many servers parts passes → length part.desks.items ≡ length passes
  part-long many part passes few there before = ap (λ (x : Part DeskNow). length x.desks.items) (sym (there part)) ∙ at.desks many part few ∙ sym before.long

  -- the next gateway's passes have met
  pub more-met : (many : ℕ) (part : Part DeskNow) (old new : List (Known Fixed)) → 1 ≤ many → many < length parts → ((p : Part DeskNow) → slice_index_or parts many p ≡ part)
      → HaveMet many servers parts old → AreJoined part.desks.items old new → HaveMet (many + 1) servers parts new
  more-met many part old new some few there before joined = record {
    long = joined.same ∙ before.long;
    each = λ n p d s q within.
        let place : many ≡ many + 1 - 1 = omega arith in
        let seat : IsOfSeat (get_or servers n s) (length parts) (fixed n) many (desk_by parts p n d (many + 1)) =
        subst (λ (k : ℕ). IsOfSeat (get_or servers n s) (length parts) (fixed n) many (desk_at (get_or parts k p) n d)) place (at.each many n p d s few within) in
        let this : get_or part.desks.items n d ≡ desk_by parts p n d (many + 1) =
        ap (λ (x : Part DeskNow). desk_at x n d) (sym (there p)) ∙ ap (λ (k : ℕ). desk_at (get_or parts k p) n d) place in
        let join : HasJoined (desk_by parts p n d (many + 1)) (get_or old n q) (get_or new n q) =
        subst (λ (x : DeskNow). HasJoined x (get_or old n q) (get_or new n q)) this (joined.each n d q q (omega (arith, within, before.long))) in
        met-more (length parts) (desk_by parts p n d) (get_or servers n s) (fixed n) many (get_or old n q) (get_or new n q) some
        (at.each 0 n p d s (omega (arith, at.some)) within) seat (before.each n p d s q within) join;
  }

pub passes-of : (servers : List TableId) (parts : List (Part DeskNow)) (passes : List (Known Fixed)) → HaveMet (length parts) servers parts passes → ArePassesOf servers parts passes
passes-of servers parts passes met = record {
  many = met.long;
  each = λ n p d s q within. all-met (length parts) (desk_by parts p n d) (get_or servers n s) (get_or passes n q) (met.each n p d s q within);
}

-- ---- the passes of one gateway

-- what a call tells of the desk and of the two passes, for the items of their lists
pub joined-is : (d desk : DeskNow) (o p old q : Known Fixed) → d ≡ desk → o ≡ desk.pass → old ≡ p → IsDesk desk → q ≡ met_with p o → Begins p.seen q.seen × Begins o.seen q.seen → Holds q.seen q
    → HasJoined d old q
joined-is d desk o p old q there taken old_is is met grows holds =
    subst (λ (x : DeskNow). HasJoined x old q) (sym there)
    (subst (λ (z : Known Fixed). HasJoined desk z q) (sym old_is)
    (record {
      desk = is;
      pass = met ∙ ap (met_with p) taken;
      grows = (grows.0, subst (λ (z : Known Fixed). Begins z.seen q.seen) taken grows.1);
      holds = holds;
    }))

pub joined-all : (desks : List DeskNow) (old new : List (Known Fixed)) (i : ℕ) → length old ≤ i → Upto (λ (n : ℕ) (p q : Known Fixed). (d : DeskNow) → HasJoined (slice_index_or desks n d) p q) old new i
    → AreJoined desks old new
joined-all desks old new i all upto = record {
  same = upto.same;
  each = λ n d p q within.
      subst (λ (z : Known Fixed). HasJoined (get_or desks n d) (get_or old n p) z) (get_or_default new n p q (omega (arith, within, upto.same))) (upto.done n p (omega (arith, within, all)) within d);
}

-- ---- the loop over the gateways

-- some gateways have left their desks, and these are left
pub record Meeting (all left : List (Part DeskNow)) (servers : List TableId) (gateways : List GatewayNow) (passes : List (Known Fixed)) : Type 0 where
  pub done : List (Part DeskNow)
  pub whole : done ++ left ≡ all
  pub some : 1 ≤ length done
  pub back : gateways ≡ map (λ (p : Part DeskNow). p.gateway) done
  pub met : HaveMet (length done) servers all passes

-- the part that stands behind those that are done
pub part-there : (all done left : List (Part DeskNow)) (part : Part DeskNow) → done ++ part ∷ left ≡ all → (p : Part DeskNow) → slice_index_or all (length done) p ≡ part
part-there all done left part is p = ap (λ (ps : List (Part DeskNow)). get_or ps (length done) p) (sym is) ∙ get_or-append_seam done part left p

pub part-within : (all done left : List (Part DeskNow)) (part : Part DeskNow) → done ++ part ∷ left ≡ all → length done < length all
part-within all done left part is = omega (arith, length-append done (part ∷ left), ap (λ (ps : List (Part DeskNow)). length ps) is)

module _ (fixed : ℕ → Fixed) (servers : List TableId) (all : List (Part DeskNow)) (at : AreAtDesks fixed servers all) where
  pub meeting-one : (part : Part DeskNow) (left : List (Part DeskNow)) (gateways : List GatewayNow) (passes : List (Known Fixed)) → all ≡ part ∷ left → gateways ≡ part.gateway ∷ []
      → All IsDesk part.desks.items → passes ≡ map (λ (d : DeskNow). d.pass) part.desks.items → Meeting all left servers gateways passes
  meeting-one part left gateways passes is back desks taken = record {
    done = part ∷ [];
    whole = sym is;
    some = omega arith;
    back = back;
    met = first-met fixed servers all at part passes (λ p. ap (λ (ps : List (Part DeskNow)). get_or ps 0 p) is) desks taken;
  }

  pub meeting-may : (part : Part DeskNow) (left : List (Part DeskNow)) (gateways : List GatewayNow) (passes : List (Known Fixed)) → Meeting all (part ∷ left) servers gateways passes
      → (n : ℕ) (s : TableId) (d : DeskNow) (q : Known Fixed) → n < length passes → MayMeet (slice_index_or servers n s) (slice_index_or part.desks.items n d) (slice_index_or passes n q)
  meeting-may part left gateways passes m =
      may-meet fixed servers all at (length m.done) part passes (part-within all m.done left part m.whole) (part-there all m.done left part m.whole) m.met

  pub meeting-long : (part : Part DeskNow) (left : List (Part DeskNow)) (gateways : List GatewayNow) (passes : List (Known Fixed)) → Meeting all (part ∷ left) servers gateways passes
      → length part.desks.items ≡ length passes
  meeting-long part left gateways passes m =
      part-long fixed servers all at (length m.done) part passes (part-within all m.done left part m.whole) (part-there all m.done left part m.whole) m.met

  pub meeting-more : (part : Part DeskNow) (left : List (Part DeskNow)) (gateways : List GatewayNow) (old new : List (Known Fixed)) → Meeting all (part ∷ left) servers gateways old
      → AreJoined part.desks.items old new → Meeting all left servers (gateways ++ part.gateway ∷ []) new
  meeting-more part left gateways old new m joined = record {
    done = m.done ++ part ∷ [];
    whole = append_assoc m.done (part ∷ []) left ∙ m.whole;
    some = omega (arith, length_push m.done part);
    back = ap (λ (gs : List GatewayNow). gs ++ part.gateway ∷ []) m.back ∙ sym (map_push (λ (p : Part DeskNow). p.gateway) m.done part);
    met = subst (λ (n : ℕ). HaveMet n servers all new) (sym (length_push m.done part))
        (more-met fixed servers all at (length m.done) part old new m.some (part-within all m.done left part m.whole) (part-there all m.done left part m.whole) m.met joined);
  }

pub meeting-gateways : (servers : List TableId) (all left : List (Part DeskNow)) (gateways : List GatewayNow) (passes : List (Known Fixed)) → length left ≡ 0 → Meeting all left servers gateways passes
    → gateways ≡ map (λ (p : Part DeskNow). p.gateway) all
meeting-gateways servers all left gateways passes none m = m.back ∙ ap (map (λ (p : Part DeskNow). p.gateway)) (nothing-left m.done left all none m.whole)

pub meeting-passes : (servers : List TableId) (all left : List (Part DeskNow)) (gateways : List GatewayNow) (passes : List (Known Fixed)) → length left ≡ 0 → Meeting all left servers gateways passes
    → ArePassesOf servers all passes
meeting-passes servers all left gateways passes none m =
    passes-of servers all passes (subst (λ (ps : List (Part DeskNow)). HaveMet (length ps) servers all passes) (nothing-left m.done left all none m.whole) m.met)
