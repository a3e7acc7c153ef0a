-- What the gateways did, once all stages are done.
use Rattle.std.proofs.Common.{◌≡◌, ℕ, ◌+◌, ◌-◌, ◌<◌, ◌≤◌, ◌==◌, List, [], ◌∷◌, ◌++◌, length, map, filter_map, None, All, refl, sym, ap, subst, ◌∙◌, arith, append-nil, slice_index_or}
use Rattle.std.proofs.lemmas.List.{get_or-map, length-map}
use Rattle.std.proofs.lemmas.List.Elements.{All-filter}
use Rattle.gateway.proofs.Lines.{all-behind}
use Rattle.atomic_table.specs.Seated.{TableId}
use Rattle.mkt_base.specs.declared.script.ScriptLine.{ScriptLine}
use Rattle.mkt_base.specs.declared.units.Caller.{Caller}
use Rattle.turn_cell.specs.Passes.{Known}
use Rattle.script_file.specs.declared.script.GatewayScriptLine.{GatewayScriptLine}
use Rattle.script_file.specs.declared.script.Script.{Script}
use Rattle.issue_journal.specs.Issue.{Fixed, IssueNow}
use Rattle.gateway.specs.Ran.{Deed, GatewayNow, show_of}
use Rattle.gateway.specs.Served.{act_of}
use Rattle.stage_law.specs.Come.{Cut, HasCome}
use Rattle.stage_law.specs.Played.{bare, deeds_at, lines_by, lines_done}
use Rattle.stage_law.proofs.Boards.{lines-here}
use Rattle.stage_play.specs.Playing.{AllDone, HasDone, desk_at}
use Rattle.stage_play.specs.declared.part.Part.{Part}
use Rattle.issue_desk.specs.Desk.{DeskNow, Takes, Tells, state_of}
use Rattle.desk_law.specs.Laws.{HasDoneLines}
use Rattle.gateway_lines.specs.Making.{AreGatewaysOf, IsGatewayOf}
use Rattle.issue_seats.specs.Back.{AllMet, AreAtDesks, ArePassesOf, IsOfSeat, desk_by}
use Rattle.issue_seats.specs.Seats.{AreSeated, AreServed}
use Rattle.stage_run.specs.Played.{AllDid, AreLinesFor, WereAtDesks}
use Rattle.stage_run.proofs.ChooseLemmas.{choose}
use Rattle.stage_run.proofs.ReadyLemmas.{bare-all, caller_in, item, rest_of, tells_of}

abbrev Finished : ℕ → ℕ → (ℕ → ℕ → Cut) → Part DeskNow → Part DeskNow → Type 0
Finished = HasDone state_of rest_of caller_in Takes tells_of

-- one gateway that has no line left
module _ (script : Script) (callers place issues : ℕ) (cuts : ℕ → ℕ → Cut) (g : GatewayNow) (old new : Part DeskNow) (its : IsGatewayOf script.lines (place + 1) g) (same : old.gateway ≡ g)
    (below : All (λ (of : GatewayScriptLine). of.line.stage < script.stages) script.lines) (done : Finished issues script.stages cuts old new) where
  own : old.gateway.lines ≡ bare (lines_by (place + 1) script.lines)
  own = ap (λ (x : GatewayNow). x.lines) same ∙ its.lines

  whose : old.gateway.caller.0 ≡ place + 1
  whose = ap (λ (x : GatewayNow). x.caller.0) same ∙ its.caller

  none-left : (ls : List ScriptLine) → All (λ (l : ScriptLine). script.stages ≤ l.stage) ls → All (λ (l : ScriptLine). l.stage < script.stages) ls → ls ≡ []
  none-left [] later within = refl
  none-left (l ∷ ls) later within = let a = later 0 l (omega arith) in let b = within 0 l (omega arith) in absurd (omega (arith, a, b))

  all-done : lines_done done.deeds ≡ bare (lines_by (place + 1) script.lines)
  all-done =
      let within : All (λ (l : ScriptLine). l.stage < script.stages) (lines_done done.deeds ++ new.gateway.lines) =
      subst (All (λ (l : ScriptLine). l.stage < script.stages)) (sym own ∙ done.lines) (bare-all script.lines (place + 1) (λ (l : ScriptLine). l.stage < script.stages) below) in
      let left : new.gateway.lines ≡ [] = none-left new.gateway.lines done.later (all-behind (λ (l : ScriptLine). l.stage < script.stages) (lines_done done.deeds) new.gateway.lines within) in
      sym (append-nil (lines_done done.deeds)) ∙ ap (λ (ls : List ScriptLine). lines_done done.deeds ++ ls) (sym left) ∙ sym done.lines ∙ own

  pub done-at : (n : ℕ) (d : DeskNow) → n < issues → HasDoneLines script n (place + 1) (cuts n) (deeds_at n done.deeds) (desk_at new n d)
  done-at n d within = record {
    lines = lines-here n (place + 1) script.lines done.deeds all-done;
    asked = All-filter (λ (x : Deed). x.line.issue == n) (λ (x : Deed). act_of x.answer ≡ x.line.act) done.deeds done.asked;
    come = subst (λ (c : ℕ). HasCome c script.stages (cuts n) (deeds_at n done.deeds) (state_of (desk_at new n d)) (Tells (desk_at new n d).pass)) whose (done.come n d within);
  }

  pub did-all : lines_done done.deeds ≡ bare (lines_by (place + 1) script.lines)
  did-all = all-done

  pub new-number : new.gateway.caller.0 ≡ place + 1
  new-number = ap (λ (c : Caller). c.0) done.whose ∙ whose

  pub new-shows : new.gateway.shows ≡ filter_map (show_of new.gateway.caller) done.deeds
  new-shows = done.shows ∙ ap (λ (c : Caller). filter_map (show_of c) done.deeds) (sym done.whose)

-- a desk that stands for none
abbrev pub no_desk : DeskNow
no_desk = record {
  pass = record {
    cell = record { words = 0; slots = 0; views_name = 0; atom = 0; block = 0; offset = 0; slot_names = [] };
    caller = 0;
    callers = 0;
    block = 0;
    turns = 0;
    tries = 0;
    served = 0;
    ticket = 0;
    seen = [];
    made = [];
    met = [];
    fixed = None;
  };
  stop = None;
}

module _ (participants : ℕ) (script : Script) (cuts : ℕ → ℕ → Cut) (issues : List IssueNow) (servers : List TableId) (first : List (Known Fixed)) (gs : List GatewayNow) (olds news : List (Part DeskNow)) (some : 1 ≤ length gs)
    (named : 1 ≤ length issues) (lines : AreLinesFor participants script.stages script.lines issues) (its : AreGatewaysOf script.lines (length gs) gs) (served : AreServed (length gs) issues servers first)
    (seated : AreSeated issues servers gs olds) (many : length news ≡ length olds) (done : AllDone state_of rest_of caller_in Takes tells_of (length issues) script.stages cuts olds news) where
  pub old-one : Part DeskNow
  old-one = item olds 0 (omega (arith, some, seated.many))

  at-old : (k : ℕ) → k < length gs → k < length olds
  at-old k within = omega (arith, within, seated.many)

  as-many : length news ≡ length gs
  as-many = many ∙ seated.many

  -- ---- the seats

  abbrev pub fixed-at : ℕ → Fixed
  fixed-at n = (slice_index_or issues n (item issues 0 named)).fixed

  seat-of : (k n : ℕ) (p : Part DeskNow) (d : DeskNow) (s : TableId) (i : IssueNow) → k < length gs → n < length issues
      → IsOfSeat (slice_index_or servers n s) (length gs) (slice_index_or issues n i).fixed k (desk_at (slice_index_or news k p) n d)
  seat-of k n p d s i within there =
      let g : GatewayNow = item gs k within in
      (done k p (at-old k within)).fixed_is n d there ∙ ap rest_of ((seated.each k g p within).each n i s d there)

  pub at-desks : AreAtDesks fixed-at servers news
  at-desks = record {
    some = omega (arith, some, as-many);
    desks = λ k p within. (done k p (omega (arith, within, many))).desks ∙ sym served.servers_each;
    each = λ k n p d s within there.
        subst (λ (m : ℕ). IsOfSeat (slice_index_or servers n s) m (fixed-at n) k (desk_at (slice_index_or news k p) n d)) (sym as-many)
        (seat-of k n p d s (item issues 0 named) (omega (arith, within, as-many)) (omega (arith, there, served.servers_each)));
  }

  pub has-desks : (fixed : ℕ → Fixed) × AreAtDesks fixed servers news
  has-desks = (fixed-at, at-desks)

  -- ---- what was done

  abbrev Deeds : ℕ → List Deed → Type 0
  Deeds k deeds = (h : Finished (length issues) script.stages cuts (slice_index_or olds k old-one) (slice_index_or news k old-one)) × (h.deeds ≡ deeds)

  pub chosen : (f : ℕ → List Deed) × ((k : ℕ) → k < length gs → Deeds k (f k)) × ((k : ℕ) → length gs ≤ k → f k ≡ [])
  chosen = choose [] (length gs) Deeds (λ k within. let h = done k old-one (at-old k within) in (h.deeds, (h, refl)))

  abbrev deeds : ℕ → List Deed
  deeds gateway = chosen.0 (gateway - 1)

  abbrev desks : ℕ → ℕ → DeskNow
  desks n = desk_by news old-one n no_desk

  gateway-at : (k : ℕ) → k < length gs → (g : GatewayNow) × IsGatewayOf script.lines (k + 1) g × ((slice_index_or olds k old-one).gateway ≡ g)
  gateway-at k within =
      let g : GatewayNow = item gs k within in
      (slice_index_or gs k g, its.each k g within, (seated.each k g old-one within).gateway_is)

  did-at : (k n : ℕ) → k < length gs → n < length issues → HasDoneLines script n (k + 1) (cuts n) (deeds_at n (chosen.0 k)) (desk_at (slice_index_or news k old-one) n no_desk)
  did-at k n within there =
      let g = gateway-at k within in
      let h = chosen.1 k within in
      subst (λ (ds : List Deed). HasDoneLines script n (k + 1) (cuts n) (deeds_at n ds) (desk_at (slice_index_or news k old-one) n no_desk)) h.1
      (done-at script (length gs) k (length issues) cuts g.0 (slice_index_or olds k old-one) (slice_index_or news k old-one) g.1 g.2 lines.below h.0 n no_desk there)

  back-to : (gateway : ℕ) → 1 ≤ gateway → gateway - 1 + 1 ≡ gateway
  back-to gateway from = omega (arith, from)

  one-less : (k : ℕ) → k + 1 - 1 ≡ k
  one-less k = omega arith

  abbrev gateways-back : List GatewayNow
  gateways-back = map (λ (p : Part DeskNow). p.gateway) news

  gateway-back : (k : ℕ) (g : GatewayNow) → k < length gs → slice_index_or gateways-back k g ≡ (slice_index_or news k old-one).gateway
  gateway-back k g within = get_or-map (λ (p : Part DeskNow). p.gateway) news k old-one g (omega (arith, within, as-many))

  pub all-did : AllDid script (length gs) (length issues) deeds cuts desks gateways-back
  all-did = record {
    did = λ n gateway there from upto.
        subst (λ (m : ℕ). HasDoneLines script n m (cuts n) (deeds_at n (deeds gateway)) (desks n gateway)) (back-to gateway from) (did-at (gateway - 1) n (omega (arith, from, upto)) there);
    lines = λ gateway from upto. subst (λ (m : ℕ). lines_done (deeds gateway) ≡ bare (lines_by m script.lines)) (back-to gateway from) (lines-at (gateway - 1) (omega (arith, from, upto)));
    others = λ gateway above. chosen.2 (gateway - 1) (omega (arith, above));
    many = length-map news (λ (p : Part DeskNow). p.gateway) ∙ as-many;
    numbers = λ k g within. ap (λ (x : GatewayNow). x.caller.0) (gateway-back k g within) ∙ number-at k within;
    shows = λ k g within.
        ap (λ (x : GatewayNow). x.shows) (gateway-back k g within) ∙ shows-at k within
        ∙ ap (λ (x : GatewayNow). filter_map (show_of x.caller) (chosen.0 k)) (sym (gateway-back k g within)) ∙ ap (λ (m : ℕ). filter_map (show_of (slice_index_or gateways-back k g).caller) (chosen.0 m)) (sym (one-less k));
  }
    where
      lines-at : (k : ℕ) → k < length gs → lines_done (chosen.0 k) ≡ bare (lines_by (k + 1) script.lines)
      lines-at k within =
          let g = gateway-at k within in
          let h = chosen.1 k within in
          ap lines_done (sym h.1) ∙ did-all script (length gs) k (length issues) cuts g.0 (slice_index_or olds k old-one) (slice_index_or news k old-one) g.1 g.2 lines.below h.0

      number-at : (k : ℕ) → k < length gs → (slice_index_or news k old-one).gateway.caller.0 ≡ k + 1
      number-at k within =
          let g = gateway-at k within in
          let h = chosen.1 k within in
          new-number script (length gs) k (length issues) cuts g.0 (slice_index_or olds k old-one) (slice_index_or news k old-one) g.1 g.2 lines.below h.0

      shows-at : (k : ℕ) → k < length gs → (slice_index_or news k old-one).gateway.shows ≡ filter_map (show_of (slice_index_or news k old-one).gateway.caller) (chosen.0 k)
      shows-at k within =
          let g = gateway-at k within in
          let h = chosen.1 k within in
          new-shows script (length gs) k (length issues) cuts g.0 (slice_index_or olds k old-one) (slice_index_or news k old-one) g.1 g.2 lines.below h.0
          ∙ ap (λ (ds : List Deed). filter_map (show_of (slice_index_or news k old-one).gateway.caller) ds) h.1

  -- and the passes have met
  pub were-at-desks : (back : List GatewayNow) (passes : List (Known Fixed)) → back ≡ gateways-back → ArePassesOf servers news passes → WereAtDesks script (length gs) issues servers back passes
  were-at-desks back passes is met = record {
    deeds = deeds;
    cuts = cuts;
    desks = desks;
    all = subst (AllDid script (length gs) (length issues) deeds cuts desks) (sym is) all-did;
    passes_each = met.many;
    met = λ n s q there. met-at n s q there;
    fixed = λ n i q there.
        let s : TableId = item servers n (omega (arith, there, served.servers_each)) in
        let seat = seat-of 0 n old-one no_desk s i some there in
        sym ((met-at n s q there).each 1 (omega arith) some).fixed ∙ ap (λ (p : Known Fixed). p.fixed) seat;
  }
    where
      met-at : (n : ℕ) (s : TableId) (q : Known Fixed) → n < length issues → AllMet (length gs) (desks n) (slice_index_or servers n s) (slice_index_or passes n q)
      met-at n s q there =
          subst (λ (m : ℕ). AllMet m (desks n) (slice_index_or servers n s) (slice_index_or passes n q)) as-many (met.each n old-one no_desk s q (omega (arith, there, served.servers_each)))
