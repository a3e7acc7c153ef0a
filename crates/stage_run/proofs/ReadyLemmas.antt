-- Gateways at new desks may begin.
use Rattle.std.proofs.Common.{◌≡◌, ℕ, zero, suc, ◌+◌, ◌<◌, ◌≤◌, ◌==◌, List, [], ◌∷◌, length, map, None, All, AllPairs, refl, sym, ap, subst, ◌∙◌, arith, slice_index_or}
use Rattle.std.proofs.lemmas.List.Elements.{All-filter, All-map, All-nil}
use Rattle.std.proofs.lemmas.List.Kept.{AllPairs-cons, AllPairs-filter}
use Rattle.atomic_table.specs.Seated.{TableId}
use Rattle.mkt_base.specs.declared.quote.Board.{Board}
use Rattle.mkt_base.specs.declared.script.Act.{Act}
use Rattle.mkt_base.specs.declared.script.Act.TheVariants.{Do, Show}
use Rattle.mkt_base.specs.declared.script.ScriptLine.{ScriptLine}
use Rattle.turn_cell.specs.Passes.{Known}
use Rattle.script_file.specs.declared.script.GatewayScriptLine.{GatewayScriptLine}
use Rattle.issue_machine.specs.Journal.{IsEventOf}
use Rattle.issue_journal.specs.Issue.{Fixed, IssueNow}
use Rattle.gateway.specs.Ran.{AreInStages, GatewayNow, IsTaken}
use Rattle.gateway.specs.Served.{TakesAct}
use Rattle.gateway.proofs.Pairs.{pairs-head, pairs-nil, pairs-tail}
use Rattle.stage_law.specs.Played.{bare, lines_by}
use Rattle.stage_play.specs.Playing.{IsNew, IsReady, desk_at}
use Rattle.stage_play.specs.declared.part.Part.{Part}
use Rattle.issue_desk.specs.Desk.{DeskNow, Takes, Tells, at_rest, state_of}
use Rattle.issue_desk.proofs.GrownLemmas.{told-seen}
use Rattle.gateway_lines.specs.Making.{AreGatewaysOf, IsGatewayOf}
use Rattle.issue_seats.specs.Seats.{AreSeated, IsSeated, at_seat}
use Rattle.stage_run.specs.Played.{AreLinesFor, IsActIn}

-- what the desks of issues are to the gateways
abbrev pub rest_of : DeskNow → Known Fixed
rest_of d = at_rest d.pass

abbrev pub caller_in : Known Fixed → ℕ
caller_in place = place.caller

abbrev pub tells_of : DeskNow → Board → ℕ → Type 0
tells_of d board made = Tells d.pass board made

-- an item that is there
pub item : {X : Type 0} (xs : List X) (k : ℕ) → k < length xs → X
item [] k less = absurd (omega (arith, less))
item (x ∷ xs) zero less = x
item (x ∷ xs) (suc k) less = item xs k (omega (arith, less))

pub pairs-mapped : {X Y : Type 0} (R : Y → Y → Type 0) (f : X → Y) (xs : List X) → AllPairs (λ (a b : X). R (f a) (f b)) xs → AllPairs R (map f xs)
pairs-mapped R f [] pairs = pairs-nil R
pairs-mapped {X} R f (x ∷ xs) pairs =
    AllPairs-cons R (f x) (map f xs) (All-map (R (f x)) f xs (pairs-head (λ (a b : X). R (f a) (f b)) x xs pairs)) (pairs-mapped R f xs (pairs-tail (λ (a b : X). R (f a) (f b)) x xs pairs))

module _ (made : List GatewayScriptLine) (gateway : ℕ) where
  -- what holds of all lines holds of a gateway's
  pub bare-all : (P : ScriptLine → Type 0) → All (λ (of : GatewayScriptLine). P of.line) made → All P (bare (lines_by gateway made))
  bare-all P all =
      All-map P (λ (of : GatewayScriptLine). of.line) (lines_by gateway made) (All-filter (λ (of : GatewayScriptLine). of.gateway.0 == gateway) (λ (of : GatewayScriptLine). P of.line) made all)

  pub bare-stages : AllPairs (λ (a b : GatewayScriptLine). a.line.stage ≤ b.line.stage) made → AreInStages (bare (lines_by gateway made))
  bare-stages pairs =
      pairs-mapped (λ (a b : ScriptLine). a.stage ≤ b.stage) (λ (of : GatewayScriptLine). of.line) (lines_by gateway made)
      (AllPairs-filter (λ (a b : GatewayScriptLine). a.line.stage ≤ b.line.stage) (λ (of : GatewayScriptLine). of.gateway.0 == gateway) made pairs)

-- a desk at which nothing was done
new-desk : (cell : TableId) (callers : ℕ) (fixed : Fixed) (place gateway : ℕ) → place + 1 ≡ gateway
    → IsNew state_of rest_of caller_in Takes tells_of gateway (record { pass = at_seat cell callers fixed place; stop = None })
new-desk cell callers fixed place gateway same = record {
  whose = same;
  made = refl;
  stop = refl;
  told = told-seen (at_seat cell callers fixed place) refl (refl, All-nil _);
}

module _ (participants stages callers place : ℕ) (made : List GatewayScriptLine) (issues : List IssueNow) (servers : List TableId) (g : GatewayNow) (part : Part DeskNow)
    (order : AllPairs (λ (a b : GatewayScriptLine). a.line.stage ≤ b.line.stage) made) (lines : AreLinesFor participants stages made issues) (many : length servers ≡ length issues)
    (its : IsGatewayOf made (place + 1) g) (seated : IsSeated callers issues servers place g part) where
  abbrev own : List ScriptLine
  own = bare (lines_by (place + 1) made)

  own-lines : own ≡ part.gateway.lines
  own-lines = sym (ap (λ (x : GatewayNow). x.lines) seated.gateway_is ∙ its.lines)

  own-caller : place + 1 ≡ part.gateway.caller.0
  own-caller = sym (ap (λ (x : GatewayNow). x.caller.0) seated.gateway_is ∙ its.caller)

  seat-at : (n : ℕ) (d : DeskNow) → n < length issues → (cell : TableId) × (fixed : Fixed) × (fixed.participants ≡ participants) × (desk_at part n d ≡ record { pass = at_seat cell callers fixed place; stop = None })
  seat-at n d within =
      let i : IssueNow = item issues n within in
      let s : TableId = item servers n (omega (arith, within, many)) in
      (slice_index_or servers n s, (slice_index_or issues n i).fixed, lines.same n i within, seated.each n i s d within)

  new-at : (n : ℕ) (d : DeskNow) → n < length issues → IsNew state_of rest_of caller_in Takes tells_of part.gateway.caller.0 (desk_at part n d)
  new-at n d within =
      let at = seat-at n d within in
      subst (IsNew state_of rest_of caller_in Takes tells_of part.gateway.caller.0) (sym at.3) (new-desk at.0 callers at.1 place part.gateway.caller.0 own-caller)

  takes-act : (l : ScriptLine) → l.issue < length issues → IsActIn participants l.act → IsTaken Takes rest_of part.desks.items l
  takes-act l within acts = λ d.
      let at = seat-at l.issue d within in
      subst (λ (x : DeskNow). TakesAct Takes (rest_of x) l.act) (sym at.3) (by l.act at.0 at.1 at.2 acts)
    where
      by : (act : Act) (cell : TableId) (fixed : Fixed) → fixed.participants ≡ participants → IsActIn participants act → TakesAct Takes (at_rest (at_seat cell callers fixed place)) act
      by (Do event) cell fixed same event-is = subst (λ (n : ℕ). IsEventOf n event) (sym same) event-is
      by Show cell fixed same event-is = tt

  pub seated-ready : IsReady state_of rest_of caller_in Takes tells_of (length issues) stages part
  seated-ready = record {
    desks = seated.desks;
    new = λ n d within. new-at n d within;
    shows = ap (λ (x : GatewayNow). x.shows) seated.gateway_is ∙ its.shows;
    order = subst AreInStages own-lines (bare-stages made (place + 1) order);
    within = subst (All (λ (l : ScriptLine). l.stage < stages)) own-lines (bare-all made (place + 1) (λ (l : ScriptLine). l.stage < stages) lines.below);
    issue = subst (All (λ (l : ScriptLine). l.issue < length issues)) own-lines (bare-all made (place + 1) (λ (l : ScriptLine). l.issue < length issues) lines.issue);
    taken = subst (All (IsTaken Takes rest_of part.desks.items)) own-lines
        (bare-all made (place + 1) (IsTaken Takes rest_of part.desks.items) (λ k of within. takes-act (slice_index_or made k of).line (lines.issue k of within) (lines.acts k of within)));
  }

-- all gateways may begin
pub all-ready : (participants stages : ℕ) (made : List GatewayScriptLine) (issues : List IssueNow) (servers : List TableId) (gs : List GatewayNow) (parts : List (Part DeskNow))
    → AllPairs (λ (a b : GatewayScriptLine). a.line.stage ≤ b.line.stage) made → AreLinesFor participants stages made issues → length servers ≡ length issues → AreGatewaysOf made (length gs) gs
    → AreSeated issues servers gs parts → (k : ℕ) (p : Part DeskNow) → k < length parts → IsReady state_of rest_of caller_in Takes tells_of (length issues) stages (slice_index_or parts k p)
all-ready participants stages made issues servers gs parts order lines many its seated k p within =
    let there : k < length gs = omega (arith, within, seated.many) in
    let g : GatewayNow = item gs k there in
    seated-ready participants stages (length gs) k made issues servers (slice_index_or gs k g) (slice_index_or parts k p) order lines many (its.each k g there) (seated.each k g p there)
