-- The stages of the entries of a journal by their places: an entry stands before the cut of a stage exactly where its own stage is earlier.
use Rattle.std.proofs.Common.{◌≡◌, ℕ, zero, suc, ◌==◌, ◌<◌, ◌≤◌, inl, inr, ◌⊎◌, Bool, true, false, cond, List, [], ◌∷◌, length, map, take, ◌&&◌, Option, Some, None, refl, sym, ap, ◌∙◌, arith}
use Rattle.std.specs.List.{AllByRecursion, cons_option, slice_get}
use Rattle.std.proofs.lemmas.Bool.{cases_lt, eqb-false}
use Rattle.std.proofs.lemmas.List.Elements.{All-filter, recursion_from_All}
use Rattle.std.proofs.lemmas.List.Kept.{AllPairs-filter}
use Rattle.std.proofs.lemmas.Option.{none-some}
use Rattle.mkt_base.specs.declared.event.Entry.{Entry}
use Rattle.book_law.proofs.Pairs.{pairs-from_AllPairs}
use Rattle.rules_file.specs.declared.rules.Rules.{Rules}
use Rattle.script_file.specs.Own.{is_event}
use Rattle.script_file.specs.Script.{IsScript}
use Rattle.script_file.specs.declared.script.GatewayScriptLine.{GatewayScriptLine}
use Rattle.script_file.specs.declared.script.Script.{Script}
use Rattle.issue_machine.specs.History.{IsHistory}
use Rattle.run_law.specs.Run.{count_of, lines_of, stage_of, stages_for, stages_in}
use Rattle.run_law.proofs.Lists.{each-front}
use Rattle.run_law.proofs.Stages.{Rise, rise-front}
use Rattle.stage_law.specs.Come.{Cut}
use Rattle.stage_law.proofs.Counts.{count-grows, count-next, count-within, own-is}
use Rattle.stage_law.proofs.Rises.{at-each, below, get-front, nth-below, nth-from, pairs-map}
use Rattle.stage_law.proofs.Went.{Went}

-- ---- the stages of a gateway's events in an issue

module _ (rules : Rules) (script : Script) (sound : IsScript rules script) (issue g : ℕ) where
  abbrev makes : GatewayScriptLine → Bool
  makes of = of.gateway.0 == g && of.line.issue == issue && is_event of.line.act

  pub stages-rise : Rise (stages_for issue g script.lines)
  stages-rise =
      pairs-map (λ (of : GatewayScriptLine). of.line.stage) (lines_of issue g script.lines)
      (pairs-from_AllPairs (λ (a b : GatewayScriptLine). a.line.stage ≤ b.line.stage) (lines_of issue g script.lines)
      (AllPairs-filter (λ (a b : GatewayScriptLine). a.line.stage ≤ b.line.stage) makes script.lines sound.stages))

  pub stages-under : AllByRecursion (λ (n : ℕ). n < script.stages) (stages_for issue g script.lines)
  stages-under =
      each (lines_of issue g script.lines)
      (recursion_from_All (λ (of : GatewayScriptLine). of.line.stage < script.stages) (lines_of issue g script.lines)
      (All-filter makes (λ (of : GatewayScriptLine). of.line.stage < script.stages) script.lines sound.below))
    where
      each : (ls : List GatewayScriptLine) → AllByRecursion (λ (of : GatewayScriptLine). of.line.stage < script.stages) ls → AllByRecursion (λ (n : ℕ). n < script.stages) (map (λ (of : GatewayScriptLine). of.line.stage) ls)
      each [] all = tt
      each (l ∷ ls) all = (all.0, each ls all.1)

-- ---- lists of stages

module _ (issue : ℕ) (made : List GatewayScriptLine) where
  -- what holds of the stage of each entry
  pub stages-each : (P : ℕ → Type 0) (es : List Entry) → ((k : ℕ) (e : Entry) (t : ℕ) → slice_get es k ≡ Some e → stage_of issue made e ≡ Some t → P t) → AllByRecursion P (stages_in issue made es)
  stages-each P [] f = tt
  stages-each P (e ∷ es) f = by (stage_of issue made e) refl (stages-each P es (λ k d t at is. f (suc k) d t at is))
    where
      by : (o : Option ℕ) → stage_of issue made e ≡ o → AllByRecursion P (stages_in issue made es) → AllByRecursion P (cons_option o (stages_in issue made es))
      by None is rest = rest
      by (Some t) is rest = (f 0 e t refl is, rest)

  -- what holds of each two entries in order
  pub stages-pairs : (es : List Entry) → ((j k : ℕ) (d e : Entry) (t u : ℕ) → j < k → slice_get es j ≡ Some d → slice_get es k ≡ Some e → stage_of issue made d ≡ Some t → stage_of issue made e ≡ Some u → t ≤ u)
      → Rise (stages_in issue made es)
  stages-pairs [] f = tt
  stages-pairs (e ∷ es) f = by (stage_of issue made e) refl (stages-pairs es (λ j k a b t u less. f (suc j) (suc k) a b t u (omega (arith, less))))
    where
      by : (o : Option ℕ) → stage_of issue made e ≡ o → Rise (stages_in issue made es) → Rise (cons_option o (stages_in issue made es))
      by None is rest = rest
      by (Some t) is rest = (stages-each (λ (u : ℕ). t ≤ u) es (λ k d u at there. f 0 (suc k) e d t u (omega arith) refl at is there), rest)

-- ---- an entry at its place

positive : (k : ℕ) → (k ≡ 0 → ⊥) → 1 ≤ k
positive zero apart = absurd (apart refl)
positive (suc k) apart = omega arith

module _ (participants issue : ℕ) (made : List GatewayScriptLine) (stages : ℕ) (cuts : ℕ → Cut) (journal : List Entry) (history : IsHistory participants journal)
    (went : (g : ℕ) → 1 ≤ g → Went issue g made stages cuts journal) where
  -- it is the next one of a gateway, and its stage stands among those that the gateway entered
  pub record IsPlaced (n : ℕ) (e : Entry) (t : ℕ) : Type 0 where
    pub some : 1 ≤ e.caller.0
    pub own : e.own ≡ count_of e.caller.0 (take n journal)
    pub more : count_of e.caller.0 (take (suc n) journal) ≡ suc (count_of e.caller.0 (take n journal))
    pub at : slice_get (went e.caller.0 some).early e.own ≡ Some t

  pub placed : (n : ℕ) (e : Entry) (t : ℕ) → slice_get journal n ≡ Some e → stage_of issue made e ≡ Some t → IsPlaced n e t
  placed n e t at is = by (e.caller.0 == 0) refl is
    where
      by : (b : Bool) → (e.caller.0 == 0) ≡ b → cond b None (slice_get (stages_for issue e.caller.0 made) e.own) ≡ Some t → IsPlaced n e t
      by true none found = absurd (none-some t found)
      by false other found =
          let g : ℕ = e.caller.0 in
          let apart : g ≡ 0 → ⊥ = eqb-false g 0 other in
          let some : 1 ≤ g = positive g apart in
          let own : e.own ≡ count_of g (take n journal) = own-is participants [] journal n e history at in
          let more : count_of g (take (suc n) journal) ≡ suc (count_of g (take n journal)) = count-next g n journal e at refl in
          let w : Went issue g made stages cuts journal = went g some in
          let less : e.own < length w.early = omega (arith, own, more, count-within g (suc n) journal, w.many) in
          record {
            some = some;
            own = own;
            more = more;
            at = get-front w.early w.late e.own t less (ap (λ (ns : List ℕ). slice_get ns e.own) (sym w.stages_are) ∙ found);
          }

  module _ (n : ℕ) (e : Entry) (t : ℕ) (at : slice_get journal n ≡ Some e) (is : stage_of issue made e ≡ Some t) where
    -- before the cut of a stage it is of an earlier one
    pub before-cut : (s : ℕ) → s ≤ stages → n < (cuts s).length → t < s
    before-cut s upto less =
        let p : IsPlaced n e t = placed n e t at is in
        let w : Went issue e.caller.0 made stages cuts journal = went e.caller.0 p.some in
        let few : suc e.own ≤ below s w.early = omega (arith, p.own, p.more, w.cut s upto, count-grows e.caller.0 (suc n) (cuts s).length journal less) in
        nth-below s w.early e.own t (rise-front w.early w.late w.rise) few p.at

    -- behind it, of this one or a later one
    pub behind-cut : (s : ℕ) → s ≤ stages → (cuts s).length ≤ n → s ≤ t
    behind-cut s upto more =
        let p : IsPlaced n e t = placed n e t at is in
        let w : Went issue e.caller.0 made stages cuts journal = went e.caller.0 p.some in
        let many : below s w.early ≤ e.own = omega (arith, p.own, w.cut s upto, count-grows e.caller.0 (cuts s).length n journal more) in
        nth-from s w.early e.own t (rise-front w.early w.late w.rise) many p.at

    -- it is one of the script's stages
    pub stage-under : t < stages
    stage-under =
        let p : IsPlaced n e t = placed n e t at is in
        let w : Went issue e.caller.0 made stages cuts journal = went e.caller.0 p.some in
        at-each (λ (k : ℕ). k < stages) w.early e.own t (each-front (λ (k : ℕ). k < stages) w.early w.late w.under) p.at

  -- the stages of a journal do not fall
  pub order : Rise (stages_in issue made journal)
  order = stages-pairs issue made journal (λ j k d e t u less first second here there.
      let under : t < stages = stage-under j d t first here in
      by (cuts t).length j k t u less (λ before. before-cut j d t first here t (omega (arith, under)) before) (λ behind. behind-cut k e u second there t (omega (arith, under)) behind) (cases_lt j (cuts t).length))
    where
      by : (c j k t u : ℕ) → j < k → (j < c → t < t) → (c ≤ k → t ≤ u) → ((j < c) ⊎ (c ≤ j)) → t ≤ u
      by c j k t u less before behind (inl h) = let never : t < t = before h in absurd (omega (arith, never))
      by c j k t u less before behind (inr h) = behind (omega (arith, h, less))
