-- The lines of a stage, one after the other.
use Rattle.std.proofs.Common.{◌≡◌, ℕ, ◌<◌, ◌==◌, Bool, true, false, cond, List, [], ◌∷◌, ◌++◌, length, map, nat_lt, All, refl, sym, ap, subst, ◌∙◌, arith, append-nil, append_assoc, slice_index_or}
use Rattle.std.proofs.lemmas.Bool.{eq-eqb, eqb-true, le-ltb}
use Rattle.std.proofs.lemmas.List.{map-append}
use Rattle.std.proofs.lemmas.List.Elements.{All-append, All-head, All-nil, All-tail, filter-append}
use Rattle.mkt_base.specs.Desk.{DeskState}
use Rattle.mkt_base.specs.declared.event.Event.{Event}
use Rattle.mkt_base.specs.declared.quote.Board.{Board}
use Rattle.mkt_base.specs.declared.script.ScriptLine.{ScriptLine}
use Rattle.mkt_base.specs.declared.units.Caller.{Caller}
use Rattle.gateway.specs.Ran.{AreInStages, BeginNoEarlier, Deed, Did, GatewayNow, IsTaken, Ran, RunSoFar, comes_next, lines_after, lines_in}
use Rattle.gateway.specs.Served.{TakesAct}
use Rattle.gateway.proofs.Doing.{did-nothing, did-then}
use Rattle.gateway.proofs.Lines.{all-after, all-behind, all-later, next-later, none-in}
use Rattle.gateway.proofs.Pairs.{all-one}

abbrev line_of : Deed → ScriptLine
line_of x = x.line

abbrev IsOf : ℕ → Deed → Type 0
IsOf stage x = x.line.stage ≡ stage

-- lines of a stage are those in it, and none after it
done-in : (stage : ℕ) (done : List Deed) → All (IsOf stage) done → lines_in stage (map line_of done) ≡ map line_of done
done-in stage [] all = refl
done-in stage (x ∷ done) all =
    let here = eq-eqb x.line.stage stage (All-head (IsOf stage) x done all) in
    let rest : List ScriptLine = lines_in stage (map line_of done) in
    ap (λ (b : Bool). cond b (x.line ∷ rest) rest) here ∙ ap (λ (ls : List ScriptLine). x.line ∷ ls) (done-in stage done (All-tail (IsOf stage) x done all))

done-after : (stage : ℕ) (done : List Deed) → All (IsOf stage) done → lines_after stage (map line_of done) ≡ []
done-after stage [] all = refl
done-after stage (x ∷ done) all =
    let is = All-head (IsOf stage) x done all in
    let here = le-ltb stage x.line.stage (omega (arith, is)) in
    let rest : List ScriptLine = lines_after stage (map line_of done) in
    ap (λ (b : Bool). cond b (x.line ∷ rest) rest) here ∙ done-after stage done (All-tail (IsOf stage) x done all)

module _ {D F : Type 0} (state : D → DeskState) (fixed : D → F) (tells : D → Board → ℕ → Type 0) (stage : ℕ) where
  pub so-far-begins : (g : GatewayNow) (desks : List D) → BeginNoEarlier stage g.lines → RunSoFar state fixed tells stage g g desks desks
  so-far-begins g desks begin = record {
    done = [];
    whose = refl;
    lines = refl;
    staged = All-nil (IsOf stage);
    next = begin;
    did = did-nothing state fixed tells g.caller g.shows desks;
  }

  -- one line more
  pub so-far-more : (a b c : GatewayNow) (desks between after : List D) → RunSoFar state fixed tells stage a b desks between → comes_next stage b.lines ≡ true → AreInStages b.lines
      → c.caller ≡ b.caller → (x : Deed) → b.lines ≡ x.line ∷ c.lines → Did state fixed tells b.caller (x ∷ []) b.shows c.shows between after → RunSoFar state fixed tells stage a c desks after
  so-far-more a b c desks between after so comes stages whose x is did =
      let here : x.line.stage ≡ stage = eqb-true x.line.stage stage (subst (λ (ls : List ScriptLine). comes_next stage ls ≡ true) is comes) in
      record {
        done = so.done ++ x ∷ [];
        whose = whose ∙ so.whose;
        lines = so.lines ∙ ap (λ (ls : List ScriptLine). map line_of so.done ++ ls) is ∙ sym (append_assoc (map line_of so.done) (x.line ∷ []) c.lines)
            ∙ ap (λ (ls : List ScriptLine). ls ++ c.lines) (sym (map-append line_of so.done (x ∷ [])));
        staged = All-append (IsOf stage) so.done (x ∷ []) so.staged (all-one (IsOf stage) x here);
        next = next-later stage x.line c.lines (subst AreInStages is stages) here;
        did = did-then state fixed tells a.caller so.done (x ∷ []) a.shows b.shows c.shows desks between after so.did
            (subst (λ (gateway : Caller). Did state fixed tells gateway (x ∷ []) b.shows c.shows between after) so.whose did);
      }

  -- what the next line needs
  pub so-far-desks : (a b : GatewayNow) (desks after : List D) → RunSoFar state fixed tells stage a b desks after → All (λ (l : ScriptLine). l.issue < length desks) a.lines → All (λ (l : ScriptLine). l.issue < length after) b.lines
  so-far-desks a b desks after so have =
      subst (λ (n : ℕ). All (λ (l : ScriptLine). l.issue < n) b.lines) (sym so.did.each)
      (all-behind (λ (l : ScriptLine). l.issue < length desks) (map line_of so.done) b.lines (subst (All (λ (l : ScriptLine). l.issue < length desks)) so.lines have))

  pub so-far-takes : (takes : F → Event → Type 0) (a b : GatewayNow) (desks after : List D) → RunSoFar state fixed tells stage a b desks after → All (λ (l : ScriptLine). l.issue < length desks) a.lines
      → All (IsTaken takes fixed desks) a.lines → All (IsTaken takes fixed after) b.lines
  so-far-takes takes a b desks after so have taken =
      let In : ScriptLine → Type 0 = λ l. l.issue < length desks in
      let within : All In b.lines = all-behind In (map line_of so.done) b.lines (subst (All In) so.lines have) in
      let before : All (IsTaken takes fixed desks) b.lines = all-behind (IsTaken takes fixed desks) (map line_of so.done) b.lines (subst (All (IsTaken takes fixed desks)) so.lines taken) in
      λ k e less d.
      let l : ScriptLine = slice_index_or b.lines k e in
      subst (λ (f : F). TakesAct takes f l.act) (sym (so.did.served l.issue d (within k e less)).same) (before k e less d)

  -- at the end the lines that are left are those of later stages, and the others were those of this one
  pub so-far-rest : (a b : GatewayNow) (desks after : List D) → RunSoFar state fixed tells stage a b desks after → comes_next stage b.lines ≡ false → AreInStages b.lines → b.lines ≡ lines_after stage a.lines
  so-far-rest a b desks after so none stages =
      let later : ScriptLine → Bool = λ l. nat_lt stage l.stage in
      sym (ap (lines_after stage) so.lines ∙ filter-append later (map line_of so.done) b.lines
      ∙ ap (λ (ls : List ScriptLine). ls ++ lines_after stage b.lines) (done-after stage so.done so.staged) ∙ all-after stage b.lines (all-later stage b.lines none stages so.next))

  pub so-far-ran : (a b : GatewayNow) (desks after : List D) → RunSoFar state fixed tells stage a b desks after → comes_next stage b.lines ≡ false → AreInStages b.lines → Ran state fixed tells stage a b desks after
  so-far-ran a b desks after so none stages =
      let here : ScriptLine → Bool = λ l. l.stage == stage in
      let in_stage : lines_in stage a.lines ≡ map line_of so.done =
      ap (lines_in stage) so.lines ∙ filter-append here (map line_of so.done) b.lines
      ∙ ap (λ (ls : List ScriptLine). ls ++ lines_in stage b.lines) (done-in stage so.done so.staged)
      ∙ ap (λ (ls : List ScriptLine). map line_of so.done ++ ls) (none-in stage b.lines (all-later stage b.lines none stages so.next)) ∙ append-nil (map line_of so.done) in
      record { done = so.done; lines = sym in_stage; did = so.did }
