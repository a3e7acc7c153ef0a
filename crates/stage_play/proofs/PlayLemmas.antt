-- A stage more, of one gateway: it did its lines of the stage, and its desks caught up.
use Rattle.std.proofs.Common.{◌≡◌, ℕ, ◌+◌, ◌<◌, ◌≤◌, ◌==◌, Bool, true, false, cond, List, None, [], ◌∷◌, ◌++◌, length, map, filter, filter_map, nat_lt, All, refl, sym, ap, subst, ◌∙◌, arith, append_assoc, slice_index_or}
use Rattle.std.proofs.lemmas.Bool.{eqb-true, eqb-false, ltb-false, ltb-true, ne_eqb}
use Rattle.std.proofs.lemmas.List.{map-append}
use Rattle.mkt_base.specs.declared.units.Caller.{Caller}
use Rattle.std.proofs.lemmas.List.Elements.{All-append, All-cons, All-head, All-nil, All-tail, filter-append, filter_map-append}
use Rattle.mkt_base.specs.Desk.{DeskState}
use Rattle.mkt_base.specs.declared.event.Event.{Event}
use Rattle.mkt_base.specs.declared.quote.Board.{Board}
use Rattle.mkt_base.specs.declared.script.ScriptLine.{ScriptLine}
use Rattle.mkt_base.specs.declared.script.ShowLine.{ShowLine}
use Rattle.gateway.specs.Ran.{AreInStages, BeginNoEarlier, Deed, IsTaken, lines_after, lines_in, show_of}
use Rattle.gateway.specs.Served.{Served, TakesAct, act_of}
use Rattle.gateway.proofs.Lines.{all-behind, filter-none}
use Rattle.gateway.proofs.Pairs.{pairs-head, pairs-tail}
use Rattle.stage_law.specs.Come.{Cut, HasCome, HasSeenAll, answers_of}
use Rattle.stage_law.specs.Played.{deeds_at, lines_done}
use Rattle.stage_law.proofs.Coming.{come_first, come_next}
use Rattle.stage_play.specs.Blocks.{AllGoOn, HasComeTo, cut_of, next_cuts}
use Rattle.stage_play.specs.Playing.{AllDone, HasDone, HasLevelled, HasRun, IsReady, MayRun, desk_at}
use Rattle.stage_play.proofs.SightLemmas.{within-sight}
use Rattle.stage_play.specs.Seen.{CaughtUp, seen_by}
use Rattle.stage_play.specs.declared.part.Part.{Part}
use Rattle.stage_play.specs.declared.seen.Sight.{Sight}

-- ---- the lines of a stage and those of later ones

-- lines in the order of stages, none of an earlier stage: first those of the stage, then the later ones
pub split-stage : (stage : ℕ) (lines : List ScriptLine) → AreInStages lines → All (λ (l : ScriptLine). stage ≤ l.stage) lines → lines ≡ lines_in stage lines ++ lines_after stage lines
split-stage stage [] order from = refl
split-stage stage (l ∷ lines) order from =
    by (l.stage == stage) (nat_lt stage l.stage) refl refl (All-head (λ (m : ScriptLine). stage ≤ m.stage) l lines from)
    (split-stage stage lines (pairs-tail Earlier l lines order) (All-tail (λ (m : ScriptLine). stage ≤ m.stage) l lines from))
  where
    Earlier : ScriptLine → ScriptLine → Type 0
    Earlier a b = a.stage ≤ b.stage

    none-here : stage < l.stage → lines_in stage lines ≡ []
    none-here later = filter-none (λ (m : ScriptLine). m.stage == stage) lines (λ k d within. other (slice_index_or lines k d).stage (pairs-head Earlier l lines order k d within))
      where
        other : (n : ℕ) → l.stage ≤ n → (n == stage) ≡ false
        other n from = ne_eqb n stage (λ is. absurd (omega (arith, later, from, is)))

    by : (here later : Bool) → (l.stage == stage) ≡ here → nat_lt stage l.stage ≡ later → stage ≤ l.stage → lines ≡ lines_in stage lines ++ lines_after stage lines
        → (l ∷ lines) ≡ cond here (l ∷ lines_in stage lines) (lines_in stage lines) ++ cond later (l ∷ lines_after stage lines) (lines_after stage lines)
    by true true e f head rest = absurd (let same = eqb-true l.stage stage e in let above = ltb-true stage l.stage f in omega (arith, same, above))
    by true false e f head rest = ap (λ (ms : List ScriptLine). l ∷ ms) rest
    by false true e f head rest =
        let none = none-here (ltb-true stage l.stage f) in
        let all : lines ≡ lines_after stage lines = rest ∙ ap (λ (ms : List ScriptLine). ms ++ lines_after stage lines) none in
        ap (λ (ms : List ScriptLine). l ∷ ms) all ∙ ap (λ (ms : List ScriptLine). ms ++ (l ∷ lines_after stage lines)) (sym none)
    by false false e f head rest = absurd (let apart = eqb-false l.stage stage e in let under = ltb-false stage l.stage f in clash head apart under)
      where
        clash : stage ≤ l.stage → (l.stage ≡ stage → ⊥) → l.stage ≤ stage → ⊥
        clash a b c = b (omega (arith, a, c))

-- later lines are of the next stage or a later one
pub next-from : (stage : ℕ) (lines : List ScriptLine) → All (λ (l : ScriptLine). stage + 1 ≤ l.stage) (lines_after stage lines)
next-from stage [] = All-nil (λ (l : ScriptLine). stage + 1 ≤ l.stage)
next-from stage (l ∷ lines) = by (nat_lt stage l.stage) refl (next-from stage lines)
  where
    by : (b : Bool) → nat_lt stage l.stage ≡ b → All (λ (m : ScriptLine). stage + 1 ≤ m.stage) (lines_after stage lines) → All (λ (m : ScriptLine). stage + 1 ≤ m.stage) (cond b (l ∷ lines_after stage lines) (lines_after stage lines))
    by true e rest = All-cons (λ (m : ScriptLine). stage + 1 ≤ m.stage) l (lines_after stage lines) (let above = ltb-true stage l.stage e in omega (arith, above)) rest
    by false e rest = rest

-- deeds of a stage's lines are of the stage
pub deeds-staged : (stage : ℕ) (done : List Deed) (lines : List ScriptLine) → lines_done done ≡ lines_in stage lines → All (λ (x : Deed). x.line.stage ≡ stage) done
deeds-staged stage done lines are = λ k d within.
    let all : All (λ (l : ScriptLine). l.stage ≡ stage) (lines_in stage lines) = in-stage lines in
    let one = subst (λ (ls : List ScriptLine). All (λ (l : ScriptLine). l.stage ≡ stage) ls) (sym are) all in
    all-mapped done one k d within
  where
    in-stage : (ls : List ScriptLine) → All (λ (l : ScriptLine). l.stage ≡ stage) (lines_in stage ls)
    in-stage [] = All-nil (λ (l : ScriptLine). l.stage ≡ stage)
    in-stage (l ∷ ls) = by (l.stage == stage) refl (in-stage ls)
      where
        by : (b : Bool) → (l.stage == stage) ≡ b → All (λ (m : ScriptLine). m.stage ≡ stage) (lines_in stage ls) → All (λ (m : ScriptLine). m.stage ≡ stage) (cond b (l ∷ lines_in stage ls) (lines_in stage ls))
        by true e rest = All-cons (λ (m : ScriptLine). m.stage ≡ stage) l (lines_in stage ls) (eqb-true l.stage stage e) rest
        by false e rest = rest

    all-mapped : (xs : List Deed) → All (λ (l : ScriptLine). l.stage ≡ stage) (lines_done xs) → All (λ (x : Deed). x.line.stage ≡ stage) xs
    all-mapped [] all = All-nil (λ (x : Deed). x.line.stage ≡ stage)
    all-mapped (x ∷ xs) all =
        All-cons (λ (y : Deed). y.line.stage ≡ stage) x xs (All-head (λ (l : ScriptLine). l.stage ≡ stage) x.line (lines_done xs) all)
        (all-mapped xs (All-tail (λ (l : ScriptLine). l.stage ≡ stage) x.line (lines_done xs) all))

-- what passes a test of what holds of all
pub all-filtered : {X : Type 0} (P : X → Type 0) (p : X → Bool) (xs : List X) → All P xs → All P (filter p xs)
all-filtered P p [] all = all
all-filtered P p (x ∷ xs) all = by (p x) (all-filtered P p xs (All-tail P x xs all))
  where
    by : (b : Bool) → All P (filter p xs) → All P (cond b (x ∷ filter p xs) (filter p xs))
    by true rest = All-cons P x (filter p xs) (All-head P x xs all) rest
    by false rest = rest

-- ---- what a sight says of one desk

-- what a desk has seen is within a sight
pub record IsWithin (sight : Sight) (d : DeskState) : Type 0 where
  pub seen : d.seen ≤ sight.seen
  pub ended : d.ended ≡ true → sight.halted ≡ true

module _ {D F : Type 0} (state : D → DeskState) (fixed : D → F) (caller : F → ℕ) (takes : F → Event → Type 0) (tells : D → Board → ℕ → Type 0) where
  -- a desk that has caught up has seen all
  pub seen-all : (whose : ℕ) (sight : Sight) (ran new : D) → caller (fixed new) ≡ whose → IsWithin sight (state ran) → CaughtUp state fixed caller tells sight ran new
      → HasSeenAll whose (cut_of sight) (tells ran) (tells new) (state ran) (state new)
  seen-all whose sight ran new is within caught = record {
    keeps = caught.keeps;
    upto = within.seen;
    seen = caught.seen;
    told = record {
      low = caught.low.board;
      low_told = subst (λ (es : List Event). tells new caught.low.board (length es)) (sym caught.made) caught.low.told;
      upto = subst (λ (n : ℕ). n ≤ sight.seen) (sym caught.low.length_is) within.seen;
      high = caught.high.board;
      high_told = subst (λ (es : List Event). tells new caught.high.board (length es)) (sym caught.made) caught.high.told;
      from = subst (λ (n : ℕ). sight.seen ≤ n) (sym caught.high.length_is) caught.seen;
    };
    made = caught.made;
    stop = caught.stop;
    ended = caught.ended;
    halt = caught.halt;
    running = λ (calm : sight.halted ≡ false). not-ended (state ran).ended refl calm;
    over = λ (over : sight.halted ≡ true). let h = caught.halted over in (h.0, h.1, subst (λ (n : ℕ). h.0.caller.0 ≡ n → (state new).stop ≡ None → ⊥) is (caught.own h.0 h.1));
  }
    where
      not-ended : (b : Bool) → (state ran).ended ≡ b → sight.halted ≡ false → (state ran).ended ≡ false
      not-ended true e calm = absurd (let over = within.ended e in cc)
      not-ended false e calm = e

  -- a gateway whose lines are left may do those of the stage
  pub may-run : (issues stages stage : ℕ) (cuts : ℕ → ℕ → Cut) (old p : Part D) → IsReady state fixed caller takes tells issues stages old → HasDone state fixed caller takes tells issues stage cuts old p → MayRun takes fixed stage p
  may-run issues stages stage cuts old p ready done = record {
    next = first-of p.gateway.lines done.later;
    desks = subst (λ (n : ℕ). All (λ (l : ScriptLine). l.issue < n) p.gateway.lines) (sym done.desks) left-issues;
    taken = λ k l within. taken-by (slice_index_or p.gateway.lines k l) (left-issues k l within) (left-taken k l within);
  }
    where
      first-of : (ls : List ScriptLine) → All (λ (l : ScriptLine). stage ≤ l.stage) ls → BeginNoEarlier stage ls
      first-of [] all = tt
      first-of (l ∷ ls) all = All-head (λ (m : ScriptLine). stage ≤ m.stage) l ls all

      left-issues : All (λ (l : ScriptLine). l.issue < issues) p.gateway.lines
      left-issues = all-behind (λ (l : ScriptLine). l.issue < issues) (lines_done done.deeds) p.gateway.lines (subst (λ (ls : List ScriptLine). All (λ (l : ScriptLine). l.issue < issues) ls) done.lines ready.issue)

      left-taken : All (IsTaken takes fixed old.desks.items) p.gateway.lines
      left-taken = all-behind (IsTaken takes fixed old.desks.items) (lines_done done.deeds) p.gateway.lines (subst (λ (ls : List ScriptLine). All (IsTaken takes fixed old.desks.items) ls) done.lines ready.taken)

      taken-by : (l : ScriptLine) → l.issue < issues → IsTaken takes fixed old.desks.items l → IsTaken takes fixed p.desks.items l
      taken-by l within was = λ d. subst (λ (f : F). TakesAct takes f l.act) (sym (done.fixed_is l.issue d within)) (was d)

  -- a stage more
  pub done-more : (issues stages stage : ℕ) (cuts : ℕ → ℕ → Cut) (sights : List Sight) (old p q r : Part D) → IsReady state fixed caller takes tells issues stages old → HasDone state fixed caller takes tells issues stage cuts old p
      → HasRun state fixed tells stage p q → HasLevelled state fixed caller takes tells sights q r
      → ((issue : ℕ) (d : D) → issue < issues → IsWithin (slice_index_or sights issue (record { seen = 0; halted = false })) (state (desk_at q issue d)))
      → HasDone state fixed caller takes tells issues (stage + 1) (next_cuts cuts stage sights) old r
  done-more issues stages stage cuts sights old p q r ready done run level within = record {
    deeds = done.deeds ++ run.ran.done;
    whose = ap (λ g. g.caller) level.gateway ∙ run.whose ∙ done.whose;
    lines = done.lines
        ∙ ap (λ (ls : List ScriptLine). lines_done done.deeds ++ ls) (split-stage stage p.gateway.lines order done.later ∙ ap (λ (ls : List ScriptLine). ls ++ lines_after stage p.gateway.lines) (sym run.ran.lines)
        ∙ ap (λ (ls : List ScriptLine). lines_done run.ran.done ++ ls) (sym rest))
        ∙ sym (append_assoc (lines_done done.deeds) (lines_done run.ran.done) r.gateway.lines)
        ∙ ap (λ (ls : List ScriptLine). ls ++ r.gateway.lines) (sym (map-append (λ (x : Deed). x.line) done.deeds run.ran.done));
    asked = All-append (λ (x : Deed). act_of x.answer ≡ x.line.act) done.deeds run.ran.done done.asked run.ran.did.asked;
    later = subst (λ (ls : List ScriptLine). All (λ (l : ScriptLine). stage + 1 ≤ l.stage) ls) (sym rest) (next-from stage p.gateway.lines);
    shows = ap (λ g. g.shows) level.gateway ∙ run.ran.did.shows_kept
        ∙ ap (λ (ss : List ShowLine). ss ++ filter_map (show_of p.gateway.caller) run.ran.done) done.shows
        ∙ ap (λ (g : Caller). filter_map (show_of old.gateway.caller) done.deeds ++ filter_map (show_of g) run.ran.done) done.whose
        ∙ sym (filter_map-append (show_of old.gateway.caller) done.deeds run.ran.done);
    desks = level.desks ∙ run.ran.did.each ∙ done.desks;
    fixed_is = λ issue d there. same issue d there ∙ done.fixed_is issue d there;
    come = come;
  }
    where
      none : Sight
      none = record { seen = 0; halted = false }

      rest : r.gateway.lines ≡ lines_after stage p.gateway.lines
      rest = ap (λ g. g.lines) level.gateway ∙ run.rest

      order : AreInStages p.gateway.lines
      order = pairs-behind (lines_done done.deeds) p.gateway.lines (subst AreInStages done.lines ready.order)
        where
          pairs-behind : (ls ms : List ScriptLine) → AreInStages (ls ++ ms) → AreInStages ms
          pairs-behind [] ms pairs = pairs
          pairs-behind (l ∷ ls) ms pairs = pairs-behind ls ms (pairs-tail (λ (a b : ScriptLine). a.stage ≤ b.stage) l (ls ++ ms) pairs)

      at-p : (issue : ℕ) → issue < issues → issue < length p.desks.items
      at-p issue there = subst (λ (n : ℕ). issue < n) (sym done.desks) there

      at-q : (issue : ℕ) → issue < issues → issue < length q.desks.items
      at-q issue there = subst (λ (n : ℕ). issue < n) (sym (run.ran.did.each ∙ done.desks)) there

      served : (issue : ℕ) (d : D) → issue < issues → Served state fixed tells (answers_of (deeds_at issue run.ran.done)) (desk_at p issue d) (desk_at q issue d)
      served issue d there = run.ran.did.served issue d (at-p issue there)

      caught : (issue : ℕ) (d : D) → issue < issues → CaughtUp state fixed caller tells (slice_index_or sights issue none) (desk_at q issue d) (desk_at r issue d)
      caught issue d there = level.each issue d none (at-q issue there)

      same : (issue : ℕ) (d : D) → issue < issues → fixed (desk_at r issue d) ≡ fixed (desk_at p issue d)
      same issue d there = (caught issue d there).same ∙ (served issue d there).same

      whose-desk : (issue : ℕ) (d : D) → issue < issues → caller (fixed (desk_at r issue d)) ≡ old.gateway.caller.0
      whose-desk issue d there = ap caller (same issue d there ∙ done.fixed_is issue d there) ∙ (ready.new issue d there).whose

      come : (issue : ℕ) (d : D) → issue < issues
          → HasCome old.gateway.caller.0 (stage + 1) (next_cuts cuts stage sights issue) (deeds_at issue (done.deeds ++ run.ran.done)) (state (desk_at r issue d)) (tells (desk_at r issue d))
      come issue d there =
          subst (λ (xs : List Deed). HasCome old.gateway.caller.0 (stage + 1) (next_cuts cuts stage sights issue) xs (state (desk_at r issue d)) (tells (desk_at r issue d)))
          (sym (filter-append (λ (x : Deed). x.line.issue == issue) done.deeds run.ran.done))
          (come_next state fixed tells old.gateway.caller.0 stage (cuts issue) (cut_of (slice_index_or sights issue none)) (deeds_at issue done.deeds) (deeds_at issue run.ran.done) (desk_at p issue d) (desk_at q issue d) (desk_at r issue d)
          (done.come issue d there)
          (all-filtered (λ (x : Deed). x.line.stage ≡ stage) (λ (x : Deed). x.line.issue == issue) run.ran.done (deeds-staged stage run.ran.done p.gateway.lines run.ran.lines))
          (served issue d there)
          (seen-all old.gateway.caller.0 (slice_index_or sights issue none) (desk_at q issue d) (desk_at r issue d) (whose-desk issue d there) (within issue d there) (caught issue d there)))

  abbrev no_cuts : ℕ → ℕ → Cut
  no_cuts issue s = record { length = 0; halted = false }

  -- before the first stage
  pub done-nothing : (issues stages : ℕ) (old : Part D) → IsReady state fixed caller takes tells issues stages old → HasDone state fixed caller takes tells issues 0 no_cuts old old
  done-nothing issues stages old ready = record {
    deeds = [];
    whose = refl;
    lines = refl;
    asked = All-nil (λ (x : Deed). act_of x.answer ≡ x.line.act);
    later = λ k l within. omega arith;
    shows = ready.shows;
    desks = ready.desks;
    fixed_is = λ issue d there. refl;
    come = λ issue d there. let new = ready.new issue d there in
        come_first old.gateway.caller.0 (no_cuts issue) (state (desk_at old issue d)) (tells (desk_at old issue d)) new.told.board new.made new.stop refl refl new.told.length_is new.told.told;
  }

  -- all gateways before the first stage
  pub all-nothing : (issues stages : ℕ) (olds : List (Part D)) → ((k : ℕ) (p : Part D) → k < length olds → IsReady state fixed caller takes tells issues stages (slice_index_or olds k p))
      → AllDone state fixed caller takes tells issues 0 no_cuts olds olds
  all-nothing issues stages olds ready = λ k p within. done-nothing issues stages (slice_index_or olds k p) (ready k p within)

  -- a stage that all have done
  pub all-step : (issues stage : ℕ) (sights : List Sight) (ps qs rs : List (Part D)) → length qs ≡ length ps
      → ((k : ℕ) (p : Part D) → k < length ps → HasRun state fixed tells stage (slice_index_or ps k p) (slice_index_or qs k p))
      → ((issue : ℕ) (s : Sight) (d : D) → issue < issues → slice_index_or sights issue s ≡ seen_by (map (λ (p : Part D). state (desk_at p issue d)) qs))
      → ((k : ℕ) (p : Part D) → k < length qs → HasLevelled state fixed caller takes tells sights (slice_index_or qs k p) (slice_index_or rs k p))
      → AllGoOn state fixed caller takes tells issues stage 1 (λ cuts. next_cuts cuts stage sights) ps rs
  all-step issues stage sights ps qs rs same runs looks levels = λ k p within.
      let behind : k < length qs = subst (λ (n : ℕ). k < n) (sym same) within in
      record {
        to = λ old stages cuts ready done.
            done-more issues stages stage cuts sights old (slice_index_or ps k p) (slice_index_or qs k p) (slice_index_or rs k p) ready done (runs k p within) (levels k p behind) (λ issue d here. seen-within k p behind issue d here);
      }
    where
      none : Sight
      none = record { seen = 0; halted = false }

      seen-within : (k : ℕ) (p : Part D) → k < length qs → (issue : ℕ) (d : D) → issue < issues → IsWithin (slice_index_or sights issue none) (state (desk_at (slice_index_or qs k p) issue d))
      seen-within k p behind issue d here =
          let by = within-sight (λ (q : Part D). state (desk_at q issue d)) qs k p behind in
          subst (λ (s : Sight). IsWithin s (state (desk_at (slice_index_or qs k p) issue d))) (sym (looks issue none d here)) (record { seen = by.0; ended = by.1 })

  -- a gateway that has come to a stage may do its lines of it
  pub may-play : (issues stage : ℕ) (ps : List (Part D)) → All (HasComeTo state fixed caller takes tells issues stage) ps → All (λ (p : Part D). MayRun takes fixed stage p) ps
  may-play issues stage ps come = λ k p within. let one = come k p within in may-run issues one.stages stage one.cuts one.old (slice_index_or ps k p) one.ready one.done

  -- the desks of gateways that did their lines are as many as they were
  pub as-many : (issues stage n : ℕ) (ps qs : List (Part D)) → length qs ≡ length ps → n ≡ issues → All (HasComeTo state fixed caller takes tells issues stage) ps
      → ((k : ℕ) (p : Part D) → k < length ps → HasRun state fixed tells stage (slice_index_or ps k p) (slice_index_or qs k p)) → All (λ (p : Part D). n ≡ length p.desks.items) qs
  as-many issues stage n ps qs many same come runs = λ k p within.
      let there : k < length ps = subst (λ (m : ℕ). k < m) many within in
      same ∙ sym ((runs k p there).ran.did.each ∙ (come k p there).done.desks)

  -- where gateways are that have done the stages before this one, and where they go
  pub all-come : (issues stages stage : ℕ) (cuts : ℕ → ℕ → Cut) (olds ps : List (Part D)) → length ps ≡ length olds
      → ((k : ℕ) (p : Part D) → k < length olds → IsReady state fixed caller takes tells issues stages (slice_index_or olds k p)) → AllDone state fixed caller takes tells issues stage cuts olds ps
      → All (HasComeTo state fixed caller takes tells issues stage) ps
  all-come issues stages stage cuts olds ps many ready done = λ k p within.
      let there : k < length olds = subst (λ (n : ℕ). k < n) many within in
      record { old = slice_index_or olds k p; stages = stages; cuts = cuts; ready = ready k p there; done = done k p there }

  pub all-on : (issues stages stage count : ℕ) (cuts : ℕ → ℕ → Cut) (then : (ℕ → ℕ → Cut) → ℕ → ℕ → Cut) (olds ps rs : List (Part D)) → length ps ≡ length olds
      → ((k : ℕ) (p : Part D) → k < length olds → IsReady state fixed caller takes tells issues stages (slice_index_or olds k p)) → AllDone state fixed caller takes tells issues stage cuts olds ps
      → AllGoOn state fixed caller takes tells issues stage count then ps rs → AllDone state fixed caller takes tells issues (stage + count) (then cuts) olds rs
  all-on issues stages stage count cuts then olds ps rs many ready done on = λ k p within.
      (on k p (subst (λ (n : ℕ). k < n) (sym many) within)).to (slice_index_or olds k p) stages cuts (ready k p within) (done k p within)
