-- How far a gateway has come at the desk of an issue: before the first stage, after one stage more, and what is known of it at the end.
use Rattle.std.proofs.Common.{◌≡◌, ℕ, ◌+◌, ◌<◌, ◌≤◌, ◌⊎◌, inl, inr, true, false, List, [], ◌++◌, length, map, take, Option, Some, None, IfSome, All, AllPairs, refl, sym, ap, subst, ◌∙◌, arith, append-nil, slice_index_or}
use Rattle.std.proofs.lemmas.Bool.{both_ways, false_from_ne_true}
use Rattle.std.proofs.lemmas.List.Elements.{All-append, All-nil}
use Rattle.std.proofs.lemmas.Option.{none-some, same_Some}
use Rattle.mkt_base.specs.Desk.{DeskState}
use Rattle.mkt_base.specs.declared.event.Entry.{Entry}
use Rattle.mkt_base.specs.declared.event.Event.{Event}
use Rattle.mkt_base.specs.declared.journal.Halt.{Halt}
use Rattle.mkt_base.specs.declared.journal.Stopped.{Stopped}
use Rattle.mkt_base.specs.declared.quote.Board.{Board}
use Rattle.issue_machine.specs.History.{entries_by}
use Rattle.run_law.specs.Run.{count_of}
use Rattle.gateway.specs.Ran.{Deed}
use Rattle.gateway.specs.Served.{Answer, AreTold, Served, board_by, first_stop, is_no_node, lengths_shown, made_by}
use Rattle.gateway.proofs.Pairs.{pairs-append, pairs-nil}
use Rattle.gateway.proofs.Serving.{first_stop-append, lengths_shown-append, told-append, told-still}
use Rattle.stage_law.specs.Come.{Cut, HasCome, HasSeenAll, IsBetween, IsHaltKnown, IsReadWithin, answers_of, cut_at, done_before, entered_in}
use Rattle.stage_law.specs.Played.{HasPlayed, IsAtEnd, IsTold}
use Rattle.stage_law.proofs.Counts.{count-grows, count-within}
use Rattle.stage_law.proofs.Deeds.{answers-append, between-keeps, boards-each, cut-new, cut-old, earlier-all, earlier-same, entered-append, last-or-before, none-made, some-then, unmapped}

abbrev Quiet : Answer → Answer → Type 0
Quiet x y = is_no_node x ≡ true → made_by y ≡ None

abbrev Grows : ℕ → ℕ → Type 0
Grows m n = m ≤ n

-- before the first stage
pub come_first : (caller : ℕ) (cuts : ℕ → Cut) (state : DeskState) (tells : Board → ℕ → Type 0) (board : Board) → state.made ≡ [] → state.stop ≡ None → (cuts 0).length ≡ 0 → (cuts 0).halted ≡ false → board.length ≡ 0
    → tells board 0 → HasCome caller 0 cuts [] state tells
come_first caller cuts state tells board made stop long runs short told = record {
  staged = All-nil (λ (x : Deed). x.line.stage < 0);
  made = made;
  stop = stop;
  quiet = pairs-nil Quiet;
  gave_up = All-nil (λ (x : Answer). is_no_node x ≡ true → state.ended ≡ true);
  boards = tt;
  forward = pairs-nil Grows;
  upto = All-nil (λ (n : ℕ). n ≤ state.seen);
  read = All-nil (IsReadWithin cuts);
  seen = omega (arith, long);
  told = λ s less. subst (λ (n : ℕ). IsBetween tells (cuts n).length 0) (zero-is s less) (record { low = board; low_told = told; upto = omega (arith, short); high = board; high_told = told; from = omega (arith, long) });
  running = λ s less is. All-nil (λ (x : Deed). is_no_node x.answer ≡ false);
  halted = λ s less is. refl;
  known = λ s less is. absurd (both_ways (cuts 0).halted runs (subst (λ (n : ℕ). (cuts n).halted ≡ true) (sym (zero-is s less)) is));
}
  where
    zero-is : (s : ℕ) → s ≤ 0 → 0 ≡ s
    zero-is s less = omega (arith, less)

-- one stage more: its deeds are done, and every gateway has seen what every desk had seen
module _ {D F : Type 0} (state : D → DeskState) (fixed : D → F) (tells : D → Board → ℕ → Type 0) (caller stage : ℕ) (cuts : ℕ → Cut) (cut : Cut) (before done : List Deed) (old ran new : D)
    (come : HasCome caller stage cuts before (state old) (tells old)) (its : All (λ (x : Deed). x.line.stage ≡ stage) done)
    (served : Served state fixed tells (answers_of done) old ran) (all : HasSeenAll caller cut (tells ran) (tells new) (state ran) (state new)) where
  abbrev more-cuts : ℕ → Cut
  more-cuts = cut_at cuts (stage + 1) cut

  abbrev deeds : List Deed
  deeds = before ++ done

  abbrev lengths : List Deed → List ℕ
  lengths xs = lengths_shown (answers_of xs)

  keeps-told : (board : Board) (made : ℕ) → tells old board made → tells new board made
  keeps-told board made h = all.keeps board made (served.told board made h)

  staged-next : All (λ (x : Deed). x.line.stage < stage + 1) deeds
  staged-next = All-append (λ (x : Deed). x.line.stage < stage + 1) before done (λ k d less. let h = come.staged k d less in omega (arith, h)) (λ k d less. let h = its k d less in omega (arith, h))

  -- the deeds of earlier stages
  front-same : (s : ℕ) → s ≤ stage → done_before s deeds ≡ done_before s before
  front-same s less = earlier-same s before done (λ k d within. let h = its k d within in omega (arith, h, less))

  front-all : (s : ℕ) → s ≡ stage + 1 → done_before s deeds ≡ deeds
  front-all s is = subst (λ (n : ℕ). done_before n deeds ≡ deeds) (sym is) (earlier-all (stage + 1) deeds staged-next)

  cut-before : (s : ℕ) → s ≤ stage → more-cuts s ≡ cuts s
  cut-before s less = cut-old cuts (stage + 1) cut s (omega (arith, less))

  cut-last : (s : ℕ) → s ≡ stage + 1 → more-cuts s ≡ cut
  cut-last s is = cut-new cuts (stage + 1) cut s (omega (arith, is))

  made-next : (state new).made ≡ entered_in deeds
  made-next = all.made ∙ served.made ∙ ap (λ (es : List Event). es ++ entered_in done) come.made ∙ sym (entered-append before done)

  stop-next : (state new).stop ≡ first_stop None (answers_of deeds)
  stop-next =
      all.stop ∙ served.stop ∙ ap (λ (s : Option Stopped). first_stop s (answers_of done)) come.stop
      ∙ first_stop-append None (answers_of before) (answers_of done) ∙ ap (first_stop None) (sym (answers-append before done))

  quiet-next : AllPairs Quiet (answers_of deeds)
  quiet-next = subst (AllPairs Quiet) (sym (answers-append before done)) (pairs-append Quiet (answers_of before) (answers_of done) come.quiet served.quiet
      (λ k d less j e within gave_up. none-made (answers_of done) (served.ended_before (come.gave_up k d less gave_up)) j e within))

  abbrev GaveUp : Answer → Type 0
  GaveUp x = is_no_node x ≡ true → (state new).ended ≡ true

  gave_up-next : All GaveUp (answers_of deeds)
  gave_up-next = subst (All GaveUp) (sym (answers-append before done)) (All-append GaveUp (answers_of before) (answers_of done)
      (λ k d less gave_up. all.ended (served.ended (come.gave_up k d less gave_up))) (λ k d less gave_up. all.ended (served.gave_up k d less gave_up)))

  boards-next : AreTold (tells new) 0 (answers_of deeds)
  boards-next =
      let first : AreTold (tells new) 0 (answers_of before) = told-still (tells old) (tells new) keeps-told 0 (answers_of before) come.boards in
      let second : AreTold (tells new) (length (state old).made) (answers_of done) = told-still (tells ran) (tells new) all.keeps (length (state old).made) (answers_of done) served.boards in
      let many : length (state old).made ≡ 0 + length (entered_in before) = ap length come.made ∙ plus (length (entered_in before)) in
      subst (AreTold (tells new) 0) (sym (answers-append before done))
      (told-append (tells new) 0 (answers_of before) (answers_of done) first (subst (λ (n : ℕ). AreTold (tells new) n (answers_of done)) many second))
    where
      plus : (n : ℕ) → n ≡ 0 + n
      plus n = omega arith

  lengths-are : lengths before ++ lengths done ≡ lengths deeds
  lengths-are = sym (ap lengths_shown (answers-append before done) ∙ lengths_shown-append (answers_of before) (answers_of done))

  forward-next : AllPairs Grows (lengths deeds)
  forward-next = subst (AllPairs Grows) lengths-are (pairs-append Grows (lengths before) (lengths done) come.forward served.forward
      (λ k d less j e within. let below = come.upto k d less in let above = served.from j e within in omega (arith, below, above)))

  upto-next : All (λ (n : ℕ). n ≤ (state new).seen) (lengths deeds)
  upto-next = subst (All (λ (n : ℕ). n ≤ (state new).seen)) lengths-are (All-append (λ (n : ℕ). n ≤ (state new).seen) (lengths before) (lengths done)
      (λ k d less. let below = come.upto k d less in omega (arith, below, served.seen, all.upto, all.seen))
      (λ k d less. let below = served.upto k d less in omega (arith, below, all.upto, all.seen)))

  -- ---- reads of boards

  read-before : (x : Deed) → x.line.stage < stage → IsReadWithin cuts x → IsReadWithin more-cuts x
  read-before x less read =
      let here : (cuts x.line.stage).length ≡ (more-cuts x.line.stage).length = ap (λ (c : Cut). c.length) (sym (cut-before x.line.stage (omega (arith, less)))) in
      let next : (cuts (x.line.stage + 1)).length ≡ (more-cuts (x.line.stage + 1)).length = ap (λ (c : Cut). c.length) (sym (cut-before (x.line.stage + 1) (omega (arith, less)))) in
      some-then (λ (b : Board). ((cuts x.line.stage).length ≤ b.length) × (b.length ≤ (cuts (x.line.stage + 1)).length))
      (λ (b : Board). ((more-cuts x.line.stage).length ≤ b.length) × (b.length ≤ (more-cuts (x.line.stage + 1)).length)) (board_by x.answer)
      (λ b h. (subst (λ (n : ℕ). n ≤ b.length) here h.0, subst (λ (n : ℕ). b.length ≤ n) next h.1)) read

  abbrev IsSeen : ℕ → Type 0
  IsSeen n = ((state old).seen ≤ n) × (n ≤ (state ran).seen)

  read-now : (x : Deed) → x.line.stage ≡ stage → IfSome (board_by x.answer) (λ (b : Board). IsSeen b.length) → IsReadWithin more-cuts x
  read-now x is seen =
      let here : (more-cuts x.line.stage).length ≡ (cuts stage).length = ap (λ (n : ℕ). (more-cuts n).length) is ∙ ap (λ (c : Cut). c.length) (cut-before stage (omega arith)) in
      let next : (more-cuts (x.line.stage + 1)).length ≡ cut.length = ap (λ (c : Cut). c.length) (cut-last (x.line.stage + 1) (omega (arith, is))) in
      let low : (more-cuts x.line.stage).length ≤ (state old).seen = subst (λ (n : ℕ). n ≤ (state old).seen) (sym here) come.seen in
      let high : (state ran).seen ≤ (more-cuts (x.line.stage + 1)).length = subst (λ (n : ℕ). (state ran).seen ≤ n) (sym next) all.upto in
      some-then (λ (b : Board). IsSeen b.length)
      (λ (b : Board). ((more-cuts x.line.stage).length ≤ b.length) × (b.length ≤ (more-cuts (x.line.stage + 1)).length)) (board_by x.answer)
      (λ b h. (within (more-cuts x.line.stage).length (state old).seen b.length low h.0, within b.length (state ran).seen (more-cuts (x.line.stage + 1)).length h.1 high)) seen
    where
      within : (a b c : ℕ) → a ≤ b → b ≤ c → a ≤ c
      within a b c h k = omega (arith, h, k)

  read-next : All (IsReadWithin more-cuts) deeds
  read-next = All-append (IsReadWithin more-cuts) before done
      (λ k d less. read-before (slice_index_or before k d) (come.staged k d less) (come.read k d less))
      (λ k d less. read-now (slice_index_or done k d) (its k d less) (boards-each IsSeen done (λ i n within. (served.from i n within, served.upto i n within)) k d less))

  -- ---- what is known of each stage so far

  told-next : (s : ℕ) → s ≤ stage + 1 → IsBetween (tells new) (more-cuts s).length (length (entered_in (done_before s deeds)))
  told-next s less = by (last-or-before s stage less)
    where
      by : ((s ≤ stage) ⊎ (s ≡ stage + 1)) → IsBetween (tells new) (more-cuts s).length (length (entered_in (done_before s deeds)))
      by (inl h) = between-keeps (tells old) (tells new) (cuts s).length (length (entered_in (done_before s before))) (more-cuts s).length (length (entered_in (done_before s deeds))) keeps-told
          (ap (λ (c : Cut). c.length) (sym (cut-before s h))) (ap (λ (xs : List Deed). length (entered_in xs)) (sym (front-same s h))) (come.told s h)
      by (inr h) = between-keeps (tells new) (tells new) cut.length (length (state new).made) (more-cuts s).length (length (entered_in (done_before s deeds))) (λ board made said. said)
          (ap (λ (c : Cut). c.length) (sym (cut-last s h))) (ap length made-next ∙ ap (λ (xs : List Deed). length (entered_in xs)) (sym (front-all s h))) all.told

  abbrev Runs : Deed → Type 0
  Runs x = is_no_node x.answer ≡ false

  none-ended : (state ran).ended ≡ false → All Runs deeds
  none-ended runs = All-append Runs before done
      (λ k d less. false_from_ne_true (is_no_node (slice_index_or before k d).answer) (λ is. both_ways (state ran).ended runs (served.ended (first k d less is))))
      (λ k d less. false_from_ne_true (is_no_node (slice_index_or done k d).answer) (λ is. both_ways (state ran).ended runs (second k d less is)))
    where
      first : All (λ (x : Deed). is_no_node x.answer ≡ true → (state old).ended ≡ true) before
      first = unmapped (λ (x : Answer). is_no_node x ≡ true → (state old).ended ≡ true) (λ (x : Deed). x.answer) before come.gave_up

      second : All (λ (x : Deed). is_no_node x.answer ≡ true → (state ran).ended ≡ true) done
      second = unmapped (λ (x : Answer). is_no_node x ≡ true → (state ran).ended ≡ true) (λ (x : Deed). x.answer) done served.gave_up

  running-next : (s : ℕ) → s ≤ stage + 1 → (more-cuts s).halted ≡ false → All Runs (done_before s deeds)
  running-next s less runs = by (last-or-before s stage less)
    where
      by : ((s ≤ stage) ⊎ (s ≡ stage + 1)) → All Runs (done_before s deeds)
      by (inl h) = subst (All Runs) (sym (front-same s h)) (come.running s h (subst (λ (c : Cut). c.halted ≡ false) (cut-before s h) runs))
      by (inr h) = subst (All Runs) (sym (front-all s h)) (none-ended (all.running (subst (λ (c : Cut). c.halted ≡ false) (cut-last s h) runs)))

  halted-next : (s : ℕ) → s ≤ stage + 1 → (more-cuts s).halted ≡ true → entered_in deeds ≡ entered_in (done_before s deeds)
  halted-next s less over = by (last-or-before s stage less)
    where
      by : ((s ≤ stage) ⊎ (s ≡ stage + 1)) → entered_in deeds ≡ entered_in (done_before s deeds)
      by (inl h) =
          let was : (cuts s).halted ≡ true = subst (λ (c : Cut). c.halted ≡ true) (cut-before s h) over in
          let known : IsHaltKnown caller (done_before s before) (state old) = come.known s h was in
          entered-append before done ∙ ap (λ (es : List Event). entered_in before ++ es) (served.halt_before known.halt known.seen)
          ∙ append-nil (entered_in before) ∙ come.halted s h was ∙ ap entered_in (sym (front-same s h))
      by (inr h) = ap entered_in (sym (front-all s h))

  known-next : (s : ℕ) → s ≤ stage + 1 → (more-cuts s).halted ≡ true → IsHaltKnown caller (done_before s deeds) (state new)
  known-next s less over = by (last-or-before s stage less)
    where
      by : ((s ≤ stage) ⊎ (s ≡ stage + 1)) → IsHaltKnown caller (done_before s deeds) (state new)
      by (inl h) =
          let known : IsHaltKnown caller (done_before s before) (state old) = come.known s h (subst (λ (c : Cut). c.halted ≡ true) (cut-before s h) over) in
          record {
            halt = known.halt;
            seen = all.halt known.halt (served.halt known.halt known.seen);
            own = λ mine none. known.own mine (ap (λ (xs : List Deed). first_stop None (answers_of xs)) (sym (front-same s h)) ∙ none);
          }
      by (inr h) =
          let seen = all.over (subst (λ (c : Cut). c.halted ≡ true) (cut-last s h) over) in
          record {
            halt = seen.0;
            seen = seen.1;
            own = λ mine none. seen.2 mine (stop-next ∙ ap (λ (xs : List Deed). first_stop None (answers_of xs)) (sym (front-all s h)) ∙ none);
          }

  pub come_next : HasCome caller (stage + 1) (cut_at cuts (stage + 1) cut) (before ++ done) (state new) (tells new)
  come_next = record {
    staged = staged-next;
    made = made-next;
    stop = stop-next;
    quiet = quiet-next;
    gave_up = gave_up-next;
    boards = boards-next;
    forward = forward-next;
    upto = upto-next;
    read = read-next;
    seen = subst (λ (c : Cut). c.length ≤ (state new).seen) (sym (cut-last (stage + 1) refl)) all.seen;
    told = told-next;
    running = running-next;
    halted = halted-next;
    known = known-next;
  }

-- ---- at the end

-- the pass has ended, and the issue is closed
pub played_at_end : (caller stages : ℕ) (cuts : ℕ → Cut) (deeds : List Deed) (state : DeskState) (tells : Board → ℕ → Type 0) (journal : List Entry) (halt : Option Halt) → HasCome caller stages cuts deeds state tells
    → IsAtEnd caller journal halt state tells → HasPlayed caller stages cuts journal halt deeds
played_at_end caller stages cuts deeds state tells journal halt come end = record {
  entered = end.entered ∙ come.made;
  first = λ stopped is. end.stop stopped (come.stop ∙ is);
  quiet = come.quiet;
  calm = λ none k d less. false_from_ne_true (is_no_node (slice_index_or (answers_of deeds) k d)) (λ is. end.ended (come.gave_up k d less is) none);
  boards = told-still tells (IsTold caller journal) end.told 0 (answers_of deeds) come.boards;
  forward = come.forward;
  read = come.read;
  cut = λ s less. between s (length (entered_in (done_before s deeds))) (come.told s less);
  running = come.running;
  halted = come.halted;
  own = λ h is mine. sym come.stop ∙ end.own h is mine;
  known = λ s less over h is mine. known s h (come.known s less over) is mine;
}
  where
    between : (s made : ℕ) → IsBetween tells (cuts s).length made → count_of caller (take (cuts s).length journal) ≡ made
    between s made b =
        let low : count_of caller (take b.low.length journal) ≡ made = (end.told b.low made b.low_told).own in
        let high : count_of caller (take b.high.length journal) ≡ made = (end.told b.high made b.high_told).own in
        omega (arith, low, high, count-grows caller b.low.length (cuts s).length journal b.upto, count-grows caller (cuts s).length b.high.length journal b.from)

    known : (s : ℕ) (h : Halt) → IsHaltKnown caller (done_before s deeds) state → halt ≡ Some h → h.caller.0 ≡ caller → first_stop None (answers_of (done_before s deeds)) ≡ None → ⊥
    known s h k is mine = k.own (ap (λ (x : Halt). x.caller.0) (same_Some k.halt h (sym (end.halt k.halt k.seen) ∙ is)) ∙ mine)

-- a gateway with no line in the issue
pub played_nothing : (caller stages : ℕ) (cuts : ℕ → Cut) (journal : List Entry) (halt : Option Halt) → entries_by caller journal ≡ [] → ((h : Halt) → halt ≡ Some h → h.caller.0 ≡ caller → ⊥)
    → HasPlayed caller stages cuts journal halt []
played_nothing caller stages cuts journal halt none other = record {
  entered = ap (map (λ (e : Entry). e.event)) none;
  first = λ stopped is. absurd (none-some stopped is);
  quiet = pairs-nil Quiet;
  calm = λ is. All-nil (λ (x : Answer). is_no_node x ≡ false);
  boards = tt;
  forward = pairs-nil Grows;
  read = All-nil (IsReadWithin cuts);
  cut = λ s less. none-counted (cuts s).length;
  running = λ s less is. All-nil (λ (x : Deed). is_no_node x.answer ≡ false);
  halted = λ s less is. refl;
  own = λ h is mine. absurd (other h is mine);
  known = λ s less over h is mine stop. other h is mine;
}
  where
    none-counted : (n : ℕ) → count_of caller (take n journal) ≡ 0
    none-counted n =
        let all : count_of caller journal ≡ 0 = ap length none in
        omega (arith, all, count-within caller n journal)
