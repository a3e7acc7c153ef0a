-- An issue that was halted while the calls of a script were done in file order.
use Rattle.std.proofs.Common.{◌≡◌, ℕ, ◌+◌, ◌==◌, ◌≤◌, Bool, true, false, cond, ltb, leb, List, [], ◌∷◌, ◌++◌, length, get_or, map, take, drop, Some, None, refl, sym, ap, subst, ◌∙◌, arith, length-append}
use Rattle.std.proofs.lemmas.Bool.Decides.{nat_tests}
use Rattle.std.specs.List.{AllByRecursion, cons_option, count_by, slice_get}
use Rattle.std.proofs.lemmas.Bool.{eq-eqb}
use Rattle.std.proofs.lemmas.List.{map-append}
use Rattle.std.proofs.lemmas.List.Elements.{filter_map-append}
use Rattle.mkt_base.specs.declared.event.Entry.{Entry}
use Rattle.mkt_base.specs.declared.event.Event.{Event}
use Rattle.mkt_base.specs.declared.journal.Halt.{Halt}
use Rattle.book_law.proofs.Pairs.{weaken}
use Rattle.script_file.specs.declared.script.GatewayScriptLine.{GatewayScriptLine}
use Rattle.run_law.specs.Replayed.{Call, call_at_halt, calls_for, calls_in}
use Rattle.run_law.specs.Run.{IsCut, IsHaltIn, count_of, events_for, stages_for}
use Rattle.run_law.proofs.Lists.{get-behind, take-front}
use Rattle.run_law.proofs.Staged.{Staged, as-many, call_at, calls-staged, count-is, entered-are, event_by, events-are, events_by_calls, stage_at, stage_by, staged_for, stages-are, stages_by_calls}
use Rattle.run_law.proofs.Stages.{AreFirst, Rise, StagesRise, calls-rise, count-all, count-append, count-none, count-upto, each-by, first-calls}

-- where numbers do not fall, those before one are no greater, and those behind it no less
pub rise-before : (ms ns : List ℕ) (n : ℕ) → Rise (ms ++ n ∷ ns) → AllByRecursion (λ (m : ℕ). m ≤ n) ms
rise-before [] ns n is = tt
rise-before (m ∷ ms) ns n is = (first ms is.0, rise-before ms ns n is.1)
  where
    first : (ks : List ℕ) → AllByRecursion (λ (b : ℕ). m ≤ b) (ks ++ n ∷ ns) → m ≤ n
    first [] all = all.0
    first (k ∷ ks) all = first ks all.1

pub rise-behind : (ms ns : List ℕ) (n : ℕ) → Rise (ms ++ n ∷ ns) → AllByRecursion (λ (k : ℕ). n ≤ k) (n ∷ ns)
rise-behind [] ns n is = (omega arith, is.0)
rise-behind (m ∷ ms) ns n is = rise-behind ms ns n is.1

not-less : (n k : ℕ) → n ≤ k → ltb k n ≡ false
not-less n k h = grind (arith, nat_tests)

at-most : (n m : ℕ) → m ≤ n → leb m n ≡ true
at-most n m h = grind (arith, nat_tests)

module _ (issue : ℕ) (made : List GatewayScriptLine) (journal : List Entry) (h : Halt) (rest : List Call) (rises : StagesRise made) (caller : 1 ≤ h.caller.0)
    (are : calls_for issue made ≡ calls_in journal ++ call_at_halt h ∷ rest) where
  abbrev all : List Staged
  all = staged_for issue made

  abbrev front : List Staged
  front = take (length (calls_in journal)) all

  abbrev back : List Staged
  back = drop (length (calls_in journal)) all

  firsts : AreFirst all front back (calls_in journal) (call_at_halt h ∷ rest)
  firsts = first-calls (calls_in journal) (call_at_halt h ∷ rest) all (calls-staged issue made ∙ are)

  -- the call at the halt, with its stage
  pub record HaltCall (xs : List Staged) : Type 0 where
    pub its : Staged
    pub more : List Staged
    pub is : xs ≡ its ∷ more
    pub call : its.call ≡ call_at_halt h

  halt-call : (xs : List Staged) → map call_at xs ≡ call_at_halt h ∷ rest → HaltCall xs
  halt-call [] are = absurd (cc)
  halt-call (x ∷ xs) are = record { its = x; more = xs; is = refl; call = ap (λ (cs : List Call). get_or cs 0 x.call) are }

  abbrev its-call : HaltCall back
  its-call = halt-call back firsts.left

  abbrev stage : ℕ
  stage = its-call.its.stage

  events-split : (g : ℕ) → events_for issue g made ≡ events_by_calls g (calls_in journal) ++ events_by_calls g (call_at_halt h ∷ rest)
  events-split g = events-are issue g made ∙ ap (events_by_calls g) are ∙ filter_map-append (event_by g) (calls_in journal) (call_at_halt h ∷ rest)

  stages-split : (g : ℕ) → stages_for issue g made ≡ stages_by_calls g front ++ stages_by_calls g (its-call.its ∷ its-call.more)
  stages-split g =
      stages-are issue g made ∙ ap (stages_by_calls g) (firsts.split ∙ ap (λ (xs : List Staged). front ++ xs) its-call.is)
      ∙ filter_map-append (stage_by g) front (its-call.its ∷ its-call.more)

  as-counted : (g : ℕ) → 1 ≤ g → count_of g journal ≡ length (stages_by_calls g front)
  as-counted g some = count-is g some journal ∙ ap (λ (cs : List Call). length (events_by_calls g cs)) (sym firsts.calls) ∙ sym (as-many g front)

  rising : Rise (map stage_at front ++ stage ∷ map stage_at its-call.more)
  rising =
      subst Rise (ap (map stage_at) (firsts.split ∙ ap (λ (xs : List Staged). front ++ xs) its-call.is) ∙ map-append stage_at front (its-call.its ∷ its-call.more)) (calls-rise issue made rises)

  cut : (gateway : ℕ) → 1 ≤ gateway → IsCut issue gateway made journal stage
  cut gateway some =
      let counted = count-is gateway some journal in
      let number = as-counted gateway some in
      let split = stages-split gateway in
      let behind : List ℕ = stages_by_calls gateway (its-call.its ∷ its-call.more) in
      let early : List ℕ = stages_by_calls gateway front in
      let none : count_by (λ (s : ℕ). ltb s stage) behind ≡ 0 =
      count-none (λ (s : ℕ). ltb s stage) behind
      (each-by (λ (s : ℕ). ltb s stage ≡ false) gateway (its-call.its ∷ its-call.more)
      (weaken (λ (k : ℕ). stage ≤ k) (λ (k : ℕ). ltb k stage ≡ false) (λ k h. not-less stage k h) (stage ∷ map stage_at its-call.more) (rise-behind (map stage_at front) (map stage_at its-call.more) stage rising))) in
      let every : count_by (λ (s : ℕ). leb s stage) early ≡ length early =
      count-all (λ (s : ℕ). leb s stage) early
      (each-by (λ (s : ℕ). leb s stage ≡ true) gateway front
      (weaken (λ (k : ℕ). k ≤ stage) (λ (k : ℕ). leb k stage ≡ true) (λ k h. at-most stage k h) (map stage_at front) (rise-before (map stage_at front) (map stage_at its-call.more) stage rising))) in
      let sooner : count_by (λ (s : ℕ). ltb s stage) (stages_for issue gateway made) ≡ count_by (λ (s : ℕ). ltb s stage) early + count_by (λ (s : ℕ). ltb s stage) behind =
      ap (count_by (λ (s : ℕ). ltb s stage)) split ∙ count-append (λ (s : ℕ). ltb s stage) early behind in
      let later : count_by (λ (s : ℕ). leb s stage) (stages_for issue gateway made) ≡ count_by (λ (s : ℕ). leb s stage) early + count_by (λ (s : ℕ). leb s stage) behind =
      ap (count_by (λ (s : ℕ). leb s stage)) split ∙ count-append (λ (s : ℕ). leb s stage) early behind in
      let few : count_by (λ (s : ℕ). ltb s stage) early ≤ length early = count-upto (λ (s : ℕ). ltb s stage) early in
      record {
        first = entered-are gateway some journal
            ∙ sym (ap (take (count_of gateway journal)) (events-split gateway) ∙ take-front (events_by_calls gateway (calls_in journal)) (events_by_calls gateway (call_at_halt h ∷ rest)) (count_of gateway journal) counted);
        within = omega (arith, counted, ap length (events-split gateway), length-append (events_by_calls gateway (calls_in journal)) (events_by_calls gateway (call_at_halt h ∷ rest)));
        earlier = omega (arith, sooner, none, few, number);
        no_later = omega (arith, later, every, number);
      }

  pub halted : IsHaltIn issue made journal h
  halted =
      let g : ℕ = h.caller.0 in
      let own : (g == g) ≡ true = eq-eqb g g refl in
      let event : events_by_calls g (call_at_halt h ∷ rest) ≡ h.event ∷ events_by_calls g rest = ap (λ (b : Bool). cons_option (cond b (Some h.event) None) (events_by_calls g rest)) own in
      let mine : (its-call.its.call.gateway == g) ≡ true = ap (λ (c : Call). c.gateway == g) its-call.call ∙ own in
      let first : stages_by_calls g (its-call.its ∷ its-call.more) ≡ stage ∷ stages_by_calls g its-call.more = ap (λ (b : Bool). cons_option (cond b (Some stage) None) (stages_by_calls g its-call.more)) mine in
      record {
        next = ap (λ (es : List Event). slice_get es (count_of g journal)) (events-split g ∙ ap (λ (es : List Event). events_by_calls g (calls_in journal) ++ es) event)
            ∙ get-behind (events_by_calls g (calls_in journal)) (events_by_calls g rest) h.event (count_of g journal) (count-is g caller journal);
        stage = stage;
        at = ap (λ (ss : List ℕ). slice_get ss (count_of g journal)) (stages-split g ∙ ap (λ (ss : List ℕ). stages_by_calls g front ++ ss) first)
            ∙ get-behind (stages_by_calls g front) (stages_by_calls g its-call.more) stage (count_of g journal) (as-counted g caller);
        cut = cut;
      }
