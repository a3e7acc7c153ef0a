-- The order of stages in a journal whose calls are in file order, and the events of each gateway in it.
use Rattle.std.proofs.Common.{◌≡◌, ℕ, ◌+◌, ◌==◌, ◌≤◌, Bool, true, false, cond, List, [], ◌∷◌, ◌++◌, length, get_or, map, take, drop, Option, Some, None, refl, sym, ap, subst, ◌∙◌, arith, append-nil, append_assoc}
use Rattle.std.specs.List.{AllByRecursion, AllPairs, cons_option, count_by, filter_map}
use Rattle.std.specs.Option.{option_map}
use Rattle.std.proofs.lemmas.List.{map-append}
use Rattle.std.proofs.lemmas.List.Elements.{All-from_recursion}
use Rattle.std.proofs.lemmas.List.Kept.{AllPairs-cons}
use Rattle.std.proofs.lemmas.List.Sums.{sum_by-cons}
use Rattle.mkt_base.specs.declared.event.Entry.{Entry}
use Rattle.book_law.proofs.Pairs.{Pairs}
use Rattle.script_file.specs.declared.script.GatewayScriptLine.{GatewayScriptLine}
use Rattle.issue_machine.specs.History.{FollowOn}
use Rattle.run_law.specs.Replayed.{Call, call_in, calls_for, calls_in}
use Rattle.run_law.specs.Run.{entered_by, events_for, stages_in}
use Rattle.run_law.proofs.Lists.{each-front}
use Rattle.run_law.proofs.Staged.{Staged, call_at, calls-staged, entered-are, events-are, events_by_calls, looked_up, stage_at, staged_for, stages-behind, stages-looked_up, stages_by_calls}

-- ---- numbers that do not fall

abbrev pub Rise : List ℕ → Type 0
Rise ns = Pairs (λ (a b : ℕ). a ≤ b) ns

pub rise-pairs : (ns : List ℕ) → Rise ns → AllPairs (λ (a b : ℕ). a ≤ b) ns
rise-pairs [] is = λ i j d h k. absurd (omega (arith, k))
rise-pairs (n ∷ ns) is = AllPairs-cons (λ (a b : ℕ). a ≤ b) n ns (All-from_recursion (λ (b : ℕ). n ≤ b) ns is.0) (rise-pairs ns is.1)

pub rise-front : (ms ns : List ℕ) → Rise (ms ++ ns) → Rise ms
rise-front [] ns is = tt
rise-front (m ∷ ms) ns is = (each-front (λ (b : ℕ). m ≤ b) ms ns is.0, rise-front ms ns is.1)

-- the stages of lines that do not fall
abbrev pub StagesRise : List GatewayScriptLine → Type 0
StagesRise made = Pairs (λ (a b : GatewayScriptLine). a.line.stage ≤ b.line.stage) made

abbrev pub stages_of_calls : ℕ → List GatewayScriptLine → List ℕ
stages_of_calls issue made = map stage_at (staged_for issue made)

module _ (issue : ℕ) where
  -- what holds of the stages of all lines holds of those of the calls
  pub each-stage : (P : ℕ → Type 0) (made : List GatewayScriptLine) → AllByRecursion (λ (of : GatewayScriptLine). P of.line.stage) made → AllByRecursion P (stages_of_calls issue made)
  each-stage P [] all = tt
  each-stage P (of ∷ made) all = by (call_in issue of) (each-stage P made all.1)
    where
      by : (o : Option Call) → AllByRecursion P (stages_of_calls issue made) → AllByRecursion P (map stage_at (cons_option (option_map (λ (c : Call). let x : Staged = record { call = c; stage = of.line.stage } in x) o) (staged_for issue made)))
      by None rest = rest
      by (Some c) rest = (all.0, rest)

  pub calls-rise : (made : List GatewayScriptLine) → StagesRise made → Rise (stages_of_calls issue made)
  calls-rise [] is = tt
  calls-rise (of ∷ made) is = by (call_in issue of) (calls-rise made is.1)
    where
      by : (o : Option Call) → Rise (stages_of_calls issue made) → Rise (map stage_at (cons_option (option_map (λ (c : Call). let x : Staged = record { call = c; stage = of.line.stage } in x) o) (staged_for issue made)))
      by None rest = rest
      by (Some c) rest = (each-stage (λ (n : ℕ). of.line.stage ≤ n) made is.0, rest)

-- ---- a front part of the calls

-- the first n calls are a journal's
pub record AreFirst (xs front back : List Staged) (cs rest : List Call) : Type 0 where
  pub split : xs ≡ front ++ back
  pub calls : map call_at front ≡ cs
  pub left : map call_at back ≡ rest

pub first-calls : (cs rest : List Call) (xs : List Staged) → map call_at xs ≡ cs ++ rest → AreFirst xs (take (length cs) xs) (drop (length cs) xs) cs rest
first-calls [] rest xs is = record { split = refl; calls = refl; left = is }
first-calls (c ∷ cs) rest [] is = absurd (cc)
first-calls (c ∷ cs) rest (x ∷ xs) is =
    let more : AreFirst xs (take (length cs) xs) (drop (length cs) xs) cs rest = first-calls cs rest xs (ap (λ (ds : List Call). drop 1 ds) is) in
    record {
      split = ap (λ (ys : List Staged). x ∷ ys) more.split;
      calls = ap (λ (d : Call). d ∷ map call_at (take (length cs) xs)) (ap (λ (ds : List Call). get_or ds 0 c) is) ∙ ap (λ (ds : List Call). c ∷ ds) more.calls;
      left = more.left;
    }

module _ (participants issue : ℕ) (made : List GatewayScriptLine) where
  -- the stages of entries behind others
  pub stages-of : (before es : List Entry) (rest : List Call) → FollowOn participants [] (before ++ es) → calls_for issue made ≡ (calls_in before ++ calls_in es) ++ rest
      → stages_in issue made es ≡ map stage_at (take (length (calls_in es)) (drop (length (calls_in before)) (staged_for issue made)))
  stages-of before es rest on are =
      let xs : List Staged = staged_for issue made in
      let all : map call_at xs ≡ calls_in before ++ (calls_in es ++ rest) = calls-staged issue made ∙ are ∙ append_assoc (calls_in before) (calls_in es) rest in
      let first = first-calls (calls_in before) (calls_in es ++ rest) xs all in
      stages-looked_up issue made es
      ∙ ap (λ (ys : List Staged). filter_map (looked_up ys) es) first.split
      ∙ stages-behind participants before es _ _ rest (follow-behind before es [] on) (sym first.calls) first.left
    where
      follow-behind : (bs es front : List Entry) → FollowOn participants front (bs ++ es) → FollowOn participants (front ++ bs) es
      follow-behind [] es front on = subst (λ (f : List Entry). FollowOn participants f es) (sym (append-nil front)) on
      follow-behind (b ∷ bs) es front on =
          subst (λ (f : List Entry). FollowOn participants f es) (append_assoc front (b ∷ []) bs) (follow-behind bs es (front ++ b ∷ []) on.1)

  -- the stages of a journal do not fall
  pub stages-rise : (journal : List Entry) (rest : List Call) → StagesRise made → FollowOn participants [] journal → calls_for issue made ≡ calls_in journal ++ rest → Rise (stages_in issue made journal)
  stages-rise journal rest rises on are =
      let xs : List Staged = staged_for issue made in
      let first = first-calls (calls_in journal) rest xs (calls-staged issue made ∙ are) in
      let all : Rise (map stage_at xs) = calls-rise issue made rises in
      let split : map stage_at xs ≡ map stage_at (take (length (calls_in journal)) xs) ++ map stage_at (drop (length (calls_in journal)) xs) =
      ap (map stage_at) first.split ∙ map-append stage_at (take (length (calls_in journal)) xs) (drop (length (calls_in journal)) xs) in
      subst Rise (sym (stages-of [] journal rest on are)) (rise-front _ _ (subst Rise split all))

-- ---- what each gateway entered

pub all-entered : (issue : ℕ) (made : List GatewayScriptLine) (journal : List Entry) → calls_in journal ≡ calls_for issue made
    → (gateway : ℕ) → 1 ≤ gateway → entered_by gateway journal ≡ events_for issue gateway made
all-entered issue made journal are gateway some = entered-are gateway some journal ∙ ap (events_by_calls gateway) are ∙ sym (events-are issue gateway made)

-- the test on the first item of a sum
count-cons : (p : ℕ → Bool) (n : ℕ) (ns : List ℕ) → count_by p (n ∷ ns) ≡ cond (p n) 1 0 + count_by p ns
count-cons p n ns = sum_by-cons (λ (k : ℕ). cond (p k) 1 0) n ns

pub count-none : (p : ℕ → Bool) (ns : List ℕ) → AllByRecursion (λ (n : ℕ). p n ≡ false) ns → count_by p ns ≡ 0
count-none p [] all = refl
count-none p (n ∷ ns) all =
    let rest : count_by p ns ≡ 0 = count-none p ns all.1 in
    let one : count_by p (n ∷ ns) ≡ 0 + count_by p ns = count-cons p n ns ∙ ap (λ (b : Bool). cond {A = ℕ} b 1 0 + count_by p ns) all.0 in
    omega (arith, rest, one)

pub count-all : (p : ℕ → Bool) (ns : List ℕ) → AllByRecursion (λ (n : ℕ). p n ≡ true) ns → count_by p ns ≡ length ns
count-all p [] all = refl
count-all p (n ∷ ns) all =
    let rest : count_by p ns ≡ length ns = count-all p ns all.1 in
    let one : count_by p (n ∷ ns) ≡ 1 + count_by p ns = count-cons p n ns ∙ ap (λ (b : Bool). cond {A = ℕ} b 1 0 + count_by p ns) all.0 in
    omega (arith, rest, one)

at-most-one : (t : Bool) → cond {A = ℕ} t 1 0 ≤ 1
at-most-one true = omega arith
at-most-one false = omega arith

pub count-upto : (p : ℕ → Bool) (ns : List ℕ) → count_by p ns ≤ length ns
count-upto p [] = omega arith
count-upto p (n ∷ ns) =
    let rest : count_by p ns ≤ length ns = count-upto p ns in
    omega (arith, rest, count-cons p n ns, at-most-one (p n))

pub count-append : (p : ℕ → Bool) (ms ns : List ℕ) → count_by p (ms ++ ns) ≡ count_by p ms + count_by p ns
count-append p [] ns = omega arith
count-append p (m ∷ ms) ns =
    let rest : count_by p (ms ++ ns) ≡ count_by p ms + count_by p ns = count-append p ms ns in
    omega (arith, rest, count-cons p m (ms ++ ns), count-cons p m ms)

-- stages of one gateway among those of all
pub each-by : (P : ℕ → Type 0) (g : ℕ) (xs : List Staged) → AllByRecursion P (map stage_at xs) → AllByRecursion P (stages_by_calls g xs)
each-by P g [] all = tt
each-by P g (x ∷ xs) all = by (x.call.gateway == g) (each-by P g xs all.1)
  where
    by : (b : Bool) → AllByRecursion P (stages_by_calls g xs) → AllByRecursion P (cons_option (cond b (Some x.stage) None) (stages_by_calls g xs))
    by true rest = (all.0, rest)
    by false rest = rest
