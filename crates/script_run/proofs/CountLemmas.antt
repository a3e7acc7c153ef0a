-- How many events lines ask for.
use Rattle.std.proofs.Common.{◌≡◌, ℕ, zero, suc, ◌+◌, ◌==◌, ◌<◌, ◌≤◌, Bool, true, false, cond, ◌&&◌, List, [], ◌∷◌, length, map, ◌≢◌, ◌⊎◌, inl, inr, take, replicate, get_or, set, All, None, refl, sym, ap, ◌∙◌, arith}
use Rattle.std.specs.List.{cons_option, count_by, range_with_len}
use Rattle.std.specs.Option.{option_map}
use Rattle.std.proofs.lemmas.Bool.{eq-eqb, ne_eqb}
use Rattle.std.proofs.lemmas.Bool.Decides.{eqb_tells}
use Rattle.std.proofs.lemmas.List.{get_or-set_other, get_or-set_same, length-set}
use Rattle.std.proofs.lemmas.List.Elements.{All-map}
use Rattle.std.proofs.lemmas.List.FromFn.{fill_by_all, get_or-map-range_with_len, length-map-range_with_len}
use Rattle.std.proofs.lemmas.List.Sums.{length-filter, sum_by-cons, sum_by-drop_more, sum_by-take-drop, sum_by_more}
use Rattle.mkt_base.specs.declared.event.Event.{Event}
use Rattle.mkt_base.specs.declared.script.Act.{Act}
use Rattle.mkt_base.specs.declared.script.Act.TheVariants.{Do, Show}
use Rattle.script_file.specs.Script.{event_count, is_event}
use Rattle.script_file.specs.declared.script.GatewayScriptLine.{GatewayScriptLine}
use Rattle.run_law.specs.Replayed.{Call, call_in, calls_for}
use Rattle.run_law.specs.Run.{event_in}
use Rattle.script_run.specs.Running.{count_for, counts_for, is_for}

abbrev one_for : ℕ → GatewayScriptLine → ℕ
one_for issue of = cond (is_for issue of) 1 0

module _ (issue : ℕ) where
  one_for-le : (of : GatewayScriptLine) → one_for issue of ≤ cond (is_event of.line.act) 1 0
  one_for-le of = by (of.line.issue == issue) (is_event of.line.act)
    where
      by : (b c : Bool) → cond (b && c) 1 0 ≤ cond c 1 0
      by true true = omega arith
      by true false = omega arith
      by false true = omega arith
      by false false = omega arith

  count_for-le-by : (made : List GatewayScriptLine) → count_for issue made ≤ count_by (λ (of : GatewayScriptLine). is_event of.line.act) made
  count_for-le-by [] = omega arith
  count_for-le-by (of ∷ made) =
      let rest = count_for-le-by made in
      let one = one_for-le of in
      omega (arith, rest, one, sum_by-cons (one_for issue) of made, sum_by-cons (λ (l : GatewayScriptLine). cond (is_event l.line.act) 1 0) of made)

  -- no issue has more events than all have together
  pub count_for-le : (made : List GatewayScriptLine) → count_for issue made ≤ event_count made
  count_for-le made = omega (arith, count_for-le-by made, length-filter (λ (of : GatewayScriptLine). is_event of.line.act) made)

-- ---- a list with an item for each number

-- one item is written, and the others are as they were
set-map : {X : Type 0} (f g : ℕ → X) (n at : ℕ) (x : X) → at < n → x ≡ g at → ((i : ℕ) → (i ≡ at → ⊥) → f i ≡ g i) → set (map f (range_with_len 0 n)) at x ≡ map g (range_with_len 0 n)
set-map f g n at x below here others =
    fill_by_all g (set (map f (range_with_len 0 n)) at x) n x (length-set (map f (range_with_len 0 n)) at x ∙ length-map-range_with_len f 0 n) item
  where
    long : at < length (map f (range_with_len 0 n))
    long = omega (arith, length-map-range_with_len f 0 n)

    item : (k : ℕ) → k < n → get_or (set (map f (range_with_len 0 n)) at x) k x ≡ g k
    item k within = by (eqb_tells k at)
      where
        by : (((k == at) ≡ true) × (k ≡ at)) ⊎ (((k == at) ≡ false) × (k ≢ at)) → get_or (set (map f (range_with_len 0 n)) at x) k x ≡ g k
        by (inl same) = ap (λ (j : ℕ). get_or (set (map f (range_with_len 0 n)) at x) j x) same.1 ∙ get_or-set_same (map f (range_with_len 0 n)) at x x long ∙ here ∙ ap g (sym same.1)
        by (inr apart) =
            get_or-set_other (map f (range_with_len 0 n)) at k x x apart.1 ∙ get_or-map-range_with_len f 0 n k k x within (omega arith) ∙ others k apart.1

map-same : {X : Type 0} (f g : ℕ → X) → ((i : ℕ) → f i ≡ g i) → (is : List ℕ) → map f is ≡ map g is
map-same f g same [] = refl
map-same f g same (i ∷ is) = ap (λ x. x ∷ map f is) (same i) ∙ ap (λ xs. g i ∷ xs) (map-same f g same is)

-- ---- the events of each issue are counted

pub counts-none : (issues : ℕ) → replicate issues 0 ≡ counts_for issues []
counts-none issues = zeros issues 0
  where
    zeros : (n a : ℕ) → replicate n 0 ≡ map (λ (i : ℕ). count_for i []) (range_with_len a n)
    zeros zero a = refl
    zeros (suc n) a = ap (λ (ns : List ℕ). 0 ∷ ns) (zeros n (a + 1))

-- a line of the made ones, with those before it
module _ (made : List GatewayScriptLine) (k : ℕ) (of : GatewayScriptLine) (below : k < length made) (at : of ≡ get_or made k of) where
  count-more : (i : ℕ) → count_for i (take (k + 1) made) ≡ count_for i (take k made) + one_for i of
  count-more i = sum_by_more (one_for i) made k of below ∙ ap (λ (l : GatewayScriptLine). count_for i (take k made) + one_for i l) (sym at)

  one-here : is_event of.line.act ≡ true → one_for of.line.issue of ≡ 1
  one-here event = ap (λ (b : Bool). cond (b && is_event of.line.act) 1 0) (eq-eqb of.line.issue of.line.issue refl) ∙ ap (λ (b : Bool). cond b 1 0) event

  none-else : (i : ℕ) → (i ≡ of.line.issue → ⊥) → one_for i of ≡ 0
  none-else i apart = ap (λ (b : Bool). cond (b && is_event of.line.act) 1 0) (ne_eqb of.line.issue i (λ same. apart (sym same)))

  none-shown : (i : ℕ) → is_event of.line.act ≡ false → one_for i of ≡ 0
  none-shown i shown = ap (λ (b : Bool). cond ((of.line.issue == i) && b) 1 0) shown ∙ by (of.line.issue == i)
    where
      by : (b : Bool) → cond {A = ℕ} (b && false) 1 0 ≡ 0
      by true = refl
      by false = refl

  pub counts-event : (issues : ℕ) → of.line.issue < issues → is_event of.line.act ≡ true
      → set (counts_for issues (take k made)) of.line.issue (count_for of.line.issue (take k made) + 1) ≡ counts_for issues (take (k + 1) made)
  counts-event issues within event =
      set-map (λ (i : ℕ). count_for i (take k made)) (λ (i : ℕ). count_for i (take (k + 1) made)) issues of.line.issue (count_for of.line.issue (take k made) + 1) within
      (let more = count-more of.line.issue in let one = one-here event in omega (arith, more, one))
      (λ i apart. let more = count-more i in let none = none-else i apart in omega (arith, more, none))

  pub counts-shown : (issues : ℕ) → is_event of.line.act ≡ false → counts_for issues (take k made) ≡ counts_for issues (take (k + 1) made)
  counts-shown issues shown =
      map-same (λ (i : ℕ). count_for i (take k made)) (λ (i : ℕ). count_for i (take (k + 1) made)) (λ i. let more = count-more i in let none = none-shown i shown in omega (arith, more, none)) (range_with_len 0 issues)

  pub count-at : (issues : ℕ) (d : ℕ) → of.line.issue < issues → get_or (counts_for issues (take k made)) of.line.issue d ≡ count_for of.line.issue (take k made)
  count-at issues d within = get_or-map-range_with_len (λ (i : ℕ). count_for i (take k made)) 0 issues of.line.issue of.line.issue d within (omega arith)

pub length-counts : (issues : ℕ) (made : List GatewayScriptLine) → length (counts_for issues made) ≡ issues
length-counts issues made = length-map-range_with_len (λ (i : ℕ). count_for i made) 0 issues

-- what is promised of a count holds of each
pub counts-few : (issues most : ℕ) (made : List GatewayScriptLine) → ((issue : ℕ) → count_for issue made ≤ most) → All (λ (n : ℕ). n ≤ most) (counts_for issues made)
counts-few issues most made few = All-map (λ (n : ℕ). n ≤ most) (λ (i : ℕ). count_for i made) (range_with_len 0 issues) (λ k d below. few (get_or (range_with_len 0 issues) k d))

-- as many calls as events
pub calls-counted : (issue : ℕ) (made : List GatewayScriptLine) → length (calls_for issue made) ≡ count_for issue made
calls-counted issue [] = refl
calls-counted issue (of ∷ made) =
    let rest : length (calls_for issue made) ≡ count_for issue made = calls-counted issue made in
    let one : length (cons_option (call_in issue of) (calls_for issue made)) ≡ one_for issue of + length (calls_for issue made) = by (of.line.issue == issue) of.line.act in
    omega (arith, rest, one, sum_by-cons (one_for issue) of made)
  where
    by : (b : Bool) (act : Act) → length (cons_option (cond b (option_map (λ (event : Event). let c : Call = record { gateway = of.gateway.0; event = event } in c) (event_in act)) None) (calls_for issue made))
        ≡ cond (b && is_event act) 1 0 + length (calls_for issue made)
    by true (Do event) = omega arith
    by true Show = omega arith
    by false (Do event) = omega arith
    by false Show = omega arith

-- before an event of an issue there are fewer than in all
pub fewer-before : (issue : ℕ) (made : List GatewayScriptLine) (k : ℕ) (of : GatewayScriptLine) → k < length made → of ≡ get_or made k of → of.line.issue ≡ issue → is_event of.line.act ≡ true
    → count_for issue (take k made) + 1 ≤ count_for issue made
fewer-before issue made k of below at same event =
    let parts = sum_by-take-drop (one_for issue) made k in
    let rest = sum_by-drop_more (one_for issue) made k of below in
    let one : one_for issue (get_or made k of) ≡ 1 =
    ap (one_for issue) (sym at) ∙ ap (λ (b : Bool). cond (b && is_event of.line.act) 1 0) (eq-eqb of.line.issue issue same) ∙ ap (λ (b : Bool). cond b 1 0) event in
    omega (arith, parts, rest, one)
