-- The issues and the reads of boards from line to line.
use Rattle.std.proofs.Common.{◌≡◌, ◌≢◌, not, ◌⊎◌, inl, inr, ℕ, ◌<◌, ◌≤◌, Bool, true, false, cond, List, [], ◌∷◌, ◌++◌, length, Option, Some, None, refl, sym, ap, subst, ◌∙◌, arith, append-nil}
use Rattle.std.specs.List.{AllByRecursion, AllZip, filter, slice_get, slice_set}
use Rattle.std.proofs.lemmas.Bool.{cases_eq}
use Rattle.std.proofs.lemmas.List.Elements.{filter-append}
use Rattle.mkt_base.specs.declared.event.Event.{Event}
use Rattle.mkt_base.specs.declared.journal.Halt.{Halt}
use Rattle.mkt_base.specs.declared.script.Act.{Act}
use Rattle.mkt_base.specs.declared.script.Act.TheVariants.{Do, Show}
use Rattle.mkt_base.specs.declared.script.ShowLine.{ShowLine}
use Rattle.rules_file.specs.Rules.{gateways_in}
use Rattle.rules_file.specs.declared.rules.Rules.{Rules}
use Rattle.script_file.specs.Script.{IsBefore, is_event}
use Rattle.script_file.specs.declared.script.GatewayScriptLine.{GatewayScriptLine}
use Rattle.issue_journal.specs.Issue.{IssueNow}
use Rattle.run_law.specs.Replayed.{AreInFileOrder}
use Rattle.run_law.specs.Run.{is_show}
use Rattle.script_run.specs.Entering.{WasEntered}
use Rattle.script_run.specs.Running.{AllReadNow, EachFrom, HasCome, IsAfter, IsReadNow, WasDone, WasRead, read_of}
use Rattle.script_run.proofs.EachLemmas.{each-get, each-map, each-set, get-other, get-there, get-written, length-written, zip-map, zip-push}
use Rattle.script_run.proofs.EnteringLemmas.{after-entered, calls-other, calls-show}
use Rattle.script_run.proofs.ReadLemmas.{read-kept, read-made, read-shown}

-- an issue that the line is not for
after-other : (rules : Rules) (made done : List GatewayScriptLine) (of : GatewayScriptLine) (i : ℕ) (x : IssueNow) → (of.line.issue ≡ i → ⊥) → IsAfter rules made done i x → IsAfter rules made (done ++ of ∷ []) i x
after-other rules made done of i x apart is = record { opened = is.opened; order = by x.halt is.order }
  where
    by : (h : Option Halt) → AreInFileOrder i done x.entries h → AreInFileOrder i (done ++ of ∷ []) x.entries h
    by None order = order ∙ sym (calls-other i done of apart)
    by (Some h) order = (order.0, calls-other i done of apart ∙ order.1)

-- a line that only reads
after-show : (rules : Rules) (made done : List GatewayScriptLine) (of : GatewayScriptLine) (i : ℕ) (x : IssueNow) → of.line.act ≡ Show → IsAfter rules made done i x → IsAfter rules made (done ++ of ∷ []) i x
after-show rules made done of i x shows is = record { opened = is.opened; order = by x.halt is.order }
  where
    by : (h : Option Halt) → AreInFileOrder i done x.entries h → AreInFileOrder i (done ++ of ∷ []) x.entries h
    by None order = order ∙ sym (calls-show i done of shows)
    by (Some h) order = (order.0, calls-show i done of shows ∙ order.1)

-- lines that stand before a line
later-of : (l of : GatewayScriptLine) → IsBefore l of → l.line.line ≤ of.line.line
later-of l of (inl less) = omega (arith, less)
later-of l of (inr same) = omega (arith, same.0)

filtered : (P : GatewayScriptLine → Type 0) (p : GatewayScriptLine → Bool) (ls : List GatewayScriptLine) → AllByRecursion P ls → AllByRecursion P (filter p ls)
filtered P p [] all = tt
filtered P p (l ∷ ls) all = by (p l) (filtered P p ls all.1)
  where
    by : (b : Bool) → AllByRecursion P (filter p ls) → AllByRecursion P (cond b (l ∷ filter p ls) (filter p ls))
    by true rest = (all.0, rest)
    by false rest = rest

module _ (rules : Rules) (made done : List GatewayScriptLine) (of : GatewayScriptLine) (old new : List IssueNow) (shows shown : List ShowLine) (some : 1 ≤ of.gateway.0) (known : of.gateway.0 ≤ length (gateways_in rules))
    (within : of.line.issue < length old) (ahead : AllByRecursion (λ (l : GatewayScriptLine). IsBefore l of) done) (come : HasCome rules made done old shows) where
  abbrev next : List GatewayScriptLine
  next = done ++ of ∷ []

  -- the issue of a number, with what is known of it
  after-at : (i : ℕ) (x : IssueNow) → slice_get old i ≡ Some x → IsAfter rules made done i x
  after-at i x is = each-get (IsAfter rules made done) 0 i i old x come.after is (omega arith)

  abbrev ReadBefore : GatewayScriptLine → ShowLine → Type 0
  ReadBefore l s = (i : IssueNow) → slice_get old l.line.issue ≡ Some i → IsReadNow done i l s

  abbrev ReadAfter : GatewayScriptLine → ShowLine → Type 0
  ReadAfter l s = (i : IssueNow) → slice_get new l.line.issue ≡ Some i → IsReadNow next i l s

  come-event : (event : Event) → of.line.act ≡ Do event → WasDone of (Do event) old new → shown ≡ shows → HasCome rules made next new shown
  come-event event does done-is same =
      let x : IssueNow = done-is.0 in
      let here = get-there old of.line.issue within in
      let entered : WasEntered of.gateway event here.0 x = done-is.2 here.0 here.1 in
      let after : IsAfter rules made next of.line.issue x = after-entered rules made done of.line.issue of event here.0 x refl does some known (after-at of.line.issue here.0 here.1) entered in
      let all : EachFrom (IsAfter rules made next) 0 (slice_set old of.line.issue x) =
      each-set (IsAfter rules made done) (IsAfter rules made next) 0 of.line.issue of.line.issue old x (omega arith)
      (λ i k y at apart is p. after-other rules made done of k y (λ (same : of.line.issue ≡ k). apart (omega (arith, at, same))) p) after come.after in
      record {
        each = ap length done-is.1 ∙ length-written old of.line.issue x ∙ come.each;
        after = subst (EachFrom (IsAfter rules made next) 0) (sym done-is.1) all;
        reads = reads-event event does done-is.0 done-is.1 done-is.2 same;
      }
    where
      reads-event : (event : Event) → of.line.act ≡ Do event → (x : IssueNow) → new ≡ slice_set old of.line.issue x → ((i : IssueNow) → slice_get old of.line.issue ≡ Some i → WasEntered of.gateway event i x) → shown ≡ shows
          → AllReadNow next new shown
      reads-event event does x is entered same =
          let none : filter is_show next ≡ filter is_show done =
          filter-append is_show done (of ∷ []) ∙ ap (λ (act : Act). filter is_show done ++ cond (not (is_event act)) (of ∷ []) []) does ∙ append-nil (filter is_show done) in
          let kept : AllZip ReadAfter (filter is_show done) shows =
          zip-map ReadBefore ReadAfter (filter is_show done) shows (λ (l : GatewayScriptLine). IsBefore l of) (λ l s before read. one l s before read)
          (filtered (λ (l : GatewayScriptLine). IsBefore l of) is_show done ahead) come.reads in
          subst (λ (ss : List ShowLine). AllZip ReadAfter (filter is_show next) ss) (sym same) (subst (λ (ls : List GatewayScriptLine). AllZip ReadAfter ls shows) (sym none) kept)
        where
          one : (l : GatewayScriptLine) (s : ShowLine) → IsBefore l of → ReadBefore l s → ReadAfter l s
          one l s before read i at = by (cases_eq l.line.issue of.line.issue)
            where
              found : slice_get (slice_set old of.line.issue x) l.line.issue ≡ Some i
              found = ap (λ (is : List IssueNow). slice_get is l.line.issue) (sym is) ∙ at

              by : (l.line.issue ≡ of.line.issue) ⊎ (l.line.issue ≢ of.line.issue) → IsReadNow next i l s
              by (inl its) =
                  let there = get-there old of.line.issue within in
                  let is-x : i ≡ x = get-written old of.line.issue x i (ap (slice_get (slice_set old of.line.issue x)) (sym its) ∙ found) in
                  let was : slice_get old l.line.issue ≡ Some there.0 = ap (slice_get old) its ∙ there.1 in
                  subst (λ (y : IssueNow). IsReadNow next y l s) (sym is-x)
                  (read-kept done of event there.0 x l s some (later-of l of before) (read there.0 was) (after-at l.line.issue there.0 was).order (entered there.0 there.1))
              by (inr apart) =
                  let was : slice_get old l.line.issue ≡ Some i = sym (get-other old of.line.issue l.line.issue x apart) ∙ found in
                  read-shown done of i l s (later-of l of before) (read i was)

  come-show : of.line.act ≡ Show → new ≡ old → WasRead of Show old shows shown → HasCome rules made next new shown
  come-show does same read =
      let here = get-there old of.line.issue within in
      let made-now : IsReadNow next here.0 of (read_of of here.0) = read-made done of here.0 ahead (after-at of.line.issue here.0 here.1).order in
      let one : filter is_show next ≡ filter is_show done ++ of ∷ [] =
      filter-append is_show done (of ∷ []) ∙ ap (λ (act : Act). filter is_show done ++ cond (not (is_event act)) (of ∷ []) []) does in
      let Later : GatewayScriptLine → ShowLine → Type 0 = λ l s. (i : IssueNow) → slice_get old l.line.issue ≡ Some i → IsReadNow next i l s in
      let kept : AllZip Later (filter is_show done) shows =
      zip-map ReadBefore Later (filter is_show done) shows (λ (l : GatewayScriptLine). IsBefore l of)
      (λ l s before was i at. read-shown done of i l s (later-of l of before) (was i at))
      (filtered (λ (l : GatewayScriptLine). IsBefore l of) is_show done ahead) come.reads in
      let last : Later of (read_of of here.0) = λ i at. subst (λ (y : IssueNow). IsReadNow next y of (read_of of here.0)) (some-same here.0 i (sym here.1 ∙ at)) made-now in
      let pushed : AllZip Later (filter is_show done ++ of ∷ []) (shows ++ read_of of here.0 ∷ []) = zip-push Later (filter is_show done) shows of (read_of of here.0) kept last in
      record {
        each = ap length same ∙ come.each;
        after = subst (EachFrom (IsAfter rules made next) 0) (sym same) (each-map (IsAfter rules made done) (IsAfter rules made next) 0 old (λ i k y at is p. after-show rules made done of k y does p) come.after);
        reads = subst (λ (is : List IssueNow). AllReadNow next is shown) (sym same)
            (subst (λ (ss : List ShowLine). AllZip Later (filter is_show next) ss) (sym (read here.0 here.1))
            (subst (λ (ls : List GatewayScriptLine). AllZip Later ls (shows ++ read_of of here.0 ∷ [])) (sym one) pushed));
      }
    where
      some-same : (x y : IssueNow) → Some x ≡ Some y → x ≡ y
      some-same x y is = cc

  pub come-next : WasDone of of.line.act old new → WasRead of of.line.act old shows shown → HasCome rules made next new shown
  come-next = by of.line.act refl
    where
      by : (act : Act) → of.line.act ≡ act → WasDone of act old new → WasRead of act old shows shown → HasCome rules made next new shown
      by (Do event) does done-is read = come-event event does done-is read
      by Show does done-is read = come-show does done-is read
