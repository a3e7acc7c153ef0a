-- The merged reads as a recursion on the script's lines, and what holds of them.
use Rattle.std.proofs.Common.{◌≡◌, ℕ, zero, suc, ◌+◌, ◌-◌, ◌==◌, ◌<◌, ◌≤◌, Bool, true, false, cond, List, [], ◌∷◌, ◌++◌, length, get_or, take, drop, set, All, Some, refl, sym, ap, subst, ◌∙◌, arith, append-nil, append_assoc, length-append}
use Rattle.std.specs.List.{AllByRecursion, AllPairs, AllZip, filter, slice_get}
use Rattle.std.proofs.lemmas.Bool.{eq-eqb, eqb-false, eqb-true}
use Rattle.std.proofs.lemmas.List.{drop_all, drop_more, get_or-set_other, get_or-set_same, length-set}
use Rattle.std.proofs.lemmas.List.Elements.{All-from_recursion, recursion_from_All}
use Rattle.mkt_base.specs.declared.script.ShowLine.{ShowLine}
use Rattle.mkt_base.specs.declared.units.Caller.{Caller}
use Rattle.book_law.proofs.Pairs.{Pairs, pairs-from_AllPairs}
use Rattle.script_file.specs.declared.script.GatewayScriptLine.{GatewayScriptLine}
use Rattle.run_report.specs.declared.ended.EndedIssue.{EndedIssue}
use Rattle.run_law.specs.Run.{IsNoShorter, IsShowOf, is_show}
use Rattle.run_law.proofs.RunLemmas.{pairs-all}
use Rattle.gateway.specs.Ran.{GatewayNow}
use Rattle.stage_law.specs.Played.{AreReadsBy, lines_by}
use Rattle.show_merge.specs.Merged.{AreMerged, EachGateway, IsBoardOf}

-- ---- the merged reads

-- what is left of the reads of each gateway, by its place: the gateway's number is one more
abbrev pub Left : Type 0
Left = ℕ → List ShowLine

-- a line is of the gateway at this place
abbrev pub is_at : ℕ → GatewayScriptLine → Bool
is_at k of = of.gateway.0 == k + 1

-- what is left once the first read of the line's gateway is taken
abbrev pub without_first : GatewayScriptLine → Left → Left
without_first of left k = cond (is_at k of) (drop 1 (left k)) (left k)

-- for each line that reads a board the next read of its gateway, where one is left
abbrev pub merged : List GatewayScriptLine → Left → List ShowLine
merged [] left = []
merged (of ∷ lines) left = cond (is_show of) (take 1 (left (of.gateway.0 - 1)) ++ merged lines (without_first of left)) (merged lines left)

-- the same is left, so the same is merged
pub merged-same : (lines : List GatewayScriptLine) (a b : Left) → ((k : ℕ) → a k ≡ b k) → merged lines a ≡ merged lines b
merged-same [] a b same = refl
merged-same (of ∷ lines) a b same =
    by (is_show of) (merged-same lines a b same) (merged-same lines (without_first of a) (without_first of b) (λ k. ap (λ (ss : List ShowLine). cond (is_at k of) (drop 1 ss) ss) (same k)))
  where
    by : (t : Bool) → merged lines a ≡ merged lines b → merged lines (without_first of a) ≡ merged lines (without_first of b)
        → cond t (take 1 (a (of.gateway.0 - 1)) ++ merged lines (without_first of a)) (merged lines a) ≡ cond t (take 1 (b (of.gateway.0 - 1)) ++ merged lines (without_first of b)) (merged lines b)
    by true rest more =
        ap (λ (ss : List ShowLine). take 1 ss ++ merged lines (without_first of a)) (same (of.gateway.0 - 1)) ∙ ap (λ (ss : List ShowLine). take 1 (b (of.gateway.0 - 1)) ++ ss) more
    by false rest more = rest

-- ---- what the lines ask for

module _ (gateways : ℕ) where
  -- a line is of one of the gateways
  abbrev pub IsOfOne : GatewayScriptLine → Type 0
  IsOfOne of = (1 ≤ of.gateway.0) × (of.gateway.0 ≤ gateways)

  place : (of : GatewayScriptLine) → IsOfOne of → (of.gateway.0 - 1 < gateways) × (is_at (of.gateway.0 - 1) of ≡ true)
  place of is =
      let same : of.gateway.0 ≡ of.gateway.0 - 1 + 1 = omega (arith, is.0) in
      (omega (arith, is.0, is.1), eq-eqb of.gateway.0 (of.gateway.0 - 1 + 1) same)

  -- in a relation to the lines that read a board, as each gateway's reads are to its own
  pub merged-zip : (R : GatewayScriptLine → ShowLine → Type 0) (lines : List GatewayScriptLine) (left : Left) → AllByRecursion IsOfOne lines
      → ((k : ℕ) → k < gateways → AllZip R (filter is_show (lines_by (k + 1) lines)) (left k)) → AllZip R (filter is_show lines) (merged lines left)
  merged-zip R [] left of-one each = tt
  merged-zip R (of ∷ lines) left of-one each =
      by (is_show of) refl (λ kept. merged-zip R lines left of-one.1 kept) (λ kept. merged-zip R lines (without_first of left) of-one.1 kept)
    where
      -- a line that reads no board asks for nothing
      quiet : is_show of ≡ false → (k : ℕ) (b : Bool) → AllZip R (filter is_show (cond b (of ∷ lines_by (k + 1) lines) (lines_by (k + 1) lines))) (left k) → AllZip R (filter is_show (lines_by (k + 1) lines)) (left k)
      quiet none k true all =
          subst (λ (t : Bool). AllZip R (cond t (of ∷ filter is_show (lines_by (k + 1) lines)) (filter is_show (lines_by (k + 1) lines))) (left k)) none all
      quiet none k false all = all

      tail : (ls : List GatewayScriptLine) (ss : List ShowLine) → AllZip R (of ∷ ls) ss → AllZip R ls (drop 1 ss)
      tail ls [] all = absurd all
      tail ls (s ∷ ss) all = all.1

      -- of its gateway's reads the first is taken
      taken : is_show of ≡ true → (k : ℕ) (b : Bool) → AllZip R (filter is_show (cond b (of ∷ lines_by (k + 1) lines) (lines_by (k + 1) lines))) (left k)
          → AllZip R (filter is_show (lines_by (k + 1) lines)) (cond b (drop 1 (left k)) (left k))
      taken reads k true all =
          tail (filter is_show (lines_by (k + 1) lines)) (left k)
          (subst (λ (t : Bool). AllZip R (cond t (of ∷ filter is_show (lines_by (k + 1) lines)) (filter is_show (lines_by (k + 1) lines))) (left k)) reads all)
      taken reads k false all = all

      head : (ls ms : List GatewayScriptLine) (ss us : List ShowLine) → AllZip R (of ∷ ls) ss → AllZip R ms us → AllZip R (of ∷ ms) (take 1 ss ++ us)
      head ls ms [] us all rest = absurd all
      head ls ms (s ∷ ss) us all rest = (all.0, rest)

      own : is_show of ≡ true → AllZip R (of ∷ filter is_show (lines_by (of.gateway.0 - 1 + 1) lines)) (left (of.gateway.0 - 1))
      own reads =
          let k : ℕ = of.gateway.0 - 1 in
          let there = place of of-one.0 in
          let its : List GatewayScriptLine = lines_by (k + 1) lines in
          let all : AllZip R (filter is_show (cond true (of ∷ its) its)) (left k) = subst (λ (b : Bool). AllZip R (filter is_show (cond b (of ∷ its) its)) (left k)) there.1 (each k there.0) in
          subst (λ (t : Bool). AllZip R (cond t (of ∷ filter is_show its) (filter is_show its)) (left k)) reads all

      by : (t : Bool) → is_show of ≡ t
          → (((k : ℕ) → k < gateways → AllZip R (filter is_show (lines_by (k + 1) lines)) (left k)) → AllZip R (filter is_show lines) (merged lines left))
          → (((k : ℕ) → k < gateways → AllZip R (filter is_show (lines_by (k + 1) lines)) (without_first of left k)) → AllZip R (filter is_show lines) (merged lines (without_first of left)))
          → AllZip R (cond t (of ∷ filter is_show lines) (filter is_show lines)) (cond t (take 1 (left (of.gateway.0 - 1)) ++ merged lines (without_first of left)) (merged lines left))
      by false none rest more = rest (λ k below. quiet none k (is_at k of) (each k below))
      by true reads rest more =
          head (filter is_show (lines_by (of.gateway.0 - 1 + 1) lines)) (filter is_show lines) (left (of.gateway.0 - 1)) (merged lines (without_first of left)) (own reads)
          (more (λ k below. taken reads k (is_at k of) (each k below)))

  -- ---- what holds of each read

  module _ (P : ShowLine → Type 0) where
    rest-all : (b : Bool) (ss : List ShowLine) → AllByRecursion P ss → AllByRecursion P (cond b (drop 1 ss) ss)
    rest-all false ss all = all
    rest-all true [] all = tt
    rest-all true (s ∷ ss) all = all.1

    first-all : (ss us : List ShowLine) → AllByRecursion P ss → AllByRecursion P us → AllByRecursion P (take 1 ss ++ us)
    first-all [] us all more = more
    first-all (s ∷ ss) us all more = (all.0, more)

    pub merged-all : (lines : List GatewayScriptLine) (left : Left) → AllByRecursion IsOfOne lines → ((k : ℕ) → k < gateways → AllByRecursion P (left k)) → AllByRecursion P (merged lines left)
    merged-all [] left of-one each = tt
    merged-all (of ∷ lines) left of-one each =
        by (is_show of) (merged-all lines left of-one.1 each) (merged-all lines (without_first of left) of-one.1 (λ k below. rest-all (is_at k of) (left k) (each k below)))
      where
        by : (t : Bool) → AllByRecursion P (merged lines left) → AllByRecursion P (merged lines (without_first of left))
            → AllByRecursion P (cond t (take 1 (left (of.gateway.0 - 1)) ++ merged lines (without_first of left)) (merged lines left))
        by false rest more = rest
        by true rest more = first-all (left (of.gateway.0 - 1)) (merged lines (without_first of left)) (each (of.gateway.0 - 1) (place of of-one.0).0) more

  -- ---- no gateway's reads go back

  -- the reads of the gateway at a place are its own
  abbrev pub IsOwn : ℕ → ShowLine → Type 0
  IsOwn k s = s.gateway.0 ≡ k + 1

  rest-pairs : (b : Bool) (ss : List ShowLine) → Pairs IsNoShorter ss → Pairs IsNoShorter (cond b (drop 1 ss) ss)
  rest-pairs false ss all = all
  rest-pairs true [] all = tt
  rest-pairs true (s ∷ ss) all = all.1

  -- a read of one gateway is in no order with those of another
  others : (j k : ℕ) → (j ≡ k → ⊥) → (s : ShowLine) → IsOwn k s → (us : List ShowLine) → AllByRecursion (IsOwn j) us → AllByRecursion (IsNoShorter s) us
  others j k apart s own [] all = tt
  others j k apart s own (u ∷ us) all =
      ((λ same issue. absurd (apart (let numbers : s.gateway.0 ≡ u.gateway.0 = ap (λ (c : Caller). c.0) same in omega (arith, numbers, own, all.0)))), others j k apart s own us all.1)

  pub merged-pairs : (lines : List GatewayScriptLine) (left : Left) → AllByRecursion IsOfOne lines → ((k : ℕ) → k < gateways → AllByRecursion (IsOwn k) (left k)) → ((k : ℕ) → k < gateways → Pairs IsNoShorter (left k))
      → Pairs IsNoShorter (merged lines left)
  merged-pairs [] left of-one own pairs = tt
  merged-pairs (of ∷ lines) left of-one own pairs =
      by (is_show of) (merged-pairs lines left of-one.1 own pairs)
      (merged-pairs lines (without_first of left) of-one.1 (λ k below. rest-all (IsOwn k) (is_at k of) (left k) (own k below)) (λ k below. rest-pairs (is_at k of) (left k) (pairs k below)))
    where
      at : ℕ
      at = of.gateway.0 - 1

      within : at < gateways
      within = (place of of-one.0).0

      -- what is left of each gateway's reads behind the first of this one's
      behind : (s : ShowLine) (ss : List ShowLine) → left at ≡ s ∷ ss → (k : ℕ) → k < gateways → AllByRecursion (IsNoShorter s) (without_first of left k)
      behind s ss is k below = split (is_at k of) refl
        where
          split : (b : Bool) → is_at k of ≡ b → AllByRecursion (IsNoShorter s) (cond b (drop 1 (left k)) (left k))
          split true here =
              let number : of.gateway.0 ≡ k + 1 = eqb-true of.gateway.0 (k + 1) here in
              let same : at ≡ k = omega (arith, number) in
              let ordered : Pairs IsNoShorter (s ∷ ss) = subst (Pairs IsNoShorter) is (pairs at within) in
              let rest : ss ≡ drop 1 (left k) = ap (drop 1) (sym is) ∙ ap (λ (j : ℕ). drop 1 (left j)) same in
              subst (AllByRecursion (IsNoShorter s)) rest ordered.0
          split false here =
              let its : AllByRecursion (IsOwn at) (s ∷ ss) = subst (AllByRecursion (IsOwn at)) is (own at within) in
              let apart : k ≡ at → ⊥ = λ same. eqb-false of.gateway.0 (k + 1) here (let some : 1 ≤ of.gateway.0 = of-one.0.0 in omega (arith, same, some)) in
              others k at apart s its.0 (left k) (own k below)

      join : (ss : List ShowLine) → left at ≡ ss → Pairs IsNoShorter (merged lines (without_first of left)) → Pairs IsNoShorter (take 1 ss ++ merged lines (without_first of left))
      join [] is more = more
      join (s ∷ ss) is more = (merged-all (IsNoShorter s) lines (without_first of left) of-one.1 (behind s ss is), more)

      by : (t : Bool) → Pairs IsNoShorter (merged lines left) → Pairs IsNoShorter (merged lines (without_first of left))
          → Pairs IsNoShorter (cond t (take 1 (left at) ++ merged lines (without_first of left)) (merged lines left))
      by false rest more = rest
      by true rest more = join (left at) refl more

-- ---- the gateways' reads

-- the reads of the gateway at a place, none past the last one
abbrev pub reads_at : List GatewayNow → Left
reads_at [] k = []
reads_at (g ∷ gateways) zero = g.shows
reads_at (g ∷ gateways) (suc k) = reads_at gateways k

pub reads-there : (gateways : List GatewayNow) (k : ℕ) → k < length gateways → (d : GatewayNow) → reads_at gateways k ≡ (get_or gateways k d).shows
reads-there [] k within d = absurd (omega (arith, within))
reads-there (g ∷ gateways) zero within d = refl
reads-there (g ∷ gateways) (suc k) within d = reads-there gateways k (omega (arith, within)) d

-- what holds of each gateway's reads, by its place
each-at : (P : ℕ → List ShowLine → Type 0) (gateways : List GatewayNow) → EachGateway P gateways → (k : ℕ) → k < length gateways → P (k + 1) (reads_at gateways k)
each-at P gateways each k within = there gateways k within (each k)
  where
    there : (gs : List GatewayNow) (j : ℕ) → j < length gs → ((g : GatewayNow) → k < length gateways → P (k + 1) (get_or gs j g).shows) → P (k + 1) (reads_at gs j)
    there [] j below all = absurd (omega (arith, below))
    there (g ∷ gs) zero below all = all g within
    there (g ∷ gs) (suc j) below all = there gs j (omega (arith, below)) all

pub merged-are : (lines : List GatewayScriptLine) (gateways : List GatewayNow) → All (λ (of : GatewayScriptLine). (1 ≤ of.gateway.0) × (of.gateway.0 ≤ length gateways)) lines → AreMerged lines gateways (merged lines (reads_at gateways))
merged-are lines gateways of-one = record {
  reads = λ issues each. merged-zip (length gateways) (ReadFor issues) lines (reads_at gateways) known (each-at (λ (g : ℕ) (ss : List ShowLine). AreReadsBy lines issues g ss) gateways each);
  boards = λ rules issues each.
      All-from_recursion (IsBoardOf rules issues) all
      (merged-all (length gateways) (IsBoardOf rules issues) lines (reads_at gateways) known (λ k within.
      recursion_from_All (IsBoardOf rules issues) (reads_at gateways k) (each-at (λ (g : ℕ) (ss : List ShowLine). All (IsBoardOf rules issues) ss) gateways each k within)));
  forward = λ issues each own pairs.
      pairs-all IsNoShorter all
      (merged-pairs (length gateways) lines (reads_at gateways) known
      (λ k within. recursion_from_All (IsOwn (length gateways) k) (reads_at gateways k) (each-at (λ (g : ℕ) (ss : List ShowLine). All (λ (s : ShowLine). s.gateway.0 ≡ g) ss) gateways own k within))
      (λ k within. pairs-from_AllPairs IsNoShorter (reads_at gateways k) (each-at (λ (g : ℕ) (ss : List ShowLine). AllPairs IsNoShorter ss) gateways pairs k within)));
}
  where
    all : List ShowLine
    all = merged lines (reads_at gateways)

    ReadFor : List EndedIssue → GatewayScriptLine → ShowLine → Type 0
    ReadFor issues of s = (ended : EndedIssue) → slice_get issues of.line.issue ≡ Some ended → IsShowOf lines ended.journal of s

    known : AllByRecursion (IsOfOne (length gateways)) lines
    known = recursion_from_All (IsOfOne (length gateways)) lines of-one

-- ---- line by line

-- what is left behind the reads that were taken of each gateway
abbrev pub left_at : List GatewayNow → List ℕ → Left
left_at gateways next k = drop (get_or next k 0) (reads_at gateways k)

-- the reads so far, with those that the lines from this place on take, are all of them
pub record IsMerging (lines : List GatewayScriptLine) (gateways : List GatewayNow) (i : ℕ) (next : List ℕ) (shows : List ShowLine) (capacity : ℕ) : Type 0 where
  pub places : length next ≡ length gateways
  pub whole : shows ++ merged (drop i lines) (left_at gateways next) ≡ merged lines (reads_at gateways)
  pub room : length shows + length (filter is_show (drop i lines)) ≤ capacity

pub merging-begins : (lines : List GatewayScriptLine) (gateways : List GatewayNow) (next : List ℕ) (shows : List ShowLine) (capacity : ℕ) → length next ≡ length gateways → All (λ (n : ℕ). n ≡ 0) next → shows ≡ []
    → length (filter is_show lines) ≤ capacity → IsMerging lines gateways 0 next shows capacity
merging-begins lines gateways next shows capacity places zero-all none room = record {
  places = places;
  whole =
      ap (λ (ss : List ShowLine). ss ++ merged lines (left_at gateways next)) none
      ∙ merged-same lines (left_at gateways next) (reads_at gateways) (λ k. ap (λ (n : ℕ). drop n (reads_at gateways k)) (zero-at next (recursion_from_All (λ (n : ℕ). n ≡ 0) next zero-all) k));
  room = let count = ap length none in omega (arith, count, room);
}
  where
    zero-at : (ns : List ℕ) → AllByRecursion (λ (n : ℕ). n ≡ 0) ns → (k : ℕ) → get_or ns k 0 ≡ 0
    zero-at [] all k = refl
    zero-at (n ∷ ns) all zero = all.0
    zero-at (n ∷ ns) all (suc k) = zero-at ns all.1 k

module _ (lines : List GatewayScriptLine) (gateways : List GatewayNow) (i : ℕ) (of : GatewayScriptLine) (below : i < length lines) (at : of ≡ get_or lines i of) (next : List ℕ) (shows : List ShowLine) (capacity : ℕ)
    (merging : IsMerging lines gateways i next shows capacity) where
  abbrev behind : List GatewayScriptLine
  behind = drop (i + 1) lines

  abbrev left : Left
  left = left_at gateways next

  rest-is : drop i lines ≡ of ∷ behind
  rest-is = drop_more lines i of below ∙ ap (λ (l : GatewayScriptLine). l ∷ behind) (sym at)

  merged-is : (t : Bool) → is_show of ≡ t → merged (drop i lines) left ≡ cond t (take 1 (left (of.gateway.0 - 1)) ++ merged behind (without_first of left)) (merged behind left)
  merged-is t is =
      ap (λ (ls : List GatewayScriptLine). merged ls left) rest-is
      ∙ ap (λ (b : Bool). cond b (take 1 (left (of.gateway.0 - 1)) ++ merged behind (without_first of left)) (merged behind left)) is

  count-is : (t : Bool) → is_show of ≡ t → length (filter is_show (drop i lines)) ≡ length (cond t (of ∷ filter is_show behind) (filter is_show behind))
  count-is t is =
      ap (λ (ls : List GatewayScriptLine). length (filter is_show ls)) rest-is ∙ ap (λ (b : Bool). length (cond b (of ∷ filter is_show behind) (filter is_show behind))) is

  -- a line that enters an event takes no read
  pub merging-passed : is_show of ≡ false → IsMerging lines gateways (i + 1) next shows capacity
  merging-passed none = record {
    places = merging.places;
    whole = ap (λ (ss : List ShowLine). shows ++ ss) (sym (merged-is false none)) ∙ merging.whole;
    room = let count = count-is false none in omega (arith, count, merging.room);
  }

  -- there is room for the read of one that reads a board
  pub merging-room : is_show of ≡ true → length shows < capacity
  merging-room reads = let count = count-is true reads in omega (arith, count, merging.room)

  -- and it takes the next read of its gateway
  module _ (reads : is_show of ≡ true) (k n : ℕ) (number : of.gateway.0 ≡ k + 1) (within : k < length gateways) (shown : List ShowLine) (more : shown ≡ shows ++ take 1 (left k))
      (moved : drop n (reads_at gateways k) ≡ drop 1 (left k)) where
    left-is : (j : ℕ) → left_at gateways (set next k n) j ≡ without_first of left j
    left-is j = by (is_at j of) refl
      where
        by : (b : Bool) → is_at j of ≡ b → left_at gateways (set next k n) j ≡ cond b (drop 1 (left j)) (left j)
        by true here =
            let is : of.gateway.0 ≡ j + 1 = eqb-true of.gateway.0 (j + 1) here in
            let same : k ≡ j = omega (arith, is, number) in
            let long : k < length next = omega (arith, within, merging.places) in
            let written : get_or (set next k n) k 0 ≡ n = get_or-set_same next k n 0 long in
            subst (λ (m : ℕ). left_at gateways (set next k n) m ≡ drop 1 (left m)) same (ap (λ (m : ℕ). drop m (reads_at gateways k)) written ∙ moved)
        by false here =
            let apart : j ≡ k → ⊥ = λ same. eqb-false of.gateway.0 (j + 1) here (omega (arith, same, number)) in
            ap (λ (m : ℕ). drop m (reads_at gateways j)) (get_or-set_other next k j n 0 apart)

    few : (ss : List ShowLine) → length (take 1 ss) ≤ 1
    few [] = omega arith
    few (s ∷ ss) = omega arith

    pub merging-taken : IsMerging lines gateways (i + 1) (set next k n) shown capacity
    merging-taken = record {
      places = length-set next k n ∙ merging.places;
      whole =
          let place : of.gateway.0 - 1 ≡ k = omega (arith, number) in
          ap (λ (ss : List ShowLine). ss ++ merged behind (left_at gateways (set next k n))) more
          ∙ ap (λ (ss : List ShowLine). (shows ++ take 1 (left k)) ++ ss) (merged-same behind (left_at gateways (set next k n)) (without_first of left) left-is)
          ∙ append_assoc shows (take 1 (left k)) (merged behind (without_first of left))
          ∙ ap (λ (j : ℕ). shows ++ (take 1 (left j) ++ merged behind (without_first of left))) (sym place)
          ∙ ap (λ (ss : List ShowLine). shows ++ ss) (sym (merged-is true reads))
          ∙ merging.whole;
      room =
          let count = count-is true reads in
          let long : length shown ≡ length shows + length (take 1 (left k)) = ap length more ∙ length-append shows (take 1 (left k)) in
          omega (arith, count, long, few (left k), merging.room);
    }

-- behind the last line the reads are all of them
pub merging-ends : (lines : List GatewayScriptLine) (gateways : List GatewayNow) (i : ℕ) (next : List ℕ) (shows : List ShowLine) (capacity : ℕ) → length lines ≤ i → IsMerging lines gateways i next shows capacity
    → shows ≡ merged lines (reads_at gateways)
merging-ends lines gateways i next shows capacity past merging =
    sym (append-nil shows) ∙ ap (λ (ls : List GatewayScriptLine). shows ++ merged ls (left_at gateways next)) (sym (drop_all i lines past)) ∙ merging.whole
