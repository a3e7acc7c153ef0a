-- The lines of each gateway: counted, shared out, and given to the gateways.
use Rattle.std.proofs.Common.{◌≡◌, ◌⊎◌, inl, inr, ℕ, zero, suc, ◌+◌, ◌==◌, ◌<◌, ◌≤◌, Bool, cond, List, Vec, Global, [], ◌∷◌, ◌++◌, length, map, take, drop, replicate, get_or, set, All, AllPairs, Result, Ok, Err, IfOk, refl, sym, ap, subst, ◌∙◌, arith, append-nil, append_assoc, length-append, vec_capacity}
use Rattle.std.proofs.lemmas.Bool.{cases_eq, eq-eqb, ne_eqb}
use Rattle.std.proofs.lemmas.List.{get_or-replicate, get_or-set_other, get_or-set_same, get_or_append_left, get_or_default, get_or_push, length-map, length-replicate, length-set, length_push, map-append, nil_from_length, take-append-drop, take_at}
use Rattle.std.proofs.lemmas.List.Elements.{All-head, All-map, All-tail, filter-append, filter_more}
use Rattle.std.proofs.lemmas.List.Kept.{AllPairs-cons, AllPairs-filter}
use Rattle.mkt_base.specs.declared.script.ScriptLine.{ScriptLine}
use Rattle.mkt_base.specs.declared.script.ShowLine.{ShowLine}
use Rattle.mkt_base.specs.declared.units.Caller.{Caller}
use Rattle.script_file.specs.declared.script.GatewayScriptLine.{GatewayScriptLine}
use Rattle.gateway.specs.Ran.{AreInStages, GatewayNow}
use Rattle.gateway.proofs.Pairs.{pairs-head, pairs-nil, pairs-tail}
use Rattle.stage_law.specs.Played.{bare, lines_by}
use Rattle.gateway_lines.specs.Lists.{AreCounts, AreLists, numbered}
use Rattle.gateway_lines.specs.Making.{AreGatewaysOf, IsGatewayOf}

-- what holds of an item of a list once it is written, and of the others as before
written : {X : Type 0} (P : X → Type 0) (xs : List X) (at k : ℕ) (x d : X) → at < length xs → (k ≡ at → P x) → ((k ≡ at → ⊥) → P (get_or xs k d)) → P (get_or (set xs at x) k d)
written {X} P xs at k x d within here else = by (cases_eq k at)
  where
    by : (k ≡ at) ⊎ (k ≡ at → ⊥) → P (get_or (set xs at x) k d)
    by (inl same) =
        let is : get_or (set xs at x) k d ≡ x = ap (λ (j : ℕ). get_or (set xs at x) j d) same ∙ get_or-set_same xs at x d within in
        subst P (sym is) (here same)
    by (inr apart) = subst P (sym (get_or-set_other xs at k x d apart)) (else apart)

-- ---- a line of the made ones, with those before it
module _ (made : List GatewayScriptLine) (i : ℕ) (of : GatewayScriptLine) (below : i < length made) (at : of ≡ get_or made i of) where
  lines-more : (n : ℕ) → lines_by n (take (i + 1) made) ≡ lines_by n (take i made) ++ cond (of.gateway.0 == n) (of ∷ []) []
  lines-more n =
      filter_more (λ (l : GatewayScriptLine). l.gateway.0 == n) made i of below
      ∙ ap (λ (l : GatewayScriptLine). lines_by n (take i made) ++ cond (l.gateway.0 == n) (l ∷ []) []) (sym at)

  -- its gateway has it behind them
  lines-own : (n : ℕ) → of.gateway.0 ≡ n → lines_by n (take (i + 1) made) ≡ lines_by n (take i made) ++ of ∷ []
  lines-own n own = lines-more n ∙ ap (λ (b : Bool). lines_by n (take i made) ++ cond b (of ∷ []) []) (eq-eqb of.gateway.0 n own)

  -- and no other has it
  lines-other : (n : ℕ) → (of.gateway.0 ≡ n → ⊥) → lines_by n (take (i + 1) made) ≡ lines_by n (take i made)
  lines-other n other =
      lines-more n ∙ ap (λ (b : Bool). lines_by n (take i made) ++ cond b (of ∷ []) []) (ne_eqb of.gateway.0 n other) ∙ append-nil (lines_by n (take i made))

  -- so its gateway has one more in all than among those before it
  pub lines-left : (n : ℕ) → of.gateway.0 ≡ n → length (lines_by n (take i made)) + 1 ≤ length (lines_by n made)
  lines-left n own =
      let one : length (lines_by n (take (i + 1) made)) ≡ length (lines_by n (take i made)) + 1 = ap length (lines-own n own) ∙ length_push (lines_by n (take i made)) of in
      let parts : length (lines_by n made) ≡ length (lines_by n (take (i + 1) made)) + length (lines_by n (drop (i + 1) made)) =
      ap (λ (ls : List GatewayScriptLine). length (lines_by n ls)) (sym (take-append-drop (i + 1) made))
      ∙ ap length (filter-append (λ (l : GatewayScriptLine). l.gateway.0 == n) (take (i + 1) made) (drop (i + 1) made))
      ∙ length-append (lines_by n (take (i + 1) made)) (lines_by n (drop (i + 1) made)) in
      omega (arith, one, parts)

  module _ (gateways place : ℕ) (number : of.gateway.0 ≡ place + 1) (within : place < gateways) where
    apart-from : (k : ℕ) → (k ≡ place → ⊥) → of.gateway.0 ≡ k + 1 → ⊥
    apart-from k apart same = apart (omega (arith, same, number))

    own-at : (k : ℕ) → k ≡ place → of.gateway.0 ≡ k + 1
    own-at k same = omega (arith, same, number)

    -- it is counted
    pub counts-more : (counts : List ℕ) → AreCounts (take i made) gateways counts → (n d : ℕ) → n ≡ get_or counts place d → AreCounts (take (i + 1) made) gateways (set counts place (n + 1))
    counts-more counts are n d read = record { many = length-set counts place (n + 1) ∙ are.many; each = each }
      where
        each : (k e : ℕ) → k < gateways → get_or (set counts place (n + 1)) k e ≡ length (lines_by (k + 1) (take (i + 1) made))
        each k e inside =
            written (λ (m : ℕ). m ≡ length (lines_by (k + 1) (take (i + 1) made))) counts place k (n + 1) e (omega (arith, within, are.many))
            (λ same.
            let old : n ≡ length (lines_by (place + 1) (take i made)) = read ∙ are.each place d within in
            let here : length (lines_by (k + 1) (take i made)) ≡ length (lines_by (place + 1) (take i made)) = ap (λ (j : ℕ). length (lines_by (j + 1) (take i made))) same in
            let more : length (lines_by (k + 1) (take (i + 1) made)) ≡ length (lines_by (k + 1) (take i made)) + 1 =
            ap length (lines-own (k + 1) (own-at k same)) ∙ length_push (lines_by (k + 1) (take i made)) of in
            omega (arith, old, here, more))
            (λ apart. are.each k e inside ∙ ap length (sym (lines-other (k + 1) (apart-from k apart))))

    -- its gateway's list has room for it
    pub lists-room : (lists : List (Vec ScriptLine Global)) → AreLists made (take i made) gateways lists → (list : Vec ScriptLine Global) → length (get_or lists place list).items < vec_capacity (get_or lists place list)
    lists-room lists are list =
        let left = lines-left (place + 1) number in
        let long : length (get_or lists place list).items ≡ length (lines_by (place + 1) (take i made)) =
        ap length (are.lines place list within) ∙ length-map (lines_by (place + 1) (take i made)) (λ (l : GatewayScriptLine). l.line) in
        omega (arith, left, long, are.room place list within)

    -- and takes it
    pub lists-more : (lists : List (Vec ScriptLine Global)) → AreLists made (take i made) gateways lists → (list new : Vec ScriptLine Global) → new.items ≡ (get_or lists place list).items ++ of.line ∷ []
        → vec_capacity new ≡ vec_capacity (get_or lists place list) → AreLists made (take (i + 1) made) gateways (set lists place new)
    lists-more lists are list new pushed kept = record { many = length-set lists place new ∙ are.many; lines = lines; room = room }
      where
        inside : place < length lists
        inside = omega (arith, within, are.many)

        lines : (k : ℕ) (other : Vec ScriptLine Global) → k < gateways → (get_or (set lists place new) k other).items ≡ bare (lines_by (k + 1) (take (i + 1) made))
        lines k other low =
            written (λ (v : Vec ScriptLine Global). v.items ≡ bare (lines_by (k + 1) (take (i + 1) made))) lists place k new other inside
            (λ same.
            let before : (get_or lists place list).items ≡ bare (lines_by (place + 1) (take i made)) = are.lines place list within in
            let more : bare (lines_by (k + 1) (take (i + 1) made)) ≡ bare (lines_by (k + 1) (take i made)) ++ of.line ∷ [] =
            ap bare (lines-own (k + 1) (own-at k same)) ∙ map-append (λ (l : GatewayScriptLine). l.line) (lines_by (k + 1) (take i made)) (of ∷ []) in
            pushed ∙ ap (λ (ls : List ScriptLine). ls ++ of.line ∷ []) before ∙ ap (λ (j : ℕ). bare (lines_by (j + 1) (take i made)) ++ of.line ∷ []) (sym same) ∙ sym more)
            (λ apart. are.lines k other low ∙ ap bare (sym (lines-other (k + 1) (apart-from k apart))))

        room : (k : ℕ) (other : Vec ScriptLine Global) → k < gateways → vec_capacity (get_or (set lists place new) k other) ≡ length (lines_by (k + 1) made)
        room k other low =
            written (λ (v : Vec ScriptLine Global). vec_capacity v ≡ length (lines_by (k + 1) made)) lists place k new other inside
            (λ same. kept ∙ are.room place list within ∙ ap (λ (j : ℕ). length (lines_by (j + 1) made)) (sym same))
            (λ apart. are.room k other low)

-- ---- before the first line

pub counts-none : (gateways : ℕ) → AreCounts [] gateways (replicate gateways 0)
counts-none gateways = record { many = length-replicate gateways 0; each = λ k d below. get_or-replicate gateways k 0 d below }

-- so many lists are made, each empty and with the room that is counted for it
pub record AreEmpty (counts : List ℕ) (done : ℕ) (lists : List (Vec ScriptLine Global)) : Type 0 where
  pub many : length lists ≡ done
  pub lines : (k : ℕ) (list : Vec ScriptLine Global) → k < done → (get_or lists k list).items ≡ []
  pub room : (k d : ℕ) (list : Vec ScriptLine Global) → k < done → vec_capacity (get_or lists k list) ≡ get_or counts k d

pub empty-none : (counts : List ℕ) → AreEmpty counts 0 []
empty-none counts = record { many = refl; lines = λ k list below. absurd (omega (arith, below)); room = λ k d list below. absurd (omega (arith, below)) }

pub empty-more : (counts : List ℕ) (done : ℕ) (lists : List (Vec ScriptLine Global)) (new : Vec ScriptLine Global) → AreEmpty counts done lists → done < length counts → new.items ≡ [] → vec_capacity new ≡ get_or counts done 0
    → AreEmpty counts (done + 1) (lists ++ new ∷ [])
empty-more counts done lists new are below none room = record {
  many = length_push lists new ∙ ap (λ (m : ℕ). m + 1) are.many;
  lines = λ k list less. pushed (λ (j : ℕ) (v : Vec ScriptLine Global). v.items ≡ []) none are.lines k list less;
  room = λ k d list less.
      pushed (λ (j : ℕ) (v : Vec ScriptLine Global). vec_capacity v ≡ get_or counts j d) (room ∙ get_or_default counts done 0 d below) (λ j v low. are.room j d v low) k list less;
}
  where
    pushed : (P : ℕ → Vec ScriptLine Global → Type 0) → P done new → ((k : ℕ) (list : Vec ScriptLine Global) → k < done → P k (get_or lists k list)) → (k : ℕ) (list : Vec ScriptLine Global) → k < done + 1 → P k (get_or (lists ++ new ∷ []) k list)
    pushed P last front k list less = by (cases_eq k done)
      where
        by : (k ≡ done) ⊎ (k ≡ done → ⊥) → P k (get_or (lists ++ new ∷ []) k list)
        by (inl same) = subst (P k) (sym (get_or_push lists new list k (are.many ∙ sym same))) (subst (λ (j : ℕ). P j new) (sym same) last)
        by (inr apart) =
            let low : k < done = omega (arith, less, apart) in
            subst (P k) (sym (get_or_append_left lists (new ∷ []) list k (omega (arith, low, are.many)))) (front k list low)

pub lists-none : (made : List GatewayScriptLine) (gateways : ℕ) (counts : List ℕ) (done : ℕ) (lists : List (Vec ScriptLine Global)) → AreCounts made gateways counts → AreEmpty counts done lists → done ≡ gateways → AreLists made [] gateways lists
lists-none made gateways counts done lists counted empty all = record {
  many = empty.many ∙ all;
  lines = λ k list below. empty.lines k list (omega (arith, below, all));
  room = λ k list below. empty.room k 0 list (omega (arith, below, all)) ∙ counted.each k 0 below;
}

-- ---- the gateways

-- what holds of each two images holds of each two items by their images
pairs-map : {X Y : Type 0} (R : Y → Y → Type 0) (f : X → Y) (xs : List X) → AllPairs (λ (a b : X). R (f a) (f b)) xs → AllPairs R (map f xs)
pairs-map R f [] pairs = pairs-nil R
pairs-map {X} R f (x ∷ xs) pairs =
    AllPairs-cons R (f x) (map f xs) (All-map (R (f x)) f xs (pairs-head (λ (a b : X). R (f a) (f b)) x xs pairs)) (pairs-map R f xs (pairs-tail (λ (a b : X). R (f a) (f b)) x xs pairs))

-- the stages of a gateway's lines do not fall
pub lines-stages : (made : List GatewayScriptLine) (n : ℕ) → AllPairs (λ (a b : GatewayScriptLine). a.line.stage ≤ b.line.stage) made → AreInStages (bare (lines_by n made))
lines-stages made n stages =
    pairs-map (λ (a b : ScriptLine). a.stage ≤ b.stage) (λ (l : GatewayScriptLine). l.line) (lines_by n made)
    (AllPairs-filter (λ (a b : GatewayScriptLine). a.line.stage ≤ b.line.stage) (λ (l : GatewayScriptLine). l.gateway.0 == n) made stages)

pub lists-stages : (made : List GatewayScriptLine) (gateways : ℕ) (lists : List (Vec ScriptLine Global)) → AreLists made made gateways lists → AllPairs (λ (a b : GatewayScriptLine). a.line.stage ≤ b.line.stage) made
    → All (λ (list : Vec ScriptLine Global). AreInStages list.items) lists
lists-stages made gateways lists are stages k list below = subst AreInStages (sym (are.lines k list (omega (arith, below, are.many)))) (lines-stages made (k + 1) stages)

-- each of these is numbered by its place
numbered-length : (n : ℕ) (lists : List (Vec ScriptLine Global)) → length (numbered n lists) ≡ length lists
numbered-length n [] = refl
numbered-length n (list ∷ lists) = ap suc (numbered-length (n + 1) lists)

abbrev gateway_of : ℕ → List ScriptLine → GatewayNow
gateway_of number lines = record { caller = record { 0 = number }; lines = lines; shows = [] }

numbered-at : (n k : ℕ) (lists : List (Vec ScriptLine Global)) (g : GatewayNow) (lines : List ScriptLine) → k < length lists → ((list : Vec ScriptLine Global) → (get_or lists k list).items ≡ lines)
    → get_or (numbered n lists) k g ≡ gateway_of (n + k) lines
numbered-at n k [] g lines below is = absurd (omega (arith, below))
numbered-at n zero (list ∷ lists) g lines below is = ap (gateway_of n) (is list) ∙ ap (λ (m : ℕ). gateway_of m lines) (omega arith)
numbered-at n (suc k) (list ∷ lists) g lines below is =
    let rest : get_or (numbered (n + 1) lists) k g ≡ gateway_of (n + 1 + k) lines = numbered-at (n + 1) k lists g lines (omega (arith, below)) is in
    let place : n + 1 + k ≡ n + suc k = omega arith in
    rest ∙ ap (λ (m : ℕ). gateway_of m lines) place

pub gateways-are : (made : List GatewayScriptLine) (gateways : ℕ) (lists : List (Vec ScriptLine Global)) (gs : List GatewayNow) → AreLists made made gateways lists → gs ≡ numbered 1 lists → AreGatewaysOf made gateways gs
gateways-are made gateways lists gs are is = subst (AreGatewaysOf made gateways) (sym is) (record { many = numbered-length 1 lists ∙ are.many; each = each })
  where
    each : (k : ℕ) (g : GatewayNow) → k < gateways → IsGatewayOf made (k + 1) (get_or (numbered 1 lists) k g)
    each k g below =
        let lines : List ScriptLine = bare (lines_by (k + 1) made) in
        let there : get_or (numbered 1 lists) k g ≡ gateway_of (1 + k) lines = numbered-at 1 k lists g lines (omega (arith, below, are.many)) (λ list. are.lines k list below) in
        subst (IsGatewayOf made (k + 1)) (sym there) (record { caller = omega arith; lines = refl; shows = refl })

pub gateways-all : {F : Type 0} (made : List GatewayScriptLine) (gateways : ℕ) (lists : List (Vec ScriptLine Global)) → AreLists made made gateways lists → (r : Result (Vec GatewayNow Global) F)
    → IfOk r (λ (gs : Vec GatewayNow Global). gs.items ≡ numbered 1 lists) → IfOk r (λ (gs : Vec GatewayNow Global). AreGatewaysOf made gateways gs.items)
gateways-all made gateways lists are (Ok gs) is = gateways-are made gateways lists gs.items are is
gateways-all made gateways lists are (Err fault) is = tt

-- what was written to the lists of a vector is what it holds
pub shared : (made : List GatewayScriptLine) (gateways : ℕ) (old : Vec (Vec ScriptLine Global) Global) (new : List (Vec ScriptLine Global)) → length old.items ≡ gateways → AreLists made made (length old.items) new
    → AreLists made made gateways (take old.len (new ++ drop (length new) old.items))
shared made gateways old new many are =
    let long : length new ≡ old.len = omega (arith, are.many, old.ok) in
    subst (AreLists made made gateways) (sym (take_at new (drop (length new) old.items) old.len long)) (subst (λ (n : ℕ). AreLists made made n new) many are)

-- ---- the gateways so far, and the lists that are left

pub record AreSoFar (lists rest : List (Vec ScriptLine Global)) (gs : List GatewayNow) (capacity : ℕ) : Type 0 where
  pub whole : gs ++ numbered (length gs + 1) rest ≡ numbered 1 lists
  pub stages : All (λ (list : Vec ScriptLine Global). AreInStages list.items) rest
  pub few : length gs + length rest ≤ 16
  pub room : length gs + length rest ≤ capacity

pub so-far-none : (lists : List (Vec ScriptLine Global)) (capacity : ℕ) → All (λ (list : Vec ScriptLine Global). AreInStages list.items) lists → length lists ≤ 16 → length lists ≤ capacity → AreSoFar lists lists [] capacity
so-far-none lists capacity stages few room = record { whole = refl; stages = stages; few = omega (arith, few); room = omega (arith, room) }

module _ (lists rest : List (Vec ScriptLine Global)) (gs : List GatewayNow) (capacity : ℕ) where
  module _ (list : Vec ScriptLine Global) (left : List (Vec ScriptLine Global)) (far : AreSoFar lists rest gs capacity) (next : rest ≡ list ∷ left) where
    -- the list that is next is in its stages, and there is room for its gateway
    abbrev here : AreSoFar lists (list ∷ left) gs capacity
    here = subst (λ (ls : List (Vec ScriptLine Global)). AreSoFar lists ls gs capacity) next far

    pub so-far-stages : AreInStages list.items
    so-far-stages = All-head (λ (l : Vec ScriptLine Global). AreInStages l.items) list left here.stages

    pub so-far-few : length gs < 16
    so-far-few = omega (arith, here.few)

    pub so-far-room : length gs < capacity
    so-far-room = omega (arith, here.room)

    same-gateway : (c d : Caller) (ls ms : List ScriptLine) (ss : List ShowLine) → c ≡ d → ls ≡ ms → ss ≡ [] → (let g : GatewayNow = record { caller = c; lines = ls; shows = ss } in g) ≡ record { caller = d; lines = ms; shows = [] }
    same-gateway c d ls ms ss caller lines shows = cc

    -- and its gateway is made of it
    pub so-far-more : (g : GatewayNow) → g.caller.0 ≡ length gs + 1 → g.lines ≡ list.items → g.shows ≡ [] → AreSoFar lists left (gs ++ g ∷ []) capacity
    so-far-more g number lines shows =
        let long : length (gs ++ g ∷ []) ≡ length gs + 1 = length_push gs g in
        let its : Caller = record { 0 = length gs + 1 } in
        let own : g.caller ≡ its = ap (λ (n : ℕ). let c : Caller = record { 0 = n } in c) number in
        let made : g ≡ gateway_of (length gs + 1) list.items = same-gateway g.caller its g.lines list.items g.shows own lines shows in
        record {
          whole =
              append_assoc gs (g ∷ []) (numbered (length (gs ++ g ∷ []) + 1) left)
              ∙ ap (λ (n : ℕ). gs ++ g ∷ numbered (n + 1) left) long
              ∙ ap (λ (x : GatewayNow). gs ++ x ∷ numbered (length gs + 1 + 1) left) made
              ∙ here.whole;
          stages = All-tail (λ (l : Vec ScriptLine Global). AreInStages l.items) list left here.stages;
          few = omega (arith, long, here.few);
          room = omega (arith, long, here.room);
        }

  pub so-far-ends : AreSoFar lists rest gs capacity → length rest ≡ 0 → gs ≡ numbered 1 lists
  so-far-ends far none =
      sym (append-nil gs) ∙ ap (λ (ls : List (Vec ScriptLine Global)). gs ++ numbered (length gs + 1) ls) (sym (nil_from_length rest none)) ∙ far.whole
