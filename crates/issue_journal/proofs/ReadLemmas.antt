-- Reading the nodes of an issue that was left.
use Rattle.std.proofs.Common.{All, get_or, ◌⊎◌, ◌≡◌, ℕ, zero, suc, ◌+◌, ◌<◌, ◌≤◌, List, [], ◌∷◌, ◌++◌, length, map, take, Option, Some, None, inl, inr, refl, sym, ap, subst, ◌∙◌, arith}
use Rattle.std.specs.List.{slice_get, slice_index_or}
use Rattle.std.specs.Option.{unwrap_or}
use Rattle.std.proofs.lemmas.List.{length-take-le, length_push, take_more}
use Rattle.std.proofs.lemmas.List.Elements.{All-get_or}
use Rattle.std.proofs.lemmas.Option.{get_or_from_slice_get, slice_get-get_or, slice_get_within}
use Rattle.mkt_base.specs.declared.event.Entry.{Entry}
use Rattle.mkt_base.specs.declared.journal.NodeState.{NodeState}
use Rattle.mkt_base.specs.declared.journal.NodeState.TheVariants.{Lost, Joining, Synchronised}
use Rattle.mkt_io.specs.Faults.{Rises}
use Rattle.record_codec.specs.Entry.{IsEntry, Spells, spelling}
use Rattle.mirror.specs.Mirrored.{HoldsAs}
use Rattle.mirror.specs.Replicas.{Replica}
use Rattle.issue_machine.specs.History.{FollowOn, IsHistory}
use Rattle.issue_journal.specs.Reading.{AreLeft, AreSpelled, HoldsOf, WasTried}

-- ---- counts

pub rises-before : (a b c : ℕ) → a ≤ b → Rises b c → Rises a c
rises-before a b c less (inl more) = inl (omega (arith, less, more))
rises-before a b c less (inr last) = inr last

pub rises-behind : (a b c : ℕ) → Rises a b → b ≤ c → Rises a c
rises-behind a b c (inl more) less = inl (omega (arith, less, more))
rises-behind a b c (inr last) less = inr (omega (arith, less, last))

-- ---- a node that is read

pub tried-same : (end : ℕ) (r : Replica) → WasTried end r r
tried-same end r = record { either = inl refl; untouched = λ _. refl; label_is = refl; room = refl; count = omega arith; most_is = refl }

module _ (end : ℕ) (a b c : Replica) (one : WasTried end a b) (two : WasTried end b c) where
  either : (c.contents ≡ a.contents) ⊎ ((c.contents ≡ []) × Rises a.faults c.faults)
  either = elim two.either [
    | inl same ↦ elim one.either [ inl before ↦ inl (same ∙ before) | inr down ↦ inr (same ∙ down.0, rises-behind a.faults b.faults c.faults down.1 two.count) ]
    | inr down ↦ inr (down.0, rises-before a.faults b.faults c.faults one.count down.1)
  ]

  pub tried-then : WasTried end a c
  tried-then = record {
    either = either;
    untouched = λ other. two.untouched (λ long. other (ap (λ (r : Replica). length r.contents) (sym (one.untouched other)) ∙ long)) ∙ one.untouched other;
    label_is = two.label_is ∙ one.label_is;
    room = two.room ∙ one.room;
    count = omega (arith, one.count, two.count);
    most_is = two.most_is ∙ one.most_is;
  }

-- what it still holds, it holds of the journal
pub holds-tried : (entries : List Entry) (end : ℕ) (old new : Replica) → 0 < end → HoldsOf entries end old → WasTried end old new → HoldsOf entries end new
holds-tried entries end old new some holds tried long = elim tried.either [
  | inl same ↦ same ∙ holds (ap length (sym same) ∙ long)
  | inr down ↦ absurd (omega (arith, some, long, ap length down.0))
]

pub left-tried : (entries : List Entry) (end : ℕ) (f s t f' s' t' : Replica) → 0 < end → WasTried end f f' → WasTried end s s' → WasTried end t t' → AreLeft entries end f s t → AreLeft entries end f' s' t'
left-tried entries end f s t f' s' t' some one two three left = record {
  length_is = left.length_is;
  spelled = left.spelled;
  first_holds = holds-tried entries end f f' some left.first_holds one;
  second_holds = holds-tried entries end s s' some left.second_holds two;
  third_holds = holds-tried entries end t t' some left.third_holds three;
}

-- ---- one record

map-at : (entries : List Entry) (at : ℕ) (e : Entry) (d : List ℕ) → slice_get entries at ≡ Some e → slice_index_or (map spelling entries) at d ≡ spelling e
map-at [] at e d is = absurd (cc)
map-at (x ∷ xs) zero e d is = ap (λ (o : Option Entry). spelling (unwrap_or o x)) is
map-at (x ∷ xs) (suc at) e d is = map-at xs at e d is

module _ (entries : List Entry) (end : ℕ) (f s t : Replica) (left : AreLeft entries end f s t) (at : ℕ) (within : at < end) (rec : List ℕ) (is : rec ≡ slice_index_or (map spelling entries) at rec) where
  -- it spells the entry of its place
  pub spells : (e : Entry) → slice_get entries at ≡ Some e → Spells rec at e
  spells e here =
      let there : Spells (spelling e) at e = left.spelled at e here in
      record { numbers = there.numbers; place_is = there.place_is; bytes = is ∙ map-at entries at e rec here }

  pub entry-found : (got : Option Entry) → ((e : Entry) → Spells rec at e → got ≡ Some e) → (found : Entry) → got ≡ Some found → slice_get entries at ≡ Some found
  entry-found got says found is_found =
      let here : slice_get entries at ≡ Some (get_or entries at found) = slice_get-get_or entries at found (omega (arith, within, left.length_is)) in
      here ∙ sym (says (get_or entries at found) (spells (get_or entries at found) here)) ∙ is_found

  pub entry-there : (got : Option Entry) → ((e : Entry) → Spells rec at e → got ≡ Some e) → got ≡ None → (some : Entry) → ⊥
  entry-there got says none some =
      let here : slice_get entries at ≡ Some (get_or entries at some) = slice_get-get_or entries at some (omega (arith, within, left.length_is)) in
      let said : got ≡ Some (get_or entries at some) = says (get_or entries at some) (spells (get_or entries at some) here) in
      absurd (cc)

-- the list with the entry
pub taken-more : (entries log more : List Entry) (at : ℕ) (e : Entry) → log ≡ take at entries → slice_get entries at ≡ Some e → more ≡ log ++ e ∷ [] → more ≡ take (at + 1) entries
taken-more entries log more at e is here behind =
    behind ∙ ap (λ (es : List Entry). es ++ e ∷ []) is
    ∙ ap (λ (x : Entry). take at entries ++ x ∷ []) (sym (get_or_from_slice_get entries at e e here))
    ∙ sym (take_more entries at e (slice_get_within entries at e here))

-- ---- an issue that was left

places-on : (participants : ℕ) (before es : List Entry) → FollowOn participants before es → (at : ℕ) (e : Entry) → slice_get es at ≡ Some e → e.place ≡ length before + at
places-on participants before [] on at e here = absurd (cc)
places-on participants before (x ∷ es) on zero e here =
    let same : x ≡ e = ap (λ (o : Option Entry). unwrap_or o x) here in
    let place : x.place ≡ length before = on.0.place in
    let at : e.place ≡ x.place = ap (λ (y : Entry). y.place) (sym same) in
    omega (arith, at, place)
places-on participants before (x ∷ es) on (suc at) e here =
    let rest : e.place ≡ length (before ++ x ∷ []) + at = places-on participants (before ++ x ∷ []) es on.1 at e here in
    let more : length (before ++ x ∷ []) ≡ length before + 1 = length_push before x in
    omega (arith, rest, more)

pub spelled-history : (participants : ℕ) (entries : List Entry) → IsHistory participants entries → All IsEntry entries → AreSpelled entries
spelled-history participants entries history numbers at e here =
    let within : at < length entries = slice_get_within entries at e here in
    let place : e.place ≡ length {A = Entry} [] + at = places-on participants [] entries history at e here in
    let number : IsEntry e = subst IsEntry (get_or_from_slice_get entries at e e here) (All-get_or IsEntry entries at e within numbers) in
    record { numbers = number; place_is = place ∙ omega arith; bytes = refl }

-- a node with as many records as the journal holds it, whatever its state
pub holds-of : (s : NodeState) (journal contents : List (List ℕ)) → HoldsAs journal s contents → length contents ≡ length journal → contents ≡ journal
holds-of Synchronised journal contents holds long = holds
holds-of (Joining n) journal contents holds long =
    let short : length contents ≡ length (take n journal) = ap length holds.0 in
    let at : length (take n journal) ≡ n = length-take-le n journal (omega (arith, holds.1)) in
    absurd (omega (arith, short, at, holds.1, long))
holds-of Lost journal contents holds long = by journal (sym long ∙ ap length holds)
  where
    by : (js : List (List ℕ)) → length js ≡ 0 → contents ≡ js
    by [] none = holds
    by (j ∷ js) none = absurd (omega (arith, none))
