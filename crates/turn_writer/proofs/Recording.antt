-- The recording of losses, one after another.
use Rattle.std.proofs.Common.{◌≡◌, ◌≢◌, ℕ, zero, suc, ◌+◌, ◌<◌, ◌≤◌, ◌∙◌, Bool, true, false, ◌||◌, List, [], ◌∷◌, ◌++◌, append-nil, append_assoc, ap, arith, length, length-append, refl, slice_get, Some, subst, sym, take, take-suc}
use Rattle.std.proofs.lemmas.List.{take-append-le, length-take-le}
use Rattle.std.proofs.lemmas.Option.{get_or_from_slice_get}
use Rattle.mkt_base.specs.declared.event.Entry.{Entry}
use Rattle.mkt_base.specs.declared.journal.NodeState.{NodeState}
use Rattle.mkt_base.specs.declared.journal.NodeState.TheVariants.{Lost, Joining, Synchronised}
use Rattle.mkt_io.specs.Faults.{Rises}
use Rattle.record_codec.specs.Entry.{spelling}
use Rattle.node_rules.specs.Nodes.{has_synchronised, is_synchronised, up}
use Rattle.mirror.specs.Calls.{Fell, Keeps, KeepsAll}
use Rattle.mirror.specs.Mirrored.{HoldsAs, Mirrors, MirrorsSome}
use Rattle.mirror.specs.Replicas.{Replica, Replicas, states}
use Rattle.turn_writer.specs.Losses.{loss_at, losses_from, times}
use Rattle.turn_writer.specs.Went.{Gone, HasPlace, LossesKnown, NodeWent, NoneStood, Recording, Stays, Still, WasPutToAll, Went, lost_by}
use Rattle.turn_writer.specs.Writing.{AllFailed, HasFailed, HasLossRoom, KeepsEach, spelled}
use Rattle.turn_writer.proofs.Going.{keeps-all-then, roomy-kept, went-nothing, went-on, went-up}
use Rattle.turn_writer.proofs.Slots.{keeps-none, keeps-within, tame-none, went-fails}

-- ---- what is kept

pub keeps-each : (n m : ℕ) (a b : Replicas) → n ≤ m → Keeps n a.first b.first → Keeps n a.second b.second → Keeps n a.third b.third → KeepsEach m a b
keeps-each n m a b h k l o = record {
  first = keeps-within n m a.first b.first h k;
  second = keeps-within n m a.second b.second h l;
  third = keeps-within n m a.third b.third h o;
}

-- ---- the entries of losses

-- one loss more
pub losses-more : (place own : ℕ) (l : List ℕ) (k : ℕ) → losses_from place own (l ++ k ∷ []) ≡ losses_from place own l ++ loss_at (place + length l) (own + length l) k ∷ []
losses-more place own [] k =
    let p : place ≡ place + 0 = omega arith in
    let o : own ≡ own + 0 = omega arith in
    ap (λ n. loss_at n own k ∷ []) p ∙ ap (λ n. loss_at (place + 0) n k ∷ []) o
losses-more place own (j ∷ l) k =
    let p : place + 1 + length l ≡ place + suc (length l) = omega arith in
    let o : own + 1 + length l ≡ own + suc (length l) = omega arith in
    ap (λ es. loss_at place own j ∷ es)
    (losses-more (place + 1) (own + 1) l k ∙ ap (λ n. losses_from (place + 1) (own + 1) l ++ loss_at n (own + 1 + length l) k ∷ []) p
    ∙ ap (λ n. losses_from (place + 1) (own + 1) l ++ loss_at (place + suc (length l)) n k ∷ []) o)

-- as many as there are losses
pub losses-count : (place own : ℕ) (l : List ℕ) → length (losses_from place own l) ≡ length l
losses-count place own [] = refl
losses-count place own (j ∷ l) = ap (λ n. suc n) (losses-count (place + 1) (own + 1) l)

spelled-append : (es fs : List Entry) → spelled (es ++ fs) ≡ spelled es ++ spelled fs
spelled-append [] fs = refl
spelled-append (e ∷ es) fs = ap (λ rs. spelling e ∷ rs) (spelled-append es fs)

spelled-count : (es : List Entry) → length (spelled es) ≡ length es
spelled-count [] = refl
spelled-count (e ∷ es) = ap (λ n. suc n) (spelled-count es)

pub written-count : (place own : ℕ) (l : List ℕ) → length (spelled (losses_from place own l)) ≡ length l
written-count place own l = spelled-count (losses_from place own l) ∙ losses-count place own l

-- the list up to the next one
take-next : (l m : List ℕ) (i k : ℕ) → slice_get l i ≡ Some k → i < length l → take (i + 1) (l ++ m) ≡ take i l ++ k ∷ []
take-next l m i k e h =
    let fits : i + 1 ≤ length l = omega (arith, h) in
    let next : i + 1 ≡ suc i = omega arith in
    take-append-le (i + 1) l m fits ∙ ap (λ n. take n l) next ∙ take-suc l i k h ∙ ap (λ x. take i l ++ x ∷ []) (get_or_from_slice_get l i k k e)

-- what is spelled once this loss is recorded too
pub spelled-next : (place own : ℕ) (l m : List ℕ) (i k : ℕ) → slice_get l i ≡ Some k → i < length l → spelled (losses_from place own (take i l)) ++ spelling (loss_at (place + i) (own + i) k) ∷ [] ≡ spelled (losses_from place own (take (i + 1) (l ++ m)))
spelled-next place own l m i k e h =
    let long : length (take i l) ≡ i = length-take-le i l (omega (arith, h)) in
    sym (ap (λ xs. spelled (losses_from place own xs)) (take-next l m i k e h)
    ∙ ap spelled (losses-more place own (take i l) k)
    ∙ spelled-append (losses_from place own (take i l)) (loss_at (place + length (take i l)) (own + length (take i l)) k ∷ [])
    ∙ ap (λ n. spelled (losses_from place own (take i l)) ++ spelling (loss_at (place + n) (own + n) k) ∷ []) long)

-- ---- one loss more

still-then : (a b c : Replicas) → Still a b → Still b c → Still a c
still-then a b c p q = record {
  first = stays-then a.first b.first c.first p.first q.first;
  second = stays-then a.second b.second c.second p.second q.second;
  third = stays-then a.third b.third c.third p.third q.third;
}
  where
    stays-then : (r s t : Replica) → Stays r s → Stays s t → Stays r t
    stays-then r s t f g apart = g (λ e. apart (ap (λ m. m.state) (sym (f apart)) ∙ e)) ∙ f apart

-- the records so far, and one more
pub recorded : (own done : ℕ) (start lost l m : List ℕ) (k : ℕ) (rec : List ℕ) (a b c : Replicas) → slice_get lost done ≡ Some k → done < length lost → done ≤ 1 → l ≡ lost ++ m → rec ≡ spelling (loss_at b.length (own + done) k) → WasPutToAll rec m b c → Still b c → Recording own done start lost a b → Recording own (done + 1) start l a c
recorded own done start lost l m k rec a b c at h few e spelled-as put still r = subst (λ xs. Recording own (done + 1) start xs a c) (sym e) (record {
  more = r.more ++ m;
  lost_are = ap (λ xs. xs ++ m) r.lost_are ∙ append_assoc start r.more m;
  went =
      let long : b.length ≡ a.length + length (spelled (losses_from a.length own (take done lost))) = r.went.entries in
      let count : length (spelled (losses_from a.length own (take done lost))) ≡ length (take done lost) = written-count a.length own (take done lost) in
      let short : length (take done lost) ≡ done = length-take-le done lost (omega (arith, h)) in
      let place : b.length ≡ a.length + done = omega (arith, long, count, short) in
      let entry : rec ≡ spelling (loss_at (a.length + done) (own + done) k) = spelled-as ∙ ap (λ n. spelling (loss_at n (own + done) k)) place in
      let both : Went (spelled (losses_from a.length own (take done lost)) ++ rec ∷ []) a.first.state a.second.state a.third.state (r.more ++ m) a c =
      went-on (λ s. s) (λ s. s) (λ s. s) tame-none tame-none tame-none (spelled (losses_from a.length own (take done lost))) (rec ∷ []) a.first.state a.second.state a.third.state r.more m a b c r.went put in
      subst (λ w. Went w a.first.state a.second.state a.third.state (r.more ++ m) a c)
      (ap (λ x. spelled (losses_from a.length own (take done lost)) ++ x ∷ []) entry ∙ spelled-next a.length own lost m done k at h) both;
  still = still-then a b c r.still still;
  within = let long : length (lost ++ m) ≡ length lost + length m = length-append lost m in omega (arith, long, h);
  few = omega (arith, few);
})

-- ---- the loop over losses

-- some node is up where one is synchronised
up-some : (s t u : NodeState) → has_synchronised (s ∷ t ∷ u ∷ []) ≡ true → 1 ≤ up (s ∷ t ∷ u ∷ [])
up-some Synchronised t u e = omega arith
up-some (Joining n) t u e = omega arith
up-some Lost Synchronised u e = omega arith
up-some Lost (Joining n) u e = omega arith
up-some Lost Lost Synchronised e = omega arith
up-some Lost Lost (Joining n) e = omega arith
up-some Lost Lost Lost e = absurd (cc)

-- before the first
pub recording-none : (own : ℕ) (lost : List ℕ) (a : Replicas) → Recording own 0 lost lost a a
recording-none own lost a = record {
  more = [];
  lost_are = sym (append-nil lost);
  went = went-nothing a;
  still = record { first = λ _. refl; second = λ _. refl; third = λ _. refl };
  within = omega arith;
  few = omega arith;
}

module _ (own done : ℕ) (start lost : List ℕ) (a b : Replicas) (r : Recording own done start lost a b) where
  -- each loss takes a node that was up
  pub recording-up : length lost + up (states b) ≡ length start + up (states a)
  recording-up =
      let e : length r.more + up (states b) ≡ up (states a) = went-up _ _ _ _ r.more a b r.went in
      let long : length lost ≡ length start + length r.more = ap length r.lost_are ∙ length-append start r.more in
      omega (arith, e, long)

  -- one record for each loss
  pub recording-length : b.length ≡ a.length + done
  recording-length =
      let long : b.length ≡ a.length + length (spelled (losses_from a.length own (take done lost))) = r.went.entries in
      let count : length (spelled (losses_from a.length own (take done lost))) ≡ length (take done lost) = written-count a.length own (take done lost) in
      let within : done ≤ length lost = r.within in
      let short : length (take done lost) ≡ done = length-take-le done lost within in
      omega (arith, long, count, short)

  pub recording-three : HasLossRoom start a → length lost + up (states b) ≤ 3
  recording-three room =
      let e : length lost + up (states b) ≡ length start + up (states a) = recording-up in
      let three : length start + up (states a) ≤ 3 = room.three in
      omega (arith, e, three)

  -- there is room for the next
  pub recording-place : HasLossRoom start a → done < length lost → HasPlace 1 b
  recording-place room h = record {
    capacity = room.capacity;
    roomy = roomy-kept room.capacity a b r.went.keeps room.roomy;
    fits =
        let e : length lost + up (states b) ≡ length start + up (states a) = recording-up in
        let fits : a.length + (length start + up (states a)) ≤ room.capacity = room.fits in
        let long : b.length ≡ a.length + done = recording-length in
        omega (arith, e, fits, long, h);
  }

  -- the next is the second at most

  pub recording-few : HasLossRoom start a → done < length lost → has_synchronised (states b) ≡ true → done ≤ 1
  recording-few room h some =
      let three : length lost + up (states b) ≤ 3 = recording-three room in
      let one : 1 ≤ up (states b) = up-some b.first.state b.second.state b.third.state some in
      omega (arith, three, one, h)

  -- all are recorded
  pub recording-known : done ≡ length lost → has_synchronised (states b) ≡ true → LossesKnown own start lost a b
  recording-known e some = record { recording = subst (λ n. Recording own n start lost a b) e r; some = some }

-- ---- no node is left

-- where none is synchronised, no put would find one
not-synchronised : (s t u : NodeState) → has_synchronised (s ∷ t ∷ u ∷ []) ≡ false → (s ≢ Synchronised) × (t ≢ Synchronised) × (u ≢ Synchronised)
not-synchronised s t u e = (
  λ f. absurd (true-false (ap (λ r. is_synchronised r || is_synchronised t || is_synchronised u) (sym f) ∙ e)),
  λ f. absurd (true-false (sym (or-middle (is_synchronised s) (is_synchronised u)) ∙ ap (λ r. is_synchronised s || is_synchronised r || is_synchronised u) (sym f) ∙ e)),
  λ f. absurd (true-false (sym (or-last (is_synchronised s || is_synchronised t)) ∙ ap (λ r. is_synchronised s || is_synchronised t || is_synchronised r) (sym f) ∙ e)),
)
  where
    true-false : ◌≡◌ {A = Bool} true false → ⊥
    true-false e = absurd (cc)

    or-middle : (x y : Bool) → (x || true || y) ≡ true
    or-middle true y = refl
    or-middle false y = refl

    or-last : (x : Bool) → (x || true) ≡ true
    or-last true = refl
    or-last false = refl

pub none-stands : (b : Replicas) → has_synchronised (states b) ≡ false → NoneStood b b
none-stands b e =
    let apart = not-synchronised b.first.state b.second.state b.third.state e in record {
      fell = record {
        first = record { lost = λ s. absurd (apart.0 s); rose = λ s. absurd (apart.0 s); untouched = λ _. refl };
        second = record { lost = λ s. absurd (apart.1 s); rose = λ s. absurd (apart.1 s); untouched = λ _. refl };
        third = record { lost = λ s. absurd (apart.2 s); rose = λ s. absurd (apart.2 s); untouched = λ _. refl };
      };
      mirrors = λ journal held. held;
      keeps = record { first = keeps-none b.length b.first; second = keeps-none b.length b.second; third = keeps-none b.length b.third };
      entries = refl;
    }

-- a node of the records so far, and of a put that no node stood
module _ (n : ℕ) (a b c : Replica) (w : NodeWent n a.state a b) (g : a.faults ≤ b.faults) (h : b.faults ≤ c.faults) (stays : Stays a b) (fell : Fell b c) where
  node-rose : a.state ≡ Synchronised → Rises a.faults c.faults
  node-rose s = went-fails n a.state a b w c g h fell.rose s

  node-lost : a.state ≡ Synchronised → c.state ≡ Lost
  node-lost s = by-count n refl
    where
      lost-not : ◌≡◌ {A = NodeState} Lost Synchronised → ⊥
      lost-not e = absurd (cc)

      by-count : (k : ℕ) → n ≡ k → c.state ≡ Lost
      by-count zero z = fell.lost (w.state_is ∙ ap (λ k. lost_by k a.state) z ∙ s)
      by-count (suc k) z =
          let gone : b.state ≡ Lost = w.state_is ∙ ap (λ k. lost_by k a.state) z in
          ap (λ m. m.state) (fell.untouched (λ e. lost-not (sym gone ∙ e))) ∙ gone

  node-failed : (journal : List (List ℕ)) → HoldsAs journal c.state c.contents → HasFailed a c
  node-failed journal held = record {
    rose = node-rose;
    empty = λ s. subst (λ t. HoldsAs journal t c.contents) (node-lost s) held;
    untouched = λ apart. fell.untouched (λ e. apart (ap (λ m. m.state) (sym (stays apart)) ∙ e)) ∙ stays apart;
  }

module _ (own done : ℕ) (start lost : List ℕ) (a b c : Replicas) (r : Recording own done start lost a b) (q : NoneStood b c) where
  keeps-last : KeepsAll a c
  keeps-last = let e : c.length ≡ b.length = q.entries in keeps-all-then a b c (omega (arith, e)) r.went.keeps q.keeps

  few-last : c.length ≤ a.length + 2
  few-last =
      let e : c.length ≡ b.length = q.entries in
      let f : b.length ≡ a.length + done = recording-length own done start lost a b r in
      let few : done ≤ 2 = r.few in
      omega (arith, e, f, few)

  pub recording-gone : Gone a c
  recording-gone = record {
    first = node-rose (times 0 r.more) a.first b.first c.first r.went.first r.went.keeps.first.faults q.keeps.first.faults r.still.first q.fell.first;
    second = node-rose (times 1 r.more) a.second b.second c.second r.went.second r.went.keeps.second.faults q.keeps.second.faults r.still.second q.fell.second;
    third = node-rose (times 2 r.more) a.third b.third c.third r.went.third r.went.keeps.third.faults q.keeps.third.faults r.still.third q.fell.third;
    keeps = keeps-last;
    longer =
        let e : c.length ≡ b.length = q.entries in
        let f : b.length ≡ a.length + done = recording-length own done start lost a b r in
        omega (arith, e, f);
    few = few-last;
  }

  pub recording-failed : MirrorsSome b → AllFailed a c
  recording-failed m =
      let held : Mirrors m.0 c = q.mirrors m.0 m.1 in
      let few : c.length ≤ a.length + 2 = few-last in
      let more : c.length ≤ a.length + 3 = omega (arith, few) in record {
        first = node-failed (times 0 r.more) a.first b.first c.first r.went.first r.went.keeps.first.faults q.keeps.first.faults r.still.first q.fell.first m.0 held.first;
        second = node-failed (times 1 r.more) a.second b.second c.second r.went.second r.went.keeps.second.faults q.keeps.second.faults r.still.second q.fell.second m.0 held.second;
        third = node-failed (times 2 r.more) a.third b.third c.third r.went.third r.went.keeps.third.faults q.keeps.third.faults r.still.third q.fell.third m.0 held.third;
        keeps = keeps-each c.length (a.length + 3) a c more keeps-last.first keeps-last.second keeps-last.third;
      }
