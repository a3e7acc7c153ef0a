-- The parts of a turn one after another.
use Rattle.std.proofs.Common.{◌≡◌, ◌≢◌, ℕ, zero, suc, ◌+◌, ◌==◌, ◌<◌, ◌≤◌, ◌∙◌, Bool, true, false, cond, ◌||◌, List, [], ◌∷◌, ◌++◌, Option, None, Some, IfSome, append-nil, append_assoc, ap, arith, inl, inr, length, length-append, refl, subst, sym}
use Rattle.mkt_base.specs.declared.event.Entry.{Entry}
use Rattle.mkt_base.specs.declared.journal.NodeState.{NodeState}
use Rattle.mkt_base.specs.declared.journal.NodeState.TheVariants.{Lost, Joining, Synchronised}
use Rattle.mkt_io.specs.Faults.{Rises}
use Rattle.record_codec.specs.Entry.{spelling}
use Rattle.node_rules.specs.Nodes.{caught, caught_at, crashes, has_synchronised, is_lost, is_synchronised, joins, up, up_in}
use Rattle.mirror.specs.Calls.{HasRoom}
use Rattle.mirror.specs.Mirrored.{HoldsAs, Mirrors, MirrorsSome}
use Rattle.mirror.specs.Replicas.{Replica, Replicas, node_at, states}
use Rattle.turn_writer.specs.Losses.{times}
use Rattle.turn_writer.specs.Went.{CaughtAll, EventWritten, Fails, Gone, HasPlace, NodeWent, NoneStood, Rejoined, WasCrashed, WasPutToAll, Went, crashed_at, joined_at, lost_by}
use Rattle.turn_writer.specs.Writing.{HasTurnRoom, NoneLeft, asks, nodes_behind}
use Rattle.turn_writer.proofs.Behind.{behind-each, crashed-stays, joins-lost, joins-or-spares}
use Rattle.turn_writer.proofs.Going.{caught_at-tame, keeps-all-then, nodes-append, roomy-kept, times-append, went-longer, went-on, went-up}
use Rattle.turn_writer.proofs.Recording.{keeps-each}
use Rattle.turn_writer.proofs.Slots.{Tame, grew-then, lost_by-lost, tame-none, up_in-one, went-fails, went-then}

-- ---- the states on the way

-- node k after the catch-up and the crash
abbrev pub crashed_behind : Entry → Replicas → ℕ → NodeState → NodeState
crashed_behind e m k s = crashed_at e.event k (caught_at e.event m.length k s)

-- these records were written, and the nodes came that far
abbrev pub CameSoFar : List (List ℕ) → Entry → List ℕ → Replicas → Replicas → Type 0
CameSoFar w e l a b = Went w (crashed_behind e a 0 a.first.state) (crashed_behind e a 1 a.second.state) (crashed_behind e a 2 a.third.state) l a b

-- ---- room

-- the next record has room
room-one : (capacity entries : ℕ) (journal : List (List ℕ)) (r : Replica) → capacity ≤ length r.contents + r.spare → entries + 1 ≤ capacity → entries ≡ length journal → HoldsAs journal r.state r.contents → r.state ≡ Synchronised → 1 ≤ r.spare
room-one capacity entries journal r roomy fits e held s =
    let whole : r.contents ≡ journal = subst (λ t. HoldsAs journal t r.contents) s held in
    let long : length r.contents ≡ length journal = ap length whole in
    omega (arith, roomy, fits, e, long)

has-room : (m : Replicas) → MirrorsSome m → HasPlace 1 m → HasRoom 1 m
has-room m some place = record {
  first = room-one place.capacity m.length some.0 m.first place.roomy.first place.fits some.1.entries_are some.1.first;
  second = room-one place.capacity m.length some.0 m.second place.roomy.second place.fits some.1.entries_are some.1.second;
  third = room-one place.capacity m.length some.0 m.third place.roomy.third place.fits some.1.entries_are some.1.third;
}

-- some journal is mirrored still
pub still-mirrored : (w : List (List ℕ)) (x y z : NodeState) (l : List ℕ) (a b : Replicas) → Went w x y z l a b → MirrorsSome a → MirrorsSome b
still-mirrored w x y z l a b p some = (some.0 ++ w, p.mirrors some.0 some.1)

-- ---- before the put

pub put-room : (e : Entry) (l : List ℕ) (a b : Replicas) → HasTurnRoom e.event a → MirrorsSome a → CameSoFar [] e l a b → HasRoom 1 b
put-room e l a b room some p =
    let long : b.length ≡ a.length + length {A = List ℕ} [] = p.entries in
    let fits : a.length + 1 + (up (states a) + asks e.event) ≤ room.capacity = room.fits in
    has-room b (still-mirrored [] _ _ _ l a b p some) (record {
      capacity = room.capacity;
      roomy = roomy-kept room.capacity a b p.keeps room.roomy;
      fits = omega (arith, long, fits);
    })

pub put-place : (e : Entry) (l : List ℕ) (a b : Replicas) → e.place ≡ a.length → CameSoFar [] e l a b → e.place ≡ b.length
put-place e l a b at p = let long : b.length ≡ a.length + length {A = List ℕ} [] = p.entries in omega (arith, long, at)

-- ---- no node is left

-- no state of three is synchronised
none-of : (s t u : NodeState) → s ≢ Synchronised → t ≢ Synchronised → u ≢ Synchronised → has_synchronised (s ∷ t ∷ u ∷ []) ≡ false
none-of Synchronised t u f g h = absurd (f refl)
none-of (Joining n) Synchronised u f g h = absurd (g refl)
none-of (Joining n) (Joining m) Synchronised f g h = absurd (h refl)
none-of (Joining n) (Joining m) (Joining i) f g h = refl
none-of (Joining n) (Joining m) Lost f g h = refl
none-of (Joining n) Lost Synchronised f g h = absurd (h refl)
none-of (Joining n) Lost (Joining i) f g h = refl
none-of (Joining n) Lost Lost f g h = refl
none-of Lost Synchronised u f g h = absurd (g refl)
none-of Lost (Joining m) Synchronised f g h = absurd (h refl)
none-of Lost (Joining m) (Joining i) f g h = refl
none-of Lost (Joining m) Lost f g h = refl
none-of Lost Lost Synchronised f g h = absurd (h refl)
none-of Lost Lost (Joining i) f g h = refl
none-of Lost Lost Lost f g h = refl

-- a node whose count did not rise was not to be synchronised
calm-apart : (n : ℕ) (x : NodeState) (a b c : Replica) → NodeWent n x a b → a.faults ≤ b.faults → b.faults ≤ c.faults → Fails b c → (Rises a.faults c.faults → ⊥) → x ≢ Synchronised
calm-apart n x a b c w g h fails calm e = calm (went-fails n x a b w c g h fails e)

-- after so much of the turn no synchronised node is left
pub none-left : (e : Entry) (w : List (List ℕ)) (x y z : NodeState) (l : List ℕ) (a b c : Replicas) → length w ≤ 1 → (a.first.state ≡ Synchronised → crashes e.event 0 ≡ false → x ≡ Synchronised) → (a.second.state ≡ Synchronised → crashes e.event 1 ≡ false → y ≡ Synchronised) → (a.third.state ≡ Synchronised → crashes e.event 2 ≡ false → z ≡ Synchronised) → (has_synchronised (x ∷ y ∷ z ∷ []) ≡ false → has_synchronised (nodes_behind e a) ≡ false) → Went w x y z l a b → Gone b c → NoneLeft e a c
none-left e w x y z l a b c short ex ey ez quiet p q = record {
  first = λ s spared. went-fails (times 0 l) x a.first b.first p.first c.first p.keeps.first.faults q.keeps.first.faults q.first (ex s spared);
  second = λ s spared. went-fails (times 1 l) y a.second b.second p.second c.second p.keeps.second.faults q.keeps.second.faults q.second (ey s spared);
  third = λ s spared. went-fails (times 2 l) z a.third b.third p.third c.third p.keeps.third.faults q.keeps.third.faults q.third (ez s spared);
  quiet = λ calm. quiet (none-of x y z
      (calm-apart (times 0 l) x a.first b.first c.first p.first p.keeps.first.faults q.keeps.first.faults q.first calm.first)
      (calm-apart (times 1 l) y a.second b.second c.second p.second p.keeps.second.faults q.keeps.second.faults q.second calm.second)
      (calm-apart (times 2 l) z a.third b.third c.third p.third p.keeps.third.faults q.keeps.third.faults q.third calm.third));
  keeps =
      let long : b.length ≡ a.length + length w = p.entries in
      let more : b.length ≤ c.length = q.longer in
      let few : c.length ≤ b.length + 2 = q.few in
      let all = keeps-all-then a b c more p.keeps q.keeps in
      keeps-each c.length (a.length + 3) a c (omega (arith, long, few, short)) all.first all.second all.third;
}

-- a put that no node stood
pub gone-put : (b c : Replicas) → NoneStood b c → Gone b c
gone-put b c q = record {
  first = q.fell.first.rose;
  second = q.fell.second.rose;
  third = q.fell.third.rose;
  keeps = q.keeps;
  longer = let e : c.length ≡ b.length = q.entries in omega (arith, e);
  few = let e : c.length ≡ b.length = q.entries in omega (arith, e);
}

true-false : ◌≡◌ {A = Bool} true false → ⊥
true-false e = absurd (cc)

-- where some node is synchronised and the event crashes none, some is after the catch-up
some-stays : (s t u x y z : NodeState) → (s ≡ Synchronised → x ≡ Synchronised) → (t ≡ Synchronised → y ≡ Synchronised) → (u ≡ Synchronised → z ≡ Synchronised) → has_synchronised (s ∷ t ∷ u ∷ []) ≡ true → has_synchronised (x ∷ y ∷ z ∷ []) ≡ false → ⊥
some-stays s t u x y z f g h some none =
    true-false (sym some ∙ none-of s t u (λ e. x-apart (f e)) (λ e. y-apart (g e)) (λ e. z-apart (h e)))
  where
    or-middle : (i j : Bool) → (i || true || j) ≡ true
    or-middle true j = refl
    or-middle false j = refl

    or-last : (i : Bool) → (i || true) ≡ true
    or-last true = refl
    or-last false = refl

    x-apart : x ≢ Synchronised
    x-apart e = true-false (ap (λ r. has_synchronised (r ∷ y ∷ z ∷ [])) (sym e) ∙ none)

    y-apart : y ≢ Synchronised
    y-apart e = true-false (sym (or-middle (is_synchronised x) (is_synchronised z)) ∙ ap (λ r. has_synchronised (x ∷ r ∷ z ∷ [])) (sym e) ∙ none)

    z-apart : z ≢ Synchronised
    z-apart e = true-false (sym (or-last (is_synchronised x || is_synchronised y)) ∙ ap (λ r. has_synchronised (x ∷ y ∷ r ∷ [])) (sym e) ∙ none)

module _ (e : Entry) (a : Replicas) (gateway : 0 < e.caller.0) (some : has_synchronised (states a) ≡ true) where
  -- where no node is synchronised behind the crash, none is behind the entry
  crashed-quiet : has_synchronised (crashed_behind e a 0 a.first.state ∷ crashed_behind e a 1 a.second.state ∷ crashed_behind e a 2 a.third.state ∷ []) ≡ false → has_synchronised (nodes_behind e a) ≡ false
  crashed-quiet none = elim (joins-or-spares e.event (states a)) [
    | inl alone ↦
        ap has_synchronised (behind-each e a gateway
        ∙ ap (λ j. joined_at (a.length + 1) j 0 (crashed_behind e a 0 a.first.state) ∷ joined_at (a.length + 1) j 1 (crashed_behind e a 1 a.second.state) ∷ joined_at (a.length + 1) j 2 (crashed_behind e a 2 a.third.state) ∷ []) alone)
        ∙ none
    | inr spared ↦ absurd (some-stays a.first.state a.second.state a.third.state _ _ _
        (λ s. crashed-stays e.event a.length 0 a.first.state s (spared 0)) (λ s. crashed-stays e.event a.length 1 a.second.state s (spared 1)) (λ s. crashed-stays e.event a.length 2 a.third.state s (spared 2)) some none)
  ]

  pub none-left-crashed : (w : List (List ℕ)) (l : List ℕ) (b c : Replicas) → length w ≤ 1 → CameSoFar w e l a b → Gone b c → NoneLeft e a c
  none-left-crashed w l b c short p q =
      none-left e w (crashed_behind e a 0 a.first.state) (crashed_behind e a 1 a.second.state) (crashed_behind e a 2 a.third.state) l a b c short
      (crashed-stays e.event a.length 0 a.first.state) (crashed-stays e.event a.length 1 a.second.state) (crashed-stays e.event a.length 2 a.third.state) crashed-quiet p q

-- ---- the put

was-put : (e : Entry) (l m : List ℕ) (a b c : Replicas) → CameSoFar [] e l a b → WasPutToAll (spelling e) m b c → CameSoFar (spelling e ∷ []) e (l ++ m) a c
was-put e l m a b c p q =
    went-on (λ s. s) (λ s. s) (λ s. s) tame-none tame-none tame-none [] (spelling e ∷ []) (crashed_behind e a 0 a.first.state) (crashed_behind e a 1 a.second.state) (crashed_behind e a 2 a.third.state) l m a b c p q

-- all parts until then
pub came-so-far : (e : Entry) (l rest m : List ℕ) (a b c d : Replicas) → CaughtAll e.event l a b → WasCrashed e.event l rest b c → WasPutToAll (spelling e) m c d → CameSoFar (spelling e ∷ []) e (rest ++ m) a d
came-so-far e l rest m a b c d caught crashed put = was-put e rest m a c d (crashed a _ _ _ caught) put

-- ---- the rejoin

-- a lost node is lost behind catch-up and crash
is-lost : (s : NodeState) → is_lost s ≡ true → s ≡ Lost
is-lost Lost e = refl
is-lost (Joining n) e = absurd (cc)
is-lost Synchronised e = absurd (cc)

lost-behind : (e : Entry) (m : Replicas) (k : ℕ) (s : NodeState) → is_lost s ≡ true → crashed_behind e m k s ≡ Lost
lost-behind e m k s l =
    let t : Tame (caught_at e.event m.length k) = caught_at-tame e.event m.length k in
    ap (crashed_at e.event k) (ap (caught_at e.event m.length k) (is-lost s l) ∙ t.lost) ∙ both (crashes e.event k)
  where
    both : (b : Bool) → cond b Lost Lost ≡ Lost
    both true = refl
    both false = refl

-- a node that was to be lost is
lost-still : (n : ℕ) (x : NodeState) (a b : Replica) → x ≡ Lost → NodeWent n x a b → b.state ≡ Lost
lost-still n x a b e w = w.state_is ∙ ap (lost_by n) e ∙ lost_by-lost n

module _ (e : Entry) (w : List (List ℕ)) (l : List ℕ) (a b : Replicas) (p : CameSoFar w e l a b) where
  -- the node that joins is lost yet
  joins-late : (j : ℕ) → joins e.event (states a) ≡ Some j → j < 3 → (node_at j b).state ≡ Lost
  joins-late zero i h = lost-still (times 0 l) (crashed_behind e a 0 a.first.state) a.first b.first (lost-behind e a 0 a.first.state (joins-lost e.event (states a) 0 i)) p.first
  joins-late (suc zero) i h = lost-still (times 1 l) (crashed_behind e a 1 a.second.state) a.second b.second (lost-behind e a 1 a.second.state (joins-lost e.event (states a) 1 i)) p.second
  joins-late (suc (suc zero)) i h = lost-still (times 2 l) (crashed_behind e a 2 a.third.state) a.third b.third (lost-behind e a 2 a.third.state (joins-lost e.event (states a) 2 i)) p.third
  joins-late (suc (suc (suc k))) i h = absurd (omega (arith, h))

  pub rejoin-lost : (node : Option ℕ) → node ≡ joins e.event (states a) → IfSome node (λ k. k < 3 → (node_at k b).state ≡ Lost)
  rejoin-lost None i = tt
  rejoin-lost (Some j) i = joins-late j (sym i)

  -- and no more than two others are up
  two-up : (j : ℕ) → joins e.event (states a) ≡ Some j → j < 3 → length l + up (states b) ≤ 2
  two-up j i h = by-node j i h
    where
      sum : length l + up (states b) ≡ up_in (crashed_behind e a 0 a.first.state) + up_in (crashed_behind e a 1 a.second.state) + up_in (crashed_behind e a 2 a.third.state)
      sum = went-up w _ _ _ l a b p

      by-node : (j : ℕ) → joins e.event (states a) ≡ Some j → j < 3 → length l + up (states b) ≤ 2
      by-node zero i h =
          let none : up_in (crashed_behind e a 0 a.first.state) ≡ 0 = ap (λ s. up_in s) (lost-behind e a 0 a.first.state (joins-lost e.event (states a) 0 i)) in
          let y : up_in (crashed_behind e a 1 a.second.state) ≤ 1 = up_in-one (crashed_behind e a 1 a.second.state) in
          let z : up_in (crashed_behind e a 2 a.third.state) ≤ 1 = up_in-one (crashed_behind e a 2 a.third.state) in
          omega (arith, sum, none, y, z)
      by-node (suc zero) i h =
          let none : up_in (crashed_behind e a 1 a.second.state) ≡ 0 = ap (λ s. up_in s) (lost-behind e a 1 a.second.state (joins-lost e.event (states a) 1 i)) in
          let x : up_in (crashed_behind e a 0 a.first.state) ≤ 1 = up_in-one (crashed_behind e a 0 a.first.state) in
          let z : up_in (crashed_behind e a 2 a.third.state) ≤ 1 = up_in-one (crashed_behind e a 2 a.third.state) in
          omega (arith, sum, none, x, z)
      by-node (suc (suc zero)) i h =
          let none : up_in (crashed_behind e a 2 a.third.state) ≡ 0 = ap (λ s. up_in s) (lost-behind e a 2 a.third.state (joins-lost e.event (states a) 2 i)) in
          let x : up_in (crashed_behind e a 0 a.first.state) ≤ 1 = up_in-one (crashed_behind e a 0 a.first.state) in
          let y : up_in (crashed_behind e a 1 a.second.state) ≤ 1 = up_in-one (crashed_behind e a 1 a.second.state) in
          omega (arith, sum, none, x, y)
      by-node (suc (suc (suc k))) i h = absurd (omega (arith, h))

  pub rejoin-three : (node : Option ℕ) → node ≡ joins e.event (states a) → IfSome node (λ k. k < 3 → length l + up (states b) ≤ 2)
  rejoin-three None i = tt
  rejoin-three (Some j) i = two-up j (sym i)

pub rejoin-place : (e : Entry) (l : List ℕ) (a b : Replicas) → HasTurnRoom e.event a → CameSoFar (spelling e ∷ []) e l a b → HasPlace 0 b
rejoin-place e l a b room p = record {
  capacity = room.capacity;
  roomy = roomy-kept room.capacity a b p.keeps room.roomy;
  fits =
      let long : b.length ≡ a.length + length (spelling e ∷ []) = p.entries in
      let fits : a.length + 1 + (up (states a) + asks e.event) ≤ room.capacity = room.fits in
      omega (arith, long, fits);
}

-- a node that was to be lost, and then to come to another state
lost-then : (n m : ℕ) (x s : NodeState) (a b c : Replica) → x ≡ Lost → NodeWent n x a b → NodeWent m s b c → NodeWent (n + m) s a c
lost-then n m x s a b c e v w =
    let none : n ≤ up_in x = v.once in
    let zero-up : up_in x ≡ 0 = ap (λ t. up_in t) e in
    let same : m ≡ n + m = omega (arith, none, zero-up) in
    record {
      state_is = w.state_is ∙ ap (λ k. lost_by k s) same;
      once = let once : m ≤ up_in s = w.once in omega (arith, none, zero-up, once);
      grew = grew-then n m a.faults b.faults c.faults v.grew w.grew;
    }

-- two parts, whatever became of each node
pub both : (w v : List (List ℕ)) (x y z x' y' z' x'' y'' z'' : NodeState) (l m : List ℕ) (a b c : Replicas) → Went w x y z l a b → Went v x' y' z' m b c → NodeWent (times 0 l + times 0 m) x'' a.first c.first → NodeWent (times 1 l + times 1 m) y'' a.second c.second → NodeWent (times 2 l + times 2 m) z'' a.third c.third → Went (w ++ v) x'' y'' z'' (l ++ m) a c
both w v x y z x' y' z' x'' y'' z'' l m a b c p q i j k = record {
  mirrors = λ journal held. subst (λ j. Mirrors j c) (append_assoc journal w v) (q.mirrors (journal ++ w) (p.mirrors journal held));
  first = subst (λ n. NodeWent n x'' a.first c.first) (sym (times-append 0 l m)) i;
  second = subst (λ n. NodeWent n y'' a.second c.second) (sym (times-append 1 l m)) j;
  third = subst (λ n. NodeWent n z'' a.third c.third) (sym (times-append 2 l m)) k;
  nodes = nodes-append l m p.nodes q.nodes;
  keeps = keeps-all-then a b c (went-longer v x' y' z' m b c q) p.keeps q.keeps;
  entries =
      let e : b.length ≡ a.length + length w = p.entries in
      let d : c.length ≡ b.length + length v = q.entries in
      let sum : length (w ++ v) ≡ length w + length v = length-append w v in
      omega (arith, e, d, sum);
}

-- a node that does not join is as it was
not-joined : (entries j k : ℕ) (s : NodeState) → (j == k) ≡ false → s ≡ joined_at entries (Some j) k s
not-joined entries j k s e = ap (λ b. cond b (caught 64 entries (Joining 0)) s) (sym e)

module _ (e : Entry) (l m : List ℕ) (a b c : Replicas) (p : CameSoFar (spelling e ∷ []) e l a b) where
  long-one : b.length ≡ a.length + 1
  long-one = let long : b.length ≡ a.length + length (spelling e ∷ []) = p.entries in omega (arith, long)

  -- the states by what joins
  abbrev JoinedBy : Option ℕ → Type 0
  JoinedBy j =
      Went (spelling e ∷ []) (joined_at (a.length + 1) j 0 (crashed_behind e a 0 a.first.state)) (joined_at (a.length + 1) j 1 (crashed_behind e a 1 a.second.state))
      (joined_at (a.length + 1) j 2 (crashed_behind e a 2 a.third.state)) (l ++ m) a c

  joined-by : (j : Option ℕ) → joins e.event (states a) ≡ j → IfSome j (λ k. k < 3) → Rejoined j m b c → JoinedBy j
  joined-by None i h r =
      subst (λ d. Went (spelling e ∷ []) (crashed_behind e a 0 a.first.state) (crashed_behind e a 1 a.second.state) (crashed_behind e a 2 a.third.state) (l ++ m) a d) (sym r.1)
      (subst (λ xs. Went (spelling e ∷ []) (crashed_behind e a 0 a.first.state) (crashed_behind e a 1 a.second.state) (crashed_behind e a 2 a.third.state) xs a b)
      (sym (append-nil l) ∙ ap (λ xs. l ++ xs) (sym r.0)) p)
  joined-by (Some zero) i h r =
      let g : NodeState = caught 64 (a.length + 1) (Joining 0) in
      let q : Went [] g b.second.state b.third.state m b c = subst (λ n. Went [] (caught 64 n (Joining 0)) b.second.state b.third.state m b c) long-one r in
      both (spelling e ∷ []) [] (crashed_behind e a 0 a.first.state) (crashed_behind e a 1 a.second.state) (crashed_behind e a 2 a.third.state) g b.second.state b.third.state
      g (crashed_behind e a 1 a.second.state) (crashed_behind e a 2 a.third.state) l m a b c p q
      (lost-then (times 0 l) (times 0 m) (crashed_behind e a 0 a.first.state) g a.first b.first c.first (lost-behind e a 0 a.first.state (joins-lost e.event (states a) 0 i)) p.first q.first)
      (went-then (λ s. s) tame-none (times 1 l) (times 1 m) (crashed_behind e a 1 a.second.state) a.second b.second c.second p.second q.second)
      (went-then (λ s. s) tame-none (times 2 l) (times 2 m) (crashed_behind e a 2 a.third.state) a.third b.third c.third p.third q.third)
  joined-by (Some (suc zero)) i h r =
      let g : NodeState = caught 64 (a.length + 1) (Joining 0) in
      let q : Went [] b.first.state g b.third.state m b c = subst (λ n. Went [] b.first.state (caught 64 n (Joining 0)) b.third.state m b c) long-one r in
      both (spelling e ∷ []) [] (crashed_behind e a 0 a.first.state) (crashed_behind e a 1 a.second.state) (crashed_behind e a 2 a.third.state) b.first.state g b.third.state
      (crashed_behind e a 0 a.first.state) g (crashed_behind e a 2 a.third.state) l m a b c p q
      (went-then (λ s. s) tame-none (times 0 l) (times 0 m) (crashed_behind e a 0 a.first.state) a.first b.first c.first p.first q.first)
      (lost-then (times 1 l) (times 1 m) (crashed_behind e a 1 a.second.state) g a.second b.second c.second (lost-behind e a 1 a.second.state (joins-lost e.event (states a) 1 i)) p.second q.second)
      (went-then (λ s. s) tame-none (times 2 l) (times 2 m) (crashed_behind e a 2 a.third.state) a.third b.third c.third p.third q.third)
  joined-by (Some (suc (suc zero))) i h r =
      let g : NodeState = caught 64 (a.length + 1) (Joining 0) in
      let q : Went [] b.first.state b.second.state g m b c = subst (λ n. Went [] b.first.state b.second.state (caught 64 n (Joining 0)) m b c) long-one r in
      both (spelling e ∷ []) [] (crashed_behind e a 0 a.first.state) (crashed_behind e a 1 a.second.state) (crashed_behind e a 2 a.third.state) b.first.state b.second.state g
      (crashed_behind e a 0 a.first.state) (crashed_behind e a 1 a.second.state) g l m a b c p q
      (went-then (λ s. s) tame-none (times 0 l) (times 0 m) (crashed_behind e a 0 a.first.state) a.first b.first c.first p.first q.first)
      (went-then (λ s. s) tame-none (times 1 l) (times 1 m) (crashed_behind e a 1 a.second.state) a.second b.second c.second p.second q.second)
      (lost-then (times 2 l) (times 2 m) (crashed_behind e a 2 a.third.state) g a.third b.third c.third (lost-behind e a 2 a.third.state (joins-lost e.event (states a) 2 i)) p.third q.third)
  joined-by (Some (suc (suc (suc k)))) i h r = let small : suc (suc (suc k)) < 3 = h in absurd (omega (arith, small))

  -- the entry is written
  pub event-written : (j : Option ℕ) → j ≡ joins e.event (states a) → IfSome j (λ k. k < 3) → Rejoined j m b c → EventWritten e (l ++ m) a c
  event-written j i h r = joined-by (joins e.event (states a)) refl (subst (λ o. IfSome o (λ k. k < 3)) i h) (subst (λ o. Rejoined o m b c) i r)
