-- The boundaries that are left of a day, and the one that is next.
use Rattle.std.proofs.Common.{◌≡◌, ℕ, ◌-◌, ◌<◌, ◌≤◌, Bool, true, false, cond, eqb, ltb, leb, ◌&&◌, Less, Equal, Greater, List, [], ◌∷◌, length, filter, Option, None, Some, refl, sym, ap, subst, ◌∙◌, arith, ◌⊎◌, inl, inr}
use Rattle.std.specs.List.{AllByRecursion, find}
use Rattle.std.specs.Option.{IfSome, option_or}
use Rattle.std.specs.Ordering.{is_le, nat_cmp}
use Rattle.std.proofs.lemmas.Bool.{and_parts, cases_lt, eqb-false, true≢false, le-leb, le-ltb, lt-leb, lt-ltb, ltb-false, ltb-true, leb-true}
use Rattle.book_law.proofs.Pairs.{Pairs, pairs-from_AllPairs, weaken}
use Rattle.session_phase.specs.Sessions.{AreSessions, IsSession, boundaries, next_boundary, session_boundaries}
use Rattle.session_phase.specs.declared.session.Boundary.{Boundary}
use Rattle.session_phase.specs.declared.session.Boundary.TheVariants.{Accept, Begin, Finish}
use Rattle.session_phase.specs.declared.session.Session.{Session}
use Rattle.session_phase.proofs.SessionLemmas.{boundaries-rise, next_boundary-cons}
use Rattle.issue_book.specs.State.{Terms}
use Rattle.issue_machine.specs.Advancing.{IsFirstBoundary, IsNoBoundary}
use Rattle.issue_machine.specs.Clock.{boundaries_in}
use Rattle.issue_machine.proofs.OrderLemmas.{find-passes}

-- ---- moments compared

le-is : (a b : ℕ) → a ≤ b → is_le (nat_cmp a b) ≡ true
le-is a b h = step (ltb a b) (eqb a b) refl refl
  where
    step : (x y : Bool) → ltb a b ≡ x → eqb a b ≡ y → is_le (cond x Less (cond y Equal Greater)) ≡ true
    step true y e f = refl
    step false true e f = refl
    step false false e f = absurd (eqb-false a b f (omega (arith, ltb-false a b e)))

pub gt-from : (a b : ℕ) → is_le (nat_cmp a b) ≡ false → b < a
gt-from a b e = elim (cases_lt b a) [ inl h ↦ h | inr h ↦ absurd (true≢false (sym (le-is a b h) ∙ e)) ]

-- ---- boundaries between two moments

abbrev Bounds : Type 0
Bounds = List (ℕ × Boundary)

abbrev is_in : ℕ → ℕ → ℕ × Boundary → Bool
is_in now to b = ltb now b.0 && leb b.0 to

abbrev is_later : ℕ → ℕ × Boundary → Bool
is_later now b = ltb now b.0

abbrev Rises : ℕ × Boundary → ℕ × Boundary → Type 0
Rises a b = a.0 < b.0

-- a boundary that is not later than the first moment, or later than the last, is not among them
is-out : (now to : ℕ) (b : ℕ × Boundary) → (b.0 ≤ now) ⊎ (to < b.0) → is_in now to b ≡ false
is-out now to b (inl h) = rw (le-ltb now b.0 h) refl
is-out now to b (inr h) = step (ltb now b.0)
  where
    step : (x : Bool) → (x && leb b.0 to) ≡ false
    step false = refl
    step true = lt-leb b.0 to h

is-within : (now to : ℕ) (b : ℕ × Boundary) → now < b.0 → b.0 ≤ to → is_in now to b ≡ true
is-within now to b h k = rw (lt-ltb now b.0 h, le-leb b.0 to k) refl

-- the first of a list is passed over or kept
filter-no : (now to : ℕ) (b : ℕ × Boundary) (bs : Bounds) → is_in now to b ≡ false → filter (is_in now to) (b ∷ bs) ≡ filter (is_in now to) bs
filter-no now to b bs e = rw e refl

filter-yes : (now to : ℕ) (b : ℕ × Boundary) (bs : Bounds) → is_in now to b ≡ true → filter (is_in now to) (b ∷ bs) ≡ b ∷ filter (is_in now to) bs
filter-yes now to b bs e = rw e refl

find-no : (now : ℕ) (b : ℕ × Boundary) (bs : Bounds) → b.0 ≤ now → find (is_later now) (b ∷ bs) ≡ find (is_later now) bs
find-no now b bs h = rw (le-ltb now b.0 h) refl

find-yes : (now : ℕ) (b : ℕ × Boundary) (bs : Bounds) → now < b.0 → find (is_later now) (b ∷ bs) ≡ Some b
find-yes now b bs h = rw (lt-ltb now b.0 h) refl

-- later boundaries than these are none of those up to a moment
none-in : (now to : ℕ) (bs : Bounds) → AllByRecursion (λ b. to < b.0) bs → filter (is_in now to) bs ≡ []
none-in now to [] late = refl
none-in now to (b ∷ bs) late = filter-no now to b bs (is-out now to b (inr late.0)) ∙ none-in now to bs late.1

-- and the boundaries of both moments are the same where all are later than both
same-in : (now other to : ℕ) (bs : Bounds) → AllByRecursion (λ b. now < b.0) bs → AllByRecursion (λ b. other < b.0) bs → filter (is_in now to) bs ≡ filter (is_in other to) bs
same-in now other to [] late more = refl
same-in now other to (b ∷ bs) late more =
    let first : is_in now to b ≡ is_in other to b = rw (lt-ltb now b.0 late.0, lt-ltb other b.0 more.0) refl in
    let rest = same-in now other to bs late.1 more.1 in
    ap (λ (x : Bool). cond x (b ∷ filter (is_in now to) bs) (filter (is_in now to) bs)) first ∙ ap (λ (x : Bounds). cond (is_in other to b) (b ∷ x) x) rest

later-find : (now : ℕ) (bs : Bounds) → AllByRecursion (λ b. now < b.0) bs → (other : ℕ) → AllByRecursion (λ b. other < b.0) bs → find (is_later now) bs ≡ find (is_later other) bs
later-find now [] late other more = refl
later-find now (b ∷ bs) late other more = find-yes now b bs late.0 ∙ sym (find-yes other b bs more.0)

-- what the boundary that is next says of the boundaries up to a moment: nothing where it is later
abbrev IsNone : ℕ → ℕ → Bounds → Type 0
IsNone now to bs = (filter (is_in now to) bs ≡ []) × (find (is_later to) bs ≡ find (is_later now) bs)

none-up-to : (now to : ℕ) (bs : Bounds) → now ≤ to → Pairs Rises bs → IfSome (find (is_later now) bs) (λ b. to < b.0) → IsNone now to bs
none-up-to now to [] upto rise beyond = (refl, refl)
none-up-to now to (b ∷ bs) upto rise beyond = step (none-up-to now to bs upto rise.1) (ltb now b.0) refl beyond
  where
    step : (IfSome (find (is_later now) bs) (λ c. to < c.0) → IsNone now to bs) → (x : Bool) → ltb now b.0 ≡ x → IfSome (cond x (Some b) (find (is_later now) bs)) (λ c. to < c.0) → IsNone now to (b ∷ bs)
    step rest true e h =
        let later : AllByRecursion (λ c. to < c.0) bs = weaken (λ c. b.0 < c.0) (λ c. to < c.0) (λ c k. omega (arith, h, k)) bs rise.0 in
        (filter-no now to b bs (is-out now to b (inr h)) ∙ none-in now to bs later, find-yes to b bs h ∙ sym (find-yes now b bs (ltb-true now b.0 e)))
    step rest false e h =
        let early : b.0 ≤ now = ltb-false now b.0 e in
        let r = rest h in
        (filter-no now to b bs (is-out now to b (inl early)) ∙ r.0, find-no to b bs (omega (arith, early)) ∙ r.1 ∙ sym (find-no now b bs early))

-- and it is their first where it is not
abbrev IsFirstOf : ℕ → ℕ → ℕ × Boundary → Bounds → Type 0
IsFirstOf now to b bs = filter (is_in now to) bs ≡ b ∷ filter (is_in b.0 to) bs

first-up-to : (now to : ℕ) (b : ℕ × Boundary) (bs : Bounds) → Pairs Rises bs → find (is_later now) bs ≡ Some b → b.0 ≤ to → IsFirstOf now to b bs
first-up-to now to b [] rise e upto = absurd cc
first-up-to now to b (c ∷ bs) rise e upto = step (λ f. first-up-to now to b bs rise.1 f upto) (ltb now c.0) refl e
  where
    step : (find (is_later now) bs ≡ Some b → IsFirstOf now to b bs) → (x : Bool) → ltb now c.0 ≡ x → cond x (Some c) (find (is_later now) bs) ≡ Some b → IsFirstOf now to b (c ∷ bs)
    step rest true t f =
        let here : c ≡ b = cc in
        let after : now < c.0 = ltb-true now c.0 t in
        let up : c.0 ≤ to = subst (λ (x : ℕ × Boundary). x.0 ≤ to) (sym here) upto in
        let others : filter (is_in now to) bs ≡ filter (is_in c.0 to) bs =
        same-in now c.0 to bs (weaken (λ d. c.0 < d.0) (λ d. now < d.0) (λ d k. omega (arith, after, k)) bs rise.0) rise.0 in
        subst (λ (x : ℕ × Boundary). IsFirstOf now to x (c ∷ bs)) here
        (filter-yes now to c bs (is-within now to c after up) ∙ ap (λ (x : Bounds). c ∷ x) (others ∙ sym (filter-no c.0 to c bs (is-out c.0 to c (inl (omega arith))))))
    step rest false t f =
        let early : c.0 ≤ now = ltb-false now c.0 t in
        let late : now < b.0 = ltb-true now b.0 (find-passes (is_later now) bs b f) in
        filter-no now to c bs (is-out now to c (inl early)) ∙ rest f ∙ ap (λ (x : Bounds). b ∷ x) (sym (filter-no b.0 to c bs (is-out b.0 to c (inl (omega (arith, early, late))))))

-- no two boundaries are at one moment
few-in : (now to : ℕ) (bs : Bounds) → Pairs Rises bs → length (filter (is_in now to) bs) ≤ to - now
few-in now to [] rise = omega arith
few-in now to (b ∷ bs) rise = step (few-in now to bs rise.1) (few-in b.0 to bs rise.1) (is_in now to b) refl
  where
    step : length (filter (is_in now to) bs) ≤ to - now → length (filter (is_in b.0 to) bs) ≤ to - b.0 → (x : Bool) → is_in now to b ≡ x → length (cond x (b ∷ filter (is_in now to) bs) (filter (is_in now to) bs)) ≤ to - now
    step rest behind false e = rest
    step rest behind true e =
        let parts = and_parts (ltb now b.0) (leb b.0 to) e in
        let after : now < b.0 = ltb-true now b.0 parts.0 in
        let up : b.0 ≤ to = leb-true b.0 to parts.1 in
        let same : filter (is_in now to) bs ≡ filter (is_in b.0 to) bs = same-in now b.0 to bs (weaken (λ d. b.0 < d.0) (λ d. now < d.0) (λ d k. omega (arith, after, k)) bs rise.0) rise.0 in
        let count : length (filter (is_in now to) bs) ≡ length (filter (is_in b.0 to) bs) = ap length same in
        omega (arith, after, up, count, behind)

-- ---- the boundaries of a day

day-rises : (t : Terms) → AreSessions t.sessions → Pairs Rises (boundaries t.sessions)
day-rises t are = pairs-from_AllPairs Rises (boundaries t.sessions) (boundaries-rise t.sessions are)

-- no boundary is due up to a moment
pub no-boundary : (t : Terms) (passed to : ℕ) → AreSessions t.sessions → passed ≤ to → IfSome (next_boundary t.sessions passed) (λ b. to < b.0) → IsNoBoundary t passed to
unfolding next_boundary
no-boundary t passed to are upto beyond =
    let none : IsNone passed to (boundaries t.sessions) = none-up-to passed to (boundaries t.sessions) upto (day-rises t are) beyond in
    record { none_in = none.0; same = none.1; beyond = beyond }

-- this is the first
pub first-boundary : (t : Terms) (passed to : ℕ) (b : ℕ × Boundary) → AreSessions t.sessions → next_boundary t.sessions passed ≡ Some b → b.0 ≤ to → IsFirstBoundary t passed to b
unfolding next_boundary
first-boundary t passed to b are next upto =
    record { first = first-up-to passed to b (boundaries t.sessions) (day-rises t are) next upto; next = next; upto = upto }

pub few-boundaries : (t : Terms) (passed to : ℕ) → AreSessions t.sessions → length (boundaries_in t passed to) ≤ to - passed
few-boundaries t passed to are = few-in passed to (boundaries t.sessions) (day-rises t are)

-- the next boundary is later
pub next-later : (sessions : List Session) (now : ℕ) (b : ℕ × Boundary) → next_boundary sessions now ≡ Some b → now < b.0
unfolding next_boundary
next-later sessions now b e = ltb-true now b.0 (find-passes (is_later now) (boundaries sessions) b e)

-- ---- behind a begin comes a finish

abbrev Awaits : List Session → ℕ → Type 0
Awaits sessions at = (finish : ℕ) × (next_boundary sessions at ≡ Some (finish, Finish))

-- of one session
own-finish : (s : Session) → IsSession s → find (is_later s.begin) (session_boundaries s) ≡ Some (s.finish, Finish)
own-finish s is = rw (le-ltb s.begin s.accept (omega (arith, is.collects)), le-ltb s.begin s.begin (omega arith), lt-ltb s.begin s.finish is.trades) refl

own-over : (s : Session) (at : ℕ) → IsSession s → s.finish ≤ at → find (is_later at) (session_boundaries s) ≡ None
own-over s at is over =
    rw (le-ltb at s.accept (omega (arith, is.collects, is.trades, over)), le-ltb at s.begin (omega (arith, is.trades, over)), le-ltb at s.finish over) refl

pub finish-behind : (sessions : List Session) (now at : ℕ) → AllByRecursion IsSession sessions → next_boundary sessions now ≡ Some (at, Begin) → Awaits sessions at
unfolding next_boundary
finish-behind [] now at are e = absurd cc
finish-behind (s ∷ rest) now at are e =
    step (λ f. finish-behind rest now at are.1 f) (ltb now s.accept) (ltb now s.begin) (ltb now s.finish) refl refl refl (sym (next_boundary-cons s rest now) ∙ e)
  where
    step : (next_boundary rest now ≡ Some (at, Begin) → Awaits rest at) → (x y z : Bool) → ltb now s.accept ≡ x → ltb now s.begin ≡ y → ltb now s.finish ≡ z
        → option_or (cond x (Some (s.accept, Accept)) (cond y (Some (s.begin, Begin)) (cond z (Some (s.finish, Finish)) None))) (next_boundary rest now) ≡ Some (at, Begin)
        → Awaits (s ∷ rest) at
    step rest-of true y z e f g h =
        let here : (s.accept, Accept) ≡ (at, Begin) = cc in
        let kind : Accept ≡ Begin = ap (λ (b : ℕ × Boundary). b.1) here in
        absurd cc
    step rest-of false true z e f g h =
        let here : (s.begin, Begin) ≡ (at, Begin) = cc in
        let same : s.begin ≡ at = ap (λ (b : ℕ × Boundary). b.0) here in
        subst (Awaits (s ∷ rest)) same
        (s.finish, next_boundary-cons s rest s.begin ∙ ap (λ (o : Option (ℕ × Boundary)). option_or o (next_boundary rest s.begin)) (own-finish s are.0))
    step rest-of false false true e f g h =
        let here : (s.finish, Finish) ≡ (at, Begin) = cc in
        let kind : Finish ≡ Begin = ap (λ (b : ℕ × Boundary). b.1) here in
        absurd cc
    step rest-of false false false e f g h =
        let more : Awaits rest at = rest-of h in
        let late : now < at = next-later rest now (at, Begin) h in
        let over : s.finish ≤ at = omega (arith, ltb-false now s.finish g, late) in
        (more.0, next_boundary-cons s rest at ∙ ap (λ (o : Option (ℕ × Boundary)). option_or o (next_boundary rest at)) (own-over s at are.0 over) ∙ more.1)

-- the clock does not stand behind the next boundary
pub now-ahead : (sessions : List Session) (now : ℕ) → IfSome (next_boundary sessions now) (λ b. now ≤ b.0)
now-ahead sessions now = step (next_boundary sessions now) refl
  where
    step : (o : Option (ℕ × Boundary)) → next_boundary sessions now ≡ o → IfSome o (λ b. now ≤ b.0)
    step None e = tt
    step (Some b) e = let late = next-later sessions now b e in omega (arith, late)
