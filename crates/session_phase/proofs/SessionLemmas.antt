-- What the sessions that are left say, and that boundaries rise.
use Rattle.std.proofs.Common.{◌≡◌, ℕ, ◌+◌, ◌<◌, ◌≤◌, Bool, true, false, List, [], ◌∷◌, ◌++◌, length, get_or, drop, suc, Option, Some, None, sym, subst, ap, ◌∙◌, add-one, arith}
use Rattle.std.proofs.Math.Seq.{drop-cons}
use Rattle.std.proofs.lemmas.List.{drop_all}
use Rattle.std.specs.List.{find, All, AllPairs}
use Rattle.std.specs.Option.{option_or, option_map_or}
use Rattle.std.proofs.lemmas.Bool.{cond-true, cond-false}
use Rattle.std.proofs.lemmas.List.Folds.{find-append}
use Rattle.std.proofs.lemmas.List.Concat.{flat_map-cons}
use Rattle.std.proofs.lemmas.List.Elements.{All-append, All-cons, All-nil, All-head, All-same, All-tail, All-weaker}
use Rattle.std.proofs.lemmas.List.Kept.{AllPairs-cons}
use Rattle.std.specs.Bool.{nat_lt}
use Rattle.session_phase.specs.Sessions.{AreSessions, IsSession, boundaries, is_open, next_boundary, phase_in, phase_of, session_boundaries}
use Rattle.mkt_base.specs.declared.event.Phase.TheVariants.{Idle}
use Rattle.session_phase.specs.declared.session.Session.{Session}
use Rattle.session_phase.specs.declared.session.Boundary.{Boundary}
use Rattle.session_phase.specs.declared.session.Boundary.TheVariants.{Accept, Begin, Finish}

-- the element at i passes, and is the first of those from i on
pub find-drop_yes : {X : Type 0} (p : X → Bool) (xs : List X) (i : ℕ) (d : X) → i < length xs → p (get_or xs i d) ≡ true
    → find p (drop i xs) ≡ Some (get_or xs i d)
find-drop_yes p xs i d inside passes = ap (find p) (drop-cons xs i d inside) ∙ cond-true _ _ _ passes

-- it fails, and the first is among those behind it
pub find-drop_no : {X : Type 0} (p : X → Bool) (xs : List X) (i : ℕ) (d : X) → i < length xs → p (get_or xs i d) ≡ false
    → find p (drop i xs) ≡ find p (drop (i + 1) xs)
find-drop_no p xs i d inside fails = rw add-one (ap (find p) (drop-cons xs i d inside) ∙ cond-false _ _ _ fails)

-- the moment lies within the session at i, and within none before it
pub phase_of-open : (sessions : List Session) (i at : ℕ) (s : Session) → i < length sessions → s ≡ get_or sessions i s
    → find (is_open at) (drop i sessions) ≡ find (is_open at) sessions → is_open at s ≡ true → phase_of sessions at ≡ phase_in at s
unfolding phase_of
phase_of-open sessions i at s inside is left opens =
    let opens' : is_open at (get_or sessions i s) ≡ true = ap (is_open at) (sym is) ∙ opens in
    let found : find (is_open at) sessions ≡ Some s = sym left ∙ find-drop_yes (is_open at) sessions i s inside opens' ∙ ap (λ (x : Session). Some x) (sym is) in
    ap (λ (o : Option Session). option_map_or (phase_in at) o Idle) found

-- it lies within none
pub phase_of-idle : (sessions : List Session) (i at : ℕ) → length sessions ≤ i
    → find (is_open at) (drop i sessions) ≡ find (is_open at) sessions → phase_of sessions at ≡ Idle
unfolding phase_of
phase_of-idle sessions i at all left =
    let none : find (is_open at) sessions ≡ None = sym left ∙ ap (find (is_open at)) (drop_all i sessions all) in
    ap (λ (o : Option Session). option_map_or (phase_in at) o Idle) none

-- the next boundary of a session and of those behind it
pub next_boundary-cons : (s : Session) (rest : List Session) (after : ℕ)
    → next_boundary (s ∷ rest) after ≡ option_or (find (λ due. nat_lt after due.0) (session_boundaries s)) (next_boundary rest after)
unfolding next_boundary
next_boundary-cons s rest after =
    let later : ℕ × Boundary → Bool = λ due. nat_lt after due.0 in
    ap (find later) (flat_map-cons session_boundaries s rest) ∙ find-append later (session_boundaries s) (boundaries rest)

pub next_boundary-drop : (sessions : List Session) (i after : ℕ) (d : Session) → i < length sessions
    → next_boundary (drop i sessions) after
    ≡ option_or (find (λ due. nat_lt after due.0) (session_boundaries (get_or sessions i d))) (next_boundary (drop (i + 1) sessions) after)
next_boundary-drop sessions i after d inside =
    rw add-one (ap (λ left. next_boundary left after) (drop-cons sessions i d inside) ∙ next_boundary-cons (get_or sessions i d) _ after)

-- the session at i has the next boundary
pub next_boundary-here : (sessions : List Session) (i after : ℕ) (s : Session) (due : ℕ × Boundary) → i < length sessions → s ≡ get_or sessions i s
    → next_boundary (drop i sessions) after ≡ next_boundary sessions after → find (λ b. nat_lt after b.0) (session_boundaries s) ≡ Some due
    → next_boundary sessions after ≡ Some due
next_boundary-here sessions i after s due inside is left found =
    let own : Session → Option (ℕ × Boundary) = λ x. find (λ b. nat_lt after b.0) (session_boundaries x) in
    let rest : Option (ℕ × Boundary) = next_boundary (drop (i + 1) sessions) after in
    sym left ∙ next_boundary-drop sessions i after s inside ∙ ap (λ (o : Option (ℕ × Boundary)). option_or o rest) (ap own (sym is) ∙ found)

-- it has none that is later
pub next_boundary-behind : (sessions : List Session) (i after : ℕ) (s : Session) → i < length sessions → s ≡ get_or sessions i s
    → next_boundary (drop i sessions) after ≡ next_boundary sessions after → find (λ b. nat_lt after b.0) (session_boundaries s) ≡ None
    → next_boundary (drop (i + 1) sessions) after ≡ next_boundary sessions after
next_boundary-behind sessions i after s inside is left none =
    let own : Session → Option (ℕ × Boundary) = λ x. find (λ b. nat_lt after b.0) (session_boundaries x) in
    let rest : Option (ℕ × Boundary) = next_boundary (drop (i + 1) sessions) after in
    let same : next_boundary (drop i sessions) after ≡ rest =
    next_boundary-drop sessions i after s inside ∙ ap (λ (o : Option (ℕ × Boundary)). option_or o rest) (ap own (sym is) ∙ none) in
    sym same ∙ left

-- no session is left
pub next_boundary-none : (sessions : List Session) (i after : ℕ) → length sessions ≤ i
    → next_boundary (drop i sessions) after ≡ next_boundary sessions after → next_boundary sessions after ≡ None
unfolding next_boundary
next_boundary-none sessions i after all left = sym left ∙ ap (λ (s : List Session). next_boundary s after) (drop_all i sessions all)

-- the boundary is later than t
abbrev IsLater : ℕ → ℕ × Boundary → Type 0
IsLater t due = t < due.0

-- the last boundaries of a session
abbrev closing : Session → List (ℕ × Boundary)
closing s = (s.finish, Finish) ∷ []

abbrev from_begin : Session → List (ℕ × Boundary)
from_begin s = (s.begin, Begin) ∷ closing s

later-closing : (t : ℕ) (s : Session) → t < s.finish → All (IsLater t) (closing s)
later-closing t s finish = All-cons (IsLater t) (s.finish, Finish) [] finish (All-nil (IsLater t))

later-from_begin : (t : ℕ) (s : Session) → IsSession s → t < s.begin → All (IsLater t) (from_begin s)
later-from_begin t s is begin = All-cons (IsLater t) (s.begin, Begin) (closing s) begin (later-closing t s (omega (arith, is.trades)))

later-boundaries : (t : ℕ) (s : Session) → IsSession s → t < s.accept → All (IsLater t) (session_boundaries s)
later-boundaries t s is accept = All-cons (IsLater t) (s.accept, Accept) (from_begin s) accept (later-from_begin t s is (omega (arith, is.collects)))

behind : (s : Session) (rest : List Session) → AreSessions (s ∷ rest) → AreSessions rest
behind s rest are = record {
  each = All-tail IsSession s rest are.each;
  apart = λ k d h. simp add-one (simp add-one at (are.apart (suc k) d (omega arith)));
}

-- the boundaries of sessions that begin later than t are later than t
later-than : (t : ℕ) (sessions : List Session) → AreSessions sessions → ((d : Session) → 0 < length sessions → t < (get_or sessions 0 d).accept)
    → All (IsLater t) (boundaries sessions)
later-than t [] are first = All-nil (IsLater t)
later-than t (s ∷ rest) are first =
    let is : IsSession s = All-head IsSession s rest are.each in
    let accept : t < s.accept = first s (omega arith) in
    let next : (d : Session) → 0 < length rest → t < (get_or rest 0 d).accept =
    λ d some. omega (arith, is.collects, is.trades, are.apart 0 d (omega arith)) in
    let others : All (IsLater t) (boundaries rest) = later-than t rest (behind s rest are) next in
    All-same (IsLater t) (boundaries (s ∷ rest)) (session_boundaries s ++ boundaries rest) (flat_map-cons session_boundaries s rest)
    (All-append (IsLater t) (session_boundaries s) (boundaries rest) (later-boundaries t s is accept) others)

abbrev IsEarlier : ℕ × Boundary → ℕ × Boundary → Type 0
IsEarlier a b = a.0 < b.0

-- a session's boundaries rise to those of the sessions behind it
rise-with : (s : Session) (others : List (ℕ × Boundary)) → IsSession s → All (IsLater s.finish) others → AllPairs IsEarlier others
    → AllPairs IsEarlier (session_boundaries s ++ others)
rise-with s others is later rise =
    let after_begin : All (IsLater s.begin) others = All-weaker (IsLater s.finish) (IsLater s.begin) (λ due h. omega (arith, is.trades, h)) others later in
    let after_accept : All (IsLater s.accept) others = All-weaker (IsLater s.begin) (IsLater s.accept) (λ due h. omega (arith, is.collects, h)) others after_begin in
    AllPairs-cons IsEarlier (s.accept, Accept) (from_begin s ++ others) (All-append (IsLater s.accept) (from_begin s) others (later-from_begin s.accept s is is.collects) after_accept)
    (AllPairs-cons IsEarlier (s.begin, Begin) (closing s ++ others) (All-append (IsLater s.begin) (closing s) others (later-closing s.begin s is.trades) after_begin)
    (AllPairs-cons IsEarlier (s.finish, Finish) others later rise))

pub boundaries-rise : (sessions : List Session) → AreSessions sessions → AllPairs IsEarlier (boundaries sessions)
boundaries-rise [] are = λ i j d less inside. absurd (omega arith)
boundaries-rise (s ∷ rest) are =
    let later : All (IsLater s.finish) (boundaries rest) = later-than s.finish rest (behind s rest are) (λ d some. are.apart 0 d (omega arith)) in
    let Rise : List (ℕ × Boundary) → Type 0 = AllPairs IsEarlier in
    subst Rise (sym (flat_map-cons session_boundaries s rest)) (rise-with s (boundaries rest) (All-head IsSession s rest are.each) later (boundaries-rise rest (behind s rest are)))
