-- Lemmas on the order of nearness. Each price has a number, its key, and the nearer of two prices is the one with the smaller key.
use Rattle.std.proofs.Common.{◌≡◌, ℕ, ◌+◌, ◌-◌, ◌*◌, zero, suc, length, get_or, Contains, ◌<◌, ◌≤◌, Bool, true, false, cond, ltb, ◌⊎◌, inl, inr, List, [], ◌∷◌, ◌++◌, Some, None, All, find, refl, sym, ap, ◌∙◌, arith}
use Rattle.std.proofs.lemmas.Bool.Decides.{nat_tests, leb_tells}
use Rattle.std.proofs.lemmas.List.Elements.{All-head, All-tail}
use Rattle.mkt_base.specs.Book.{price_at}
use Rattle.mkt_base.specs.declared.units.Price.{Price}
use Rattle.auction_law.specs.Nearness.{is_nearer, insert_near, by_nearness, prices_of}

-- twice the distance, and 1 more for a price above the reference
pub key : ℕ → ℕ → ℕ
key r p = cond (ltb r p) (2 * (p - r) + 1) (2 * (r - p))

pub nearer-true : (r p q : ℕ) → key r p < key r q → is_nearer r p q ≡ true
unfolding key
nearer-true r p q h = grind (arith, nat_tests)

pub nearer-false : (r p q : ℕ) → key r q ≤ key r p → is_nearer r p q ≡ false
unfolding key
nearer-false r p q h = grind (arith, nat_tests)

-- two prices with one key are one price
pub key-same : (r p q : ℕ) → key r p ≡ key r q → p ≡ q
unfolding key
key-same r p q h = grind (arith, nat_tests)

pub lt_or_le : (a b : ℕ) → (a < b) ⊎ (b ≤ a)
lt_or_le a b = elim (leb_tells b a) [ inl h ↦ inr h.1 | inr h ↦ inl h.1 ]

pub insert_yes : (r p q : ℕ) (qs : List ℕ) → key r p < key r q → insert_near r p (q ∷ qs) ≡ p ∷ q ∷ qs
insert_yes r p q qs h = ap (λ b. cond b (p ∷ q ∷ qs) (q ∷ insert_near r p qs)) (nearer-true r p q h)

pub insert_no : (r p q : ℕ) (qs : List ℕ) → key r q ≤ key r p → insert_near r p (q ∷ qs) ≡ q ∷ insert_near r p qs
insert_no r p q qs h = ap (λ b. cond b (p ∷ q ∷ qs) (q ∷ insert_near r p qs)) (nearer-false r p q h)

-- two prices can be put in in either order
pub insert-insert : (r p q : ℕ) (xs : List ℕ) → insert_near r p (insert_near r q xs) ≡ insert_near r q (insert_near r p xs)
insert-insert r p q [] = swap_two
  where
    swap_two : insert_near r p (q ∷ []) ≡ insert_near r q (p ∷ [])
    swap_two = elim (lt_or_le (key r p) (key r q)) [
      | inl h ↦ insert_yes r p q [] h ∙ sym (insert_no r q p [] (omega arith))
      | inr h ↦ elim (lt_or_le (key r q) (key r p)) [
        | inl k ↦ insert_no r p q [] h ∙ sym (insert_yes r q p [] k)
        | inr k ↦ let e : p ≡ q = key-same r p q (omega arith) in ap (λ v. insert_near r v (q ∷ [])) e ∙ ap (λ v. insert_near r q (v ∷ [])) (sym e)
      ]
    ]
insert-insert r p q (x ∷ xs) = elim (lt_or_le (key r p) (key r x)) [
  | inl px ↦ elim (lt_or_le (key r q) (key r x)) [
    | inl qx ↦ ap (insert_near r p) (insert_yes r q x xs qx) ∙ both px qx ∙ sym (ap (insert_near r q) (insert_yes r p x xs px))
    | inr xq ↦ ap (insert_near r p) (insert_no r q x xs xq) ∙ insert_yes r p x (insert_near r q xs) px ∙ sym (ap (λ v. p ∷ v) (insert_no r q x xs xq)) ∙ sym (insert_no r q p (x ∷ xs) (omega arith)) ∙ sym (ap (insert_near r q) (insert_yes r p x xs px))
  ]
  | inr xp ↦ elim (lt_or_le (key r q) (key r x)) [
    | inl qx ↦ ap (insert_near r p) (insert_yes r q x xs qx) ∙ insert_no r p q (x ∷ xs) (omega arith) ∙ ap (λ v. q ∷ v) (insert_no r p x xs xp) ∙ sym (insert_yes r q x (insert_near r p xs) qx) ∙ sym (ap (insert_near r q) (insert_no r p x xs xp))
    | inr xq ↦ ap (insert_near r p) (insert_no r q x xs xq) ∙ insert_no r p x (insert_near r q xs) xp ∙ ap (λ v. x ∷ v) (insert-insert r p q xs) ∙ sym (insert_no r q x (insert_near r p xs) xq) ∙ sym (ap (insert_near r q) (insert_no r p x xs xp))
  ]
]
  where
    both : key r p < key r x → key r q < key r x → insert_near r p (q ∷ x ∷ xs) ≡ insert_near r q (p ∷ x ∷ xs)
    both px qx = elim (lt_or_le (key r p) (key r q)) [
      | inl h ↦ insert_yes r p q (x ∷ xs) h ∙ ap (λ v. p ∷ v) (sym (insert_yes r q x xs qx)) ∙ sym (insert_no r q p (x ∷ xs) (omega arith))
      | inr h ↦ elim (lt_or_le (key r q) (key r p)) [
        | inl k ↦ insert_no r p q (x ∷ xs) h ∙ ap (λ v. q ∷ v) (insert_yes r p x xs px) ∙ sym (insert_yes r q p (x ∷ xs) k)
        | inr k ↦ let e : p ≡ q = key-same r p q (omega arith) in ap (λ v. insert_near r v (q ∷ x ∷ xs)) e ∙ ap (λ v. insert_near r q (v ∷ x ∷ xs)) (sym e)
      ]
    ]

-- a price that is nearer than all others comes first
pub nearest_first : (r p : ℕ) (xs : List ℕ) → All (λ q. key r p < key r q) xs → insert_near r p (by_nearness r xs) ≡ p ∷ by_nearness r xs
nearest_first r p [] h = refl
nearest_first r p (x ∷ xs) h =
    insert-insert r p x (by_nearness r xs)
    ∙ ap (insert_near r x) (nearest_first r p xs (All-tail (λ q. key r p < key r q) x xs h))
    ∙ insert_no r x p (by_nearness r xs) (let k : key r p < key r x = All-head (λ q. key r p < key r q) x xs h in omega arith)

-- also where it stands among them
pub nearest_of : (r p : ℕ) (xs ys : List ℕ) → All (λ q. key r p < key r q) xs → All (λ q. key r p < key r q) ys → by_nearness r (xs ++ p ∷ ys) ≡ p ∷ by_nearness r (xs ++ ys)
nearest_of r p [] ys h k = nearest_first r p ys k
nearest_of r p (x ∷ xs) ys h k =
    ap (insert_near r x) (nearest_of r p xs ys (All-tail (λ q. key r p < key r q) x xs h) k)
    ∙ insert_no r x p (by_nearness r (xs ++ ys)) (let l : key r p < key r x = All-head (λ q. key r p < key r q) x xs h in omega arith)

-- each price has at least this key
pub AtLeast : ℕ → ℕ → List ℕ → Type 0
AtLeast r k [] = Unit {0}
AtLeast r k (x ∷ xs) = (k ≤ key r x) × AtLeast r k xs

-- the keys never fall
pub IsNear : ℕ → List ℕ → Type 0
IsNear r [] = Unit {0}
IsNear r (x ∷ xs) = AtLeast r (key r x) xs × IsNear r xs

-- a value is one of these
unfoldable pub IsIn : {X : Type 0} → X → List X → Type 0
IsIn x [] = ⊥
IsIn x (y ∷ ys) = (x ≡ y) ⊎ IsIn x ys

pub AtLeast-less : (r j k : ℕ) (xs : List ℕ) → j ≤ k → AtLeast r k xs → AtLeast r j xs
unfolding AtLeast
AtLeast-less r j k [] l h = tt
AtLeast-less r j k (x ∷ xs) l h = (omega (arith, h.0), AtLeast-less r j k xs l h.1)

pub AtLeast-insert : (r k p : ℕ) (xs : List ℕ) → k ≤ key r p → AtLeast r k xs → AtLeast r k (insert_near r p xs)
unfolding AtLeast
AtLeast-insert r k p [] l h = (l, tt)
AtLeast-insert r k p (x ∷ xs) l h = elim (lt_or_le (key r p) (key r x)) [
  | inl px ↦ rw (insert_yes r p x xs px) (l, h)
  | inr xp ↦ rw (insert_no r p x xs xp) (h.0, AtLeast-insert r k p xs l h.1)
]

pub IsNear-insert : (r p : ℕ) (xs : List ℕ) → IsNear r xs → IsNear r (insert_near r p xs)
unfolding IsNear AtLeast
IsNear-insert r p [] h = (tt, tt)
IsNear-insert r p (x ∷ xs) h = elim (lt_or_le (key r p) (key r x)) [
  | inl px ↦ rw (insert_yes r p x xs px) ((omega arith, AtLeast-less r (key r p) (key r x) xs (omega arith) h.0), h)
  | inr xp ↦ rw (insert_no r p x xs xp) (AtLeast-insert r (key r x) p xs xp h.0, IsNear-insert r p xs h.1)
]

-- prices in order of nearness are that
pub by_nearness-near : (r : ℕ) (xs : List ℕ) → IsNear r (by_nearness r xs)
unfolding IsNear
by_nearness-near r [] = tt
by_nearness-near r (x ∷ xs) = IsNear-insert r x (by_nearness r xs) (by_nearness-near r xs)

-- the order leaves no price out
pub IsIn-insert_new : (r p : ℕ) (xs : List ℕ) → IsIn p (insert_near r p xs)
unfolding IsIn
IsIn-insert_new r p [] = inl refl
IsIn-insert_new r p (x ∷ xs) = elim (lt_or_le (key r p) (key r x)) [
  | inl px ↦ rw (insert_yes r p x xs px) (inl refl)
  | inr xp ↦ rw (insert_no r p x xs xp) (inr (IsIn-insert_new r p xs))
]

pub IsIn-insert_old : (r p q : ℕ) (xs : List ℕ) → IsIn q xs → IsIn q (insert_near r p xs)
unfolding IsIn
IsIn-insert_old r p q [] h = absurd h
IsIn-insert_old r p q (x ∷ xs) h = elim (lt_or_le (key r p) (key r x)) [
  | inl px ↦ rw (insert_yes r p x xs px) (inr h)
  | inr xp ↦ rw (insert_no r p x xs xp) (elim h [ inl e ↦ inl e | inr k ↦ inr (IsIn-insert_old r p q xs k) ])
]

pub IsIn-by_nearness : (r q : ℕ) (xs : List ℕ) → IsIn q xs → IsIn q (by_nearness r xs)
unfolding IsIn
IsIn-by_nearness r q [] h = absurd h
IsIn-by_nearness r q (x ∷ xs) h = elim h [
  | inl e ↦ rw e (IsIn-insert_new r x (by_nearness r xs))
  | inr k ↦ IsIn-insert_old r x q (by_nearness r xs) (IsIn-by_nearness r q xs k)
]

-- nor does it add one
pub IsIn-from_insert : (r p q : ℕ) (xs : List ℕ) → IsIn q (insert_near r p xs) → (q ≡ p) ⊎ IsIn q xs
unfolding IsIn
IsIn-from_insert r p q [] h = h
IsIn-from_insert r p q (x ∷ xs) h = elim (lt_or_le (key r p) (key r x)) [
  | inl px ↦ rw (insert_yes r p x xs px) at h
  | inr xp ↦ elim (rw (insert_no r p x xs xp) at h) [
    | inl e ↦ inr (inl e)
    | inr k ↦ elim (IsIn-from_insert r p q xs k) [ inl e ↦ inl e | inr l ↦ inr (inr l) ]
  ]
]

pub IsIn-from_by_nearness : (r q : ℕ) (xs : List ℕ) → IsIn q (by_nearness r xs) → IsIn q xs
unfolding IsIn
IsIn-from_by_nearness r q [] h = h
IsIn-from_by_nearness r q (x ∷ xs) h = elim (IsIn-from_insert r x q (by_nearness r xs) h) [
  | inl e ↦ inl e
  | inr k ↦ inr (IsIn-from_by_nearness r q xs k)
]

-- what `find` finds passes
pub find_passes : (m : ℕ → Bool) (xs : List ℕ) (q : ℕ) → find m xs ≡ Some q → m q ≡ true
find_passes m [] q e = cc
find_passes m (x ∷ xs) q e = at (m x) refl e (find_passes m xs q)
  where
    at : (b : Bool) → m x ≡ b → cond b (Some x) (find m xs) ≡ Some q → (find m xs ≡ Some q → m q ≡ true) → m q ≡ true
    at true s t i = let u : x ≡ q = cc in rw (← u) s
    at false s t i = i t

-- it is one of the list
pub find_in : (m : ℕ → Bool) (xs : List ℕ) (q : ℕ) → find m xs ≡ Some q → IsIn q xs
unfolding IsIn
find_in m [] q e = cc
find_in m (x ∷ xs) q e = at (m x) e (find_in m xs q)
  where
    at : (b : Bool) → cond b (Some x) (find m xs) ≡ Some q → (find m xs ≡ Some q → IsIn q xs) → (q ≡ x) ⊎ IsIn q xs
    at true t i = inl cc
    at false t i = inr (i t)

-- where one passes, one is found
pub find_some : (m : ℕ → Bool) (xs : List ℕ) (q : ℕ) → IsIn q xs → m q ≡ true → find m xs ≡ None → ⊥
unfolding IsIn
find_some m [] q i t e = i
find_some m (x ∷ xs) q i t e = at (m x) refl e (λ k u. find_some m xs q k t u)
  where
    at : (b : Bool) → m x ≡ b → cond b (Some x) (find m xs) ≡ None → (IsIn q xs → find m xs ≡ None → ⊥) → ⊥
    at true s u f = cc
    at false s u f = elim i [ inl w ↦ let z : m x ≡ true = ap m (sym w) ∙ t in cc | inr k ↦ f k u ]

-- of the prices that pass it is the nearest
pub AtLeast-in : (r k q : ℕ) (xs : List ℕ) → AtLeast r k xs → IsIn q xs → k ≤ key r q
unfolding IsIn AtLeast
AtLeast-in r k q [] h i = absurd i
AtLeast-in r k q (x ∷ xs) h i = elim i [ inl e ↦ rw e h.0 | inr j ↦ AtLeast-in r k q xs h.1 j ]

pub find_nearest : (r : ℕ) (m : ℕ → Bool) (xs : List ℕ) (q w : ℕ) → IsNear r xs → find m xs ≡ Some w → IsIn q xs → m q ≡ true → key r w ≤ key r q
unfolding IsIn IsNear
find_nearest r m [] q w n e i t = absurd i
find_nearest r m (x ∷ xs) q w n e i t = at (m x) refl e (λ u j. find_nearest r m xs q w n.1 u j t)
  where
    at : (b : Bool) → m x ≡ b → cond b (Some x) (find m xs) ≡ Some w → (find m xs ≡ Some w → IsIn q xs → key r w ≤ key r q) → key r w ≤ key r q
    at true s u f = let v : w ≡ x = cc in rw v (elim i [ inl z ↦ rw z (omega arith) | inr j ↦ AtLeast-in r (key r x) q xs n.0 j ])
    at false s u f = elim i [ inl z ↦ let y : m x ≡ true = ap m (sym z) ∙ t in absurd (cc) | inr j ↦ f u j ]

-- a price that does not pass changes nothing
pub find-insert_fails : (r : ℕ) (m : ℕ → Bool) (p : ℕ) (xs : List ℕ) → m p ≡ false → find m (insert_near r p xs) ≡ find m xs
find-insert_fails r m p [] f = ap (λ b. cond b (Some p) None) f
find-insert_fails r m p (x ∷ xs) f = elim (lt_or_le (key r p) (key r x)) [
  | inl px ↦ ap (find m) (insert_yes r p x xs px) ∙ ap (λ b. cond b (Some p) (find m (x ∷ xs))) f
  | inr xp ↦ ap (find m) (insert_no r p x xs xp) ∙ ap (λ v. cond (m x) (Some x) v) (find-insert_fails r m p xs f)
]

-- one that passes is found where none did
pub find-insert_only : (r : ℕ) (m : ℕ → Bool) (p : ℕ) (xs : List ℕ) → m p ≡ true → find m xs ≡ None → find m (insert_near r p xs) ≡ Some p
find-insert_only r m p [] t e = ap (λ b. cond b (Some p) None) t
find-insert_only r m p (x ∷ xs) t e = elim (lt_or_le (key r p) (key r x)) [
  | inl px ↦ ap (find m) (insert_yes r p x xs px) ∙ ap (λ b. cond b (Some p) (find m (x ∷ xs))) t
  | inr xp ↦ ap (find m) (insert_no r p x xs xp) ∙ at (m x) e (find-insert_only r m p xs t)
]
  where
    at : (b : Bool) → cond b (Some x) (find m xs) ≡ None → (find m xs ≡ None → find m (insert_near r p xs) ≡ Some p) → cond b (Some x) (find m (insert_near r p xs)) ≡ Some p
    at true u f = cc
    at false u f = f u

-- and where it is nearer than the one that was found
pub find-insert_nearer : (r : ℕ) (m : ℕ → Bool) (p q : ℕ) (xs : List ℕ) → m p ≡ true → find m xs ≡ Some q → key r p < key r q → find m (insert_near r p xs) ≡ Some p
find-insert_nearer r m p q [] t e l = cc
find-insert_nearer r m p q (x ∷ xs) t e l = elim (lt_or_le (key r p) (key r x)) [
  | inl px ↦ ap (find m) (insert_yes r p x xs px) ∙ ap (λ b. cond b (Some p) (find m (x ∷ xs))) t
  | inr xp ↦ ap (find m) (insert_no r p x xs xp) ∙ at xp (m x) e (λ u. find-insert_nearer r m p q xs t u l)
]
  where
    at : key r x ≤ key r p → (b : Bool) → cond b (Some x) (find m xs) ≡ Some q → (find m xs ≡ Some q → find m (insert_near r p xs) ≡ Some p) → cond b (Some x) (find m (insert_near r p xs)) ≡ Some p
    at xp true u f = let v : x ≡ q = cc in let w : key r x ≡ key r q = ap (key r) v in absurd (omega arith)
    at xp false u f = f u

-- otherwise the one that was found stays
pub find-insert_farther : (r : ℕ) (m : ℕ → Bool) (p q : ℕ) (xs : List ℕ) → IsNear r xs → find m xs ≡ Some q → key r q ≤ key r p → find m (insert_near r p xs) ≡ Some q
unfolding IsNear
find-insert_farther r m p q [] n e l = cc
find-insert_farther r m p q (x ∷ xs) n e l =
    let xq : key r x ≤ key r q = first (m x) e in
    ap (find m) (insert_no r p x xs (omega arith)) ∙ at (m x) e (λ u. find-insert_farther r m p q xs n.1 u l)
  where
    first : (b : Bool) → cond b (Some x) (find m xs) ≡ Some q → key r x ≤ key r q
    first true u = let v : x ≡ q = cc in let w : key r x ≡ key r q = ap (key r) v in omega arith
    first false u = AtLeast-in r (key r x) q xs n.0 (find_in m xs q u)

    at : (b : Bool) → cond b (Some x) (find m xs) ≡ Some q → (find m xs ≡ Some q → find m (insert_near r p xs) ≡ Some q) → cond b (Some x) (find m (insert_near r p xs)) ≡ Some q
    at true u f = u
    at false u f = f u

-- below the reference the higher of two prices is nearer, and above it the lower
pub key-below : (r p q : ℕ) → p < q → q ≤ r → key r q < key r p
unfolding key
key-below r p q h l = grind (arith, nat_tests)

pub key-above : (r p q : ℕ) → r ≤ p → p < q → key r p < key r q
unfolding key
key-above r p q h l = grind (arith, nat_tests)

-- what the test says of the keys
pub key-nearer : (r p q : ℕ) → is_nearer r p q ≡ true → key r p < key r q
key-nearer r p q t = elim (lt_or_le (key r p) (key r q)) [
  | inl h ↦ h
  | inr h ↦ let e : is_nearer r p q ≡ false = nearer-false r p q h in absurd (cc)
]

pub key-not_nearer : (r p q : ℕ) → is_nearer r p q ≡ false → key r q ≤ key r p
key-not_nearer r p q t = elim (lt_or_le (key r p) (key r q)) [
  | inl h ↦ let e : is_nearer r p q ≡ true = nearer-true r p q h in absurd (cc)
  | inr h ↦ h
]

-- the same membership by a position
pub IsIn-from_Contains : {X : Type 0} → (x : X) (xs : List X) → Contains xs x → IsIn x xs
unfolding IsIn
IsIn-from_Contains x [] h = omega (arith, h.1)
IsIn-from_Contains x (y ∷ ys) h = at h.0 h.1 h.2 (IsIn-from_Contains x ys)
  where
    at : (k : ℕ) → k < length (y ∷ ys) → get_or (y ∷ ys) k x ≡ x → (Contains ys x → IsIn x ys) → (x ≡ y) ⊎ IsIn x ys
    at zero l e f = inl (sym e)
    at (suc k) l e f = inr (f (k, omega (arith, l), e))

pub Contains-from_IsIn : {X : Type 0} → (x : X) (xs : List X) → IsIn x xs → Contains xs x
unfolding IsIn
Contains-from_IsIn x [] h = absurd h
Contains-from_IsIn x (y ∷ ys) h = elim h [
  | inl e ↦ (0, omega arith, sym e)
  | inr i ↦ let w : Contains ys x = Contains-from_IsIn x ys i in (suc w.0, omega (arith, w.1), w.2)
]

-- a position's price is one of the grid's prices
pub price-in : (grid : List Price) (i : ℕ) → i < length grid → IsIn (price_at grid i) (prices_of grid)
unfolding IsIn
price-in [] i l = omega arith
price-in (p ∷ ps) zero l = inl refl
price-in (p ∷ ps) (suc i) l = inr (price-in ps i (omega arith))
