-- Walks over the nodes of a list: how one is cut in two and joined, and what a change of one node leaves of it.
use Rattle.std.proofs.Common.{◌≡◌, ◌≢◌, ℕ, List, [], ◌∷◌, ◌++◌, Option, Some, None, IsSome, refl, sym, ◌∙◌, ap, subst}
use Rattle.std.specs.List.{All}
use Rattle.std.proofs.lemmas.List.Elements.{All-cons, All-nil}
use Rattle.order_list.specs.Lists.{Linked}
use Rattle.order_list.specs.Links.{AreApart, IsAbsent, IsSegment}
use Rattle.order_list.specs.declared.link.Beside.{Beside}
use Rattle.order_list.specs.declared.link.Beside.TheVariants.{Neighbour, End}
use Rattle.order_list.specs.declared.node.Node.{Node}

pub key-is : {a b : ℕ} → Path Beside (Neighbour a) (Neighbour b) → a ≡ b
key-is e = cc

pub list-is : {a b : ℕ} → Path Beside (End a) (End b) → a ≡ b
list-is e = cc

pub link-is : {a b : ℕ} → Path (Option ℕ) (Some a) (Some b) → a ≡ b
link-is e = cc

-- a side has a neighbour or is an end
either : (j k : ℕ) (side : Beside) → ((key : ℕ) → side ≡ Neighbour key → j ≡ k) → ((list : ℕ) → side ≡ End list → j ≡ k) → j ≡ k
either j k (Neighbour key) on ends = on key refl
either j k (End list) on ends = ends list refl

module _ {T : Type 0} where
  -- a walk that is cut before its last part
  pub record IsCut (cells : ℕ → Option (Node T)) (before at : Beside) (xs ys : List (Linked T)) (last after : Beside) : Type 0 where
    pub end : Beside
    pub next : Beside
    pub left : IsSegment cells before at xs end next
    pub right : IsSegment cells end next ys last after

  pub cut : (cells : ℕ → Option (Node T)) (before at : Beside) (xs ys : List (Linked T)) (last after : Beside)
      → IsSegment cells before at (xs ++ ys) last after → IsCut cells before at xs ys last after
  cut cells before at [] ys last after walk = record { end = before; next = at; left = (refl, refl); right = walk }
  cut cells before at (x ∷ xs) ys last after walk =
      let rest = cut cells (Neighbour x.link) walk.1.0 xs ys last after walk.1.2 in
      record { end = rest.end; next = rest.next; left = (walk.0, (walk.1.0, walk.1.1, rest.left)); right = rest.right }

  pub join : (cells : ℕ → Option (Node T)) (before at : Beside) (xs ys : List (Linked T)) (end next last after : Beside)
      → IsSegment cells before at xs end next → IsSegment cells end next ys last after
      → IsSegment cells before at (xs ++ ys) last after
  join cells before at [] ys end next last after left right =
      subst (λ b. IsSegment cells b at ys last after) left.0
      (subst (λ a. IsSegment cells end a ys last after) (sym left.1) right)
  join cells before at (x ∷ xs) ys end next last after left right =
      (left.0, (left.1.0, left.1.1, join cells (Neighbour x.link) left.1.0 xs ys end next last after left.1.2 right))

  -- a change of nodes that are not on the way
  pub frame : (old new : ℕ → Option (Node T)) (key : ℕ) → ((other : ℕ) → other ≢ key → new other ≡ old other)
      → (before at : Beside) (xs : List (Linked T)) (last after : Beside)
      → IsAbsent key xs → IsSegment old before at xs last after → IsSegment new before at xs last after
  frame old new key others before at [] last after absent walk = walk
  frame old new key others before at (x ∷ xs) last after absent walk =
      (walk.0, (walk.1.0, others x.link absent.0 ∙ walk.1.1, frame old new key others (Neighbour x.link) walk.1.0 xs last after absent.1 walk.1.2))

  -- a key without a node is on no way
  pub absent-fresh : (cells : ℕ → Option (Node T)) (key : ℕ) → cells key ≡ None
      → (before at : Beside) (xs : List (Linked T)) (last after : Beside)
      → IsSegment cells before at xs last after → IsAbsent key xs
  absent-fresh cells key none before at [] last after walk = tt
  absent-fresh cells key none before at (x ∷ xs) last after walk = (
    λ same. let found = walk.1.1 in let here : cells x.link ≡ cells key = ap cells same in absurd (cc),
    absent-fresh cells key none (Neighbour x.link) walk.1.0 xs last after walk.1.2,
  )

  -- a walk on from a node ends with one
  pub no-end : (cells : ℕ → Option (Node T)) (before : ℕ) (at : Beside) (xs : List (Linked T)) (last after : Beside) (list : ℕ)
      → IsSegment cells (Neighbour before) at xs last after → last ≢ End list
  no-end cells before at [] last after list walk = λ is. let none : Neighbour before ≡ End list = sym walk.0 ∙ is in cc
  no-end cells before at (x ∷ xs) last after list walk = no-end cells x.link walk.1.0 xs last after list walk.1.2

  -- where a walk over a list ends at an end, that is the list's own
  pub last-end : (cells : ℕ → Option (Node T)) (list : ℕ) (at : Beside) (xs : List (Linked T)) (last after : Beside) (other : ℕ)
      → IsSegment cells (End list) at xs last after → last ≡ End other → other ≡ list
  last-end cells list at [] last after other walk is = list-is (sym is ∙ walk.0)
  last-end cells list at (x ∷ xs) last after other walk is = absurd (no-end cells x.link walk.1.0 xs last after other walk.1.2 is)

  pub first-end : (cells : ℕ → Option (Node T)) (list : ℕ) (before at : Beside) (xs : List (Linked T)) (last : Beside) (other : ℕ)
      → IsSegment cells before at xs last (End list) → at ≡ End other → other ≡ list
  first-end cells list before at [] last other walk is = list-is (sym is ∙ walk.1)
  first-end cells list before at (x ∷ xs) last other walk is = let none : End other ≡ Neighbour x.link = sym is ∙ walk.0 in absurd (cc)

  -- none of these is one of those
  abbrev pub AreForeign : List (Linked T) → List (Linked T) → Type 0
  AreForeign [] ns = Unit {0}
  AreForeign (x ∷ xs) ns = IsAbsent x.link ns × AreForeign xs ns

  same-node : {a b : Node T} → Path (Option (Node T)) (Some a) (Some b) → a ≡ b
  same-node e = cc

  -- ways to the ends of two lists that have a node in common go to the same end
  meet : (cells : ℕ → Option (Node T)) (j k : ℕ) (before other : Beside) (key : ℕ) (ys zs : List (Linked T)) (last end : Beside)
      → IsSegment cells before (Neighbour key) ys last (End j) → IsSegment cells other (Neighbour key) zs end (End k) → j ≡ k
  meet cells j k before other key [] zs last end left right = let none : Neighbour key ≡ End j = left.1 in absurd (cc)
  meet cells j k before other key (y ∷ ys) [] last end left right = let none : Neighbour key ≡ End k = right.1 in absurd (cc)
  meet cells j k before other key (y ∷ ys) (z ∷ zs) last end left right =
      let here : cells y.link ≡ cells z.link = ap cells (key-is (sym left.0 ∙ right.0)) in
      let next : left.1.0 ≡ right.1.0 = ap (λ (n : Node T). n.after) (same-node (sym left.1.1 ∙ here ∙ right.1.1)) in
      either j k left.1.0
      (λ on is.
      meet cells j k (Neighbour y.link) (Neighbour z.link) on ys zs last end (subst (λ a. IsSegment cells (Neighbour y.link) a ys last (End j)) is left.1.2)
      (subst (λ a. IsSegment cells (Neighbour z.link) a zs end (End k)) (sym next ∙ is) right.1.2))
      (λ list is.
      sym (first-end cells j (Neighbour y.link) left.1.0 ys last list left.1.2 is)
      ∙ first-end cells k (Neighbour z.link) right.1.0 zs end list right.1.2 (sym next ∙ is))

  -- a node of one list is on no way to the end of another
  absent-foreign : (cells : ℕ → Option (Node T)) (j k : ℕ) → j ≢ k → (before : Beside) (key : ℕ) (ys : List (Linked T)) (last : Beside)
      → IsSegment cells before (Neighbour key) ys last (End j) → (other at : Beside) (zs : List (Linked T)) (end : Beside)
      → IsSegment cells other at zs end (End k) → IsAbsent key zs
  absent-foreign cells j k differs before key ys last walk other at [] end way = tt
  absent-foreign cells j k differs before key ys last walk other at (z ∷ zs) end way = (
    λ same.
        differs
        (meet cells j k before other key ys (z ∷ zs) last end walk
        (subst (λ a. IsSegment cells other a (z ∷ zs) end (End k)) (way.0 ∙ ap (λ (n : ℕ). Neighbour n) same) way)),
    absent-foreign cells j k differs before key ys last walk (Neighbour z.link) way.1.0 zs end way.1.2,
  )

  pub are-foreign : (cells : ℕ → Option (Node T)) (j k : ℕ) → j ≢ k → (before at : Beside) (ys : List (Linked T)) (last : Beside)
      → IsSegment cells before at ys last (End j) → (other to : Beside) (zs : List (Linked T)) (end : Beside)
      → IsSegment cells other to zs end (End k) → AreForeign ys zs
  are-foreign cells j k differs before at [] last walk other to zs end way = tt
  are-foreign cells j k differs before at (y ∷ ys) last walk other to zs end way = (
    absent-foreign cells j k differs before y.link (y ∷ ys) last (subst (λ a. IsSegment cells before a (y ∷ ys) last (End j)) walk.0 walk) other to zs end way,
    are-foreign cells j k differs (Neighbour y.link) walk.1.0 ys last walk.1.2 other to zs end way,
  )

  pub foreign-middle : (xs : List (Linked T)) (y : Linked T) (ys ns : List (Linked T)) → AreForeign (xs ++ y ∷ ys) ns → IsAbsent y.link ns
  foreign-middle [] y ys ns foreign = foreign.0
  foreign-middle (x ∷ xs) y ys ns foreign = foreign-middle xs y ys ns foreign.1

  pub foreign-without : (xs : List (Linked T)) (y : Linked T) (ys ns : List (Linked T)) → AreForeign (xs ++ y ∷ ys) ns → AreForeign (xs ++ ys) ns
  foreign-without [] y ys ns foreign = foreign.1
  foreign-without (x ∷ xs) y ys ns foreign = (foreign.0, foreign-without xs y ys ns foreign.1)

  -- the last node of the first part is none of those
  pub last-foreign : (cells : ℕ → Option (Node T)) (before at : Beside) (x : Linked T) (xs ys ns : List (Linked T)) (key : ℕ) (a : Beside)
      → IsSegment cells before at (x ∷ xs) (Neighbour key) a → AreForeign ((x ∷ xs) ++ ys) ns → IsAbsent key ns
  last-foreign cells before at x [] ys ns key a walk foreign = subst (λ n. IsAbsent n ns) (sym (key-is walk.1.2.0)) foreign.0
  last-foreign cells before at x (y ∷ xs) ys ns key a walk foreign = last-foreign cells (Neighbour x.link) walk.1.0 y xs ys ns key a walk.1.2 foreign.1

  -- the last node is none of those that are absent
  pub last-differs : (cells : ℕ → Option (Node T)) (before at : Beside) (xs : List (Linked T)) (last after : Beside) (key : ℕ)
      → IsSegment cells before at xs last after → IsAbsent key xs → before ≢ Neighbour key → last ≢ Neighbour key
  last-differs cells before at [] last after key walk absent differs = λ is. differs (sym walk.0 ∙ is)
  last-differs cells before at (x ∷ xs) last after key walk absent differs =
      last-differs cells (Neighbour x.link) walk.1.0 xs last after key walk.1.2 absent.1 (λ is. absent.0 (key-is is))

  -- the walk before a node whose follower is changed
  pub relast : (old new : ℕ → Option (Node T)) (key : ℕ) (c : Beside)
      → ((node : Node T) → old key ≡ Some node → new key ≡ Some (record node { after = c })) → ((other : ℕ) → other ≢ key → new other ≡ old other)
      → (before at : Beside) (x : Linked T) (xs : List (Linked T)) (a : Beside) → AreApart (x ∷ xs)
      → IsSegment old before at (x ∷ xs) (Neighbour key) a → IsSegment new before at (x ∷ xs) (Neighbour key) c
  relast old new key c changed others before at x [] a apart walk =
      let here : key ≡ x.link = key-is walk.1.2.0 in
      (walk.0, (c, ap new (sym here) ∙ changed _ (ap old here ∙ walk.1.1), (walk.1.2.0, refl)))
  relast old new key c changed others before at x (y ∷ ys) a apart walk =
      let differs = last-differs old (Neighbour y.link) walk.1.2.1.0 ys (Neighbour key) a x.link walk.1.2.1.2 apart.0.1 (λ is. apart.0.0 (key-is is)) in (
        walk.0,
        (
          walk.1.0,
          others x.link (λ same. differs (ap (λ (n : ℕ). Neighbour n) (sym same))) ∙ walk.1.1,
          relast old new key c changed others (Neighbour x.link) walk.1.0 y ys a apart.1 walk.1.2,
        ),
      )

  -- the walk from a node of which what stands before it is changed
  pub refirst : (old new : ℕ → Option (Node T)) (key : ℕ) (c : Beside)
      → ((node : Node T) → old key ≡ Some node → new key ≡ Some (record node { before = c })) → ((other : ℕ) → other ≢ key → new other ≡ old other)
      → (before : Beside) (y : Linked T) (ys : List (Linked T)) (last after : Beside) → IsAbsent y.link ys
      → IsSegment old before (Neighbour key) (y ∷ ys) last after → IsSegment new c (Neighbour key) (y ∷ ys) last after
  refirst old new key c changed others before y ys last after absent walk =
      let here : key ≡ y.link = key-is walk.0 in (
        walk.0,
        (
          walk.1.0,
          ap new (sym here) ∙ changed _ (ap old here ∙ walk.1.1),
          frame old new key others (Neighbour y.link) walk.1.0 ys last after (subst (λ n. IsAbsent n ys) (sym here) absent) walk.1.2,
        ),
      )

  -- the node at the end of a walk is one of its list
  pub last-node : (cells : ℕ → Option (Node T)) (before at : Beside) (x : Linked T) (xs : List (Linked T)) (key : ℕ) (a : Beside)
      → IsSegment cells before at (x ∷ xs) (Neighbour key) a → (node : Node T) × (cells key ≡ Some node)
  last-node cells before at x [] key a walk =
      (record { before = before; after = walk.1.0; item = x.item }, ap cells (key-is walk.1.2.0) ∙ walk.1.1)
  last-node cells before at x (y ∷ ys) key a walk = last-node cells (Neighbour x.link) walk.1.0 y ys key a walk.1.2

  pub absent-append : (m : ℕ) (xs ys : List (Linked T)) → IsAbsent m (xs ++ ys) → IsAbsent m xs × IsAbsent m ys
  absent-append m [] ys absent = (tt, absent)
  absent-append m (x ∷ xs) ys absent = let rest = absent-append m xs ys absent.1 in ((absent.0, rest.0), rest.1)

  pub append-absent : (m : ℕ) (xs ys : List (Linked T)) → IsAbsent m xs → IsAbsent m ys → IsAbsent m (xs ++ ys)
  append-absent m [] ys left right = right
  append-absent m (x ∷ xs) ys left right = (left.0, append-absent m xs ys left.1 right)

  -- the last node of the first part is none of the second
  pub last-absent : (cells : ℕ → Option (Node T)) (before at : Beside) (x : Linked T) (xs ys : List (Linked T)) (key : ℕ) (a : Beside)
      → IsSegment cells before at (x ∷ xs) (Neighbour key) a → AreApart ((x ∷ xs) ++ ys) → IsAbsent key ys
  last-absent cells before at x [] ys key a walk apart = subst (λ n. IsAbsent n ys) (sym (key-is walk.1.2.0)) apart.0
  last-absent cells before at x (y ∷ xs) ys key a walk apart = last-absent cells (Neighbour x.link) walk.1.0 y xs ys key a walk.1.2 apart.1

  -- a node in the middle is none of those before it, nor of those after it
  pub middle-absent : (xs : List (Linked T)) (y : Linked T) (ys : List (Linked T)) → AreApart (xs ++ y ∷ ys) → IsAbsent y.link xs × IsAbsent y.link ys
  middle-absent [] y ys apart = (tt, apart.0)
  middle-absent (x ∷ xs) y ys apart =
      let rest = middle-absent xs y ys apart.1 in
      let here = (absent-append x.link xs (y ∷ ys) apart.0).1.0 in
      (((λ same. here (sym same)), rest.0), rest.1)

  pub apart-front : (xs ys : List (Linked T)) → AreApart (xs ++ ys) → AreApart xs
  apart-front [] ys apart = tt
  apart-front (x ∷ xs) ys apart = ((absent-append x.link xs ys apart.0).0, apart-front xs ys apart.1)

  pub apart-without : (xs : List (Linked T)) (y : Linked T) (ys : List (Linked T)) → AreApart (xs ++ y ∷ ys) → AreApart (xs ++ ys)
  apart-without [] y ys apart = apart.1
  apart-without (x ∷ xs) y ys apart =
      let rest = absent-append x.link xs (y ∷ ys) apart.0 in
      (append-absent x.link xs ys rest.0 rest.1.1, apart-without xs y ys apart.1)

  pub apart-with : (xs : List (Linked T)) (y : Linked T) (ys : List (Linked T)) → AreApart (xs ++ ys) → IsAbsent y.link (xs ++ ys) → AreApart (xs ++ y ∷ ys)
  apart-with [] y ys apart absent = (absent, apart)
  apart-with (x ∷ xs) y ys apart absent =
      let rest = absent-append x.link xs ys apart.0 in
      (append-absent x.link xs (y ∷ ys) rest.0 ((λ same. absent.0 (sym same)), rest.1), apart-with xs y ys apart.1 absent.1)

  -- the first node is none of those that are absent
  pub first-differs : (cells : ℕ → Option (Node T)) (list : ℕ) (before at : Beside) (xs : List (Linked T)) (last : Beside) (key : ℕ)
      → IsSegment cells before at xs last (End list) → IsAbsent key xs → at ≢ Neighbour key
  first-differs cells list before at [] last key walk absent = λ is. let none : Neighbour key ≡ End list = sym is ∙ walk.1 in absurd (cc)
  first-differs cells list before at (x ∷ xs) last key walk absent = λ is. absent.0 (key-is (sym walk.0 ∙ is))

  -- the nodes at both ends of a walk are there
  pub last-there : (cells : ℕ → Option (Node T)) (list : ℕ) (at : Beside) (xs : List (Linked T)) (last after : Beside) (key : ℕ)
      → IsSegment cells (End list) at xs last after → last ≡ Neighbour key → IsSome (cells key)
  last-there cells list at [] last after key walk is = let none : Neighbour key ≡ End list = sym is ∙ walk.0 in absurd (cc)
  last-there cells list at (x ∷ xs) last after key walk is =
      let node = last-node cells (End list) at x xs key after (subst (λ l. IsSegment cells (End list) at (x ∷ xs) l after) is walk) in
      subst (λ (o : Option (Node T)). IsSome o) (sym node.1) refl

  pub first-there : (cells : ℕ → Option (Node T)) (list : ℕ) (before at : Beside) (xs : List (Linked T)) (last : Beside) (key : ℕ)
      → IsSegment cells before at xs last (End list) → at ≡ Neighbour key → IsSome (cells key)
  first-there cells list before at [] last key walk is = let none : Neighbour key ≡ End list = sym is ∙ walk.1 in absurd (cc)
  first-there cells list before at (x ∷ xs) last key walk is =
      let here : x.link ≡ key = key-is (sym walk.0 ∙ is) in
      subst (λ n. IsSome (cells n)) here (subst (λ (o : Option (Node T)). IsSome o) (sym walk.1.1) refl)

  -- no node on the way has the link
  pub absent-all : (key : ℕ) (xs : List (Linked T)) → IsAbsent key xs → All (λ node. node.link ≢ key) xs
  absent-all key [] absent = All-nil (λ (node : Linked T). node.link ≢ key)
  absent-all key (x ∷ xs) absent = All-cons (λ (node : Linked T). node.link ≢ key) x xs absent.0 (absent-all key xs absent.1)
