-- A list that is cut in two, while a node is put in or taken out between its parts.
use Rattle.std.proofs.Common.{◌≡◌, ◌≢◌, ℕ, ◌<◌, List, [], ◌∷◌, ◌++◌, length, set, Some, refl, sym, ◌∙◌, ap, subst, inl, inr, arith}
use Rattle.std.proofs.lemmas.Bool.{cases_eq}
use Rattle.std.proofs.lemmas.List.{get_or-set_other, get_or-set_same, length-set}
use Rattle.slab.specs.Slab.{Slab, get, slab_len}
use Rattle.order_list.specs.Lists.{Linked, list_at}
use Rattle.order_list.specs.Links.{AreApart, AreLinked, IsAbsent, IsSegment, SetsAfter, SetsBefore, end_at, no_ends}
use Rattle.order_list.specs.declared.link.Beside.{Beside}
use Rattle.order_list.specs.declared.link.Beside.TheVariants.{Neighbour, End}
use Rattle.order_list.specs.declared.node.Node.{Node}
use Rattle.order_list.specs.declared.node.Ends.{Ends}
use Rattle.order_list.proofs.SegmentLemmas.{AreForeign, apart-front, are-foreign, cut, foreign-middle, frame, join, key-is, last-absent, last-foreign, middle-absent, no-end, refirst, relast}

-- the list is cut between xs and ys: the last of xs is p, which a follows, and the first of ys is q, before which b stands
pub record IsOpen {T : Type 0} (nodes : Slab (Node T)) (ends : List Ends) (lists : List (List (Linked T))) (list : ℕ)
    (xs ys : List (Linked T)) (p a b q : Beside) : Type 0 where
  pub within : list < length ends
  pub same : length ends ≡ length lists
  pub left : IsSegment (get nodes) (End list) (end_at ends list).first xs p a
  pub right : IsSegment (get nodes) b q ys (end_at ends list).last (End list)
  pub others : (j : ℕ) → j ≢ list → j < length lists → IsSegment (get nodes) (End j) (end_at ends j).first (list_at lists j) (end_at ends j).last (End j)

-- other ends than those of this list stay
ends-elsewhere : (ends : List Ends) (list : ℕ) (e : Ends) (j : ℕ) → j ≢ list → end_at (set ends list e) j ≡ end_at ends j
ends-elsewhere ends list e j differs = get_or-set_other ends list j e (no_ends j) differs

module _ {T : Type 0} where
  -- a list is cut before any part of it
  pub open-cut : (nodes : Slab (Node T)) (ends : List Ends) (lists : List (List (Linked T))) (list : ℕ) (xs ys : List (Linked T))
      → AreLinked (get nodes) ends lists → list < length lists → list_at lists list ≡ xs ++ ys
      → (p : Beside) × (q : Beside) × IsOpen nodes ends lists list xs ys p q p q
  open-cut nodes ends lists list xs ys linked within is =
      let parts =
      cut (get nodes) (End list) (end_at ends list).first xs ys (end_at ends list).last (End list)
      (subst (λ ns. IsSegment (get nodes) (End list) (end_at ends list).first ns (end_at ends list).last (End list)) is (linked.each list within)) in (
        parts.end,
        parts.next,
        record { within = omega (arith, linked.same); same = linked.same; left = parts.left; right = parts.right; others = λ j _ less. linked.each j less },
      )

  -- a change of a node that is in no list
  pub open-frame : (nodes new : Slab (Node T)) (ends : List Ends) (lists : List (List (Linked T))) (list : ℕ) (xs ys : List (Linked T)) (p a b q : Beside) (key : ℕ)
      → IsOpen nodes ends lists list xs ys p a b q → ((other : ℕ) → other ≢ key → get new other ≡ get nodes other)
      → IsAbsent key xs → IsAbsent key ys → ((j : ℕ) → j ≢ list → j < length lists → IsAbsent key (list_at lists j))
      → IsOpen new ends lists list xs ys p a b q
  open-frame nodes new ends lists list xs ys p a b q key halves others in_xs in_ys in_others =
      record {
        within = halves.within;
        same = halves.same;
        left = frame (get nodes) (get new) key others (End list) (end_at ends list).first xs p a in_xs halves.left;
        right = frame (get nodes) (get new) key others b q ys (end_at ends list).last (End list) in_ys halves.right;
        others = λ j differs less. frame (get nodes) (get new) key others (End j) (end_at ends j).first (list_at lists j) (end_at ends j).last (End j) (in_others j differs less) (halves.others j differs less);
      }

  -- none of these is in another list
  abbrev pub AreAlone : List (List (Linked T)) → ℕ → List (Linked T) → Type 0
  AreAlone lists list ns = (j : ℕ) → j ≢ list → j < length lists → AreForeign ns (list_at lists j)

  -- each list is walked to an end of its own, so that no node is in two
  pub are-alone : (nodes : Slab (Node T)) (ends : List Ends) (lists : List (List (Linked T))) (list : ℕ) → AreLinked (get nodes) ends lists → list < length lists
      → AreAlone lists list (list_at lists list)
  are-alone nodes ends lists list linked within j differs less =
      are-foreign (get nodes) list j (λ same. differs (sym same)) (End list) (end_at ends list).first (list_at lists list) (end_at ends list).last (linked.each list within)
      (End j) (end_at ends j).first (list_at lists j) (end_at ends j).last (linked.each j less)

  pub open-after : (p : Beside) (xs : List (Linked T)) (nodes new : Slab (Node T)) (ends ends' : List Ends) (lists : List (List (Linked T))) (list : ℕ) (ys : List (Linked T)) (a b q c : Beside)
      → IsOpen nodes ends lists list xs ys p a b q → AreApart (xs ++ ys) → AreAlone lists list (xs ++ ys) → SetsAfter c p nodes ends new ends'
      → IsOpen new ends' lists list xs ys p c b q
  open-after (End l) [] nodes new ends ends' lists list ys a b q c halves apart alone there =
      let sets = subst (λ p. SetsAfter c p nodes ends new ends') halves.left.0 there in
      let e : Ends = record (end_at ends list) { first = c } in
      let at : end_at ends' list ≡ e = ap (λ es. end_at es list) sets.1 ∙ get_or-set_same ends list e (no_ends list) halves.within in
      let cells : get new ≡ get nodes = ap get sets.0 in
      record {
        within = omega (arith, ap (length {A = Ends}) sets.1, length-set ends list e, halves.within);
        same = ap length sets.1 ∙ length-set ends list e ∙ halves.same;
        left = (halves.left.0, ap (λ (f : Ends). f.first) at);
        right =
            subst (λ f. IsSegment f b q ys (end_at ends' list).last (End list)) (sym cells)
            (subst (λ l. IsSegment (get nodes) b q ys l (End list)) (sym (ap (λ (f : Ends). f.last) at)) halves.right);
        others = λ j differs less.
            let there : end_at ends' j ≡ end_at ends j = ap (λ es. end_at es j) sets.1 ∙ ends-elsewhere ends list e j differs in
            subst (λ f. IsSegment f (End j) (end_at ends' j).first (list_at lists j) (end_at ends' j).last (End j)) (sym cells)
            (subst (λ (f : Ends). IsSegment (get nodes) (End j) f.first (list_at lists j) f.last (End j)) (sym there) (halves.others j differs less));
      }
  open-after (End l) (x ∷ xs) nodes new ends ends' lists list ys a b q c halves apart alone sets =
      absurd (no-end (get nodes) x.link halves.left.1.0 xs (End l) a l halves.left.1.2 refl)
  open-after (Neighbour key) [] nodes new ends ends' lists list ys a b q c halves apart alone sets = let none : Neighbour key ≡ End list = halves.left.0 in absurd (cc)
  open-after (Neighbour key) (x ∷ xs) nodes new ends ends' lists list ys a b q c halves apart alone sets =
      let absent = last-absent (get nodes) (End list) (end_at ends list).first x xs ys key a halves.left apart in
      let others = sets.0.others in
      subst (λ es. IsOpen new es lists list (x ∷ xs) ys (Neighbour key) c b q) (sym sets.1)
      (record {
        within = halves.within;
        same = halves.same;
        left = relast (get nodes) (get new) key c sets.0.changed others (End list) (end_at ends list).first x xs a (apart-front (x ∷ xs) ys apart) halves.left;
        right = frame (get nodes) (get new) key others b q ys (end_at ends list).last (End list) absent halves.right;
        others = λ j differs less.
            frame (get nodes) (get new) key others (End j) (end_at ends j).first (list_at lists j) (end_at ends j).last (End j)
            (last-foreign (get nodes) (End list) (end_at ends list).first x xs ys (list_at lists j) key a halves.left (alone j differs less)) (halves.others j differs less);
      })

  pub open-before : (q : Beside) (ys : List (Linked T)) (nodes new : Slab (Node T)) (ends ends' : List Ends) (lists : List (List (Linked T))) (list : ℕ) (xs : List (Linked T)) (p a b c : Beside)
      → IsOpen nodes ends lists list xs ys p a b q → AreApart (xs ++ ys) → AreAlone lists list (xs ++ ys) → SetsBefore c q nodes ends new ends'
      → IsOpen new ends' lists list xs ys p a c q
  open-before (End l) [] nodes new ends ends' lists list xs p a b c halves apart alone there =
      let sets = subst (λ q. SetsBefore c q nodes ends new ends') halves.right.1 there in
      let e : Ends = record (end_at ends list) { last = c } in
      let at : end_at ends' list ≡ e = ap (λ es. end_at es list) sets.1 ∙ get_or-set_same ends list e (no_ends list) halves.within in
      let cells : get new ≡ get nodes = ap get sets.0 in
      record {
        within = omega (arith, ap (length {A = Ends}) sets.1, length-set ends list e, halves.within);
        same = ap length sets.1 ∙ length-set ends list e ∙ halves.same;
        left =
            subst (λ f. IsSegment f (End list) (end_at ends' list).first xs p a) (sym cells)
            (subst (λ l. IsSegment (get nodes) (End list) l xs p a) (sym (ap (λ (f : Ends). f.first) at)) halves.left);
        right = (ap (λ (f : Ends). f.last) at, halves.right.1);
        others = λ j differs less.
            let there : end_at ends' j ≡ end_at ends j = ap (λ es. end_at es j) sets.1 ∙ ends-elsewhere ends list e j differs in
            subst (λ f. IsSegment f (End j) (end_at ends' j).first (list_at lists j) (end_at ends' j).last (End j)) (sym cells)
            (subst (λ (f : Ends). IsSegment (get nodes) (End j) f.first (list_at lists j) f.last (End j)) (sym there) (halves.others j differs less));
      }
  open-before (End l) (y ∷ ys) nodes new ends ends' lists list xs p a b c halves apart alone sets = let none : End l ≡ Neighbour y.link = halves.right.0 in absurd (cc)
  open-before (Neighbour key) [] nodes new ends ends' lists list xs p a b c halves apart alone sets = let none : Neighbour key ≡ End list = halves.right.1 in absurd (cc)
  open-before (Neighbour key) (y ∷ ys) nodes new ends ends' lists list xs p a b c halves apart alone sets =
      let middle = middle-absent xs y ys apart in
      let here : key ≡ y.link = key-is halves.right.0 in
      let others = sets.0.others in
      subst (λ es. IsOpen new es lists list xs (y ∷ ys) p a c (Neighbour key)) (sym sets.1)
      (record {
        within = halves.within;
        same = halves.same;
        left = frame (get nodes) (get new) key others (End list) (end_at ends list).first xs p a (subst (λ n. IsAbsent n xs) (sym here) middle.0) halves.left;
        right = refirst (get nodes) (get new) key c sets.0.changed others b y ys (end_at ends list).last (End list) middle.1 halves.right;
        others = λ j differs less.
            frame (get nodes) (get new) key others (End j) (end_at ends j).first (list_at lists j) (end_at ends j).last (End j)
            (subst (λ n. IsAbsent n (list_at lists j)) (sym here) (foreign-middle xs y ys (list_at lists j) (alone j differs less))) (halves.others j differs less);
      })

  -- a walk over a new list makes the lists whole again
  pub close : (nodes : Slab (Node T)) (ends : List Ends) (lists : List (List (Linked T))) (list : ℕ) (new xs ys : List (Linked T)) (p a b q : Beside)
      → IsOpen nodes ends lists list xs ys p a b q → IsSegment (get nodes) (End list) (end_at ends list).first new (end_at ends list).last (End list)
      → AreApart new → ((j : ℕ) → AreApart (list_at lists j)) → AreLinked (get nodes) ends (set lists list new)
  close nodes ends lists list new xs ys p a b q halves walk apart aparts =
      let inside : list < length lists = omega (arith, halves.within, halves.same) in
      let here : list_at (set lists list new) list ≡ new = get_or-set_same lists list new [] inside in
      let there : (j : ℕ) → j ≢ list → list_at (set lists list new) j ≡ list_at lists j = λ j differs. get_or-set_other lists list j new [] differs in
      record {
        same = halves.same ∙ sym (length-set lists list new);
        each = λ j less.
            elim (cases_eq j list) [
              | inl is ↦
                  subst (λ i. IsSegment (get nodes) (End i) (end_at ends i).first (list_at (set lists list new) i) (end_at ends i).last (End i)) (sym is)
                  (subst (λ ns. IsSegment (get nodes) (End list) (end_at ends list).first ns (end_at ends list).last (End list)) (sym here) walk)
              | inr differs ↦
                  subst (λ ns. IsSegment (get nodes) (End j) (end_at ends j).first ns (end_at ends j).last (End j)) (sym (there j differs))
                  (halves.others j differs (omega (arith, length-set lists list new, less)))
            ];
        apart = λ j.
            elim (cases_eq j list) [
              | inl is ↦ subst (λ i. AreApart (list_at (set lists list new) i)) (sym is) (subst AreApart (sym here) apart)
              | inr differs ↦ subst AreApart (sym (there j differs)) (aparts j)
            ];
      }

  -- both parts joined
  pub close-joined : (nodes : Slab (Node T)) (ends : List Ends) (lists : List (List (Linked T))) (list : ℕ) (xs ys : List (Linked T)) (p q : Beside)
      → IsOpen nodes ends lists list xs ys p q p q → AreApart (xs ++ ys) → ((j : ℕ) → AreApart (list_at lists j))
      → AreLinked (get nodes) ends (set lists list (xs ++ ys))
  close-joined nodes ends lists list xs ys p q halves apart aparts =
      close nodes ends lists list (xs ++ ys) xs ys p q p q halves
      (join (get nodes) (End list) (end_at ends list).first xs ys p q (end_at ends list).last (End list) halves.left halves.right) apart aparts

  -- both parts joined with a node between them
  pub close-with : (nodes : Slab (Node T)) (ends : List Ends) (lists : List (List (Linked T))) (list : ℕ) (xs ys : List (Linked T)) (p q : Beside) (m : Linked T)
      → IsOpen nodes ends lists list xs ys p (Neighbour m.link) (Neighbour m.link) q
      → get nodes m.link ≡ Some (record { before = p; after = q; item = m.item })
      → AreApart (xs ++ m ∷ ys) → ((j : ℕ) → AreApart (list_at lists j))
      → AreLinked (get nodes) ends (set lists list (xs ++ m ∷ ys))
  close-with nodes ends lists list xs ys p q m halves is apart aparts =
      close nodes ends lists list (xs ++ m ∷ ys) xs ys p (Neighbour m.link) (Neighbour m.link) q halves
      (join (get nodes) (End list) (end_at ends list).first xs (m ∷ ys) p (Neighbour m.link) (end_at ends list).last (End list) halves.left (refl, (q, is, halves.right)))
      apart aparts

  -- a change of links leaves the count of the nodes, and each node but the one changed
  pub after-count : (c p : Beside) (nodes new : Slab (Node T)) (ends ends' : List Ends) → SetsAfter c p nodes ends new ends'
      → (slab_len new ≡ slab_len nodes) × (new.capacity ≡ nodes.capacity)
  after-count c (End list) nodes new ends ends' sets = (ap slab_len sets.0, ap (λ (s : Slab (Node T)). s.capacity) sets.0)
  after-count c (Neighbour key) nodes new ends ends' sets = (sets.0.count, sets.0.capacity)

  pub before-count : (c q : Beside) (nodes new : Slab (Node T)) (ends ends' : List Ends) → SetsBefore c q nodes ends new ends'
      → (slab_len new ≡ slab_len nodes) × (new.capacity ≡ nodes.capacity)
  before-count c (End list) nodes new ends ends' sets = (ap slab_len sets.0, ap (λ (s : Slab (Node T)). s.capacity) sets.0)
  before-count c (Neighbour key) nodes new ends ends' sets = (sets.0.count, sets.0.capacity)

  pub after-keeps : (c p : Beside) (nodes new : Slab (Node T)) (ends ends' : List Ends) (key : ℕ) → SetsAfter c p nodes ends new ends'
      → p ≢ Neighbour key → get new key ≡ get nodes key
  after-keeps c (End list) nodes new ends ends' key sets differs = ap (λ (s : Slab (Node T)). get s key) sets.0
  after-keeps c (Neighbour k) nodes new ends ends' key sets differs = sets.0.others key (λ same. differs (ap (λ (n : ℕ). Neighbour n) (sym same)))

  pub before-keeps : (c q : Beside) (nodes new : Slab (Node T)) (ends ends' : List Ends) (key : ℕ) → SetsBefore c q nodes ends new ends'
      → q ≢ Neighbour key → get new key ≡ get nodes key
  before-keeps c (End list) nodes new ends ends' key sets differs = ap (λ (s : Slab (Node T)). get s key) sets.0
  before-keeps c (Neighbour k) nodes new ends ends' key sets differs = sets.0.others key (λ same. differs (ap (λ (n : ℕ). Neighbour n) (sym same)))
