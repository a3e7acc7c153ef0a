-- The walk over the list of a bucket.
use Rattle.std.proofs.Common.{◌≡◌, ◌≢◌, ℕ, zero, suc, ◌+◌, ◌<◌, ◌≤◌, ◌&&◌, ◌*◌, ◌%◌, Bool, true, false, cond, not, eqb, List, [], ◌∷◌, length, map, filter, drop, Option, Some, None, refl, sym, ◌∙◌, ap, subst, arith}
use Rattle.std.specs.List.{AllByRecursion, after_first, find, prefix_len}
use Rattle.std.specs.Option.{option_map}
use Rattle.std.proofs.lemmas.Bool.{eq-eqb, eqb-true, ne_eqb}
use Rattle.std.proofs.lemmas.List.Sums.{count_by-le-length, length-filter}
use Rattle.std.proofs.lemmas.List.{drop_all}
use Rattle.order_list.specs.Lists.{IsIn, Linked, first_link, is_at, list_at}
use Rattle.mkt_base.specs.declared.units.Caller.{Caller}
use Rattle.mkt_base.specs.declared.order.Order.{Order}
use Rattle.book_law.specs.BookView.{Slot, is_of}
use Rattle.order_book.specs.Linked.{AreApart, IsFiled, bucket_of, filed_at, owner_key, slot_at}
use Rattle.order_book.specs.declared.held.Held.{Held}
use Rattle.order_book.proofs.FiledLemmas.{apart-filter, each-filter, filed-in, find-first, find-later, find-passes, find-holds}
use Rattle.order_book.proofs.PlainLemmas.{find-map}

module _ {X : Type 0} where
  pub each-drop : (P : X → Type 0) (s : ℕ) (xs : List X) → AllByRecursion P xs → AllByRecursion P (drop s xs)
  each-drop P zero xs all = all
  each-drop P (suc s) [] all = tt
  each-drop P (suc s) (x ∷ xs) all = each-drop P s xs all.1

  pub drop-behind : (s : ℕ) (xs : List X) (y : X) (ys : List X) → drop s xs ≡ y ∷ ys → drop (s + 1) xs ≡ ys
  drop-behind zero xs y ys e = ap (λ zs. drop 1 zs) e
  drop-behind (suc s) [] y ys e = absurd (cc)
  drop-behind (suc s) (x ∷ xs) y ys e = let same : suc s + 1 ≡ suc (s + 1) = omega arith in ap (λ k. drop k (x ∷ xs)) same ∙ drop-behind s xs y ys e

  pub drop-mapped : {Y : Type 0} (f : X → Y) (s : ℕ) (xs : List X) → drop s (map f xs) ≡ map f (drop s xs)
  drop-mapped f zero xs = refl
  drop-mapped f (suc s) [] = refl
  drop-mapped f (suc s) (x ∷ xs) = drop-mapped f s xs

  -- what stands behind the first that passes
  pub after-here : (p : X → Bool) (x : X) (xs : List X) → p x ≡ true → after_first p (x ∷ xs) ≡ xs
  after-here p x xs is = ap (λ b. drop (cond (not b) (1 + prefix_len (λ y. not (p y)) xs) 0 + 1) (x ∷ xs)) is

  pub after-later : (p : X → Bool) (x : X) (xs : List X) → p x ≡ false → after_first p (x ∷ xs) ≡ after_first p xs
  after-later p x xs is =
      let n = prefix_len (λ y. not (p y)) xs in
      let count : 1 + n + 1 ≡ suc (n + 1) = omega arith in
      ap (λ b. drop (cond (not b) (1 + n) 0 + 1) (x ∷ xs)) is ∙ ap (λ m. drop m (x ∷ xs)) count

  -- a search among some that it may find is one among all
  pub find-among : (p q : X → Bool) → ((x : X) → p x ≡ true → q x ≡ true) → (xs : List X) → find p (filter q xs) ≡ find p xs
  find-among p q among [] = refl
  find-among p q among (x ∷ xs) = by_tests (p x) (q x) refl refl (find-among p q among xs)
    where
      by_tests : (a b : Bool) → p x ≡ a → q x ≡ b → find p (filter q xs) ≡ find p xs → find p (cond b (x ∷ filter q xs) (filter q xs)) ≡ cond a (Some x) (find p xs)
      by_tests true true e f rest = find-first p x (filter q xs) e
      by_tests false true e f rest = find-later p x (filter q xs) e ∙ rest
      by_tests false false e f rest = rest
      by_tests true false e f rest = let g : q x ≡ true = among x e in absurd (cc)

-- each is found by its link
found-from : (all ns : List (Linked Held)) → AreApart (λ n. n.link) ns → ((m : Linked Held) (h : ℕ) → find (is_at h) ns ≡ Some m → find (is_at h) all ≡ Some m)
    → AllByRecursion (λ n. find (is_at n.link) all ≡ Some n) ns
found-from all [] apart there = tt
found-from all (n ∷ ns) apart there = (
  there n n.link (find-first (is_at n.link) n ns (eq-eqb n.link n.link refl)),
  found-from all ns apart.1
      (λ m h e.
      there m h
      (find-later (is_at h) n ns
      (ne_eqb n.link h
      (λ same.
      let other = find-holds (λ j. n.link ≢ j.link) (is_at h) ns m apart.0 e in
      other (same ∙ sym (eqb-true m.link h (find-passes (is_at h) ns m e))))) ∙ e)),
)

pub all-found : (ns : List (Linked Held)) → AreApart (λ n. n.link) ns → AllByRecursion (λ n. find (is_at n.link) ns ≡ Some n) ns
all-found ns apart = found-from ns ns apart (λ m h e. e)

-- what stands behind an order in a list of filed ones
pub after-drop : (at : Held → ℕ) (s : ℕ) (ns : List (Linked Held)) (n : Linked Held) (rest : List (Linked Held)) → AreApart (λ m. at m.item) ns → drop s ns ≡ n ∷ rest
    → after_first (is_at (at n.item)) (map (filed_at at) ns) ≡ map (filed_at at) rest
after-drop at zero ns n rest apart e =
    ap (λ ms. after_first (is_at (at n.item)) (map (filed_at at) ms)) e
    ∙ after-here (is_at (at n.item)) (filed_at at n) (map (filed_at at) rest) (eq-eqb (at n.item) (at n.item) refl)
after-drop at (suc s) [] n rest apart e = absurd (cc)
after-drop at (suc s) (m ∷ ms) n rest apart e =
    let behind : AllByRecursion (λ k. at m.item ≢ at k.item) (n ∷ rest) = subst (AllByRecursion (λ (k : Linked Held). at m.item ≢ at k.item)) e (each-drop (λ k. at m.item ≢ at k.item) s ms apart.0) in
    after-later (is_at (at n.item)) (filed_at at m) (map (filed_at at) ms) (ne_eqb (at m.item) (at n.item) behind.0)
    ∙ after-drop at s ms n rest apart.1 e

eqb-is : (a b : ℕ) → eqb a b ≡ true → a ≡ b
eqb-is a b e = eqb-true a b e

pub filter-keys : (p : Linked Held → Bool) (ns : List (Linked Held)) → AllByRecursion (λ n. p n ≡ true) (filter p ns)
filter-keys p [] = tt
filter-keys p (n ∷ ns) = by_test (p n) refl (filter-keys p ns)
  where
    by_test : (b : Bool) → p n ≡ b → AllByRecursion (λ n. p n ≡ true) (filter p ns) → AllByRecursion (λ n. p n ≡ true) (cond b (n ∷ filter p ns) (filter p ns))
    by_test true e rest = (e, rest)
    by_test false e rest = rest

-- where a walk over the list of a key has come to
pub record IsAtNode (key : Order → ℕ) (at : Held → ℕ) (lists : List (List (Linked ℕ))) (ns : List (Linked Held)) (list s link : ℕ) : Type 0 where
  pub node : Linked Held
  pub link_is : link ≡ at node.item
  pub found : find (is_at node.link) ns ≡ Some node
  pub filed : IsIn lists link list node.link
  pub here : drop s (filter (λ n. eqb (key n.item.order) list) ns) ≡ node ∷ drop (s + 1) (filter (λ n. eqb (key n.item.order) list) ns)
  pub next : after_first (is_at link) (list_at lists list) ≡ drop (s + 1) (list_at lists list)

module _ (key : Order → ℕ) (at : Held → ℕ) (lists : List (List (Linked ℕ))) (ns : List (Linked Held)) (list : ℕ) (apart : AreApart (λ n. n.link) ns) (is : IsFiled key at lists ns) (within : list < length lists) where
  abbrev of_key : List (Linked Held)
  of_key = filter (λ n. eqb (key n.item.order) list) ns

  listed : list_at lists list ≡ map (filed_at at) of_key
  listed = is.lists_are list within

  dropped : (s : ℕ) → drop s (list_at lists list) ≡ map (filed_at at) (drop s of_key)
  dropped s = ap (drop s) listed ∙ drop-mapped (filed_at at) s of_key

  pub at-node : (s : ℕ) (place : Option ℕ) (link : ℕ) → place ≡ first_link (drop s (list_at lists list)) → place ≡ Some link → IsAtNode key at lists ns list s link
  at-node s place link first some = by_rest (drop s of_key) refl (sym some ∙ first ∙ ap first_link (dropped s))
    where
      by_rest : (rest : List (Linked Held)) → drop s of_key ≡ rest → Path (Option ℕ) (Some link) (first_link (map (filed_at at) rest)) → IsAtNode key at lists ns list s link
      by_rest [] e head = absurd (cc)
      by_rest (n ∷ rest) e head =
          let link_is : link ≡ at n.item = cc in
          let behind : drop (s + 1) of_key ≡ rest = drop-behind s of_key n rest e in
          let founds : AllByRecursion (λ m. find (is_at m.link) ns ≡ Some m) (n ∷ rest) =
          subst (AllByRecursion (λ (m : Linked Held). find (is_at m.link) ns ≡ Some m)) e
          (each-drop (λ m. find (is_at m.link) ns ≡ Some m) s of_key (each-filter (λ m. find (is_at m.link) ns ≡ Some m) (λ m. eqb (key m.item.order) list) ns (all-found ns apart))) in
          let keys : AllByRecursion (λ m. eqb (key m.item.order) list ≡ true) (n ∷ rest) =
          subst (AllByRecursion (λ (m : Linked Held). eqb (key m.item.order) list ≡ true)) e
          (each-drop (λ m. eqb (key m.item.order) list ≡ true) s of_key (filter-keys (λ m. eqb (key m.item.order) list) ns)) in
          let filed = filed-in key at lists ns n.link n is founds.0 in
          record {
            node = n;
            link_is = link_is;
            found = founds.0;
            filed =
                subst (λ l. IsIn lists l list n.link) (sym link_is)
                (subst (λ k. IsIn lists (at n.item) k n.link) (eqb-is (key n.item.order) list keys.0) filed);
            here = e ∙ ap (λ ms. n ∷ ms) (sym behind);
            next =
                ap (λ l. after_first (is_at l) (list_at lists list)) link_is ∙ ap (after_first (is_at (at n.item))) listed
                ∙ after-drop at s of_key n rest (apart-filter (λ m. at m.item) (λ m. eqb (key m.item.order) list) ns is.apart) e
                ∙ ap (map (filed_at at)) (sym behind) ∙ sym (dropped (s + 1));
          }

  -- at its end nothing is left
  pub at-end : (s : ℕ) (place : Option ℕ) → place ≡ first_link (drop s (list_at lists list)) → place ≡ None → drop s of_key ≡ []
  at-end s place first none = by_rest (drop s of_key) refl (sym none ∙ first ∙ ap first_link (dropped s))
    where
      by_rest : (rest : List (Linked Held)) → drop s of_key ≡ rest → Path (Option ℕ) None (first_link (map (filed_at at) rest)) → drop s of_key ≡ []
      by_rest [] e head = e
      by_rest (n ∷ rest) e head = absurd (cc)

  pub past-end : (s : ℕ) → length ns ≤ s → drop s of_key ≡ []
  past-end s past = drop_all s of_key (omega (arith, past, length-filter (λ n. eqb (key n.item.order) list) ns, count_by-le-length (λ n. eqb (key n.item.order) list) ns))

-- the order of a caller's own number is in its bucket
bucket-has : (buckets own : ℕ) (caller : Caller) (o : Order) → is_of caller own o ≡ true → owner_key buckets o ≡ bucket_of buckets caller own
bucket-has buckets own caller o e = by_tests (eqb caller.0 o.caller.0) (eqb own o.own) refl refl e
  where
    by_tests : (a b : Bool) → eqb caller.0 o.caller.0 ≡ a → eqb own o.own ≡ b → (a && b) ≡ true → owner_key buckets o ≡ bucket_of buckets caller own
    by_tests true true f g so =
        let same : caller.0 ≡ o.caller.0 = eqb-true caller.0 o.caller.0 f in
        let same_too : own ≡ o.own = eqb-true own o.own g in
        ap (λ k. (o.own + k * 2654435769) % buckets) (sym same) ∙ ap (λ k. (k + caller.0 * 2654435769) % buckets) (sym same_too)
    by_tests true false f g so = absurd (cc)
    by_tests false b f g so = absurd (cc)

option-map-twice : {X Y Z : Type 0} (f : X → Y) (g : Y → Z) (o : Option X) → option_map g (option_map f o) ≡ option_map (λ x. g (f x)) o
option-map-twice f g None = refl
option-map-twice f g (Some x) = refl

-- so what the bucket has is what the book has
pub own-found : (buckets own : ℕ) (caller : Caller) (ns : List (Linked Held))
    → option_map (λ n. n.link) (find (λ n. is_of caller own n.item.order) (filter (λ n. eqb (owner_key buckets n.item.order) (bucket_of buckets caller own)) ns))
    ≡ option_map (λ s. s.handle) (find (λ s. is_of caller own s.order) (map slot_at ns))
own-found buckets own caller ns =
    ap (option_map (λ (n : Linked Held). n.link))
    (find-among (λ (n : Linked Held). is_of caller own n.item.order) (λ n. eqb (owner_key buckets n.item.order) (bucket_of buckets caller own))
    (λ n so. eq-eqb (owner_key buckets n.item.order) (bucket_of buckets caller own) (bucket-has buckets own caller n.item.order so)) ns)
    ∙ sym (option-map-twice slot_at (λ (s : Slot). s.handle) (find (λ (n : Linked Held). is_of caller own n.item.order) ns))
    ∙ ap (option_map (λ (s : Slot). s.handle)) (sym (find-map slot_at (λ s. is_of caller own s.order) ns))
