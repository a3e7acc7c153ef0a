-- The fields of an `OrderList`, and the lists that they stand for.
use Rattle.std.proofs.Common.{◌≡◌, ℕ, zero, suc, ◌<◌, ◌≤◌, List, [], ◌∷◌, ◌++◌, length, map, Option, Some, option_map, unwrap_or, refl, sym, ◌∙◌, ap, subst, arith}
use Rattle.std.proofs.lemmas.List.{ext_get_or, get_or-map, length-map}
use Rattle.slab.specs.Slab.{Slab, get, slab_len}
use Rattle.order_list.specs.Lists.{IsIn, Linked, Lists, list_at}
use Rattle.order_list.specs.Links.{AreApart, AreLinked, IsSegment, IsSound, end_at, no_ends, shown, walk_from}
use Rattle.order_list.specs.declared.link.Beside.{Beside}
use Rattle.order_list.specs.declared.link.Beside.TheVariants.{Neighbour, End}
use Rattle.order_list.specs.declared.node.Node.{Node}
use Rattle.order_list.specs.declared.node.Ends.{Ends}
use Rattle.order_list.proofs.ListLemmas.{length-within, split-at}
use Rattle.order_list.proofs.OpenLemmas.{AreAlone, IsOpen, are-alone, open-cut}

module _ {T : Type 0} where
  -- a walk over enough nodes shows the items that it goes over
  pub walk_from-is : (cells : ℕ → Option (Node T)) (list : ℕ) (before at : Beside) (ns : List (Linked T)) (last : Beside) (most : ℕ)
      → length ns ≤ most → IsSegment cells before at ns last (End list) → walk_from cells most at ≡ ns
  walk_from-is cells list before at [] last zero enough walk = refl
  walk_from-is cells list before at [] last (suc most) enough walk = ap (walk_from cells (suc most)) walk.1
  walk_from-is cells list before at (n ∷ ns) last zero enough walk = absurd (omega arith)
  walk_from-is cells list before at (n ∷ ns) last (suc most) enough walk =
      ap (walk_from cells (suc most)) walk.0
      ∙ ap (λ o. unwrap_or (option_map (λ (node : Node T). record { link = n.link; item = node.item } ∷ walk_from cells most node.after) o) []) walk.1.1
      ∙ ap (λ ms. n ∷ ms) (walk_from-is cells list (Neighbour n.link) walk.1.0 ns last most (omega arith) walk.1.2)

  -- the fields show the lists that they stand for
  pub shown-is : (nodes : Slab (Node T)) (ends : List Ends) (sound : IsSound nodes ends) → (shown nodes ends).lists ≡ sound.lists
  shown-is nodes ends sound =
      let walk : Ends → List (Linked T) = λ (e : Ends). walk_from (get nodes) (slab_len nodes) e.first in
      ext_get_or [] (map walk ends) sound.lists (length-map ends walk ∙ sound.linked.same)
      (λ j less.
      let inside : j < length ends = omega (arith, length-map ends walk) in
      let within : j < length sound.lists = omega (arith, sound.linked.same) in
      get_or-map walk ends j (no_ends j) [] inside
      ∙ walk_from-is (get nodes) j (End j) (end_at ends j).first (list_at sound.lists j) (end_at ends j).last (slab_len nodes)
      (omega (arith, length-within sound.lists j within, sound.counted)) (sound.linked.each j within))

  pub lists-are : (nodes : Slab (Node T)) (ends : List Ends) (value : Lists T) (sound : IsSound nodes ends) → shown nodes ends ≡ value → value.lists ≡ sound.lists
  lists-are nodes ends value sound is = sym (ap (λ (l : Lists T). l.lists) is) ∙ shown-is nodes ends sound

  -- the node of a live link, and its list cut around it and before it
  pub record HasNode (nodes : Slab (Node T)) (ends : List Ends) (lists : List (List (Linked T))) (link list : ℕ) (item : T) : Type 0 where
    pub xs : List (Linked T)
    pub ys : List (Linked T)
    pub p : Beside
    pub q : Beside
    pub is : list_at lists list ≡ xs ++ record { link = link; item = item } ∷ ys
    pub cell : get nodes link ≡ Some (record { before = p; after = q; item = item })
    pub around : IsOpen nodes ends lists list xs ys p (Neighbour link) (Neighbour link) q
    pub front : IsOpen nodes ends lists list xs (record { link = link; item = item } ∷ ys) p (Neighbour link) p (Neighbour link)
    pub apart : AreApart (xs ++ record { link = link; item = item } ∷ ys)
    pub alone : AreAlone lists list (xs ++ record { link = link; item = item } ∷ ys)

  pub has-node : (nodes : Slab (Node T)) (ends : List Ends) (lists : List (List (Linked T))) (link list : ℕ) (item : T)
      → AreLinked (get nodes) ends lists → IsIn lists link list item → HasNode nodes ends lists link list item
  has-node nodes ends lists link list item linked live =
      let node : Linked T = record { link = link; item = item } in
      let split = split-at (list_at lists list) link node live.found in
      let parts = open-cut nodes ends lists list split.xs (node ∷ split.ys) linked live.within split.is in
      let halves = parts.2 in
      let walk = halves.right in
      record {
        xs = split.xs;
        ys = split.ys;
        p = parts.0;
        q = walk.1.0;
        is = split.is;
        cell = walk.1.1;
        around =
            record {
              within = halves.within;
              same = halves.same;
              left = subst (λ a. IsSegment (get nodes) (End list) (end_at ends list).first split.xs parts.0 a) walk.0 halves.left;
              right = walk.1.2;
              others = halves.others;
            };
        front = subst (λ a. IsOpen nodes ends lists list split.xs (node ∷ split.ys) parts.0 a parts.0 a) walk.0 halves;
        apart = subst AreApart split.is (linked.apart list);
        alone = subst (AreAlone lists list) split.is (are-alone nodes ends lists list linked live.within);
      }
