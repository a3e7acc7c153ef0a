-- Where each live link stands after a call.
use Rattle.std.proofs.Common.{◌≡◌, ◌≢◌, ℕ, ◌<◌, List, [], ◌∷◌, ◌++◌, length, map, set, Option, Some, None, option_map, refl, sym, ◌∙◌, ap, subst, inl, inr, not, cond}
use Rattle.std.specs.List.{filter, find}
use Rattle.std.proofs.lemmas.Bool.{cases_eq, eq-eqb, ne_eqb}
use Rattle.std.proofs.lemmas.List.{get_or-map, get_or-set_other, get_or-set_same, length-map, length-set}
use Rattle.order_list.specs.Lists.{IsIn, IsLive, Linked, OthersStay, Stay, first_link, is_at, item_at, list_at, put_before, with_before, with_item, with_last, without}
use Rattle.order_list.specs.Links.{AreApart, IsAbsent}
use Rattle.std.specs.Option.{IfSome}
use Rattle.order_list.proofs.SegmentLemmas.{absent-append, link-is}
use Rattle.order_list.proofs.ListLemmas.{find-absent, find-at, find-filter, find-front, find-gone, find-item_at, find-new, find-put_before}

-- a fact of what an option holds, if it holds something
pub if-some : {A : Type 0} (o : Option A) (P : A → Type 0) → ((a : A) → o ≡ Some a → P a) → IfSome o P
if-some None P holds = tt
if-some (Some a) P holds = holds a refl

module _ {T : Type 0} where
  -- what is found in a list of changed lists
  changed : (f : List (Linked T) → List (Linked T)) (lists : List (List (Linked T))) (link list : ℕ) (item : T) → list < length lists
      → find (is_at link) (f (list_at lists list)) ≡ Some (record { link = link; item = item }) → IsIn (map f lists) link list item
  changed f lists link list item within found =
      record {
        within = subst (λ n. list < n) (sym (length-map lists f)) within;
        found = ap (find (is_at link)) (get_or-map f lists list [] [] within) ∙ found;
      }

  pub names-last : (lists : List (List (Linked T))) (list key : ℕ) (item : T) → list < length lists → IsAbsent key (list_at lists list)
      → IsIn (with_last list (record { link = key; item = item }) lists) key list item
  names-last lists list key item within absent =
      let node : Linked T = record { link = key; item = item } in
      let all = list_at lists list ++ node ∷ [] in
      record {
        within = subst (λ n. list < n) (sym (length-set lists list all)) within;
        found = ap (find (is_at key)) (get_or-set_same lists list all [] within) ∙ find-at key (list_at lists list) node [] absent refl;
      }

  pub stay-last : (lists : List (List (Linked T))) (list : ℕ) (node : Linked T) → list < length lists → Stay lists (with_last list node lists)
  stay-last lists list node inside link k item live =
      let all = list_at lists list ++ node ∷ [] in
      let it : Linked T = record { link = link; item = item } in
      record {
        within = subst (λ n. k < n) (sym (length-set lists list all)) live.within;
        found =
            elim (cases_eq k list) [
              | inl is ↦
                  ap (λ i. find (is_at link) (list_at (set lists list all) i)) is ∙ ap (find (is_at link)) (get_or-set_same lists list all [] inside)
                  ∙ find-front link (list_at lists list) (node ∷ []) it (sym (ap (λ i. find (is_at link) (list_at lists i)) is) ∙ live.found)
              | inr differs ↦ ap (find (is_at link)) (get_or-set_other lists list k all [] differs) ∙ live.found
            ];
      }

  pub gone-without : (lists : List (List (Linked T))) (link : ℕ) → ¬ IsLive (without link lists) link
  gone-without lists link live =
      let f : List (Linked T) → List (Linked T) = filter (λ node. not (is_at link node)) in
      let within : live.0 < length lists = subst (λ n. live.0 < n) (length-map lists f) live.2.within in
      let none : Path (Option (Linked T)) None (Some (record { link = link; item = live.1 })) =
      sym (ap (find (is_at link)) (get_or-map f lists live.0 [] [] within) ∙ find-gone link (list_at lists live.0)) ∙ live.2.found in
      absurd (cc)

  pub others-without : (lists : List (List (Linked T))) (link : ℕ) → OthersStay link lists (without link lists)
  others-without lists link other list item differs live =
      changed (filter (λ node. not (is_at link node))) lists other list item live.within (find-filter link other differs (list_at lists list) ∙ live.found)

  pub names-before : (lists : List (List (Linked T))) (link list : ℕ) (there : T) (new : Linked T) → IsIn lists link list there → IsAbsent new.link (list_at lists list)
      → IsIn (with_before link new lists) new.link list new.item
  names-before lists link list there new live absent =
      changed (put_before link new) lists new.link list new.item live.within
      (find-new link new (list_at lists list) (record { link = link; item = there }) live.found absent)

  pub stay-before : (lists : List (List (Linked T))) (link : ℕ) (new : Linked T) → ((list : ℕ) → IsAbsent new.link (list_at lists list)) → Stay lists (with_before link new lists)
  stay-before lists link new absent other list item live =
      let it : Linked T = record { link = other; item = item } in
      let differs : new.link ≢ other =
      λ same.
      let none : Path (Option (Linked T)) None (Some it) =
      sym (ap (λ n. find (is_at n) (list_at lists list)) (sym same) ∙ find-absent new.link (list_at lists list) (absent list)) ∙ live.found in
      cc in
      changed (put_before link new) lists other list item live.within (find-put_before link other new differs (list_at lists list) ∙ live.found)

  pub names-item : (lists : List (List (Linked T))) (link list : ℕ) (old item : T) → IsIn lists link list old → IsIn (with_item link item lists) link list item
  names-item lists link list old item live =
      changed (map (item_at link item)) lists link list item live.within
      (find-item_at link link item (list_at lists list) ∙ ap (option_map (item_at link item)) live.found
      ∙ ap (λ b. Some (record { link = link; item = cond b item old })) (eq-eqb link link refl))

  pub others-item : (lists : List (List (Linked T))) (link : ℕ) (new : T) → OthersStay link lists (with_item link new lists)
  others-item lists link new other list item differs live =
      changed (map (item_at link new)) lists other list item live.within
      (find-item_at link other new (list_at lists list) ∙ ap (option_map (item_at link new)) live.found
      ∙ ap (λ b. Some (record { link = other; item = cond b new item })) (ne_eqb other link differs))

  -- the first of a list is found by its link
  pub live-first : (nodes : List (Linked T)) (link : ℕ) → first_link nodes ≡ Some link
      → (item : T) × (find (is_at link) nodes ≡ Some (record { link = link; item = item }))
  live-first [] link first = let none : None ≡ Some link = first in absurd (cc)
  live-first (n ∷ nodes) link first =
      let same : n.link ≡ link = link-is first in
      (n.item, subst (λ k. find (is_at k) (n ∷ nodes) ≡ Some (record { link = k; item = n.item })) same (ap (λ b. cond b (Some n) (find (is_at n.link) nodes)) (eq-eqb n.link n.link refl)))

  first-absent : (nodes : List (Linked T)) (link other : ℕ) → first_link nodes ≡ Some link → IsAbsent other nodes → link ≢ other
  first-absent [] link other first absent = let none : None ≡ Some link = first in absurd (cc)
  first-absent (n ∷ nodes) link other first absent = λ same. absent.0 (link-is first ∙ same)

  -- so is the one after another
  pub live-after : (xs : List (Linked T)) (here : Linked T) (ys : List (Linked T)) (link : ℕ) → AreApart (xs ++ here ∷ ys) → first_link ys ≡ Some link
      → (item : T) × (find (is_at link) (xs ++ here ∷ ys) ≡ Some (record { link = link; item = item }))
  live-after [] here ys link apart first =
      let found = live-first ys link first in
      (found.0, ap (λ b. cond b (Some here) (find (is_at link) ys)) (ne_eqb here.link link (λ same. first-absent ys link here.link first apart.0 (sym same))) ∙ found.1)
  live-after (x ∷ xs) here ys link apart first =
      let found = live-after xs here ys link apart.1 first in
      let absent = (absent-append x.link xs (here ∷ ys) apart.0).1.1 in
      (found.0, ap (λ b. cond b (Some x) (find (is_at link) (xs ++ here ∷ ys))) (ne_eqb x.link link (λ same. first-absent ys link x.link first absent (sym same))) ∙ found.1)

  -- a link that stands nowhere is not live
  pub not-live : (lists : List (List (Linked T))) (link : ℕ) → ((list : ℕ) → IsAbsent link (list_at lists list)) → ¬ IsLive lists link
  not-live lists link absent live =
      let none : Path (Option (Linked T)) None (Some (record { link = link; item = live.1 })) =
      sym (find-absent link (list_at lists live.0) (absent live.0)) ∙ live.2.found in
      absurd (cc)
