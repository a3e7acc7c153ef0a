-- What each call makes of the fields, and of the book that they stand for.
use Rattle.std.proofs.Common.{◌≡◌, ◌≢◌, ℕ, ◌+◌, ◌-◌, ◌*◌, ◌<◌, ◌≤◌, ◌^◌, Bool, true, false, cond, not, eqb, List, [], ◌∷◌, ◌++◌, length, map, filter, get_or, replicate, set, Option, Some, None, refl, sym, ◌∙◌, ap, subst, inl, inr, arith}
use Rattle.std.specs.List.{All, AllByRecursion, find, sum}
use Rattle.std.specs.Option.{IsSome, option_map}
use Rattle.std.proofs.lemmas.Bool.{eq-eqb, eqb-true, false≢true, ne_eqb}
use Rattle.std.proofs.lemmas.Bool.Decides.{nat_tests}
use Rattle.std.proofs.lemmas.List.{get_or-map, get_or-replicate, get_or-set_same, length-map, length-replicate, length-set, length_push, map-append}
use Rattle.std.proofs.lemmas.List.Elements.{All-from_recursion, All-map, recursion_from_All}
use Rattle.order_list.specs.Lists.{IsFresh, IsIn, IsLive as IsLinkLive, Linked, Lists, is_at as is_link_at, item_at, list_at, with_item, with_last, without as without_link}
use Rattle.mkt_base.specs.Book.{total_left}
use Rattle.mkt_base.specs.Priority.{is_on_level}
use Rattle.mkt_base.specs.declared.order.Side.{Side}
use Rattle.mkt_base.specs.declared.order.Side.TheVariants.{Buy, Sell}
use Rattle.mkt_base.specs.declared.order.Spot.{Spot}
use Rattle.mkt_base.specs.declared.order.Spot.TheVariants.{Market, At}
use Rattle.mkt_base.specs.declared.order.Order.{Order}
use Rattle.book_law.specs.BookView.{BookView, IsBookView, IsFresh as IsFreshOrder, IsInserted, IsLive, IsSpotBelow, Names, Slot, is_at, less, less_at, orders, reduced, slot_of, without}
use Rattle.order_book.specs.Depths.{AreDepthsOf, DepthView, by_spot, depth_at, fewer, is_limit_buy, more}
use Rattle.order_book.specs.Linked.{AreApart, Holds, IsFiled, IsLinked, level_at, level_key, level_no, linked, orders_in, owner_at, owner_key, slot_at}
use Rattle.order_book.specs.declared.held.Filed.{Filed}
use Rattle.order_book.specs.declared.held.Held.{Held}
use Rattle.order_book.proofs.FiledLemmas.{apart-filter, apart-map, apart-push, filed-changed, filed-in, filed-inserted, filed-removed, filter-map, filter-same, find-cases, find-holds, find-passes, only-one}
use Rattle.order_book.proofs.DepthLemmas.{depth-is, depths-fewer, depths-more, is_limit_upto, none-found, others, sum-is, total-less, total-most, total-push, total-without}
use Rattle.order_book.proofs.PlainLemmas.{All-unmap, find-map}
use Rattle.order_book.proofs.ViewLemmas.{inserted-stands, reduced-stands, without-stands}

-- a number is that one, or that one is the number
eqb-turn : (a b : ℕ) → eqb a b ≡ eqb b a
eqb-turn a b = grind (arith, nat_tests)

-- the slot of a handle, among the orders by place
at-handle : ℕ → Linked Held → Bool
at-handle h n = eqb h n.link

find-turn : (h : ℕ) (ns : List (Linked Held)) → find (λ n. eqb h n.link) ns ≡ find (is_link_at h) ns
find-turn h [] = refl
find-turn h (n ∷ ns) = ap (λ b. cond b (Some n) (find (λ m. eqb h m.link) ns)) (eqb-turn h n.link) ∙ ap (λ o. cond (eqb n.link h) (Some n) o) (find-turn h ns)

-- what a live handle finds
node-of : (h : ℕ) (found : Option (Linked Held)) (ns : List (Linked Held)) → find (is_link_at h) ns ≡ found → IsSome (option_map slot_at found)
    → (x : Held) × (find (is_link_at h) ns ≡ Some (record { link = h; item = x }))
node-of h None ns e some = absurd (false≢true some)
node-of h (Some n) ns e some =
    let same : n.link ≡ h = eqb-true n.link h (find-passes (is_link_at h) ns n e) in
    (n.item, e ∙ ap (λ k. Some (record { link = k; item = n.item })) same)

pub live-node : (h : ℕ) (ns : List (Linked Held)) (n c : ℕ) → IsSome (find (is_at h) (map slot_at ns)) → (x : Held) × (find (is_link_at h) ns ≡ Some (record { link = h; item = x }))
live-node h ns n c live =
    node-of h (find (is_link_at h) ns) ns refl (subst IsSome (find-map slot_at (is_at h) ns ∙ ap (option_map slot_at) (find-turn h ns)) live)

pub names-node : (h : ℕ) (ns : List (Linked Held)) (x : Held) → find (is_link_at h) ns ≡ Some (record { link = h; item = x }) → find (is_at h) (map slot_at ns) ≡ Some (slot_of h x.order)
names-node h ns x e = find-map slot_at (is_at h) ns ∙ ap (option_map slot_at) (find-turn h ns ∙ e)

-- the slots after an order was taken out
slots-without : (h : ℕ) (ns : List (Linked Held)) → map slot_at (filter (λ n. not (is_link_at h n)) ns) ≡ filter (λ s. not (is_at h s)) (map slot_at ns)
slots-without h ns =
    ap (map slot_at) (filter-same (λ n. not (is_link_at h n)) (λ n. not (is_at h (slot_at n))) ns (all ns))
    ∙ sym (filter-map (λ s. not (is_at h s)) slot_at ns)
  where
    all : (ms : List (Linked Held)) → AllByRecursion (λ n. not (is_link_at h n) ≡ not (is_at h (slot_at n))) ms
    all [] = tt
    all (m ∷ ms) = (ap not (eqb-turn m.link h), all ms)

-- the slots after one has less left
less-none : (o : Order) → less 0 o ≡ o
less-none o = let same : o.left - 0 ≡ o.left = omega arith in ap (λ n. record o { left = n }) same

slots-less : (h by : ℕ) (x : Held) (t : Linked Held) (ns : List (Linked Held)) → AllByRecursion (λ n. n.link ≡ h → n ≡ t) ns → x.order ≡ less by t.item.order
    → map slot_at (map (item_at h x) ns) ≡ map (less_at h by) (map slot_at ns)
slots-less h by x t [] one is = refl
slots-less h by x t (n ∷ ns) one is =
    ap (λ ss. slot_of n.link (cond (is_link_at h n) x n.item).order ∷ ss) (slots-less h by x t ns one.1 is)
    ∙ ap (λ o. slot_of n.link o ∷ map (less_at h by) (map slot_at ns)) (by_test (is_link_at h n) refl)
  where
    by_test : (b : Bool) → is_link_at h n ≡ b → (cond (is_link_at h n) x n.item).order ≡ less (cond (eqb h n.link) by 0) n.item.order
    by_test true e =
        let same : n ≡ t = one.0 (eqb-true n.link h e) in
        ap (λ b. (cond b x n.item).order) e ∙ is ∙ ap (λ (m : Linked Held). less by m.item.order) (sym same)
        ∙ ap (λ b. less (cond b by 0) n.item.order) (sym (eqb-turn h n.link ∙ e))
    by_test false e =
        ap (λ b. (cond b x n.item).order) e ∙ sym (less-none n.item.order)
        ∙ ap (λ b. less (cond b by 0) n.item.order) (sym (eqb-turn h n.link ∙ e))

orders-are : (ns : List (Linked Held)) → map (λ s. s.order) (map slot_at ns) ≡ orders_in ns
orders-are [] = refl
orders-are (n ∷ ns) = ap (λ os. n.item.order ∷ os) (orders-are ns)

orders-push : (ns : List (Linked Held)) (n : Linked Held) → orders_in (ns ++ n ∷ []) ≡ orders_in ns ++ n.item.order ∷ []
orders-push ns n = map-append (λ (m : Linked Held). m.item.order) ns (n ∷ [])

-- a new item in the place of the last, which has a link of its own
last-changed : (h : ℕ) (x y : Held) (ns : List (Linked Held)) → AllByRecursion (λ n. n.link ≢ h) ns
    → map (item_at h x) (ns ++ record { link = h; item = y } ∷ []) ≡ ns ++ record { link = h; item = x } ∷ []
last-changed h x y [] fresh = ap (λ b. record { link = h; item = cond b x y } ∷ []) (eq-eqb h h refl)
last-changed h x y (n ∷ ns) fresh =
    ap (λ b. record n { item = cond b x n.item } ∷ map (item_at h x) (ns ++ record { link = h; item = y } ∷ [])) (ne_eqb n.link h fresh.0)
    ∙ ap (λ ms. n ∷ ms) (last-changed h x y ns fresh.1)

-- where there is one list a link names one order
pub same-held : (lists : List (List (Linked Held))) (link list : ℕ) (x y : Held) → length lists ≡ 1 → IsIn lists link 0 x → IsIn lists link list y → x ≡ y
same-held lists link list x y one first second =
    let here : list ≡ 0 = omega (arith, one, second.within) in
    let found = subst (λ k. find (is_link_at link) (list_at lists k) ≡ Some (record { link = link; item = y })) here second.found in
    same (record { link = link; item = x }) (record { link = link; item = y }) (sym first.found ∙ found)
  where
    same : (m n : Linked Held) → Path (Option (Linked Held)) (Some m) (Some n) → m.item ≡ n.item
    same m n e = let is : m ≡ n = cc in ap (λ (k : Linked Held). k.item) is

-- without one order there is one less
length-without : (h : ℕ) (t : Linked Held) (ns : List (Linked Held)) → AreApart (λ n. n.link) ns → find (is_link_at h) ns ≡ Some t → length (filter (λ n. not (is_link_at h n)) ns) + 1 ≡ length ns
length-without h t [] apart e = absurd (cc)
length-without h t (n ∷ ns) apart e =
    elim (find-cases (is_link_at h) n ns t e) [
      | inl here ↦
          let rest : filter (λ m. not (is_link_at h m)) (n ∷ ns) ≡ ns =
          ap (λ b. cond (not b) (n ∷ filter (λ m. not (is_link_at h m)) ns) (filter (λ m. not (is_link_at h m)) ns)) here.0 ∙ none-found h ns (others h n ns here.0 apart.0) in
          omega (arith, ap (length {A = Linked Held}) rest)
      | inr there ↦
          let kept : filter (λ m. not (is_link_at h m)) (n ∷ ns) ≡ n ∷ filter (λ m. not (is_link_at h m)) ns =
          ap (λ b. cond (not b) (n ∷ filter (λ m. not (is_link_at h m)) ns) (filter (λ m. not (is_link_at h m)) ns)) there.0 in
          omega (arith, ap (length {A = Linked Held}) kept, length-without h t ns apart.1 there.1)
    ]

-- an order stands on its own level
own-level : (side : Side) (spot : Spot) → is_on_level side spot (record { place = 0; caller = record { 0 = 0 }; own = 0; participant = record { 0 = 0 }; side = side; spot = spot; left = 0 }) ≡ true
own-level Buy Market = refl
own-level Sell Market = refl
own-level Buy (At i) = eq-eqb i i refl
own-level Sell (At i) = eq-eqb i i refl

-- each level of the grid has a list
pub level-within : (n : ℕ) (side : Side) (spot : Spot) → IsSpotBelow n spot → level_no side spot < 2 * n + 2
level-within n Buy Market below = omega arith
level-within n Sell Market below = omega arith
level-within n Buy (At i) below = omega (arith, below)
level-within n Sell (At i) below = omega (arith, below)

-- an order more
module _ (n c b : ℕ) (ns : List (Linked Held)) (spare spare' : ℕ) (levels owners levels' owners' : Lists ℕ) (d d' : DepthView) (is : Holds n c b ns spare levels owners d)
    (o : Order) (h l w : ℕ) (x : Held) (x_is : x ≡ record { order = o; filed = record { level = l; owner = w } })
    (new : IsFreshOrder (record { prices = n; capacity = c; slots = map slot_at ns }) o) (fresh : AllByRecursion (λ m. m.link ≢ h) ns)
    (levels_are : levels'.lists ≡ with_last (level_key o) (record { link = l; item = h }) levels.lists) (level_free : ¬ IsLinkLive levels.lists l) (level_spare : levels'.spare + 1 ≡ levels.spare)
    (owners_are : owners'.lists ≡ with_last (owner_key b o) (record { link = w; item = h }) owners.lists) (owner_free : ¬ IsLinkLive owners.lists w) (owner_spare : owners'.spare + 1 ≡ owners.spare)
    (bucket : owner_key b o < b) (depths_are : d' ≡ more o.side o.spot o.left d) (held_spare : spare' + 1 ≡ spare) where
  abbrev added : Linked Held
  added = record { link = h; item = x }

  order-is : x.order ≡ o
  order-is = ap (λ (y : Held). y.order) x_is

  pub slots-inserted : map slot_at (ns ++ added ∷ []) ≡ map slot_at ns ++ slot_of h o ∷ []
  slots-inserted = map-append slot_at ns (added ∷ []) ∙ ap (λ y. map slot_at ns ++ slot_of h y ∷ []) order-is

  pub others-apart : All (λ s. s.handle ≢ h) (map slot_at ns)
  others-apart = All-map (λ s. s.handle ≢ h) slot_at ns (All-from_recursion (λ m. m.link ≢ h) ns fresh)

  pub inserted-holds : Holds n c b (ns ++ added ∷ []) spare' levels' owners' d'
  inserted-holds =
      let size = length_push ns added in
      let level_link : level_at x ≡ l = ap level_at x_is in
      let owner_link : owner_at x ≡ w = ap owner_at x_is in
      let below = new.spot in
      let level_in : level_key o < length levels.lists = omega (arith, level-within n o.side o.spot below, is.level_count) in
      record {
        book =
            subst (λ ss. IsBookView (record { prices = n; capacity = c; slots = ss })) (sym slots-inserted)
            (inserted-stands (record { prices = n; capacity = c; slots = map slot_at ns }) o h is.book new others-apart);
        apart = apart-push (λ m. m.link) ns added is.apart fresh;
        by_level =
            subst (λ ls. IsFiled level_key level_at ls (ns ++ added ∷ [])) (sym levels_are)
            (subst (λ y. IsFiled level_key level_at (with_last (level_key y) (record { link = l; item = h }) levels.lists) (ns ++ added ∷ [])) order-is
            (subst (λ k. IsFiled level_key level_at (with_last (level_key x.order) (record { link = k; item = h }) levels.lists) (ns ++ added ∷ [])) level_link
            (filed-inserted level_key level_at levels.lists ns added is.apart is.by_level (subst (λ y. level_key y < length levels.lists) (sym order-is) level_in)
            (subst (λ k. ¬ IsLinkLive levels.lists k) (sym level_link) level_free))));
        level_count = ap length levels_are ∙ length-set levels.lists (level_key o) _ ∙ is.level_count;
        by_owner =
            subst (λ ls. IsFiled (owner_key b) owner_at ls (ns ++ added ∷ [])) (sym owners_are)
            (subst (λ y. IsFiled (owner_key b) owner_at (with_last (owner_key b y) (record { link = w; item = h }) owners.lists) (ns ++ added ∷ [])) order-is
            (subst (λ k. IsFiled (owner_key b) owner_at (with_last (owner_key b x.order) (record { link = k; item = h }) owners.lists) (ns ++ added ∷ [])) owner_link
            (filed-inserted (owner_key b) owner_at owners.lists ns added is.apart is.by_owner
            (subst (λ y. owner_key b y < length owners.lists) (sym order-is) (omega (arith, bucket, is.owner_count)))
            (subst (λ k. ¬ IsLinkLive owners.lists k) (sym owner_link) owner_free))));
        owner_count = ap length owners_are ∙ length-set owners.lists (owner_key b o) _ ∙ is.owner_count;
        some_bucket = is.some_bucket;
        depths =
            subst (λ e. AreDepthsOf n e (orders_in (ns ++ added ∷ []))) (sym depths_are)
            (depths-more n d (orders_in ns) (orders_in (ns ++ added ∷ [])) o.left is.depths o.side o.spot below
            (λ q. ap (total_left (by_spot q)) (orders-push ns added ∙ ap (λ y. orders_in ns ++ y ∷ []) order-is) ∙ total-push (by_spot q) (orders_in ns) o));
        held_room = omega (arith, size, held_spare, is.held_room);
        level_room = omega (arith, size, level_spare, is.level_room);
        owner_room = omega (arith, size, owner_spare, is.owner_room);
      }

-- an order less
module _ (n c b : ℕ) (ns : List (Linked Held)) (spare spare' : ℕ) (levels owners levels' owners' : Lists ℕ) (d d' : DepthView) (is : Holds n c b ns spare levels owners d)
    (h : ℕ) (x : Held) (found : find (is_link_at h) ns ≡ Some (record { link = h; item = x })) (below : IsSpotBelow n x.order.spot)
    (levels_are : levels'.lists ≡ without_link (level_at x) levels.lists) (level_spare : levels'.spare ≡ levels.spare + 1)
    (owners_are : owners'.lists ≡ without_link (owner_at x) owners.lists) (owner_spare : owners'.spare ≡ owners.spare + 1)
    (depths_are : d' ≡ fewer x.order.side x.order.spot x.order.left d) (held_spare : spare' ≡ spare + 1) where
  abbrev gone : Linked Held
  gone = record { link = h; item = x }

  abbrev rest : List (Linked Held)
  rest = filter (λ m. not (is_link_at h m)) ns

  pub removed-holds : Holds n c b rest spare' levels' owners' d'
  removed-holds =
      let size = length-without h gone ns is.apart found in
      record {
        book =
            subst (λ ss. IsBookView (record { prices = n; capacity = c; slots = ss })) (sym (slots-without h ns))
            (without-stands (record { prices = n; capacity = c; slots = map slot_at ns }) h is.book);
        apart = apart-filter (λ m. m.link) (λ m. not (is_link_at h m)) ns is.apart;
        by_level = subst (λ ls. IsFiled level_key level_at ls rest) (sym levels_are) (filed-removed level_key level_at levels.lists ns h gone is.apart is.by_level found);
        level_count = ap length levels_are ∙ length-map levels.lists _ ∙ is.level_count;
        by_owner = subst (λ ls. IsFiled (owner_key b) owner_at ls rest) (sym owners_are) (filed-removed (owner_key b) owner_at owners.lists ns h gone is.apart is.by_owner found);
        owner_count = ap length owners_are ∙ length-map owners.lists _ ∙ is.owner_count;
        some_bucket = is.some_bucket;
        depths =
            subst (λ e. AreDepthsOf n e (orders_in rest)) (sym depths_are)
            (depths-fewer n d (orders_in ns) (orders_in rest) x.order.left is.depths x.order.side x.order.spot below
            (λ q. total-without h gone (by_spot q) ns is.apart found));
        held_room = omega (arith, size, held_spare, is.held_room);
        level_room = omega (arith, size, level_spare, is.level_room);
        owner_room = omega (arith, size, owner_spare, is.owner_room);
      }

-- an order with less left
module _ (n c b : ℕ) (ns : List (Linked Held)) (spare : ℕ) (levels owners : Lists ℕ) (d d' : DepthView) (is : Holds n c b ns spare levels owners d)
    (h by : ℕ) (x y : Held) (found : find (is_link_at h) ns ≡ Some (record { link = h; item = x })) (below : IsSpotBelow n x.order.spot)
    (y_is : y ≡ record { order = less by x.order; filed = x.filed }) (within : by < x.order.left)
    (depths_are : d' ≡ fewer x.order.side x.order.spot by d) where
  abbrev was : Linked Held
  was = record { link = h; item = x }

  abbrev changed : List (Linked Held)
  changed = map (item_at h y) ns

  order-less : y.order ≡ less by x.order
  order-less = ap (λ (z : Held). z.order) y_is

  filed-same : y.filed ≡ x.filed
  filed-same = ap (λ (z : Held). z.filed) y_is

  pub slots-reduced : map slot_at changed ≡ map (less_at h by) (map slot_at ns)
  slots-reduced = slots-less h by y was ns (only-one h was ns is.apart found) order-less

  pub reduced-holds : Holds n c b changed spare levels owners d'
  reduced-holds =
      let size = length-map ns (item_at h y) in
      let view : BookView = record { prices = n; capacity = c; slots = map slot_at ns } in
      let names : Names view h x.order = names-node h ns x found in
      record {
        book =
            subst (λ ss. IsBookView (record { prices = n; capacity = c; slots = ss })) (sym slots-reduced)
            (reduced-stands view h by is.book
            (λ p other. let same : x.order ≡ p = ap (λ s. s.order) (same-some (slot_of h x.order) (slot_of h p) (sym names ∙ other)) in subst (λ q. by < q.left) same within));
        apart = apart-map (λ m. m.link) (item_at h y) ns (same-links ns) is.apart;
        by_level =
            filed-changed level_key level_at levels.lists ns h was y is.apart is.by_level found (ap level_key order-less)
            (ap (λ (f : Filed). f.level) filed-same);
        level_count = is.level_count;
        by_owner =
            filed-changed (owner_key b) owner_at owners.lists ns h was y is.apart is.by_owner found (ap (owner_key b) order-less)
            (ap (λ (f : Filed). f.owner) filed-same);
        owner_count = is.owner_count;
        some_bucket = is.some_bucket;
        depths =
            subst (λ e. AreDepthsOf n e (orders_in changed)) (sym depths_are)
            (depths-fewer n d (orders_in ns) (orders_in changed) by is.depths x.order.side x.order.spot below
            (λ q. total-less h was (by_spot q) by y ns is.apart found order-less (omega (arith, within)) (ap (by_spot q) order-less)));
        held_room = omega (arith, size, is.held_room);
        level_room = omega (arith, size, is.level_room);
        owner_room = omega (arith, size, is.owner_room);
      }
    where
      same-some : (a e : Slot) → Path (Option Slot) (Some a) (Some e) → a ≡ e
      same-some a e p = cc

      same-links : (ms : List (Linked Held)) → AllByRecursion (λ m. (item_at h y m).link ≡ m.link) ms
      same-links [] = tt
      same-links (m ∷ ms) = (refl, same-links ms)

module _ (n c b : ℕ) (held : Lists Held) (levels owners : Lists ℕ) (d : DepthView) (is : IsLinked n c b held levels owners d) (now : BookView) (view : linked n c held.lists ≡ now) where
  abbrev pub nodes : List (Linked Held)
  nodes = list_at held.lists 0

  -- the orders of the book are those of the list by place
  pub orders-of : orders now ≡ orders_in nodes
  orders-of = sym (ap orders view) ∙ orders-are nodes

  pub stands : IsBookView now
  stands = subst IsBookView view is.holds.book

  pub slots-length : length now.slots ≡ length nodes
  slots-length = ap (λ v. length v.slots) (sym view) ∙ length-map nodes slot_at

  -- a live handle's order
  module _ (h : ℕ) (live : IsLive now h) where
    pub node : (x : Held) × (find (is_link_at h) nodes ≡ Some (record { link = h; item = x }))
    node = live-node h nodes n c (subst (λ v. IsLive v h) (sym view) live)

    -- it is live in the list by place
    pub held-in : IsIn held.lists h 0 node.0
    held-in = record { within = omega (arith, is.one); found = node.1 }

    pub held-live : IsLinkLive held.lists h
    held-live = (0, node.0, held-in)

    pub named : Names now h node.0.order
    named = subst (λ v. Names v h node.0.order) view (names-node h nodes node.0 node.1)

    -- it is filed in its level and in its bucket
    pub level-in : IsIn levels.lists (level_at node.0) (level_key node.0.order) h
    level-in = filed-in level_key level_at levels.lists nodes h (record { link = h; item = node.0 }) is.holds.by_level node.1

    pub owner-in : IsIn owners.lists (owner_at node.0) (owner_key b node.0.order) h
    owner-in = filed-in (owner_key b) owner_at owners.lists nodes h (record { link = h; item = node.0 }) is.holds.by_owner node.1

  -- an order that a handle finds stands on the grid
  pub spot-below : (h : ℕ) (x : Held) → find (is_link_at h) nodes ≡ Some (record { link = h; item = x }) → IsSpotBelow n x.order.spot
  spot-below h x e =
      find-holds (λ m. IsSpotBelow n m.item.order.spot) (is_link_at h) nodes (record { link = h; item = x })
      (unmapped nodes (recursion_from_All (λ s. IsSpotBelow n s.order.spot) (map slot_at nodes) is.holds.book.spots)) e
    where
      unmapped : (ms : List (Linked Held)) → AllByRecursion (λ s. IsSpotBelow n s.order.spot) (map slot_at ms) → AllByRecursion (λ m. IsSpotBelow n m.item.order.spot) ms
      unmapped [] all = tt
      unmapped (m ∷ ms) all = (all.0, unmapped ms all.1)

  -- no order has more than the limit left, and none has nothing
  pub limits : All (λ o. o.left ≤ 100000000) (orders_in nodes)
  limits = subst (All (λ o. o.left ≤ 100000000)) (orders-are nodes) (All-map (λ o. o.left ≤ 100000000) (λ (s : Slot). s.order) (map slot_at nodes) is.holds.book.limit)

  pub somes : All (λ o. 1 ≤ o.left) (orders_in nodes)
  somes = subst (All (λ o. 1 ≤ o.left)) (orders-are nodes) (All-map (λ o. 1 ≤ o.left) (λ (s : Slot). s.order) (map slot_at nodes) is.holds.book.some)

  pub on-grid : All (λ o. IsSpotBelow n o.spot) (orders_in nodes)
  on-grid = subst (All (λ o. IsSpotBelow n o.spot)) (orders-are nodes) (All-map (λ o. IsSpotBelow n o.spot) (λ (s : Slot). s.order) (map slot_at nodes) is.holds.book.spots)

  -- so no sum is above what fits
  pub total-fits : (p : Order → Bool) → total_left p (orders_in nodes) ≤ length nodes * 100000000
  total-fits p =
      let size : length (orders_in nodes) ≡ length nodes = length-map nodes (λ (m : Linked Held). m.item.order) in
      omega (arith, total-most p (orders_in nodes) limits, size)

  pub few : length nodes ≤ c
  few = omega (arith, is.holds.book.few, length-map nodes slot_at)

  pub buys-sum : sum d.buys ≡ total_left (by_spot (is_limit_upto Buy (n - 1))) (orders_in nodes)
  buys-sum = sum-is Buy n d.buys (orders_in nodes) is.holds.book.some_price is.holds.depths.buy_count is.holds.depths.buys

  pub sells-sum : sum d.sells ≡ total_left (by_spot (is_limit_upto Sell (n - 1))) (orders_in nodes)
  sells-sum = sum-is Sell n d.sells (orders_in nodes) is.holds.book.some_price is.holds.depths.sell_count is.holds.depths.sells

  -- there is room for an order more in every sum
  module _ (o : Order) (fresh : IsFreshOrder now o) where
    room : length nodes < c
    room = omega (arith, fresh.room, slots-length, ap (λ v. v.capacity) view)

    pub bought : sum d.buys + o.left < 2 ^ 64
    bought = omega (arith, room, is.holds.book.bound, buys-sum, total-fits (by_spot (is_limit_upto Buy (n - 1))), fresh.limit)

    pub sold : sum d.sells + o.left < 2 ^ 64
    sold = omega (arith, room, is.holds.book.bound, sells-sum, total-fits (by_spot (is_limit_upto Sell (n - 1))), fresh.limit)

    pub market-bought : d.market_buys + o.left < 2 ^ 64
    market-bought = omega (arith, room, is.holds.book.bound, is.holds.depths.market_buys, total-fits (is_on_level Buy Market), fresh.limit)

    pub market-sold : d.market_sells + o.left < 2 ^ 64
    market-sold = omega (arith, room, is.holds.book.bound, is.holds.depths.market_sells, total-fits (is_on_level Sell Market), fresh.limit)

    pub limit-bought : d.limit_buys + o.left < 2 ^ 64
    limit-bought = omega (arith, room, is.holds.book.bound, is.holds.depths.limit_buys, total-fits (by_spot is_limit_buy), fresh.limit)

    pub spot-of : IsSpotBelow n o.spot
    spot-of = subst (λ v. IsSpotBelow v.prices o.spot) (sym view) fresh.spot

    pub number-fits : level_no o.side o.spot < 4294967296
    number-fits = omega (arith, level-within n o.side o.spot spot-of, is.holds.book.few_prices)

    -- its place is behind those of all others
    pub behind-all : All (λ m. m.item.order.place < o.place) nodes
    behind-all =
        All-unmap (λ s. s.order.place < o.place) slot_at nodes (subst (λ v. All (λ s. s.order.place < o.place) v.slots) (sym view) fresh.last)

    pub level-there : level_no o.side o.spot < length levels.lists
    level-there = omega (arith, level-within n o.side o.spot spot-of, is.holds.level_count)

    pub below-buys : IsSpotBelow (length d.buys) o.spot
    below-buys = subst (λ k. IsSpotBelow k o.spot) (sym is.holds.depths.buy_count) spot-of

    pub below-sells : IsSpotBelow (length d.sells) o.spot
    below-sells = subst (λ k. IsSpotBelow k o.spot) (sym is.holds.depths.sell_count) spot-of

    pub room-held : 1 ≤ held.spare
    room-held = omega (arith, room, is.holds.held_room)

    pub room-levels : 1 ≤ levels.spare
    room-levels = omega (arith, room, is.holds.level_room)

    pub room-owners : 1 ≤ owners.spare
    room-owners = omega (arith, room, is.holds.owner_room)

    -- an order more, filed under new links
    module _ (held1 held2 : Lists Held) (levels' owners' : Lists ℕ) (d' : DepthView) (h l w k j : ℕ) (x y : Held) (x_is : x ≡ record { order = o; filed = record { level = l; owner = w } })
        (pushed : held1.lists ≡ with_last 0 (record { link = h; item = y }) held.lists) (unlike : IsFresh held.lists h) (pushed_spare : held1.spare + 1 ≡ held.spare)
        (put : held2.lists ≡ with_item h x held1.lists) (put_spare : held2.spare ≡ held1.spare)
        (k_is : k ≡ level_no o.side o.spot) (levels_are : levels'.lists ≡ with_last k (record { link = l; item = h }) levels.lists) (level_free : ¬ IsLinkLive levels.lists l) (level_spare : levels'.spare + 1 ≡ levels.spare)
        (j_is : j ≡ owner_key b o) (j_in : j < b) (owners_are : owners'.lists ≡ with_last j (record { link = w; item = h }) owners.lists) (owner_free : ¬ IsLinkLive owners.lists w) (owner_spare : owners'.spare + 1 ≡ owners.spare)
        (depths_are : d' ≡ more o.side o.spot o.left d) where
      fresh-here : AllByRecursion (λ m. m.link ≢ h) nodes
      fresh-here = recursion_from_All (λ m. m.link ≢ h) nodes (unlike 0)

      new-nodes : list_at held2.lists 0 ≡ nodes ++ record { link = h; item = x } ∷ []
      new-nodes =
          let last = nodes ++ record { link = h; item = y } ∷ [] in
          let within : 0 < length held.lists = omega (arith, is.one) in
          let size : length (set held.lists 0 last) ≡ length held.lists = length-set held.lists 0 last in
          ap (λ ls. list_at ls 0) (put ∙ ap (with_item h x) pushed)
          ∙ get_or-map (map (item_at h x)) (set held.lists 0 last) 0 [] [] (omega (arith, size, within))
          ∙ ap (map (item_at h x)) (get_or-set_same held.lists 0 last [] within)
          ∙ last-changed h x y nodes fresh-here

      new-holds : Holds n c b (nodes ++ record { link = h; item = x } ∷ []) held2.spare levels' owners' d'
      new-holds =
          inserted-holds n c b nodes held.spare held2.spare levels owners levels' owners' d d' is.holds o h l w x x_is (subst (λ v. IsFreshOrder v o) (sym view) fresh) fresh-here
          (subst (λ i. levels'.lists ≡ with_last i (record { link = l; item = h }) levels.lists) k_is levels_are) level_free level_spare
          (subst (λ i. owners'.lists ≡ with_last i (record { link = w; item = h }) owners.lists) j_is owners_are) owner_free owner_spare
          (omega (arith, j_is, j_in)) depths_are (omega (arith, pushed_spare, put_spare))

      pub inserted-linked : IsLinked n c b held2 levels' owners' d'
      inserted-linked =
          record {
            one =
                ap length (put ∙ ap (with_item h x) pushed) ∙ length-map (with_last 0 (record { link = h; item = y }) held.lists) (map (item_at h x))
                ∙ length-set held.lists 0 _ ∙ is.one;
            holds = subst (λ ms. Holds n c b ms held2.spare levels' owners' d') (sym new-nodes) new-holds;
          }

      pub inserted-view : IsInserted now o h (linked n c held2.lists)
      inserted-view =
          let order-now : x.order ≡ o = ap (λ (z : Held). z.order) x_is in
          let slots : map slot_at (list_at held2.lists 0) ≡ map slot_at nodes ++ slot_of h o ∷ [] =
          ap (map slot_at) new-nodes ∙ map-append slot_at nodes (record { link = h; item = x } ∷ []) ∙ ap (λ z. map slot_at nodes ++ slot_of h z ∷ []) order-now in
          record {
            slots =
                ap (λ ss. record { prices = n; capacity = c; slots = ss }) slots
                ∙ ap (λ (v : BookView). record v { slots = v.slots ++ slot_of h o ∷ [] }) view;
            fresh =
                subst (λ v. All (λ s. s.handle ≢ h) v.slots) view
                (All-map (λ s. s.handle ≢ h) slot_at nodes (All-from_recursion (λ m. m.link ≢ h) nodes fresh-here));
          }

  -- where an order stands that a live handle names
  module _ (h : ℕ) (live : IsLive now h) where
    abbrev pub kept : Held
    kept = (node h live).0

    found : find (is_link_at h) nodes ≡ Some (record { link = h; item = kept })
    found = (node h live).1

    -- what is read of it by its link
    pub read-is : (link : ℕ) (x : Held) → link ≡ h → ((list : ℕ) (item : Held) → IsIn held.lists link list item → x ≡ item) → x ≡ kept
    read-is link x same reads = reads 0 kept (subst (λ k. IsIn held.lists k 0 kept) (sym same) (held-in h live))

    pub node-below : IsSpotBelow n kept.order.spot
    node-below = spot-below h kept found

    pub node-buys : IsSpotBelow (length d.buys) kept.order.spot
    node-buys = subst (λ k. IsSpotBelow k kept.order.spot) (sym is.holds.depths.buy_count) node-below

    pub node-sells : IsSpotBelow (length d.sells) kept.order.spot
    node-sells = subst (λ k. IsSpotBelow k kept.order.spot) (sym is.holds.depths.sell_count) node-below

    -- its level has as much left, and so have the limit buys if it is one
    pub node-enough : kept.order.left ≤ depth_at kept.order.side kept.order.spot d
    node-enough =
        let part = total-without h (record { link = h; item = kept }) (is_on_level kept.order.side kept.order.spot) nodes is.holds.apart found in
        let whole = depth-is n d (orders_in nodes) is.holds.depths kept.order.side kept.order.spot node-below in
        omega (arith, part, whole, ap (λ t. cond t kept.order.left 0) (own-level kept.order.side kept.order.spot))

    pub node-limit : is_limit_buy kept.order.side kept.order.spot ≡ true → kept.order.left ≤ d.limit_buys
    node-limit so =
        let part = total-without h (record { link = h; item = kept }) (by_spot is_limit_buy) nodes is.holds.apart found in
        omega (arith, part, is.holds.depths.limit_buys, ap (λ t. cond t kept.order.left 0) so)

    -- an order less
    module _ (held' : Lists Held) (levels' owners' : Lists ℕ) (d' : DepthView) (taken : held'.lists ≡ without_link h held.lists) (held_spare : held'.spare ≡ held.spare + 1)
        (levels_are : levels'.lists ≡ without_link (level_at kept) levels.lists) (level_spare : levels'.spare ≡ levels.spare + 1)
        (owners_are : owners'.lists ≡ without_link (owner_at kept) owners.lists) (owner_spare : owners'.spare ≡ owners.spare + 1)
        (depths_are : d' ≡ fewer kept.order.side kept.order.spot kept.order.left d) where
      rest-nodes : list_at held'.lists 0 ≡ filter (λ m. not (is_link_at h m)) nodes
      rest-nodes = ap (λ ls. list_at ls 0) taken ∙ get_or-map (filter (λ m. not (is_link_at h m))) held.lists 0 [] [] (omega (arith, is.one))

      pub removed-linked : IsLinked n c b held' levels' owners' d'
      removed-linked =
          record {
            one = ap length taken ∙ length-map held.lists _ ∙ is.one;
            holds =
                subst (λ ms. Holds n c b ms held'.spare levels' owners' d') (sym rest-nodes)
                (removed-holds n c b nodes held.spare held'.spare levels owners levels' owners' d d' is.holds h kept found node-below
                levels_are level_spare
                owners_are owner_spare depths_are held_spare);
          }

      pub removed-view : linked n c held'.lists ≡ without h now
      removed-view =
          ap (λ ss. record { prices = n; capacity = c; slots = ss }) (ap (map slot_at) rest-nodes ∙ slots-without h nodes)
          ∙ ap (without h) view

    -- an order with less left
    module _ (by : ℕ) (held' : Lists Held) (d' : DepthView) (y : Held) (less-left : by < kept.order.left) (y_is : y ≡ record { order = less by kept.order; filed = kept.filed })
        (put : held'.lists ≡ with_item h y held.lists) (put_spare : held'.spare ≡ held.spare) (depths_are : d' ≡ fewer kept.order.side kept.order.spot by d) where
      changed-nodes : list_at held'.lists 0 ≡ map (item_at h y) nodes
      changed-nodes = ap (λ ls. list_at ls 0) put ∙ get_or-map (map (item_at h y)) held.lists 0 [] [] (omega (arith, is.one))

      pub reduced-linked : IsLinked n c b held' levels owners d'
      reduced-linked =
          record {
            one = ap length put ∙ length-map held.lists _ ∙ is.one;
            holds =
                subst (λ ms. Holds n c b ms held'.spare levels owners d') (sym changed-nodes)
                (subst (λ k. Holds n c b (map (item_at h y) nodes) k levels owners d') (sym put_spare)
                (reduced-holds n c b nodes held.spare levels owners d d' is.holds h by kept y found node-below y_is less-left depths_are));
          }

      pub reduced-view : linked n c held'.lists ≡ reduced h by now
      reduced-view =
          ap (λ ss. record { prices = n; capacity = c; slots = ss })
          (ap (map slot_at) changed-nodes ∙ slots-reduced n c b nodes held.spare levels owners d d' is.holds h by kept y found node-below y_is less-left depths_are)
          ∙ ap (reduced h by) view

nothing-left : (p : Order → Bool) → total_left p [] ≡ 0
unfolding total_left
nothing-left p = refl

-- a book without orders
pub made-linked : (n c b : ℕ) (held : Lists Held) (levels owners : Lists ℕ) (d : DepthView) → 1 ≤ n → n ≤ 20000 → c ≤ 4294967295 → 1 ≤ b
    → held.lists ≡ replicate 1 [] → levels.lists ≡ replicate (2 * n + 2) [] → owners.lists ≡ replicate b [] → c ≤ held.spare → c ≤ levels.spare → c ≤ owners.spare
    → d.buys ≡ replicate n 0 → d.sells ≡ replicate n 0 → d.market_buys ≡ 0 → d.market_sells ≡ 0 → d.limit_buys ≡ 0 → IsLinked n c b held levels owners d
made-linked n c b held levels owners d some few bound buckets held_is levels_are owners_are held_spare level_spare owner_spare buys sells market_buys market_sells limit_buys =
    record {
      one = ap length held_is;
      holds =
          subst (λ ms. Holds n c b ms held.spare levels owners d) (sym (ap (λ ls. list_at ls 0) held_is))
          (record {
            book =
                record {
                  few = omega arith;
                  bound = bound;
                  some_price = some;
                  few_prices = few;
                  by_place = λ i j e h k. absurd (omega (arith, k));
                  handles = λ i j e h k. absurd (omega (arith, k));
                  pairs = λ i j e h k. absurd (omega (arith, k));
                  some = λ k e h. absurd (omega (arith, h));
                  limit = λ k e h. absurd (omega (arith, h));
                  spots = λ k e h. absurd (omega (arith, h));
                };
            apart = tt;
            by_level = none-filed level_key level_at levels.lists (2 * n + 2) levels_are;
            level_count = ap length levels_are ∙ length-replicate (2 * n + 2) [];
            by_owner = none-filed (owner_key b) owner_at owners.lists b owners_are;
            owner_count = ap length owners_are ∙ length-replicate b [];
            some_bucket = buckets;
            depths =
                record {
                  buy_count = ap length buys ∙ length-replicate n 0;
                  sell_count = ap length sells ∙ length-replicate n 0;
                  buys = λ i h. ap (λ xs. get_or xs i 0) buys ∙ get_or-replicate n i 0 0 h ∙ sym (nothing-left (is_on_level Buy (At i)));
                  sells = λ i h. ap (λ xs. get_or xs i 0) sells ∙ get_or-replicate n i 0 0 h ∙ sym (nothing-left (is_on_level Sell (At i)));
                  market_buys = market_buys ∙ sym (nothing-left (is_on_level Buy Market));
                  market_sells = market_sells ∙ sym (nothing-left (is_on_level Sell Market));
                  limit_buys = limit_buys ∙ sym (nothing-left (by_spot is_limit_buy));
                };
            held_room = omega (arith, held_spare);
            level_room = omega (arith, level_spare);
            owner_room = omega (arith, owner_spare);
          });
    }
  where
    none-filed : (key : Order → ℕ) (at : Held → ℕ) (lists : List (List (Linked ℕ))) (m : ℕ) → lists ≡ replicate m [] → IsFiled key at lists []
    none-filed key at lists m is =
        record {
          lists_are = λ k less. ap (λ ls. list_at ls k) is ∙ get_or-replicate m k [] [] (omega (arith, less, ap length is, length-replicate {A = List (Linked ℕ)} m []));
          within = tt;
          apart = tt;
        }

-- and what it stands for
pub made-view : (n c : ℕ) (held : Lists Held) → held.lists ≡ replicate 1 [] → linked n c held.lists ≡ record { prices = n; capacity = c; slots = [] }
made-view n c held is = ap (linked n c) is
