-- The demands of participants, their shares, and what their orders fill of them.
use Rattle.std.proofs.Common.{◌≡◌, ◌≢◌, ℕ, zero, suc, ◌+◌, ◌<◌, ◌≤◌, Bool, true, false, cond, eqb, leb, ltb, ◌&&◌, List, [], ◌∷◌, ◌++◌, map, filter, length, get_or, set, take, Some, None, refl, sym, ap, ◌∙◌, arith}
use Rattle.std.specs.List.{AllByRecursion, count_by, find, range_with_len, sum_by}
use Rattle.std.specs.Option.{option_map_or}
use Rattle.std.proofs.lemmas.Bool.Decides.{nat_tests}
use Rattle.std.proofs.lemmas.List.{get_or-set_other, get_or-set_same, length-set, take_more}
use Rattle.std.proofs.lemmas.List.Elements.{filter-append}
use Rattle.std.proofs.lemmas.List.FromFn.{fill_by_all, get_or-map-range_with_len, length-map-range_with_len}
use Rattle.std.proofs.lemmas.List.Sums.{sum_by-cons, sum_by_push}
use Rattle.mkt_base.specs.Fills.{quantity}
use Rattle.mkt_base.specs.declared.order.Order.{Order}
use Rattle.allotment.specs.declared.demand.Demand.{Demand}
use Rattle.book_law.specs.Sides.{total}
use Rattle.book_law.proofs.TakenLemmas.{total-cons}
use Rattle.itayose.specs.Fills.{demand_of, is_by}
use Rattle.itayose.specs.Sharing.{share_of, with_order}

-- ---- lists by number

nothing-total : total [] ≡ 0
unfolding quantity
nothing-total = refl

pub total-append : (xs ys : List Order) → total (xs ++ ys) ≡ total xs + total ys
total-append [] ys = sym (zero-first (total ys)) ∙ ap (λ n. n + total ys) (sym nothing-total)
  where
    zero-first : (n : ℕ) → 0 + n ≡ n
    zero-first n = omega arith
total-append (x ∷ xs) ys = omega (arith, total-cons x (xs ++ ys), total-cons x xs, total-append xs ys)

-- a list of what a function gives for each number, with another value at one of them
pub set-by_number : {X : Type 0} (f g : ℕ → X) (n p : ℕ) (xs : List X) (v : X) → xs ≡ map f (range_with_len 0 n) → p < n → v ≡ g p → ((q : ℕ) → eqb q p ≡ false → g q ≡ f q) → set xs p v ≡ map g (range_with_len 0 n)
set-by_number f g n p xs v is inside here others =
    fill_by_all g (set xs p v) n v (length-set xs p v ∙ size) (λ k l. at (eqb k p) k l refl)
  where
    size : length xs ≡ n
    size = ap length is ∙ length-map-range_with_len f 0 n

    at : (b : Bool) (k : ℕ) → k < n → eqb k p ≡ b → get_or (set xs p v) k v ≡ g k
    at true k l e =
        let same : k ≡ p = grind (arith, nat_tests, e) in
        let within : p < length xs = omega (arith, size, inside) in
        ap (λ j. get_or (set xs p v) j v) same ∙ get_or-set_same xs p v v within ∙ here ∙ ap g (sym same)
    at false k l e =
        let apart : k ≢ p = grind (arith, nat_tests, e) in
        get_or-set_other xs p k v v apart ∙ ap (λ ys. get_or ys k v) is ∙ get_or-map-range_with_len f 0 n k k v l (omega arith) ∙ sym (others k e)

-- what such a list has at a number
pub at-number : {X : Type 0} (f : ℕ → X) (n p : ℕ) (xs : List X) (d : X) → xs ≡ map f (range_with_len 0 n) → p < n → get_or xs p d ≡ f p
at-number f n p xs d is inside = ap (λ ys. get_or ys p d) is ∙ get_or-map-range_with_len f 0 n p p d inside (omega arith)

-- a number of a range counts once
pub range-once : (q v a n : ℕ) → sum_by (λ r. cond (eqb r q) v 0) (range_with_len a n) ≡ cond (leb a q && ltb q (a + n)) v 0
range-once q v a zero = none
  where
    none : 0 ≡ cond (leb a q && ltb q (a + 0)) v 0
    none = grind (arith, nat_tests)
range-once q v a (suc n) = sum_by-cons (λ r. cond (eqb r q) v 0) a (range_with_len (a + 1) n) ∙ ap (λ m. cond (eqb a q) v 0 + m) (range-once q v (a + 1) n) ∙ step
  where
    step : cond (eqb a q) v 0 + cond (leb (a + 1) q && ltb q ((a + 1) + n)) v 0 ≡ cond (leb a q && ltb q (a + suc n)) v 0
    step = grind (arith, nat_tests)

pub sum-plus : {X : Type 0} (f g : X → ℕ) (xs : List X) → sum_by (λ x. f x + g x) xs ≡ sum_by f xs + sum_by g xs
sum-plus f g [] = refl
sum-plus f g (x ∷ xs) = omega (arith, sum_by-cons (λ y. f y + g y) x xs, sum_by-cons f x xs, sum_by-cons g x xs, sum-plus f g xs)

pub sum-alike : {X : Type 0} (f g : X → ℕ) → ((x : X) → f x ≡ g x) → (xs : List X) → sum_by f xs ≡ sum_by g xs
sum-alike f g same [] = refl
sum-alike f g same (x ∷ xs) = omega (arith, sum_by-cons f x xs, sum_by-cons g x xs, same x, sum-alike f g same xs)

pub sum-zero : {X : Type 0} (xs : List X) → sum_by (λ x. 0) xs ≡ 0
sum-zero [] = refl
sum-zero {X} (x ∷ xs) = omega (arith, sum_by-cons {X = X} (λ y. 0) x xs, sum-zero xs)

-- what the numbers below n have each adds up to all, where all have such a number
pub numbers-add_up : {X : Type 0} (number amount : X → ℕ) (n : ℕ) (xs : List X) → AllByRecursion (λ x. number x < n) xs
    → sum_by (λ q. sum_by (λ x. cond (eqb q (number x)) (amount x) 0) xs) (range_with_len 0 n) ≡ sum_by amount xs
numbers-add_up number amount n [] below = sum-zero (range_with_len 0 n)
numbers-add_up number amount n (x ∷ xs) below =
    let here : cond (leb 0 (number x) && ltb (number x) (0 + n)) (amount x) 0 ≡ amount x = (let l = below.0 in let inside : (leb 0 (number x) && ltb (number x) (0 + n)) ≡ true = grind (arith, nat_tests, l) in ap (λ b. cond b (amount x) 0) inside) in
    sum-alike (λ q. sum_by (λ y. cond (eqb q (number y)) (amount y) 0) (x ∷ xs)) (λ q. cond (eqb q (number x)) (amount x) 0 + sum_by (λ y. cond (eqb q (number y)) (amount y) 0) xs)
    (λ q. sum_by-cons (λ y. cond (eqb q (number y)) (amount y) 0) x xs) (range_with_len 0 n)
    ∙ sum-plus (λ q. cond (eqb q (number x)) (amount x) 0) (λ q. sum_by (λ y. cond (eqb q (number y)) (amount y) 0) xs) (range_with_len 0 n)
    ∙ ap (λ m. m + sum_by (λ q. sum_by (λ y. cond (eqb q (number y)) (amount y) 0) xs) (range_with_len 0 n)) (range-once (number x) (amount x) 0 n ∙ here)
    ∙ ap (λ m. amount x + m) (numbers-add_up number amount n xs below.1)
    ∙ sym (sum_by-cons amount x xs)

-- ---- demands

-- the place of the first of some orders that pass
abbrev first_place : (Order → Bool) → List Order → ℕ
first_place t os = option_map_or (λ o. o.place) (find t os) 0

first-more : (t : Order → Bool) (x : Order) (os : List Order) → t x ≡ true → AllByRecursion (λ o. 0 < o.left) os → first_place t (os ++ x ∷ []) ≡ cond (eqb (total (filter t os)) 0) x.place (first_place t os)
first-more t x [] e some =
    let none : eqb (total []) 0 ≡ true = ap (λ n. eqb n 0) nothing-total in
    ap (λ b. option_map_or (λ o. o.place) (cond b (Some x) None) 0) e ∙ ap (λ b. cond b x.place 0) (sym none)
first-more t x (o ∷ os) e some = step (t o) refl (first-more t x os e some.1)
  where
    step : (b : Bool) → t o ≡ b → first_place t (os ++ x ∷ []) ≡ cond (eqb (total (filter t os)) 0) x.place (first_place t os)
        → option_map_or (λ y. y.place) (cond b (Some o) (find t (os ++ x ∷ []))) 0 ≡ cond (eqb (total (cond b (o ∷ filter t os) (filter t os))) 0) x.place (option_map_or (λ y. y.place) (cond b (Some o) (find t os)) 0)
    step true f rest =
        let all : total (o ∷ filter t os) ≡ o.left + total (filter t os) = total-cons o (filter t os) in
        let not : eqb (total (o ∷ filter t os)) 0 ≡ false = grind (arith, nat_tests, all, some.0) in
        ap (λ b. cond b x.place o.place) (sym not)
    step false f rest = rest

first-other : (t : Order → Bool) (x : Order) (os : List Order) → t x ≡ false → first_place t (os ++ x ∷ []) ≡ first_place t os
first-other t x [] e = ap (λ b. option_map_or (λ o. o.place) (cond b (Some x) None) 0) e
first-other t x (o ∷ os) e = step (t o) (first-other t x os e)
  where
    step : (b : Bool) → first_place t (os ++ x ∷ []) ≡ first_place t os → option_map_or (λ y. y.place) (cond b (Some o) (find t (os ++ x ∷ []))) 0 ≡ option_map_or (λ y. y.place) (cond b (Some o) (find t os)) 0
    step true rest = refl
    step false rest = rest

filter-more : (t : Order → Bool) (x : Order) (os : List Order) (b : Bool) → t x ≡ b → total (filter t (os ++ x ∷ [])) ≡ total (filter t os) + cond b x.left 0
filter-more t x os b e =
    ap total (filter-append t os (x ∷ []) ∙ ap (λ c. filter t os ++ cond c (x ∷ []) []) e) ∙ total-append (filter t os) (cond b (x ∷ []) []) ∙ ap (λ n. total (filter t os) + n) (one b)
  where
    one : (c : Bool) → total (cond c (x ∷ []) []) ≡ cond c x.left 0
    one true = omega (arith, total-cons x [], nothing-total)
    one false = nothing-total

same-number : (n : ℕ) → eqb n n ≡ true
same-number n = grind (arith, nat_tests)

-- a participant's demand with an order more
pub demand-own : (os : List Order) (x : Order) → AllByRecursion (λ o. 0 < o.left) os → demand_of (os ++ x ∷ []) x.participant.0 ≡ with_order (demand_of os x.participant.0) x
demand-own os x some =
    let q = x.participant.0 in
    let own : is_by q x ≡ true = same-number q in
    let first = first-more (is_by q) x os own some in
    let asked = filter-more (is_by q) x os true own in
    ap (λ n. record { participant = record { 0 = q }; first = n; asked = total (filter (is_by q) (os ++ x ∷ [])); share = 0 }) first
    ∙ ap (λ n. record { participant = record { 0 = q }; first = cond (eqb (total (filter (is_by q) os)) 0) x.place (first_place (is_by q) os); asked = n; share = 0 }) asked

-- and those of the others
pub demand-other : (os : List Order) (x : Order) (q : ℕ) → eqb q x.participant.0 ≡ false → demand_of (os ++ x ∷ []) q ≡ demand_of os q
demand-other os x q e =
    let first = first-other (is_by q) x os e in
    let asked : total (filter (is_by q) (os ++ x ∷ [])) ≡ total (filter (is_by q) os) = filter-more (is_by q) x os false e ∙ zero-last (total (filter (is_by q) os)) in
    ap (λ n. record { participant = record { 0 = q }; first = n; asked = total (filter (is_by q) (os ++ x ∷ [])); share = 0 }) first
    ∙ ap (λ n. record { participant = record { 0 = q }; first = first_place (is_by q) os; asked = n; share = 0 }) asked
  where
    zero-last : (n : ℕ) → n + 0 ≡ n
    zero-last n = omega arith

-- some of the orders have no more than all
pub filter-le : (t : Order → Bool) (os : List Order) → total (filter t os) ≤ total os
filter-le t [] = omega arith
filter-le t (o ∷ os) = step (t o) (filter-le t os)
  where
    step : (b : Bool) → total (filter t os) ≤ total os → total (cond b (o ∷ filter t os) (filter t os)) ≤ total (o ∷ os)
    step true rest = omega (arith, total-cons o os, total-cons o (filter t os), rest)
    step false rest = omega (arith, total-cons o os, rest)

pub demand-none : (q : ℕ) → demand_of [] q ≡ record { participant = record { 0 = q }; first = 0; asked = 0; share = 0 }
unfolding quantity
demand-none q = refl

-- ---- shares by number

-- a participant counts so often
abbrev pub counts : ℕ → List Demand → ℕ
counts q ds = count_by (λ d. eqb q d.participant.0) ds

pub none-shares : (q : ℕ) (ds : List Demand) → counts q ds ≡ 0 → share_of ds q ≡ 0
none-shares q [] none = refl
none-shares q (d ∷ ds) none = step (eqb q d.participant.0) refl (λ h. none-shares q ds h)
  where
    step : (b : Bool) → eqb q d.participant.0 ≡ b → (counts q ds ≡ 0 → share_of ds q ≡ 0) → share_of (d ∷ ds) q ≡ 0
    step true e rest =
        let one : cond {A = ℕ} (eqb q d.participant.0) 1 0 ≡ 1 = ap (λ b. cond b 1 0) e in
        absurd (omega (arith, one, none, sum_by-cons (λ c. cond (eqb q c.participant.0) 1 0) d ds))
    step false e rest =
        let zero' : cond (eqb q d.participant.0) d.share 0 ≡ 0 = ap (λ b. cond b d.share 0) e in
        let here : cond {A = ℕ} (eqb q d.participant.0) 1 0 ≡ 0 = ap (λ b. cond b 1 0) e in
        omega (arith, zero', sum_by-cons (λ c. cond (eqb q c.participant.0) c.share 0) d ds, rest (omega (arith, none, sum_by-cons (λ c. cond (eqb q c.participant.0) 1 0) d ds, here)))

-- one that stands in a list counts
counted-at : (ds : List Demand) (k : ℕ) (d : Demand) → k < length ds → 1 ≤ counts (get_or ds k d).participant.0 ds
counted-at [] k d h = absurd (omega (arith, h))
counted-at (e ∷ ds) zero d h =
    let one : cond {A = ℕ} (eqb e.participant.0 e.participant.0) 1 0 ≡ 1 = ap (λ b. cond b 1 0) (same-number e.participant.0) in
    omega (arith, one, sum_by-cons (λ c. cond (eqb e.participant.0 c.participant.0) 1 0) e ds)
counted-at (e ∷ ds) (suc k) d h =
    let rest = counted-at ds k d (omega (arith, h)) in
    omega (arith, rest, sum_by-cons (λ c. cond (eqb (get_or ds k d).participant.0 c.participant.0) 1 0) e ds)

-- so where each counts once, none before it has its participant
none-before : (ds : List Demand) (k : ℕ) (d : Demand) → k < length ds → counts (get_or ds k d).participant.0 ds ≤ 1 → counts (get_or ds k d).participant.0 (take k ds) ≡ 0
none-before [] k d h once = absurd (omega (arith, h))
none-before (e ∷ ds) zero d h once = refl
none-before (e ∷ ds) (suc k) d h once =
    let q = (get_or ds k d).participant.0 in
    let rest = counted-at ds k d (omega (arith, h)) in
    let all = sum_by-cons (λ c. cond (eqb q c.participant.0) 1 0) e ds in
    let front = sum_by-cons (λ c. cond (eqb q c.participant.0) 1 0) e (take k ds) in
    let others = none-before ds k d (omega (arith, h)) (omega (arith, once, all)) in
    omega (arith, once, rest, all, front, others)

-- one more share
pub shares-more : (ds : List Demand) (k : ℕ) (d : Demand) (shares : List ℕ) → k < length ds → counts (get_or ds k d).participant.0 ds ≤ 1 → (get_or ds k d).participant.0 < 64
    → shares ≡ map (share_of (take k ds)) (range_with_len 0 64) → set shares (get_or ds k d).participant.0 (get_or ds k d).share ≡ map (share_of (take (k + 1) ds)) (range_with_len 0 64)
shares-more ds k d shares h once inside is =
    let e : Demand = get_or ds k d in
    set-by_number (share_of (take k ds)) (share_of (take (k + 1) ds)) 64 e.participant.0 shares e.share is inside
    (let own : cond (eqb e.participant.0 e.participant.0) e.share 0 ≡ e.share = ap (λ b. cond b e.share 0) (same-number e.participant.0) in
    omega (arith, own, more e.participant.0, none-shares e.participant.0 (take k ds) (none-before ds k d h once)))
    (λ q apart. let other : cond (eqb q e.participant.0) e.share 0 ≡ 0 = ap (λ b. cond b e.share 0) apart in omega (arith, other, more q))
  where
    more : (q : ℕ) → share_of (take (k + 1) ds) q ≡ share_of (take k ds) q + cond (eqb q (get_or ds k d).participant.0) (get_or ds k d).share 0
    more q = ap (λ xs. share_of xs q) (take_more ds k d h) ∙ sum_by_push (λ c. cond (eqb q c.participant.0) c.share 0) (take k ds) (get_or ds k d)
