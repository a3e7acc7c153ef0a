-- A gateway's events in order: those that were entered, and behind them, from a first one that found no node on, those that were not.
use Rattle.std.proofs.Common.{◌≡◌, ℕ, suc, ◌≤◌, Bool, true, false, cond, List, [], ◌∷◌, ◌++◌, length, map, min, drop, get_or, filter, filter_map, Option, Some, None, IfSome, Ok, Err, refl, sym, ap, subst, ◌∙◌, arith, append-nil, ltb-false}
use Rattle.std.proofs.lemmas.Bool.Decides.{nat_tests}
use Rattle.std.specs.List.{AllByRecursion, cons_option, slice_get}
use Rattle.std.proofs.lemmas.Bool.{both_ways}
use Rattle.std.proofs.lemmas.List.{length-map}
use Rattle.std.proofs.lemmas.List.Elements.{filter-append, filter_map-append}
use Rattle.std.proofs.lemmas.List.Sums.{length-filter}
use Rattle.std.proofs.lemmas.Option.{none-some, same_Some}
use Rattle.mkt_base.specs.declared.event.Event.{Event}
use Rattle.mkt_base.specs.declared.journal.Stopped.{Stopped}
use Rattle.mkt_base.specs.declared.journal.TurnStop.TheVariants.{NoNode, JournalFull}
use Rattle.book_law.proofs.Pairs.{Pairs, weaken}
use Rattle.run_law.proofs.Stages.{Rise}
use Rattle.stage_law.proofs.Asks.{Ask, Asked, event_at, is_before, is_end, made_at, stage_at, stop_at}
use Rattle.stage_law.proofs.Rises.{below, below-map}

-- it was entered, and it was not
abbrev pub IsMade : Ask → Type 0
IsMade a = made_at a ≡ Some (event_at a)

abbrev pub IsLost : Ask → Type 0
IsLost a = made_at a ≡ None

pub record IsSplit (xs : List Ask) : Type 0 where
  pub front : List Ask
  pub back : List Ask
  pub whole : xs ≡ front ++ back
  pub made : AllByRecursion IsMade front
  pub lost : AllByRecursion IsLost back
  pub ends : IfSome (slice_get back 0) (λ (a : Ask). is_end a ≡ true)

-- nothing is entered behind an event that found no node
abbrev pub EndsAll : Ask → Ask → Type 0
EndsAll a b = is_end a ≡ true → made_at b ≡ None

-- every list of events is so, where its first stop, if any, found no node
pub split-of : (xs : List Ask) → ((stopped : Stopped) → slice_get (filter_map stop_at xs) 0 ≡ Some stopped → stopped.cause ≡ NoNode) → Pairs EndsAll xs → IsSplit xs
split-of [] first quiet = record { front = []; back = []; whole = refl; made = tt; lost = tt; ends = tt }
split-of (Asked stage event (Ok reply) ∷ xs) first quiet =
    let rest : IsSplit xs = split-of xs first quiet.1 in
    record {
      front = Asked stage event (Ok reply) ∷ rest.front;
      back = rest.back;
      whole = ap (λ (ys : List Ask). Asked stage event (Ok reply) ∷ ys) rest.whole;
      made = (refl, rest.made);
      lost = rest.lost;
      ends = rest.ends;
    }
split-of (Asked stage event (Err NoNode) ∷ xs) first quiet = record {
  front = [];
  back = Asked stage event (Err NoNode) ∷ xs;
  whole = refl;
  made = tt;
  lost = (refl, weaken (EndsAll (Asked stage event (Err NoNode))) IsLost (λ b h. h refl) xs quiet.0);
  ends = refl;
}
split-of (Asked stage event (Err (JournalFull length up capacity)) ∷ xs) first quiet =
    let full : Stopped = record { event = event; cause = JournalFull length up capacity } in
    let is : full.cause ≡ NoNode = first full refl in
    absurd (never length up capacity is)
  where
    never : (a b c : ℕ) → JournalFull a b c ≡ NoNode → ⊥
    never a b c is = cc

-- ---- what was entered

entered-front : (fs : List Ask) → AllByRecursion IsMade fs → filter_map made_at fs ≡ map event_at fs
entered-front [] all = refl
entered-front (f ∷ fs) all = ap (λ (o : Option Event). cons_option o (filter_map made_at fs)) all.0 ∙ ap (λ (es : List Event). event_at f ∷ es) (entered-front fs all.1)

pub entered-back : (bs : List Ask) → AllByRecursion IsLost bs → filter_map made_at bs ≡ []
entered-back [] all = refl
entered-back (b ∷ bs) all = ap (λ (o : Option Event). cons_option o (filter_map made_at bs)) all.0 ∙ entered-back bs all.1

pub entered-split : (fs bs : List Ask) → AllByRecursion IsMade fs → AllByRecursion IsLost bs → filter_map made_at (fs ++ bs) ≡ map event_at fs
entered-split fs bs made lost =
    filter_map-append made_at fs bs ∙ ap (λ (es : List Event). filter_map made_at fs ++ es) (entered-back bs lost) ∙ append-nil (filter_map made_at fs) ∙ entered-front fs made

pub each-filter : {X : Type 0} (P : X → Type 0) (p : X → Bool) (xs : List X) → AllByRecursion P xs → AllByRecursion P (filter p xs)
each-filter P p [] all = tt
each-filter {X} P p (x ∷ xs) all = by (p x) (each-filter P p xs all.1)
  where
    by : (b : Bool) → AllByRecursion P (filter p xs) → AllByRecursion P (cond b (x ∷ filter p xs) (filter p xs))
    by true rest = (all.0, rest)
    by false rest = rest

-- how many were entered in the stages before one
pub entered-before : (s : ℕ) (fs bs : List Ask) → AllByRecursion IsMade fs → AllByRecursion IsLost bs → length (filter_map made_at (filter (is_before s) (fs ++ bs))) ≡ below s (map stage_at fs)
entered-before s fs bs made lost =
    ap (λ (xs : List Ask). length (filter_map made_at xs)) (filter-append (is_before s) fs bs)
    ∙ ap length (entered-split (filter (is_before s) fs) (filter (is_before s) bs) (each-filter IsMade (is_before s) fs made) (each-filter IsLost (is_before s) bs lost))
    ∙ length-map (filter (is_before s) fs) event_at
    ∙ length-filter (is_before s) fs
    ∙ below-map stage_at s fs

-- of a front part of all, as many are entered as stand in it or were entered at all
pub entered-first : (fs bs xs ys : List Ask) → AllByRecursion IsMade fs → AllByRecursion IsLost bs → xs ++ ys ≡ fs ++ bs → length (filter_map made_at xs) ≡ min (length xs) (length fs)
entered-first [] bs xs ys made lost same =
    let none : filter_map made_at xs ≡ [] = entered-back xs (front-lost xs ys (subst (AllByRecursion IsLost) (sym same) lost)) in
    ap length none ∙ least (length xs)
  where
    front-lost : (us vs : List Ask) → AllByRecursion IsLost (us ++ vs) → AllByRecursion IsLost us
    front-lost [] vs all = tt
    front-lost (u ∷ us) vs all = (all.0, front-lost us vs all.1)

    least : (n : ℕ) → 0 ≡ min n 0
    least n = grind (arith, nat_tests)
entered-first (f ∷ fs) bs [] ys made lost same = least (length (f ∷ fs))
  where
    least : (n : ℕ) → 0 ≡ min 0 n
    least n = grind (arith, nat_tests)
entered-first (f ∷ fs) bs (x ∷ xs) ys made lost same =
    let rest : length (filter_map made_at xs) ≡ min (length xs) (length fs) = entered-first fs bs xs ys made.1 lost (ap (λ (zs : List Ask). drop 1 zs) same) in
    let own : made_at x ≡ Some (event_at f) = ap (λ (zs : List Ask). made_at (get_or zs 0 x)) same ∙ made.0 in
    ap (λ (o : Option Event). length (cons_option o (filter_map made_at xs))) own ∙ ap suc rest ∙ more (length xs) (length fs)
  where
    more : (m n : ℕ) → suc (min m n) ≡ min (suc m) (suc n)
    more m n = grind (arith, nat_tests)

-- ---- what was stopped

no-stop : (a : Ask) → IsMade a → stop_at a ≡ None
no-stop (Asked stage event (Ok reply)) is = refl
no-stop (Asked stage event (Err cause)) is = absurd (none-some event is)

-- what was entered is no stop, so the first stop of all is the first one behind it
pub no-stops : (fs : List Ask) → AllByRecursion IsMade fs → filter_map stop_at fs ≡ []
no-stops [] all = refl
no-stops (f ∷ fs) all = ap (λ (o : Option Stopped). cons_option o (filter_map stop_at fs)) (no-stop f all.0) ∙ no-stops fs all.1

pub stops-behind : (fs bs : List Ask) → AllByRecursion IsMade fs → filter_map stop_at (fs ++ bs) ≡ filter_map stop_at bs
stops-behind fs bs made = filter_map-append stop_at fs bs ∙ ap (λ (ss : List Stopped). ss ++ filter_map stop_at bs) (no-stops fs made)

-- the first one that was not entered, of which the event is known
pub record IsNext (bs : List Ask) (event : Event) : Type 0 where
  pub its : Ask
  pub more : List Ask
  pub is : bs ≡ its ∷ more
  pub same : event_at its ≡ event

pub next-of : (bs : List Ask) (event : Event) → AllByRecursion IsLost bs → slice_get (filter_map stop_at bs) 0 ≡ Some (record { event = event; cause = NoNode }) → IsNext bs event
next-of [] event lost at = absurd (none-some _ at)
next-of (Asked stage asked (Ok reply) ∷ bs) event lost at = absurd (none-some asked (sym lost.0))
next-of (Asked stage asked (Err cause) ∷ bs) event lost at = record {
  its = Asked stage asked (Err cause);
  more = bs;
  is = refl;
  same = ap (λ (s : Stopped). s.event) (same_Some _ _ at);
}

-- where none of the stages before one found no node, what was not entered is of no stage before it
pub back-from : (s : ℕ) (bs : List Ask) → Rise (map stage_at bs) → IfSome (slice_get bs 0) (λ (a : Ask). is_end a ≡ true) → AllByRecursion (λ (a : Ask). is_end a ≡ false) (filter (is_before s) bs) → AllByRecursion (λ (n : ℕ). s ≤ n) (map stage_at bs)
back-from s [] rise ends runs = tt
back-from s (b ∷ bs) rise ends runs = by (is_before s b) refl runs
  where
    by : (t : Bool) → is_before s b ≡ t → AllByRecursion (λ (a : Ask). is_end a ≡ false) (cond t (b ∷ filter (is_before s) bs) (filter (is_before s) bs)) → AllByRecursion (λ (n : ℕ). s ≤ n) (map stage_at (b ∷ bs))
    by true is all = absurd (both_ways (is_end b) all.0 ends)
    by false is all =
        let from : s ≤ stage_at b = ltb-false (stage_at b) s is in
        (from, weaken (λ (n : ℕ). stage_at b ≤ n) (λ (n : ℕ). s ≤ n) (λ n h. omega (arith, h, from)) (map stage_at bs) rise.0)
