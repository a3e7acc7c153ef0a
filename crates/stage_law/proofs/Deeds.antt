-- Deeds in order: what they entered and were answered, those of earlier stages, and the boards that they read.
use Rattle.std.proofs.Common.{◌≡◌, ℕ, ◌+◌, ◌<◌, ◌≤◌, ◌⊎◌, inl, inr, List, [], ◌∷◌, ◌++◌, map, filter_map, nat_lt, Option, Some, None, IfSome, All, refl, ap, subst, ◌∙◌, arith, append-nil, lt-ltb, le-ltb, slice_index_or}
use Rattle.std.specs.List.{cons_option}
use Rattle.std.proofs.lemmas.Bool.{cases_lt, cond-false, cond-true}
use Rattle.std.proofs.lemmas.List.{map-append}
use Rattle.std.proofs.lemmas.List.Elements.{All-cons, All-head, All-nil, All-tail, filter-append}
use Rattle.mkt_base.specs.declared.event.Event.{Event}
use Rattle.mkt_base.specs.declared.quote.Board.{Board}
use Rattle.gateway.specs.Ran.{Deed}
use Rattle.gateway.specs.Served.{Answer, board_by, events_made, lengths_shown, made_by}
use Rattle.gateway.proofs.Lines.{filter-all, filter-none}
use Rattle.gateway.proofs.Serving.{events_made-append}
use Rattle.stage_law.specs.Come.{Cut, IsBetween, answers_of, cut_at, done_before, entered_in}

pub last-or-before : (s n : ℕ) → s ≤ n + 1 → (s ≤ n) ⊎ (s ≡ n + 1)
last-or-before s n less = by (cases_lt s (n + 1))
  where
    by : ((s < n + 1) ⊎ (n + 1 ≤ s)) → (s ≤ n) ⊎ (s ≡ n + 1)
    by (inl h) = inl (omega (arith, h))
    by (inr h) = inr (omega (arith, h, less))

pub some-then : {X : Type 0} (P Q : X → Type 0) (o : Option X) → ((x : X) → P x → Q x) → IfSome o P → IfSome o Q
some-then P Q None f h = tt
some-then P Q (Some x) f h = f x h

-- what holds of the images holds of the items by their images
pub unmapped : {X Y : Type 0} (P : Y → Type 0) (f : X → Y) (xs : List X) → All P (map f xs) → All (λ x. P (f x)) xs
unmapped P f [] all = All-nil (λ x. P (f x))
unmapped P f (x ∷ xs) all = All-cons (λ y. P (f y)) x xs (All-head P (f x) (map f xs) all) (unmapped P f xs (All-tail P (f x) (map f xs) all))

-- ---- in a row

pub answers-append : (xs ys : List Deed) → answers_of (xs ++ ys) ≡ answers_of xs ++ answers_of ys
answers-append xs ys = map-append (λ (x : Deed). x.answer) xs ys

pub entered-append : (xs ys : List Deed) → entered_in (xs ++ ys) ≡ entered_in xs ++ entered_in ys
entered-append xs ys = ap events_made (answers-append xs ys) ∙ events_made-append (answers_of xs) (answers_of ys)

-- where nothing was entered no answer entered anything
pub none-made : (ys : List Answer) → events_made ys ≡ [] → All (λ (y : Answer). made_by y ≡ None) ys
none-made [] none = All-nil (λ (y : Answer). made_by y ≡ None)
none-made (y ∷ ys) none = by (λ rest. none-made ys rest) (made_by y) refl none
  where
    never : (x : Event) (xs : List Event) → x ∷ xs ≡ [] → ⊥
    never x xs is = cc

    by : (events_made ys ≡ [] → All (λ (z : Answer). made_by z ≡ None) ys) → (o : Option Event) → made_by y ≡ o → cons_option o (events_made ys) ≡ [] → All (λ (z : Answer). made_by z ≡ None) (y ∷ ys)
    by next None is rest = All-cons (λ (z : Answer). made_by z ≡ None) y ys is (next rest)
    by next (Some event) is rest = absurd (never event (events_made ys) rest)

-- what holds of the lengths of all boards holds of that of each board
pub boards-each : (P : ℕ → Type 0) (xs : List Deed) → All P (lengths_shown (answers_of xs)) → All (λ (x : Deed). IfSome (board_by x.answer) (λ (b : Board). P b.length)) xs
boards-each P [] all = All-nil (λ (x : Deed). IfSome (board_by x.answer) (λ (b : Board). P b.length))
boards-each P (x ∷ xs) all =
    let parts = by (board_by x.answer) all in
    All-cons (λ (y : Deed). IfSome (board_by y.answer) (λ (b : Board). P b.length)) x xs parts.0 (boards-each P xs parts.1)
  where
    by : (o : Option Board) → All P (map (λ (b : Board). b.length) (cons_option o (filter_map board_by (answers_of xs)))) → IfSome o (λ (b : Board). P b.length) × All P (lengths_shown (answers_of xs))
    by None all = (tt, all)
    by (Some b) all = (All-head P b.length (lengths_shown (answers_of xs)) all, All-tail P b.length (lengths_shown (answers_of xs)) all)

-- ---- earlier stages

pub earlier-all : (s : ℕ) (xs : List Deed) → All (λ (x : Deed). x.line.stage < s) xs → done_before s xs ≡ xs
earlier-all s xs all = filter-all (λ (x : Deed). nat_lt x.line.stage s) xs (λ k d less. lt-ltb (slice_index_or xs k d).line.stage s (all k d less))

pub earlier-none : (s : ℕ) (xs : List Deed) → All (λ (x : Deed). s ≤ x.line.stage) xs → done_before s xs ≡ []
earlier-none s xs all = filter-none (λ (x : Deed). nat_lt x.line.stage s) xs (λ k d less. le-ltb (slice_index_or xs k d).line.stage s (all k d less))

-- deeds of a later stage add nothing to those before
pub earlier-same : (s : ℕ) (xs ys : List Deed) → All (λ (y : Deed). s ≤ y.line.stage) ys → done_before s (xs ++ ys) ≡ done_before s xs
earlier-same s xs ys later =
    filter-append (λ (x : Deed). nat_lt x.line.stage s) xs ys ∙ ap (λ (zs : List Deed). done_before s xs ++ zs) (earlier-none s ys later) ∙ append-nil (done_before s xs)

-- ---- cuts

pub cut-old : (cuts : ℕ → Cut) (stage : ℕ) (cut : Cut) (s : ℕ) → s < stage → cut_at cuts stage cut s ≡ cuts s
cut-old cuts stage cut s less = cond-true (nat_lt s stage) (cuts s) cut (lt-ltb s stage less)

pub cut-new : (cuts : ℕ → Cut) (stage : ℕ) (cut : Cut) (s : ℕ) → stage ≤ s → cut_at cuts stage cut s ≡ cut
cut-new cuts stage cut s more = cond-false (nat_lt s stage) (cuts s) cut (le-ltb s stage more)

-- what is said once is still said
pub between-keeps : (t u : Board → ℕ → Type 0) (l m k n : ℕ) → ((board : Board) (made : ℕ) → t board made → u board made) → l ≡ k → m ≡ n → IsBetween t l m → IsBetween u k n
between-keeps t u l m k n keeps long many b =
    subst (λ (i : ℕ). IsBetween u i n) long
    (subst (λ (i : ℕ). IsBetween u l i) many
    (record { low = b.low; low_told = keeps b.low m b.low_told; upto = b.upto; high = b.high; high_told = keeps b.high m b.high_told; from = b.from }))
