-- The lines of a gateway: those of a stage, and the next one.
use Rattle.std.proofs.Common.{◌≡◌, ℕ, suc, ◌+◌, ◌<◌, ◌≤◌, ◌==◌, Bool, true, false, cond, List, [], ◌∷◌, ◌++◌, length, drop, count_by, filter, filter_map, nat_lt, All, refl, sym, ap, subst, ◌∙◌, arith, add-one, slice_index_or}
use Rattle.std.proofs.Math.Seq.{drop-cons}
use Rattle.std.proofs.lemmas.List.{length-append}
use Rattle.std.proofs.lemmas.Bool.{eqb-false, lt-ltb, ne_eqb}
use Rattle.std.proofs.lemmas.List.Elements.{All-cons, All-head, All-nil, All-tail}
use Rattle.std.proofs.lemmas.List.Sums.{sum_by-cons}
use Rattle.mkt_base.specs.declared.script.ScriptLine.{ScriptLine}
use Rattle.mkt_base.specs.declared.script.ShowLine.{ShowLine}
use Rattle.mkt_base.specs.declared.units.Caller.{Caller}
use Rattle.gateway.specs.Ran.{AreInStages, BeginNoEarlier, Deed, comes_next, is_read, is_show, lines_after, lines_in, show_of}
use Rattle.gateway.specs.Served.{Answer, Entered, Shown, act_of}
use Rattle.gateway.proofs.Pairs.{pairs-head}

-- ---- filters

pub filter-all : {X : Type 0} (p : X → Bool) (xs : List X) → All (λ x. p x ≡ true) xs → filter p xs ≡ xs
filter-all p [] all = refl
filter-all p (x ∷ xs) all =
    ap (λ (b : Bool). cond b (x ∷ filter p xs) (filter p xs)) (All-head (λ y. p y ≡ true) x xs all) ∙ ap (λ ys. x ∷ ys) (filter-all p xs (All-tail (λ y. p y ≡ true) x xs all))

pub filter-none : {X : Type 0} (p : X → Bool) (xs : List X) → All (λ x. p x ≡ false) xs → filter p xs ≡ []
filter-none p [] all = refl
filter-none p (x ∷ xs) all =
    ap (λ (b : Bool). cond b (x ∷ filter p xs) (filter p xs)) (All-head (λ y. p y ≡ false) x xs all) ∙ filter-none p xs (All-tail (λ y. p y ≡ false) x xs all)

pub all-behind : {X : Type 0} (P : X → Type 0) (xs ys : List X) → All P (xs ++ ys) → All P ys
all-behind P [] ys all = all
all-behind P (x ∷ xs) ys all = all-behind P xs ys (All-tail P x (xs ++ ys) all)

-- ---- stages

-- behind a line of the stage nothing is earlier
pub next-later : (stage : ℕ) (l : ScriptLine) (lines : List ScriptLine) → AreInStages (l ∷ lines) → l.stage ≡ stage → BeginNoEarlier stage lines
next-later stage l [] stages is = tt
next-later stage l (m ∷ lines) stages is =
    subst (λ (n : ℕ). n ≤ m.stage) is
    (All-head (λ (b : ScriptLine). l.stage ≤ b.stage) m lines (pairs-head (λ (a b : ScriptLine). a.stage ≤ b.stage) l (m ∷ lines) stages))

-- where none of the stage comes next, all are later
pub all-later : (stage : ℕ) (lines : List ScriptLine) → comes_next stage lines ≡ false → AreInStages lines → BeginNoEarlier stage lines → All (λ (l : ScriptLine). stage < l.stage) lines
all-later stage [] none stages begin = All-nil (λ (l : ScriptLine). stage < l.stage)
all-later stage (l ∷ lines) none stages begin =
    let apart = eqb-false l.stage stage none in
    let later : stage < l.stage = above stage l.stage begin apart in
    let rest = pairs-head (λ (a b : ScriptLine). a.stage ≤ b.stage) l lines stages in
    All-cons (λ (b : ScriptLine). stage < b.stage) l lines later (λ k d less. let more = rest k d less in omega (arith, later, more))
  where
    above : (s n : ℕ) → s ≤ n → (n ≡ s → ⊥) → s < n
    above s n le apart = grind (arith, le, apart)

pub none-in : (stage : ℕ) (lines : List ScriptLine) → All (λ (l : ScriptLine). stage < l.stage) lines → lines_in stage lines ≡ []
none-in stage lines later =
    filter-none (λ (l : ScriptLine). l.stage == stage) lines (λ k d less. let more = later k d less in ne_eqb (slice_index_or lines k d).stage stage (λ is. omega (arith, more, is)))

pub all-after : (stage : ℕ) (lines : List ScriptLine) → All (λ (l : ScriptLine). stage < l.stage) lines → lines_after stage lines ≡ lines
all-after stage lines later =
    filter-all (λ (l : ScriptLine). nat_lt stage l.stage) lines (λ k d less. lt-ltb stage (slice_index_or lines k d).stage (later k d less))

-- ---- the next line

-- the lines from a place on are the one there and those behind it
pub from-place : {X : Type 0} (place : ℕ) (xs : List X) (x : X) → place < length xs → x ≡ slice_index_or xs place x → drop place xs ≡ x ∷ drop (place + 1) xs
from-place {X} place xs x within is =
    drop-cons xs place x within ∙ ap (λ (y : X). y ∷ drop (suc place) xs) (sym is) ∙ ap (λ (n : ℕ). x ∷ drop n xs) (sym (add-one place))

-- a line takes the room of a board where it reads one
pub one-read : (gateway : Caller) (line : ScriptLine) (answer : Answer) (rest : List ScriptLine) → act_of answer ≡ line.act
    → length (filter_map (show_of gateway) (record { line = line; answer = answer } ∷ [])) + count_by is_show rest ≡ count_by is_show (line ∷ rest)
one-read gateway line (Entered event reply) rest is =
    let no : is_show line ≡ false = ap is_read (sym is) in
    sym (sum_by-cons (λ (l : ScriptLine). cond (is_show l) 1 0) line rest ∙ ap (λ (b : Bool). cond b 1 0 + count_by is_show rest) no)
one-read gateway line (Shown board) rest is =
    let reads : is_show line ≡ true = ap is_read (sym is) in
    sym (sum_by-cons (λ (l : ScriptLine). cond (is_show l) 1 0) line rest ∙ ap (λ (b : Bool). cond b 1 0 + count_by is_show rest) reads)

-- so the room for the boards of all lines is enough for those behind it
pub room-next : (gateway : Caller) (x : Deed) (line : ScriptLine) (rest : List ScriptLine) (shows kept : List ShowLine) (room : ℕ) → x.line ≡ line → act_of x.answer ≡ x.line.act
    → kept ≡ shows ++ filter_map (show_of gateway) (x ∷ []) → length shows + count_by is_show (line ∷ rest) ≤ room → length kept + count_by is_show rest ≤ room
room-next gateway x line rest shows kept room same asked is fits =
    let one = one-read gateway x.line x.answer rest asked in
    let long = ap length is ∙ length-append shows (filter_map (show_of gateway) (x ∷ [])) in
    let all : length shows + count_by is_show (x.line ∷ rest) ≤ room = subst (λ (l : ScriptLine). length shows + count_by is_show (l ∷ rest) ≤ room) (sym same) fits in
    omega (arith, one, long, all)
