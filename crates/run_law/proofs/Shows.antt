-- Reads of boards in a script whose lines are done in file order.
use Rattle.std.proofs.Common.{◌≡◌, ℕ, zero, suc, ◌+◌, ◌==◌, ◌≤◌, ◌<◌, ◌⊎◌, inl, inr, Bool, true, false, cond, ltb, ◌&&◌, List, [], ◌∷◌, ◌++◌, length, get_or, map, min, take, drop, Option, Some, None, refl, sym, ap, subst, ◌∙◌, arith, append-nil, append_assoc, length-append}
use Rattle.std.proofs.lemmas.Bool.Decides.{nat_tests}
use Rattle.std.specs.List.{AllByRecursion, cons_option, count_by, filter, filter_map}
use Rattle.std.specs.Option.{option_map}
use Rattle.std.proofs.lemmas.Bool.{eqb-true}
use Rattle.std.proofs.lemmas.List.{length-map}
use Rattle.std.proofs.lemmas.List.Elements.{All-from_recursion, filter_map-append}
use Rattle.std.proofs.lemmas.List.Sums.{sum_by-cons}
use Rattle.mkt_base.specs.declared.event.Entry.{Entry}
use Rattle.mkt_base.specs.declared.event.Event.{Event}
use Rattle.mkt_base.specs.declared.script.ShowLine.{ShowLine}
use Rattle.script_file.specs.Own.{is_event}
use Rattle.script_file.specs.Script.{IsBefore}
use Rattle.script_file.specs.declared.script.GatewayScriptLine.{GatewayScriptLine}
use Rattle.issue_machine.specs.History.{FollowOn}
use Rattle.run_law.specs.Replayed.{Call, IsShowAt, call_in, calls_for, calls_in, lines_before}
use Rattle.run_law.specs.Run.{IsShowOf, count_of, event_in, lines_of, made_before, stages_in}
use Rattle.run_law.proofs.Lists.{drop-front, filter_map-agree, filter_map-filter}
use Rattle.run_law.proofs.Staged.{Staged, as-many, call_at, calls-append, calls-staged, count-is, event_by, events_by_calls, stage_at, staged_for, staged_in, stages-are}
use Rattle.run_law.proofs.Stages.{each-stage, stages-of}

-- ---- front parts

-- of two front parts the shorter is a front part of the longer
pub front-within : {X : Type 0} (xs ys us vs : List X) → xs ++ ys ≡ us ++ vs → length xs ≤ length us → (ws : List X) × (us ≡ xs ++ ws)
front-within [] ys us vs same short = (us, refl)
front-within (x ∷ xs) ys [] vs same short = absurd (omega (arith, short))
front-within {X} (x ∷ xs) ys (u ∷ us) vs same short =
    let rest : xs ++ ys ≡ us ++ vs = ap (λ (zs : List X). drop 1 zs) same in
    let head : u ≡ x = sym (ap (λ (zs : List X). get_or zs 0 u) same) in
    let more = front-within xs ys us vs rest (omega (arith, short)) in
    (more.0, ap (λ (z : X). z ∷ us) head ∙ ap (λ (zs : List X). x ∷ zs) more.1)

pub take-and-drop : {X : Type 0} (n : ℕ) (xs : List X) → xs ≡ take n xs ++ drop n xs
take-and-drop zero xs = refl
take-and-drop (suc n) [] = refl
take-and-drop (suc n) (x ∷ xs) = ap (λ ys. x ∷ ys) (take-and-drop n xs)

module _ {X Y : Type 0} (f : X → Y) (P : Y → Type 0) where
  each-map-take : (n : ℕ) (xs : List X) → AllByRecursion P (map f xs) → AllByRecursion P (map f (take n xs))
  each-map-take zero xs all = tt
  each-map-take (suc n) [] all = tt
  each-map-take (suc n) (x ∷ xs) all = (all.0, each-map-take n xs all.1)

take-short : {X : Type 0} (n : ℕ) (xs ys : List X) → n ≤ length xs → take n (xs ++ ys) ≡ take n xs
take-short zero xs ys short = refl
take-short (suc n) [] ys short = absurd (omega (arith, short))
take-short (suc n) (x ∷ xs) ys short = ap (λ zs. x ∷ zs) (take-short n xs ys (omega (arith, short)))

-- ---- the lines before a line

module _ (of : GatewayScriptLine) where
  -- before it, and behind it
  abbrev pub IsAhead : GatewayScriptLine → Type 0
  IsAhead x = IsBefore x of

  abbrev pub IsBehind : GatewayScriptLine → Type 0
  IsBehind x = IsBefore of x

  module _ {Y : Type 0} (F : GatewayScriptLine → Option Y) (only : (x : GatewayScriptLine) → (x.line.issue == of.line.issue) ≡ false → F x ≡ None) where
    abbrev earlier : GatewayScriptLine → Option Y
    earlier x = cond (ltb x.line.line of.line.line) (F x) None

    either-none : (b : Bool) (x : GatewayScriptLine) → F x ≡ None → cond b (F x) None ≡ F x
    either-none true x none = refl
    either-none false x none = sym none

    ahead-kept : (x : GatewayScriptLine) → IsAhead x → earlier x ≡ F x
    ahead-kept x ahead = by (x.line.issue == of.line.issue) refl ahead
      where
        by : (b : Bool) → (x.line.issue == of.line.issue) ≡ b → IsAhead x → earlier x ≡ F x
        by false other h = either-none (ltb x.line.line of.line.line) x (only x other)
        by true same (inl less) = ap (λ (b : Bool). cond b (F x) None) (ltb-yes x.line.line of.line.line less)
          where
            ltb-yes : (a b : ℕ) → a < b → ltb a b ≡ true
            ltb-yes a b h = grind (arith, nat_tests)
        by true same (inr h) = absurd (omega (arith, eqb-true x.line.issue of.line.issue same, h.1))

    ltb-no : (a b : ℕ) → b ≤ a → ltb a b ≡ false
    ltb-no a b h = grind (arith, nat_tests)

    behind-none : (x : GatewayScriptLine) → IsBehind x → earlier x ≡ None
    behind-none x behind = ap (λ (b : Bool). cond b (F x) None) (ltb-no x.line.line of.line.line (by behind))
      where
        by : IsBehind x → of.line.line ≤ x.line.line
        by (inl less) = omega (arith, less)
        by (inr h) = omega (arith, h.0)

    none-behind : (q : List GatewayScriptLine) → AllByRecursion IsBehind q → filter_map earlier q ≡ []
    none-behind [] all = refl
    none-behind (x ∷ q) all = ap (λ (o : Option Y). cons_option o (filter_map earlier q)) (behind-none x all.0) ∙ none-behind q all.1

    all-ahead : (p q : List GatewayScriptLine) → AllByRecursion IsAhead p → filter_map earlier (p ++ q) ≡ filter_map F p ++ filter_map earlier q
    all-ahead [] q all = refl
    all-ahead (x ∷ p) q all = step (F x) (ahead-kept x all.0) (all-ahead p q all.1)
      where
        step : (o : Option Y) → earlier x ≡ o → filter_map earlier (p ++ q) ≡ filter_map F p ++ filter_map earlier q → cons_option (earlier x) (filter_map earlier (p ++ q)) ≡ cons_option o (filter_map F p) ++ filter_map earlier q
        step None is rest = ap (λ (a : Option Y). cons_option a (filter_map earlier (p ++ q))) is ∙ rest
        step (Some y) is rest = ap (λ (a : Option Y). cons_option a (filter_map earlier (p ++ q))) is ∙ ap (λ (ys : List Y). y ∷ ys) rest

    -- what is picked from the lines before it
    pub picked-before : (p q : List GatewayScriptLine) → AllByRecursion IsAhead p → AllByRecursion IsBehind q → filter_map earlier (p ++ of ∷ q) ≡ filter_map F p
    picked-before p q ahead behind =
        let own : filter_map earlier (of ∷ q) ≡ [] =
        ap (λ (b : Bool). cons_option (cond b (F of) None) (filter_map earlier q)) (ltb-no of.line.line of.line.line (omega arith)) ∙ none-behind q behind in
        all-ahead p (of ∷ q) ahead ∙ ap (λ (ys : List Y). filter_map F p ++ ys) own ∙ append-nil (filter_map F p)

  module _ (p q : List GatewayScriptLine) (ahead : AllByRecursion IsAhead p) (behind : AllByRecursion IsBehind q) where
    call-only : (x : GatewayScriptLine) → (x.line.issue == of.line.issue) ≡ false → call_in of.line.issue x ≡ None
    call-only x other = ap (λ (b : Bool). cond b (option_map (λ (event : Event). let c : Call = record { gateway = x.gateway.0; event = event } in c) (event_in x.line.act)) None) other

    pub calls-before : calls_for of.line.issue (lines_before of.line.line (p ++ of ∷ q)) ≡ calls_for of.line.issue p
    calls-before = filter_map-filter (call_in of.line.issue) (λ (x : GatewayScriptLine). ltb x.line.line of.line.line) (p ++ of ∷ q) ∙ picked-before (call_in of.line.issue) call-only p q ahead behind

    -- how many events a gateway enters before it
    module _ (g : ℕ) where
      abbrev is_its : GatewayScriptLine → Bool
      is_its x = x.gateway.0 == g && x.line.issue == of.line.issue && is_event x.line.act

      its-only : (x : GatewayScriptLine) → (x.line.issue == of.line.issue) ≡ false → cond (is_its x) (Some x) None ≡ None
      its-only x other = ap (λ (b : Bool). cond (x.gateway.0 == g && b && is_event x.line.act) (Some x) None) other ∙ by (x.gateway.0 == g)
        where
          by : (b : Bool) → cond (b && false && is_event x.line.act) (Some x) None ≡ None
          by true = refl
          by false = refl

      counted : (xs : List GatewayScriptLine) → count_by (λ (x : GatewayScriptLine). ltb x.line.line of.line.line) xs
          ≡ length (filter_map (λ (x : GatewayScriptLine). cond (ltb x.line.line of.line.line) (Some x) None) xs)
      counted [] = refl
      counted (x ∷ xs) = sum_by-cons (λ (y : GatewayScriptLine). cond (ltb y.line.line of.line.line) 1 0) x xs ∙ by (ltb x.line.line of.line.line) (counted xs)
        where
          by : (b : Bool) → count_by (λ (x : GatewayScriptLine). ltb x.line.line of.line.line) xs ≡ length (filter_map (λ (x : GatewayScriptLine). cond (ltb x.line.line of.line.line) (Some x) None) xs)
              → cond {A = ℕ} b 1 0 + count_by (λ (x : GatewayScriptLine). ltb x.line.line of.line.line) xs
              ≡ length (cons_option (cond b (Some x) None) (filter_map (λ (x : GatewayScriptLine). cond (ltb x.line.line of.line.line) (Some x) None) xs))
          by true rest = omega (arith, rest)
          by false rest = omega (arith, rest)

      swapped : (x : GatewayScriptLine) → cond (is_its x) (cond (ltb x.line.line of.line.line) (Some x) None) None ≡ cond (ltb x.line.line of.line.line) (cond (is_its x) (Some x) None) None
      swapped x = by (is_its x) (ltb x.line.line of.line.line)
        where
          by : (a b : Bool) → cond a (cond b (Some x) None) None ≡ cond b (cond a (Some x) None) None
          by true true = refl
          by true false = refl
          by false true = refl
          by false false = refl

      all-its : (xs : List GatewayScriptLine) → filter_map (λ (x : GatewayScriptLine). cond (is_its x) (Some x) None) xs ≡ filter is_its xs
      all-its [] = refl
      all-its (x ∷ xs) = by (is_its x) (all-its xs)
        where
          by : (b : Bool) → filter_map (λ (x : GatewayScriptLine). cond (is_its x) (Some x) None) xs ≡ filter is_its xs → cons_option (cond b (Some x) None) (filter_map (λ (x : GatewayScriptLine). cond (is_its x) (Some x) None) xs) ≡ cond b (x ∷ filter is_its xs) (filter is_its xs)
          by true rest = ap (λ (ys : List GatewayScriptLine). x ∷ ys) rest
          by false rest = rest

      pub made-before : made_before of.line.issue g of.line.line (p ++ of ∷ q) ≡ length (events_by_calls g (calls_for of.line.issue p))
      made-before =
          counted (filter is_its (p ++ of ∷ q))
          ∙ ap length (filter_map-filter (λ (x : GatewayScriptLine). cond (ltb x.line.line of.line.line) (Some x) None) is_its (p ++ of ∷ q)
          ∙ filter_map-agree _ _ swapped (p ++ of ∷ q)
          ∙ picked-before (λ (x : GatewayScriptLine). cond (is_its x) (Some x) None) its-only p q ahead behind
          ∙ all-its p)
          ∙ sym (length-map (lines_of of.line.issue g p) (λ (x : GatewayScriptLine). x.line.stage))
          ∙ ap length (stages-are of.line.issue g p)
          ∙ as-many g (staged_for of.line.issue p)
          ∙ ap (λ (cs : List Call). length (events_by_calls g cs)) (calls-staged of.line.issue p)

-- ---- one read of a board

-- the numbers of a read: the calls in front of it, the calls of the lines before, all calls
nearest : (m a b : ℕ) → m ≡ min a b → ((m ≡ a) × (a ≤ b)) ⊎ ((m ≡ b) × (b ≤ a))
nearest m a b is = by (ltb a b) refl
  where
    by : (t : Bool) → ltb a b ≡ t → ((m ≡ a) × (a ≤ b)) ⊎ ((m ≡ b) × (b ≤ a))
    by true h = inl (grind (arith, nat_tests, is, h), grind (arith, nat_tests, h))
    by false h = inr (grind (arith, nat_tests, is, h), grind (arith, nat_tests, h))

least : (x y z : ℕ) → x ≤ y → x ≤ z → (x ≡ y) ⊎ (x ≡ z) → x ≡ min y z
least x y z h k (inl is) = grind (arith, nat_tests, h, k, is)
least x y z h k (inr is) = grind (arith, nat_tests, h, k, is)

module _ (participants : ℕ) (p q : List GatewayScriptLine) (of : GatewayScriptLine) (journal : List Entry) (rest : List Call) (s : ShowLine) (some : 1 ≤ of.gateway.0)
    (ahead : AllByRecursion (IsAhead of) p) (behind : AllByRecursion (IsBehind of) q)
    (upto : AllByRecursion (λ (x : GatewayScriptLine). x.line.stage ≤ of.line.stage) p) (from : AllByRecursion (λ (x : GatewayScriptLine). of.line.stage ≤ x.line.stage) (of ∷ q))
    (on : FollowOn participants [] journal) (are : calls_for of.line.issue (p ++ of ∷ q) ≡ calls_in journal ++ rest) (read : IsShowAt (p ++ of ∷ q) journal of s) where
  abbrev issue : ℕ
  issue = of.line.issue

  abbrev made : List GatewayScriptLine
  made = p ++ of ∷ q

  abbrev front : List Entry
  front = take s.board.length journal

  abbrev after : List Entry
  after = drop s.board.length journal

  whole-is : journal ≡ front ++ after
  whole-is = take-and-drop s.board.length journal

  calls-whole : calls_in journal ≡ calls_in front ++ calls_in after
  calls-whole = ap calls_in whole-is ∙ calls-append front after

  follows-split : FollowOn participants [] (front ++ after)
  follows-split = subst (FollowOn participants []) whole-is on

  calls-are : calls_for issue made ≡ (calls_in front ++ calls_in after) ++ rest
  calls-are = are ∙ ap (λ (cs : List Call). cs ++ rest) calls-whole

  number : length (calls_in front) ≡ min (length (calls_for issue p)) (length (calls_in journal))
  number = read.calls ∙ ap (λ (cs : List Call). min (length cs) (length (calls_in journal))) (calls-before of p q ahead behind)

  sums : length (calls_in journal) ≡ length (calls_in front) + length (calls_in after)
  sums = ap length calls-whole ∙ length-append (calls_in front) (calls_in after)

  as-long : length (staged_for issue p) ≡ length (calls_for issue p)
  as-long = sym (length-map (staged_for issue p) call_at) ∙ ap length (calls-staged issue p)

  staged-split : staged_for issue made ≡ staged_for issue p ++ staged_for issue (of ∷ q)
  staged-split = filter_map-append (staged_in issue) p (of ∷ q)

  short : length (calls_in front) ≤ length (calls_for issue p)
  short = grind (arith, nat_tests, number)

  front-stages : AllByRecursion (λ (n : ℕ). n ≤ of.line.stage) (stages_in issue made front)
  front-stages =
      let few : length (calls_in front) ≤ length (staged_for issue p) = omega (arith, short, as-long) in
      let are-stages : stages_in issue made front ≡ map stage_at (take (length (calls_in front)) (staged_for issue made)) =
      stages-of participants issue made [] front (calls_in after ++ rest) (front-follows front after [] follows-split) (calls-are ∙ append_assoc (calls_in front) (calls_in after) rest) in
      let same : stages_in issue made front ≡ map stage_at (take (length (calls_in front)) (staged_for issue p)) =
      are-stages ∙ ap (λ (xs : List Staged). map stage_at (take (length (calls_in front)) xs)) staged-split ∙ ap (map stage_at) (take-short (length (calls_in front)) (staged_for issue p) (staged_for issue (of ∷ q)) few) in
      subst (AllByRecursion (λ (n : ℕ). n ≤ of.line.stage)) (sym same)
      (each-map-take stage_at (λ (n : ℕ). n ≤ of.line.stage) (length (calls_in front)) (staged_for issue p) (each-stage issue (λ (n : ℕ). n ≤ of.line.stage) p upto))
    where
      front-follows : (es more before : List Entry) → FollowOn participants before (es ++ more) → FollowOn participants before es
      front-follows [] more before f = tt
      front-follows (e ∷ es) more before f = (f.0, front-follows es more (before ++ e ∷ []) f.1)

  after-stages : AllByRecursion (λ (n : ℕ). of.line.stage ≤ n) (stages_in issue made after)
  after-stages =
      let are-stages : stages_in issue made after ≡ map stage_at (take (length (calls_in after)) (drop (length (calls_in front)) (staged_for issue made))) =
      stages-of participants issue made front after rest follows-split calls-are in
      subst (AllByRecursion (λ (n : ℕ). of.line.stage ≤ n)) (sym are-stages) (by (nearest (length (calls_in front)) (length (calls_for issue p)) (length (calls_in journal)) number))
    where
      later : AllByRecursion (λ (n : ℕ). of.line.stage ≤ n) (map stage_at (staged_for issue (of ∷ q)))
      later = each-stage issue (λ (n : ℕ). of.line.stage ≤ n) (of ∷ q) from

      by : ((length (calls_in front) ≡ length (calls_for issue p)) × (length (calls_for issue p) ≤ length (calls_in journal)))
          ⊎ ((length (calls_in front) ≡ length (calls_in journal)) × (length (calls_in journal) ≤ length (calls_for issue p)))
          → AllByRecursion (λ (n : ℕ). of.line.stage ≤ n) (map stage_at (take (length (calls_in after)) (drop (length (calls_in front)) (staged_for issue made))))
      by (inl h) =
          let there : drop (length (calls_in front)) (staged_for issue made) ≡ staged_for issue (of ∷ q) =
          ap (drop (length (calls_in front))) staged-split ∙ drop-front (staged_for issue p) (staged_for issue (of ∷ q)) (length (calls_in front)) (h.0 ∙ sym as-long) in
          each-map-take stage_at (λ (n : ℕ). of.line.stage ≤ n) (length (calls_in after)) _ (subst (λ (xs : List Staged). AllByRecursion (λ (n : ℕ). of.line.stage ≤ n) (map stage_at xs)) (sym there) later)
      by (inr h) =
          let none : length (calls_in after) ≡ 0 = omega (arith, sums, h.0) in
          subst (λ (k : ℕ). AllByRecursion (λ (n : ℕ). of.line.stage ≤ n) (map stage_at (take k (drop (length (calls_in front)) (staged_for issue made))))) (sym none) tt

  own-count : count_of of.gateway.0 front ≡ min (made_before issue of.gateway.0 of.line.line made) (count_of of.gateway.0 journal)
  own-count =
      let g : ℕ = of.gateway.0 in
      let split : calls_in front ++ (calls_in after ++ rest) ≡ calls_for issue p ++ calls_for issue (of ∷ q) =
      sym (append_assoc (calls_in front) (calls_in after) rest) ∙ sym calls-are ∙ filter_map-append (call_in issue) p (of ∷ q) in
      let more = front-within (calls_in front) (calls_in after ++ rest) (calls_for issue p) (calls_for issue (of ∷ q)) split short in
      let made-is : made_before issue g of.line.line made ≡ length (events_by_calls g (calls_in front)) + length (events_by_calls g more.0) =
      made-before of p q ahead behind g ∙ ap (λ (cs : List Call). length (events_by_calls g cs)) more.1
      ∙ ap length (filter_map-append (event_by g) (calls_in front) more.0) ∙ length-append (events_by_calls g (calls_in front)) (events_by_calls g more.0) in
      let total : count_of g journal ≡ length (events_by_calls g (calls_in front)) + length (events_by_calls g (calls_in after)) =
      count-is g some journal ∙ ap (λ (cs : List Call). length (events_by_calls g cs)) calls-whole
      ∙ ap length (filter_map-append (event_by g) (calls_in front) (calls_in after)) ∙ length-append (events_by_calls g (calls_in front)) (events_by_calls g (calls_in after)) in
      let here : count_of g front ≡ length (events_by_calls g (calls_in front)) = count-is g some front in
      let longer : length (calls_for issue p) ≡ length (calls_in front) + length more.0 = ap length more.1 ∙ length-append (calls_in front) more.0 in
      least (count_of g front) (made_before issue g of.line.line made) (count_of g journal) (omega (arith, here, made-is)) (omega (arith, here, total))
      (by g more.0 here made-is total longer (nearest (length (calls_in front)) (length (calls_for issue p)) (length (calls_in journal)) number))
    where
      empty : (cs : List Call) (g : ℕ) → length cs ≡ 0 → length (events_by_calls g cs) ≡ 0
      empty [] g none = refl
      empty (c ∷ cs) g none = absurd (omega (arith, none))

      by : (g : ℕ) (ws : List Call) → count_of g front ≡ length (events_by_calls g (calls_in front))
          → made_before issue g of.line.line made ≡ length (events_by_calls g (calls_in front)) + length (events_by_calls g ws)
          → count_of g journal ≡ length (events_by_calls g (calls_in front)) + length (events_by_calls g (calls_in after))
          → length (calls_for issue p) ≡ length (calls_in front) + length ws
          → ((length (calls_in front) ≡ length (calls_for issue p)) × (length (calls_for issue p) ≤ length (calls_in journal)))
          ⊎ ((length (calls_in front) ≡ length (calls_in journal)) × (length (calls_in journal) ≤ length (calls_for issue p)))
          → (count_of g front ≡ made_before issue g of.line.line made) ⊎ (count_of g front ≡ count_of g journal)
      by g ws here made-is total longer (inl h) = inl (omega (arith, here, made-is, empty ws g (omega (arith, longer, h.0))))
      by g ws here made-is total longer (inr h) = inr (omega (arith, here, total, empty (calls_in after) g (omega (arith, sums, h.0))))

  pub show-is : IsShowOf made journal of s
  show-is = record {
    line = read.line;
    gateway = read.gateway;
    issue = read.issue;
    whole = read.whole;
    front = All-from_recursion (λ (n : ℕ). n ≤ of.line.stage) (stages_in issue made front) front-stages;
    behind = All-from_recursion (λ (n : ℕ). of.line.stage ≤ n) (stages_in issue made after) after-stages;
    own = own-count;
  }
