-- What a desk becomes by one answer, by none, and by answers in a row.
use Rattle.std.proofs.Common.{◌≡◌, ℕ, ◌+◌, ◌≤◌, true, false, List, [], ◌∷◌, ◌++◌, length, map, filter_map, Option, Some, None, Result, Ok, Err, All, AllPairs, refl, sym, ap, subst, ◌∙◌, arith, append-nil, append_assoc, slice_get}
use Rattle.std.proofs.lemmas.List.{map-append, length-append}
use Rattle.std.proofs.lemmas.List.Elements.{All-append, All-cons, All-nil, filter_map-append}
use Rattle.mkt_base.specs.Desk.{DeskState, IsDeskState, WasShown, WasSubmitted, made_with, stop_with}
use Rattle.mkt_base.specs.declared.event.Event.{Event}
use Rattle.mkt_base.specs.declared.event.Reply.{Reply}
use Rattle.mkt_base.specs.declared.journal.Halt.{Halt}
use Rattle.mkt_base.specs.declared.journal.Stopped.{Stopped}
use Rattle.mkt_base.specs.declared.journal.TurnStop.{TurnStop}
use Rattle.mkt_base.specs.declared.journal.TurnStop.TheVariants.{NoNode, JournalFull}
use Rattle.mkt_base.specs.declared.quote.Board.{Board}
use Rattle.gateway.specs.Served.{Answer, Entered, Shown, AreTold, Served, board_by, events_made, first_stop, is_no_node, lengths_shown, made_by, stop_by}
use Rattle.gateway.proofs.Pairs.{all-one, pairs-append, pairs-nil, pairs-one}

-- ---- answers in a row

pub events_made-append : (xs ys : List Answer) → events_made (xs ++ ys) ≡ events_made xs ++ events_made ys
events_made-append xs ys = filter_map-append made_by xs ys

pub lengths_shown-append : (xs ys : List Answer) → lengths_shown (xs ++ ys) ≡ lengths_shown xs ++ lengths_shown ys
lengths_shown-append xs ys =
    ap (map (λ (board : Board). board.length)) (filter_map-append board_by xs ys)
    ∙ map-append (λ (board : Board). board.length) (filter_map board_by xs) (filter_map board_by ys)

-- the first stop of all is kept
pub first_stop-append : (kept : Option Stopped) (xs ys : List Answer) → first_stop (first_stop kept xs) ys ≡ first_stop kept (xs ++ ys)
first_stop-append (Some s) xs ys = refl
first_stop-append None xs ys = first xs
  where
    first : (xs : List Answer) → first_stop (slice_get (filter_map stop_by xs) 0) ys ≡ slice_get (filter_map stop_by (xs ++ ys)) 0
    first [] = refl
    first (Entered event (Ok reply) ∷ xs) = first xs
    first (Entered event (Err cause) ∷ xs) = refl
    first (Shown board ∷ xs) = first xs

pub told-append : (tells : Board → ℕ → Type 0) (made : ℕ) (xs ys : List Answer) → AreTold tells made xs → AreTold tells (made + length (events_made xs)) ys → AreTold tells made (xs ++ ys)
told-append tells made [] ys first second = subst (λ (n : ℕ). AreTold tells n ys) (omega arith) second
told-append tells made (Entered event (Ok reply) ∷ xs) ys first second =
    told-append tells (made + 1) xs ys first (subst (λ (n : ℕ). AreTold tells n ys) (omega arith) second)
told-append tells made (Entered event (Err cause) ∷ xs) ys first second = told-append tells made xs ys first second
told-append tells made (Shown board ∷ xs) ys first second = (first.0, told-append tells made xs ys first.1 second)

-- one board among the answers, with the events that the answers before it made
pub told-at : (tells : Board → ℕ → Type 0) (made : ℕ) (front back : List Answer) (board : Board) → AreTold tells made (front ++ Shown board ∷ back) → tells board (made + length (events_made front))
told-at tells made [] back board told = subst (λ (n : ℕ). tells board n) (omega arith) told.0
told-at tells made (Entered event (Ok reply) ∷ front) back board told = subst (λ (n : ℕ). tells board n) (omega arith) (told-at tells (made + 1) front back board told)
told-at tells made (Entered event (Err cause) ∷ front) back board told = told-at tells made front back board told
told-at tells made (Shown shown ∷ front) back board told = told-at tells made front back board told.1

-- what is told once stays told
pub told-still : (before after : Board → ℕ → Type 0) → ((board : Board) (made : ℕ) → before board made → after board made) → (made : ℕ) (xs : List Answer) → AreTold before made xs → AreTold after made xs
told-still before after still made [] told = tt
told-still before after still made (Entered event (Ok reply) ∷ xs) told = told-still before after still (made + 1) xs told
told-still before after still made (Entered event (Err cause) ∷ xs) told = told-still before after still made xs told
told-still before after still made (Shown board ∷ xs) told = (still board made told.0, told-still before after still made xs told.1)

-- where nothing was entered no answer entered anything
none-made : (ys : List Answer) → events_made ys ≡ [] → All (λ (y : Answer). made_by y ≡ None) ys
none-made [] none = All-nil (λ (y : Answer). made_by y ≡ None)
none-made (Entered event (Ok reply) ∷ ys) none = absurd (never event (events_made ys) none)
  where
    never : (x : Event) (xs : List Event) → x ∷ xs ≡ [] → ⊥
    never x xs is = cc
none-made (Entered event (Err cause) ∷ ys) none = All-cons (λ (y : Answer). made_by y ≡ None) (Entered event (Err cause)) ys refl (none-made ys none)
none-made (Shown board ∷ ys) none = All-cons (λ (y : Answer). made_by y ≡ None) (Shown board) ys refl (none-made ys none)

-- ---- one answer

abbrev Follows : Answer → Answer → Type 0
Follows x y = is_no_node x ≡ true → made_by y ≡ None

made-one : (made : List Event) (event : Event) (answer : Result Reply TurnStop) → made_with made event answer ≡ made ++ events_made (Entered event answer ∷ [])
made-one made event (Ok reply) = refl
made-one made event (Err cause) = sym (append-nil made)

stop-one : (kept : Option Stopped) (event : Event) (answer : Result Reply TurnStop) → stop_with kept event answer ≡ first_stop kept (Entered event answer ∷ [])
stop-one (Some s) event answer = refl
stop-one None event (Ok reply) = refl
stop-one None event (Err cause) = refl

stop-read : (kept : Option Stopped) (board : Board) → kept ≡ first_stop kept (Shown board ∷ [])
stop-read (Some s) board = refl
stop-read None board = refl

told-one : (tells : Board → ℕ → Type 0) (made : ℕ) (event : Event) (answer : Result Reply TurnStop) → AreTold tells made (Entered event answer ∷ [])
told-one tells made event (Ok reply) = tt
told-one tells made event (Err cause) = tt

gave_up-one : (event : Event) (answer : Result Reply TurnStop) → is_no_node (Entered event answer) ≡ true → answer ≡ Err NoNode
gave_up-one event (Ok reply) is = absurd (let never : false ≡ true → ⊥ = λ e. cc in never is)
gave_up-one event (Err NoNode) is = refl
gave_up-one event (Err (JournalFull length up capacity)) is = absurd (let never : false ≡ true → ⊥ = λ e. cc in never is)

module _ {D F : Type 0} (state : D → DeskState) (fixed : D → F) (tells : D → Board → ℕ → Type 0) where
  -- a desk that was only shown, or not used at all
  pub served-quietly : (a b : D) → fixed b ≡ fixed a → (state a).seen ≤ (state b).seen
      → ((board : Board) (made : ℕ) → tells a board made → tells b board made) → ((h : Halt) → (state a).halt ≡ Some h → (state b).halt ≡ Some h)
      → ((state a).ended ≡ true → (state b).ended ≡ true) → (state b).made ≡ (state a).made → (state b).stop ≡ (state a).stop → Served state fixed tells [] a b
  served-quietly a b same seen told halt ended made stop =
      let stop_is : (kept : Option Stopped) → kept ≡ first_stop kept [] = λ kept. elim kept as (λ k. k ≡ first_stop k []) [ Some s ↦ refl | None ↦ refl ] in
      record {
        same = same;
        seen = seen;
        told = told;
        halt = halt;
        ended = ended;
        made = made ∙ sym (append-nil (state a).made);
        stop = stop ∙ stop_is (state a).stop;
        quiet = pairs-nil Follows;
        gave_up = All-nil (λ (x : Answer). is_no_node x ≡ true → (state b).ended ≡ true);
        no_node_before = λ event is. refl;
        halt_before = λ h is. refl;
        ended_before = λ is. refl;
        boards = tt;
        from = All-nil (λ (n : ℕ). (state a).seen ≤ n);
        upto = All-nil (λ (n : ℕ). n ≤ (state b).seen);
        forward = pairs-nil (λ (m n : ℕ). m ≤ n);
      }

  pub served-nothing : (a : D) → Served state fixed tells [] a a
  served-nothing a = served-quietly a a refl (omega arith) (λ board made h. h) (λ h is. is) (λ is. is) refl refl

  -- an event was submitted
  pub served-event : (event : Event) (answer : Result Reply TurnStop) (a b : D) → IsDeskState (state a) → fixed b ≡ fixed a → WasSubmitted event answer (state a) (state b)
      → ((board : Board) (made : ℕ) → tells a board made → tells b board made) → Served state fixed tells (Entered event answer ∷ []) a b
  served-event event answer a b sound same done told =
      let none : (state a).ended ≡ true → events_made (Entered event answer ∷ []) ≡ [] = λ is. ap (λ (r : Result Reply TurnStop). events_made (Entered event r ∷ [])) (done.quiet is) in
      record {
        same = same;
        seen = done.seen;
        told = told;
        halt = done.halt;
        ended = done.ended;
        made = done.made ∙ made-one (state a).made event answer;
        stop = done.stop ∙ stop-one (state a).stop event answer;
        quiet = pairs-one Follows (Entered event answer);
        gave_up = all-one (λ (x : Answer). is_no_node x ≡ true → (state b).ended ≡ true) (Entered event answer) (λ is. done.no_node (gave_up-one event answer is));
        no_node_before = λ e is. none (sound.no_node e is);
        halt_before = λ h is. none (sound.halted h is);
        ended_before = none;
        boards = told-one (tells b) (length (state a).made) event answer;
        from = All-nil (λ (n : ℕ). (state a).seen ≤ n);
        upto = All-nil (λ (n : ℕ). n ≤ (state b).seen);
        forward = pairs-nil (λ (m n : ℕ). m ≤ n);
      }

  -- the board was read
  pub served-board : (board : Board) (a b : D) → fixed b ≡ fixed a → WasShown board (state a) (state b) → tells b board (length (state a).made)
      → ((shown : Board) (made : ℕ) → tells a shown made → tells b shown made) → Served state fixed tells (Shown board ∷ []) a b
  served-board board a b same done tells_it told = record {
    same = same;
    seen = done.seen;
    told = told;
    halt = done.halt;
    ended = done.ended;
    made = done.made ∙ sym (append-nil (state a).made);
    stop = done.stop ∙ stop-read (state a).stop board;
    quiet = pairs-one Follows (Shown board);
    gave_up = all-one (λ (x : Answer). is_no_node x ≡ true → (state b).ended ≡ true) (Shown board) (λ is. absurd (let never : false ≡ true → ⊥ = λ e. cc in never is));
    no_node_before = λ event is. refl;
    halt_before = λ h is. refl;
    ended_before = λ is. refl;
    boards = (tells_it, tt);
    from = all-one (λ (n : ℕ). (state a).seen ≤ n) board.length (subst (λ (n : ℕ). (state a).seen ≤ n) (sym done.all) done.seen);
    upto = all-one (λ (n : ℕ). n ≤ (state b).seen) board.length (subst (λ (n : ℕ). n ≤ (state b).seen) (sym done.all) (omega arith));
    forward = pairs-one (λ (m n : ℕ). m ≤ n) board.length;
  }

  -- what becomes of a desk by answers in a row
  pub served-then : (xs ys : List Answer) (a b c : D) → Served state fixed tells xs a b → Served state fixed tells ys b c → Served state fixed tells (xs ++ ys) a c
  served-then xs ys a b c first second =
      let none : events_made xs ≡ [] → events_made ys ≡ [] → events_made (xs ++ ys) ≡ [] = λ e f. events_made-append xs ys ∙ ap (λ (es : List Event). es ++ events_made ys) e ∙ f in
      let lengths : lengths_shown xs ++ lengths_shown ys ≡ lengths_shown (xs ++ ys) = sym (lengths_shown-append xs ys) in
      let Low : ℕ → Type 0 = λ n. (state a).seen ≤ n in
      let High : ℕ → Type 0 = λ n. n ≤ (state c).seen in
      let R : ℕ → ℕ → Type 0 = λ m n. m ≤ n in
      let GaveUp : Answer → Type 0 = λ x. is_no_node x ≡ true → (state c).ended ≡ true in
      record {
        same = second.same ∙ first.same;
        seen = omega (arith, first.seen, second.seen);
        told = λ board made h. second.told board made (first.told board made h);
        halt = λ h is. second.halt h (first.halt h is);
        ended = λ is. second.ended (first.ended is);
        made = second.made ∙ ap (λ (es : List Event). es ++ events_made ys) first.made ∙ append_assoc (state a).made (events_made xs) (events_made ys)
            ∙ ap (λ (es : List Event). (state a).made ++ es) (sym (events_made-append xs ys));
        stop = second.stop ∙ ap (λ (s : Option Stopped). first_stop s ys) first.stop ∙ first_stop-append (state a).stop xs ys;
        quiet = pairs-append Follows xs ys first.quiet second.quiet
            (λ k d less j e within gave_up. none-made ys (second.ended_before (first.gave_up k d less gave_up)) j e within);
        gave_up = All-append GaveUp xs ys (λ k d less gave_up. second.ended (first.gave_up k d less gave_up)) second.gave_up;
        no_node_before = λ event is. none (first.no_node_before event is)
            (second.no_node_before event (first.stop ∙ ap (λ (s : Option Stopped). first_stop s xs) is));
        halt_before = λ h is. none (first.halt_before h is) (second.halt_before h (first.halt h is));
        ended_before = λ is. none (first.ended_before is) (second.ended_before (first.ended is));
        boards = told-append (tells c) (length (state a).made) xs ys (told-still (tells b) (tells c) second.told (length (state a).made) xs first.boards)
            (subst (λ (n : ℕ). AreTold (tells c) n ys) (ap length first.made ∙ length-append (state a).made (events_made xs)) second.boards);
        from = subst (All Low) lengths (All-append Low (lengths_shown xs) (lengths_shown ys) first.from (λ k d less. let above = second.from k d less in omega (arith, first.seen, above)));
        upto = subst (All High) lengths (All-append High (lengths_shown xs) (lengths_shown ys) (λ k d less. let below = first.upto k d less in omega (arith, second.seen, below)) second.upto);
        forward = subst (AllPairs R) lengths (pairs-append R (lengths_shown xs) (lengths_shown ys) first.forward second.forward
            (λ k d less j e within. let below = first.upto k d less in let above = second.from j e within in omega (arith, below, above)));
      }
