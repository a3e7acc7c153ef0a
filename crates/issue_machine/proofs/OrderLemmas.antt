-- Orders that enter, change and leave: what they fill, and that they may.
use Rattle.std.proofs.Common.{◌≡◌, ℕ, ◌+◌, ◌-◌, ◌%◌, ◌<◌, ◌≤◌, Bool, true, false, cond, not, eqb, leb, ◌&&◌, ◌||◌, List, [], ◌∷◌, ◌++◌, length, map, filter, All, Option, None, Some, refl, sym, ap, subst, ◌∙◌, arith, append-nil}
use Rattle.std.specs.List.{AllByRecursion, filter_map, find}
use Rattle.std.specs.Option.{is_none, is_some, option_map, option_map_or, unwrap_or}
use Rattle.std.proofs.lemmas.Bool.{and_parts, eqb-true, eq-eqb, leb-true, ne_eqb, not-true}
use Rattle.std.proofs.lemmas.List.Elements.{All-filter, All-from_recursion, All-map, All-weaker, filter_map-append, filter_passes, recursion_from_All}
use Rattle.std.proofs.lemmas.List.Quantifiers.{position-Some}
use Rattle.std.proofs.lemmas.List.Sums.{count_by-le-length, length-filter, sum_by-append}
use Rattle.mkt_base.specs.Fills.{traded_at}
use Rattle.mkt_base.specs.declared.auction.Trade.{Trade}
use Rattle.mkt_base.specs.declared.event.Entry.{Entry}
use Rattle.mkt_base.specs.declared.event.Reason.{Reason}
use Rattle.mkt_base.specs.declared.event.Reason.TheVariants.{BadPrice}
use Rattle.mkt_base.specs.declared.event.Reply.{Reply}
use Rattle.mkt_base.specs.declared.event.Reply.TheVariants as replies
use Rattle.mkt_base.specs.declared.order.Kind.{Kind}
use Rattle.mkt_base.specs.declared.order.Kind.TheVariants as kinds
use Rattle.mkt_base.specs.declared.order.Order.{Order}
use Rattle.mkt_base.specs.declared.order.Side.{Side}
use Rattle.mkt_base.specs.declared.order.Spot.{Spot}
use Rattle.mkt_base.specs.declared.order.Spot.TheVariants.{At, Market}
use Rattle.mkt_base.specs.declared.output.Output.{Output}
use Rattle.mkt_base.specs.declared.quote.Quote.{Quote}
use Rattle.mkt_base.specs.declared.units.Caller.{Caller}
use Rattle.mkt_base.specs.declared.units.Participant.{Participant}
use Rattle.mkt_base.specs.declared.units.Price.{Price}
use Rattle.mkt_base.specs.declared.units.Qty.{Qty}
use Rattle.tick_grid.specs.Grid.{index_of}
use Rattle.book_law.specs.BookView.{IsSpotBelow, is_of}
use Rattle.book_law.proofs.Pairs.{Pairs, pairs-from_AllPairs}
use Rattle.issue_book.specs.Entering.{enter, lower, lowered, named, spot_of, take_out}
use Rattle.issue_book.specs.Filled.{IsFilled, IsKey, filled_on, left_of, trade_in}
use Rattle.issue_book.specs.IssueView.{IsIssue, IsTaken, IssueView, MayEnter, in_state}
use Rattle.issue_book.specs.Quoting.{is_trading, try_if_shown, try_quote}
use Rattle.issue_book.specs.State.{Move, State, Terms, stay, ◌then◌}
use Rattle.issue_machine.specs.Answering.{Replied, accepted, bad_price, bad_qty, change_named, change_to, changed, closed, first_reason, is_quantity, not_yours, order_of, take_change, take_order, unknown, unless}
use Rattle.issue_machine.specs.Replying.{IsAccepted, IsOwn, WasLeft, WasMoved, WasReplied, not_own}
use Rattle.issue_machine.specs.Standing.{MayTake}

-- ---- the order that is looked for

pub find-passes : {X : Type 0} (p : X → Bool) (xs : List X) (x : X) → find p xs ≡ Some x → p x ≡ true
find-passes p [] x e = cc
find-passes p (y ∷ ys) x e = step (find-passes p ys x) (p y) refl e
  where
    step : (find p ys ≡ Some x → p x ≡ true) → (b : Bool) → p y ≡ b → cond b (Some y) (find p ys) ≡ Some x → p x ≡ true
    step rest true t found = let same : y ≡ x = cc in ap p (sym same) ∙ t
    step rest false t found = rest found

pub find-all : {X : Type 0} (P : X → Type 0) (p : X → Bool) (xs : List X) (x : X) → AllByRecursion P xs → find p xs ≡ Some x → P x
find-all P p [] x all e = absurd cc
find-all P p (y ∷ ys) x all e = step (find-all P p ys x all.1) (p y) e
  where
    step : (find p ys ≡ Some x → P x) → (b : Bool) → cond b (Some y) (find p ys) ≡ Some x → P x
    step rest true found = let same : y ≡ x = cc in subst P same all.0
    step rest false found = rest found

-- it is the caller's, with this own number
module _ (caller : Caller) (own : ℕ) (o : Order) where
  pub is-callers : is_of caller own o ≡ true → caller.0 ≡ o.caller.0
  is-callers e = eqb-true caller.0 o.caller.0 ((and_parts (eqb caller.0 o.caller.0) (eqb own o.own) e).0)

  pub is-own : is_of caller own o ≡ true → own ≡ o.own
  is-own e = eqb-true own o.own ((and_parts (eqb caller.0 o.caller.0) (eqb own o.own) e).1)

-- an order is found by its own caller and number
pub named-itself : (caller : Caller) (own : ℕ) (s : State) (o : Order) → named caller own s ≡ Some o → named o.caller o.own s ≡ Some o
named-itself caller own s o e =
    let passes : is_of caller own o ≡ true = find-passes (is_of caller own) s.orders o e in
    subst (λ (n : ℕ). find (λ x. eqb n x.caller.0 && eqb o.own x.own) s.orders ≡ Some o) (is-callers caller own o passes)
    (subst (λ (n : ℕ). find (λ x. eqb caller.0 x.caller.0 && eqb n x.own) s.orders ≡ Some o) (is-own caller own o passes) e)

-- what holds of all orders of the book holds of it
pub named-has : (P : Order → Type 0) (caller : Caller) (own : ℕ) (s : State) (o : Order) → All P s.orders → named caller own s ≡ Some o → P o
named-has P caller own s o all e = find-all P (is_of caller own) s.orders o (recursion_from_All P s.orders all) e

-- ---- kinds and quantities that are taken

index-below : (grid : List Price) (p i : ℕ) → index_of grid p ≡ Some i → i < length grid
unfolding index_of
index-below grid p i e = (position-Some (λ q. eqb q.0 p) grid i (record { 0 = 0 }) e).0

on-grid : (t : Terms) (kind : Kind) (spot : Spot) → spot_of t kind ≡ Some spot → IsSpotBelow (length t.grid) spot
on-grid t kinds.Market spot e = subst (IsSpotBelow (length t.grid)) (let same : Market ≡ spot = cc in same) tt
on-grid t (kinds.Limit p) spot e = step (index_of t.grid p.0) refl e
  where
    step : (i : Option ℕ) → index_of t.grid p.0 ≡ i → option_map (λ n. At n) i ≡ Some spot → IsSpotBelow (length t.grid) spot
    step None is f = absurd cc
    step (Some i) is f = let same : At i ≡ spot = cc in subst (IsSpotBelow (length t.grid)) same (index-below t.grid p.0 i is)

no-bad_price : (t : Terms) (kind : Kind) (spot : Spot) → spot_of t kind ≡ Some spot → bad_price t kind ≡ None
no-bad_price t kinds.Market spot e = refl
no-bad_price t (kinds.Limit p) spot e = step (index_of t.grid p.0) e
  where
    step : (i : Option ℕ) → option_map (λ n. At n) i ≡ Some spot → cond (is_none i) (Some (BadPrice p)) None ≡ None
    step None f = absurd cc
    step (Some i) f = refl

no-reasons : (a b c : Option Reason) (more : List (Option Reason)) → a ≡ None → b ≡ None → c ≡ None → first_reason (a ∷ b ∷ c ∷ more) ≡ first_reason more
no-reasons a b c more e f g = rw (e, f, g) refl

pub accepts : (t : Terms) (s : State) (kind : Kind) (qty : Qty) (spot : Spot) → closed s ≡ None → is_quantity t qty.0 ≡ true → spot_of t kind ≡ Some spot
    → IsAccepted t s kind qty spot
accepts t s kind qty spot opened quantity stands =
    let parts = and_parts (leb 1 qty.0 && leb qty.0 100000000) (eqb (qty.0 % t.unit) 0) quantity in
    let more = and_parts (leb 1 qty.0) (leb qty.0 100000000) parts.0 in
    record {
      reasons = λ others. no-reasons (closed s) (bad_qty t qty) (bad_price t kind) others opened (rw quantity refl) (no-bad_price t kind spot stands);
      spot = stands;
      on_grid = on-grid t kind spot stands;
      some = leb-true 1 qty.0 more.0;
      limit = leb-true qty.0 100000000 more.1;
      units = eqb-true (qty.0 % t.unit) 0 parts.1;
    }

-- ---- orders that may enter

pub may-enter : (v : IssueView) (e : Entry) (participant : Participant) (side : Side) (kind : Kind) (qty : Qty) (spot : Spot) → MayTake v e → participant.0 < 64
    → IsAccepted v.terms v.state kind qty spot → MayEnter v (order_of e participant side spot qty.0)
may-enter v e participant side kind qty spot may few is = record {
  taken = record { some = is.some; limit = is.limit; units = is.units; spot = is.on_grid; participant = few };
  last = may.last;
  pair = may.pair;
  room = may.room;
}

-- an order that was taken out may enter anew, with another spot and quantity
pub may-again : (v : IssueView) (e : Entry) (o : Order) (spot : Spot) (qty : ℕ) → IsIssue v → MayTake v e → named o.caller o.own v.state ≡ Some o → IsSpotBelow (length v.terms.grid) spot
    → 1 ≤ qty → qty ≤ 100000000 → qty % v.terms.unit ≡ 0
    → MayEnter (in_state (take_out o.caller o.own v.state) v) (record o { place = e.place; spot = spot; left = qty })
may-again v e o spot qty is may found below some limit units =
    let keeps : Order → Bool = λ x. not (is_of o.caller o.own x) in
    record {
      taken = record {
        some = some;
        limit = limit;
        units = units;
        spot = below;
        participant = (named-has (IsTaken v.terms) o.caller o.own v.state o is.taken found).participant;
      };
      last = All-filter keeps (λ x. x.place < e.place) v.state.orders may.last;
      pair = All-weaker (λ x. keeps x ≡ true) (λ x. is_of o.caller o.own x ≡ false) (λ x h. not-true (is_of o.caller o.own x) h) (filter keeps v.state.orders) (filter_passes keeps v.state.orders);
      room = omega (arith, length-filter keeps v.state.orders, count_by-le-length keeps v.state.orders, may.room);
    }

-- ---- what is filled and what is left

pub filled-then : (place : ℕ) (first more : List Output) → traded_at (filter_map trade_in (first ++ more)) place ≡ traded_at (filter_map trade_in first) place + traded_at (filter_map trade_in more) place
unfolding traded_at
filled-then place first more =
    ap (λ (ts : List Trade). traded_at ts place) (filter_map-append trade_in first more)
    ∙ sum_by-append (λ t. cond (eqb place t.buy || eqb place t.sell) t.qty 0) (filter_map trade_in first) (filter_map trade_in more)

-- what an order has left that entered, behind what came next
pub entered : (o : Order) (v mid new : IssueView) (m : Move) (next : Terms → State → Move) (left : ℕ) → mid ≡ in_state m.state v → new ≡ in_state (next mid.terms mid.state).state mid
    → IsFilled o.caller o.own o.place o.left m
    → ((caller : Caller) (own place : ℕ) → IsKey caller own place mid.state.orders → IsFilled caller own place (left_of caller own mid.state) (next mid.terms mid.state))
    → left ≡ left_of o.caller o.own new.state → WasLeft o (m then next v.terms) left
entered o v mid new m next left is after first more e =
    let ended : new ≡ in_state (next v.terms m.state).state v = subst (λ (x : IssueView). new ≡ in_state (next x.terms x.state).state x) is after in
    let second : IsFilled o.caller o.own o.place (left_of o.caller o.own m.state) (next v.terms m.state) =
    subst (λ (x : IssueView). IsKey o.caller o.own o.place x.state.orders → IsFilled o.caller o.own o.place (left_of o.caller o.own x.state) (next x.terms x.state)) is
    (more o.caller o.own o.place) first.key in
    let rest : left ≡ left_of o.caller o.own (next v.terms m.state).state = e ∙ ap (λ (x : IssueView). left_of o.caller o.own x.state) ended in
    record {
      left = rest;
      filled = omega (arith, filled-then o.place m.outputs (next v.terms m.state).outputs, first.fills, second.fills, rest);
    }

pub none-shown : (q : Option Quote) → is_some q ≡ false → q ≡ None
none-shown None e = refl
none-shown (Some q) e = absurd (cc)

-- where no quote is shown nothing is tried
unshown : (t : Terms) (s : State) → s.quote ≡ None → (try_quote t s).state ≡ s
unshown t s none = by_phase (is_trading s.phase)
  where
    by_phase : (b : Bool) → (cond b (try_if_shown t s.quote s) (stay s)).state ≡ s
    by_phase true = ap (λ (q : Option Quote). (try_if_shown t q s).state) none
    by_phase false = refl

-- and the order has left what it had
pub untried : (o : Order) (mid new : IssueView) (left : ℕ) → mid.state.quote ≡ None → new ≡ in_state (try_quote mid.terms mid.state).state mid → left ≡ left_of o.caller o.own mid.state
    → left ≡ left_of o.caller o.own new.state
untried o mid new left none after is =
    is ∙ ap (λ (s : State). left_of o.caller o.own s) (sym (unshown mid.terms mid.state none)) ∙ ap (λ (x : IssueView). left_of o.caller o.own x.state) (sym after)

-- ---- the order's place is its alone

abbrev IsKeyOf : Caller → ℕ → ℕ → Order → Type 0
IsKeyOf caller own place x = eqb place x.place ≡ is_of caller own x

-- behind the order none has its place and none is of its entry
behind-key : (o : Order) (os : List Order) → AllByRecursion (λ x. o.place < x.place) os → AllByRecursion (λ x. is_of o.caller o.own x ≡ false) os
    → AllByRecursion (IsKeyOf o.caller o.own o.place) os
behind-key o [] later others = tt
behind-key o (x ∷ xs) later others = (ne_eqb o.place x.place (λ same. omega (arith, later.0)) ∙ sym others.0, behind-key o xs later.1 others.1)

-- it is of its own entry
of-itself : (o : Order) → is_of o.caller o.own o ≡ true
of-itself o = rw (eq-eqb o.caller.0 o.caller.0 refl, eq-eqb o.own o.own refl) refl

found-key : (caller : Caller) (own : ℕ) (os : List Order) (o : Order) → Pairs (λ a b. a.place < b.place) os → Pairs (λ a b. is_of a.caller a.own b ≡ false) os
    → find (is_of caller own) os ≡ Some o → caller.0 ≡ o.caller.0 → own ≡ o.own → AllByRecursion (IsKeyOf o.caller o.own o.place) os
found-key caller own [] o rise apart e same number = absurd cc
found-key caller own (x ∷ xs) o rise apart e same number = step (λ f. found-key caller own xs o rise.1 apart.1 f same number) (is_of caller own x) refl e
  where
    step : (find (is_of caller own) xs ≡ Some o → AllByRecursion (IsKeyOf o.caller o.own o.place) xs) → (b : Bool) → is_of caller own x ≡ b
        → cond b (Some x) (find (is_of caller own) xs) ≡ Some o → AllByRecursion (IsKeyOf o.caller o.own o.place) (x ∷ xs)
    step rest true t f =
        let here : x ≡ o = cc in
        subst (λ (y : Order). AllByRecursion (IsKeyOf y.caller y.own y.place) (x ∷ xs)) here (eq-eqb x.place x.place refl ∙ sym (of-itself x), behind-key x xs rise.0 apart.0)
    step rest false t f =
        let later : x.place < o.place = find-all (λ y. x.place < y.place) (is_of caller own) xs o rise.0 f in
        let other : is_of o.caller o.own x ≡ false =
        subst (λ (n : ℕ). (eqb n x.caller.0 && eqb o.own x.own) ≡ false) same (subst (λ (n : ℕ). (eqb caller.0 x.caller.0 && eqb n x.own) ≡ false) number t) in
        (ne_eqb o.place x.place (λ e. omega (arith, later)) ∙ sym other, rest f)

pub named-key : (v : IssueView) (o : Order) → IsIssue v → named o.caller o.own v.state ≡ Some o → IsKey o.caller o.own o.place v.state.orders
named-key v o is e =
    All-from_recursion (IsKeyOf o.caller o.own o.place) v.state.orders
    (found-key o.caller o.own v.state.orders o (pairs-from_AllPairs (λ a b. a.place < b.place) v.state.orders is.by_place)
    (pairs-from_AllPairs (λ a b. is_of a.caller a.own b ≡ false) v.state.orders is.pairs) e refl refl)

-- ---- an order that is lowered

find-lowered : (caller : Caller) (own qty : ℕ) (os : List Order) (o : Order) → find (is_of caller own) os ≡ Some o
    → find (is_of caller own) (map (lowered caller own qty) os) ≡ Some (lowered caller own qty o)
find-lowered caller own qty [] o e = absurd cc
find-lowered caller own qty (x ∷ xs) o e = step (find-lowered caller own qty xs o) (is_of caller own x) e
  where
    step : (find (is_of caller own) xs ≡ Some o → find (is_of caller own) (map (lowered caller own qty) xs) ≡ Some (lowered caller own qty o)) → (b : Bool)
        → cond b (Some x) (find (is_of caller own) xs) ≡ Some o
        → cond b (Some (lowered caller own qty x)) (find (is_of caller own) (map (lowered caller own qty) xs)) ≡ Some (lowered caller own qty o)
    step rest true f = let here : x ≡ o = cc in ap (λ (y : Order). Some (lowered caller own qty y)) here
    step rest false f = rest f

left-lowered : (s : State) (qty : ℕ) (o : Order) → named o.caller o.own s ≡ Some o → left_of o.caller o.own (lower o.caller o.own qty s) ≡ qty
left-lowered s qty o e =
    let found : named o.caller o.own (lower o.caller o.own qty s) ≡ Some (lowered o.caller o.own qty o) = find-lowered o.caller o.own qty s.orders o e in
    ap (λ (x : Option Order). option_map_or (λ y. y.left) x 0) found ∙ ap (λ (b : Bool). cond {A = ℕ} b qty o.left) (of-itself o)

pub lowered-left : (o : Order) (qty : ℕ) (v mid new : IssueView) (next : Terms → State → Move) (left : ℕ) → IsIssue v → named o.caller o.own v.state ≡ Some o
    → mid ≡ in_state (lower o.caller o.own qty v.state) v → new ≡ in_state (next mid.terms mid.state).state mid
    → ((caller : Caller) (own place : ℕ) → IsKey caller own place mid.state.orders → IsFilled caller own place (left_of caller own mid.state) (next mid.terms mid.state))
    → left ≡ left_of o.caller o.own new.state → WasLeft (record o { left = qty }) (stay (lower o.caller o.own qty v.state) then next v.terms) left
lowered-left o qty v mid new next left stands found is after more e =
    let s : State = lower o.caller o.own qty v.state in
    let key : IsKey o.caller o.own o.place s.orders = All-map (IsKeyOf o.caller o.own o.place) (lowered o.caller o.own qty) v.state.orders (named-key v o stands found) in
    let ended : new ≡ in_state (next v.terms s).state v = subst (λ (x : IssueView). new ≡ in_state (next x.terms x.state).state x) is after in
    let fills : IsFilled o.caller o.own o.place (left_of o.caller o.own s) (next v.terms s) =
    subst (λ (x : IssueView). IsKey o.caller o.own o.place x.state.orders → IsFilled o.caller o.own o.place (left_of o.caller o.own x.state) (next x.terms x.state)) is
    (more o.caller o.own o.place) key in
    let rest : left ≡ left_of o.caller o.own (next v.terms s).state = e ∙ ap (λ (x : IssueView). left_of o.caller o.own x.state) ended in
    record {
      left = rest;
      filled = omega (arith, fills.fills, rest, left-lowered v.state qty o found);
    }

-- ---- replies

pub told-none : {W : Type 0} (took : W → List Output → W → Type 0) (start w : W) (outputs : List Output) → took start outputs w → took start (outputs ++ []) w
told-none took start w outputs h = subst (λ (o : List Output). took start o w) (sym (append-nil outputs)) h

pub replied-refused : {W : Type 0} (took : W → List Output → W → Type 0) (why : Option Reason) (reason : Reason) (r : Replied) (v : IssueView) (w : W) → why ≡ Some reason
    → WasReplied took (unless why v.state r) v v w w (replies.Refused reason)
replied-refused took why reason r v w e =
    subst (λ (x : Option Reason). WasReplied took (unless x v.state r) v v w w (replies.Refused reason)) (sym e)
    (record { move = record { state = refl; told = λ start outputs h. told-none took start w outputs h }; reply = refl })

pub replied-unless : {W : Type 0} (took : W → List Output → W → Type 0) (why : Option Reason) (r : Replied) (v new : IssueView) (from to : W) (reply : Reply) → why ≡ None
    → WasReplied took r v new from to reply → WasReplied took (unless why v.state r) v new from to reply
replied-unless took why r v new from to reply e h = subst (λ (x : Option Reason). WasReplied took (unless x v.state r) v new from to reply) (sym e) h

-- what an order filled is what it came with less what it has left
filled-less : (o : Order) (m : Move) (left : ℕ) → WasLeft o m left → o.left - left ≡ filled_on m o.place
filled-less o m left h = omega (arith, h.filled)

pub left-within : (o : Order) (m : Move) (left : ℕ) → WasLeft o m left → left ≤ o.left
left-within o m left h = omega (arith, h.filled)

pub replied-accepted : {W : Type 0} (took : W → List Output → W → Type 0) (o : Order) (m : Move) (v new : IssueView) (from to : W) (left : ℕ) → WasMoved took m v new from to → WasLeft o m left
    → WasReplied took (accepted o m) v new from to (replies.Accepted o.place (o.left - left) left)
replied-accepted took o m v new from to left moved h =
    record { move = moved; reply = rw (filled-less o m left h, h.left) refl }

pub replied-changed : {W : Type 0} (took : W → List Output → W → Type 0) (o : Order) (m : Move) (v new : IssueView) (from to : W) (left by : ℕ) → WasMoved took m v new from to
    → left ≡ left_of o.caller o.own m.state → by ≡ filled_on m o.place → WasReplied took (changed o m) v new from to (replies.Changed o.place by left)
replied-changed took o m v new from to left by moved e f = record { move = moved; reply = rw (e, f) refl }

-- an order that was lowered and then tried
pub replied-lowered : {W : Type 0} (took : W → List Output → W → Type 0) (o : Order) (qty : ℕ) (m : Move) (v new : IssueView) (from to : W) (left : ℕ) → WasMoved took m v new from to
    → WasLeft (record o { left = qty }) m left → WasReplied took (changed o m) v new from to (replies.Changed o.place (qty - left) left)
replied-lowered took o qty m v new from to left moved h =
    replied-changed took o m v new from to left (qty - left) moved h.left (filled-less (record o { left = qty }) m left h)

-- two moves in a row
pub moved-then : {W : Type 0} (took : W → List Output → W → Type 0) (s : State) (v mid new : IssueView) (from to : W) (next : Terms → State → Move) → mid ≡ in_state s v
    → new ≡ in_state (next mid.terms mid.state).state mid
    → ((start : W) (outputs : List Output) → took start outputs from → took start (outputs ++ (next mid.terms mid.state).outputs) to)
    → WasMoved took (stay s then next v.terms) v new from to
moved-then took s v mid new from to next is after told =
    record {
      state = subst (λ (x : IssueView). new ≡ in_state (next x.terms x.state).state x) is after;
      told = subst (λ (x : IssueView). (start : _) (outputs : List Output) → took start outputs from → took start (outputs ++ (next x.terms x.state).outputs) to) is told;
    }

-- ---- the events

order-taken-by : {W : Type 0} (took : W → List Output → W → Type 0) (v new : IssueView) (from to : W) (e : Entry) (participant : Participant) (side : Side) (kind : Kind) (qty : Qty) (spot : Spot) (left : ℕ)
    → IsAccepted v.terms v.state kind qty spot
    → WasMoved took (enter v.terms (order_of e participant side spot qty.0) v.state then try_quote v.terms) v new from to
    → WasLeft (order_of e participant side spot qty.0) (enter v.terms (order_of e participant side spot qty.0) v.state then try_quote v.terms) left
    → WasReplied took (take_order v.terms e participant side kind qty v.state) v new from to (replies.Accepted e.place (qty.0 - left) left)
order-taken-by took v new from to e participant side kind qty spot left is moved h =
    let what : Spot → Replied = λ x.
    accepted (order_of e participant side x qty.0) (enter v.terms (order_of e participant side x qty.0) v.state then try_quote v.terms) in
    let reply : Reply = replies.Accepted e.place (qty.0 - left) left in
    replied-unless took (first_reason (closed v.state ∷ bad_qty v.terms qty ∷ bad_price v.terms kind ∷ [])) (what (unwrap_or (spot_of v.terms kind) Market)) v new from to reply (is.reasons [])
    (subst (λ (x : Option Spot). WasReplied took (what (unwrap_or x Market)) v new from to reply) (sym is.spot)
    (replied-accepted took (order_of e participant side spot qty.0) (enter v.terms (order_of e participant side spot qty.0) v.state then try_quote v.terms) v new from to left moved h))

pub order-taken : {W : Type 0} (took : W → List Output → W → Type 0) (v new : IssueView) (from to : W) (e : Entry) (participant : Participant) (side : Side) (kind : Kind) (qty : Qty) (spot : Spot) (n left : ℕ)
    → n ≡ qty.0 → IsAccepted v.terms v.state kind qty spot
    → WasMoved took (enter v.terms (order_of e participant side spot n) v.state then try_quote v.terms) v new from to
    → WasLeft (order_of e participant side spot n) (enter v.terms (order_of e participant side spot n) v.state then try_quote v.terms) left
    → WasReplied took (take_order v.terms e participant side kind qty v.state) v new from to (replies.Accepted e.place (n - left) left)
order-taken took v new from to e participant side kind qty spot n left same is =
    subst (λ (x : ℕ). WasMoved took (enter v.terms (order_of e participant side spot x) v.state then try_quote v.terms) v new from to
    → WasLeft (order_of e participant side spot x) (enter v.terms (order_of e participant side spot x) v.state then try_quote v.terms) left
    → WasReplied took (take_order v.terms e participant side kind qty v.state) v new from to (replies.Accepted e.place (x - left) left)) (sym same)
    (λ moved h. order-taken-by took v new from to e participant side kind qty spot left is moved h)

-- the reasons to refuse a change, where its kind and quantity are taken
pub change-reasons : (v : IssueView) (e : Entry) (participant : Participant) (target : ℕ) (kind : Kind) (qty : Qty) (spot : Spot) (found : Option Order) → IsAccepted v.terms v.state kind qty spot
    → first_reason (closed v.state ∷ bad_qty v.terms qty ∷ bad_price v.terms kind ∷ unknown target found ∷ not_yours participant found ∷ []) ≡ not_own participant target found
change-reasons v e participant target kind qty spot found is = is.reasons (unknown target found ∷ not_yours participant found ∷ [])

pub change-taken : {W : Type 0} (took : W → List Output → W → Type 0) (v new : IssueView) (from to : W) (e : Entry) (participant : Participant) (target : ℕ) (kind : Kind) (qty : Qty) (spot : Spot) (o : Order) (reply : Reply)
    → IsAccepted v.terms v.state kind qty spot → IsOwn e.caller target participant v.state o → WasReplied took (change_to v.terms e spot qty.0 o v.state) v new from to reply
    → WasReplied took (take_change v.terms e participant target kind qty v.state) v new from to reply
change-taken took v new from to e participant target kind qty spot o reply is own h =
    let found : Option Order = named e.caller target v.state in
    let why : first_reason (closed v.state ∷ bad_qty v.terms qty ∷ bad_price v.terms kind ∷ unknown target found ∷ not_yours participant found ∷ []) ≡ None =
    change-reasons v e participant target kind qty spot found is ∙ ap (not_own participant target) own.named ∙ own.own in
    let spotted : WasReplied took (change_named v.terms e (unwrap_or (spot_of v.terms kind) Market) qty.0 (Some o) v.state) v new from to reply =
    subst (λ (x : Option Spot). WasReplied took (change_to v.terms e (unwrap_or x Market) qty.0 o v.state) v new from to reply) (sym is.spot) h in
    replied-unless took (first_reason (closed v.state ∷ bad_qty v.terms qty ∷ bad_price v.terms kind ∷ unknown target found ∷ not_yours participant found ∷ []))
    (change_named v.terms e (unwrap_or (spot_of v.terms kind) Market) qty.0 found v.state) v new from to reply why
    (subst (λ (x : Option Order). WasReplied took (change_named v.terms e (unwrap_or (spot_of v.terms kind) Market) qty.0 x v.state) v new from to reply) (sym own.named) spotted)
