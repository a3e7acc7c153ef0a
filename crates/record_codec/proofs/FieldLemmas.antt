-- The fields of an entry are right, and right fields are those of the entry that is read from them.
use Rattle.std.proofs.Common.{◌≡◌, if◌then◌else◌, ℕ, ◌-◌, ◌<◌, ◌≤◌, ◌^◌, ◌==◌, Bool, true, false, zero, suc, refl, sym, subst, arith, lit<}
use Rattle.std.proofs.lemmas.Bool.Decides.{nat_tests}
use Rattle.mkt_base.specs.declared.event.Entry.{Entry}
use Rattle.mkt_base.specs.declared.event.Event.{Event}
use Rattle.mkt_base.specs.declared.event.Event.TheVariants.{Order, Change, Cancel, Clock, Crash, Rejoin}
use Rattle.mkt_base.specs.declared.order.Kind.TheVariants.{Market, Limit}
use Rattle.mkt_base.specs.declared.order.Side.TheVariants.{Buy, Sell}
use Rattle.record_codec.specs.Check.{is_right}
use Rattle.record_codec.specs.Entry.{IsEntry, IsEvent, entry_of, event_of, fields_of, side_number, limit_number, price_number, side_of, kind_of}
use Rattle.mkt_base.specs.declared.units.Caller.{Caller}
use Rattle.record_codec.specs.declared.row.Row.{Row}
use Rattle.record_codec.proofs.ByteLemmas.{Fits}
use Rattle.record_codec.proofs.CheckLemmas.{IsRight, has-right, right-has, right-zero}

-- the fields of an entry by its parts
abbrev fields : ℕ → ℕ → Caller → ℕ → Event → Row
fields form place caller own event = fields_of form (record { place = place; caller = caller; own = own; event = event })

entry-read : (form place : ℕ) (caller : Caller) (own : ℕ) (event : Event)
    → entry_of (fields form place caller own event) ≡ record { place = place; caller = caller; own = own; event = event }
entry-read form p c o (Order participant Buy Market qty) = refl
entry-read form p c o (Order participant Buy (Limit price) qty) = refl
entry-read form p c o (Order participant Sell Market qty) = refl
entry-read form p c o (Order participant Sell (Limit price) qty) = refl
entry-read form p c o (Change participant target Market qty) = refl
entry-read form p c o (Change participant target (Limit price) qty) = refl
entry-read form p c o (Cancel participant target) = refl
entry-read form p c o (Clock at) = refl
entry-read form p c o (Crash node) = refl
entry-read form p c o (Rejoin node) = refl

-- an entry is read from its fields
pub entry_of-fields_of : (form : ℕ) (e : Entry) → entry_of (fields_of form e) ≡ e
entry_of-fields_of form e = entry-read form e.place e.caller e.own e.event

same : (n : ℕ) → (n == n) ≡ true
same n = grind (arith, nat_tests)

upto : (bits n : ℕ) → n < 2 ^ bits → is_right true 0 (2 ^ bits - 1) n ≡ true
upto bits n h = has-right 0 (2 ^ bits - 1) n (omega arith) (omega arith)

within_day : (at : ℕ) → at < 86400000 → is_right true 0 86399999 at ≡ true
within_day at h = has-right 0 86399999 at (omega arith) (omega arith)

within_nodes : (node : ℕ) → node < 3 → is_right true 0 2 node ≡ true
within_nodes node h = has-right 0 2 node (omega arith) (omega arith)

fields-right : (form place : ℕ) (caller : Caller) (own : ℕ) (event : Event) → IsEvent event → IsRight form place (fields form place caller own event)
unfolding is_right
fields-right form p c o (Order participant Buy Market qty) h =
    record { form = same form; kind = refl; place = same p; participant = upto 16 _ h.0; side = refl; limit = refl; price = refl; quantity = upto 32 _ h.2; target = refl; moment = refl; node = refl }
fields-right form p c o (Order participant Buy (Limit price) qty) h =
    record { form = same form; kind = refl; place = same p; participant = upto 16 _ h.0; side = refl; limit = refl; price = upto 32 _ h.1; quantity = upto 32 _ h.2; target = refl; moment = refl; node = refl }
fields-right form p c o (Order participant Sell Market qty) h =
    record { form = same form; kind = refl; place = same p; participant = upto 16 _ h.0; side = refl; limit = refl; price = refl; quantity = upto 32 _ h.2; target = refl; moment = refl; node = refl }
fields-right form p c o (Order participant Sell (Limit price) qty) h =
    record { form = same form; kind = refl; place = same p; participant = upto 16 _ h.0; side = refl; limit = refl; price = upto 32 _ h.1; quantity = upto 32 _ h.2; target = refl; moment = refl; node = refl }
fields-right form p c o (Change participant target Market qty) h =
    record { form = same form; kind = refl; place = same p; participant = upto 16 _ h.0; side = refl; limit = refl; price = refl; quantity = upto 32 _ h.3; target = upto 32 _ h.1; moment = refl; node = refl }
fields-right form p c o (Change participant target (Limit price) qty) h =
    record { form = same form; kind = refl; place = same p; participant = upto 16 _ h.0; side = refl; limit = refl; price = upto 32 _ h.2; quantity = upto 32 _ h.3; target = upto 32 _ h.1; moment = refl; node = refl }
fields-right form p c o (Cancel participant target) h =
    record { form = same form; kind = refl; place = same p; participant = upto 16 _ h.0; side = refl; limit = refl; price = refl; quantity = refl; target = upto 32 _ h.1; moment = refl; node = refl }
fields-right form p c o (Clock at) h =
    record { form = same form; kind = refl; place = same p; participant = refl; side = refl; limit = refl; price = refl; quantity = refl; target = refl; moment = within_day at h; node = refl }
fields-right form p c o (Crash node) h =
    record { form = same form; kind = refl; place = same p; participant = refl; side = refl; limit = refl; price = refl; quantity = refl; target = refl; moment = refl; node = within_nodes node h }
fields-right form p c o (Rejoin node) h =
    record { form = same form; kind = refl; place = same p; participant = refl; side = refl; limit = refl; price = refl; quantity = refl; target = refl; moment = refl; node = within_nodes node h }

-- the fields of an entry are right at its place
pub IsRight-fields_of : (form : ℕ) (e : Entry) → IsEntry e → IsRight form e.place (fields_of form e)
IsRight-fields_of form e h = fields-right form e.place e.caller e.own e.event h.event

-- the numbers of the fields of an entry are of the types of the fields
fields-fit : (form place : ℕ) (caller : Caller) (own : ℕ) (event : Event) → place < 2 ^ 64 → caller.0 < 2 ^ 16 → own < 2 ^ 32 → IsEvent event → Fits (fields form place caller own event)
fields-fit form p c o (Order participant side kind qty) hp hc ho h =
    record { caller = hc; own = ho; place = hp; participant = h.0; price = h.1; quantity = h.2; target = lit< tt; moment = lit< tt }
fields-fit form p c o (Change participant target kind qty) hp hc ho h =
    record { caller = hc; own = ho; place = hp; participant = h.0; price = h.2; quantity = h.3; target = h.1; moment = lit< tt }
fields-fit form p c o (Cancel participant target) hp hc ho h =
    record { caller = hc; own = ho; place = hp; participant = h.0; price = lit< tt; quantity = lit< tt; target = h.1; moment = lit< tt }
fields-fit form p c o (Clock at) hp hc ho h =
    record { caller = hc; own = ho; place = hp; participant = lit< tt; price = lit< tt; quantity = lit< tt; target = lit< tt; moment = omega arith }
fields-fit form p c o (Crash node) hp hc ho h =
    record { caller = hc; own = ho; place = hp; participant = lit< tt; price = lit< tt; quantity = lit< tt; target = lit< tt; moment = lit< tt }
fields-fit form p c o (Rejoin node) hp hc ho h =
    record { caller = hc; own = ho; place = hp; participant = lit< tt; price = lit< tt; quantity = lit< tt; target = lit< tt; moment = lit< tt }

pub Fits-fields_of : (form : ℕ) (e : Entry) → IsEntry e → Fits (fields_of form e)
Fits-fields_of form e h = fields-fit form e.place e.caller e.own e.event h.place h.caller h.own h.event

abbrev row : ℕ → ℕ → ℕ → ℕ → ℕ → ℕ → ℕ → ℕ → ℕ → ℕ → ℕ → ℕ → ℕ → Row
row f k c o p pa s l pr q t m n =
    record { form = f; kind = k; caller = c; own = o; place = p; participant = pa; side = s; limit = l; price = pr; quantity = q; target = t; moment = m; node = n }

-- rows that agree in every field are one
same_parts : {f f' k k' c c' o o' p p' pa pa' s s' l l' pr pr' q q' t t' m m' n n' : ℕ}
    → f ≡ f' → k ≡ k' → c ≡ c' → o ≡ o' → p ≡ p' → pa ≡ pa' → s ≡ s' → l ≡ l' → pr ≡ pr' → q ≡ q' → t ≡ t' → m ≡ m' → n ≡ n'
    → row f k c o p pa s l pr q t m n ≡ row f' k' c' o' p' pa' s' l' pr' q' t' m' n'
same_parts e1 e2 e3 e4 e5 e6 e7 e8 e9 e10 e11 e12 e13 =
    rw (e1, e2, e3, e4, e5, e6, e7, e8, e9, e10, e11, e12, e13) refl

-- a number of a side, and one of a kind with its price, are those of what they stand for
same_side : (n : ℕ) → is_right true 1 2 n ≡ true → side_number (side_of n) ≡ n
unfolding is_right
same_side zero h = cc
same_side (suc zero) h = refl
same_side (suc (suc zero)) h = refl
same_side (suc (suc (suc n))) h = absurd (omega (arith, (right-has 1 2 (suc (suc (suc n))) h).1))

same_limit : (n price : ℕ) → is_right true 1 2 n ≡ true → limit_number (kind_of n price) ≡ n
unfolding is_right
same_limit zero price h = cc
same_limit (suc zero) price h = refl
same_limit (suc (suc zero)) price h = refl
same_limit (suc (suc (suc n))) price h = absurd (omega (arith, (right-has 1 2 (suc (suc (suc n))) h).1))

same_price : (n price : ℕ) → is_right true 1 2 n ≡ true → is_right (n == 2) 0 4294967295 price ≡ true → price_number (kind_of n price) ≡ price
unfolding is_right
same_price zero price h right = cc
same_price (suc zero) price h right = sym (right-zero 0 4294967295 price right)
same_price (suc (suc zero)) price h right = refl
same_price (suc (suc (suc n))) price h right = absurd (omega (arith, (right-has 1 2 (suc (suc (suc n))) h).1))

no_price : (n price : ℕ) → n ≡ 0 → is_right (n == 2) 0 4294967295 price ≡ true → price ≡ 0
no_price zero price e right = right-zero 0 4294967295 price right
no_price (suc n) price e right = absurd (omega arith)

pub kind-within : (form at : ℕ) (r : Row) → IsRight form at r → (1 ≤ r.kind) × (r.kind ≤ 6)
kind-within form at r h = (grind (arith, nat_tests, h.kind), grind (arith, nat_tests, h.kind))

-- the fields of the entry that is read from a row whose fields are right are those of the row
same_fields : (f at k c o p pa s l pr q t m n : ℕ) → IsRight f at (row f k c o p pa s l pr q t m n)
    → fields_of f (entry_of (row f k c o p pa s l pr q t m n)) ≡ row f k c o p pa s l pr q t m n
same_fields f at zero c o p pa s l pr q t m n h = absurd (omega (arith, (kind-within f at _ h).0))
same_fields f at (suc zero) c o p pa s l pr q t m n h =
    same_parts refl refl refl refl refl refl (same_side s h.side) (same_limit l pr h.limit) (same_price l pr h.limit h.price) refl
    (sym (right-zero _ _ t h.target)) (sym (right-zero _ _ m h.moment)) (sym (right-zero _ _ n h.node))
same_fields f at (suc (suc zero)) c o p pa s l pr q t m n h =
    same_parts refl refl refl refl refl refl (sym (right-zero _ _ s h.side)) (same_limit l pr h.limit) (same_price l pr h.limit h.price) refl
    refl (sym (right-zero _ _ m h.moment)) (sym (right-zero _ _ n h.node))
same_fields f at (suc (suc (suc zero))) c o p pa s l pr q t m n h =
    let no_limit : l ≡ 0 = right-zero _ _ l h.limit in
    same_parts refl refl refl refl refl refl (sym (right-zero _ _ s h.side)) (sym no_limit) (sym (no_price l pr no_limit h.price)) (sym (right-zero _ _ q h.quantity))
    refl (sym (right-zero _ _ m h.moment)) (sym (right-zero _ _ n h.node))
same_fields f at (suc (suc (suc (suc zero)))) c o p pa s l pr q t m n h =
    let no_limit : l ≡ 0 = right-zero _ _ l h.limit in
    same_parts refl refl refl refl refl (sym (right-zero _ _ pa h.participant)) (sym (right-zero _ _ s h.side)) (sym no_limit) (sym (no_price l pr no_limit h.price)) (sym (right-zero _ _ q h.quantity))
    (sym (right-zero _ _ t h.target)) refl (sym (right-zero _ _ n h.node))
same_fields f at (suc (suc (suc (suc (suc zero))))) c o p pa s l pr q t m n h =
    let no_limit : l ≡ 0 = right-zero _ _ l h.limit in
    same_parts refl refl refl refl refl (sym (right-zero _ _ pa h.participant)) (sym (right-zero _ _ s h.side)) (sym no_limit) (sym (no_price l pr no_limit h.price)) (sym (right-zero _ _ q h.quantity))
    (sym (right-zero _ _ t h.target)) (sym (right-zero _ _ m h.moment)) refl
same_fields f at (suc (suc (suc (suc (suc (suc zero)))))) c o p pa s l pr q t m n h =
    let no_limit : l ≡ 0 = right-zero _ _ l h.limit in
    same_parts refl refl refl refl refl (sym (right-zero _ _ pa h.participant)) (sym (right-zero _ _ s h.side)) (sym no_limit) (sym (no_price l pr no_limit h.price)) (sym (right-zero _ _ q h.quantity))
    (sym (right-zero _ _ t h.target)) (sym (right-zero _ _ m h.moment)) refl
same_fields f at (suc (suc (suc (suc (suc (suc (suc k))))))) c o p pa s l pr q t m n h = absurd (omega (arith, (kind-within f at _ h).1))

-- the numbers of an event that is read are of their types
price-when : (b : Bool) (price : ℕ) → price < 2 ^ 32 → price_number (if b then Market else Limit (record { 0 = price })) < 2 ^ 32
price-when true price h = lit< tt
price-when false price h = h

event-read : (f at k c o p pa s l pr q t m n : ℕ) → IsRight f at (row f k c o p pa s l pr q t m n) → Fits (row f k c o p pa s l pr q t m n)
    → IsEvent (event_of (row f k c o p pa s l pr q t m n))
event-read f at zero c o p pa s l pr q t m n h fits = absurd (omega (arith, (kind-within f at _ h).0))
event-read f at (suc zero) c o p pa s l pr q t m n h fits = (fits.participant, price-when (l == 1) pr fits.price, fits.quantity)
event-read f at (suc (suc zero)) c o p pa s l pr q t m n h fits = (fits.participant, fits.target, price-when (l == 1) pr fits.price, fits.quantity)
event-read f at (suc (suc (suc zero))) c o p pa s l pr q t m n h fits = (fits.participant, fits.target)
event-read f at (suc (suc (suc (suc zero)))) c o p pa s l pr q t m n h fits = omega (arith, (right-has 0 86399999 m h.moment).1)
event-read f at (suc (suc (suc (suc (suc zero))))) c o p pa s l pr q t m n h fits = omega (arith, (right-has 0 2 n h.node).1)
event-read f at (suc (suc (suc (suc (suc (suc zero)))))) c o p pa s l pr q t m n h fits = omega (arith, (right-has 0 2 n h.node).1)
event-read f at (suc (suc (suc (suc (suc (suc (suc k))))))) c o p pa s l pr q t m n h fits = absurd (omega (arith, (kind-within f at _ h).1))

-- right fields are those of the entry that is read from them
pub fields_of-entry_of : (form at : ℕ) (r : Row) → IsRight form at r → fields_of form (entry_of r) ≡ r
fields_of-entry_of form at r h =
    let same : r.form ≡ form = grind (arith, nat_tests, h.form) in
    subst (λ (f : ℕ). IsRight f at r → fields_of f (entry_of r) ≡ r) same
    (same_fields r.form at r.kind r.caller r.own r.place r.participant r.side r.limit r.price r.quantity r.target r.moment r.node) h

-- the numbers of the entry that is read from right fields are of their types
pub IsEntry-entry_of : (form at : ℕ) (r : Row) → IsRight form at r → Fits r → IsEntry (entry_of r)
IsEntry-entry_of form at r h fits =
    let same : r.form ≡ form = grind (arith, nat_tests, h.form) in
    let right : IsRight r.form at r = subst (λ (f : ℕ). IsRight f at r) (sym same) h in
    record {
      caller = fits.caller;
      own = fits.own;
      place = fits.place;
      event = event-read r.form at r.kind r.caller r.own r.place r.participant r.side r.limit r.price r.quantity r.target r.moment r.node right fits;
    }

-- what makes an event of right fields: the kind, the moment and the node
pub moment-within : (form at : ℕ) (r : Row) → IsRight form at r → r.kind ≡ 4 → r.moment < 86400000
unfolding is_right
moment-within form at r h clock = grind (arith, nat_tests, h.moment)

pub node-within : (form at : ℕ) (r : Row) → IsRight form at r → 5 ≤ r.kind → r.node < 3
unfolding is_right
node-within form at r h node = grind (arith, nat_tests, h.kind, h.node)
