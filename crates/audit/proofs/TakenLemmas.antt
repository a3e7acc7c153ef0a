-- What is read may stand where it was read.
use Rattle.std.proofs.Common.{◌≡◌, ℕ, ◌+◌, ◌-◌, ◌*◌, ◌<◌, ◌≤◌, ◌^◌, Bool, true, false, ◌&&◌, cond, eqb, leb, ltb, List, [], ◌∷◌, Option, Some, None, Result, Ok, Err, codes, length, position, slice_index, refl, ap, subst, arith}
use Rattle.std.specs.List.{position_or_len}
use Rattle.std.specs.Option.{ok_or}
use Rattle.std.specs.Str.{bytes_eq}
use Rattle.std.proofs.lemmas.Bool.Decides.{nat_tests}
use Rattle.mkt_base.specs.declared.event.Entry.{Entry}
use Rattle.mkt_base.specs.declared.event.Event.{Event}
use Rattle.mkt_base.specs.declared.order.Kind.{Kind}
use Rattle.mkt_base.specs.declared.order.Kind.TheVariants.{Limit, Market}
use Rattle.mkt_base.specs.declared.units.Caller.{Caller}
use Rattle.mkt_base.specs.declared.units.Participant.{Participant}
use Rattle.mkt_io.specs.LineFault.{◌>>=◌, next_number, number_in, wanted}
use Rattle.mkt_io.specs.Time.{digit_of, millis_of, part_at, time_of, two_at}
use Rattle.mkt_io.specs.Words.{is_digit, number_of, words}
use Rattle.mkt_io.specs.declared.fault.LineFault.{LineFault}
use Rattle.mkt_io.specs.declared.fault.LineFault.TheVariants.{Gateway, Issue, Number, Word, Participant as NoParticipant}
use Rattle.rules_file.specs.Rules.{IsRules, codes_in, gateways_in, issues_in, participants_in}
use Rattle.rules_file.specs.declared.rules.Rules.{Rules}
use Rattle.script_file.specs.Words.{gateway_of, kind_of, next_kind, next_moment, next_node, next_participant, next_side}
use Rattle.issue_machine.specs.Journal.{IsEventOf}
use Rattle.run_report.specs.declared.ended.EndedIssue.{EndedIssue}
use Rattle.audit.specs.Reading.{asked_words, caller_event, cancel_words, change_words, choice_in, choice_words, clock_words, crash_words, event_words, next_caller, next_event, next_gateway, next_issue, order_words, read, rejoin_words, taken}
use Rattle.audit.specs.Reports.{HasNumbers, IsPriced}
use Rattle.audit.specs.Told.{At, Going, Halted, Showing, Over, Choice, Enter, Stop, Close, Show, Finish, may}
use Rattle.audit.specs.declared.told.Asked.{Asked}
use Rattle.audit.proofs.Choices.{Allows}

-- ---- steps that came to something

-- a step and what it was handed on to
pub record Bound {A B : Type 0} (o : Result A LineFault) (g : A → Result B LineFault) (y : B) : Type 0 where
  pub x : A
  pub first : o ≡ Ok x
  pub then : g x ≡ Ok y

bind-ok : {A B : Type 0} (o : Result A LineFault) (g : A → Result B LineFault) (y : B) → (o >>= g) ≡ Ok y → Bound o g y
bind-ok (Ok x) g y h = record { x = x; first = refl; then = h }
bind-ok (Err e) g y h = absurd (cc)

ok-some : {A : Type 0} (o : Option A) (e : LineFault) (x : A) → ok_or o e ≡ Ok x → o ≡ Some x
ok-some (Some y) e x h = let same : y ≡ x = cc in ap (λ z. Some z) same
ok-some None e x h = absurd (cc)

ok-same : {A : Type 0} (x y : A) → let a : Result A LineFault = Ok x in a ≡ Ok y → x ≡ y
ok-same x y h = cc

some-same : {A : Type 0} (x y : A) → let a : Option A = Some x in a ≡ Some y → x ≡ y
some-same x y h = cc

when-true : (b : Bool) (p i : ℕ) → cond b (Some p) None ≡ Some i → (b ≡ true) × (p ≡ i)
when-true true p i h = (refl, some-same p i h)
when-true false p i h = absurd (cc)

-- the place of a name is one of the list
position-within : (test : List ℕ → Bool) (names : List (List ℕ)) (i : ℕ) → position test names ≡ Some i → i < length names
position-within test names i h =
    let t = when-true (ltb (position_or_len test names) (length names)) (position_or_len test names) i h in
    let below : position_or_len test names < length names = grind (arith, nat_tests, t.0) in
    omega (arith, below, t.1)

-- ---- numbers

number_in-le : (high : ℕ) (w : List ℕ) (n : ℕ) → number_in 0 high w ≡ Ok n → n ≤ high
unfolding number_in
number_in-le high w n h = at (number_of w) refl
  where
    inside : (m : ℕ) (b : Bool) → leb m high ≡ b → (let none : Result ℕ LineFault = Err Number in cond (leb 0 m && b) (Ok m) none ≡ Ok n) → n ≤ high
    inside m true within h =
        let same : m ≡ n = at-low (leb 0 m) m h in
        let below : m ≤ high = grind (arith, nat_tests, within) in
        omega (arith, same, below)
      where
        at-low : (b : Bool) (m : ℕ) → (let none : Result ℕ LineFault = Err Number in cond (b && true) (Ok m) none ≡ Ok n) → m ≡ n
        at-low true m h = ok-same m n h
        at-low false m h = absurd (cc)
    inside m false within h = absurd (no (leb 0 m) h)
      where
        no : (b : Bool) → (let none : Result ℕ LineFault = Err Number in cond (b && false) (Ok m) none ≡ Ok n) → ⊥
        no true h = absurd (cc)
        no false h = absurd (cc)

    at : (o : Option ℕ) → number_of w ≡ o → n ≤ high
    at None e = let none : number_in 0 high w ≡ Err Number = rw (e) refl in absurd (cc)
    at (Some m) e = inside m (leb m high) refl (rw e at h)

next_number-le : (high : ℕ) (ws : List (List ℕ)) (p : ℕ × List (List ℕ)) → next_number 0 high ws ≡ Ok p → p.0 ≤ high
unfolding next_number
next_number-le high ws p h =
    let a = bind-ok (wanted ws) _ p h in
    let b = bind-ok (number_in 0 high a.x.0) _ p a.then in
    let same = ok-same (b.x, a.x.1) p b.then in
    omega (arith, number_in-le high a.x.0 b.x b.first, ap (λ (q : ℕ × List (List ℕ)). q.0) same)

small-number : (ws : List (List ℕ)) (p : ℕ × List (List ℕ)) → next_number 0 4294967295 ws ≡ Ok p → p.0 < 2 ^ 32
small-number ws p h = omega (arith, next_number-le 4294967295 ws p h)

next_node-small : (ws : List (List ℕ)) (p : ℕ × List (List ℕ)) → next_node ws ≡ Ok p → p.0 < 3
unfolding next_node
next_node-small ws p h = omega (arith, next_number-le 2 ws p h)

next_kind-priced : (ws : List (List ℕ)) (p : Kind × List (List ℕ)) → next_kind ws ≡ Ok p → IsPriced p.0
unfolding next_kind kind_of
next_kind-priced ws p h =
    let a = bind-ok (wanted ws) _ p h in
    let b = bind-ok (kind_of a.x.0) _ p a.then in
    let same = ok-same (b.x, a.x.1) p b.then in
    let kind : b.x ≡ p.0 = ap (λ (q : Kind × List (List ℕ)). q.0) same in
    subst IsPriced kind (at (bytes_eq a.x.0 (codes "market")) b.x a.x.0 b.first)
  where
    at : (t : Bool) (k : Kind) (w : List ℕ) → (let ok : Result Kind LineFault = Ok Market in cond t ok (number_in 0 4294967295 w >>= λ price. Ok (Limit (record { 0 = price }))) ≡ Ok k) → IsPriced k
    at true k w h = subst IsPriced (ok-same Market k h) tt
    at false k w h =
        let c = bind-ok (number_in 0 4294967295 w) _ k h in
        let limit : Kind = Limit (record { 0 = c.x }) in
        subst IsPriced (ok-same limit k c.then) (omega (arith, number_in-le 4294967295 w c.x c.first))

-- ---- times

digit-small : (b n : ℕ) → digit_of b ≡ Some n → n < 10
unfolding digit_of
digit-small b n h = at (leb 48 b) (leb b 57) refl h
  where
    at : (low high : Bool) → leb b 57 ≡ high → (let none : Option ℕ = None in cond (low && high) (Some (b - 48)) none ≡ Some n) → n < 10
    at true true within h = let same = some-same (b - 48) n h in let top : b ≤ 57 = grind (arith, nat_tests, within) in omega (arith, same, top)
    at true false within h = absurd (cc)
    at false high within h = absurd (cc)

-- one part behind another, as the times say it
abbrev then_some : {A B : Type 0} → Option A → (A → Option B) → Option B
then_some (Some x) f = f x
then_some None f = None

record SomeBound {A B : Type 0} (o : Option A) (g : A → Option B) (y : B) : Type 0 where
  x : A
  first : o ≡ Some x
  then : g x ≡ Some y

some-bound : {A B : Type 0} (o : Option A) (g : A → Option B) (y : B) → then_some o g ≡ Some y → SomeBound o g y
some-bound (Some x) g y h = record { x = x; first = refl; then = h }
some-bound None g y h = absurd (cc)

two-small : (w : List ℕ) (at n : ℕ) → two_at w at ≡ Some n → n < 100
unfolding two_at
two-small w place n h =
    let a = some-bound (digit_of (slice_index w place)) _ n h in
    let b = some-bound (digit_of (slice_index w (place + 1))) _ n a.then in
    let same = some-same (10 * a.x + b.x) n b.then in
    omega (arith, same, digit-small (slice_index w place) a.x a.first, digit-small (slice_index w (place + 1)) b.x b.first)

part-small : (limit : ℕ) (w : List ℕ) (at n : ℕ) → part_at limit w at ≡ Some n → n < limit
unfolding part_at
part-small limit w place n h = let a = some-bound (two_at w place) _ n h in inside a.x (ltb a.x limit) refl a.then
  where
    inside : (m : ℕ) (b : Bool) → ltb m limit ≡ b → (let none : Option ℕ = None in cond b (Some m) none ≡ Some n) → n < limit
    inside m true below h = let same = some-same m n h in let small : m < limit = grind (arith, nat_tests, below) in omega (arith, same, small)
    inside m false below h = absurd (cc)

-- the milliseconds behind a point, and the parts of a time
abbrev hundreds_of : List ℕ → Option ℕ
hundreds_of w = then_some (digit_of (slice_index w 9)) (λ hundreds. then_some (two_at w 10) (λ ones. Some (100 * hundreds + ones)))

abbrev parts_of : List ℕ → Option ℕ
parts_of w =
    then_some (part_at 24 w 0)
    (λ hours. then_some (part_at 60 w 3)
    (λ minutes. then_some (part_at 60 w 6) (λ seconds. then_some (millis_of w) (λ ms. Some (((hours * 60 + minutes) * 60 + seconds) * 1000 + ms)))))

-- what is there only under a test
under : (b : Bool) (o : Option ℕ) (n limit : ℕ) → (o ≡ Some n → n < limit) → (let none : Option ℕ = None in cond b o none ≡ Some n) → n < limit
under true o n limit small h = small h
under false o n limit small h = absurd (cc)

millis-small : (w : List ℕ) (n : ℕ) → millis_of w ≡ Some n → n < 1000
unfolding millis_of
millis-small w n h = at (eqb (length w) 8) _ (λ k. under (eqb (length w) 12 && eqb (slice_index w 8) 46) _ n 1000 digits k) h
  where
    digits : (hundreds_of w ≡ Some n) → n < 1000
    digits g =
        let a = some-bound (digit_of (slice_index w 9)) _ n g in
        let b = some-bound (two_at w 10) _ n a.then in
        let same = some-same (100 * a.x + b.x) n b.then in
        omega (arith, same, digit-small (slice_index w 9) a.x a.first, two-small w 10 b.x b.first)

    at : (b : Bool) (o : Option ℕ) → (o ≡ Some n → n < 1000) → cond b (Some 0) o ≡ Some n → n < 1000
    at true o small h = let same = some-same 0 n h in omega (arith, same)
    at false o small h = small h

-- a time word is of the day
pub time-day : (w : List ℕ) (n : ℕ) → time_of w ≡ Some n → n < 86400000
unfolding time_of
time-day w n h = under (eqb (slice_index w 2) 58 && eqb (slice_index w 5) 58) _ n 86400000 parts h
  where
    parts : parts_of w ≡ Some n → n < 86400000
    parts g =
        let a = some-bound (part_at 24 w 0) _ n g in
        let b = some-bound (part_at 60 w 3) _ n a.then in
        let c = some-bound (part_at 60 w 6) _ n b.then in
        let d = some-bound (millis_of w) _ n c.then in
        let same = some-same (((a.x * 60 + b.x) * 60 + c.x) * 1000 + d.x) n d.then in
        omega (arith, same, part-small 24 w 0 a.x a.first, part-small 60 w 3 b.x b.first, part-small 60 w 6 c.x c.first, millis-small w d.x d.first)

next_moment-day : (ws : List (List ℕ)) (p : ℕ × List (List ℕ)) → next_moment ws ≡ Ok p → p.0 < 86400000
unfolding next_moment
next_moment-day ws p h =
    let a = bind-ok (wanted ws) _ p h in
    let b = bind-ok (ok_or (time_of a.x.0) Number) _ p a.then in
    let same = ok-same (b.x, a.x.1) p b.then in
    omega (arith, time-day a.x.0 b.x (ok-some (time_of a.x.0) Number b.x b.first), ap (λ (q : ℕ × List (List ℕ)). q.0) same)

-- ---- names

next_participant-within : (rules : Rules) (ws : List (List ℕ)) (p : Participant × List (List ℕ)) → next_participant rules ws ≡ Ok p → p.0.0 < length (participants_in rules)
unfolding next_participant
next_participant-within rules ws p h =
    let a = bind-ok (wanted ws) _ p h in
    let b = bind-ok (ok_or (position (bytes_eq a.x.0) (participants_in rules)) NoParticipant) _ p a.then in
    let found : Participant = record { 0 = b.x } in
    let same = ok-same (found, a.x.1) p b.then in
    let number : b.x ≡ p.0.0 = ap (λ (q : Participant × List (List ℕ)). q.0.0) same in
    omega (arith, position-within (bytes_eq a.x.0) (participants_in rules) b.x (ok-some (position (bytes_eq a.x.0) (participants_in rules)) NoParticipant b.x b.first), number)

next_gateway-within : (rules : Rules) (ws : List (List ℕ)) (p : Caller × List (List ℕ)) → next_gateway rules ws ≡ Ok p → (1 ≤ p.0.0) × (p.0.0 ≤ length (gateways_in rules))
unfolding next_gateway gateway_of
next_gateway-within rules ws p h =
    let a = bind-ok (wanted ws) _ p h in
    let b = bind-ok (gateway_of rules a.x.0) _ p a.then in
    let c = bind-ok (ok_or (position (bytes_eq a.x.0) (gateways_in rules)) Gateway) _ b.x b.first in
    let found : Caller = record { 0 = c.x + 1 } in
    let caller : c.x + 1 ≡ b.x.0 = ap (λ (q : Caller). q.0) (ok-same found b.x c.then) in
    let same : b.x.0 ≡ p.0.0 = ap (λ (q : Caller × List (List ℕ)). q.0.0) (ok-same (b.x, a.x.1) p b.then) in
    let below = position-within (bytes_eq a.x.0) (gateways_in rules) c.x (ok-some (position (bytes_eq a.x.0) (gateways_in rules)) Gateway c.x c.first) in
    (omega (arith, caller, same), omega (arith, caller, same, below))

next_issue-within : (rules : Rules) (ws : List (List ℕ)) (p : ℕ × List (List ℕ)) → IsRules rules → next_issue rules ws ≡ Ok p → p.0 < length (issues_in rules)
unfolding next_issue
next_issue-within rules ws p is h =
    let a = bind-ok (wanted ws) _ p h in
    let b = bind-ok (ok_or (position (bytes_eq a.x.0) (codes_in rules)) Issue) _ p a.then in
    let same : b.x ≡ p.0 = ap (λ (q : ℕ × List (List ℕ)). q.0) (ok-same (b.x, a.x.1) p b.then) in
    let below = position-within (bytes_eq a.x.0) (codes_in rules) b.x (ok-some (position (bytes_eq a.x.0) (codes_in rules)) Issue b.x b.first) in
    omega (arith, same, below, is.issues.sizes)

-- ---- events

-- an event of the rules with numbers that the program keeps
pub record IsRead (rules : Rules) (e : Event) : Type 0 where
  pub of : IsEventOf (length (participants_in rules)) e
  pub numbers : HasNumbers e

read-same : (rules : Rules) (x y : Event) → (let a : Result Event LineFault = Ok x in a ≡ Ok y) → IsRead rules x → IsRead rules y
read-same rules x y h is = subst (IsRead rules) (ok-same x y h) is

order-read : (rules : Rules) (ws : List (List ℕ)) (e : Event) → order_words rules ws ≡ Ok e → IsRead rules e
unfolding order_words
order-read rules ws e h =
    let a = bind-ok (next_participant rules ws) _ e h in
    let b = bind-ok (next_side a.x.1) _ e a.then in
    let c = bind-ok (next_kind b.x.1) _ e b.then in
    let d = bind-ok (next_number 0 4294967295 c.x.1) _ e c.then in
    read-same rules _ e d.then (record { of = next_participant-within rules ws a.x a.first; numbers = (next_kind-priced b.x.1 c.x c.first, small-number c.x.1 d.x d.first) })

change-read : (rules : Rules) (ws : List (List ℕ)) (e : Event) → change_words rules ws ≡ Ok e → IsRead rules e
unfolding change_words
change-read rules ws e h =
    let a = bind-ok (next_participant rules ws) _ e h in
    let b = bind-ok (next_number 0 4294967295 a.x.1) _ e a.then in
    let c = bind-ok (next_kind b.x.1) _ e b.then in
    let d = bind-ok (next_number 0 4294967295 c.x.1) _ e c.then in
    read-same rules _ e d.then (record {
      of = next_participant-within rules ws a.x a.first;
      numbers = (small-number a.x.1 b.x b.first, next_kind-priced b.x.1 c.x c.first, small-number c.x.1 d.x d.first);
    })

cancel-read : (rules : Rules) (ws : List (List ℕ)) (e : Event) → cancel_words rules ws ≡ Ok e → IsRead rules e
unfolding cancel_words
cancel-read rules ws e h =
    let a = bind-ok (next_participant rules ws) _ e h in
    let b = bind-ok (next_number 0 4294967295 a.x.1) _ e a.then in
    read-same rules _ e b.then (record { of = next_participant-within rules ws a.x a.first; numbers = small-number a.x.1 b.x b.first })

clock-read : (rules : Rules) (ws : List (List ℕ)) (e : Event) → clock_words ws ≡ Ok e → IsRead rules e
unfolding clock_words
clock-read rules ws e h = let a = bind-ok (next_moment ws) _ e h in read-same rules _ e a.then (record { of = next_moment-day ws a.x a.first; numbers = tt })

crash-read : (rules : Rules) (ws : List (List ℕ)) (e : Event) → crash_words ws ≡ Ok e → IsRead rules e
unfolding crash_words
crash-read rules ws e h = let a = bind-ok (next_node ws) _ e h in read-same rules _ e a.then (record { of = next_node-small ws a.x a.first; numbers = tt })

rejoin-read : (rules : Rules) (ws : List (List ℕ)) (e : Event) → rejoin_words ws ≡ Ok e → IsRead rules e
unfolding rejoin_words
rejoin-read rules ws e h = let a = bind-ok (next_node ws) _ e h in read-same rules _ e a.then (record { of = next_node-small ws a.x a.first; numbers = tt })

event-read : (rules : Rules) (w : List ℕ) (ws : List (List ℕ)) (e : Event) → event_words rules w ws ≡ Ok e → IsRead rules e
event-read rules w ws e h =
    at (bytes_eq w (codes "order")) (bytes_eq w (codes "change")) (bytes_eq w (codes "cancel")) (bytes_eq w (codes "clock")) (bytes_eq w (codes "crash")) (bytes_eq w (codes "rejoin")) h
  where
    at : (a b c d f g : Bool) → cond a (order_words rules ws) (cond b (change_words rules ws) (cond c (cancel_words rules ws) (cond d (clock_words ws) (cond f (crash_words ws) (cond g (rejoin_words ws) (Err Word)))))) ≡ Ok e
        → IsRead rules e
    at true b c d f g h = order-read rules ws e h
    at false true c d f g h = change-read rules ws e h
    at false false true d f g h = cancel-read rules ws e h
    at false false false true f g h = clock-read rules ws e h
    at false false false false true g h = crash-read rules ws e h
    at false false false false false true h = rejoin-read rules ws e h
    at false false false false false false h = absurd (cc)

-- CALLER OWN EVENT
pub record IsEvent (choice : Caller → Event → Choice) (rules : Rules) (c : Choice) : Type 0 where
  pub caller : Caller
  pub event : Event
  pub is : IsRead rules event
  pub same : choice caller event ≡ c

caller_event-read : (choice : Caller → Event → Choice) (rules : Rules) (ws : List (List ℕ)) (c : Choice) → caller_event choice rules ws ≡ Ok c → IsEvent choice rules c
unfolding caller_event next_event
caller_event-read choice rules ws c h =
    let a = bind-ok (next_caller rules ws) _ c h in
    let b = bind-ok (wanted a.x.1) _ c a.then in
    let d = bind-ok (next_event rules b.x.1) _ c b.then in
    let f = bind-ok (wanted b.x.1) _ d.x d.first in
    record { caller = a.x.0; event = d.x; is = event-read rules f.x.0 f.x.1 d.x f.then; same = ok-same (choice a.x.0 d.x) c d.then }

-- ---- choices

taken-ok : (rules : Rules) (at : At) (o : Result Choice LineFault) (c : Choice) → taken rules at o ≡ Some c → (o ≡ Ok c) × (may rules at c ≡ true)
taken-ok rules at (Err e) c h = absurd (cc)
taken-ok rules at (Ok d) c h = tested (may rules at d) refl h
  where
    tested : (b : Bool) → may rules at d ≡ b → (let none : Option Choice = None in cond b (Some d) none ≡ Some c) → (let ok : Result Choice LineFault = Ok d in ok ≡ Ok c) × (may rules at c ≡ true)
    tested true e h = let same = some-same d c h in (ap (λ x. Ok x) same, subst (λ x. may rules at x ≡ true) same e)
    tested false e h = absurd (cc)

entry-allowed : (rules : Rules) (done : List EndedIssue) (journal : List Entry) (c : Choice) → IsEvent Enter rules c → may rules (Going done journal) c ≡ true → Allows rules (Going done journal) c
entry-allowed rules done journal c event tests =
    let P : Choice → Type 0 = λ x. may rules (Going done journal) x ≡ true → Allows rules (Going done journal) x in
    let here : P (Enter event.caller event.event) = λ tests. record { tests = tests; of = event.is.of; numbers = event.is.numbers } in
    subst P event.same here tests

halt-allowed : (rules : Rules) (done : List EndedIssue) (journal : List Entry) (c : Choice) → IsEvent Stop rules c → may rules (Going done journal) c ≡ true → Allows rules (Going done journal) c
halt-allowed rules done journal c event tests =
    let P : Choice → Type 0 = λ x. may rules (Going done journal) x ≡ true → Allows rules (Going done journal) x in
    let here : P (Stop event.caller event.event) = λ tests. record { tests = tests; of = event.is.of; numbers = event.is.numbers } in
    subst P event.same here tests

show-allowed : (rules : Rules) (done : List EndedIssue) (asked : List Asked) (ws : List (List ℕ)) (c : Choice) → IsRules rules → (asked_words rules ws >>= λ a. Ok (Show a)) ≡ Ok c
    → may rules (Showing done asked) c ≡ true → Allows rules (Showing done asked) c
unfolding asked_words
show-allowed rules done asked ws c is h tests =
    let o = bind-ok (asked_words rules ws) _ c h in
    let P : Choice → Type 0 = λ x. may rules (Showing done asked) x ≡ true → Allows rules (Showing done asked) x in
    let l = bind-ok (next_number 0 4294967295 ws) _ o.x o.first in
    let g = bind-ok (next_gateway rules l.x.1) _ o.x l.then in
    let i = bind-ok (next_issue rules g.x.1) _ o.x g.then in
    let n = bind-ok (next_number 0 4294967295 i.x.1) _ o.x i.then in
    let gateway = next_gateway-within rules l.x.1 g.x g.first in
    let a : Asked = record { line = l.x.0; gateway = g.x.0; issue = i.x.0; length = n.x.0 } in
    let here : P (Show a) =
    λ tests. record {
      tests = tests;
      issue = next_issue-within rules g.x.1 i.x is i.first;
      caller = gateway.0;
      gateway = gateway.1;
      number = small-number ws l.x l.first;
      few = small-number i.x.1 n.x n.first;
    } in
    let Q : Asked → Type 0 = λ b. P (Show b) in
    subst P (ok-same (Show o.x) c o.then) (subst Q (ok-same a o.x n.then) here) tests

-- what is read may stand there
pub taken-allowed : (rules : Rules) (at : At) (l : List ℕ) (c : Choice) → IsRules rules → read rules at l ≡ Some c → Allows rules at c
taken-allowed rules at l c is h = from (words l) h
  where
    close-allowed : (at : At) → Allows rules at Close → (b : Bool) → (let none : Result Choice LineFault = Err Word in cond b (Ok Close) none ≡ Ok c) → Allows rules at c
    close-allowed at may true h = let P : Choice → Type 0 = λ x. Allows rules at x in subst P (ok-same Close c h) may
    close-allowed at may false h = absurd (cc)

    going : (done : List EndedIssue) (journal : List Entry) (ws : List (List ℕ)) → may rules (Going done journal) c ≡ true → (a b d : Bool)
        → (let none : Result Choice LineFault = Err Word in cond a (caller_event Enter rules ws) (cond b (caller_event Stop rules ws) (cond d (Ok Close) none)) ≡ Ok c) → Allows rules (Going done journal) c
    going done journal ws tests true b d h = entry-allowed rules done journal c (caller_event-read Enter rules ws c h) tests
    going done journal ws tests false true d h = halt-allowed rules done journal c (caller_event-read Stop rules ws c h) tests
    going done journal ws tests false false d h = close-allowed (Going done journal) tt d h

    showing : (done : List EndedIssue) (asked : List Asked) (ws : List (List ℕ)) → may rules (Showing done asked) c ≡ true → (a b : Bool)
        → (let none : Result Choice LineFault = Err Word in cond a (asked_words rules ws >>= λ a. Ok (Show a)) (cond b (Ok Finish) none) ≡ Ok c) → Allows rules (Showing done asked) c
    showing done asked ws tests true b h = show-allowed rules done asked ws c is h tests
    showing done asked ws tests false true h = let P : Choice → Type 0 = λ x. Allows rules (Showing done asked) x in subst P (ok-same Finish c h) tt
    showing done asked ws tests false false h = absurd (cc)

    told : (at : At) (w : List ℕ) (ws : List (List ℕ)) → choice_words rules at w ws ≡ Ok c → may rules at c ≡ true → Allows rules at c
    told (Going done journal) w ws h tests = going done journal ws tests (is_digit (slice_index w 0)) (bytes_eq w (codes "halted")) (bytes_eq w (codes "nodes")) h
    told (Halted done journal halt) w ws h tests = close-allowed (Halted done journal halt) tt (bytes_eq w (codes "nodes")) h
    told (Showing done asked) w ws h tests = showing done asked ws tests (bytes_eq w (codes "show")) (bytes_eq w (codes "end")) h
    told (Over done asked) w ws h tests = absurd (cc)

    from : (ws : List (List ℕ)) → choice_in rules at ws ≡ Some c → Allows rules at c
    from [] h = absurd (cc)
    from (w ∷ ws) h = let t = taken-ok rules at (choice_words rules at w ws) c h in told at w ws t.0 t.1
