-- What is printed of a choice is read back.
use Rattle.std.proofs.Common.{◌≡◌, ℕ, zero, suc, ◌+◌, ◌<◌, ◌≤◌, ◌^◌, Bool, true, false, leb, List, [], ◌∷◌, Ok, codes, length, refl, sym, ap, ◌∙◌, arith}
use Rattle.std.specs.Fmt.{decimal}
use Rattle.std.specs.List.{list_all}
use Rattle.std.specs.Str.{bytes_eq}
use Rattle.std.proofs.lemmas.Bool.Decides.{nat_tests}
use Rattle.std.proofs.lemmas.List.Elements.{All-get_or}
use Rattle.std.proofs.lemmas.Slice.Eq.{bytes_eq-Decides}
use Rattle.mkt_base.specs.Certificate.{side_word}
use Rattle.mkt_base.specs.ReportWords.{event_words, kind_word, name_of}
use Rattle.mkt_base.specs.Text.{time_text}
use Rattle.mkt_base.specs.declared.event.Event.{Event}
use Rattle.mkt_base.specs.declared.event.Event.TheVariants as events
use Rattle.mkt_base.specs.declared.order.Kind.{Kind}
use Rattle.mkt_base.specs.declared.order.Kind.TheVariants.{Market, Limit}
use Rattle.mkt_base.specs.declared.order.Side.{Side}
use Rattle.mkt_base.specs.declared.order.Side.TheVariants.{Buy, Sell}
use Rattle.mkt_base.specs.declared.units.Caller.{Caller}
use Rattle.mkt_base.specs.declared.units.Participant.{Participant}
use Rattle.mkt_io.specs.LineFault.{next_number, number_in}
use Rattle.mkt_io.specs.Words.{is_digit}
use Rattle.mkt_io.proofs.TimeLemmas.{read_back}
use Rattle.rules_file.specs.Forms.{is_name}
use Rattle.rules_file.specs.Rules.{IsRules, codes_in, gateways_in, issues_in, participants_in}
use Rattle.rules_file.specs.declared.rules.Rules.{Rules}
use Rattle.rules_file.proofs.NameLemmas.{position-at}
use Rattle.script_file.specs.Words.{gateway_of, kind_of, next_kind, next_moment, next_node, next_participant, next_side}
use Rattle.issue_machine.specs.Journal.{IsEventOf}
use Rattle.run_report.specs.Report.{caller_word}
use Rattle.text_match.proofs.WordLemmas.{decimal-digits, number-back}
use Rattle.audit.specs.Reading.{caller_of, cancel_words, change_words, clock_words, crash_words, next_caller, next_event, next_gateway, next_issue, order_words, rejoin_words}
use Rattle.audit.specs.Reports.{HasNumbers, IsPriced}

false-when : {P : Type 0} (b : Bool) → (b ≡ true → P) → (P → ⊥) → b ≡ false
false-when true yields none = absurd (none (yields refl))
false-when false yields none = refl

-- ---- numbers, times, sides and kinds

in-range : (n high : ℕ) → n < 2 ^ 32 → n ≤ high → number_in 0 high (decimal n) ≡ Ok n
unfolding number_in
in-range n high small within =
    let low : leb 0 n ≡ true = grind (arith, nat_tests) in
    let top : leb n high ≡ true = grind (arith, nat_tests, within) in
    rw (number-back n small, low, top) refl

pub next_number-back : (n : ℕ) (ws : List (List ℕ)) → n < 2 ^ 32 → next_number 0 4294967295 (decimal n ∷ ws) ≡ Ok (n, ws)
unfolding next_number
next_number-back n ws small = rw (in-range n 4294967295 small (omega (arith, small))) refl

next_node-back : (n : ℕ) (ws : List (List ℕ)) → n < 3 → next_node (decimal n ∷ ws) ≡ Ok (n, ws)
unfolding next_node next_number
next_node-back n ws small = rw (in-range n 2 (omega (arith, small)) (omega (arith, small))) refl

next_moment-back : (at : ℕ) (ws : List (List ℕ)) → at < 86400000 → next_moment (time_text at ∷ ws) ≡ Ok (at, ws)
unfolding next_moment
next_moment-back at ws day = rw (read_back at day) refl

next_side-back : (s : Side) (ws : List (List ℕ)) → next_side (side_word s ∷ ws) ≡ Ok (s, ws)
unfolding next_side
next_side-back Buy ws = refl
next_side-back Sell ws = refl

no-market : (n : ℕ) → bytes_eq (decimal n) (codes "market") ≡ false
no-market n =
    false-when (bytes_eq (decimal n) (codes "market")) (bytes_eq-Decides (decimal n) (codes "market")).0
    (λ same. let digits : true ≡ false = sym (decimal-digits n) ∙ ap (λ w. list_all is_digit w) same in absurd (cc))

next_kind-back : (k : Kind) (ws : List (List ℕ)) → IsPriced k → next_kind (kind_word k ∷ ws) ≡ Ok (k, ws)
unfolding next_kind kind_of
next_kind-back Market ws priced = refl
next_kind-back (Limit p) ws priced = rw (no-market p.0, in-range p.0 4294967295 priced (omega (arith, priced))) refl

-- ---- names

next_participant-back : (rules : Rules) (p : Participant) (ws : List (List ℕ)) → IsRules rules → p.0 < length (participants_in rules)
    → next_participant rules (name_of (participants_in rules) p.0 ∷ ws) ≡ Ok (p, ws)
unfolding next_participant
next_participant-back rules p ws is within =
    rw (position-at (participants_in rules) (name_of (participants_in rules) p.0) p.0 is.participants.distinct within refl) refl

gateway-back : (rules : Rules) (k : ℕ) → IsRules rules → k < length (gateways_in rules) → gateway_of rules (name_of (gateways_in rules) k) ≡ Ok (record { 0 = k + 1 })
unfolding gateway_of
gateway-back rules k is within = rw (position-at (gateways_in rules) (name_of (gateways_in rules) k) k is.gateways.distinct within refl) refl

no-dash : (rules : Rules) (k : ℕ) → IsRules rules → k < length (gateways_in rules) → bytes_eq (name_of (gateways_in rules) k) (codes "-") ≡ false
unfolding is_name
no-dash rules k is within =
    let name = name_of (gateways_in rules) k in
    let named : is_name name ≡ true = All-get_or (λ w. is_name w ≡ true) (gateways_in rules) k [] within is.gateways.each in
    false-when (bytes_eq name (codes "-")) (bytes_eq-Decides name (codes "-")).0 (λ same. let wrong : true ≡ false = sym named ∙ ap is_name same in absurd (cc))

pub next_caller-back : (rules : Rules) (c : Caller) (ws : List (List ℕ)) → IsRules rules → c.0 ≤ length (gateways_in rules) → next_caller rules (caller_word rules c.0 ∷ ws) ≡ Ok (c, ws)
unfolding next_caller caller_of
next_caller-back rules c ws is within = at c.0 within
  where
    at : (n : ℕ) → n ≤ length (gateways_in rules) → let d : Caller = record { 0 = n } in next_caller rules (caller_word rules n ∷ ws) ≡ Ok (d, ws)
    at zero within = refl
    at (suc k) within =
        let next : k + 1 ≡ suc k = omega arith in
        rw (no-dash rules k is (omega (arith, within)), gateway-back rules k is (omega (arith, within)), next) refl

pub next_gateway-back : (rules : Rules) (c : Caller) (ws : List (List ℕ)) → IsRules rules → 1 ≤ c.0 → c.0 ≤ length (gateways_in rules) → next_gateway rules (caller_word rules c.0 ∷ ws) ≡ Ok (c, ws)
unfolding next_gateway
next_gateway-back rules c ws is some within = at c.0 some within
  where
    at : (n : ℕ) → 1 ≤ n → n ≤ length (gateways_in rules) → let d : Caller = record { 0 = n } in next_gateway rules (caller_word rules n ∷ ws) ≡ Ok (d, ws)
    at zero some within = absurd (omega (arith, some))
    at (suc k) some within =
        let next : k + 1 ≡ suc k = omega arith in
        rw (gateway-back rules k is (omega (arith, within)), next) refl

pub next_issue-back : (rules : Rules) (i : ℕ) (ws : List (List ℕ)) → IsRules rules → i < length (issues_in rules) → next_issue rules (name_of (codes_in rules) i ∷ ws) ≡ Ok (i, ws)
unfolding next_issue
next_issue-back rules i ws is within =
    rw (position-at (codes_in rules) (name_of (codes_in rules) i) i is.issues.distinct (omega (arith, is.issues.sizes, within)) refl) refl

-- ---- events

pub next_event-back : (rules : Rules) (e : Event) → IsRules rules → IsEventOf (length (participants_in rules)) e → HasNumbers e → next_event rules (event_words (participants_in rules) e) ≡ Ok e
unfolding next_event order_words change_words cancel_words clock_words crash_words rejoin_words
next_event-back rules (events.Order p s k q) is of has =
    rw (next_participant-back rules p _ is of, next_side-back s (kind_word k ∷ decimal q.0 ∷ []), next_kind-back k (decimal q.0 ∷ []) has.0, next_number-back q.0 [] has.1) refl
next_event-back rules (events.Change p t k q) is of has =
    rw (next_participant-back rules p _ is of, next_number-back t (kind_word k ∷ decimal q.0 ∷ []) has.0, next_kind-back k (decimal q.0 ∷ []) has.1, next_number-back q.0 [] has.2) refl
next_event-back rules (events.Cancel p t) is of has = rw (next_participant-back rules p _ is of, next_number-back t [] has) refl
next_event-back rules (events.Clock at) is of has = rw (next_moment-back at [] of) refl
next_event-back rules (events.Crash n) is of has = rw (next_node-back n [] of) refl
next_event-back rules (events.Rejoin n) is of has = rw (next_node-back n [] of) refl
