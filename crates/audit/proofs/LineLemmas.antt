-- The lines of a report: none has an LF inside, and those that follow from others tell no choice.
use Rattle.std.proofs.Common.{◌≡◌, ℕ, zero, suc, ◌<◌, Bool, true, false, not, ◌&&◌, leb, List, [], ◌∷◌, ◌++◌, Option, Some, None, inl, inr, codes, length, map, refl, ap, ◌∙◌, arith}
use Rattle.std.specs.Fmt.{decimal}
use Rattle.std.specs.List.{All, list_all, slice_index}
use Rattle.std.specs.Str.{bytes_eq}
use Rattle.std.proofs.lemmas.Bool.{cases_lt}
use Rattle.std.proofs.lemmas.Bool.Decides.{nat_tests}
use Rattle.std.proofs.lemmas.List.{get_or_past}
use Rattle.std.proofs.lemmas.List.Elements.{All-get_or}
use Rattle.mkt_base.specs.Certificate.{price_word, side_word, sum_words}
use Rattle.mkt_base.specs.ReportWords.{event_words, kind_word, moment_word, name_of, node_state_word, phase_word, quote_kind_word, quote_words, reason_number, reason_word, reply_words}
use Rattle.mkt_base.specs.Text.{line, time_text}
use Rattle.mkt_base.specs.declared.auction.Outcome.TheVariants as outcomes
use Rattle.mkt_base.specs.declared.auction.Sums.{Sums}
use Rattle.mkt_base.specs.declared.event.Event.{Event}
use Rattle.mkt_base.specs.declared.event.Event.TheVariants as events
use Rattle.mkt_base.specs.declared.event.Phase.{Phase}
use Rattle.mkt_base.specs.declared.event.Phase.TheVariants.{Idle, Collecting, Trading}
use Rattle.mkt_base.specs.declared.event.Reason.{Reason}
use Rattle.mkt_base.specs.declared.event.Reason.TheVariants.{Closed, BadQty, BadPrice, UnknownOrder, NotYours, TimeBack, NodeDown, NodeUp}
use Rattle.mkt_base.specs.declared.event.Reply.{Reply}
use Rattle.mkt_base.specs.declared.event.Reply.TheVariants as replies
use Rattle.mkt_base.specs.declared.journal.NodeState.{NodeState}
use Rattle.mkt_base.specs.declared.journal.NodeState.TheVariants.{Lost, Joining, Synchronised}
use Rattle.mkt_base.specs.declared.order.Kind.{Kind}
use Rattle.mkt_base.specs.declared.order.Kind.TheVariants.{Market, Limit}
use Rattle.mkt_base.specs.declared.order.Side.{Side}
use Rattle.mkt_base.specs.declared.order.Side.TheVariants.{Buy, Sell}
use Rattle.mkt_base.specs.declared.output.Output.{Output}
use Rattle.mkt_base.specs.declared.output.Output.TheVariants as outputs
use Rattle.mkt_base.specs.declared.quote.Quote.{Quote}
use Rattle.mkt_base.specs.declared.quote.QuoteKind.{QuoteKind}
use Rattle.mkt_base.specs.declared.quote.QuoteKind.TheVariants.{Special, Sequential}
use Rattle.mkt_base.specs.declared.units.Price.{Price}
use Rattle.mkt_io.specs.Words.{is_digit}
use Rattle.rules_file.specs.Forms.{is_name, is_name_byte}
use Rattle.rules_file.specs.Rules.{IsRules, gateways_in, participants_in}
use Rattle.rules_file.specs.declared.rules.Rules.{Rules}
use Rattle.run_report.specs.Report.{caller_word, output_line, reply_line, shown_quote}
use Rattle.text_match.specs.Lines.{is_one_line}
use Rattle.text_match.proofs.WordLemmas.{AreAllPlain, ArePlain, IsWord, body, body-one, both, byte-plain, decimal-plain, is_plain, joined, time-word, words-begin}
use Rattle.audit.specs.Reading.{choice_in, read}
use Rattle.audit.specs.Told.{At, Going, Halted, Showing, Over}

-- ---- lines that tell no choice

-- a first word that begins no line which tells a choice
abbrev pub is_quiet : List ℕ → Bool
is_quiet w =
    not (is_digit (slice_index w 0)) && (not (bytes_eq w (codes "halted")) && (not (bytes_eq w (codes "nodes")) && (not (bytes_eq w (codes "show")) && not (bytes_eq w (codes "end")))))

not-true : (b : Bool) → not b ≡ true → b ≡ false
not-true true h = absurd (cc)
not-true false h = refl

-- it tells none, wherever it stands
quiet-words : (rules : Rules) (at : At) (w : List ℕ) (more : List (List ℕ)) → is_quiet w ≡ true → choice_in rules at (w ∷ more) ≡ None
quiet-words rules at w more quiet =
    let end = not (bytes_eq w (codes "end")) in
    let show = not (bytes_eq w (codes "show")) in
    let nodes = not (bytes_eq w (codes "nodes")) in
    let a = both (not (is_digit (slice_index w 0))) (not (bytes_eq w (codes "halted")) && (nodes && (show && end))) quiet in
    let b = both (not (bytes_eq w (codes "halted"))) (nodes && (show && end)) a.1 in
    let c = both nodes (show && end) b.1 in
    let d = both show end c.1 in
    cases at (not-true (is_digit (slice_index w 0)) a.0) (not-true (bytes_eq w (codes "halted")) b.0) (not-true (bytes_eq w (codes "nodes")) c.0)
    (not-true (bytes_eq w (codes "show")) d.0) (not-true (bytes_eq w (codes "end")) d.1)
  where
    cases : (at : At) → is_digit (slice_index w 0) ≡ false → bytes_eq w (codes "halted") ≡ false → bytes_eq w (codes "nodes") ≡ false → bytes_eq w (codes "show") ≡ false
        → bytes_eq w (codes "end") ≡ false → choice_in rules at (w ∷ more) ≡ None
    cases (Going done journal) digit halted nodes show end = rw (digit, halted, nodes) refl
    cases (Halted done journal halt) digit halted nodes show end = rw nodes refl
    cases (Showing done asked) digit halted nodes show end = rw (show, end) refl
    cases (Over done asked) digit halted nodes show end = refl

-- a line that follows from others
pub record IsSilent (text l : List ℕ) : Type 0 where
  pub text_is : text ≡ l ++ 10 ∷ []
  pub one : is_one_line l ≡ true
  pub unread : (rules : Rules) (at : At) → read rules at l ≡ None

pub silent : (first : List ℕ) (ws : List (List ℕ)) → is_quiet first ≡ true → IsWord first → AreAllPlain ws → IsSilent (line (first ∷ ws)) (body (first ∷ ws))
silent first ws quiet is plain = record {
  text_is = refl;
  one = body-one (first ∷ ws) (is.plain, plain);
  unread = λ rules at. let begin = words-begin first ws is in ap (choice_in rules at) begin.1 ∙ quiet-words rules at first begin.0 quiet;
}

-- ---- words

name-byte : (b : ℕ) → is_name_byte b ≡ true → is_plain b ≡ true
name-byte b h = byte-plain b (grind (arith, nat_tests, h))

name-bytes : (w : List ℕ) → list_all is_name_byte w ≡ true → ArePlain w
name-bytes [] h = refl
name-bytes (b ∷ w) h = let t = both (is_name_byte b) (list_all is_name_byte w) h in joined (is_plain b) (list_all is_plain w) (name-byte b t.0) (name-bytes w t.1)

-- a name is a word
pub name-word : (w : List ℕ) → is_name w ≡ true → IsWord w
unfolding is_name
name-word w h =
    let t = both (leb 1 (length w) && leb (length w) 8) (list_all is_name_byte w) h in
    let u = both (leb 1 (length w)) (leb (length w) 8) t.0 in
    record { plain = name-bytes w t.1; some = grind (arith, nat_tests, u.0) }

-- the name of a number is one, and nothing where there is none
pub name-at : (names : List (List ℕ)) (i : ℕ) → All (λ w. is_name w ≡ true) names → i < length names → IsWord (name_of names i)
name-at names i each h = name-word (name_of names i) (All-get_or (λ w. is_name w ≡ true) names i [] h each)

pub name-plain : (names : List (List ℕ)) (i : ℕ) → All (λ w. is_name w ≡ true) names → ArePlain (name_of names i)
name-plain names i each =
    elim (cases_lt i (length names)) [
      | inl h ↦ (name-at names i each h).plain
      | inr h ↦ rw (get_or_past names i [] h) refl
    ]

pub caller-plain : (rules : Rules) (c : ℕ) → IsRules rules → ArePlain (caller_word rules c)
caller-plain rules zero is = refl
caller-plain rules (suc c) is = name-plain (gateways_in rules) c is.gateways.each

participant-plain : (rules : Rules) (i : ℕ) → IsRules rules → ArePlain (name_of (participants_in rules) i)
participant-plain rules i is = name-plain (participants_in rules) i is.participants.each

time-plain : (ms : ℕ) → ArePlain (time_text ms)
time-plain ms = (time-word ms).plain

pub phase-plain : (p : Phase) → ArePlain (phase_word p)
phase-plain Idle = refl
phase-plain Collecting = refl
phase-plain Trading = refl

side-plain : (s : Side) → ArePlain (side_word s)
side-plain Buy = refl
side-plain Sell = refl

pub price-plain : (p : Option Price) → ArePlain (price_word p)
price-plain None = refl
price-plain (Some p) = decimal-plain p.0

kind-plain : (k : Kind) → ArePlain (kind_word k)
kind-plain Market = refl
kind-plain (Limit p) = decimal-plain p.0

moment-plain : (m : Option ℕ) → ArePlain (moment_word m)
moment-plain None = refl
moment-plain (Some at) = time-plain at

quote_kind-plain : (k : QuoteKind) → ArePlain (quote_kind_word k)
quote_kind-plain Special = refl
quote_kind-plain Sequential = refl

state-plain : (s : NodeState) → ArePlain (node_state_word s)
state-plain Lost = refl
state-plain (Joining n) = refl
state-plain Synchronised = refl

pub quote-plain : (q : Quote) → AreAllPlain (quote_words q)
quote-plain q = (quote_kind-plain q.kind, (side-plain q.side, (decimal-plain q.price.0, (moment-plain q.due, tt))))

pub shown-plain : (q : Option Quote) → AreAllPlain (shown_quote q)
shown-plain None = (refl, tt)
shown-plain (Some q) = quote-plain q

pub states-plain : (nodes : List NodeState) → AreAllPlain (map node_state_word nodes)
states-plain [] = tt
states-plain (s ∷ nodes) = (state-plain s, states-plain nodes)

pub event-plain : (rules : Rules) (e : Event) → IsRules rules → AreAllPlain (event_words (participants_in rules) e)
event-plain rules (events.Order p s k q) is = (refl, (participant-plain rules p.0 is, (side-plain s, (kind-plain k, (decimal-plain q.0, tt)))))
event-plain rules (events.Change p t k q) is = (refl, (participant-plain rules p.0 is, (decimal-plain t, (kind-plain k, (decimal-plain q.0, tt)))))
event-plain rules (events.Cancel p t) is = (refl, (participant-plain rules p.0 is, (decimal-plain t, tt)))
event-plain rules (events.Clock at) is = (refl, (time-plain at, tt))
event-plain rules (events.Crash n) is = (refl, (decimal-plain n, tt))
event-plain rules (events.Rejoin n) is = (refl, (decimal-plain n, tt))

reason-plain : (rules : Rules) (r : Reason) → IsRules rules → ArePlain (reason_word (participants_in rules) r)
reason-plain rules (Closed p) is = phase-plain p
reason-plain rules (BadQty q) is = decimal-plain q.0
reason-plain rules (BadPrice p) is = decimal-plain p.0
reason-plain rules (UnknownOrder t) is = decimal-plain t
reason-plain rules (NotYours p) is = participant-plain rules p.0 is
reason-plain rules (TimeBack n) is = time-plain n
reason-plain rules (NodeDown n) is = decimal-plain n
reason-plain rules (NodeUp n) is = decimal-plain n

reply-plain : (rules : Rules) (r : Reply) → IsRules rules → AreAllPlain (reply_words (participants_in rules) r)
reply-plain rules (replies.Accepted p f l) is = (refl, (decimal-plain p, (decimal-plain f, (decimal-plain l, tt))))
reply-plain rules (replies.Changed p f l) is = (refl, (decimal-plain p, (decimal-plain f, (decimal-plain l, tt))))
reply-plain rules (replies.Cancelled l) is = (refl, (decimal-plain l, tt))
reply-plain rules (replies.Moment s) is = (refl, (decimal-plain s, tt))
reply-plain rules (replies.NodeOut n) is = (refl, (decimal-plain n, tt))
reply-plain rules (replies.NodeIn n) is = (refl, (decimal-plain n, tt))
reply-plain rules (replies.Refused r) is = (refl, (decimal-plain (reason_number r), (reason-plain rules r is, tt)))

sums-plain : (s : Sums) → AreAllPlain (sum_words s)
sums-plain s = (decimal-plain s.buys, (decimal-plain s.above, (decimal-plain s.sells, (decimal-plain s.below, tt))))

-- ---- outputs and replies

pub output_body : Rules → Output → List ℕ
output_body rules (outputs.Due at) = body (codes "due" ∷ time_text at ∷ [])
output_body rules (outputs.NewPhase phase) = body (codes "phase" ∷ phase_word phase ∷ [])
output_body rules (outputs.Auction reference lo hi) = body (codes "auction" ∷ decimal reference.0 ∷ decimal lo.0 ∷ decimal hi.0 ∷ [])
output_body rules (outputs.Rejected s) = body (codes "rejected" ∷ decimal s.price.0 ∷ sum_words s)
output_body rules (outputs.Answer (outcomes.Traded volume s)) = body (codes "price" ∷ decimal s.price.0 ∷ decimal volume ∷ sum_words s)
output_body rules (outputs.Answer (outcomes.Calm bid ask)) = body (codes "calm" ∷ price_word bid ∷ price_word ask ∷ [])
output_body rules (outputs.Answer (outcomes.Pressed side price pressing facing)) = body (codes "pressed" ∷ side_word side ∷ decimal price.0 ∷ decimal pressing ∷ decimal facing ∷ [])
output_body rules (outputs.Share participant qty) = body (codes "share" ∷ name_of (participants_in rules) participant.0 ∷ decimal qty ∷ [])
output_body rules (outputs.Traded t) = body (codes "trade" ∷ decimal t.price.0 ∷ decimal t.qty ∷ decimal t.buy ∷ decimal t.sell ∷ [])
output_body rules (outputs.Quoted None) = body (codes "quote" ∷ codes "none" ∷ [])
output_body rules (outputs.Quoted (Some q)) = body (codes "quote" ∷ quote_words q)

-- a literal word
literal : (w : List ℕ) → ArePlain w → 0 < length w → IsWord w
literal w plain some = record { plain = plain; some = some }

pub output-silent : (rules : Rules) (o : Output) → IsRules rules → IsSilent (output_line rules o) (output_body rules o)
unfolding output_body
output-silent rules (outputs.Due at) is = silent (codes "due") (time_text at ∷ []) refl (literal (codes "due") refl (omega arith)) (time-plain at, tt)
output-silent rules (outputs.NewPhase phase) is = silent (codes "phase") (phase_word phase ∷ []) refl (literal (codes "phase") refl (omega arith)) (phase-plain phase, tt)
output-silent rules (outputs.Auction reference lo hi) is =
    silent (codes "auction") (decimal reference.0 ∷ decimal lo.0 ∷ decimal hi.0 ∷ []) refl (literal (codes "auction") refl (omega arith))
    (decimal-plain reference.0, (decimal-plain lo.0, (decimal-plain hi.0, tt)))
output-silent rules (outputs.Rejected s) is =
    silent (codes "rejected") (decimal s.price.0 ∷ sum_words s) refl (literal (codes "rejected") refl (omega arith)) (decimal-plain s.price.0, sums-plain s)
output-silent rules (outputs.Answer (outcomes.Traded volume s)) is =
    silent (codes "price") (decimal s.price.0 ∷ decimal volume ∷ sum_words s) refl (literal (codes "price") refl (omega arith)) (decimal-plain s.price.0, (decimal-plain volume, sums-plain s))
output-silent rules (outputs.Answer (outcomes.Calm bid ask)) is =
    silent (codes "calm") (price_word bid ∷ price_word ask ∷ []) refl (literal (codes "calm") refl (omega arith)) (price-plain bid, (price-plain ask, tt))
output-silent rules (outputs.Answer (outcomes.Pressed side price pressing facing)) is =
    silent (codes "pressed") (side_word side ∷ decimal price.0 ∷ decimal pressing ∷ decimal facing ∷ []) refl (literal (codes "pressed") refl (omega arith))
    (side-plain side, (decimal-plain price.0, (decimal-plain pressing, (decimal-plain facing, tt))))
output-silent rules (outputs.Share participant qty) is =
    silent (codes "share") (name_of (participants_in rules) participant.0 ∷ decimal qty ∷ []) refl (literal (codes "share") refl (omega arith))
    (participant-plain rules participant.0 is, (decimal-plain qty, tt))
output-silent rules (outputs.Traded t) is =
    silent (codes "trade") (decimal t.price.0 ∷ decimal t.qty ∷ decimal t.buy ∷ decimal t.sell ∷ []) refl (literal (codes "trade") refl (omega arith))
    (decimal-plain t.price.0, (decimal-plain t.qty, (decimal-plain t.buy, (decimal-plain t.sell, tt))))
output-silent rules (outputs.Quoted None) is = silent (codes "quote") (codes "none" ∷ []) refl (literal (codes "quote") refl (omega arith)) (refl, tt)
output-silent rules (outputs.Quoted (Some q)) is = silent (codes "quote") (quote_words q) refl (literal (codes "quote") refl (omega arith)) (quote-plain q)

pub reply_body : Rules → Reply → List ℕ
reply_body rules reply = body (codes "=" ∷ reply_words (participants_in rules) reply)

pub reply-silent : (rules : Rules) (r : Reply) → IsRules rules → IsSilent (reply_line rules r) (reply_body rules r)
unfolding reply_body
reply-silent rules r is = silent (codes "=") (reply_words (participants_in rules) r) refl (literal (codes "=") refl (omega arith)) (reply-plain rules r is)
