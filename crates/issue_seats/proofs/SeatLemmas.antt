-- Gateways at their desks, one after the other.
use Rattle.std.proofs.Common.{◌≡◌, ℕ, zero, suc, ◌<◌, ◌≤◌, ◌+◌, ◌-◌, List, [], ◌∷◌, ◌++◌, length, map, get_or, slice_index_or, slice_set, None, refl, sym, ap, subst, ◌∙◌, arith, below_more, append_assoc, length-append}
use Rattle.std.specs.Prelude.{All, Option}
use Rattle.std.specs.List.{AllZip}
use Rattle.std.proofs.Math.ListN.{get_or-append}
use Rattle.std.proofs.lemmas.List.{get_or-map, get_or_default, get_or_push, length-map, length_push}
use Rattle.mkt_base.specs.declared.journal.Stopped.{Stopped}
use Rattle.atomic_table.specs.Seated.{TableId}
use Rattle.turn_cell.specs.Passes.{Known, first_pass}
use Rattle.issue_journal.specs.Issue.{Fixed, IssueNow}
use Rattle.gateway.specs.Ran.{GatewayNow}
use Rattle.issue_desk.specs.Desk.{DeskNow}
use Rattle.stage_play.specs.declared.part.Part.{Part}
use Rattle.issue_seats.specs.Seats.{AreSeated, AreServed, at_seat}
use Rattle.issue_seats.specs.Steps.{AreSplit, MayBegin, MaySplit, desk_with, less_desk, next_desk}
use Rattle.issue_seats.proofs.ListLemmas.{Upto, item-of, nothing-left, upto-first, upto-more, zip-from}

-- ---- the first gateway

begins-with : (cell : TableId) (callers : ℕ) (fixed : Fixed) (p : Known Fixed) → p ≡ first_pass cell callers fixed → MayBegin cell p
begins-with cell callers fixed p is = subst (MayBegin cell) (sym is) (record {
  cell_is = refl;
  gateway = (omega arith, omega arith);
  fixed = refl;
  holds = (refl, λ k g within. absurd (omega (arith, within)));
  halt = refl;
})

pub first-begin : (callers : ℕ) (issues : List IssueNow) (servers : List TableId) (passes : List (Known Fixed)) → AreServed callers issues servers passes → AllZip MayBegin servers passes
first-begin callers issues servers passes served = zip-from MayBegin servers passes (served.passes_each ∙ sym served.servers_each)
    (λ n s p within.
    let there : n < length issues = omega (arith, within, served.servers_each) in
    let i = item-of issues n there in
    begins-with (get_or servers n s) callers (get_or issues n i).fixed (get_or passes n p) (served.first n i s p there))

-- ---- how all stand

-- the desk of a gateway, by its place from 0, whose pass has so many callers in its block
abbrev pub placed : TableId → ℕ → Fixed → ℕ → ℕ → DeskNow
placed cell callers fixed place block = record { pass = record (at_seat cell callers fixed place) { block = block }; stop = None }

-- the first gateway's passes have all callers that are left, and the others none
abbrev pub block_of : ℕ → ℕ → ℕ
block_of left zero = left
block_of left (suc place) = 0

pub record ArePlaced (callers left : ℕ) (issues : List IssueNow) (servers : List TableId) (place : ℕ) (desks : List DeskNow) : Type 0 where
  pub many : length desks ≡ length issues
  pub each : (n : ℕ) (i : IssueNow) (s : TableId) (d : DeskNow) → n < length issues
      → slice_index_or desks n d ≡ placed (slice_index_or servers n s) callers (slice_index_or issues n i).fixed place (block_of left place)

-- these gateways have their desks, and so many callers have none yet
pub record AreSeatedSo (callers left : ℕ) (issues : List IssueNow) (servers : List TableId) (gateways : List GatewayNow) (parts : List (Part DeskNow)) : Type 0 where
  pub many : length parts ≡ length gateways
  pub gateway_is : (k : ℕ) (g : GatewayNow) (p : Part DeskNow) → k < length gateways → (slice_index_or parts k p).gateway ≡ slice_index_or gateways k g
  pub desks : (k : ℕ) (p : Part DeskNow) → k < length gateways → ArePlaced callers left issues servers k (slice_index_or parts k p).desks.items

module _ (callers : ℕ) (issues : List IssueNow) (servers : List TableId) where
  pub first-placed : (passes : List (Known Fixed)) (desks : List DeskNow) → AreServed callers issues servers passes → desks ≡ map desk_with passes
      → ArePlaced callers (callers - 1) issues servers 0 desks
  first-placed passes desks served is = record {
    many = ap (λ (ds : List DeskNow). length ds) is ∙ length-map passes desk_with ∙ served.passes_each;
    each = λ n i s d within.
        ap (λ (ds : List DeskNow). get_or ds n d) is ∙ get_or-map desk_with passes n d.pass d (omega (arith, within, served.passes_each)) ∙ ap desk_with (served.first n i s d.pass within);
  }

  pub one-seated : (g : GatewayNow) (part : Part DeskNow) (left : ℕ) → part.gateway ≡ g → ArePlaced callers left issues servers 0 part.desks.items
      → AreSeatedSo callers left issues servers (g ∷ []) (part ∷ [])
  one-seated g part left same first = record {
    many = refl;
    gateway_is = λ k h p within. gateway_at k h p within;
    desks = λ k p within. desks_at k p within;
  }
    where
      gateway_at : (k : ℕ) (h : GatewayNow) (p : Part DeskNow) → k < 1 → (get_or (part ∷ []) k p).gateway ≡ get_or (g ∷ []) k h
      gateway_at zero h p within = same
      gateway_at (suc k) h p within = absurd (omega (arith, within))

      desks_at : (k : ℕ) (p : Part DeskNow) → k < 1 → ArePlaced callers left issues servers k (get_or (part ∷ []) k p).desks.items
      desks_at zero p within = first
      desks_at (suc k) p within = absurd (omega (arith, within))

  -- ---- a gateway more

  split-of : (callers_are : ℕ) (cell : TableId) (fixed : Fixed) (left : ℕ) (d : DeskNow) → callers_are ≤ 16 → left + 1 ≤ callers_are
      → d ≡ placed cell callers_are fixed 0 (left + 1) → MaySplit d
  split-of callers_are cell fixed left d few some is = subst MaySplit (sym is) (record { block = omega arith; gateway = (omega (arith, some), omega (arith, few)); halt = refl })

  pub may-split : (left : ℕ) (desks : List DeskNow) → length servers ≡ length issues → callers ≤ 16 → left + 1 ≤ callers
      → ArePlaced callers (left + 1) issues servers 0 desks → All MaySplit desks
  may-split left desks same few some first = λ n d within.
      let there : n < length issues = omega (arith, within, first.many) in
      let here : n < length servers = omega (arith, there, same) in
      let i = item-of issues n there in
      let s = item-of servers n here in
      split-of callers (get_or servers n s) (get_or issues n i).fixed left (get_or desks n d) few some (first.each n i s d there)

  less-placed : (left : ℕ) (old new next : List DeskNow) → ArePlaced callers (left + 1) issues servers 0 old → AreSplit old new next
      → ArePlaced callers left issues servers 0 new
  less-placed left old new next first split = record {
    many = split.same ∙ first.many;
    each = λ n i s d within.
        let cell = get_or servers n s in
        let fixed = (get_or issues n i).fixed in
        let one : left + 1 - 1 ≡ left = omega arith in
        split.less n d d (omega (arith, within, first.many)) ∙ ap less_desk (first.each n i s d within) ∙ ap (placed cell callers fixed 0) one;
  }

  -- the desk of a caller, by its number
  abbrev of_caller : TableId → Fixed → ℕ → DeskNow
  of_caller cell fixed caller = record { pass = record (at_seat cell callers fixed 0) { caller = caller }; stop = None }

  next-placed : (left place : ℕ) (old new next : List DeskNow) → suc place + left + 1 ≡ callers → ArePlaced callers (left + 1) issues servers 0 old → AreSplit old new next
      → ArePlaced callers left issues servers (suc place) next
  next-placed left place old new next all first split = record {
    many = split.many ∙ first.many;
    each = λ n i s d within.
        let cell = get_or servers n s in
        let fixed = (get_or issues n i).fixed in
        let number : callers + 1 - (left + 1) ≡ suc place + 1 = omega (arith, all) in
        split.others n d d (omega (arith, within, first.many)) ∙ ap next_desk (first.each n i s d within) ∙ ap (of_caller cell fixed) number;
  }

  still-placed : (left place : ℕ) (desks : List DeskNow) → ArePlaced callers (left + 1) issues servers (suc place) desks → ArePlaced callers left issues servers (suc place) desks
  still-placed left place desks placed = record { many = placed.many; each = placed.each }

  -- the first gateway has given one caller away
  first-less : (left : ℕ) (gateways : List GatewayNow) (parts : List (Part DeskNow)) (first : Part DeskNow) (next : List DeskNow) → 1 ≤ length gateways
      → AreSeatedSo callers (left + 1) issues servers gateways parts
      → ((p : Part DeskNow) → AreSplit (slice_index_or parts 0 p).desks.items first.desks.items next)
      → ((p : Part DeskNow) → first.gateway ≡ (slice_index_or parts 0 p).gateway)
      → AreSeatedSo callers left issues servers gateways (slice_set parts 0 first)
  first-less left gateways [] first next some seated split same = absurd (omega (arith, some, seated.many))
  first-less left gateways (old ∷ parts) first next some seated split same = record {
    many = seated.many;
    gateway_is = λ k g p within. gateway_at k g p within;
    desks = λ k p within. desks_at k p within;
  }
    where
      gateway_at : (k : ℕ) (g : GatewayNow) (p : Part DeskNow) → k < length gateways → (get_or (first ∷ parts) k p).gateway ≡ get_or gateways k g
      gateway_at zero g p within = same p ∙ seated.gateway_is 0 g p within
      gateway_at (suc k) g p within = seated.gateway_is (suc k) g p within

      desks_at : (k : ℕ) (p : Part DeskNow) → k < length gateways → ArePlaced callers left issues servers k (get_or (first ∷ parts) k p).desks.items
      desks_at zero p within = less-placed left old.desks.items first.desks.items next (seated.desks 0 p within) (split p)
      desks_at (suc k) p within = still-placed left k (get_or parts k p).desks.items (seated.desks (suc k) p within)

  -- one more stands behind the others
  push-seated : (left : ℕ) (gateways : List GatewayNow) (parts : List (Part DeskNow)) (g : GatewayNow) (part : Part DeskNow) → AreSeatedSo callers left issues servers gateways parts
      → part.gateway ≡ g → ArePlaced callers left issues servers (length gateways) part.desks.items → AreSeatedSo callers left issues servers (gateways ++ g ∷ []) (parts ++ part ∷ [])
  push-seated left gateways parts g part seated same desks = record {
    many = length_push parts part ∙ ap (λ n. n + 1) seated.many ∙ sym (length_push gateways g);
    gateway_is = λ k h p within.
        below_more (λ (n : ℕ). (h : GatewayNow) (p : Part DeskNow) → (get_or (parts ++ part ∷ []) n p).gateway ≡ get_or (gateways ++ g ∷ []) n h) (length gateways)
        gateway_below gateway_here k (omega (arith, within, length_push gateways g)) h p;
    desks = λ k p within.
        below_more (λ (n : ℕ). (p : Part DeskNow) → ArePlaced callers left issues servers n (get_or (parts ++ part ∷ []) n p).desks.items) (length gateways)
        desks_below desks_here k (omega (arith, within, length_push gateways g)) p;
  }
    where
      gateway_below : (n : ℕ) → n < length gateways → (h : GatewayNow) (p : Part DeskNow) → (get_or (parts ++ part ∷ []) n p).gateway ≡ get_or (gateways ++ g ∷ []) n h
      gateway_below n within h p =
          ap (λ (x : Part DeskNow). x.gateway) (get_or-append parts (part ∷ []) p n (omega (arith, within, seated.many))) ∙ seated.gateway_is n h p within
          ∙ sym (get_or-append gateways (g ∷ []) h n within)

      gateway_here : (h : GatewayNow) (p : Part DeskNow) → (get_or (parts ++ part ∷ []) (length gateways) p).gateway ≡ get_or (gateways ++ g ∷ []) (length gateways) h
      gateway_here h p = ap (λ (x : Part DeskNow). x.gateway) (get_or_push parts part p (length gateways) seated.many) ∙ same ∙ sym (get_or_push gateways g h (length gateways) refl)

      desks_below : (n : ℕ) → n < length gateways → (p : Part DeskNow) → ArePlaced callers left issues servers n (get_or (parts ++ part ∷ []) n p).desks.items
      desks_below n within p =
          subst (λ (x : Part DeskNow). ArePlaced callers left issues servers n x.desks.items) (sym (get_or-append parts (part ∷ []) p n (omega (arith, within, seated.many)))) (seated.desks n p within)

      desks_here : (p : Part DeskNow) → ArePlaced callers left issues servers (length gateways) (get_or (parts ++ part ∷ []) (length gateways) p).desks.items
      desks_here p = subst (λ (x : Part DeskNow). ArePlaced callers left issues servers (length gateways) x.desks.items) (sym (get_or_push parts part p (length gateways) seated.many)) desks

  next-at : (left place : ℕ) (old new next : List DeskNow) → 1 ≤ place → place + left + 1 ≡ callers → ArePlaced callers (left + 1) issues servers 0 old → AreSplit old new next
      → ArePlaced callers left issues servers place next
  next-at left zero old new next some all first split = absurd (omega (arith, some))
  next-at left (suc place) old new next some all first split = next-placed left place old new next all first split

  pub seated-more : (left : ℕ) (gateways : List GatewayNow) (parts : List (Part DeskNow)) (first : Part DeskNow) (g : GatewayNow) (part : Part DeskNow)
      → 1 ≤ length gateways → length gateways + left + 1 ≡ callers → AreSeatedSo callers (left + 1) issues servers gateways parts
      → ((p : Part DeskNow) → AreSplit (slice_index_or parts 0 p).desks.items first.desks.items part.desks.items)
      → ((p : Part DeskNow) → first.gateway ≡ (slice_index_or parts 0 p).gateway) → part.gateway ≡ g
      → AreSeatedSo callers left issues servers (gateways ++ g ∷ []) (slice_set parts 0 first ++ part ∷ [])
  seated-more left gateways parts first g part some all seated split same same_new =
      push-seated left gateways (slice_set parts 0 first) g part (first-less left gateways parts first part.desks.items some seated split same) same_new
      (next-at left (length gateways) (get_or parts 0 part).desks.items first.desks.items part.desks.items some all (seated.desks 0 part (omega (arith, some))) (split part))

-- ---- all gateways

all-placed : (cell : TableId) (callers : ℕ) (fixed : Fixed) (place : ℕ) → placed cell callers fixed place (block_of 0 place) ≡ record { pass = at_seat cell callers fixed place; stop = None }
all-placed cell callers fixed zero = refl
all-placed cell callers fixed (suc place) = refl

pub all-seated : (issues : List IssueNow) (servers : List TableId) (gateways : List GatewayNow) (parts : List (Part DeskNow))
    → AreSeatedSo (length gateways) 0 issues servers gateways parts → AreSeated issues servers gateways parts
all-seated issues servers gateways parts seated = record {
  many = seated.many;
  each = λ k g p within. record {
    gateway_is = seated.gateway_is k g p within;
    desks = (seated.desks k p within).many;
    each = λ n i s d there.
        (seated.desks k p within).each n i s d there ∙ all-placed (get_or servers n s) (length gateways) (get_or issues n i).fixed k;
  };
}

-- ---- the desks of one gateway more

-- a desk by its two parts
pub desk-is : (d : DeskNow) (pass : Known Fixed) (stop : Option Stopped) → d.pass ≡ pass → d.stop ≡ stop → d ≡ record { pass = pass; stop = stop }
desk-is d pass stop pass_is stop_is = λ i. record { pass = pass_is i; stop = stop_is i }

-- of the first i desks one more has come
pub record SplitUpto (old new next : List DeskNow) (i : ℕ) : Type 0 where
  pub changed : Upto (λ (n : ℕ) (a b : DeskNow). b ≡ less_desk a) old new i
  pub many : length next ≡ i
  pub others : (n : ℕ) (d e : DeskNow) → n < i → n < length old → slice_index_or next n d ≡ next_desk (slice_index_or old n e)

pub split-none : (old : List DeskNow) → SplitUpto old old [] 0
split-none old = record { changed = upto-first (λ (n : ℕ) (a b : DeskNow). b ≡ less_desk a) old; many = refl; others = λ n d e before within. absurd (omega (arith, before)) }

pub split-more : (old new next : List DeskNow) (i : ℕ) (less other : DeskNow) → i < length new → SplitUpto old new next i
    → ((d : DeskNow) → less ≡ less_desk (slice_index_or new i d)) → ((d : DeskNow) → other ≡ next_desk (slice_index_or new i d))
    → SplitUpto old (slice_set new i less) (next ++ other ∷ []) (i + 1)
split-more old new next i less other within so_far less_is other_is = record {
  changed = upto-more (λ (n : ℕ) (a b : DeskNow). b ≡ less_desk a) old new i less within so_far.changed less_is;
  many = length_push next other ∙ ap (λ n. n + 1) so_far.many;
  others = λ n d e before there.
      below_more (λ (n : ℕ). (d e : DeskNow) → n < length old → get_or (next ++ other ∷ []) n d ≡ next_desk (get_or old n e)) i
      (λ n below d e there. get_or-append next (other ∷ []) d n (omega (arith, below, so_far.many)) ∙ so_far.others n d e below there)
      (λ d e there. get_or_push next other d i so_far.many ∙ other_is e ∙ ap next_desk (so_far.changed.rest i e (omega arith)))
      n before d e there;
}

pub split-all : (old new next : List DeskNow) → SplitUpto old new next (length old) → AreSplit old new next
split-all old new next so_far = record {
  same = so_far.changed.same;
  many = so_far.many;
  less = λ n d e within. so_far.changed.done n d within within ∙ ap less_desk (get_or_default old n d e within);
  others = λ n d e within. so_far.others n d e within within;
}

-- ---- the loop over the gateways

-- some gateways have their desks, and these are left
pub record Seating (all left : List GatewayNow) (servers : List TableId) (passes : List (Known Fixed)) (parts : List (Part DeskNow)) : Type 0 where
  pub done : List GatewayNow
  pub whole : done ++ left ≡ all
  pub some : 1 ≤ length done
  pub seated : (issues : List IssueNow) → AreServed (length all) issues servers passes → AreSeatedSo (length all) (length left) issues servers done parts

module _ (all : List GatewayNow) (servers : List TableId) (passes : List (Known Fixed)) where
  pub seating-one : (g : GatewayNow) (left : List GatewayNow) (part : Part DeskNow) → all ≡ g ∷ left → part.gateway ≡ g → part.desks.items ≡ map desk_with passes
      → Seating all left servers passes (part ∷ [])
  seating-one g left part is same desks = record {
    done = g ∷ [];
    whole = sym is;
    some = omega arith;
    seated = λ issues served.
        let first = first-placed (length all) issues servers passes part.desks.items served desks in
        let less : length all - 1 ≡ length left = omega (arith, ap (λ (gs : List GatewayNow). length gs) is) in
        one-seated (length all) issues servers g part (length left) same (subst (λ (n : ℕ). ArePlaced (length all) n issues servers 0 part.desks.items) less first);
  }

  lengths : (done left : List GatewayNow) → done ++ left ≡ all → length done + length left ≡ length all
  lengths done left is = sym (length-append done left) ∙ ap (λ (gs : List GatewayNow). length gs) is

  -- as many are left as the one to come and those behind it
  counted : (g : GatewayNow) (left : List GatewayNow) (parts : List (Part DeskNow)) (s : Seating all (g ∷ left) servers passes parts) (issues : List IssueNow) → AreServed (length all) issues servers passes
      → AreSeatedSo (length all) (length left + 1) issues servers s.done parts
  counted g left parts s issues served =
      let one : length (g ∷ left) ≡ length left + 1 = omega arith in
      subst (λ (n : ℕ). AreSeatedSo (length all) n issues servers s.done parts) one (s.seated issues served)

  pub seating-splits : (g : GatewayNow) (left : List GatewayNow) (parts : List (Part DeskNow)) (issues : List IssueNow) → AreServed (length all) issues servers passes → length all ≤ 16
      → Seating all (g ∷ left) servers passes parts → (p : Part DeskNow) → All MaySplit (slice_index_or parts 0 p).desks.items
  seating-splits g left parts issues served few s p =
      may-split (length all) issues servers (length left) (get_or parts 0 p).desks.items served.servers_each few (omega (arith, lengths s.done (g ∷ left) s.whole))
      ((counted g left parts s issues served).desks 0 p (omega (arith, s.some)))

  -- some gateway has its desks, and not all have
  pub seating-some : (g : GatewayNow) (left : List GatewayNow) (parts : List (Part DeskNow)) (issues : List IssueNow) → AreServed (length all) issues servers passes
      → Seating all (g ∷ left) servers passes parts → (0 < length parts) × (length parts < length all)
  seating-some g left parts issues served s =
      let many = (counted g left parts s issues served).many in
      (omega (arith, many, s.some), omega (arith, many, lengths s.done (g ∷ left) s.whole))

  pub seating-more : (g : GatewayNow) (left : List GatewayNow) (parts : List (Part DeskNow)) (first part : Part DeskNow) → Seating all (g ∷ left) servers passes parts
      → ((p : Part DeskNow) → AreSplit (slice_index_or parts 0 p).desks.items first.desks.items part.desks.items)
      → ((p : Part DeskNow) → first.gateway ≡ (slice_index_or parts 0 p).gateway) → part.gateway ≡ g
      → Seating all left servers passes (slice_set parts 0 first ++ part ∷ [])
  seating-more g left parts first part s split same same_new = record {
    done = s.done ++ g ∷ [];
    whole = append_assoc s.done (g ∷ []) left ∙ s.whole;
    some = omega (arith, length_push s.done g);
    seated = λ issues served.
        seated-more (length all) issues servers (length left) s.done parts first g part s.some (omega (arith, lengths s.done (g ∷ left) s.whole)) (counted g left parts s issues served) split same same_new;
  }

  pub seating-all : (left : List GatewayNow) (parts : List (Part DeskNow)) → length left ≡ 0 → Seating all left servers passes parts
      → (issues : List IssueNow) → AreServed (length all) issues servers passes → AreSeated issues servers all parts
  seating-all left parts none s issues served =
      let end : s.done ≡ all = nothing-left s.done left all none s.whole in
      all-seated issues servers all parts
      (subst (λ (gs : List GatewayNow). AreSeatedSo (length all) 0 issues servers gs parts) end
      (subst (λ (n : ℕ). AreSeatedSo (length all) n issues servers s.done parts) none (s.seated issues served)))
