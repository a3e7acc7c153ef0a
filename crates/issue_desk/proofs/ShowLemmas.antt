-- What a read of the board makes of a desk.
use Rattle.std.proofs.Common.{◌≡◌, ℕ, ◌+◌, ◌<◌, ◌≤◌, true, List, [], length, map, take, Option, Some, None, refl, sym, ap, subst, ◌∙◌, arith, append-nil}
use Rattle.std.specs.Prelude.{is_some}
use Rattle.std.proofs.lemmas.List.{length-map, take-append-le}
use Rattle.mkt_base.specs.Desk.{WasShown}
use Rattle.mkt_base.specs.declared.event.Entry.{Entry}
use Rattle.mkt_base.specs.declared.event.Event.{Event}
use Rattle.mkt_base.specs.declared.journal.Halt.{Halt}
use Rattle.mkt_base.specs.declared.quote.Board.{Board}
use Rattle.node_rules.specs.Nodes.{up}
use Rattle.turn_cell.specs.Marks.{entries_in, halt_in}
use Rattle.turn_cell.specs.Passes.{Holds, Known, one_less}
use Rattle.turn_cell.specs.Steps.{SeesMore}
use Rattle.turn_writer.specs.Writing.{asks}
use Rattle.issue_machine.specs.History.{nodes_after}
use Rattle.issue_server.specs.Meeting.{HaltsByOthers}
use Rattle.issue_server.specs.Served.{HasOnlySeen, IsBoardSeen, IsJournalSeen}
use Rattle.stage_play.specs.Seen.{HasTold}
use Rattle.issue_desk.specs.Desk.{DeskNow, IsDesk, Tells, WasFull, events_of, state_of}
use Rattle.issue_desk.specs.Sound.{or-left}
use Rattle.issue_desk.proofs.GrownLemmas.{HasGrown, entries-grown, halt-grown, seen-grown, tells-all, told-seen}
use Rattle.issue_desk.proofs.StopLemmas.{ended-halt}

-- as many events as entries were made
pub as-many : (p : Known _) → length (events_of p) ≡ length (entries_in p.made)
as-many p = length-map (entries_in p.made) (λ (e : Entry). e.event)

-- a desk has told a board of all that it has seen
pub desk-told : (d : DeskNow) → IsDesk d → HasTold (λ (b : Board) (made : ℕ). Tells d.pass b made) (state_of d).seen (length (state_of d).made)
desk-told d desk = subst (λ (n : ℕ). HasTold (λ (b : Board) (made : ℕ). Tells d.pass b made) (state_of d).seen n) (sym (as-many d.pass)) (told-seen d.pass desk.fixed desk.holds)

module _ (d : DeskNow) (q : Known _) (board : Board) (desk : IsDesk d) (turn : HasOnlySeen d.pass q) (sees : SeesMore d.pass.caller d.pass.seen q.seen) (whole : IsJournalSeen q) (holds : Holds q.seen q)
    (others : HaltsByOthers d.pass q) (shown : IsBoardSeen board q) (all : board.length ≡ length (entries_in q.seen)) where
  same-made : q.made ≡ d.pass.made
  same-made = ap (λ (k : Known _). k.made) turn

  pub shown-grown : HasGrown d.pass q
  shown-grown = record {
    caller = ap (λ (k : Known _). k.caller) turn;
    fixed = ap (λ (k : Known _). k.fixed) turn;
    rest = sees.0;
    seen = sees.1;
    starts = sees.2;
    whole = whole;
    more = [];
    made = ap entries_in same-made ∙ sym (append-nil (entries_in d.pass.made));
  }

  pub was-shown : WasShown board (state_of d) (state_of (record { pass = q; stop = d.stop }))
  was-shown = record {
    made = ap (λ ms. map (λ (e : Entry). e.event) (entries_in ms)) same-made;
    stop = refl;
    seen = seen-grown d.pass q shown-grown;
    all = all;
    halt = halt-grown d.pass q shown-grown;
    ended = λ ended. let h = ended-halt d desk ended in or-left _ _ (ap is_some (halt-grown d.pass q shown-grown h.0 h.1));
  }

  pub shown-tells : Tells q board (length (state_of d).made)
  shown-tells =
      subst (λ (n : ℕ). Tells q board n) (ap (λ ms. length (entries_in ms)) same-made ∙ sym (as-many d.pass))
      (tells-all q shown.fixed board shown.fixed_is holds shown.board_is all)

  one : (a b : Halt) → Some a ≡ Some b → a ≡ b
  one a b same = cc

  seen-before : (o : Option Halt) → halt_in d.pass.seen ≡ o → (h : Halt) → halt_in q.seen ≡ Some h → h.caller.0 ≡ q.caller → halt_in d.pass.seen ≡ Some h
  seen-before None none h is own = absurd ((others h none is).0 (own ∙ ap (λ (k : Known _). k.caller) turn))
  seen-before (Some first) some h is own = some ∙ ap (λ (k : Halt). Some k) (one first h (sym (halt-grown d.pass q shown-grown first some) ∙ is))

  pub desk-shown : IsDesk (record { pass = q; stop = d.stop })
  desk-shown = record {
    gateway = subst (λ (n : ℕ). (1 ≤ n) × (n ≤ 16)) (sym shown-grown.caller) desk.gateway;
    fixed = ap is_some shown-grown.fixed ∙ desk.fixed;
    holds = holds;
    no_node = λ e is. still (desk.no_node e is);
    full = λ e n l c is. later e n (desk.full e n l c is);
    stopped = λ h is own. desk.stopped h (seen-before (halt_in d.pass.seen) refl h is own) (own ∙ shown-grown.caller);
    own = λ h e is own stop. desk.own h e (seen-before (halt_in d.pass.seen) refl h is own) (own ∙ shown-grown.caller) stop;
  }
    where
      still : is_some (halt_in d.pass.seen) ≡ true → is_some (halt_in q.seen) ≡ true
      still is = by (halt_in d.pass.seen) refl is
        where
          by : (o : Option Halt) → halt_in d.pass.seen ≡ o → is_some o ≡ true → is_some (halt_in q.seen) ≡ true
          by None e none = absurd (cc)
          by (Some h) e so = ap is_some (halt-grown d.pass q shown-grown h e)

      later : (e : Event) (n : ℕ) → WasFull e n d.pass → WasFull e n q
      later e n before = record {
        seen = let there = before.seen in let more = seen-grown d.pass q shown-grown in omega (arith, there, more);
        fixed = before.fixed;
        fixed_is = shown-grown.fixed ∙ before.fixed_is;
        full = subst (λ (es : List Entry). before.fixed.capacity < n + 1 + (up (nodes_after es) + asks e))
            (sym (ap (take n) (entries-grown d.pass q shown-grown) ∙ take-append-le n (entries_in d.pass.seen) (entries_in shown-grown.rest) before.seen)) before.full;
      }

-- a pass that gives one of its block away is as it was for its desk
pub desk-less : (d : DeskNow) → IsDesk d → IsDesk (record { pass = one_less d.pass; stop = d.stop })
desk-less d desk = record {
  gateway = desk.gateway;
  fixed = desk.fixed;
  holds = desk.holds;
  no_node = desk.no_node;
  full = λ e n l c is. let f = desk.full e n l c is in record { seen = f.seen; fixed = f.fixed; fixed_is = f.fixed_is; full = f.full };
  stopped = desk.stopped;
  own = desk.own;
}
