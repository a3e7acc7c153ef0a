-- Issues that were closed with the passes in which those of all gateways had met.
use Rattle.std.proofs.Common.{◌≡◌, ◌⊎◌, ℕ, ◌<◌, ◌+◌, List, [], ◌∷◌, ◌++◌, length, slice_index_or, Some, refl, sym, subst, ◌∙◌, ⊎_elim, arith, append_assoc}
use Rattle.std.specs.List.{AllZip}
use Rattle.std.proofs.lemmas.Slice.Zip.{AllZip-long, all_zipped_more}
use mathlib.Core.Logic.{dite}
use native.Mathlib.Decide.{dec_le}
use Rattle.atomic_table.specs.Seated.{TableId}
use Rattle.turn_cell.specs.Marks.{entries_in, halt_in}
use Rattle.turn_cell.specs.Passes.{Known}
use Rattle.issue_journal.specs.Issue.{Fixed, IsIssueNow, IssueNow}
use Rattle.issue_server.specs.Meeting.{AreTheirs, IsHaltTheirs}
use Rattle.issue_server.specs.Served.{IsJournalSeen}
use Rattle.issue_desk.specs.Closed.{HasClosed}
use Rattle.issue_desk.specs.Desk.{DeskNow}
use Rattle.issue_seats.specs.Back.{AllMet, AreClosed}
use Rattle.issue_seats.proofs.ListLemmas.{nothing-left, zip-at, zip-from}

-- a server can be ended with this pass
pub record MayClose (cell : TableId) (q : Known Fixed) : Type 0 where
  pub cell_is : q.cell ≡ cell
  pub all_back : length q.met + q.block + 1 ≡ q.callers

pub may-close : (servers : List TableId) (passes : List (Known Fixed)) → length passes ≡ length servers
    → ((n : ℕ) (s : TableId) (q : Known Fixed) → n < length servers → (slice_index_or passes n q).cell ≡ slice_index_or servers n s)
    → ((n : ℕ) (q : Known Fixed) → n < length servers → length (slice_index_or passes n q).met + (slice_index_or passes n q).block + 1 ≡ (slice_index_or passes n q).callers)
    → AllZip MayClose servers passes
may-close servers passes same cells back = zip-from MayClose servers passes same (λ n s q within. record { cell_is = cells n s q within; all_back = back n q within })

-- the issue was closed with this pass, whoever has met in it
pub record ClosedWith (q : Known Fixed) (i : IssueNow) : Type 0 where
  pub closed : (gateways : ℕ) (desks : ℕ → DeskNow) (cell : TableId) → AllMet gateways desks cell q → HasClosed gateways desks q i

pub closed-with : (q : Known Fixed) (i : IssueNow) → i.entries ≡ entries_in q.seen → i.halt ≡ halt_in q.seen → IsJournalSeen q → IsHaltTheirs q → Some i.fixed ≡ q.fixed
    → AreTheirs i.entries q → IsIssueNow i → ClosedWith q i
closed-with q i entries halt whole halter fixed theirs stands = record {
  closed = λ gateways desks cell all. record {
    issue_now = stands;
    whole = whole;
    entries = entries;
    halt = halt;
    fixed = fixed;
    each = all.each;
    nobody_else = λ gateway above. theirs.nobody_else gateway (λ (zero_is : gateway ≡ 0). absurd (omega (arith, above, zero_is))) (all.nobody_else gateway above);
    halter = λ h is.
        dite (dec_le h.caller.0 gateways)
        (λ few. few)
        (λ past. absurd (halter h (sym halt ∙ is) (all.nobody_else h.caller.0 (omega arith))));
  };
}

pub are-closed : (passes : List (Known Fixed)) (issues : List IssueNow) → AllZip ClosedWith passes issues → AreClosed passes issues
are-closed passes issues all = record {
  many = AllZip-long ClosedWith passes issues all;
  each = λ n q i gateways desks cell within met. (zip-at ClosedWith passes issues all n q i within).closed gateways desks cell met;
}

-- ---- the loop over the servers

-- some servers have been ended with their passes, and these are left
pub record Closing (servers : List TableId) (all left : List (Known Fixed)) (issues : List IssueNow) : Type 0 where
  pub done : List (Known Fixed)
  pub whole : done ++ left ≡ all
  pub closed : AllZip ClosedWith done issues
  pub may : AllZip MayClose servers left

pub closing-none : (servers : List TableId) (all : List (Known Fixed)) → AllZip MayClose servers all → Closing servers all all []
closing-none servers all may = record { done = []; whole = refl; closed = tt; may = may }

pub closing-more : (s : TableId) (servers : List TableId) (all : List (Known Fixed)) (q : Known Fixed) (left : List (Known Fixed)) (issues : List IssueNow) (i : IssueNow)
    → Closing (s ∷ servers) all (q ∷ left) issues → ClosedWith q i → Closing servers all left (issues ++ i ∷ [])
closing-more s servers all q left issues i c this = record {
  done = c.done ++ q ∷ [];
  whole = append_assoc c.done (q ∷ []) left ∙ c.whole;
  closed = all_zipped_more ClosedWith c.done issues q i c.closed this;
  may = c.may.1;
}

pub closing-all : (servers : List TableId) (all left : List (Known Fixed)) (issues : List IssueNow) → (length servers ≡ 0) ⊎ (length left ≡ 0) → Closing servers all left issues → AreClosed all issues
closing-all servers all left issues end c =
    let none : length left ≡ 0 = ⊎_elim (λ (none : length servers ≡ 0). AllZip-long MayClose servers left c.may ∙ none) (λ (none : length left ≡ 0). none) end in
    are-closed all issues (subst (λ (qs : List (Known Fixed)). AllZip ClosedWith qs issues) (nothing-left c.done left all none c.whole) c.closed)

-- the lists as the loop finds them
pub closing-begin : (servers found : List TableId) (all left : List (Known Fixed)) (issues : List IssueNow) → found ≡ servers → left ≡ all → issues ≡ [] → AllZip MayClose servers all → Closing found all left issues
closing-begin servers found all left issues found_is left_is none may =
    subst (λ (ss : List TableId). Closing ss all left issues) (sym found_is)
    (subst (λ (qs : List (Known Fixed)). Closing servers all qs issues) (sym left_is)
    (subst (λ (is : List IssueNow). Closing servers all all is) (sym none) (closing-none servers all may)))

pub closing-pushed : (s : TableId) (servers old_servers : List TableId) (all : List (Known Fixed)) (q : Known Fixed) (left old_left : List (Known Fixed)) (issues new : List IssueNow) (i : IssueNow)
    → old_servers ≡ s ∷ servers → old_left ≡ q ∷ left → new ≡ issues ++ i ∷ [] → Closing old_servers all old_left issues → ClosedWith q i → Closing servers all left new
closing-pushed s servers old_servers all q left old_left issues new i servers_are left_are new_is c this =
    subst (λ (is : List IssueNow). Closing servers all left is) (sym new_is)
    (closing-more s servers all q left issues i
    (subst (λ (qs : List (Known Fixed)). Closing (s ∷ servers) all qs issues) left_are (subst (λ (ss : List TableId). Closing ss all old_left issues) servers_are c)) this)
