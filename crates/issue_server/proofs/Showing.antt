-- What a turn that adds nothing says of the pass that took it.
use Rattle.std.proofs.Common.{◌≡◌, ℕ, ◌+◌, List, [], ◌++◌, length, sym, refl, ap, ◌∙◌, subst, append-nil, arith}
use Rattle.std.specs.Prelude.{Some}
use Rattle.mkt_base.specs.declared.event.Entry.{Entry}
use Rattle.mkt_base.specs.declared.quote.Board.{Board}
use Rattle.turn_cell.specs.Marks.{added_to, entries_in, halt_in, marks_in, own_mark, IsTurn}
use Rattle.turn_cell.specs.Passes.{Known, GoesOn, entered, left_with}
use Rattle.turn_cell.specs.Steps.{SeesMore}
use Rattle.turn_cell.specs.declared.value.Mark.{Mark}
use Rattle.turn_cell.proofs.Marks.{added_is, entries_in-made}
use Rattle.issue_machine.specs.Step.{board_of, state_after}
use Rattle.issue_machine.proofs.HistoryLemmas.{entries-over}
use Rattle.issue_journal.specs.Issue.{Fixed, IssueNow}
use Rattle.issue_server.specs.Meeting.{HaltsByOthers}
use Rattle.issue_server.specs.Served.{HasOnlySeen, IsBoardSeen}
use Rattle.issue_server.proofs.Meeting.{others}
use Rattle.issue_server.proofs.SeenLemmas.{journal-seen}
use Rattle.issue_server.proofs.Recording.{fixed_at, marks_at, sees-from}

-- the pass after a turn that left the marks as they were
made-same : (p : Known Fixed) (marks : List Mark) → p.made ++ own_mark (added_to marks marks) ≡ p.made
made-same p marks = ap (λ (l : List Mark). p.made ++ own_mark l) (added_is marks [] marks (sym (append-nil marks))) ∙ append-nil p.made

module _ (p q : Known Fixed) (x : IssueNow) (goes : GoesOn marks_at fixed_at p x) (is : q ≡ left_with (entered p (marks_at x)) (marks_at x)) where
  pub only-seen : HasOnlySeen p q
  only-seen =
      let to : Known Fixed → Type 0 = λ (z : Known Fixed). HasOnlySeen p z in
      let with_made : List Mark → Known Fixed = λ (made : List Mark). record p { turns = p.turns + 1; seen = marks_at x; made = made } in
      subst to (sym is) (ap with_made (made-same p (marks_at x)))

  seen-marks : q.seen ≡ marks_at x
  seen-marks = ap (λ (z : Known Fixed). z.seen) is

  seen-entries : entries_in q.seen ≡ x.entries
  seen-entries = ap entries_in seen-marks ∙ entries_in-made x.entries x.halt

  pub sees-more : SeesMore p.caller p.seen q.seen
  sees-more = subst (λ (l : List Mark). SeesMore p.caller p.seen l) (sym seen-marks) goes.more

  pub halts-seen : HaltsByOthers p q
  halts-seen =
      let to : Known Fixed → Type 0 = λ (z : Known Fixed). HaltsByOthers p z in
      subst to (sym is) (others p (left_with (entered p (marks_at x)) (marks_at x)) (sees-from p x goes) goes.own_seen goes.own)

  pub board-seen : (board : Board) → board ≡ board_of x.fixed.terms (state_after x.fixed.terms x.entries) → IsBoardSeen board q
  board-seen board b = record {
    fixed = x.fixed;
    fixed_is = ap (λ (z : Known Fixed). z.fixed) is ∙ sym goes.fixed_is;
    board_is = b ∙ ap (λ (l : List Entry). board_of x.fixed.terms (state_after x.fixed.terms l)) (sym seen-entries);
  }

  pub length-seen : (board : Board) → board ≡ board_of x.fixed.terms (state_after x.fixed.terms x.entries) → board.length ≡ length (entries_in q.seen)
  length-seen board b =
      let count : (state_after x.fixed.terms x.entries).entries ≡ 0 + length x.entries = entries-over x.fixed.terms x.entries _ in
      let all : (state_after x.fixed.terms x.entries).entries ≡ length x.entries = omega (arith, count) in
      ap (λ (z : Board). z.length) b ∙ (all ∙ ap (λ (l : List Entry). length l) (sym seen-entries))

-- ---- as the server sees it: the turn `t` was found with the issue `x`, and `z` is the issue in hand

module _ (p t : Known Fixed) (x z : IssueNow) (is : t ≡ entered p (marks_at x)) (same : z ≡ x) where
  pub show-adds : (added : List Mark) × (marks_at z ≡ t.seen ++ added) × IsTurn t.caller (length (entries_in t.made)) added
  show-adds = ([], ap marks_at same ∙ (sym (ap (λ (k : Known Fixed). k.seen) is) ∙ sym (append-nil t.seen)), tt)

  module _ (goes : GoesOn marks_at fixed_at p x) (q : Known Fixed) (left : q ≡ left_with t (marks_at z)) where
    left-same : q ≡ left_with (entered p (marks_at x)) (marks_at x)
    left-same = left ∙ (ap (λ (k : Known Fixed). left_with k (marks_at z)) is ∙ ap (λ (i : IssueNow). left_with (entered p (marks_at x)) (marks_at i)) same)

    pub show-halts : HaltsByOthers p q
    show-halts = halts-seen p q x goes left-same

    board-at : (board : Board) → board ≡ board_of z.fixed.terms (state_after z.fixed.terms z.entries) → board ≡ board_of x.fixed.terms (state_after x.fixed.terms x.entries)
    board-at board b = b ∙ ap (λ (i : IssueNow). board_of i.fixed.terms (state_after i.fixed.terms i.entries)) same

    pub show-board : (board : Board) → board ≡ board_of z.fixed.terms (state_after z.fixed.terms z.entries) → IsBoardSeen board q
    show-board board b = board-seen p q x goes left-same board (board-at board b)

    pub show-length : (board : Board) → board ≡ board_of z.fixed.terms (state_after z.fixed.terms z.entries) → board.length ≡ length (entries_in q.seen)
    show-length board b = length-seen p q x goes left-same board (board-at board b)

    pub show-whole : q.seen ≡ marks_in (entries_in q.seen) (halt_in q.seen)
    show-whole = journal-seen x.entries x.halt q.seen (ap (λ (k : Known Fixed). k.seen) left-same)
