use Rattle.std.proofs.Common.{◌≡◌, ◌<◌, ◌∙◌, List, ap, arith, get_or, length, subst, sym}
use Rattle.mkt_base.specs.declared.quote.Board.{Board}
use Rattle.mkt_base.specs.declared.script.ShowLine.{ShowLine}
use Rattle.audit.specs.Told.{IsAsked, board_at, boards_on, shown}
use Rattle.audit.specs.declared.told.Asked.{Asked}
use Rattle.audit.proofs.BoardLemmas.{board-named, board-there, issue-there, taken-more}
use Rattle.audit.proofs.shows.pick.Goals as goal

-- a read of the list
one : Asked
one = record { line = 0; gateway = record { 0 = 0 }; issue = 0; length = 0 }

pub bounds-boards-from : goal.bounds-boards-from
unfolding one
bounds-boards-from c =
    let a = get_or c.args.asked.now c.loop-a.a-index one in
    let is : IsAsked c.args.rules.now c.args.issues.now a = c.requires.asked c.loop-a.a-index one c.loop-a-test.true in
    rw (c.from.ensures, c.requires.boards) (issue-there c.args.rules.now c.args.issues.now a c.requires.each is)

pub offset_bounds-as_slice-a : goal.offset_bounds-as_slice-a
unfolding one
offset_bounds-as_slice-a c =
    let a = get_or c.args.asked.now c.loop-a.a-index one in
    let is : IsAsked c.args.rules.now c.args.issues.now a = c.requires.asked c.loop-a.a-index one c.loop-a-test.true in
    omega (arith, is.few)

pub bounds-as_slice-a : goal.bounds-as_slice-a
unfolding one
bounds-as_slice-a c =
    let a = get_or c.args.asked.now c.loop-a.a-index one in
    let is : IsAsked c.args.rules.now c.args.issues.now a = c.requires.asked c.loop-a.a-index one c.loop-a-test.true in
    let row = c.index-boards-from.result in
    let e : row ≡ get_or (boards_on c.args.rules.now 0 c.args.issues.now) a.issue row = rw (c.from.ensures, c.requires.boards) at c.index-boards-from.is in
    let P : List Board → Type 0 = λ xs. a.length < length xs in
    subst P (sym (c.as_slice.ensures ∙ e)) (board-there c.args.rules.now c.args.issues.now a c.requires.each is row)

pub loop-a-preserved : goal.loop-a-preserved
unfolding one
loop-a-preserved c =
    let said = c.args.rules.now in
    let issues = c.args.issues.now in
    let a = get_or c.args.asked.now c.loop-a.a-index one in
    let is : IsAsked said issues a = c.requires.asked c.loop-a.a-index one c.loop-a-test.true in
    let row = c.index-boards-from.result in
    let b = c.index-as_slice-a.result in
    let e : row ≡ get_or (boards_on said 0 issues) a.issue row = rw (c.from.ensures, c.requires.boards) at c.index-boards-from.is in
    let board : b ≡ board_at said issues a.issue a.length =
    c.index-as_slice-a.is ∙ ap (λ xs. get_or xs a.length b) (c.as_slice.ensures ∙ e) ∙ board-named said issues a c.requires.each is row b in
    let make : Board → ShowLine = λ b. record { line = a.line; gateway = a.gateway; issue = a.issue; board = b } in
    let item : c.show_with.result ≡ shown said issues a = c.show_with.ensures ∙ ap make board in
    taken-more (shown said issues) c.args.asked.now c.loop-a.a-index one c.loop-a-test.true c.loop-a.invariant c.in_ok-push.ensures item
