use Rattle.std.proofs.Common.{ℕ, append-nil, refl, slice_index_or, subst, sym}
use Rattle.mkt_base.specs.declared.script.Act.{Act}
use Rattle.gateway.specs.Served.{Entered, Shown, TakesAct}
use Rattle.gateway.proofs.Doing.{did-at}
use Rattle.gateway.proofs.Serving.{served-board, served-event}
use Rattle.gateway.proofs.line.do_line.Goals as goal

pub submit-requires : goal.submit-requires
submit-requires g c =
    let desks = c.args.desks.now in
    let line = c.args.line.now in
    let d = c.index-desks-from.result in
    subst (λ (n : ℕ). g.D.Desk.takes (g.D.Desk.fixed (slice_index_or desks n d)) c.in-Do.event) (sym c.from.ensures)
    (subst (λ (act : Act). TakesAct g.D.Desk.takes (g.D.Desk.fixed (slice_index_or desks line.issue d)) act) c.in-Do.is (c.requires.takes d))

pub returns-in-Do-clause-did : goal.returns-in-Do-clause-did
returns-in-Do-clause-did g c =
    let desks = c.args.desks.now in
    let line = c.args.line.now in
    let shows = c.args.shows.now.items in
    let desk = slice_index_or desks c.from.result c.index-desks-from.result in (
      record { line = line; answer = Entered c.in-Do.event c.submit.result },
      refl,
      did-at g.D.Desk.state g.D.Desk.fixed g.D.Desk.tells c.args.gateway (record { line = line; answer = Entered c.in-Do.event c.submit.result }) shows shows desks
          c.from.result c.index-desks-from.result c.submit.new.self c.from.ensures c.requires.desk (sym c.in-Do.is) (sym (append-nil shows))
          (served-event g.D.Desk.state g.D.Desk.fixed g.D.Desk.tells c.in-Do.event c.submit.result desk c.submit.new.self (g.met.D.Desk.sound desk) c.submit.ensures.fixed c.submit.ensures.done c.submit.ensures.told),
    )

pub returns-in-Show-clause-did : goal.returns-in-Show-clause-did
returns-in-Show-clause-did g c =
    let desks = c.args.desks.now in
    let line = c.args.line.now in
    let shows = c.args.shows.now.items in
    let desk = slice_index_or desks c.from.result c.index-desks-from.result in (
      record { line = line; answer = Shown c.show-board.result },
      refl,
      did-at g.D.Desk.state g.D.Desk.fixed g.D.Desk.tells c.args.gateway (record { line = line; answer = Shown c.show-board.result }) shows c.push_reserved.new.self.items desks
          c.from.result c.index-desks-from.result c.show-board.new.self c.from.ensures c.requires.desk (sym c.in-Show.is) c.push_reserved.ensures.items
          (served-board g.D.Desk.state g.D.Desk.fixed g.D.Desk.tells c.show-board.result desk c.show-board.new.self c.show-board.ensures.fixed c.show-board.ensures.done c.show-board.ensures.board c.show-board.ensures.told),
    )
