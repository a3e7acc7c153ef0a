use Rattle.std.proofs.Common.{◌≡◌, ℕ, ◌+◌, List, length, sym, ap, subst, ◌∙◌, rules}
use Rattle.stage_play.specs.Blocks.{Advances}
use Rattle.stage_play.specs.Playing.{HasDone, IsReady}
use Rattle.stage_play.specs.declared.notes.Note.{Note}
use Rattle.stage_play.proofs.RoundLemmas.{gathered-more, rest-more, round-more}
use Rattle.stage_play.proofs.rounds.play_rounds.Goals as goal

pub play_round-requires-clause-come : goal.play_round-requires-clause-come
play_round-requires-clause-come g c =
    let come = c.requires.come in
    let inv = c.loop-turn.invariant in
    let issues : length c.loop-turn.sights ≡ length c.args.desktop.sights.items = inv.1 ∙ ap (λ xs. length xs) c.as_mut_slice-sights.ensures.value in
    record {
      old = come.old;
      stages = come.stages;
      cuts = _;
      ready = subst (λ (n : ℕ). IsReady g.D.Desk.state g.D.Desk.fixed g.D.SeenDesk.caller g.D.Desk.takes g.D.Desk.tells n come.stages come.old) (sym issues) come.ready;
      done = inv.5.to come.old come.stages come.cuts (subst (λ (n : ℕ). IsReady g.D.Desk.state g.D.Desk.fixed g.D.SeenDesk.caller g.D.Desk.takes g.D.Desk.tells n come.stages come.old) (sym issues) come.ready)
          (subst (λ (n : ℕ). HasDone g.D.Desk.state g.D.Desk.fixed g.D.SeenDesk.caller g.D.Desk.takes g.D.Desk.tells n c.args.stage come.cuts come.old c.args.part.now) (sym issues) come.done);
    }

pub loop-turn-preserved : goal.loop-turn-preserved
loop-turn-preserved g c =
    let inv = c.loop-turn.invariant in
    let new = c.play_round.new in
    let turn = c.loop-turn.turn in
    let w = length c.loop-turn.board in
    let round = c.split_at.result.0.now in
    let others = c.split_at.result.1.now in
    let did = c.play_round.ensures in
    let wide : length new.board ≡ w = c.play_round.auto.board in
    let row : length round ≡ w = c.split_at.ensures.front_len in (
      wide ∙ inv.0,
      c.play_round.auto.sights ∙ inv.1,
      rest-more turn (length others) (length c.loop-turn.rest.now) (length c.args.cells.now) w (length new.board) wide c.split_at.ensures.back_len inv.2,
      gathered-more turn w (length new.board) c.loop-turn.gathered.values new.board new.gathered.values wide did.values inv.3 wide,
      did.room ∙ inv.4,
      subst (λ (n : ℕ). Advances g.D.Desk.state g.D.Desk.fixed g.D.SeenDesk.caller g.D.Desk.takes g.D.Desk.tells n (length new.board) c.args.stage (turn + 1) new.gathered.values c.args.part.now new.part) (sym c.play_round.auto.sights)
          (subst (λ (n : ℕ). Advances g.D.Desk.state g.D.Desk.fixed g.D.SeenDesk.caller g.D.Desk.takes g.D.Desk.tells (length c.loop-turn.sights) n c.args.stage (turn + 1) new.gathered.values c.args.part.now new.part) (sym wide)
          (subst (λ (ns : List Note). Advances g.D.Desk.state g.D.Desk.fixed g.D.SeenDesk.caller g.D.Desk.takes g.D.Desk.tells (length c.loop-turn.sights) w c.args.stage (turn + 1) ns c.args.part.now new.part) (sym did.values)
          (round-more g.D.Desk.state g.D.Desk.fixed g.D.SeenDesk.caller g.D.Desk.takes g.D.Desk.tells (length c.loop-turn.sights) w c.args.stage turn c.loop-turn.gathered.values new.board c.args.part.now c.loop-turn.part new.part inv.3 inv.5
          (subst (λ (n : ℕ). Advances g.D.Desk.state g.D.Desk.fixed g.D.SeenDesk.caller g.D.Desk.takes g.D.Desk.tells (length c.loop-turn.sights) n (c.args.stage + turn) 1 new.board c.loop-turn.part new.part) row did.on)))),
    )

pub returns : goal.returns
returns g c =
    let inv = c.loop-turn.invariant in
    let issues : length c.loop-turn.sights ≡ length c.args.desktop.sights.items = inv.1 ∙ ap (λ xs. length xs) c.as_mut_slice-sights.ensures.value in
    let width : length c.loop-turn.board ≡ length c.args.desktop.board.items = inv.0 ∙ ap (λ xs. length xs) c.as_mut_slice-board.ensures.value in
    let all : c.loop-turn.turn ≡ c.args.count = search rules in
    subst (λ (n : ℕ). Advances g.D.Desk.state g.D.Desk.fixed g.D.SeenDesk.caller g.D.Desk.takes g.D.Desk.tells n (length c.args.desktop.board.items) c.args.stage c.args.count c.loop-turn.gathered.values c.args.part.now c.loop-turn.part) issues
    (subst (λ (n : ℕ). Advances g.D.Desk.state g.D.Desk.fixed g.D.SeenDesk.caller g.D.Desk.takes g.D.Desk.tells (length c.loop-turn.sights) n c.args.stage c.args.count c.loop-turn.gathered.values c.args.part.now c.loop-turn.part) width
    (subst (λ (n : ℕ). Advances g.D.Desk.state g.D.Desk.fixed g.D.SeenDesk.caller g.D.Desk.takes g.D.Desk.tells (length c.loop-turn.sights) (length c.loop-turn.board) c.args.stage n c.loop-turn.gathered.values c.args.part.now c.loop-turn.part) all inv.5))
