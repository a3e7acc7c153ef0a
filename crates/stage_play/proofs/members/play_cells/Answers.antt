use Rattle.std.proofs.Common.{Bool, List, length, map, All, sym, ap, subst, ◌∙◌}
use Rattle.stage_play.specs.Blocks.{IsOf, Knows}
use Rattle.stage_play.specs.declared.blocks.Member.{Member}
use Rattle.stage_play.proofs.MemberLemmas.{all-of, all-stayed, all-went, come-in}
use Rattle.stage_play.proofs.SightLemmas.{written-back}
use Rattle.stage_play.proofs.members.play_cells.Goals as goal

pub play_each-requires-clause-come : goal.play_each-requires-clause-come
play_each-requires-clause-come g c κs within =
    let block = c.args.block.now in
    come-in g.D.Desk.state g.D.Desk.fixed g.D.SeenDesk.caller g.D.Desk.takes g.D.Desk.tells block.issues block.stage c.args.parts.items c.as_mut_slice.result.now
    (ap (λ (ms : List (Member g.row.D.Denot)). map (λ (m : Member g.row.D.Denot). m.part) ms) c.as_mut_slice.ensures.value ∙ c.enter.ensures) c.requires.come

pub was_played-played-requires-clause-left : goal.was_played-played-requires-clause-left
was_played-played-requires-clause-left g c =
    let block = c.args.block.now in
    let old = c.as_mut_slice.result.now in
    let new = c.play_each.new.members in
    let back = written-back c.enter.new.members.len c.enter.new.members.items new (c.play_each.auto.members ∙ c.as_mut_slice.ensures.len) (c.play_each.auto.members ∙ ap (λ ms. length ms) c.as_mut_slice.ensures.value) in
    subst (λ (ms : List (Member g.row.D.Denot)). All (IsOf block.go.now.id) ms) (sym (c.as_slice.ensures.value ∙ back))
    (all-of g.D.Desk.state g.D.Desk.fixed g.D.SeenDesk.caller g.D.Desk.takes g.D.Desk.tells block.issues block.width block.stage block.count block.go.now.id old new c.play_each.auto.members c.play_each.ensures)

pub returns-clause-stays : goal.returns-clause-stays
returns-clause-stays g c = λ none.
    let block = c.args.block.now in
    let old = c.as_mut_slice.result.now in
    let new = c.play_each.new.members in
    let back = written-back c.enter.new.members.len c.enter.new.members.items new (c.play_each.auto.members ∙ c.as_mut_slice.ensures.len) (c.play_each.auto.members ∙ ap (λ ms. length ms) c.as_mut_slice.ensures.value) in
    let know = c.was_played-played.ensures in
    all-stayed g.D.Desk.state g.D.Desk.fixed g.D.SeenDesk.caller g.D.Desk.takes g.D.Desk.tells block.issues block.width block.stage block.count block.go.now.id c.args.parts.items c.leave.new.parts.items old new
    (ap (λ (ms : List (Member g.row.D.Denot)). map (λ (m : Member g.row.D.Denot). m.part) ms) c.as_mut_slice.ensures.value ∙ c.enter.ensures)
    (c.leave.ensures ∙ ap (λ (ms : List (Member g.row.D.Denot)). map (λ (m : Member g.row.D.Denot). m.part) ms) back) c.play_each.auto.members c.play_each.ensures know.0
    (subst (λ (b : Bool). All (Knows b know.0) new) none (subst (λ (ms : List (Member g.row.D.Denot)). All (Knows c.was_played-played.result know.0) ms) (c.as_slice.ensures.value ∙ back) know.1))

pub returns-clause-on : goal.returns-clause-on
returns-clause-on g c = λ played.
    let block = c.args.block.now in
    let old = c.as_mut_slice.result.now in
    let new = c.play_each.new.members in
    let back = written-back c.enter.new.members.len c.enter.new.members.items new (c.play_each.auto.members ∙ c.as_mut_slice.ensures.len) (c.play_each.auto.members ∙ ap (λ ms. length ms) c.as_mut_slice.ensures.value) in
    let know = c.was_played-played.ensures in (
      know.0,
      all-went g.D.Desk.state g.D.Desk.fixed g.D.SeenDesk.caller g.D.Desk.takes g.D.Desk.tells block.issues block.width block.stage block.count block.go.now.id c.args.parts.items c.leave.new.parts.items old new
          (ap (λ (ms : List (Member g.row.D.Denot)). map (λ (m : Member g.row.D.Denot). m.part) ms) c.as_mut_slice.ensures.value ∙ c.enter.ensures)
          (c.leave.ensures ∙ ap (λ (ms : List (Member g.row.D.Denot)). map (λ (m : Member g.row.D.Denot). m.part) ms) back) c.play_each.auto.members c.play_each.ensures know.0
          (subst (λ (b : Bool). All (Knows b know.0) new) played (subst (λ (ms : List (Member g.row.D.Denot)). All (Knows c.was_played-played.result know.0) ms) (c.as_slice.ensures.value ∙ back) know.1)),
    )
