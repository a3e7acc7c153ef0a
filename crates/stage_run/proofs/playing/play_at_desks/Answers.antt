use Rattle.std.proofs.Common.{◌≡◌, ℕ, length, get_or, sym, subst, ◌∙◌, arith}
use Rattle.issue_desk.specs.Desk.{Takes, state_of}
use Rattle.stage_play.specs.Playing.{AllDone, IsReady}
use Rattle.stage_run.proofs.DoneLemmas.{has-desks, were-at-desks}
use Rattle.stage_run.proofs.ReadyLemmas.{all-ready, caller_in, rest_of, tells_of}
use Rattle.stage_run.proofs.playing.play_at_desks.Goals as goal

pub play_stages-parts-requires-clause-some : goal.play_stages-parts-requires-clause-some
play_stages-parts-requires-clause-some g c κs bounds =
    let served = c.requires.served in
    let seated = (c.in-Ok.ensures served.0 served.1).many in
    omega (arith, seated, c.requires.few.0)

pub play_stages-parts-requires-clause-ready : goal.play_stages-parts-requires-clause-ready
play_stages-parts-requires-clause-ready g c κs bounds = λ k p within.
    let served = c.requires.served in
    let stages = c.args.script.now.stages in
    let sights : length c.args.sights.now ≡ length served.0 = c.requires.sights ∙ served.1.servers_each in
    subst (λ (n : ℕ). IsReady state_of rest_of caller_in Takes tells_of n stages (get_or c.in-Ok.parts.items k p)) (sym sights)
    (all-ready served.2.0 stages c.args.script.now.lines served.0 c.args.servers.now c.args.gateways.items c.in-Ok.parts.items c.requires.stages served.2.1 served.1.servers_each c.requires.gateways (c.in-Ok.ensures served.0 served.1) k p within)

pub meet_all-requires-clause-desks : goal.meet_all-requires-clause-desks
meet_all-requires-clause-desks g c =
    let served = c.requires.served in
    let olds = c.in-Ok.parts.items in
    let news = c.play_stages-parts.result.items in
    let did = c.play_stages-parts.ensures in
    let sights : length c.args.sights.now ≡ length served.0 = c.requires.sights ∙ served.1.servers_each in
    let done = subst (λ (n : ℕ). AllDone state_of rest_of caller_in Takes tells_of n c.args.script.now.stages did.done.0 olds news) sights did.done.1 in
    has-desks served.2.0 c.args.script.now did.done.0 served.0 c.args.servers.now c.args.passes.items c.args.gateways.items olds news c.requires.few.0 (omega (arith, c.requires.some_issue, served.1.servers_each))
    served.2.1 c.requires.gateways served.1 (c.in-Ok.ensures served.0 served.1) did.many done

pub meet_all-requires-clause-gateways : goal.meet_all-requires-clause-gateways
meet_all-requires-clause-gateways g c =
    let served = c.requires.served in
    let many = c.play_stages-parts.ensures.many in
    let seated = (c.in-Ok.ensures served.0 served.1).many in
    (c.requires.back.0, omega (arith, many, seated, c.requires.back.1))

pub returns : goal.returns
returns g c = λ participants issues served lines.
    let olds = c.in-Ok.parts.items in
    let news = c.play_stages-parts.result.items in
    let did = c.play_stages-parts.ensures in
    let sights : length c.args.sights.now ≡ length issues = c.requires.sights ∙ served.servers_each in
    let done = subst (λ (n : ℕ). AllDone state_of rest_of caller_in Takes tells_of n c.args.script.now.stages did.done.0 olds news) sights did.done.1 in
    were-at-desks participants c.args.script.now did.done.0 issues c.args.servers.now c.args.passes.items c.args.gateways.items olds news c.requires.few.0 (omega (arith, c.requires.some_issue, served.servers_each))
    lines c.requires.gateways served (c.in-Ok.ensures issues served) did.many done c.meet_all.new.gateways.items c.meet_all.new.passes.items c.meet_all.ensures.gateways c.meet_all.ensures.passes
