use Rattle.std.proofs.Common.{ℕ, List, length, sym, subst, arith}
use Rattle.atomic_table.specs.Seated.{TableId}
use Rattle.issue_seats.specs.Seats.{AreServed}
use Rattle.stage_run.specs.Played.{WereAtDesks}
use Rattle.stage_run.proofs.ClosedLemmas.{were-played}
use Rattle.stage_run.proofs.playing.play_issues.Goals as goal

pub close_servers-requires-clause-each : goal.close_servers-requires-clause-each
close_servers-requires-clause-each g c =
    let issues = c.args.issues.items in
    let many = length c.args.gateways.items in
    let passes = c.in-Ok-serve_all.serving.passes.items in
    let served = subst (λ (n : ℕ). AreServed n issues c.in-Ok-serve_all.serving.servers.items passes) c.requires.callers c.in-Ok-serve_all.ensures in
    let lent = subst (λ (ss : List TableId). AreServed many issues ss passes) (sym c.as_slice.ensures.value) served in
    let at = subst (λ (ss : List TableId). WereAtDesks c.args.script.now many issues ss c.play_at_desks.new.back.items c.play_at_desks.new.met.items) c.as_slice.ensures.value
    (c.in_ok-play_at_desks.ensures c.requires.lines.0 issues lent c.requires.lines.1) in
    at.passes_each

pub close_servers-requires-clause-cells : goal.close_servers-requires-clause-cells
close_servers-requires-clause-cells g c = λ n s q within.
    let issues = c.args.issues.items in
    let many = length c.args.gateways.items in
    let passes = c.in-Ok-serve_all.serving.passes.items in
    let served = subst (λ (n : ℕ). AreServed n issues c.in-Ok-serve_all.serving.servers.items passes) c.requires.callers c.in-Ok-serve_all.ensures in
    let lent = subst (λ (ss : List TableId). AreServed many issues ss passes) (sym c.as_slice.ensures.value) served in
    let at = subst (λ (ss : List TableId). WereAtDesks c.args.script.now many issues ss c.play_at_desks.new.back.items c.play_at_desks.new.met.items) c.as_slice.ensures.value
    (c.in_ok-play_at_desks.ensures c.requires.lines.0 issues lent c.requires.lines.1) in
    (at.met n s q (omega (arith, within, served.servers_each))).cell_is

pub close_servers-requires-clause-all_back : goal.close_servers-requires-clause-all_back
close_servers-requires-clause-all_back g c = λ n q within.
    let issues = c.args.issues.items in
    let many = length c.args.gateways.items in
    let passes = c.in-Ok-serve_all.serving.passes.items in
    let served = subst (λ (n : ℕ). AreServed n issues c.in-Ok-serve_all.serving.servers.items passes) c.requires.callers c.in-Ok-serve_all.ensures in
    let lent = subst (λ (ss : List TableId). AreServed many issues ss passes) (sym c.as_slice.ensures.value) served in
    let at = subst (λ (ss : List TableId). WereAtDesks c.args.script.now many issues ss c.play_at_desks.new.back.items c.play_at_desks.new.met.items) c.as_slice.ensures.value
    (c.in_ok-play_at_desks.ensures c.requires.lines.0 issues lent c.requires.lines.1) in
    (at.met n q.cell q (omega (arith, within, served.servers_each))).all_back

pub returns : goal.returns
returns g c =
    let issues = c.args.issues.items in
    let many = length c.args.gateways.items in
    let servers = c.in-Ok-serve_all.serving.servers.items in
    let passes = c.in-Ok-serve_all.serving.passes.items in
    let served = subst (λ (n : ℕ). AreServed n issues servers passes) c.requires.callers c.in-Ok-serve_all.ensures in
    let lent = subst (λ (ss : List TableId). AreServed many issues ss passes) (sym c.as_slice.ensures.value) served in
    let at = subst (λ (ss : List TableId). WereAtDesks c.args.script.now many issues ss c.play_at_desks.new.back.items c.play_at_desks.new.met.items) c.as_slice.ensures.value
    (c.in_ok-play_at_desks.ensures c.requires.lines.0 issues lent c.requires.lines.1) in
    were-played c.args.script.now many issues c.close_servers.new.issues.items servers c.play_at_desks.new.back.items c.play_at_desks.new.met.items served.servers_each at c.close_servers.ensures
