use Rattle.std.proofs.Common.{◌≡◌, ◌⊎◌, length, rules, inl, inr, arith}
use Rattle.std.specs.Iterator.Adapters.{zip_first, zip_second}
use Rattle.std.specs.Vec.Iter.{into_iter_items}
use Rattle.issue_seats.proofs.CloseLemmas.{closed-with, closing-all, closing-begin, closing-pushed, may-close}
use Rattle.issue_seats.proofs.back.close_servers.Goals as goal

pub loop-server-init : goal.loop-server-init
loop-server-init g c =
    let it = c.into_iter-server-iterator.result in
    let servers : into_iter_items (zip_first it) ≡ c.args.servers.items = search rules in
    let passes : into_iter_items (zip_second it) ≡ c.args.passes.items = search rules in
    record {
      closing = closing-begin c.args.servers.items (into_iter_items (zip_first it)) c.args.passes.items (into_iter_items (zip_second it)) c.args.issues.now.items servers passes c.requires.issues.0
          (may-close c.args.servers.items c.args.passes.items c.requires.each c.requires.cells c.requires.all_back);
      room = search rules;
    }

pub loop-server-preserved : goal.loop-server-preserved
loop-server-preserved g c =
    let old = c.loop-server.server-iterator in
    let new = c.next.new.self in
    let steps = c.in-Some.ensures.steps in
    let e = c.close.ensures in
    record {
      closing = closing-pushed c.in-Some.server (into_iter_items (zip_first new)) (into_iter_items (zip_first old)) c.args.passes.items c.in-Some.pass (into_iter_items (zip_second new))
          (into_iter_items (zip_second old)) c.loop-server.issues.items c.push_reserved.new.self.items c.close.result steps.0.0 steps.1.0 c.push_reserved.ensures.items c.loop-server.invariant.closing
          (closed-with c.in-Some.pass c.close.result e.journal e.halt e.whole e.halter e.fixed e.theirs e.stands);
      room = search rules;
    }

pub returns : goal.returns
returns g c =
    let it = c.loop-server.server-iterator in
    let servers = into_iter_items (zip_first it) in
    let left = into_iter_items (zip_second it) in
    let end : (length servers ≡ 0) ⊎ (length left ≡ 0) = elim c.in-None.ensures.steps [ inl w ↦ inl (omega (arith, it.a.rest.ok, w.1.0)) | inr w ↦ inr (omega (arith, it.b.rest.ok, w.1.0)) ] in
    closing-all servers c.args.passes.items left c.loop-server.issues.items end c.loop-server.invariant.closing
