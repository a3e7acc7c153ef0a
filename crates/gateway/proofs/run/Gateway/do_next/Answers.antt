use Rattle.std.proofs.Common.{◌≡◌, ◌<◌, ◌≤◌, ◌+◌, List, [], ◌∷◌, drop, length, sym, subst, arith, count_by}
use Rattle.std.proofs.lemmas.List.{length-drop}
use Rattle.std.proofs.lemmas.List.Elements.{All-head}
use Rattle.mkt_base.specs.declared.script.ScriptLine.{ScriptLine}
use Rattle.gateway.specs.Ran.{AreInStages, Deed, GatewayNow, is_show}
use Rattle.gateway.specs.Served.{act_of}
use Rattle.gateway.proofs.Lines.{from-place, room-next}
use Rattle.gateway.proofs.Pairs.{pairs-tail}
use Rattle.gateway.proofs.run.Gateway.do_next.Goals as goal

pub invariant_of-self : goal.invariant_of-self
invariant_of-self g c =
    let f = c.self.inside in
    let line = c.index-line.result.now in
    let rest = drop (f.done + 1) f.lines.items in
    let did = c.do_line.ensures.did in
    let left : 0 < length (drop f.done f.lines.items) = subst (λ (v : GatewayNow). 0 < length v.lines) (sym c.self.view_is) c.requires.next in
    let long = length-drop f.done f.lines.items in
    let within : f.done < length f.lines.items = omega (arith, left, long) in
    let from : drop f.done f.lines.items ≡ line ∷ rest = from-place f.done f.lines.items line within c.index-line.ensures in
    let asked = All-head (λ (x : Deed). act_of x.answer ≡ x.line.act) did.0 [] did.2.asked in
    let shows = f.shows.ok in
    let lines = f.lines.ok in
    let kept = c.do_line.new.shows.ok in
    let before = subst (λ (ls : List ScriptLine). length f.shows.items + count_by is_show ls ≤ f.shows.cap) from (omega (arith, shows, c.self.invariant.2)) in
    let room = room-next f.caller did.0 line rest f.shows.items c.do_line.new.shows.items f.shows.cap did.1 asked did.2.shows_kept before in
    (omega (arith, within, lines), pairs-tail (λ (a b : ScriptLine). a.stage ≤ b.stage) line rest (subst AreInStages from c.self.invariant.1), omega (arith, room, kept, c.do_line.ensures.room))
