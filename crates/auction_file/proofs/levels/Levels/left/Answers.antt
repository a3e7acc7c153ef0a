use Rattle.std.proofs.Common.{◌≡◌, ◌<◌, length, get_or, Option, Some, sym, ap, ◌∙◌, arith}
use Rattle.std.specs.List.{HoldsAt}
use Rattle.mkt_base.specs.Book.{total_left}
use Rattle.mkt_base.specs.Priority.{is_on_level}
use Rattle.mkt_base.specs.declared.order.Order.{Order}
use Rattle.auction_file.specs.LevelList.{LevelList}
use Rattle.auction_file.proofs.LeftLemmas.{named-left, none-left, past-left}
use Rattle.auction_file.proofs.levels.Levels.left.Goals as goal

pub returns-then-level-len : goal.returns-then-level-len
returns-then-level-len c =
    let f = c.self.inside in
    sym (past-left f.count f.orders.items f.slots.items c.self.invariant c.args.side c.args.spot c.level_of-level.result c.level_of-level.ensures (omega (arith, c.if-level-len.true, c.len.ensures)))
    ∙ ap (λ (l : LevelList). total_left (is_on_level c.args.side c.args.spot) l.orders) c.self.view_is

pub returns-in-Some : goal.returns-in-Some
returns-in-Some c =
    let f = c.self.inside in
    let x = c.index-in-Some.result.now in
    ap (λ (o : Order). o.left) c.index-in-Some.ensures
    ∙ sym (named-left f.count f.orders.items f.slots.items c.self.invariant c.args.side c.args.spot c.level_of-level.result c.level_of-level.ensures c.in-Some.index c.index.result.now x
    (omega (arith, c.if-level-len.false, c.len.ensures)) (sym c.index.ensures ∙ c.in-Some.is))
    ∙ ap (λ (l : LevelList). total_left (is_on_level c.args.side c.args.spot) l.orders) c.self.view_is

pub returns-in-None : goal.returns-in-None
returns-in-None c =
    let f = c.self.inside in
    sym (none-left f.count f.orders.items f.slots.items c.self.invariant c.args.side c.args.spot c.level_of-level.result c.level_of-level.ensures c.index.result.now
    (λ j e. let same = sym c.in-None.is ∙ c.index.ensures ∙ e in absurd (cc)))
    ∙ ap (λ (l : LevelList). total_left (is_on_level c.args.side c.args.spot) l.orders) c.self.view_is
