use Rattle.std.proofs.Common.{◌≡◌, length, ap, subst, sym, arith}
use Rattle.tick_grid.specs.Rows.{grid_of}
use Rattle.rules_file.specs.Issues.{IsIssue, high_end, low_end}
use Rattle.rules_file.proofs.IssueLemmas.{IsIssue-of, base_on_grid}
use Rattle.rules_file.proofs.issues.with_grid.Goals as goal

-- the base stands on the grid
pub unreachable-requires : goal.unreachable-requires
unreachable-requires c =
    let ticks = c.args.ticks.now in
    let limits = c.args.limits.now in
    let found = base_on_grid ticks limits c.args.base c.requires.base.0 c.requires.base.1 c.requires.on_tick in
    let empty = rw (c.low_end-low.ensures, c.high_end-high.ensures, c.in-Err-NoPrice.field-0-is) at (c.in-Err-NoPrice.ensures.exact) in
    let none : length (grid_of ticks (low_end limits c.args.base) (high_end limits c.args.base)) ≡ 0 = ap length empty in
    omega (arith, found.1, none)

pub returns-in-Ok-clause-sound : goal.returns-in-Ok-clause-sound
returns-in-Ok-clause-sound c =
    let ticks = c.args.ticks.now in
    let limits = c.args.limits.now in
    let grid : c.in-Ok.grid ≡ grid_of ticks (low_end limits c.args.base) (high_end limits c.args.base) = rw (← c.low_end-low.ensures, ← c.high_end-high.ensures) c.in-Ok.ensures.exact in
    subst (IsIssue ticks limits) (sym c.issue_rules.ensures.exact)
    (IsIssue-of ticks limits c.args.base c.args.unit c.in-Ok.grid c.grid_between_its_ends.ensures c.issue_rules.ensures.stands grid c.requires.base c.requires.unit c.requires.on_tick)
