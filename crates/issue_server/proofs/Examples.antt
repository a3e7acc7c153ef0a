-- The definitions, worked at small cases.
use Rattle.std.proofs.Common.{◌≡◌, ◌≢◌, ℕ, ◌<◌, [], arith, refl, sym}
use Rattle.std.specs.Prelude.{Some, Err}
use Rattle.atomic_table.specs.Seated.{TableId}
use Rattle.mkt_base.specs.declared.event.Event.TheVariants.{Clock, Rejoin}
use Rattle.turn_cell.specs.Passes.{Known, first_pass, tried}
use Rattle.issue_machine.specs.History.{nodes_after}
use Rattle.issue_journal.specs.Issue.{Fixed}
use Rattle.issue_journal.specs.Turned.{entry_behind}
use Rattle.issue_server.specs.Served.{GoesOnFrom, HasRoom, HasTakenTurn, HasTried, WasFull, caller_of}
use Rattle.issue_server.specs.declared.served.TryStop.TheVariants.{Busy}

module _ (cell : TableId) (fixed : Fixed) where
  abbrev first : Known Fixed
  first = first_pass cell 2 fixed

  -- a turn that neither saw nor made anything
  a-turn : HasTakenTurn first (record first { turns = 1 })
  a-turn = refl

  -- the entry of caller 1 behind no others
  a-first-entry : entry_behind [] (caller_of first) (Clock 0) ≡ record { place = 0; caller = record { 0 = 1 }; own = 0; event = Clock 0 }
  a-first-entry = refl

  -- a try that found the number 3 served, and the ticket 5
  a-failed-try : HasTried (Clock 0) (Err (Busy 3 5)) first (tried first 3 5)
  a-failed-try = ((λ is. omega (arith, is)), refl)

  -- an issue of three entries has no room for an event and the losses of three nodes, and says so by 0, 3 and 3
  full-at-once : fixed.capacity ≡ 3 → WasFull (Clock 0) 0 3 3 first (record first { turns = 1 })
  unfolding nodes_after
  full-at-once three = record {
    fixed = fixed;
    fixed_is = refl;
    found = record { between = []; whole = refl; others = refl };
    made = refl;
    running = refl;
    entries_are = refl;
    losses_are = refl;
    capacity_is = sym three;
    full = omega arith;
  }

  -- one of four entries has, but not where the event asks a node to join
  room-for-a-clock : fixed.capacity ≡ 4 → HasRoom fixed [] (Clock 0)
  unfolding nodes_after
  room-for-a-clock four = omega (arith, four)

  no-room-for-a-rejoin : fixed.capacity ≡ 4 → HasRoom fixed [] (Rejoin 0) → ⊥
  unfolding nodes_after
  no-room-for-a-rejoin four fits = omega (arith, four, fits)
