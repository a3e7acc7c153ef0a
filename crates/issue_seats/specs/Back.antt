-- Gateways that have left their desks: the passes of each issue meet in one, and the issue is closed with it.
use Rattle.std.specs.Prelude.{◌≡◌, ℕ, ◌+◌, ◌-◌, ◌<◌, ◌≤◌, List, length, slice_index_or}
use Rattle.atomic_table.specs.Seated.{TableId}
use Rattle.turn_cell.specs.Passes.{Known, names_in}
use Rattle.issue_journal.specs.Issue.{Fixed, IssueNow}
use Rattle.issue_desk.specs.Closed.{HasClosed, HasMet}
use Rattle.issue_desk.specs.Desk.{DeskNow, at_rest}
use Rattle.issue_seats.specs.Seats.{at_seat}
use Rattle.stage_play.specs.Playing.{desk_at}
use Rattle.stage_play.specs.declared.part.Part.{Part}

-- a gateway's desk, by the gateway's number, from 1
abbrev pub desk_by : List (Part DeskNow) → Part DeskNow → ℕ → DeskNow → ℕ → DeskNow
desk_by parts p issue d gateway = desk_at (slice_index_or parts (gateway - 1) p) issue d

-- what is fixed of a desk is still that of the gateway's seat
abbrev pub IsOfSeat : TableId → ℕ → Fixed → ℕ → DeskNow → Type 0
IsOfSeat cell callers fixed place d = at_rest d.pass ≡ at_seat cell callers fixed place

-- each gateway has a desk for each issue, at the issue's server; the issues' fixed parts by their numbers
pub record AreAtDesks (fixed : ℕ → Fixed) (servers : List TableId) (parts : List (Part DeskNow)) : Type 0 where
  pub some : 1 ≤ length parts
  pub desks : (k : ℕ) (p : Part DeskNow) → k < length parts → length (slice_index_or parts k p).desks.items ≡ length servers
  pub each : (k n : ℕ) (p : Part DeskNow) (d : DeskNow) (s : TableId) → k < length parts → n < length servers
      → IsOfSeat (slice_index_or servers n s) (length parts) (fixed n) k (desk_at (slice_index_or parts k p) n d)

-- a pass in which those of all gateways, from 1 on, have met
pub record AllMet (gateways : ℕ) (desks : ℕ → DeskNow) (cell : TableId) (final : Known Fixed) : Type 0 where
  pub cell_is : final.cell ≡ cell
  pub all_back : length final.met + final.block + 1 ≡ final.callers
  pub each : (gateway : ℕ) → 1 ≤ gateway → gateway ≤ gateways → HasMet gateway (desks gateway) final
  pub nobody_else : (gateway : ℕ) → gateways < gateway → names_in gateway final ≡ 0

-- the passes of all issues
pub record ArePassesOf (servers : List TableId) (parts : List (Part DeskNow)) (passes : List (Known Fixed)) : Type 0 where
  pub many : length passes ≡ length servers
  pub each : (n : ℕ) (p : Part DeskNow) (d : DeskNow) (s : TableId) (q : Known Fixed) → n < length servers
      → AllMet (length parts) (desk_by parts p n d) (slice_index_or servers n s) (slice_index_or passes n q)

-- the issues were closed with these passes
pub record AreClosed (passes : List (Known Fixed)) (issues : List IssueNow) : Type 0 where
  pub many : length issues ≡ length passes
  pub each : (n : ℕ) (q : Known Fixed) (i : IssueNow) (gateways : ℕ) (desks : ℕ → DeskNow) (cell : TableId) → n < length passes → AllMet gateways desks cell (slice_index_or passes n q)
      → HasClosed gateways desks (slice_index_or passes n q) (slice_index_or issues n i)
