-- Servers of issues, and gateways at their desks before the first line.
use Rattle.std.specs.Prelude.{◌≡◌, ℕ, ◌+◌, ◌<◌, List, [], length, None, Some, slice_index_or}
use Rattle.atomic_table.specs.Seated.{TableId}
use Rattle.turn_cell.specs.Passes.{Known, first_pass}
use Rattle.issue_journal.specs.Issue.{Fixed, IssueNow}
use Rattle.gateway.specs.Ran.{GatewayNow}
use Rattle.issue_desk.specs.Desk.{DeskNow}
use Rattle.stage_play.specs.Playing.{desk_at}
use Rattle.stage_play.specs.declared.part.Part.{Part}

-- a server of each issue, and the pass of its caller 1, which has all others in its block
pub record AreServed (callers : ℕ) (issues : List IssueNow) (servers : List TableId) (passes : List (Known Fixed)) : Type 0 where
  pub servers_each : length servers ≡ length issues
  pub passes_each : length passes ≡ length issues
  pub first : (n : ℕ) (i : IssueNow) (s : TableId) (p : Known Fixed) → n < length issues
      → slice_index_or passes n p ≡ first_pass (slice_index_or servers n s) callers (slice_index_or issues n i).fixed

-- the pass of a gateway, by its place from 0, once every caller has a pass of its own: it has made nothing and seen nothing
abbrev pub at_seat : TableId → ℕ → Fixed → ℕ → Known Fixed
at_seat cell callers fixed place = record {
  cell = cell;
  caller = place + 1;
  callers = callers;
  block = 0;
  turns = 0;
  tries = 0;
  served = 0;
  ticket = 0;
  seen = [];
  made = [];
  met = [];
  fixed = Some fixed;
}

-- a gateway, by its place from 0, with a desk for each issue at which nothing was done yet
pub record IsSeated (callers : ℕ) (issues : List IssueNow) (servers : List TableId) (place : ℕ) (gateway : GatewayNow) (part : Part DeskNow) : Type 0 where
  pub gateway_is : part.gateway ≡ gateway
  pub desks : length part.desks.items ≡ length issues
  pub each : (n : ℕ) (i : IssueNow) (s : TableId) (d : DeskNow) → n < length issues
      → desk_at part n d ≡ record { pass = at_seat (slice_index_or servers n s) callers (slice_index_or issues n i).fixed place; stop = None }

-- each gateway at its desks
pub record AreSeated (issues : List IssueNow) (servers : List TableId) (gateways : List GatewayNow) (parts : List (Part DeskNow)) : Type 0 where
  pub many : length parts ≡ length gateways
  pub each : (k : ℕ) (g : GatewayNow) (p : Part DeskNow) → k < length gateways
      → IsSeated (length gateways) issues servers k (slice_index_or gateways k g) (slice_index_or parts k p)
