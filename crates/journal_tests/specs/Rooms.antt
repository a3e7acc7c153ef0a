-- Rooms of an issue.
use Rattle.std.specs.Prelude.{◌≡◌}
use Rattle.issue_journal.specs.Issue.{Fixed, RoomView}

-- the room is for this issue
pub record IsRoomOf (room : RoomView) (fixed : Fixed) : Type 0 where
  pub terms : fixed.terms ≡ room.terms
  pub participants : fixed.participants ≡ room.participants
  pub number : fixed.issue ≡ room.issue
  pub capacity : fixed.capacity ≡ room.capacity
