-- What a rack in memory tells of a node, by the slot at the node's place.
use Rattle.std.specs.Prelude.{◌≡◌, ℕ, ◌+◌, ◌*◌, ◌<◌, List, Option, Some, None, slice_get, if◌then◌else◌, nat_lt}
use Rattle.mkt_base.specs.declared.units.TheConstants.{NODES}
use Rattle.memory_node.specs.Given.{Given}
use Rattle.memory_node.specs.declared.node.Label.{Label}
use Rattle.memory_node.specs.declared.slots.Slot.{Slot}
use Rattle.memory_node.specs.declared.slots.Slot.TheVariants.{Never, Out, Kept}

-- a node was not taken yet, is out, or was given back
pub data Told : Type 0 where
  Nothing : Told
  Away : Told
  Back : Given → Told

-- what a slot tells; where there is none, its node was not taken
abbrev pub told : Option Slot → Told
told None = Nothing
told (Some Never) = Nothing
told (Some Out) = Away
told (Some (Kept n)) = Back (record { contents = n.records.items; faults = n.calls.faults; most = n.most })

-- what the slot at a place tells
abbrev pub told_at : List Slot → ℕ → Told
told_at slots place = told (slice_get slots place)

-- the place of a node's slot: three for each issue
abbrev pub place_of : Label → ℕ
place_of l = 3 * l.issue + l.node

-- the node is out
abbrev pub IsOut : List Slot → Label → Type 0
IsOut slots l = (l.node < NODES) × (told_at slots (place_of l) ≡ Away)

-- what a node held that was given back
abbrev pub given_by : Told → Option Given
given_by Nothing = None
given_by Away = None
given_by (Back given) = Some given

-- what the rack tells of a node that was given back
abbrev pub given_at : List Slot → Label → Option Given
given_at slots l = if nat_lt l.node NODES then given_by (told_at slots (place_of l)) else None
