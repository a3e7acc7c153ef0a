-- What stands on one side of a node, in the bits of one number.
use Rattle.std.specs.Prelude.{ℕ, ◌+◌, ◌-◌, Option, Some, None, if◌then◌else◌, nat_lt}
use Rattle.order_list.specs.declared.link.Beside.{Beside}
use Rattle.order_list.specs.declared.link.Beside.TheVariants.{Neighbour, End}

-- a number below 2 ^ 31 is a link, and from there on the numbers of the lists follow
abbrev pub beside_of : ℕ → Beside
beside_of bits = if nat_lt bits 2147483648 then Neighbour bits else End (bits - 2147483648)

abbrev pub bits_of : Beside → ℕ
bits_of (Neighbour link) = link
bits_of (End list) = 2147483648 + list

-- none at the end of a list
abbrev pub link_of : Beside → Option ℕ
link_of (Neighbour link) = Some link
link_of (End list) = None
