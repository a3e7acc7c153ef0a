use Rattle.std.proofs.Common.{◌≡◌, ◌+◌, ◌-◌, ◌≤◌, length}
use Rattle.mkt_io.specs.Shelf.{ReadSoFar}
use Rattle.mkt_io.proofs.shelf.read_whole.Given as goal

-- the bytes so far are those of the file from its front on
abbrev pub invariant-loop-block : goal.invariant-loop-block
invariant-loop-block g l =
    let shelf = g.F.Shelf in
    record {
      within : length l.bytes.items ≤ l.limit + 1;
      same_block : length l.block ≡ 65536;
      same_names : shelf.names l.shelf ≡ shelf.names l.fn.shelf;
      same_files : shelf.files l.shelf ≡ shelf.files l.fn.shelf;
      count : shelf.faults l.fn.shelf ≤ shelf.faults l.shelf;
      so_far : ReadSoFar (shelf.files l.fn.shelf) l.name (shelf.left l.shelf) l.bytes.items;
    }

abbrev pub decreases-loop-block : goal.decreases-loop-block
decreases-loop-block g l = l.limit + 1 - length l.bytes.items
