use Rattle.std.proofs.Common.{◌-◌, ◌≤◌, length, take}
use Rattle.std.specs.Io.KnownBytes.{Appends}
use Rattle.mkt_io.proofs.sink.write_all.Given as goal

-- the bytes up to here are written
abbrev pub invariant-loop-written : goal.invariant-loop-written
invariant-loop-written g l =
    let contents = g.O.Sink.contents in
    let faults = g.O.Sink.faults in
    record {
      within : l.written ≤ length l.bytes;
      appended : Appends (contents l.fn.sink) (contents l.sink) (take l.written l.bytes);
      count : faults l.fn.sink ≤ faults l.sink;
    }

abbrev pub decreases-loop-written : goal.decreases-loop-written
decreases-loop-written g l = length l.bytes - l.written
