use Rattle.std.proofs.Common.{length, ◌-◌, ◌≡◌, ◌≤◌, take}
use Rattle.std.specs.Io.KnownBytes.{Appends}
use Rattle.lvdc_text.specs.Room.{RoomFalls}
use Rattle.lvdc_text.proofs.transfer.write_all.Given as goal

-- the first bytes are written, and the count of faults has not moved
abbrev pub invariant-loop-written : goal.invariant-loop-written
invariant-loop-written g l = record {
  within : l.written ≤ length l.bytes;
  appended : Appends (g.K.Sink.state l.initial.sink).written (g.K.Sink.state l.sink).written (take l.written l.bytes);
  room : RoomFalls (g.K.Sink.state l.initial.sink).room (g.K.Sink.state l.sink).room l.written;
  quiet : (g.K.Sink.state l.sink).faults ≡ (g.K.Sink.state l.initial.sink).faults;
}

abbrev pub decreases-loop-written : goal.decreases-loop-written
decreases-loop-written g l = length l.bytes - l.written
