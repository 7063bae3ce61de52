use Rattle.std.proofs.Common.{◌≤◌, ◌-◌, length, take}
use Rattle.vt_io.specs.Sink.{Wrote}
use Rattle.vt_io.proofs.writing.write_all.Given as goal

abbrev pub invariant-loop-done : goal.invariant-loop-done
invariant-loop-done g l = record {
  within : l.done ≤ length l.bytes;
  wrote : Wrote g.W.Sink l.initial.sink l.sink (take l.done l.bytes);
}

abbrev pub decreases-loop-done : goal.decreases-loop-done
decreases-loop-done g l = length l.bytes - l.done
