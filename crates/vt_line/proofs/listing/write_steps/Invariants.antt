use Rattle.std.proofs.Common.{take}
use Rattle.vt_io.specs.Sink.{Wrote}
use Rattle.vt_line.specs.Printing.{printed_steps}
use Rattle.vt_line.proofs.listing.write_steps.Given as goal

abbrev pub invariant-loop-name : goal.invariant-loop-name
invariant-loop-name g l = Wrote g.W.Sink l.initial.sink l.sink (printed_steps (take l.name-index l.names))
