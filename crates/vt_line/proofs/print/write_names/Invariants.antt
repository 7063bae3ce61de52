use Rattle.std.proofs.Common.{take}
use Rattle.vt_io.specs.Sink.{Wrote}
use Rattle.vt_line.specs.Printing.{printed_names}
use Rattle.vt_line.proofs.print.write_names.Given as goal

abbrev pub invariant-loop-name : goal.invariant-loop-name
invariant-loop-name g l = Wrote g.W.Sink l.initial.sink l.sink (printed_names (take l.name-index l.names))
