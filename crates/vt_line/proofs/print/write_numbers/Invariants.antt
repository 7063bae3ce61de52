use Rattle.std.proofs.Common.{take}
use Rattle.vt_io.specs.Sink.{Wrote}
use Rattle.vt_line.specs.Printing.{printed_numbers}
use Rattle.vt_line.proofs.print.write_numbers.Given as goal

abbrev pub invariant-loop-number : goal.invariant-loop-number
invariant-loop-number g l = Wrote g.W.Sink l.initial.sink l.sink (printed_numbers (take l.number-index l.numbers))
