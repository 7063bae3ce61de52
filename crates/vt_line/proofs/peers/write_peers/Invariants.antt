use Rattle.std.proofs.Common.{take}
use Rattle.vt_io.specs.Sink.{Wrote}
use Rattle.vt_line.specs.Printing.{printed_peers}
use Rattle.vt_line.proofs.peers.write_peers.Given as goal

abbrev pub invariant-loop-line : goal.invariant-loop-line
invariant-loop-line g l = Wrote g.W.Sink l.initial.sink l.sink (printed_peers l.number (take l.line-index l.lines))
