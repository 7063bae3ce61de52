use Rattle.std.proofs.Common.{take}
use Rattle.vt_io.specs.Sink.{Wrote}
use Rattle.vt_line.specs.Printing.{printed_further_members}
use Rattle.vt_line.proofs.peers.write_further_members.Given as goal

abbrev pub invariant-loop-other : goal.invariant-loop-other
invariant-loop-other g l = Wrote g.W.Sink l.initial.sink l.sink (printed_further_members (take l.other-index l.others))
