use Rattle.std.proofs.Common.{◌≡◌, ℕ, List, ◌++◌, length, flat_map}
use Rattle.vt_spec.proofs.Common.{printed_byte}
use Rattle.vt_io.specs.Sink.{Wrote}
use Rattle.vt_line.proofs.print.write_bytes.Given as goal

abbrev pub invariant-loop-byte : goal.invariant-loop-byte
invariant-loop-byte g l = (done : List ℕ) × Wrote g.W.Sink l.initial.sink l.sink done
    × (done ++ flat_map printed_byte l.rest ≡ flat_map printed_byte l.text)

abbrev pub decreases-loop-byte : goal.decreases-loop-byte
decreases-loop-byte g l = length l.rest
