use Rattle.std.proofs.Common.{◌≡◌, ℕ, List, ◌++◌, take}
use Rattle.std.specs.List.{flat_map}
use Rattle.vt_io.specs.Sink.{Wrote}
use Rattle.vt_io.proofs.writing.write_parts.Given as goal

abbrev pub invariant-loop-part : goal.invariant-loop-part
invariant-loop-part g l = record {
  written : List ℕ;
  wrote : Wrote g.W.Sink l.initial.sink l.sink written;
  all : written ++ l.held.items ≡ flat_map (λ part. part.now) (take l.part-index l.parts);
}
