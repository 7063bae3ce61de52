use Rattle.std.proofs.Common.{◌≡◌, ℕ, List, ◌+◌, ◌++◌, drop}
use Rattle.vt_io.specs.Sink.{Wrote}
use Rattle.vt_line.specs.Printing.{printed_mounts}
use Rattle.vt_line.proofs.ListingLemmas.{printed_from}
use Rattle.vt_line.proofs.listing.write_mounts.Given as goal

abbrev pub invariant-loop-line : goal.invariant-loop-line
invariant-loop-line g l = record {
  counted : l.place ≡ l.line-index;
  done : List ℕ;
  wrote : Wrote g.W.Sink l.initial.sink l.sink done;
  split : done ++ printed_from l.number (l.place + 1) (drop l.line-index l.lines) ≡ printed_mounts l.number l.lines;
}
