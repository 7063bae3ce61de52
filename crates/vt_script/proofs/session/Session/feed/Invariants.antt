use Rattle.std.proofs.Common.{◌≡◌, ◌≤◌, ◌+◌, ◌++◌, ℕ, List, length}
use Rattle.vt_script.specs.Session.{moment, lines_begun, IsReading, Fed}
use Rattle.vt_script.specs.SessionValue.{state_of}
use Rattle.vt_script.proofs.session.Session.feed.Given as goal

abbrev pub invariant-loop-line : goal.invariant-loop-line
invariant-loop-line g l = record {
  failures : g.W.Sink.failures l.sink ≡ g.W.Sink.failures l.initial.sink;
  read : List ℕ;
  split : l.bytes ≡ read ++ l.rest;
  begun : lines_begun (state_of g.C.Calls.world l.self) ≤ lines_begun
      (state_of g.C.Calls.world l.initial.self) + length read;
  feeds : (line : List ℕ) → IsReading (state_of g.C.Calls.world l.initial.self) line
      → Fed g.W.Sink (moment (state_of g.C.Calls.world l.initial.self) line) read
      (state_of g.C.Calls.world l.self) l.initial.sink l.sink;
}

abbrev pub decreases-loop-line : goal.decreases-loop-line
decreases-loop-line g l = length l.rest
