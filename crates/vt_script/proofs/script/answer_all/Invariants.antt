use Rattle.std.proofs.Common.{◌≡◌, ◌<◌, ◌+◌, ◌^◌, ℕ, List, [], ◌++◌}
use Rattle.vt_script.specs.Session.{lines_begun, moment, Fed}
use Rattle.vt_script.specs.SessionValue.{state_of}
use Rattle.vt_script.proofs.script.answer_all.Given as goal

abbrev pub invariant-pieces : goal.invariant-pieces
invariant-pieces g l = record {
  source_failures : g.R.Source.failures l.source ≡ g.R.Source.failures l.initial.source;
  sink_failures : g.W.Sink.failures l.sink ≡ g.W.Sink.failures l.initial.sink;
  lines : lines_begun (state_of g.C.Calls.world l.session) + g.R.Source.limit l.source < 2 ^ 64;
  source_tells : g.R.Source.tells l.initial.source → g.R.Source.tells l.source;
  read : List ℕ;
  rest : g.R.Source.tells l.initial.source → g.R.Source.rest l.initial.source ≡ read ++ g.R.Source.rest l.source;
  feeds : Fed g.W.Sink (moment (state_of g.C.Calls.world l.initial.session) []) read
      (state_of g.C.Calls.world l.session) l.initial.sink l.sink;
}

abbrev pub decreases-pieces : goal.decreases-pieces
decreases-pieces g l = g.R.Source.limit l.source
