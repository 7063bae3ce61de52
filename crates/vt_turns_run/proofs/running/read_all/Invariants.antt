use Rattle.std.proofs.Common.{◌++◌, ◌≡◌}
use Rattle.vt_turns_run.proofs.running.read_all.Given as goal

abbrev pub invariant-pieces : goal.invariant-pieces
invariant-pieces g l = record {
  failures : g.R.Source.failures l.source ≡ g.R.Source.failures l.initial.source;
  tells : g.R.Source.tells l.initial.source → g.R.Source.tells l.source;
  bytes : g.R.Source.tells l.initial.source → l.all.items ++ g.R.Source.rest l.source ≡ g.R.Source.rest l.initial.source;
}

abbrev pub decreases-pieces : goal.decreases-pieces
decreases-pieces g l = g.R.Source.limit l.source
