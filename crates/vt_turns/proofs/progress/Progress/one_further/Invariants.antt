use Rattle.std.proofs.Common.{◌≡◌, drop, map, nat_eq}
use Rattle.vt_spec.specs.Machine.Turns.{one_further}
use Rattle.vt_location.specs.Numbers.{filesystem_number}
use Rattle.vt_turns.specs.ProgressValue.{progress_meant}
use Rattle.vt_turns.proofs.progress.Progress.one_further.Given as goal

abbrev pub invariant-loop-filesystem : goal.invariant-loop-filesystem
invariant-loop-filesystem g l = record {
  walked : l.self.walked ≡ l.fn.self.walked;
  rest : one_further nat_eq (g.C.TakesTurns.world l.world) (map filesystem_number (drop l.filesystem-index l.met))
      (progress_meant l.self)
      ≡ one_further nat_eq (g.C.TakesTurns.world l.world) (map filesystem_number l.met) (progress_meant l.fn.self);
}
