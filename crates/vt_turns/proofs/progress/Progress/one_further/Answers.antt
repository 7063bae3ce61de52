use Rattle.std.proofs.Common.{ℕ, ap, sym, ◌∙◌, arith}
use Rattle.vt_spec.specs.Machine.Turns.{Progress as Meant}
use Rattle.vt_turns.specs.ProgressValue.{progress_meant}
use Rattle.vt_turns.proofs.Holding.{all_met_held, next_met_held}
use Rattle.vt_turns.proofs.progress.Progress.one_further.Goals as goal

pub loop-filesystem-preserved : goal.loop-filesystem-preserved
loop-filesystem-preserved g c = record {
  walked = ap (λ (p : Meant ℕ). p.walked) c.in_ok-hold.ensures ∙ c.loop-filesystem.invariant.walked;
  rest = next_met_held (g.C.TakesTurns.world c.args.world.now) c.args.met.now c.loop-filesystem.filesystem-index _
      (progress_meant c.loop-filesystem.self) (progress_meant c.hold.new.self) c.loop-filesystem-test.true
      c.in_ok-hold.ensures ∙ c.loop-filesystem.invariant.rest;
}

pub returns : goal.returns
returns g c = sym (all_met_held (g.C.TakesTurns.world c.args.world.now) c.args.met.now c.loop-filesystem.filesystem-index
    (progress_meant c.loop-filesystem.self) (omega arith)) ∙ c.loop-filesystem.invariant.rest
