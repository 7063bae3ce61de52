use Rattle.std.proofs.Common.{◌≡◌, ◌≤◌, length, nat_eq}
use Rattle.vt_spec.proofs.Common.{each_walked}
use Rattle.vt_tasks.specs.TaskValue.{task_of}
use Rattle.vt_layers.specs.LayersValue.{first_lowers, lowers_of}
use Rattle.vt_layers.proofs.WalkLemmas.{kept_before}
use Rattle.vt_layers.proofs.walks.lowers_walked.Given as goal

abbrev pub invariant-loop-path : goal.invariant-loop-path
invariant-loop-path g l = record {
  kept : kept_before (lowers_of l.lowers.items) (each_walked nat_eq (g.L.Look.looks l.world) (task_of l.who) l.paths)
      ≡ first_lowers (each_walked nat_eq (g.L.Look.looks l.world) (task_of l.who) l.fn.paths);
  few : length l.lowers.items ≤ 129;
}
