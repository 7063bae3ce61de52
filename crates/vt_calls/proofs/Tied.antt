-- What the world of the code judges is what the definitions judge: whether a namespace gets too many mounts does not go
-- by the task.
use Rattle.std.proofs.Common.{◌≡◌, refl, ℕ, false, nat_eq}
use Rattle.vt_spec.proofs.Common.{Call, Exclusive, MountOverlay, NoCreation, OpenFile, OrCreate, Task, judge, judge_in, judging}
use Rattle.vt_laws_trees.specs.Runs.Handed.{counts_from}
use Rattle.vt_laws_trees.specs.Trees.Calls.{mounts_overlay}
use Rattle.vt_mounting.specs.Detach.Looking.{looks_of_value, overfills_of}
use Rattle.vt_world.specs.WorldValue.{WorldValue, world_of}

pub judged_alike : (value : WorldValue) (task : Task ℕ) (call : Call) → mounts_overlay call ≡ false
    → judge nat_eq (looks_of_value value) (overfills_of value) task call
    ≡ judge_in nat_eq (counts_from value.next) (world_of value) task call
unfolding judging
judged_alike value task (MountOverlay path options flags) other = cc
judged_alike value task (OpenFile path access NoCreation) other = refl
judged_alike value task (OpenFile path access (OrCreate mode)) other = refl
judged_alike value task (OpenFile path access (Exclusive mode)) other = refl
judged_alike value task call other = refl
