-- Worlds that are the same have the same invariants.
use Rattle.std.proofs.Common.{arith, ℕ}
use Rattle.vt_spec.proofs.Common.{World, common_steps}
use Rattle.vt_laws_mounts.proofs.letting_go.sweeps.InUse.{nothing_goes}
use Rattle.vt_laws_mounts.proofs.letting_go.sweeps.OfWorlds.{all_in_use}
use Rattle.vt_laws_trees.proofs.runs.answered.AlikeWorlds.{Alike, alike_from_same, mounts_of_one, with_mounts_of}
use Rattle.vt_laws_worlds.proofs.one_text.same.SameInUse.{in_use}
use Rattle.vt_laws_worlds.proofs.one_text.same.SameInvariants.{mounts_keep, namespaces_keep, roots_keep, tasks_keep, trees_keep}
use Rattle.vt_laws_worlds.proofs.one_text.same.SameOverlays.{overlays_keep}
use Rattle.vt_laws_worlds.specs.OneText.Same.{AnySameWorldsAreUnderWay, AnySameWorldsAreWorlds}
use Rattle.vt_laws_worlds.specs.Worlds.Kept.{IsUnderWay}

under_way_kept : (one second : World ℕ) → Alike one (with_mounts_of one second) → IsUnderWay one
    → IsUnderWay (with_mounts_of one second)
under_way_kept one second same is = record {
  files = trees_keep one second same is.files;
  mounts = mounts_keep one second same is.mounts;
  namespaces = namespaces_keep one second same is.namespaces;
  tasks = tasks_keep one second same is.tasks;
  roots = roots_keep one second same is.roots;
}

pub any_same_worlds_are_under_way : AnySameWorldsAreUnderWay
any_same_worlds_are_under_way one other same is overlays =
    let alike = alike_from_same one other same in (
      mounts_of_one (λ world. Alike one world → IsUnderWay world) one other alike
          (λ whole. under_way_kept one other whole is) alike,
      overlays_keep one other alike overlays,
    )

pub any_same_worlds_are_worlds : AnySameWorldsAreWorlds
any_same_worlds_are_worlds one other same is = grind (
  arith,
  common_steps,
  alike_from_same,
  any_same_worlds_are_under_way,
  nothing_goes,
  mounts_of_one,
  in_use,
  all_in_use,
)
