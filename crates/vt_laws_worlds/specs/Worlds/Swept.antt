-- Uses are taken away one after the other, where the invariants of mounts hold: a sweep after each, or one sweep at the
-- end. umount(2) with MNT_DETACH, _exit(2).
use Rattle.std.specs.Prelude.{List, nat_eq, ℕ, ◌≡◌}
use Rattle.vt_spec.specs.Language.Calls.{TaskName}
use Rattle.vt_spec.specs.Lists.{folded}
use Rattle.vt_spec.specs.Machine.Detach.{deepest_first, lazily_unmounted, unmounted_if_there}
use Rattle.vt_spec.specs.Machine.Invariants.{MountInvariants}
use Rattle.vt_spec.specs.Machine.Mounts.{mount_tree}
use Rattle.vt_spec.specs.Machine.Settled.{settled}
use Rattle.vt_spec.specs.Machine.World.{World, mount_numbered}
use Rattle.vt_laws_mounts.specs.LettingGo.InUse.{HasTrees, UppersArePlain}
use Rattle.vt_laws_mounts.specs.LettingGo.Leaving.{with_sweeps}
use Rattle.vt_laws_mounts.specs.LettingGo.Overlays.{RealsAreThere}
use Rattle.vt_laws_mounts.specs.LettingGo.Several.{ended_task}

-- Tasks end one after the other, the last ones of their namespaces too.
abbrev pub ExitsAreSweptOnce : Type 0
ExitsAreSweptOnce =
    (world : World ℕ) (names : List TaskName) → HasTrees world → UppersArePlain world → RealsAreThere world
    → MountInvariants nat_eq world
    → with_sweeps ended_task (settled nat_eq world) names ≡ settled nat_eq (folded ended_task world names)

-- A lazy unmount: the events that detach the mounts of the tree, each with a sweep after it or not
abbrev pub LazyUnmountsAreSweptOnce : Type 0
LazyUnmountsAreSweptOnce =
    (world : World ℕ) (number : ℕ) → HasTrees world → UppersArePlain world → RealsAreThere world
    → MountInvariants nat_eq world
    → with_sweeps (unmounted_if_there nat_eq) (settled nat_eq world)
    (deepest_first nat_eq world (mount_tree nat_eq world.mounts (mount_numbered nat_eq world number)))
    ≡ settled nat_eq (lazily_unmounted nat_eq world number)
