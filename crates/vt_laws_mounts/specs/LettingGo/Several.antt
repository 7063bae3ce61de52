-- Uses are taken away one after the other, with a sweep after each or with one sweep at the end: umount(2), also with
-- MNT_DETACH, mount_namespaces(7), _exit(2).
use Rattle.std.specs.Prelude.{List, [], nat_eq, true, ℕ, ◌∷◌, ◌≡◌}
use Rattle.vt_spec.specs.Language.Calls.{TaskName}
use Rattle.vt_spec.specs.Lists.{Fresh, folded}
use Rattle.vt_spec.specs.Machine.Apply.{apply}
use Rattle.vt_spec.specs.Machine.Detach.{going, taken_away, unmounted_if_there}
use Rattle.vt_spec.specs.Machine.Invariants.{MountInvariants}
use Rattle.vt_spec.specs.Machine.Mounts.{Mount}
use Rattle.vt_spec.specs.Machine.Namespaces.{namespaces_ended}
use Rattle.vt_spec.specs.Machine.Permits.Permit.{ToExit}
use Rattle.vt_spec.specs.Machine.Settled.{settled}
use Rattle.vt_spec.specs.Machine.World.{Task, World, mount_numbered, without_task}
use Rattle.vt_laws_mounts.specs.LettingGo.InUse.{HasTrees, UppersArePlain}
use Rattle.vt_laws_mounts.specs.LettingGo.Leaving.{MountsStand, comes_nowhere, with_sweeps, with_tasks}
use Rattle.vt_laws_mounts.specs.LettingGo.OneByOne.{IsPlain}
use Rattle.vt_laws_mounts.specs.LettingGo.Overlays.{RealsAreThere}

-- the invariants of mounts hold in the world and after each of these changes, one after the other
abbrev pub KeepsMounts : {A : Type 0} → (World ℕ → A → World ℕ) → World ℕ → List A → Type 0
KeepsMounts change world [] = MountInvariants nat_eq world
KeepsMounts change world (a ∷ rest) = MountInvariants nat_eq world × KeepsMounts change (change world a) rest

-- Mounts

-- Where the invariants of mounts hold, and mounts are taken away so that those that are left stand, a sweep before it
-- makes no difference after the sweep that follows it.
abbrev pub OneSweepForMounts : Type 0
OneSweepForMounts =
    (world : World ℕ) (gone : List ℕ) → IsPlain world → HasTrees world → MountInvariants nat_eq world
    → MountsStand (taken_away nat_eq world gone)
    → settled nat_eq (taken_away nat_eq (settled nat_eq world) gone) ≡ settled nat_eq (taken_away nat_eq world gone)

abbrev pub OneSweepForMountsWithOverlays : Type 0
OneSweepForMountsWithOverlays =
    (world : World ℕ) (gone : List ℕ) → HasTrees world → UppersArePlain world → RealsAreThere world
    → MountInvariants nat_eq world → MountsStand (taken_away nat_eq world gone)
    → settled nat_eq (taken_away nat_eq (settled nat_eq world) gone) ≡ settled nat_eq (taken_away nat_eq world gone)

-- So for any number of lists: in a world that is swept, mounts are taken away with a sweep after each list, or all are
-- taken away in turn, with one sweep at the end.
abbrev pub OneSweepForAllMounts : Type 0
OneSweepForAllMounts =
    (world : World ℕ) (parts : List (List ℕ)) → IsPlain world → HasTrees world
    → KeepsMounts (taken_away nat_eq) world parts
    → with_sweeps (taken_away nat_eq) (settled nat_eq world) parts
    ≡ settled nat_eq (folded (taken_away nat_eq) world parts)

abbrev pub OneSweepForAllMountsWithOverlays : Type 0
OneSweepForAllMountsWithOverlays =
    (world : World ℕ) (parts : List (List ℕ)) → HasTrees world → UppersArePlain world → RealsAreThere world
    → KeepsMounts (taken_away nat_eq) world parts
    → with_sweeps (taken_away nat_eq) (settled nat_eq world) parts
    ≡ settled nat_eq (folded (taken_away nat_eq) world parts)

-- The ends of namespaces

-- Where tasks only leave locations, and namespaces end that have no task then, a sweep before that makes no difference
-- after the sweep that follows.
abbrev pub OneSweepForEnds : Type 0
OneSweepForEnds =
    (world : World ℕ) (tasks : List (Task ℕ)) → IsPlain world → HasTrees world → MountInvariants nat_eq world
    → comes_nowhere world tasks ≡ true
    → settled nat_eq (namespaces_ended nat_eq (with_tasks (settled nat_eq world) tasks))
    ≡ settled nat_eq (namespaces_ended nat_eq (with_tasks world tasks))

abbrev pub OneSweepForEndsWithOverlays : Type 0
OneSweepForEndsWithOverlays =
    (world : World ℕ) (tasks : List (Task ℕ)) → HasTrees world → UppersArePlain world → RealsAreThere world
    → MountInvariants nat_eq world → comes_nowhere world tasks ≡ true
    → settled nat_eq (namespaces_ended nat_eq (with_tasks (settled nat_eq world) tasks))
    ≡ settled nat_eq (namespaces_ended nat_eq (with_tasks world tasks))

-- So where a task ends, the last one of its namespace too.
abbrev pub OneSweepForExits : Type 0
OneSweepForExits =
    (fresh : Fresh ℕ) (world : World ℕ) (task : Task ℕ) → IsPlain world → HasTrees world
    → MountInvariants nat_eq world
    → settled nat_eq (apply nat_eq fresh (settled nat_eq world) task ToExit).world
    ≡ settled nat_eq (apply nat_eq fresh world task ToExit).world

abbrev pub OneSweepForExitsWithOverlays : Type 0
OneSweepForExitsWithOverlays =
    (fresh : Fresh ℕ) (world : World ℕ) (task : Task ℕ) → HasTrees world → UppersArePlain world
    → RealsAreThere world → MountInvariants nat_eq world
    → settled nat_eq (apply nat_eq fresh (settled nat_eq world) task ToExit).world
    ≡ settled nat_eq (apply nat_eq fresh world task ToExit).world

-- the world in which a task ends, with its namespace if it is the last one there
abbrev pub ended_task : World ℕ → TaskName → World ℕ
ended_task world name = namespaces_ended nat_eq (without_task world name)

-- So for any number of tasks that end one after the other.
abbrev pub OneSweepForAllExits : Type 0
OneSweepForAllExits =
    (world : World ℕ) (names : List TaskName) → IsPlain world → HasTrees world
    → KeepsMounts ended_task world names
    → with_sweeps ended_task (settled nat_eq world) names ≡ settled nat_eq (folded ended_task world names)

abbrev pub OneSweepForAllExitsWithOverlays : Type 0
OneSweepForAllExitsWithOverlays =
    (world : World ℕ) (names : List TaskName) → HasTrees world → UppersArePlain world → RealsAreThere world
    → KeepsMounts ended_task world names
    → with_sweeps ended_task (settled nat_eq world) names ≡ settled nat_eq (folded ended_task world names)

-- The events of unmounts

-- Which mounts an event detaches does not depend on a sweep before it,
abbrev pub GoingIsNotSwept : Type 0
GoingIsNotSwept =
    (world : World ℕ) (number : ℕ) → MountInvariants nat_eq world
    → going nat_eq (settled nat_eq world) (mount_numbered nat_eq (settled nat_eq world) number)
    ≡ going nat_eq world (mount_numbered nat_eq world number)

-- and a sweep before it makes no difference after the sweep that follows it. A mount that an earlier event detached is
-- skipped.
abbrev pub OneSweepForEvents : Type 0
OneSweepForEvents =
    (world : World ℕ) (mount : Mount ℕ) → IsPlain world → HasTrees world → MountInvariants nat_eq world
    → MountsStand (unmounted_if_there nat_eq world mount)
    → settled nat_eq (unmounted_if_there nat_eq (settled nat_eq world) mount)
    ≡ settled nat_eq (unmounted_if_there nat_eq world mount)

abbrev pub OneSweepForEventsWithOverlays : Type 0
OneSweepForEventsWithOverlays =
    (world : World ℕ) (mount : Mount ℕ) → HasTrees world → UppersArePlain world → RealsAreThere world
    → MountInvariants nat_eq world → MountsStand (unmounted_if_there nat_eq world mount)
    → settled nat_eq (unmounted_if_there nat_eq (settled nat_eq world) mount)
    ≡ settled nat_eq (unmounted_if_there nat_eq world mount)

-- So for any number of events: those of a lazy unmount.
abbrev pub OneSweepForAllEvents : Type 0
OneSweepForAllEvents =
    (world : World ℕ) (mounts : List (Mount ℕ)) → IsPlain world → HasTrees world
    → KeepsMounts (unmounted_if_there nat_eq) world mounts
    → with_sweeps (unmounted_if_there nat_eq) (settled nat_eq world) mounts
    ≡ settled nat_eq (folded (unmounted_if_there nat_eq) world mounts)

abbrev pub OneSweepForAllEventsWithOverlays : Type 0
OneSweepForAllEventsWithOverlays =
    (world : World ℕ) (mounts : List (Mount ℕ)) → HasTrees world → UppersArePlain world → RealsAreThere world
    → KeepsMounts (unmounted_if_there nat_eq) world mounts
    → with_sweeps (unmounted_if_there nat_eq) (settled nat_eq world) mounts
    ≡ settled nat_eq (folded (unmounted_if_there nat_eq) world mounts)
