-- Tasks that end one after the other, the last ones of their namespaces too, or all at once: _exit(2),
-- mount_namespaces(7).
use Rattle.std.specs.Prelude.{List, nat_eq, ℕ, ◌∷◌, ◌≡◌}
use Rattle.vt_spec.specs.Language.Calls.{TaskName}
use Rattle.vt_spec.specs.Lists.{folded}
use Rattle.vt_spec.specs.Machine.Invariants.{MountInvariants}
use Rattle.vt_spec.specs.Machine.Namespaces.{namespaces_ended}
use Rattle.vt_spec.specs.Machine.Settled.{settled}
use Rattle.vt_spec.specs.Machine.World.{World, without_task}
use Rattle.vt_laws_mounts.specs.LettingGo.InUse.{HasTrees, UppersArePlain}
use Rattle.vt_laws_mounts.specs.LettingGo.Leaving.{with_sweeps}
use Rattle.vt_laws_mounts.specs.LettingGo.Overlays.{RealsAreThere}
use Rattle.vt_laws_mounts.specs.LettingGo.Several.{ended_task}

-- the world without the tasks of these names
abbrev pub without_tasks : World ℕ → List TaskName → World ℕ
without_tasks world names = folded without_task world names

-- Tasks end one after the other, and with each its namespace if it is the last one there, with a sweep after each; or
-- all are gone at once, then the namespaces end that have no task, and then it is swept: the same world is left.
abbrev pub ExitsAreAtOnce : Type 0
ExitsAreAtOnce =
    (world : World ℕ) (name : TaskName) (names : List TaskName) → HasTrees world → UppersArePlain world
    → RealsAreThere world → MountInvariants nat_eq world
    → with_sweeps ended_task (settled nat_eq world) (name ∷ names)
    ≡ settled nat_eq (namespaces_ended nat_eq (without_tasks world (name ∷ names)))
