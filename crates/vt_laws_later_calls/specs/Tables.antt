-- What the list of mounts tells after an unshare, in a world that has the invariants, with overlays or without:
-- unshare(2) with CLONE_NEWNS, mount_namespaces(7).
use Rattle.std.specs.Prelude.{Ok, Some, false, nat_eq, ℕ, ◌≡◌}
use Rattle.vt_spec.specs.Language.Answers.Answer.{Done}
use Rattle.vt_spec.specs.Language.Calls.{TaskName}
use Rattle.vt_spec.specs.Language.Calls.Call.{ListMounts, Unshare}
use Rattle.vt_spec.specs.Lists.{Fresh}
use Rattle.vt_spec.specs.Machine.Invariants.{IsWorld, is_listed}
use Rattle.vt_spec.specs.Machine.Policy.{policy}
use Rattle.vt_spec.specs.Machine.Run.{Serves}
use Rattle.vt_spec.specs.Machine.World.{Task, World, task_called}

-- After a granted unshare the list of mounts tells each task what it told it before: the one that called, and every
-- other one. What the namespace used that ended, if the caller was alone in it, is used by the copies.
abbrev pub UnshareThenMounts : Type 0
UnshareThenMounts =
    (world : World ℕ) (fresh later : Fresh ℕ) (name other : TaskName) → IsWorld nat_eq world
    → Serves nat_eq world fresh
    → (policy nat_eq fresh world name Unshare).answer ≡ Ok Done
    → (policy nat_eq later (policy nat_eq fresh world name Unshare).world other ListMounts).answer
    ≡ (policy nat_eq later world other ListMounts).answer

-- The caller is in a namespace then that was not there before.
abbrev pub UnshareGivesANamespace : Type 0
UnshareGivesANamespace =
    (world : World ℕ) (fresh : Fresh ℕ) (name : TaskName) (task : Task ℕ) → IsWorld nat_eq world
    → Serves nat_eq world fresh
    → (policy nat_eq fresh world name Unshare).answer ≡ Ok Done
    → task_called (policy nat_eq fresh world name Unshare).world name ≡ Some task
    → is_listed nat_eq world task.namespace ≡ false
