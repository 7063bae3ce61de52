-- Calls of tasks of a sealed set that remove or replace directories on which mounts may stand, in the world and in the
-- part of the set (profile).
use Rattle.std.specs.Prelude.{List, Ok, Option, Some, false, nat_eq, ℕ, ◌≡◌}
use Rattle.vt_spec.specs.Language.Calls.{TaskName}
use Rattle.vt_spec.specs.Language.Calls.Call.{Rename, Rmdir}
use Rattle.vt_spec.specs.Lists.{Fresh}
use Rattle.vt_spec.specs.Machine.Judge.{judge_in}
use Rattle.vt_spec.specs.Machine.Mounts.{Location}
use Rattle.vt_spec.specs.Machine.Permits.Permit.{ToRemoveDirectory, ToRename}
use Rattle.vt_spec.specs.Machine.World.{Task, World, filesystem_at, is_overlay, task_called}
use Rattle.vt_laws_members.specs.Changes.Changes.{EndsAlike, IsCallOfTheirs}

-- Each granted rmdir(2) on a plain filesystem does in the part what it does in the world, whatever mounts stand on the
-- directory,
abbrev pub RemovalsEndAlike : Type 0
RemovalsEndAlike =
    (world : World ℕ) (names : List TaskName) (name : TaskName) (path : List ℕ)
    → IsCallOfTheirs world names name (Rmdir path) → (task : Task ℕ) → task_called world name ≡ Some task
    → (fresh other : Fresh ℕ) (parent : Location ℕ) (entry : List ℕ) (directory : Location ℕ)
    → judge_in nat_eq fresh world task (Rmdir path) ≡ Ok (ToRemoveDirectory parent entry directory)
    → is_overlay (filesystem_at nat_eq world parent) ≡ false → EndsAlike world names name (Rmdir path) fresh other

-- and so does each granted rename(2), whatever mounts stand on what it replaces.
abbrev pub ReplacementsEndAlike : Type 0
ReplacementsEndAlike =
    (world : World ℕ) (names : List TaskName) (name : TaskName) (old new : List ℕ)
    → IsCallOfTheirs world names name (Rename old new) → (task : Task ℕ) → task_called world name ≡ Some task
    → (fresh other : Fresh ℕ) (from : Location ℕ) (entry : List ℕ) (to : Location ℕ) (entry_new : List ℕ)
    (object : Location ℕ) (replaced : Option (Location ℕ))
    → judge_in nat_eq fresh world task (Rename old new) ≡ Ok (ToRename from entry to entry_new object replaced)
    → is_overlay (filesystem_at nat_eq world from) ≡ false → EndsAlike world names name (Rename old new) fresh other
