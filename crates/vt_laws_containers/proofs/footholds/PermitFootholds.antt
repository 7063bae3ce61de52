-- Which permits give others no foothold.
use Rattle.std.specs.Prelude.{Bool, List, Ok, Some, false, nat_eq, true, ℕ, ◌≡◌}
use Rattle.vt_spec.specs.Language.Calls.{Call, TaskName}
use Rattle.vt_spec.specs.Lists.{Fresh}
use Rattle.vt_spec.specs.Machine.Judge.{judge_in}
use Rattle.vt_spec.specs.Machine.Permits.{Permit}
use Rattle.vt_spec.specs.Machine.Permits.Permit.{Allowed, ToChange, ToClose, ToEnterNamespace, ToExit, ToFork, ToList, ToListMounts, ToMake, ToOpen, ToOpenNew, ToPivot, ToRead, ToReadPart, ToRemoveDirectory, ToRename, ToSetCredentials, ToSetDirectory, ToSetFlags, ToSetRoot, ToSetUmask, ToStat, ToUnmount, ToUnmountLazily, ToWritePart}
use Rattle.vt_spec.specs.Machine.Run.{Serves}
use Rattle.vt_spec.specs.Machine.World.{Task, World, task_called}
use Rattle.vt_laws_trees.specs.Trees.Limits.{names_few_groups}
use Rattle.vt_laws_members.specs.Changes.Changes.{IsCallOfTheirs}
use Rattle.vt_laws_containers.specs.Footholds.{GivesNoFoothold}

-- A granted call of theirs gives others no foothold, if its permit is one of these.
abbrev pub GrantsGiveNoFoothold : (Permit ℕ → Bool) → Type 0
GrantsGiveNoFoothold is_one =
    (world : World ℕ) (names : List TaskName) (name : TaskName) (call : Call) → IsCallOfTheirs world names name call
    → names_few_groups call ≡ true → (fresh : Fresh ℕ) → Serves nat_eq world fresh
    → (task : Task ℕ) → task_called world name ≡ Some task
    → (permit : Permit ℕ) → judge_in nat_eq fresh world task call ≡ Ok permit → is_one permit ≡ true
    → GivesNoFoothold world names name call fresh

-- a permit to look, or to change a task, but for its namespace
abbrev pub is_of_tasks : Permit ℕ → Bool
is_of_tasks Allowed = true
is_of_tasks (ToList directory) = true
is_of_tasks (ToStat object) = true
is_of_tasks (ToRead file) = true
is_of_tasks (ToReadPart file offset size) = true
is_of_tasks ToListMounts = true
is_of_tasks (ToClose descriptor) = true
is_of_tasks (ToSetDirectory directory) = true
is_of_tasks (ToSetRoot root) = true
is_of_tasks (ToSetUmask umask) = true
is_of_tasks (ToSetCredentials credentials) = true
is_of_tasks (ToFork credentials) = true
is_of_tasks permit = false

abbrev pub TasksGiveNoFoothold : Type 0
TasksGiveNoFoothold = GrantsGiveNoFoothold is_of_tasks

-- a permit to change or to open a file, and no mount
abbrev pub is_of_files : Permit ℕ → Bool
is_of_files (ToChange location change) = true
is_of_files (ToMake directory name node) = true
is_of_files (ToOpen file access) = true
is_of_files (ToOpenNew directory name node access) = true
is_of_files (ToWritePart file offset bytes) = true
is_of_files permit = false

abbrev pub FilesGiveNoFoothold : Type 0
FilesGiveNoFoothold = GrantsGiveNoFoothold is_of_files

-- a permit to unmount, or to leave a namespace, which ends with its last task
abbrev pub is_of_detaching : Permit ℕ → Bool
is_of_detaching ToExit = true
is_of_detaching (ToEnterNamespace namespace) = true
is_of_detaching (ToUnmount mount) = true
is_of_detaching permit = false

abbrev pub DetachingGivesNoFoothold : Type 0
DetachingGivesNoFoothold = GrantsGiveNoFoothold is_of_detaching

-- a permit to set the flags of a mount, or to exchange the root mount: mount_setattr(2), pivot_root(2)
abbrev pub is_of_replacing : Permit ℕ → Bool
is_of_replacing (ToSetFlags mount flags) = true
is_of_replacing (ToPivot new put) = true
is_of_replacing permit = false

abbrev pub ReplacingGivesNoFoothold : Type 0
ReplacingGivesNoFoothold = GrantsGiveNoFoothold is_of_replacing

-- a permit to remove or to replace a directory, or to detach a mount, with all mounts that stand on it: rmdir(2),
-- rename(2), umount2(2)
abbrev pub is_of_removing : Permit ℕ → Bool
is_of_removing (ToRemoveDirectory parent name directory) = true
is_of_removing (ToRename from old to new object replaced) = true
is_of_removing (ToUnmountLazily mount) = true
is_of_removing permit = false

abbrev pub RemovingGivesNoFoothold : Type 0
RemovingGivesNoFoothold = GrantsGiveNoFoothold is_of_removing
