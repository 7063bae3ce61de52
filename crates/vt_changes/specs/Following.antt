-- How change numbers that are kept follow a call: what is gone has none.
use Rattle.std.specs.Prelude.{Bool, List, find, if◌then◌else◌, is_some, nat_eq, ℕ, ◌≡◌}
use Rattle.std.specs.List.{list_any}
use Rattle.vt_spec.specs.Language.Calls.{TaskName, same_name}
use Rattle.vt_spec.specs.Machine.Filesystems.{raised}
use Rattle.vt_spec.specs.Machine.World.{World, task_called}
use Rattle.vt_laws_turns.specs.Dated.{Dates}
use Rattle.vt_changes.specs.SeenMounts.{mounts_seen, same_all}

-- a world has a task, a namespace, a filesystem
abbrev pub has_task : World ℕ → TaskName → Bool
has_task world name = is_some (task_called world name)

abbrev pub has_namespace : World ℕ → ℕ → Bool
has_namespace world number = is_some (find (λ one. nat_eq number one.number) world.namespaces)

abbrev pub has_filesystem : World ℕ → ℕ → Bool
has_filesystem world number = is_some (find (λ one. nat_eq number one.number) world.filesystems)

-- a number that is raised, if it is to be
abbrev pub raised_if : Bool → ℕ → ℕ
raised_if changes number = if changes then raised number else number

-- a number that stays, if what has it is there
abbrev pub if_there : Bool → ℕ → ℕ
if_there exists number = if exists then number else 0

-- The numbers after a call of the task of this name that changed these filesystems, and led from the one world to the
-- other. Of tasks, a call raises or ends the caller's alone.
pub record Follows (before later : World ℕ) (name : TaskName) (changed : List ℕ) (old new : Dates) : Type 0 where
  pub tasks : (other : TaskName) → new.tasks other
      ≡ (if same_name name other then if_there (has_task later name) (raised (old.tasks other)) else old.tasks other)
  pub namespaces : (number : ℕ) → new.namespaces number
      ≡ if_there (has_namespace later number)
      (if same_all (mounts_seen before number) (mounts_seen later number) then old.namespaces number
      else raised (old.namespaces number))
  pub filesystems : (number : ℕ) → new.filesystems number
      ≡ if_there (has_filesystem later number)
      (raised_if (list_any (λ one. nat_eq one number) changed) (old.filesystems number))
