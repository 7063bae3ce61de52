-- What events count: numbers that are given out, and tasks that are born.
use Rattle.std.specs.Prelude.{List, Some, length, nat_eq, ℕ, ◌*◌, ◌+◌, ◌≡◌}
use Rattle.vt_world.specs.WorldValue.{WorldValue, world_of}
use Rattle.vt_spec.specs.Language.Calls.{TaskName}
use Rattle.vt_spec.specs.Machine.Attach.{parts_of}
use Rattle.vt_spec.specs.Machine.Mounts.{Location, Mount}
use Rattle.vt_spec.specs.Machine.World.{Task, mounts_of, task_called}

-- two, of a mount and of a group, for each mount of the tree at each part
abbrev pub counted_for : WorldValue → Location ℕ → List (Mount ℕ) → ℕ
counted_for value place tree = 2 * (length (parts_of nat_eq (world_of value) place) * length tree)

-- an unshare counts two for each mount of the namespace that the task leaves
abbrev pub CountsCopies : WorldValue → TaskName → WorldValue → Type 0
CountsCopies old name new =
    (task : Task ℕ) → task_called (world_of old) name ≡ Some task
    → new.next ≡ old.next + 2 * length (mounts_of nat_eq (world_of old) task.namespace)

-- no number is given out, and no task is born
pub record CountsNothing (old new : WorldValue) : Type 0 where
  pub numbers : new.next ≡ old.next
  pub births : new.births ≡ old.births

-- one task is born
pub record CountsATask (old new : WorldValue) : Type 0 where
  pub numbers : new.next ≡ old.next
  pub births : new.births ≡ old.births + 1
