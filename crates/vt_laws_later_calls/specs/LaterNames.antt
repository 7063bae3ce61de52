-- What later calls see where a name of an object became another one, in a world that has the invariants, and no
-- overlay: by whatever path and task, if it leads to the directory that has the name.
use Rattle.std.specs.Prelude.{Bool, Contains, Err, List, None, Ok, Some, false, nat_eq, true, ℕ, ◌&&◌, ◌≡◌, ◌⊎◌}
use Rattle.vt_spec.specs.declared.errors.Rule.{Rule}
use Rattle.vt_spec.specs.declared.errors.Rule.TheVariants.{C1, W6}
use Rattle.vt_spec.specs.Errors.{denial}
use Rattle.vt_spec.specs.FileTree.{is_directory_under}
use Rattle.vt_spec.specs.Language.Answers.{Answer, StatLine}
use Rattle.vt_spec.specs.Language.Answers.Answer.{Done, Names, Told}
use Rattle.vt_spec.specs.Language.Calls.{Call, TaskName}
use Rattle.vt_spec.specs.Language.Calls.Call.{Ls, Lstat, Rename}
use Rattle.vt_spec.specs.Lists.{Fresh}
use Rattle.vt_spec.specs.Machine.Looks.{looks_of}
use Rattle.vt_spec.specs.Machine.Mounts.{Location, Mount}
use Rattle.vt_spec.specs.Machine.Rules.Removing.{is_one_object, object_there}
use Rattle.vt_spec.specs.Machine.Policy.{policy}
use Rattle.vt_spec.specs.Machine.Run.{Serves}
use Rattle.vt_spec.specs.Machine.Walking.{LastWord, Place, is_directory_there, new_walk, old_leaf_walk, place_walk}
use Rattle.vt_spec.specs.Machine.World.{Task, World, files_at, mount_at, task_called}
use Rattle.vt_spec.specs.Machine.Invariants.{IsWorld}
use Rattle.vt_spec.specs.PathText.{ends_in_slash}
use Rattle.vt_laws_worlds.specs.Worlds.Kept.{IsPlain}
use Rattle.vt_laws_later_calls.specs.Later.{IsAnswered}
use Rattle.vt_laws_later_calls.specs.LaterPaths.{IsAnsweredUnless, IsRefused, LooksFrom}

-- In a later world a path of a task leads to the directory that is at a location of an earlier one, through whatever
-- mount, and to this last word in it.
pub record LeadsToName (world later : World ℕ) (task : Task ℕ) (path : List ℕ) (directory : Location ℕ)
    (last : LastWord) : Type 0 where
  pub place : Place ℕ
  pub walked : place_walk nat_eq (looks_of nat_eq later) task path ≡ Ok place
  pub filesystem : (mount_at nat_eq later place.parent).filesystem ≡ (mount_at nat_eq world directory).filesystem
  pub node : place.parent.node ≡ directory.node
  pub last_is : place.last ≡ last

-- What holds of the two names of a granted rename, whatever has the new one: a file goes over a file, a directory over
-- an empty directory. The two names are not of one object, since then nothing is done.
abbrev pub AfterRename : (World ℕ → World ℕ → TaskName → Place ℕ → Place ℕ → List ℕ → Type 0) → Type 0
AfterRename IsSo =
    (old new : List ℕ) (world : World ℕ) (fresh : Fresh ℕ) (name : TaskName) (task : Task ℕ) (from to : Place ℕ)
    → IsWorld nat_eq world → IsPlain world → Serves nat_eq world fresh → task_called world name ≡ Some task
    → old_leaf_walk nat_eq (looks_of nat_eq world) task old ≡ Ok from
    → new_walk nat_eq (looks_of nat_eq world) task new ≡ Ok to
    → is_one_object nat_eq (looks_of nat_eq world) (object_there from) to.object ≡ false
    → (policy nat_eq fresh world name (Rename old new)).answer ≡ Ok Done
    → IsSo world (policy nat_eq fresh world name (Rename old new)).world name from to old

-- lstat tells by the new name what it told by the old one, which is missing. A slash behind a name asks for a
-- directory.
abbrev pub RenameThenFound : Type 0
RenameThenFound =
    AfterRename (λ world later name from to old.
    (line : StatLine) × IsAnswered world name (Lstat old) (Told line)
    × ((reader : TaskName) (reading : Task ℕ) (path : List ℕ) → task_called later reader ≡ Some reading
    → (LeadsToName world later reading path to.parent to.last
    → (ends_in_slash path ≡ true → is_directory_there nat_eq (looks_of nat_eq world) from ≡ true)
    → IsAnswered later reader (Lstat path) (Told line))
    × (LeadsToName world later reading path from.parent from.last → IsRefused W6 later reader (Lstat path))))

-- A directory has the names in it that it had.
abbrev pub RenameThenListed : Type 0
RenameThenListed =
    AfterRename (λ world later name from to old.
    is_directory_there nat_eq (looks_of nat_eq world) from ≡ true
    → (names : List (List ℕ)) × IsAnsweredUnless C1 world name (Ls old) (Names names)
    × ((reader : TaskName) (reading : Task ℕ) (path : List ℕ) → task_called later reader ≡ Some reading
    → LeadsToName world later reading path to.parent to.last
    → IsAnsweredUnless C1 later reader (Ls path) (Names names)))

-- a directory lies in another one: it is that, or lies under it
abbrev pub lies_in : World ℕ → Location ℕ → Location ℕ → Bool
lies_in world top here =
    nat_eq (mount_at nat_eq world here).filesystem (mount_at nat_eq world top).filesystem
    && is_directory_under nat_eq (files_at nat_eq world top) top.node here.node

-- The task stands outside of a directory: neither its root nor its working directory lies in it, nor does any mount
-- point of its namespace.
pub record StandsOutside (world : World ℕ) (task : Task ℕ) (top : Location ℕ) : Type 0 where
  pub root : lies_in world top task.root ≡ false
  pub directory : lies_in world top task.directory ≡ false
  pub points : (mount : Mount ℕ) (place : Location ℕ) → Contains world.mounts mount
      → mount.namespace ≡ Some task.namespace
      → mount.mount_point ≡ Some place → lies_in world top place ≡ false

-- A directory that was given a name that was free is found at the same path, by a task that stands outside of it, and
-- its old path is missing. W6 is the one refusal of the new path that there may be: that may have led through the old
-- name (`/a` to `/a/../b`).
abbrev pub RenameDirectoryThenLstat : Type 0
RenameDirectoryThenLstat =
    (old new : List ℕ) (world : World ℕ) (fresh : Fresh ℕ) (name : TaskName) (task : Task ℕ) (from to : Place ℕ)
    → IsWorld nat_eq world → IsPlain world → Serves nat_eq world fresh → task_called world name ≡ Some task
    → old_leaf_walk nat_eq (looks_of nat_eq world) task old ≡ Ok from
    → new_walk nat_eq (looks_of nat_eq world) task new ≡ Ok to
    → is_directory_there nat_eq (looks_of nat_eq world) from ≡ true → to.object ≡ None
    → StandsOutside world task (object_there from)
    → (policy nat_eq fresh world name (Rename old new)).answer ≡ Ok Done
    → (line : StatLine) × IsAnswered world name (Lstat old) (Told line)
    × IsAnsweredUnless W6 (policy nat_eq fresh world name (Rename old new)).world name (Lstat new) (Told line)
    × IsRefused W6 (policy nat_eq fresh world name (Rename old new)).world name (Lstat old)
    × ((reader : TaskName) (reading : Task ℕ)
    → LooksFrom (policy nat_eq fresh world name (Rename old new)).world task reader reading
    → IsAnsweredUnless W6 (policy nat_eq fresh world name (Rename old new)).world reader (Lstat new) (Told line)
    × IsRefused W6 (policy nat_eq fresh world name (Rename old new)).world reader (Lstat old))

-- the task's call is answered so, or refused by one of these rules, whatever numbers are handed to it
abbrev pub IsAnsweredUnlessBy : Rule → Rule → World ℕ → TaskName → Call → Answer → Type 0
IsAnsweredUnlessBy rule other world name call answer =
    (fresh : Fresh ℕ)
    → ((policy nat_eq fresh world name call).answer ≡ Ok answer)
    ⊎ (((policy nat_eq fresh world name call).answer ≡ Err (denial rule))
    ⊎ ((policy nat_eq fresh world name call).answer ≡ Err (denial other)))

-- What was in the directory is listed at its new path; the task may not be allowed to read it.
abbrev pub RenameDirectoryThenList : Type 0
RenameDirectoryThenList =
    (old new : List ℕ) (world : World ℕ) (fresh : Fresh ℕ) (name : TaskName) (task : Task ℕ) (from to : Place ℕ)
    → IsWorld nat_eq world → IsPlain world → Serves nat_eq world fresh → task_called world name ≡ Some task
    → old_leaf_walk nat_eq (looks_of nat_eq world) task old ≡ Ok from
    → new_walk nat_eq (looks_of nat_eq world) task new ≡ Ok to
    → is_directory_there nat_eq (looks_of nat_eq world) from ≡ true → to.object ≡ None
    → StandsOutside world task (object_there from)
    → (policy nat_eq fresh world name (Rename old new)).answer ≡ Ok Done
    → (names : List (List ℕ)) × IsAnsweredUnless C1 world name (Ls old) (Names names)
    × IsAnsweredUnlessBy C1 W6 (policy nat_eq fresh world name (Rename old new)).world name (Ls new) (Names names)
    × ((reader : TaskName) (reading : Task ℕ)
    → LooksFrom (policy nat_eq fresh world name (Rename old new)).world task reader reading
    → IsAnsweredUnless W6 (policy nat_eq fresh world name (Rename old new)).world reader (Ls new) (Names names))
