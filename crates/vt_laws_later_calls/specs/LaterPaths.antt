-- What later calls see at a path of an earlier one, in a world that has the invariants, and no overlay. The later call
-- is at the same path; symlinks on the way are followed, and a final one where the call follows it.
use Rattle.std.specs.Prelude.{Bool, Err, List, None, Ok, Option, Some, [], false, length, nat_eq, nat_le, true, ℕ, ◌||◌, ◌≡◌, ◌⊎◌}
use Rattle.vt_spec.specs.declared.attributes.Attr.{Attr}
use Rattle.vt_spec.specs.declared.errors.Rule.{Rule}
use Rattle.vt_spec.specs.declared.errors.Rule.TheVariants.{C1, E1, W4, W6, W8}
use Rattle.vt_spec.specs.Errors.{denial}
use Rattle.vt_spec.specs.Language.Answers.{Answer, StatLine}
use Rattle.vt_spec.specs.Language.Answers.Answer.{Bytes, Done, Names, Opened, Told}
use Rattle.vt_spec.specs.Language.Calls.{Access, Call, TaskName}
use Rattle.vt_spec.specs.Language.Calls.Call.{Chmod, Chown, LinkTo, Ls, Lstat, Mkdir, OpenFile, Read, Readlink, Rename, Rmdir, Stat, SymlinkAt, Unlink, Write}
use Rattle.vt_spec.specs.Language.Calls.Creation.{Exclusive}
use Rattle.vt_spec.specs.Language.Limits.{most_descriptors}
use Rattle.vt_spec.specs.Lists.{Fresh}
use Rattle.vt_spec.specs.Machine.Attributes.{attr_with_mode, attr_with_owner}
use Rattle.vt_spec.specs.Machine.Looks.{looks_of}
use Rattle.vt_spec.specs.Machine.Rules.Removing.{object_there}
use Rattle.vt_spec.specs.Machine.Policy.{policy}
use Rattle.vt_spec.specs.Machine.Run.{Serves}
use Rattle.vt_spec.specs.Machine.Walking.{Place, is_directory_there, new_walk, old_leaf_walk, old_walk}
use Rattle.vt_spec.specs.Machine.World.{Task, World, task_called}
use Rattle.vt_spec.specs.Machine.Invariants.{IsWorld}
use Rattle.vt_spec.specs.Rights.{Credentials, cap_dac_override, cap_dac_read_search, has_all}
use Rattle.vt_laws_worlds.specs.Worlds.Kept.{IsPlain}
use Rattle.vt_laws_later_calls.specs.Later.{IsAnswered, IsOneInode}

-- The world that a granted call leaves is so for its task, where the numbers that were handed in were not in use.
abbrev pub AfterGranted : Call → (World ℕ → TaskName → Task ℕ → Type 0) → Type 0
AfterGranted call IsSo =
    (world : World ℕ) (fresh : Fresh ℕ) (name : TaskName) (task : Task ℕ)
    → IsWorld nat_eq world → IsPlain world → Serves nat_eq world fresh → task_called world name ≡ Some task
    → (policy nat_eq fresh world name call).answer ≡ Ok Done
    → IsSo (policy nat_eq fresh world name call).world name task

-- the task's call is answered so, or refused by this rule, whatever numbers are handed to it
abbrev pub IsAnsweredUnless : Rule → World ℕ → TaskName → Call → Answer → Type 0
IsAnsweredUnless rule world name call answer =
    (fresh : Fresh ℕ)
    → ((policy nat_eq fresh world name call).answer ≡ Ok answer)
    ⊎ ((policy nat_eq fresh world name call).answer ≡ Err (denial rule))

-- it is refused by this rule
abbrev pub IsRefused : Rule → World ℕ → TaskName → Call → Type 0
IsRefused rule world name call = (fresh : Fresh ℕ) → (policy nat_eq fresh world name call).answer ≡ Err (denial rule)

-- CAP_DAC_OVERRIDE or CAP_DAC_READ_SEARCH, by which every directory may be searched and read, and every file read:
-- capabilities(7)
abbrev pub reads_all : Credentials → Bool
reads_all who = has_all who.capabilities cap_dac_override || has_all who.capabilities cap_dac_read_search

-- a task that may search and read everything, and has the root and the working directory of this one
pub record LooksFrom (world : World ℕ) (task : Task ℕ) (name : TaskName) (reading : Task ℕ) : Type 0 where
  pub called : task_called world name ≡ Some reading
  pub root : reading.root ≡ task.root
  pub directory : reading.directory ≡ task.directory
  pub all : reads_all reading.credentials ≡ true

-- each of these is answered so
abbrev pub IsSeenByAll : World ℕ → Task ℕ → Call → Answer → Type 0
IsSeenByAll world task call answer =
    (name : TaskName) (reading : Task ℕ) → LooksFrom world task name reading → IsAnswered world name call answer

-- or refused by this rule
abbrev pub IsRefusedToAll : Rule → World ℕ → Task ℕ → Call → Type 0
IsRefusedToAll rule world task call =
    (name : TaskName) (reading : Task ℕ) → LooksFrom world task name reading → IsRefused rule world name call

-- What was written at a path is read there, unless the task may write and not read. A final symlink is followed, also
-- one that led to no file yet.
abbrev pub WriteThenRead : Type 0
WriteThenRead =
    (path bytes : List ℕ)
    → AfterGranted (Write path bytes) (λ later name task.
    IsAnsweredUnless C1 later name (Read path) (Bytes bytes) × IsSeenByAll later task (Read path) (Bytes bytes))

-- A directory that was made is listed, and is empty, unless the task may not read it.
abbrev pub MkdirThenList : Type 0
MkdirThenList =
    (path : List ℕ) (mode : Option ℕ)
    → AfterGranted (Mkdir path mode) (λ later name task.
    IsAnsweredUnless C1 later name (Ls path) (Names []) × IsSeenByAll later task (Ls path) (Names []))

-- The text of a symlink that was made is told, to whoever may search the way.
abbrev pub SymlinkThenReadlink : Type 0
SymlinkThenReadlink =
    (text path : List ℕ)
    → AfterGranted (SymlinkAt text path) (λ later name task.
    IsAnswered later name (Readlink path) (Bytes text) × IsSeenByAll later task (Readlink path) (Bytes text))

-- A name that was removed is missing, whatever other names the file has, and also where the path itself led through it.
abbrev pub UnlinkThenLstat : Type 0
UnlinkThenLstat =
    (path : List ℕ)
    → AfterGranted (Unlink path) (λ later name task.
    IsRefused W6 later name (Lstat path) × IsRefusedToAll W6 later task (Lstat path))

-- refused by this rule, or by the other
abbrev pub IsRefusedBy : Rule → Rule → World ℕ → TaskName → Call → Type 0
IsRefusedBy rule other world name call =
    (fresh : Fresh ℕ)
    → ((policy nat_eq fresh world name call).answer ≡ Err (denial rule))
    ⊎ ((policy nat_eq fresh world name call).answer ≡ Err (denial other))

-- So is the name of a directory that was removed, for the task and for each that looks from where it stands. Mounts
-- that stood on the directory in other namespaces are gone. W8 may be the refusal where the working directory is the
-- one that was removed, since `..` leads nowhere from it.
abbrev pub RmdirThenLstat : Type 0
RmdirThenLstat =
    (path : List ℕ) (world : World ℕ) (fresh : Fresh ℕ) (name : TaskName) (task : Task ℕ) (place : Place ℕ)
    → IsWorld nat_eq world → IsPlain world → Serves nat_eq world fresh → task_called world name ≡ Some task
    → old_walk nat_eq (looks_of nat_eq world) task path ≡ Ok place
    → (policy nat_eq fresh world name (Rmdir path)).answer ≡ Ok Done
    → IsRefusedBy W6 W8 (policy nat_eq fresh world name (Rmdir path)).world name (Lstat path)
    × ((reader : TaskName) (reading : Task ℕ)
    → LooksFrom (policy nat_eq fresh world name (Rmdir path)).world task reader reading
    → IsRefusedBy W6 W8 (policy nat_eq fresh world name (Rmdir path)).world reader (Lstat path))
    × (¬ (IsOneInode world task.directory (object_there place))
    → IsRefused W6 (policy nat_eq fresh world name (Rmdir path)).world name (Lstat path)
    × IsRefusedToAll W6 (policy nat_eq fresh world name (Rmdir path)).world task (Lstat path))

-- A name more leads to the object that the old one leads to: all that lstat told of it before.
abbrev pub LinkThenLstat : Type 0
LinkThenLstat =
    (old new : List ℕ) (world : World ℕ) (fresh : Fresh ℕ) (name : TaskName) (task : Task ℕ)
    → IsWorld nat_eq world → IsPlain world → Serves nat_eq world fresh → task_called world name ≡ Some task
    → (policy nat_eq fresh world name (LinkTo old new)).answer ≡ Ok Done
    → (line : StatLine) × IsAnswered world name (Lstat old) (Told line)
    × IsAnswered (policy nat_eq fresh world name (LinkTo old new)).world name (Lstat new) (Told line)
    × IsSeenByAll (policy nat_eq fresh world name (LinkTo old new)).world task (Lstat new) (Told line)

-- After a granted call that sets attributes stat tells these in the place of those that it told before, and nothing
-- else has changed. Where the object is a directory on the way, the task may have lost the right to search it.
abbrev pub TellsAfter : Call → List ℕ → (Attr → Attr) → Type 0
TellsAfter call path set =
    (world : World ℕ) (fresh : Fresh ℕ) (name : TaskName) (task : Task ℕ)
    → IsWorld nat_eq world → IsPlain world → Serves nat_eq world fresh → task_called world name ≡ Some task
    → (policy nat_eq fresh world name call).answer ≡ Ok Done
    → (line : StatLine) × IsAnswered world name (Stat path) (Told line)
    × IsAnsweredUnless W4 (policy nat_eq fresh world name call).world name (Stat path)
    (Told (record line { attr = set line.attr }))
    × IsSeenByAll (policy nat_eq fresh world name call).world task (Stat path)
    (Told (record line { attr = set line.attr }))

abbrev pub ChmodThenStat : Type 0
ChmodThenStat = (path : List ℕ) (mode : ℕ) → TellsAfter (Chmod path mode) path (λ attr. attr_with_mode attr mode)

abbrev pub ChownThenStat : Type 0
ChownThenStat =
    (path : List ℕ) (uid gid : Option ℕ) → TellsAfter (Chown path uid gid) path (λ attr. attr_with_owner attr uid gid)

-- An object that is no directory and was given a name that was free has this name: lstat tells of it what it told by
-- the old one. The old name is missing. W6 is the one refusal of the new one that there may be: its path may have led
-- through the old one, a symlink.
abbrev pub RenameThenLstat : Type 0
RenameThenLstat =
    (old new : List ℕ) (world : World ℕ) (fresh : Fresh ℕ) (name : TaskName) (task : Task ℕ) (from to : Place ℕ)
    → IsWorld nat_eq world → IsPlain world → Serves nat_eq world fresh → task_called world name ≡ Some task
    → old_leaf_walk nat_eq (looks_of nat_eq world) task old ≡ Ok from
    → new_walk nat_eq (looks_of nat_eq world) task new ≡ Ok to
    → is_directory_there nat_eq (looks_of nat_eq world) from ≡ false → to.object ≡ None
    → (policy nat_eq fresh world name (Rename old new)).answer ≡ Ok Done
    → (line : StatLine) × IsAnswered world name (Lstat old) (Told line)
    × IsAnsweredUnless W6 (policy nat_eq fresh world name (Rename old new)).world name (Lstat new) (Told line)
    × IsRefused W6 (policy nat_eq fresh world name (Rename old new)).world name (Lstat old)
    × ((reader : TaskName) (reading : Task ℕ)
    → LooksFrom (policy nat_eq fresh world name (Rename old new)).world task reader reading
    → IsAnsweredUnless W6 (policy nat_eq fresh world name (Rename old new)).world reader (Lstat new) (Told line)
    × IsRefused W6 (policy nat_eq fresh world name (Rename old new)).world reader (Lstat old))

-- After a granted open with creat and excl another one of the path is refused by E1, where the task has a descriptor
-- left.
abbrev pub ExclusiveTwice : Type 0
ExclusiveTwice =
    (path : List ℕ) (world : World ℕ) (fresh : Fresh ℕ) (name : TaskName) (task : Task ℕ) (access again : Access)
    (mode other number : ℕ)
    → IsWorld nat_eq world → IsPlain world → Serves nat_eq world fresh → task_called world name ≡ Some task
    → (policy nat_eq fresh world name (OpenFile path access (Exclusive mode))).answer ≡ Ok (Opened number)
    → ((now : Task ℕ) → task_called (policy nat_eq fresh world name (OpenFile path access (Exclusive mode))).world name
    ≡ Some now
    → nat_le most_descriptors (length now.descriptors) ≡ false
    → IsRefused E1 (policy nat_eq fresh world name (OpenFile path access (Exclusive mode))).world name
    (OpenFile path again
    (Exclusive other)))
    × ((reader : TaskName) (reading : Task ℕ)
    → LooksFrom (policy nat_eq fresh world name (OpenFile path access (Exclusive mode))).world task reader reading
    → nat_le most_descriptors (length reading.descriptors) ≡ false
    → IsRefused E1 (policy nat_eq fresh world name (OpenFile path access (Exclusive mode))).world reader
    (OpenFile path again
    (Exclusive other)))
