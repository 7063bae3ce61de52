-- What later calls see of an earlier one, in a world that has the invariants, and no overlay.
use Rattle.std.specs.Prelude.{List, None, Ok, Some, [], drop, length, nat_eq, take, true, ℕ, ◌≡◌}
use Rattle.vt_spec.specs.Language.Calls.{Access, Call, TaskName, opens_for_reading, opens_for_writing}
use Rattle.vt_spec.specs.Language.Calls.Call.{OpenFile, Pread, Pwrite}
use Rattle.vt_spec.specs.Language.Calls.Creation.{Exclusive, NoCreation, OrCreate}
use Rattle.vt_spec.specs.Lists.{Fresh}
use Rattle.vt_spec.specs.Machine.Looks.{looks_of}
use Rattle.vt_spec.specs.Machine.Mounts.{Location}
use Rattle.vt_spec.specs.Machine.Rows.{new_file}
use Rattle.vt_spec.specs.Machine.Rules.Descriptors.{descriptor_numbered}
use Rattle.vt_spec.specs.Machine.Descriptors.{free_number}
use Rattle.vt_spec.specs.Language.Answers.{Answer}
use Rattle.vt_spec.specs.Language.Answers.Answer.{Bytes, Done, Opened}
use Rattle.vt_spec.specs.Machine.Policy.{policy}
use Rattle.vt_spec.specs.Machine.Run.{Serves}
use Rattle.vt_spec.specs.Machine.Walking.{Here, Place, file_walk, new_walk, object_walk}
use Rattle.vt_spec.specs.Machine.World.{Descriptor, Task, World, mount_at, node_at, task_called}
use Rattle.vt_spec.specs.Machine.Invariants.{IsWorld}
use Rattle.vt_spec.specs.Tree.{bytes_in}
use Rattle.vt_laws_worlds.specs.Worlds.Kept.{IsPlain}

-- the task's call is answered so, whatever numbers are handed to it
abbrev pub IsAnswered : World ℕ → TaskName → Call → Answer → Type 0
IsAnswered world name call answer = (fresh : Fresh ℕ) → (policy nat_eq fresh world name call).answer ≡ Ok answer

-- at two locations, on whatever mounts, the same inode is seen
abbrev pub IsOneInode : World ℕ → Location ℕ → Location ℕ → Type 0
IsOneInode world a b = ((mount_at nat_eq world a).filesystem ≡ (mount_at nat_eq world b).filesystem) × (a.node ≡ b.node)

-- Bytes that were written by a descriptor at an offset are read there, by whatever descriptor of whatever task that is
-- on the same file, and reads.
abbrev pub PwriteThenPread : Type 0
PwriteThenPread =
    (world : World ℕ) (fresh : Fresh ℕ) (name reader : TaskName) (task reading : Task ℕ) (written read : Descriptor ℕ)
    (offset : ℕ) (bytes : List ℕ)
    → IsWorld nat_eq world → IsPlain world → Serves nat_eq world fresh
    → task_called world name ≡ Some task → descriptor_numbered task written.number ≡ Some written
    → task_called world reader ≡ Some reading → descriptor_numbered reading read.number ≡ Some read
    → IsOneInode world read.location written.location → read.reads ≡ true
    → (policy nat_eq fresh world name (Pwrite written.number offset bytes)).answer ≡ Ok Done
    → IsAnswered (policy nat_eq fresh world name (Pwrite written.number offset bytes)).world reader
    (Pread read.number offset (length bytes)) (Bytes bytes)

-- the task has a descriptor with its number
abbrev pub HasDescriptor : World ℕ → TaskName → Descriptor ℕ → Type 0
HasDescriptor world name descriptor =
    (task : Task ℕ) × (task_called world name ≡ Some task)
    × (descriptor_numbered task descriptor.number ≡ Some descriptor)

-- The descriptor has the least number that is free and is on this file.
abbrev pub OpensFile : World ℕ → Fresh ℕ → TaskName → Task ℕ → Call → Location ℕ → Access → ℕ → Type 0
OpensFile world fresh name task call file access number =
    (number ≡ free_number task)
    × HasDescriptor (policy nat_eq fresh world name call).world name
    (record { number = number; location = file; reads = opens_for_reading access; writes = opens_for_writing access })

-- pread tells these bytes by it
abbrev pub ReadsBy : World ℕ → Fresh ℕ → TaskName → Call → Access → ℕ → List ℕ → Type 0
ReadsBy world fresh name call access number bytes =
    opens_for_reading access ≡ true → (offset size : ℕ)
    → IsAnswered (policy nat_eq fresh world name call).world name (Pread number offset size)
    (Bytes (take size (drop offset bytes)))

-- The descriptor that open gives has the least number that is free, and is on the file that the path led to; where it
-- reads, it reads that as it was.
abbrev pub OpenThenPread : Type 0
OpenThenPread =
    (world : World ℕ) (fresh : Fresh ℕ) (name : TaskName) (task : Task ℕ) (path : List ℕ) (access : Access) (number : ℕ)
    → IsWorld nat_eq world → IsPlain world → Serves nat_eq world fresh → task_called world name ≡ Some task
    → (policy nat_eq fresh world name (OpenFile path access NoCreation)).answer ≡ Ok (Opened number)
    → (here : Here ℕ) × (object_walk nat_eq (looks_of nat_eq world) task path ≡ Ok here)
    × OpensFile world fresh name task (OpenFile path access NoCreation) here.location access number
    × ReadsBy world fresh name (OpenFile path access NoCreation) access number
    (bytes_in (node_at nat_eq world here.location))

-- So it is with creat, where the walk of the path led to a file that is there.
abbrev pub OpenOrCreateThenPread : Type 0
OpenOrCreateThenPread =
    (world : World ℕ) (fresh : Fresh ℕ) (name : TaskName) (task : Task ℕ) (path : List ℕ) (access : Access)
    (mode number : ℕ)
    (place : Place ℕ) (file : Location ℕ)
    → IsWorld nat_eq world → IsPlain world → Serves nat_eq world fresh → task_called world name ≡ Some task
    → file_walk nat_eq (looks_of nat_eq world) task path ≡ Ok place → place.object ≡ Some file
    → (policy nat_eq fresh world name (OpenFile path access (OrCreate mode))).answer ≡ Ok (Opened number)
    → OpensFile world fresh name task (OpenFile path access (OrCreate mode)) file access number
    × ReadsBy world fresh name (OpenFile path access (OrCreate mode)) access number
    (bytes_in (node_at nat_eq world file))

-- The descriptor is on the new regular file, whose number is the first of those that were handed in, and which is
-- empty.
abbrev pub OpensNewFile : World ℕ → Fresh ℕ → TaskName → Task ℕ → Call → Place ℕ → Access → ℕ → ℕ → Type 0
OpensNewFile world fresh name task call place access mode number =
    OpensFile world fresh name task call (record { mount = place.parent.mount; node = fresh 0 }) access number
    × (node_at nat_eq (policy nat_eq fresh world name call).world
    (record { mount = place.parent.mount; node = fresh 0 })
    ≡ Some (new_file task mode []))
    × ReadsBy world fresh name call access number []

-- So it is after creat, where the walk of the path led to a missing name, and after creat with excl.
abbrev pub CreateThenPread : Type 0
CreateThenPread =
    (world : World ℕ) (fresh : Fresh ℕ) (name : TaskName) (task : Task ℕ) (path : List ℕ) (access : Access)
    (mode number : ℕ)
    (place : Place ℕ)
    → IsWorld nat_eq world → IsPlain world → Serves nat_eq world fresh → task_called world name ≡ Some task
    → file_walk nat_eq (looks_of nat_eq world) task path ≡ Ok place → place.object ≡ None
    → (policy nat_eq fresh world name (OpenFile path access (OrCreate mode))).answer ≡ Ok (Opened number)
    → OpensNewFile world fresh name task (OpenFile path access (OrCreate mode)) place access mode number

abbrev pub ExclusiveThenPread : Type 0
ExclusiveThenPread =
    (world : World ℕ) (fresh : Fresh ℕ) (name : TaskName) (task : Task ℕ) (path : List ℕ) (access : Access)
    (mode number : ℕ)
    → IsWorld nat_eq world → IsPlain world → Serves nat_eq world fresh → task_called world name ≡ Some task
    → (policy nat_eq fresh world name (OpenFile path access (Exclusive mode))).answer ≡ Ok (Opened number)
    → (place : Place ℕ) × (new_walk nat_eq (looks_of nat_eq world) task path ≡ Ok place)
    × OpensNewFile world fresh name task (OpenFile path access (Exclusive mode)) place access mode number
