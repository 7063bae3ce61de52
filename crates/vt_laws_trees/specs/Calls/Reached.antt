-- What a call leads to: in worlds without overlays it changes no inode but those that its paths and descriptors
-- reach. In every world roots stay.
use Rattle.std.specs.Prelude.{Bool, Err, List, None, Ok, Option, Result, Some, [], false, find, nat_eq, option_map, option_to_list, ℕ, ◌&&◌, ◌++◌, ◌∷◌, ◌≡◌, ◌⊎◌}
use Rattle.std.specs.List.{list_any}
use Rattle.vt_spec.specs.Language.Calls.{Call, TaskName}
use Rattle.vt_spec.specs.Language.Calls.Call.{Chmod, Chown, LinkTo, MakeWhiteout, Mkdir, MountPlain, Opaque, OpenFile, Pwrite, Rename, Rmdir, SymlinkAt, Unlink, Write}
use Rattle.vt_spec.specs.Language.Calls.Creation.{Exclusive, OrCreate}
use Rattle.vt_spec.specs.Lists.{Fresh, evens}
use Rattle.vt_spec.specs.Machine.Looks.{looks_of}
use Rattle.vt_spec.specs.Machine.Mounts.{Location}
use Rattle.vt_spec.specs.Machine.Policy.{policy}
use Rattle.vt_spec.specs.Machine.Rules.Descriptors.{descriptor_numbered}
use Rattle.vt_spec.specs.Machine.Walking.{Here, Place, Stop, directory_walk, file_walk, new_leaf_walk, new_walk, object_walk, old_leaf_walk, old_walk, symlink_walk}
use Rattle.vt_spec.specs.Machine.World.{Task, World, mount_at, task_called}
use Rattle.vt_laws_trees.specs.Trees.Calls.{mounts_overlay}
use Rattle.vt_laws_rules.specs.Plain.{IsPlain}
use Rattle.vt_laws_trees.specs.Trees.Settling.{inode_in}

-- Where a path leads: to an object; to a directory, to that and what has the name there, to that and what is made there
abbrev pub object_at : Result (Here ℕ) (Stop ℕ) → List (Location ℕ)
object_at (Ok here) = here.location ∷ []
object_at (Err stop) = []

abbrev pub directory_at : Result (Place ℕ) (Stop ℕ) → List (Location ℕ)
directory_at (Ok place) = place.parent ∷ []
directory_at (Err stop) = []

abbrev pub directory_and_object_at : Result (Place ℕ) (Stop ℕ) → List (Location ℕ)
directory_and_object_at (Ok place) = place.parent ∷ option_to_list place.object
directory_and_object_at (Err stop) = []

-- the first number that is handed in is that of a new inode
abbrev pub directory_and_new : Fresh ℕ → Location ℕ → List (Location ℕ)
directory_and_new fresh directory = directory ∷ record { mount = directory.mount; node = evens fresh 0 } ∷ []

abbrev pub directory_and_new_at : Fresh ℕ → Result (Place ℕ) (Stop ℕ) → List (Location ℕ)
directory_and_new_at fresh (Ok place) = directory_and_new fresh place.parent
directory_and_new_at fresh (Err stop) = []

-- write(2) changes a file that is there, open(2) does not; where none is there, both make one
abbrev pub file_or_new : Fresh ℕ → Location ℕ → Option (Location ℕ) → List (Location ℕ)
file_or_new fresh directory (Some file) = file ∷ []
file_or_new fresh directory None = directory_and_new fresh directory

abbrev pub nothing_or_new : Fresh ℕ → Location ℕ → Option (Location ℕ) → List (Location ℕ)
nothing_or_new fresh directory (Some file) = []
nothing_or_new fresh directory None = directory_and_new fresh directory

abbrev pub file_or_new_at : Fresh ℕ → Result (Place ℕ) (Stop ℕ) → List (Location ℕ)
file_or_new_at fresh (Ok place) = file_or_new fresh place.parent place.object
file_or_new_at fresh (Err stop) = []

abbrev pub nothing_or_new_at : Fresh ℕ → Result (Place ℕ) (Stop ℕ) → List (Location ℕ)
nothing_or_new_at fresh (Ok place) = nothing_or_new fresh place.parent place.object
nothing_or_new_at fresh (Err stop) = []

-- The locations that a call's paths and descriptors lead it to, through mounts and symlinks, so far as it may change
-- what is there, and that of the inode that it may make. No other call changes an inode, but for mount(2) of a tmpfs.
abbrev pub reached_by : Fresh ℕ → World ℕ → Task ℕ → Call → List (Location ℕ)
reached_by fresh world task (Write path bytes) =
    file_or_new_at fresh (file_walk nat_eq (looks_of nat_eq world) task path)
reached_by fresh world task (Mkdir path mode) =
    directory_and_new_at fresh (new_walk nat_eq (looks_of nat_eq world) task path)
reached_by fresh world task (SymlinkAt text path) =
    directory_and_new_at fresh (new_leaf_walk nat_eq (looks_of nat_eq world) task path)
reached_by fresh world task (MakeWhiteout path) =
    directory_and_new_at fresh (new_leaf_walk nat_eq (looks_of nat_eq world) task path)
reached_by fresh world task (LinkTo old new) =
    directory_at (new_leaf_walk nat_eq (looks_of nat_eq world) task new)
    ++ object_at (symlink_walk nat_eq (looks_of nat_eq world) task old)
reached_by fresh world task (Unlink path) =
    directory_and_object_at (old_leaf_walk nat_eq (looks_of nat_eq world) task path)
reached_by fresh world task (Rmdir path) = directory_and_object_at (old_walk nat_eq (looks_of nat_eq world) task path)
reached_by fresh world task (Rename old new) =
    directory_and_object_at (old_leaf_walk nat_eq (looks_of nat_eq world) task old)
    ++ directory_and_object_at (new_walk nat_eq (looks_of nat_eq world) task new)
reached_by fresh world task (Chmod path mode) = object_at (object_walk nat_eq (looks_of nat_eq world) task path)
reached_by fresh world task (Chown path uid gid) = object_at (object_walk nat_eq (looks_of nat_eq world) task path)
reached_by fresh world task (Opaque path mark) = object_at (directory_walk nat_eq (looks_of nat_eq world) task path)
reached_by fresh world task (OpenFile path access (OrCreate mode)) =
    nothing_or_new_at fresh (file_walk nat_eq (looks_of nat_eq world) task path)
reached_by fresh world task (OpenFile path access (Exclusive mode)) =
    directory_and_new_at fresh (new_walk nat_eq (looks_of nat_eq world) task path)
reached_by fresh world task (Pwrite descriptor offset bytes) =
    option_to_list (option_map (λ found. found.location) (descriptor_numbered task descriptor))
reached_by fresh world task call = []

-- the inode of a filesystem is at one of these locations, through whatever mount
abbrev pub is_at_one_of : World ℕ → ℕ → ℕ → List (Location ℕ) → Bool
is_at_one_of world filesystem number locations =
    list_any (λ location. nat_eq filesystem (mount_at nat_eq world location).filesystem && nat_eq number location.node)
    locations

-- the root of the filesystem that mount(2) of a tmpfs makes
abbrev pub is_new_root : Fresh ℕ → Call → ℕ → ℕ → Bool
is_new_root fresh (MountPlain path flags) filesystem number =
    nat_eq filesystem (evens fresh 0) && nat_eq number (evens fresh 1)
is_new_root fresh call filesystem number = false

-- A call, granted or refused, changes no inode but those: another one is as it was, or is gone.
abbrev pub CallsKeepToTheirPaths : Type 0
CallsKeepToTheirPaths =
    (fresh : Fresh ℕ) (world : World ℕ) (name : TaskName) (call : Call) (task : Task ℕ) (filesystem number : ℕ)
    → IsPlain world → mounts_overlay call ≡ false → task_called world name ≡ Some task
    → is_at_one_of world filesystem number (reached_by fresh world task call) ≡ false
    → is_new_root fresh call filesystem number ≡ false
    → (inode_in (policy nat_eq fresh world name call).world filesystem number ≡ inode_in world filesystem number)
    ⊎ (inode_in (policy nat_eq fresh world name call).world filesystem number ≡ None)

-- the root of the filesystem with a number, if there is one
abbrev pub root_in : World ℕ → ℕ → Option ℕ
root_in world number =
    option_map (λ filesystem. filesystem.files.tree.root)
    (find (λ filesystem. nat_eq number filesystem.number) world.filesystems)

-- A filesystem that is still there after a call has the root that it had.
abbrev pub RootsStay : Type 0
RootsStay =
    (fresh : Fresh ℕ) (world : World ℕ) (name : TaskName) (call : Call) (filesystem root : ℕ)
    → root_in world filesystem ≡ Some root
    → (root_in (policy nat_eq fresh world name call).world filesystem ≡ Some root)
    ⊎ (root_in (policy nat_eq fresh world name call).world filesystem ≡ None)
