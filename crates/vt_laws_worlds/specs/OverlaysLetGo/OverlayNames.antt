-- What loses a name in the upper layer when an overlay changes: the kernel's overlayfs document, "whiteouts and opaque
-- directories".
use Rattle.std.specs.Prelude.{Contains, List, None, Option, Some, [], nat_eq, option_to_list, true, ℕ, ◌++◌, ◌≡◌, ◌≢◌}
use Rattle.std.specs.List.{list_all}
use Rattle.vt_spec.specs.FileTree.{targets_in}
use Rattle.vt_spec.specs.Language.Calls.{Access}
use Rattle.vt_spec.specs.Language.Changes.{Change}
use Rattle.vt_spec.specs.Language.Changes.Change.{AddName, CopyUp, Make, Move, Remove, SetAttr, SetBytes, SetMark}
use Rattle.vt_spec.specs.Lists.{Fresh, is_among}
use Rattle.vt_spec.specs.Machine.Apply.{apply}
use Rattle.vt_spec.specs.Machine.CopyUp.{Merge, upper_directory_named, upper_of}
use Rattle.vt_spec.specs.Machine.Filesystems.{with_change}
use Rattle.vt_spec.specs.Machine.Mounts.{Location}
use Rattle.vt_spec.specs.Machine.Descriptors.{is_copied_up, overwritten}
use Rattle.vt_spec.specs.Machine.Permits.Permit.{ToOpen, ToWritePart}
use Rattle.vt_spec.specs.Machine.Settled.{settled}
use Rattle.vt_spec.specs.Machine.World.{Layer, Overlay, Task, World, files_at, filesystem_numbered, node_at}
use Rattle.vt_spec.specs.Machine.Invariants.{IsWorld}
use Rattle.vt_spec.specs.Tree.{bytes_in}
use Rattle.vt_spec.specs.TreeInvariant.{entry_at}
use Rattle.vt_laws_trees.specs.Layers.Layers.ChangesUpper.{copied_for}
use Rattle.vt_laws_mounts.specs.LettingGo.FileChanges.{names_lost}
use Rattle.vt_laws_worlds.specs.OverlaysLetGo.OverlayCalls.{is_on_mount}
use Rattle.vt_laws_worlds.specs.OverlaysLetGo.OverlayChanges.{CanChange, merge_after, merge_at, unnamed_by}

-- what a name of the overlay leads to in the upper layer, if it leads to something there
abbrev pub under_name : Merge ℕ → ℕ → List ℕ → List ℕ
under_name merge directory name = option_to_list (entry_at merge.upper.tree (upper_of merge directory) name)

-- all that the names in a directory of the upper layer lead to
abbrev pub names_under : Merge ℕ → Option ℕ → List ℕ
names_under merge None = []
names_under merge (Some directory) = targets_in (merge.upper.tree.node directory)

-- What has a name that a change gives, removes or leaves, and the whiteouts in a directory that is removed or replaced,
-- where all that the change asks for is copied.
abbrev pub upper_names_lost : Merge ℕ → Change ℕ → List ℕ
upper_names_lost merge (Make directory name number node) = under_name merge directory name
upper_names_lost merge (AddName directory name object) = under_name merge directory name
upper_names_lost merge (Remove directory name object) =
    under_name merge directory name ++ names_under merge (upper_directory_named merge directory name)
upper_names_lost merge (Move from old to new object) =
    under_name merge from old ++ under_name merge to new ++ names_under merge (upper_directory_named merge to new)
upper_names_lost merge (SetBytes file bytes) = []
upper_names_lost merge (SetAttr object attr) = []
upper_names_lost merge (SetMark directory opaque) = []
upper_names_lost merge (CopyUp object) = []

-- Of the filesystem of the upper layer no other inode loses its last name: a copy takes no name away.
abbrev pub OnlyTheseLoseNames : Type 0
OnlyTheseLoseNames =
    (fresh : Fresh ℕ) (world : World ℕ) (location : Location ℕ) (change : Change ℕ) (overlay : Overlay ℕ)
    (upper : Layer ℕ)
    → IsWorld nat_eq world → CanChange fresh world location change overlay upper
    → list_all (λ inode.
    is_among nat_eq inode (upper_names_lost (copied_for fresh (merge_at world location overlay upper) change) change))
    (unnamed_by (filesystem_numbered nat_eq world upper.filesystem).files
    (merge_after fresh world location overlay upper change).upper)
    ≡ true

-- Where a change gives, removes and leaves no name that something had, in the overlay or in its upper layer, nothing
-- goes: write(2), chmod(2), chown(2), a copy, and mkdir(2) where no whiteout was.
abbrev pub OverlayChangesKeepAll : Type 0
OverlayChangesKeepAll =
    (fresh : Fresh ℕ) (world : World ℕ) (location : Location ℕ) (change : Change ℕ) (overlay : Overlay ℕ)
    (upper : Layer ℕ)
    → IsWorld nat_eq world → CanChange fresh world location change overlay upper
    → names_lost (files_at nat_eq world location) change ≡ []
    → upper_names_lost (copied_for fresh (merge_at world location overlay upper) change) change ≡ []
    → settled nat_eq (with_change nat_eq fresh world location change) ≡ with_change nat_eq fresh world location change

-- So nothing goes with a write of a part of a file, or of nothing: pwrite(2).
abbrev pub WrittenPartsInOverlaysKeepAll : Type 0
WrittenPartsInOverlaysKeepAll =
    (fresh : Fresh ℕ) (world : World ℕ) (task : Task ℕ) (file : Location ℕ) (offset : ℕ) (bytes : List ℕ)
    (overlay : Overlay ℕ) (upper : Layer ℕ) → IsWorld nat_eq world
    → (bytes ≢ [] → CanChange fresh world file
    (SetBytes file.node (overwritten offset bytes (bytes_in (node_at nat_eq world file)))) overlay upper)
    → settled nat_eq (apply nat_eq fresh world task (ToWritePart file offset bytes)).world
    ≡ (apply nat_eq fresh world task (ToWritePart file offset bytes)).world

-- Nor does anything with open(2) of a file that is copied up, by a task of the world.
abbrev pub OpenedCopiesKeepAll : Type 0
OpenedCopiesKeepAll =
    (fresh : Fresh ℕ) (world : World ℕ) (task : Task ℕ) (file : Location ℕ) (access : Access) (overlay : Overlay ℕ)
    (upper : Layer ℕ) → IsWorld nat_eq world → Contains world.tasks task → is_on_mount world file ≡ true
    → is_copied_up nat_eq world file access ≡ true → CanChange fresh world file (CopyUp file.node) overlay upper
    → settled nat_eq (apply nat_eq fresh world task (ToOpen file access)).world
    ≡ (apply nat_eq fresh world task (ToOpen file access)).world
