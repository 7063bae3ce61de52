-- What the permit of a call asks of the filesystem that it changes, in every world that has the invariants, with
-- overlays or without: mkdir(2), link(2), unlink(2), rmdir(2), rename(2), open(2), write(2), chmod(2), chown(2),
-- setxattr(2).
use Rattle.std.specs.Prelude.{None, Ok, Option, Some, false, nat_eq, true, ℕ, ⊤, ◌≡◌}
use Rattle.vt_spec.specs.declared.attributes.Kind.TheVariants.{White}
use Rattle.vt_spec.specs.FileTree.{is_kind}
use Rattle.vt_spec.specs.Language.Calls.{Call}
use Rattle.vt_spec.specs.Language.Changes.{Change}
use Rattle.vt_spec.specs.Language.Changes.Change.{AddName, CopyUp, Make, Move, Remove, SetAttr, SetBytes, SetMark}
use Rattle.vt_spec.specs.Lists.{Fresh, when}
use Rattle.vt_spec.specs.Machine.Filesystems.{has_lower_directory_at, merge_of, stack_of}
use Rattle.vt_spec.specs.Machine.Invariants.{IsWorld}
use Rattle.vt_spec.specs.Machine.Judge.{judge_in}
use Rattle.vt_spec.specs.Machine.Mounts.{Location}
use Rattle.vt_spec.specs.Machine.Descriptors.{is_copied_up}
use Rattle.vt_spec.specs.Machine.Permits.{Permit}
use Rattle.vt_spec.specs.Machine.Permits.Permit.{ToOpen}
use Rattle.vt_spec.specs.Machine.Run.{Serves}
use Rattle.vt_spec.specs.Machine.World.{Layer, Overlay, Task, World, files_at, filesystem_at, is_overlay, task_called}
use Rattle.vt_spec.specs.Tree.{kind_of}
use Rattle.vt_spec.specs.TreeInvariant.{IsDirectory}
use Rattle.vt_laws_trees.specs.Trees.{IsProper, MayAddName, MayMake, MayMove, MayRemove}
use Rattle.vt_laws_trees.specs.Trees.Sizes.{IsFitChange}
use Rattle.vt_laws_trees.specs.Layers.Layers.Upper.{IsThere}
use Rattle.vt_laws_trees.specs.Overlays.WholeChanges.{IsAskedWell}
use Rattle.vt_laws_trees.specs.Calls.Inodes.{change_of}

-- the change that a permit asks for, and the location in whose filesystem it is made; open(2) for writing copies what
-- lies only below
abbrev pub change_asked : Fresh ℕ → World ℕ → Permit ℕ → Option (Location ℕ × Change ℕ)
change_asked fresh world (ToOpen file access) = when (is_copied_up nat_eq world file access) (file, CopyUp file.node)
change_asked fresh world permit = change_of fresh world permit

-- What the calls' tables of rules see to: the change may be made in the tree, and what it is of exists. Through an
-- overlay no whiteout is made and no mark is set (O4), and a directory moves only where no lower layer that is not cut
-- has one (O1).
abbrev pub AsksWell : World ℕ → Location ℕ → Change ℕ → Type 0
AsksWell world location (Make directory name number node) =
    MayMake (files_at nat_eq world location).tree directory name number node
    × (is_overlay (filesystem_at nat_eq world location) ≡ true → is_kind White (kind_of node.content) ≡ false)
AsksWell world location (AddName directory name object) =
    MayAddName (files_at nat_eq world location).tree directory name object
AsksWell world location (Remove directory name object) =
    MayRemove (files_at nat_eq world location).tree directory name object
AsksWell world location (Move from old to new object) =
    MayMove (files_at nat_eq world location).tree from old to new object
    × (IsDirectory (files_at nat_eq world location).tree object
    → has_lower_directory_at nat_eq world (record { mount = location.mount; node = from }) old ≡ false)
AsksWell world location (SetBytes file bytes) = IsThere (files_at nat_eq world location) file
AsksWell world location (SetAttr object attr) = IsThere (files_at nat_eq world location) object
AsksWell world location (SetMark directory opaque) = is_overlay (filesystem_at nat_eq world location) ≡ false
AsksWell world location (CopyUp object) = IsThere (files_at nat_eq world location) object

-- nothing is asked for, or this, and what it gives is within the limits of names, texts and files
abbrev pub AsksWellIf : World ℕ → Option (Location ℕ × Change ℕ) → Type 0
AsksWellIf world None = ⊤
AsksWellIf world (Some made) = AsksWell world made.0 made.1 × IsFitChange made.1

abbrev pub PermitsAskWell : Type 0
PermitsAskWell =
    (world : World ℕ) (fresh : Fresh ℕ) (task : Task ℕ) (call : Call) (permit : Permit ℕ) → IsWorld nat_eq world
    → Serves nat_eq world fresh → task_called world task.name ≡ Some task
    → judge_in nat_eq fresh world task call ≡ Ok permit → AsksWellIf world (change_asked fresh world permit)

-- So the change is one that its tree lets pass, within the limits,
abbrev pub PermitsAskProperly : Type 0
PermitsAskProperly =
    (world : World ℕ) (fresh : Fresh ℕ) (task : Task ℕ) (call : Call) (permit : Permit ℕ) (location : Location ℕ)
    (change : Change ℕ)
    → IsWorld nat_eq world → Serves nat_eq world fresh → task_called world task.name ≡ Some task
    → judge_in nat_eq fresh world task call ≡ Ok permit → change_asked fresh world permit ≡ Some (location, change)
    → IsProper (files_at nat_eq world location).tree change × IsFitChange change

-- and so does an overlay with an upper layer.
abbrev pub PermitsAskOverlaysWell : Type 0
PermitsAskOverlaysWell =
    (world : World ℕ) (fresh : Fresh ℕ) (task : Task ℕ) (call : Call) (permit : Permit ℕ) (location : Location ℕ)
    (change : Change ℕ)
    (overlay : Overlay ℕ) (upper : Layer ℕ)
    → IsWorld nat_eq world → Serves nat_eq world fresh → task_called world task.name ≡ Some task
    → judge_in nat_eq fresh world task call ≡ Ok permit → change_asked fresh world permit ≡ Some (location, change)
    → (filesystem_at nat_eq world location).overlay ≡ Some overlay → overlay.upper ≡ Some upper
    → IsAskedWell (stack_of nat_eq world overlay upper)
    (merge_of nat_eq world (filesystem_at nat_eq world location) overlay upper) change
