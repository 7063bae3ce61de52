-- Each change of an overlay keeps that its tree is what its layers show: the kernel's overlayfs document, "upper and
-- lower", "directories" and "whiteouts and opaque directories".
use Rattle.std.specs.Prelude.{List, [], None, Some, false, nat_eq, true, ℕ, ◌+◌, ◌∷◌, ◌≡◌, ◌≢◌}
use Rattle.vt_spec.specs.declared.attributes.Kind.TheVariants.{White}
use Rattle.vt_spec.specs.FileTree.{is_kind}
use Rattle.vt_spec.specs.Language.Changes.{Change}
use Rattle.vt_spec.specs.Language.Changes.Change.{AddName, CopyUp, Make, Move, Remove, SetAttr, SetBytes, SetMark}
use Rattle.vt_spec.specs.Language.Calls.{Call}
use Rattle.vt_spec.specs.Lists.{Fresh}
use Rattle.vt_spec.specs.Machine.Policy.{call_outcome}
use Rattle.vt_spec.specs.Machine.CopyUp.{Merge, Stack, merge_changed, path_to}
use Rattle.vt_spec.specs.Machine.Filesystems.{merge_of, stack_of, with_change}
use Rattle.vt_spec.specs.Machine.Layers.{has_lower_directory, shown}
use Rattle.vt_spec.specs.Machine.World.{Filesystem, Layer, Overlay, Task, World, files_at, filesystem_at, filesystem_numbered, mount_at, task_called}
use Rattle.vt_spec.specs.Machine.Invariants.{IsMerged, IsWorld}
use Rattle.vt_spec.specs.Tree.{kind_of}
use Rattle.vt_spec.specs.TreeInvariant.{IsDirectory}
use Rattle.vt_laws_trees.specs.Trees.{MayAddName, MayMake, MayMove, MayRemove}
use Rattle.vt_spec.specs.Machine.Mounts.{Location}
use Rattle.vt_laws_trees.specs.Layers.Layers.Locked.{AreNoInodes, GoesThrough}
use Rattle.vt_laws_trees.specs.Layers.Layers.Untouched.{changes_no_mount}
use Rattle.vt_laws_trees.specs.Layers.Layers.Upper.{IsThere, SpeaksOfWhatIsThere}
use Rattle.vt_laws_trees.specs.Overlays.WhatIsShown.{IsWhatIsShown, IsWhole, layers_under}

-- What is asked for: what the calls' tables of rules see to. A directory moves only where no lower layer that is not
-- cut has one (O1), and no call sets a mark through an overlay (O4).
abbrev pub IsAskedWell : Stack ℕ → Merge ℕ → Change ℕ → Type 0
IsAskedWell stack merge (Make directory name number node) =
    MayMake merge.files.tree directory name number node × (is_kind White (kind_of node.content) ≡ false)
IsAskedWell stack merge (AddName directory name object) = MayAddName merge.files.tree directory name object
IsAskedWell stack merge (Remove directory name object) = MayRemove merge.files.tree directory name object
IsAskedWell stack merge (Move from old to new object) =
    MayMove merge.files.tree from old to new object
    × (IsDirectory merge.files.tree object
    → has_lower_directory (record { tree = merge.upper.tree; directory = stack.directory } ∷ []) stack.lowers
    (path_to nat_eq merge from old) ≡ false)
IsAskedWell stack merge (SetBytes file bytes) = IsThere merge.files file
IsAskedWell stack merge (SetAttr object attr) = IsThere merge.files object
IsAskedWell stack merge (SetMark directory opaque) = ⊥
IsAskedWell stack merge (CopyUp object) = IsThere merge.files object

-- A whole change: the objects that it changes are copied up with the directories above them, and then it is made, by
-- new numbers that no inode of the upper layer's tree has.
abbrev pub ChangesKeepShown : Type 0
ChangesKeepShown =
    (fresh : Fresh ℕ) (stack : Stack ℕ) (merge : Merge ℕ) (change : Change ℕ)
    → IsWhole stack merge → ((j k : ℕ) → fresh j ≡ fresh k → j ≡ k) → ((k : ℕ) → merge.upper.tree.node (fresh k) ≡ None)
    → IsAskedWell stack merge change
    → IsWhatIsShown stack (merge_changed nat_eq fresh stack merge change)

-- What is said here of an overlay as one record is what `IsMerged` says of one of a world,
abbrev pub ShownIsMerged : Type 0
ShownIsMerged =
    (world : World ℕ) (filesystem : Filesystem ℕ) (overlay : Overlay ℕ) (upper : Layer ℕ) → overlay.upper ≡ Some upper
    → IsWhatIsShown (stack_of nat_eq world overlay upper) (merge_of nat_eq world filesystem overlay upper)
    → IsMerged nat_eq world filesystem overlay

-- and each overlay of a world with an upper layer is whole.
abbrev pub OverlaysAreWhole : Type 0
OverlaysAreWhole =
    (world : World ℕ) (number : ℕ) (overlay : Overlay ℕ) (upper : Layer ℕ)
    → IsWorld nat_eq world
    → (filesystem_numbered nat_eq world number).overlay ≡ Some overlay → overlay.upper ≡ Some upper
    → IsWhole (stack_of nat_eq world overlay upper)
    (merge_of nat_eq world (filesystem_numbered nat_eq world number) overlay upper)

-- What a lower layer shows at a path after a change it showed there before: what is hidden by a whiteout, an opaque
-- mark or an upper object does not show again.
abbrev pub HiddenStaysHidden : Type 0
HiddenStaysHidden =
    (fresh : Fresh ℕ) (stack : Stack ℕ) (merge : Merge ℕ) (change : Change ℕ) (path : List (List ℕ)) (layer object : ℕ)
    → IsWhole stack merge → ((j k : ℕ) → fresh j ≡ fresh k → j ≡ k) → ((k : ℕ) → merge.upper.tree.node (fresh k) ≡ None)
    → IsAskedWell stack merge change
    → shown (layers_under stack (merge_changed nat_eq fresh stack merge change)) path
    ≡ Some (record { layer = layer + 1; object = object })
    → shown (layers_under stack merge) path ≡ Some (record { layer = layer + 1; object = object })

-- In a world: an overlay through which a change goes is what its layers show after it, its lower layers as they are
-- then.
abbrev pub ChangedOverlayIsMerged : Type 0
ChangedOverlayIsMerged =
    (fresh : Fresh ℕ) (world : World ℕ) (location : Location ℕ) (change : Change ℕ) (overlay later : Overlay ℕ)
    (upper : Layer ℕ)
    → IsWorld nat_eq world
    → (filesystem_at nat_eq world location).overlay ≡ Some overlay → overlay.upper ≡ Some upper
    → ((j k : ℕ) → fresh j ≡ fresh k → j ≡ k) → ((filesystem : ℕ) → AreNoInodes fresh world filesystem)
    → IsAskedWell (stack_of nat_eq world overlay upper)
    (merge_of nat_eq world (filesystem_at nat_eq world location) overlay upper) change
    → (filesystem_numbered nat_eq (with_change nat_eq fresh world location change)
    (mount_at nat_eq world location).filesystem).overlay ≡ Some later
    → IsMerged nat_eq (with_change nat_eq fresh world location change)
    (filesystem_numbered nat_eq (with_change nat_eq fresh world location change)
    (mount_at nat_eq world location).filesystem) later

-- and every other overlay goes on being what its layers show.
abbrev pub OtherOverlaysStayMerged : Type 0
OtherOverlaysStayMerged =
    (fresh : Fresh ℕ) (world : World ℕ) (location : Location ℕ) (change : Change ℕ) (overlay other : Overlay ℕ)
    (upper : Layer ℕ) (number : ℕ)
    → IsWorld nat_eq world
    → (filesystem_at nat_eq world location).overlay ≡ Some overlay → overlay.upper ≡ Some upper
    → ((filesystem : ℕ) → AreNoInodes fresh world filesystem)
    → SpeaksOfWhatIsThere (files_at nat_eq world location) change
    → number ≢ (mount_at nat_eq world location).filesystem
    → (filesystem_numbered nat_eq world number).overlay ≡ Some other
    → (filesystem_numbered nat_eq (with_change nat_eq fresh world location change) number
    ≡ filesystem_numbered nat_eq world number)
    × IsMerged nat_eq (with_change nat_eq fresh world location change) (filesystem_numbered nat_eq world number) other

-- So after a call on files each overlay that the call does not go through is what its layers show: every one, after a
-- call through a plain mount.
abbrev pub CallsKeepOtherOverlays : Type 0
CallsKeepOtherOverlays =
    (fresh : Fresh ℕ) (world : World ℕ) (task : Task ℕ) (call : Call) (through number : ℕ) (other : Overlay ℕ)
    → IsWorld nat_eq world → task_called world task.name ≡ Some task → changes_no_mount call ≡ true
    → ((filesystem : ℕ) → AreNoInodes fresh world filesystem)
    → GoesThrough fresh world (call_outcome nat_eq fresh world task call).world through
    → number ≢ through → (filesystem_numbered nat_eq world number).overlay ≡ Some other
    → (filesystem_numbered nat_eq (call_outcome nat_eq fresh world task call).world number
    ≡ filesystem_numbered nat_eq world number)
    × IsMerged nat_eq (call_outcome nat_eq fresh world task call).world (filesystem_numbered nat_eq world number) other
