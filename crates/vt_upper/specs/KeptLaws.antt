-- What plans make of the upper layer's tree for an object without a name, as the definitions see it: the kernel's overlayfs
-- document, "upper and lower" (copy_up); write(2), fchmod(2), fchown(2) of what unlink(2) has left without a name.
use Rattle.std.specs.Prelude.{List, Some, is_some, true, ℕ, ◌≡◌}
use Rattle.vt_spec.specs.FileTree.{FileTree}
use Rattle.vt_spec.specs.Lists.{Fresh}
use Rattle.vt_spec.specs.Machine.CopyUp.{Stack}
use Rattle.vt_spec.specs.Machine.World.Real.{Lower, Upper}
use Rattle.vt_spec.specs.Tree.{Node}
use Rattle.vt_births.specs.Births.{BirthsValue}
use Rattle.vt_copyup.specs.Copied.{copied}
use Rattle.vt_copyup.specs.declared.unnamed.UnnamedPlan.{UnnamedPlan}
use Rattle.vt_fs.specs.FilesystemsValue.{Filesystems, entry_of, files_at}
use Rattle.vt_laws_worlds.specs.Merging.UpperCalls.{changed_above}
use Rattle.vt_laws_worlds.specs.Merging.UpperChanges.{node_below}
use Rattle.vt_laws_worlds.specs.Merging.UpperChanges.Place.{Held}
use Rattle.vt_location.specs.declared.locations.InodeRef.{InodeRef}
use Rattle.vt_location.specs.Locations.{inode_of}
use Rattle.vt_upper.specs.Changes.{keeps_bytes, row_of}
use Rattle.vt_upper.specs.KeptChanges.{IsKeptChanged}
use Rattle.vt_upper.specs.Laws.{change_at}
use Rattle.vt_upper.specs.declared.changing.ObjectChange.{ObjectChange}
use Rattle.vt_upper.specs.declared.keeping.KeptObject.TheVariants.{Copied, There}

-- An object without a name that a lower layer has is copied and changed: the upper layer's tree is then that after the
-- change by the definitions, if the copy has the number that is handed out.
abbrev pub KeptChangesBelowAreMade : Type 0
KeptChangesBelowAreMade =
    (fresh : Fresh ℕ) (stack : Stack ℕ) (upper : FileTree ℕ) (layer : ℕ) (path : List (List ℕ)) (node : Node ℕ)
    (promised : Filesystems) (copy : UnnamedPlan) (change : ObjectChange) (births : BirthsValue) (after : Filesystems)
    (births_after : BirthsValue) (object : InodeRef)
    → upper ≡ files_at promised copy.upper.count → is_some (entry_of promised copy.upper.count) ≡ true
    → node_below stack layer path ≡ Some node → copy.node ≡ copied (keeps_bytes change) node
    → IsKeptChanged copy.upper (Copied copy) (row_of change) promised births after births_after object
    → inode_of object ≡ fresh 0
    → (files_at after copy.upper.count).tree
    ≡ (changed_above fresh stack upper (change_at change (Held (Lower layer path)))).tree

-- So where it is in the upper layer: nothing is copied then.
abbrev pub KeptChangesAboveAreMade : Type 0
KeptChangesAboveAreMade =
    (fresh : Fresh ℕ) (stack : Stack ℕ) (upper : FileTree ℕ) (promised : Filesystems) (there : InodeRef)
    (change : ObjectChange) (births : BirthsValue) (after : Filesystems) (births_after : BirthsValue) (object : InodeRef)
    → upper ≡ files_at promised there.filesystem.count → is_some (entry_of promised there.filesystem.count) ≡ true
    → IsKeptChanged there.filesystem (There there) (row_of change) promised births after births_after object
    → (files_at after there.filesystem.count).tree
    ≡ (changed_above fresh stack upper (change_at change (Held (Upper (inode_of there))))).tree
