-- What is left of copies where names are removed: unlink(2), rmdir(2), and the kernel's overlayfs document, "inode
-- properties".
use Rattle.std.specs.Prelude.{List, Some, ℕ, ◌≡◌, ◌⊎◌}
use Rattle.vt_spec.specs.Machine.CopyUp.{whiteout_of}
use Rattle.vt_spec.specs.Rights.{Credentials}
use Rattle.vt_spec.specs.Tree.{Tree}
use Rattle.vt_births.specs.Births.{BirthsValue, copy_of, node_of}
use Rattle.vt_copyup.specs.Plans.{CopiesAreThere}
use Rattle.vt_fs.specs.FilesystemsValue.{Filesystems, files_at}
use Rattle.vt_location.specs.declared.locations.InodeRef.{InodeRef}
use Rattle.vt_location.specs.declared.locations.NodeRef.{NodeRef}
use Rattle.vt_location.specs.Numbers.{inode_number}
use Rattle.vt_upper.specs.Losing.{IsForgotten}
use Rattle.vt_upper.specs.New.{IsNameGone, IsNewMade, LosesNoName, leaves_in, made_in_place, start_of}
use Rattle.vt_upper.specs.declared.making.Place.{Place}

-- Of what loses a name at a place none is a copy, but what had it may be that of a node.
abbrev pub IsCopyOf : Tree ℕ → Place → BirthsValue → NodeRef → Type 0
IsCopyOf tree place births node =
    (slot : ℕ) (other : NodeRef) → node_of births slot ≡ Some other
    → (copy_of births node ≡ Some slot)
    ⊎ LosesNoName tree (leaves_in place) (inode_number (start_of place).filesystem.count slot)

-- A name is removed of such a node, which is forgotten: each copy that has a birth is there still, also where a whiteout
-- gets the name.
abbrev pub CopiesStay : Type 0
CopiesStay =
    (place : Place) (name : List ℕ) (trees : Filesystems) (births : BirthsValue) (after : Filesystems)
    (between births_after : BirthsValue) (node : NodeRef)
    → CopiesAreThere trees (start_of place).filesystem.count births
    → (gone : IsNameGone place name trees births after between)
    → IsCopyOf (files_at gone.between (start_of place).filesystem.count).tree place between node
    → IsForgotten node between births_after → CopiesAreThere after (start_of place).filesystem.count births_after

abbrev pub CopiesStayHidden : Type 0
CopiesStayHidden =
    (mounter : Credentials) (place : Place) (name : List ℕ) (trees : Filesystems) (births : BirthsValue)
    (after : Filesystems) (between births_after : BirthsValue) (node : NodeRef) (white : InodeRef)
    → CopiesAreThere trees (start_of place).filesystem.count births
    → (new : IsNewMade place (made_in_place place name (whiteout_of mounter)) trees births after between white)
    → IsCopyOf (files_at new.between (start_of place).filesystem.count).tree place between node
    → IsForgotten node between births_after → CopiesAreThere after (start_of place).filesystem.count births_after
