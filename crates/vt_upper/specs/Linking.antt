-- Further names of objects in an upper layer: link(2), and the kernel's overlayfs document, "upper and lower" (copy_up),
-- "whiteouts and opaque directories".
use Rattle.std.specs.Prelude.{Bool, IfSome, IsSome, List, Option, [], false, is_some, length, map, nat_eq, ℕ, true, ◌++◌, ◌<◌, ◌∷◌, ◌≡◌}
use Rattle.smallvec.specs.SmallVec.{HasRoomFor, SmallVec}
use Rattle.vt_spec.specs.Inodes.{Inodes, changed, uses_in}
use Rattle.vt_spec.specs.Language.Changes.Change.{AddName}
use Rattle.vt_spec.specs.Tree.{Entries, entries_in, is_directory_node}
use Rattle.vt_births.specs.Births.{BirthsValue}
use Rattle.vt_copyup.specs.Forks.{AreForked, IsForkOf, IsForkReady}
use Rattle.vt_copyup.specs.Plans.{many}
use Rattle.vt_copyup.specs.declared.forks.Forked.{Forked}
use Rattle.vt_copyup.specs.declared.plans.Plan.{Plan}
use Rattle.vt_fs.specs.FilesystemsValue.{ChangesInodes, Filesystems, files_at, inodes_at}
use Rattle.vt_fs.specs.Trees.Names.{IsNamed, ListsNames}
use Rattle.vt_location.specs.declared.locations.InodeRef.{InodeRef}
use Rattle.vt_location.specs.declared.locations.NodeRef.{NodeRef}
use Rattle.vt_location.specs.Locations.{inode_of, number_of}
use Rattle.vt_location.specs.Numbers.{exchanged, most_counted}
use Rattle.vt_upper.specs.Copies.{AreCopiesOf}
use Rattle.vt_upper.specs.declared.linking.LinkPlan.{LinkPlan}
use Rattle.vt_upper.specs.declared.linking.Links.{Links}
use Rattle.vt_upper.specs.declared.linking.Links.TheVariants.{Copied, There}
use Rattle.vt_upper.specs.declared.making.LinkedObject.{LinkedObject}
use Rattle.vt_upper.specs.declared.making.Spot.{Spot}
use Rattle.vt_upper.specs.Leaving.{freed, going, let_go, within_of}
use Rattle.vt_upper.specs.New.{HasName, MayMakeIn, had_in}
use Rattle.vt_upper_overlay.specs.MergedAbove.{object_lent, object_shown}
use Rattle.vt_upper_overlay.specs.UpperValue.{UpperOverlayValue}

-- the directories that have names of an object once it is in the upper layer, in that of its copy's name
abbrev pub links_at : Links → InodeRef → SmallVec ℕ
links_at (There room) parent = room
links_at (Copied room) parent = record room { items = room.items ++ parent.slot ∷ [] }

-- Of an object in the upper layer its names are listed, with a place for one more; of a copy none is, with places for two.
abbrev pub AreLinks : Filesystems → Plan → Links → Type 0
AreLinks trees plan (There room) =
    (many plan ≡ 0)
    × ListsNames (files_at trees plan.directory.filesystem.count).tree (inode_of plan.directory)
    (map (exchanged plan.directory.filesystem.count) room.items)
    × HasRoomFor room 1
    × (uses_in ((inodes_at trees plan.directory.filesystem.count).inode (inode_of plan.directory)) < most_counted)
AreLinks trees plan (Copied room) = (0 < many plan) × (room.items ≡ []) × HasRoomFor room 2

-- what has the name goes, and then the object gets it
abbrev pub linked_over : (kept : Bool) → List ℕ → Option ℕ → (within : Entries ℕ) → (directory object : ℕ) → Inodes ℕ
    → Inodes ℕ
linked_over kept name had within directory object inodes =
    let_go (going kept had within)
    (changed nat_eq (freed directory name had within inodes) (AddName directory name object))

-- What a further name needs: the object is shown, and is no directory; its directory may get a new object of this name.
pub record MayLinkIn (trees : Filesystems) (overlay : UpperOverlayValue) (object directory : NodeRef) (name : List ℕ)
    : Type 0 where
  pub object_shown : IsSome (object_shown trees overlay (number_of object))
  pub plain : is_directory_node (object_lent trees overlay object) ≡ false
  pub may_make : MayMakeIn trees overlay directory name

-- An object may get a further name in a directory of its filesystem: it is there, is no directory, has a name, and fewer than
-- 2^64 - 1 uses; the directories that have its names are listed, with a place for one more; and there is room for the name.
pub record IsLinkable (linked : LinkedObject) (directory : InodeRef) (trees : Filesystems) (room : ℕ) : Type 0 where
  pub beside : linked.object.filesystem ≡ directory.filesystem
  pub there : is_some ((files_at trees directory.filesystem.count).tree.node (inode_of linked.object)) ≡ true
  pub plain : is_directory_node ((files_at trees directory.filesystem.count).tree.node (inode_of linked.object)) ≡ false
  pub named : IsNamed (files_at trees directory.filesystem.count).tree (inode_of linked.object)
  pub few : uses_in ((inodes_at trees directory.filesystem.count).inode (inode_of linked.object)) < most_counted
  pub lists : ListsNames (files_at trees directory.filesystem.count).tree (inode_of linked.object)
      (map (exchanged directory.filesystem.count) linked.links.items)
  pub place : HasRoomFor linked.links 1
  pub has_room : length (entries_in ((files_at trees directory.filesystem.count).tree.node (inode_of directory))) < room

-- what has the name, if anything has, is a whiteout, and not this object
abbrev pub IsWhiteAt : Filesystems → Spot → ℕ → Type 0
IsWhiteAt trees spot object =
    IfSome spot.leaving (λ leaving.
    (is_directory_node ((files_at trees spot.directory.filesystem.count).tree.node (inode_of leaving.object)) ≡ false)
    × (nat_eq (inode_of leaving.object) object ≡ false))

-- The spot of the new name, once the copies are made, and the object there
abbrev pub spot_at : LinkPlan → Forked → Spot
spot_at plan ends = record { directory = ends.second; leaving = plan.leaving; keeps = false }

abbrev pub object_at : LinkPlan → Forked → LinkedObject
object_at plan ends = record { object = ends.object; links = links_at plan.links ends.parent }

pub record MayBeLinked (plan : LinkPlan) (ends : Forked) (trees : Filesystems) (room : ℕ) : Type 0 where
  pub name : HasName trees (spot_at plan ends) plan.name.items
  pub room_for_links : HasRoomFor (links_at plan.links ends.parent) 1
  pub white : IsWhiteAt trees (spot_at plan ends) (inode_of ends.object)
  pub linkable : IsLinkable (object_at plan ends) ends.second trees room

-- a plan is ready: its copies are, and once they are made the name may be put in
pub record IsLinkReady (plan : LinkPlan) (trees : Filesystems) (births : BirthsValue) (room : ℕ) : Type 0 where
  pub copies : IsForkReady plan.copies trees births
  pub link : (after : Filesystems) (births_after : BirthsValue) (ends : Forked)
      → ends.parent.slot < 18446744073709551616
      → AreForked plan.copies trees births after births_after ends → MayBeLinked plan ends after room

-- it is that of an object and of a directory
pub record IsLinkOf (trees : Filesystems) (overlay : UpperOverlayValue) (object directory : NodeRef) (plan : LinkPlan)
    : Type 0 where
  pub first : Plan
  pub second : Plan
  pub object_copies : AreCopiesOf true trees overlay object first
  pub directory_copies : AreCopiesOf true trees overlay directory second
  pub fork : IsForkOf trees first second plan.copies

-- The copies were made, with their births, and then the object got the name; of the trees only that of the upper layer has
-- changed.
pub record IsLinked (plan : LinkPlan) (trees : Filesystems) (births : BirthsValue) (trees_after : Filesystems)
    (births_after : BirthsValue) (object : InodeRef) : Type 0 where
  pub between : Filesystems
  pub ends : Forked
  pub small : ends.parent.slot < 18446744073709551616
  pub made : AreForked plan.copies trees births between births_after ends
  pub is_object : object ≡ ends.object
  pub linking : ChangesInodes ends.second.filesystem.count
      (linked_over false plan.name.items (had_in (spot_at plan ends))
      (within_of (files_at between ends.second.filesystem.count).tree (had_in (spot_at plan ends)))
      (inode_of ends.second) (inode_of ends.object)) between trees_after
