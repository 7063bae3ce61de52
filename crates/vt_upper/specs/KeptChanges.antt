-- Changes of what is in use without a name: the kernel's overlayfs document, "upper and lower" (copy_up); unlink(2).
use Rattle.std.specs.Prelude.{Bool, List, None, Option, Some, if◌then◌else◌, nat_eq, slice_get, ℕ, true, ⊤, ◌+◌, ◌<◌, ◌≡◌}
use Rattle.vt_spec.specs.Inodes.{changed}
use Rattle.vt_spec.specs.Language.Changes.{Change}
use Rattle.vt_spec.specs.Lists.{folded}
use Rattle.vt_spec.specs.Tree.{Node}
use Rattle.vt_births.specs.Births.{BirthsValue, copy_of, is_born_below, node_of}
use Rattle.vt_copyup.specs.Copied.{copied}
use Rattle.vt_copyup.specs.Plans.{CopiesAreThere}
use Rattle.vt_copyup.specs.declared.unnamed.UnnamedPlan.{UnnamedPlan}
use Rattle.vt_fs.specs.FilesystemsValue.{ChangesInodes, Filesystems, files_at, inodes_promised}
use Rattle.vt_fs.specs.Trees.TreeValue.{with_unnamed}
use Rattle.vt_laws_worlds.specs.Merging.UpperChanges.{copy_node}
use Rattle.vt_location.specs.declared.locations.InodeRef.{InodeRef}
use Rattle.vt_location.specs.declared.locations.NodeRef.{NodeRef}
use Rattle.vt_location.specs.declared.numbers.FilesystemId.{FilesystemId}
use Rattle.vt_location.specs.Locations.{inode_of}
use Rattle.vt_location.specs.SameNodes.{same_node}
use Rattle.vt_overlay.specs.declared.merge.layers.LayerRef.{LayerRef}
use Rattle.vt_overlay.specs.declared.merge.layers.Real.{Real}
use Rattle.vt_upper.specs.declared.keeping.KeptObject.{KeptObject}
use Rattle.vt_upper.specs.declared.keeping.KeptObject.TheVariants.{Copied, There}
use Rattle.vt_upper_overlay.specs.UpperValue.{UpperOverlayValue, real_at}

-- how many copies are made, and where
abbrev pub many_kept : KeptObject → ℕ
many_kept (There object) = 0
many_kept (Copied copy) = 1

abbrev pub upper_of : FilesystemId → KeptObject → FilesystemId
upper_of upper (There object) = object.filesystem
upper_of upper (Copied copy) = copy.upper

-- Nothing is copied of an object in the upper layer. Of any other one its inode is, as that of its node.
pub record IsThere (overlay : UpperOverlayValue) (node : NodeRef) (object : InodeRef) : Type 0 where
  pub real : Real
  pub is : real_at overlay node ≡ Some real
  pub above : real.layer ≡ 0
  pub same : object ≡ real.inode

pub record IsUnnamedCopy (with_bytes : Bool) (trees : Filesystems) (overlay : UpperOverlayValue) (node : NodeRef)
    (copy : UnnamedPlan) : Type 0 where
  pub real : Real
  pub is : real_at overlay node ≡ Some real
  pub below : 0 < real.layer
  pub inode : Node ℕ
  pub there : (files_at trees real.inode.filesystem.count).tree.node (inode_of real.inode) ≡ Some inode
  pub copies : copy.node ≡ copied with_bytes inode
  pub born : copy.born ≡ node
  pub upper : (upper : LayerRef) → slice_get overlay.layers.lowers 0 ≡ Some upper → copy.upper ≡ upper.directory.filesystem

abbrev pub IsCopyOfKept : (with_bytes : Bool) → Filesystems → UpperOverlayValue → NodeRef → KeptObject → Type 0
IsCopyOfKept with_bytes trees overlay node (There object) = IsThere overlay node object
IsCopyOfKept with_bytes trees overlay node (Copied copy) = IsUnnamedCopy with_bytes trees overlay node copy

-- An inode and a birth are promised to a copy, and its node, which was born below, has none yet.
pub record IsUnnamedReady (copy : UnnamedPlan) (trees : Filesystems) (births : BirthsValue) : Type 0 where
  pub there : CopiesAreThere trees copy.upper.count births
  pub inode : 0 < inodes_promised trees copy.upper.count
  pub birth : 0 < births.promised
  pub below : is_born_below copy.born ≡ true
  pub new : copy_of births copy.born ≡ None

abbrev pub IsKeptReady : KeptObject → Filesystems → BirthsValue → Type 0
IsKeptReady (There object) trees births = ⊤
IsKeptReady (Copied copy) trees births = IsUnnamedReady copy trees births

-- the change fits the object, or its copy
abbrev pub IsKeptFit : (Option (Node ℕ) → Type 0) → KeptObject → Filesystems → Type 0
IsKeptFit Fits (There object) trees = Fits ((files_at trees object.filesystem.count).tree.node (inode_of object))
IsKeptFit Fits (Copied copy) trees = Fits (Some copy.node)

-- The copy was made, an inode more without a name and with one use, and it has a birth.
pub record IsUnnamedMade (copy : UnnamedPlan) (trees : Filesystems) (births : BirthsValue) (trees_after : Filesystems)
    (births_after : BirthsValue) (object : InodeRef) : Type 0 where
  pub made : ChangesInodes copy.upper.count (λ inodes. with_unnamed nat_eq inodes (inode_of object)
      (copy_node (inode_of object) copy.node)) trees trees_after
  pub vacant : (files_at trees copy.upper.count).tree.node (inode_of object) ≡ None
  pub filesystem : object.filesystem ≡ copy.upper
  pub nodes : (slot : ℕ) → node_of births_after slot
      ≡ (if nat_eq object.slot slot then Some copy.born else node_of births slot)
  pub slots : (node : NodeRef) → copy_of births_after node
      ≡ (if same_node copy.born node then Some object.slot else copy_of births node)
  pub inodes_left : inodes_promised trees_after copy.upper.count + 1 ≡ inodes_promised trees copy.upper.count
  pub births_left : births_after.promised + 1 ≡ births.promised

-- it was there, and nothing has changed
pub record IsStill (there object : InodeRef) (trees : Filesystems) (births : BirthsValue) (trees_after : Filesystems)
    (births_after : BirthsValue) : Type 0 where
  pub object_is : object ≡ there
  pub trees_stay : trees_after ≡ trees
  pub births_stay : births_after ≡ births

abbrev pub IsKeptMade : KeptObject → Filesystems → BirthsValue → Filesystems → BirthsValue → InodeRef → Type 0
IsKeptMade (There there) trees births trees_after births_after object =
    IsStill there object trees births trees_after births_after
IsKeptMade (Copied copy) trees births trees_after births_after object =
    IsUnnamedMade copy trees births trees_after births_after object

-- Then a row of changes of the object was made; of the trees only that of the upper layer has changed.
pub record IsKeptChanged (upper : FilesystemId) (kept : KeptObject) (changes : ℕ → List (Change ℕ)) (trees : Filesystems)
    (births : BirthsValue) (trees_after : Filesystems) (births_after : BirthsValue) (object : InodeRef) : Type 0 where
  pub between : Filesystems
  pub made : IsKeptMade kept trees births between births_after object
  pub row : ChangesInodes upper.count
      (λ inodes. folded (changed nat_eq) inodes (changes (inode_of object))) between trees_after
