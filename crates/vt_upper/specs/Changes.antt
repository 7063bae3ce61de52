-- What a call makes of an object in the upper layer: open(2), chmod(2), chown(2), write(2).
use Rattle.std.specs.Prelude.{Bool, List, Option, [], false, length, nat_eq, true, ℕ, ⊤, ◌∷◌, ◌≡◌, ◌≤◌}
use Rattle.vt_spec.specs.Inodes.{changed}
use Rattle.vt_spec.specs.Language.Changes.{Change}
use Rattle.vt_spec.specs.Language.Changes.Change.{SetAttr, SetBytes}
use Rattle.vt_spec.specs.Language.Limits.{largest_file}
use Rattle.vt_spec.specs.Lists.{folded}
use Rattle.vt_spec.specs.Tree.{Node, is_directory_node}
use Rattle.vt_births.specs.Births.{BirthsValue}
use Rattle.vt_copyup.specs.declared.plans.Plan.{Plan}
use Rattle.vt_copyup.specs.Made.{AreMade}
use Rattle.vt_copyup.specs.Plans.{copies_of, in_turn}
use Rattle.vt_fs.specs.FilesystemsValue.{ChangesInodes, Filesystems}
use Rattle.vt_location.specs.declared.locations.InodeRef.{InodeRef}
use Rattle.vt_location.specs.Locations.{inode_of}
use Rattle.vt_upper.specs.declared.changing.ObjectChange.{ObjectChange}
use Rattle.vt_upper.specs.declared.changing.ObjectChange.TheVariants.{Attr, Bytes, Copied}

-- the plain changes that it makes of the object's inode
abbrev pub row_of : ObjectChange → ℕ → List (Change ℕ)
row_of Copied object = []
row_of (Attr attr) object = SetAttr object attr ∷ []
row_of (Bytes bytes) object = SetBytes object bytes.items ∷ []

-- the object keeps its bytes
abbrev pub keeps_bytes : ObjectChange → Bool
keeps_bytes Copied = true
keeps_bytes (Attr attr) = true
keeps_bytes (Bytes bytes) = false

-- a directory is not written, nor is any file past its limit
abbrev pub IsFit : ObjectChange → Option (Node ℕ) → Type 0
IsFit Copied _ = ⊤
IsFit (Attr attr) _ = ⊤
IsFit (Bytes bytes) node = (is_directory_node node ≡ false) × (length bytes.items ≤ largest_file)

-- The copies were made, with their births, and then a row of changes of the object; of the trees only that of the upper
-- layer has changed.
pub record IsChanged (copies : Plan) (changes : ℕ → List (Change ℕ)) (trees : Filesystems) (births : BirthsValue)
    (trees_after : Filesystems) (births_after : BirthsValue) (object : InodeRef) : Type 0 where
  pub between : Filesystems
  pub made : AreMade copies.directory (copies_of (in_turn copies)) trees births between births_after object
  pub row : ChangesInodes copies.directory.filesystem.count
      (λ inodes. folded (changed nat_eq) inodes (changes (inode_of object))) between trees_after
