-- What plans make: copies in the upper layer, and their births. The kernel's overlayfs document, "upper and lower"
-- (copy_up), "inode properties".
use Rattle.std.specs.Prelude.{List, None, Option, Some, [], if◌then◌else◌, length, map, nat_eq, ℕ, ⊤, ◌+◌, ◌∷◌, ◌≡◌}
use Rattle.vt_spec.specs.Inodes.{Inodes, changed, tree_of}
use Rattle.vt_spec.specs.Language.Changes.Change.{Make}
use Rattle.vt_location.specs.declared.locations.InodeRef.{InodeRef}
use Rattle.vt_location.specs.declared.locations.NodeRef.{NodeRef}
use Rattle.vt_location.specs.Locations.{inode_of}
use Rattle.vt_location.specs.Numbers.{inode_number}
use Rattle.vt_location.specs.SameNodes.{same_node}
use Rattle.vt_fs.specs.FilesystemsValue.{ChangesInodes, Filesystems, files_at, inodes_at, inodes_promised}
use Rattle.vt_laws_worlds.specs.Merging.UpperChanges.{copy_node}
use Rattle.vt_laws_worlds.specs.Seen.CopySteps.{Copy, made_in_turn}
use Rattle.vt_births.specs.Births.{BirthsValue, copy_of, node_of}
use Rattle.vt_copyup.specs.declared.plans.PlannedCopy.{PlannedCopy}

-- a copy that was made, and its slot in the upper layer's tree
pub record Made : Type 0 where
  pub copy : PlannedCopy
  pub slot : ℕ

-- so the definitions see it
abbrev pub made_copy : ℕ → Made → Copy
made_copy upper made =
    record { name = made.copy.name.items; node = made.copy.node; number = inode_number upper made.slot }

abbrev pub made_copies : ℕ → List Made → List Copy
made_copies upper made = map (made_copy upper) made

-- inodes with copies, made one in the other, the first in a directory
abbrev pub with_copies : Inodes ℕ → ℕ → List Copy → Inodes ℕ
with_copies inodes directory [] = inodes
with_copies inodes directory (copy ∷ rest) =
    with_copies (changed nat_eq inodes (Make directory copy.name copy.number (copy_node directory copy.node)))
    copy.number rest

-- each copy's inode is free when it is made
abbrev pub AreFree : Inodes ℕ → ℕ → List Copy → Type 0
AreFree inodes directory [] = ⊤
AreFree inodes directory (copy ∷ rest) =
    ((tree_of inodes).node copy.number ≡ None)
    × AreFree (changed nat_eq inodes (Make directory copy.name copy.number (copy_node directory copy.node)))
    copy.number rest

-- the births of copies in addition, by slots and by nodes
abbrev pub nodes_with : (ℕ → Option NodeRef) → List Made → ℕ → Option NodeRef
nodes_with nodes [] = nodes
nodes_with nodes (made ∷ rest) =
    nodes_with (λ slot. if nat_eq made.slot slot then Some made.copy.born else nodes slot) rest

abbrev pub slots_with : (NodeRef → Option ℕ) → List Made → NodeRef → Option ℕ
slots_with slots [] = slots
slots_with slots (made ∷ rest) =
    slots_with (λ node. if same_node made.copy.born node then Some made.slot else slots node) rest

-- the inode of the last copy; where none is made, that of the directory
abbrev pub last_made : InodeRef → List Made → InodeRef
last_made directory [] = directory
last_made directory (made ∷ rest) =
    last_made (record { filesystem = directory.filesystem; slot = made.slot }) rest

-- the inode in which the last copy was made
abbrev pub parent_made : InodeRef → List Made → InodeRef
parent_made directory [] = directory
parent_made directory (made ∷ []) = directory
parent_made directory (made ∷ next ∷ rest) =
    parent_made (record { filesystem = directory.filesystem; slot = made.slot }) (next ∷ rest)

-- These copies were made one in the other, each an inode more of the upper layer's filesystem alone, and they have births.
pub record AreMade (directory : InodeRef) (copies : List PlannedCopy) (trees : Filesystems) (births : BirthsValue)
    (trees_after : Filesystems) (births_after : BirthsValue) (last : InodeRef) : Type 0 where
  pub made : List Made
  pub all : map (λ (one : Made). one.copy) made ≡ copies
  pub inodes : ChangesInodes directory.filesystem.count (λ inodes.
      with_copies inodes (inode_of directory) (made_copies directory.filesystem.count made)) trees trees_after
  pub free : AreFree (inodes_at trees directory.filesystem.count) (inode_of directory)
      (made_copies directory.filesystem.count made)
  pub tree : (files_at trees_after directory.filesystem.count).tree
      ≡ (made_in_turn (files_at trees directory.filesystem.count) (inode_of directory)
      (made_copies directory.filesystem.count made)).tree
  pub nodes : node_of births_after ≡ nodes_with (node_of births) made
  pub slots : copy_of births_after ≡ slots_with (copy_of births) made
  pub is_last : last ≡ last_made directory made
  pub inodes_left : inodes_promised trees_after directory.filesystem.count + length copies
      ≡ inodes_promised trees directory.filesystem.count
  pub births_left : births_after.promised + length copies ≡ births.promised
