-- What an inode keeps when its names or its parent change.
use Rattle.std.proofs.Common.{arith, ◌≡◌, refl, ◌∙◌, ℕ, nat_eq, List, Option, is_some}
use Rattle.vt_spec.proofs.Common.{Content, Directory, Entries, FileTree, Node, Regular, Symlink, Whiteout, attr_in, bytes_in, bytes_of, changed_node, common_steps, content_with_parent, is_directory_node, is_opaque_in, kind_of, node_with_entry, node_with_parent, node_without_entries, node_without_entry, opaque_of, part-changed_node, with_entries}
use Rattle.vt_spec.specs.FileTree.{kind_in}
use Rattle.vt_laws_trees.specs.Layers.Layers.ChangesUpper.{IsCopyOf}
use Rattle.vt_spec.proofs.NodeChanges.{kind_of-content_with_parent}

-- a change of an inode that keeps all but names and parent
pub record KeepsButNames (change : Option (Node ℕ) → Option (Node ℕ)) : Type 0 where
  pub there : (inode : Option (Node ℕ)) → is_some (change inode) ≡ is_some inode
  pub kind : (inode : Option (Node ℕ)) → kind_in (change inode) ≡ kind_in inode
  pub directory : (inode : Option (Node ℕ)) → is_directory_node (change inode) ≡ is_directory_node inode
  pub attr : (inode : Option (Node ℕ)) → attr_in (change inode) ≡ attr_in inode
  pub bytes : (inode : Option (Node ℕ)) → bytes_in (change inode) ≡ bytes_in inode
  pub mark : (inode : Option (Node ℕ)) → is_opaque_in (change inode) ≡ is_opaque_in inode

-- other entries
module _ (change : Entries ℕ → Entries ℕ) where
  other_kind : (content : Content ℕ) (entries : Entries ℕ) → kind_of (with_entries content entries) ≡ kind_of content
  other_kind (Directory parent old opaque) entries = refl
  other_kind (Regular bytes) entries = refl
  other_kind (Symlink text) entries = refl
  other_kind Whiteout entries = refl

  other_bytes : (content : Content ℕ) (entries : Entries ℕ) → bytes_of (with_entries content entries) ≡ bytes_of content
  other_bytes (Directory parent old opaque) entries = refl
  other_bytes (Regular bytes) entries = refl
  other_bytes (Symlink text) entries = refl
  other_bytes Whiteout entries = refl

  other_mark : (content : Content ℕ) (entries : Entries ℕ)
      → opaque_of (with_entries content entries) ≡ opaque_of content
  other_mark (Directory parent old opaque) entries = refl
  other_mark (Regular bytes) entries = refl
  other_mark (Symlink text) entries = refl
  other_mark Whiteout entries = refl

pub entry_keeps : (name : List ℕ) (number : ℕ) → KeepsButNames (node_with_entry name number)
entry_keeps name number = grind (arith, common_steps, other_kind, other_bytes, other_mark)

pub without_entry_keeps : (name : List ℕ) → KeepsButNames (node_without_entry name)
without_entry_keeps name = grind (arith, common_steps, other_kind, other_bytes, other_mark)

pub without_entries_keeps : KeepsButNames node_without_entries
without_entries_keeps = grind (arith, common_steps, other_kind, other_bytes, other_mark)

-- another parent
module _ (parent : ℕ) where
  parent_bytes : (content : Content ℕ) → bytes_of (content_with_parent parent content) ≡ bytes_of content
  parent_bytes (Directory old entries opaque) = refl
  parent_bytes (Regular bytes) = refl
  parent_bytes (Symlink text) = refl
  parent_bytes Whiteout = refl

  parent_mark : (content : Content ℕ) → opaque_of (content_with_parent parent content) ≡ opaque_of content
  parent_mark (Directory old entries opaque) = refl
  parent_mark (Regular bytes) = refl
  parent_mark (Symlink text) = refl
  parent_mark Whiteout = refl

  pub parent_keeps : KeepsButNames (node_with_parent parent)
  parent_keeps = grind (arith, common_steps, kind_of-content_with_parent, parent_bytes, parent_mark)

pub kept_copy : (seen : Option (Node ℕ)) (files : FileTree ℕ) (number : ℕ) (change : Option (Node ℕ) → Option (Node ℕ))
    → KeepsButNames change → (inode : ℕ) → IsCopyOf seen (files.tree.node inode)
    → IsCopyOf seen ((changed_node nat_eq files number change).tree.node inode)
kept_copy seen files number change keeps inode copy = record {
  there = part-changed_node (λ o. is_some o) files number change keeps.there inode ∙ copy.there;
  kind = part-changed_node kind_in files number change keeps.kind inode ∙ copy.kind;
  attr = part-changed_node attr_in files number change keeps.attr inode ∙ copy.attr;
  bytes = part-changed_node bytes_in files number change keeps.bytes inode ∙ copy.bytes;
  mark = part-changed_node is_opaque_in files number change keeps.mark inode ∙ copy.mark;
}
