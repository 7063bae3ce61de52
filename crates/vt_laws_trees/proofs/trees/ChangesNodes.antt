-- What an inode keeps when it loses an entry, its entries, or gets another parent, attributes or mark.
use Rattle.std.proofs.Common.{arith, ◌≡◌, ◌≢◌, refl, ℕ, nat_eq, Bool, Option, Some, None, is_some}
use Rattle.vt_spec.proofs.Common.{Content, Directory, FileTree, Node, Regular, Symlink, Whiteout, changed_node, common_steps, content_with_mark, entries_in, entries_of, is_directory, is_directory_node, kind_of, node_other, node_set, node_with_attr, node_with_mark, node_with_parent, parent_in, parent_of, part_kept}
use Rattle.vt_spec.specs.declared.attributes.Attr.{Attr}

-- a change of a node that keeps its kind, entries and parent, and that it is there
pub record KeepsPlace (change : Option (Node ℕ) → Option (Node ℕ)) : Type 0 where
  pub kind : (o : Option (Node ℕ)) → is_directory_node (change o) ≡ is_directory_node o
  pub used : (o : Option (Node ℕ)) → is_some (change o) ≡ is_some o
  pub entries : (o : Option (Node ℕ)) → entries_in (change o) ≡ entries_in o
  pub parent : (own : ℕ) (o : Option (Node ℕ)) → parent_in own (change o) ≡ parent_in own o

-- what a change of one inode keeps of it is kept at every inode
pub part_stays : {A : Type 0} (files : FileTree ℕ) (number : ℕ) (change : Option (Node ℕ) → Option (Node ℕ))
    (part : Option (Node ℕ) → A) → ((o : Option (Node ℕ)) → part (change o) ≡ part o)
    → (other : ℕ) → part ((changed_node nat_eq files number change).tree.node other) ≡ part (files.tree.node other)
part_stays files number change part same other = part_kept part files.tree number _ (same _) other

-- the changed inode itself, and the others
pub changed_node_there : (files : FileTree ℕ) (number : ℕ) (change : Option (Node ℕ) → Option (Node ℕ))
    → (changed_node nat_eq files number change).tree.node number ≡ change (files.tree.node number)
changed_node_there files number change = node_set files.tree number (change (files.tree.node number))

pub elsewhere : (files : FileTree ℕ) (number : ℕ) (change : Option (Node ℕ) → Option (Node ℕ)) (other : ℕ)
    → other ≢ number → (changed_node nat_eq files number change).tree.node other ≡ files.tree.node other
elsewhere files number change other differ = node_other files.tree number (change (files.tree.node number)) other differ

-- other attributes
pub attr_keeps_place : (attr : Attr) → KeepsPlace (node_with_attr attr)
attr_keeps_place attr = grind (arith, common_steps)

-- another mark
module _ (opaque : Bool) where
  mark_kind : (content : Content ℕ)
      → is_directory (kind_of (content_with_mark opaque content)) ≡ is_directory (kind_of content)
  mark_kind (Directory parent entries old) = refl
  mark_kind (Regular bytes) = refl
  mark_kind (Symlink text) = refl
  mark_kind Whiteout = refl

  mark_entries : (content : Content ℕ) → entries_of (content_with_mark opaque content) ≡ entries_of content
  mark_entries (Directory parent entries old) = refl
  mark_entries (Regular bytes) = refl
  mark_entries (Symlink text) = refl
  mark_entries Whiteout = refl

  mark_parent : (own : ℕ) (content : Content ℕ)
      → parent_of own (content_with_mark opaque content) ≡ parent_of own content
  mark_parent own (Directory parent entries old) = refl
  mark_parent own (Regular bytes) = refl
  mark_parent own (Symlink text) = refl
  mark_parent own Whiteout = refl

  pub mark_keeps_place : KeepsPlace (node_with_mark opaque)
  mark_keeps_place = grind (arith, common_steps, mark_kind, mark_entries, mark_parent)

-- with itself as the parent, it is its own
pub own_parent-node_with_parent : (own : ℕ) (o : Option (Node ℕ)) → parent_in own (node_with_parent own o) ≡ own
own_parent-node_with_parent own None = refl
own_parent-node_with_parent own (Some node) = grind (arith, common_steps)
