-- Rows of changes, in trees whose inodes count their uses, and in trees.
use Rattle.std.proofs.Common.{◌≡◌, ◌∙◌, ◌∷◌, [], ap, arith, Bool, cond, is_some, List, nat_eq, None, Option, refl, Some, sym, true, ℕ}
use Rattle.vt_spec.proofs.Common.{FileTree, Inode, Inodes, Node, Tree, inode_with_node, node_in, tree_of}
use Rattle.vt_spec.specs.Inodes as counting
use Rattle.vt_spec.specs.Language.Changes.{node_with_attr}
use Rattle.vt_spec.specs.Lists.{folded}
use Rattle.vt_spec.specs.Tree.{node_with_bytes, with_node}
use Rattle.vt_copyup.proofs.Changed.{inodes_after}
use Rattle.vt_fs.specs.FilesystemsValue.{ChangesInodes, Filesystems, entry_of, files_at, inodes_at}
use Rattle.vt_laws_upper_layers.specs.Rows.{after_row}
use Rattle.vt_upper.specs.Changes.{row_of}
use Rattle.vt_upper.specs.declared.changing.ObjectChange.{ObjectChange}
use Rattle.vt_upper.specs.declared.changing.ObjectChange.TheVariants.{Attr, Bytes, Copied}

-- a node is changed, and none comes or goes
pub record KeepsNodes (change : Option (Node ℕ) → Option (Node ℕ)) : Type 0 where
  pub none : change None ≡ None
  pub some : (node : Node ℕ) → is_some (change (Some node)) ≡ true

keeps_attr : (attr : Rattle.vt_spec.specs.declared.attributes.Attr.Attr) → KeepsNodes (node_with_attr attr)
keeps_attr attr = record { none = refl; some = λ node. refl }

keeps_content : (bytes : List ℕ) → KeepsNodes (node_with_bytes bytes)
keeps_content bytes = record { none = refl; some = λ node. refl }

module _ (change : Option (Node ℕ) → Option (Node ℕ)) (keeps : KeepsNodes change) (inodes : Inodes ℕ) (object : ℕ)
  where
    node_changed : (inode : Option (Inode ℕ))
        → node_in (inode_with_node (change (node_in inode)) inode) ≡ change (node_in inode)
    node_changed None = ap (λ o. node_in (inode_with_node o None)) keeps.none ∙ sym keeps.none
    node_changed (Some inode) = by (change (Some inode.node)) (keeps.some inode.node)
      where
        by : (o : Option (Node ℕ)) → is_some o ≡ true → node_in (inode_with_node o (Some inode)) ≡ o
        by None e = absurd cc
        by (Some node) e = refl

    pub tree_changed : tree_of (counting.with_changed nat_eq inodes object change)
        ≡ with_node nat_eq (tree_of inodes) object (change ((tree_of inodes).node object))
    tree_changed = λ i. record { root = inodes.root; node = λ number. by number (nat_eq number object) i }
      where
        by : (number : ℕ) (same : Bool)
            → node_in (cond same (inode_with_node (change (node_in (inodes.inode object))) (inodes.inode object))
            (inodes.inode number))
            ≡ cond same (change (node_in (inodes.inode object))) (node_in (inodes.inode number))
        by number true = node_changed (inodes.inode object)
        by number Rattle.std.proofs.Common.false = refl

-- the row of a change
pub row_tree : (change : ObjectChange) (inodes : Inodes ℕ) (files : FileTree ℕ) (object : ℕ)
    → files.tree ≡ tree_of inodes
    → tree_of (folded (counting.changed nat_eq) inodes (row_of change object))
    ≡ (after_row files (row_of change object)).tree
row_tree Copied inodes files object same = sym same
row_tree (Attr attr) inodes files object same = tree_changed (node_with_attr attr) (keeps_attr attr) inodes object
    ∙ ap (λ (t : Tree ℕ). with_node nat_eq t object (node_with_attr attr (t.node object))) (sym same)
row_tree (Bytes bytes) inodes files object same =
    tree_changed (node_with_bytes bytes.items) (keeps_content bytes.items) inodes object
    ∙ ap (λ (t : Tree ℕ). with_node nat_eq t object (node_with_bytes bytes.items (t.node object))) (sym same)

-- the tree of a filesystem after it
pub row_made : (change : ObjectChange) (count object : ℕ) (old new : Filesystems)
    → is_some (entry_of old count) ≡ true
    → ChangesInodes count (λ inodes. folded (counting.changed nat_eq) inodes (row_of change object)) old new
    → (files : FileTree ℕ) → (files_at old count).tree ≡ files.tree
    → (files_at new count).tree ≡ (after_row files (row_of change object)).tree
row_made change count object old new there changes files same =
    ap tree_of (inodes_after count (λ inodes. folded (counting.changed nat_eq) inodes (row_of change object)) old new
    changes there)
    ∙ row_tree change (inodes_at old count) files object (sym same)
