-- What plans make of an object without a name is what the definitions' changes make of it.
use Rattle.std.proofs.Common.{◌≡◌, ◌∙◌, ap, Bool, cond, false, is_some, List, nat_eq, refl, Some, sym, true, ℕ}
use Rattle.vt_spec.proofs.Common.{Content, FileTree, Fresh, Inodes, Lower, Node, Stack, Upper, changed_node, nat_eq_itself, node_in, tree_of, with_inode}
use Rattle.vt_spec.specs.Language.Changes.{node_with_attr}
use Rattle.vt_spec.specs.Tree.{node_with_bytes, with_node}
use Rattle.vt_spec.specs.Tree.Content.{Directory, Regular, Symlink, Whiteout}
use Rattle.vt_laws_upper_layers.specs.Rows.{after_row}
use Rattle.vt_laws_worlds.specs.Merging.UpperCalls.{changed_above}
use Rattle.vt_laws_worlds.specs.Merging.UpperChanges.{copy_node, held_over, node_below}
use Rattle.vt_laws_worlds.specs.Merging.UpperChanges.Place.{Held}
use Rattle.vt_copyup.specs.Copied.{copied}
use Rattle.vt_copyup.proofs.Changed.{inodes_after, still_there}
use Rattle.vt_fs.specs.FilesystemsValue.{entry_of, files_at, inodes_at}
use Rattle.vt_fs.specs.Trees.TreeValue.{with_unnamed}
use Rattle.vt_location.specs.declared.locations.InodeRef.{InodeRef}
use Rattle.vt_location.specs.Locations.{inode_of}
use Rattle.vt_upper.specs.Changes.{keeps_bytes, row_of}
use Rattle.vt_upper.specs.KeptLaws.{KeptChangesAboveAreMade, KeptChangesBelowAreMade}
use Rattle.vt_upper.specs.Laws.{change_at}
use Rattle.vt_upper.specs.declared.changing.ObjectChange.{ObjectChange}
use Rattle.vt_upper.specs.declared.changing.ObjectChange.TheVariants.{Attr, Bytes, Copied}
use Rattle.vt_upper.proofs.ChangesMade.{written-copied}
use Rattle.vt_upper.proofs.RowsMade.{row_made}

-- an inode more, in trees whose inodes count their uses and in trees
unnamed_tree : (inodes : Inodes ℕ) (number : ℕ) (node : Node ℕ)
    → tree_of (with_unnamed nat_eq inodes number node) ≡ with_node nat_eq (tree_of inodes) number (Some node)
unnamed_tree inodes number node = λ i. record { root = inodes.root; node = λ m. by m (nat_eq m number) i }
  where
    by : (m : ℕ) (b : Bool)
        → node_in (cond b (Some (record { node = node; uses = 1 })) (inodes.inode m))
        ≡ cond b (Some node) (node_in (inodes.inode m))
    by m true = refl
    by m false = refl

-- what is copied is copied once more alike
copied_twice : (number : ℕ) (node : Node ℕ) → copy_node number (copied true node) ≡ copy_node number node
copied_twice number node = by node.content
  where
    by : (content : Content ℕ)
        → copy_node number (copied true (record { attr = node.attr; content = content }))
        ≡ copy_node number (record { attr = node.attr; content = content })
    by (Directory parent entries opaque) = refl
    by (Regular bytes) = refl
    by (Symlink text) = refl
    by Whiteout = refl

module _ (upper : FileTree ℕ) (number : ℕ) (node : Node ℕ) where
  abbrev with_copy : Node ℕ → FileTree ℕ
  with_copy made = with_inode nat_eq upper number made

  written_alike : (bytes : List ℕ) (m : ℕ)
      → (changed_node nat_eq (with_copy (copy_node number (copied false node))) number (node_with_bytes bytes)).tree.node m
      ≡ (changed_node nat_eq (with_copy (copy_node number node)) number (node_with_bytes bytes)).tree.node m
  written_alike bytes m = by (nat_eq m number) (nat_eq number number) (nat_eq_itself number)
    where
      by : (b c : Bool) → c ≡ true
          → cond b (node_with_bytes bytes (cond c (Some (copy_node number (copied false node))) (upper.tree.node number)))
          (cond b (Some (copy_node number (copied false node))) (upper.tree.node m))
          ≡ cond b (node_with_bytes bytes (cond c (Some (copy_node number node)) (upper.tree.node number)))
          (cond b (Some (copy_node number node)) (upper.tree.node m))
      by true true e = sym (written-copied number bytes node)
      by true false e = absurd cc
      by false c e = refl

  -- the tree after each kind of change
  after_change : (change : ObjectChange)
      → (after_row (with_copy (copy_node number (copied (keeps_bytes change) node))) (row_of change number)).tree
      ≡ (after_row (with_copy (copy_node number node)) (row_of change number)).tree
  after_change Copied = ap (λ n. (with_copy n).tree) (copied_twice number node)
  after_change (Attr attr) = ap (λ n. (changed_node nat_eq (with_copy n) number (node_with_attr attr)).tree)
      (copied_twice number node)
  after_change (Bytes bytes) = λ i. record { root = upper.tree.root; node = λ m. written_alike bytes.items m i }

-- the definitions' change
above_is : (fresh : Fresh ℕ) (stack : Stack ℕ) (upper : FileTree ℕ) (layer : ℕ) (path : List (List ℕ)) (node : Node ℕ)
    → node_below stack layer path ≡ Some node → (change : ObjectChange)
    → after_row (with_inode nat_eq upper (fresh 0) (copy_node (fresh 0) node)) (row_of change (fresh 0))
    ≡ changed_above fresh stack upper (change_at change (Held (Lower layer path)))
above_is fresh stack upper layer path node below Copied = ap (held_over fresh upper) (sym below)
above_is fresh stack upper layer path node below (Attr attr) =
    ap (λ o. changed_node nat_eq (held_over fresh upper o) (fresh 0) (node_with_attr attr)) (sym below)
above_is fresh stack upper layer path node below (Bytes bytes) =
    ap (λ o. changed_node nat_eq (held_over fresh upper o) (fresh 0) (node_with_bytes bytes.items)) (sym below)

pub kept_below : KeptChangesBelowAreMade
kept_below fresh stack upper layer path node promised copy change births after births_after object same there below copied_is
    changed numbered =
    let f = copy.upper.count in
    let o = inode_of object in
    let made = changed.made in
    let between : (files_at changed.between f).tree ≡ (with_inode nat_eq upper o (copy_node o copy.node)).tree =
    ap tree_of (inodes_after f (λ inodes. with_unnamed nat_eq inodes o (copy_node o copy.node)) promised changed.between
    made.made there)
    ∙ unnamed_tree (inodes_at promised f) o (copy_node o copy.node)
    ∙ ap (λ (files : FileTree ℕ). with_node nat_eq files.tree o (Some (copy_node o copy.node))) (sym same) in
    row_made change f o changed.between after
    (still_there f (λ inodes. with_unnamed nat_eq inodes o (copy_node o copy.node)) promised changed.between made.made there)
    changed.row (with_inode nat_eq upper o (copy_node o copy.node)) between
    ∙ (λ i. (after_row (with_inode nat_eq upper (numbered i) (copy_node (numbered i) (copied_is i)))
    (row_of change (numbered i))).tree)
    ∙ after_change upper (fresh 0) node change
    ∙ ap (λ (files : FileTree ℕ). files.tree) (above_is fresh stack upper layer path node below change)

-- the definitions' change of what is in the upper layer
there_is : (fresh : Fresh ℕ) (stack : Stack ℕ) (upper : FileTree ℕ) (number : ℕ) (change : ObjectChange)
    → after_row upper (row_of change number) ≡ changed_above fresh stack upper (change_at change (Held (Upper number)))
there_is fresh stack upper number Copied = refl
there_is fresh stack upper number (Attr attr) = refl
there_is fresh stack upper number (Bytes bytes) = refl

pub kept_above : KeptChangesAboveAreMade
kept_above fresh stack upper promised there change births after births_after object same exists changed =
    let f = there.filesystem.count in
    let still = changed.made in
    row_made change f (inode_of object) changed.between after
    (ap (λ trees. is_some (entry_of trees f)) still.trees_stay ∙ exists) changed.row upper
    (ap (λ trees. (files_at trees f).tree) still.trees_stay ∙ ap (λ (files : FileTree ℕ). files.tree) (sym same))
    ∙ ap (λ (o : InodeRef). (after_row upper (row_of change (inode_of o))).tree) still.object_is
    ∙ ap (λ (files : FileTree ℕ). files.tree) (there_is fresh stack upper (inode_of there) change)
