-- What stands in the upper layer where a name was, and what a mark changes.
use Rattle.std.proofs.Common.{arith, ◌≡◌, ◌≢◌, refl, sym, ap, ◌∙◌, true≢false, ℕ, nat_eq, ne_eqb, Bool, true, false, cond, not, ◌||◌, List, [], ◌∷◌, Option, Some, None, is_some, is_eq, bytes_eq}
use Rattle.vt_spec.proofs.Common.{Content, Directory, Entries, FileTree, Fresh, Node, Regular, Shown, Stack, Symlink, Whiteout, bytes_decides, changed_node, common_steps, entries-node_with_entry, entries-node_with_mark, entries-node_with_parent, entries-node_without_entries, entries_in, entries_of, entry_at, entry_named, entry_named-with_entry, entry_named-without_entry, eq_by_cmp, is_directory_node, is_opaque_in, name_cmp, name_left_by, nat_list_cmp_total, node_set, node_with_entry, node_with_mark, node_with_parent, node_without_entries, node_without_entry, part-changed_node, texts_ties, tied_itself, whiteout_of, with_entries, with_inode, with_mark, with_moved, with_name, without_contents, without_entry, without_name, without_parent}
use Rattle.vt_spec.proofs.Nodes.{same_name}
use Rattle.vt_laws_trees.specs.Layers.Layers.ChangesUpper.{IsLeftBy}
use Rattle.vt_laws_trees.proofs.layers.layers.CopyingParts.{KeepsButNames, entry_keeps, parent_keeps, without_entries_keeps, without_entry_keeps}
use Rattle.vt_laws_trees.proofs.layers.layers.LowersKept.{kept_elsewhere}

-- a name that was taken out is not there
name_gone : (name : List ℕ) (entries : Entries ℕ) → entry_named name (without_entry name entries) ≡ None
name_gone name [] = refl
name_gone name (entry ∷ entries) = by (bytes_eq entry.0 name) refl (name_gone name entries)
  where
    other : bytes_eq entry.0 name ≡ false → (tied : Bool) → eq_by_cmp name_cmp name entry.0 ≡ tied
        → cond tied (Some entry.1) (entry_named name (without_entry name entries))
        ≡ entry_named name (without_entry name entries)
    other e false t = refl
    other e true t = absurd (true≢false (sym (texts_ties entry.0 name
        ∙ ap (λ n. eq_by_cmp name_cmp n name) (sym (same_name name entry.0 t))
        ∙ ap is_eq (tied_itself nat_list_cmp_total name)) ∙ e))

    by : (b : Bool) → bytes_eq entry.0 name ≡ b → entry_named name (without_entry name entries) ≡ None
        → entry_named name (cond (not b) (entry ∷ without_entry name entries) (without_entry name entries)) ≡ None
    by true e rest = rest
    by false e rest = other e (eq_by_cmp name_cmp name entry.0) refl ∙ rest

no_name_left : (name : List ℕ) (inode : Option (Node ℕ))
    → entry_named name (entries_in (node_without_entry name inode)) ≡ None
no_name_left name None = refl
no_name_left name (Some node) = grind (arith, common_steps, name_gone)

-- a name that was put in is there
pub name_put : (name : List ℕ) (number : ℕ) (inode : Option (Node ℕ)) → is_directory_node inode ≡ true
    → entry_named name (entries_in (node_with_entry name number inode)) ≡ Some number
name_put name number inode d = ap (entry_named name) (entries-node_with_entry name number inode d)
    ∙ entry_named-with_entry name name number (entries_in inode)
    ∙ ap (λ b. cond b (Some number) (entry_named name (entries_in inode)))
    (ap is_eq (tied_itself nat_list_cmp_total name))

-- other names lead where they led
differ_by_cmp : (name other : List ℕ) → name ≢ other → eq_by_cmp name_cmp name other ≡ false
differ_by_cmp name other differ = grind (arith, common_steps, same_name)

pub name_stays_put : (name other : List ℕ) (number : ℕ) (inode : Option (Node ℕ)) → name ≢ other
    → entry_named name (entries_in (node_with_entry other number inode)) ≡ entry_named name (entries_in inode)
name_stays_put name other number None differ = refl
name_stays_put name other number (Some node) differ = grind (arith, common_steps, entry_named-with_entry, differ_by_cmp)

pub name_stays_without : (name other : List ℕ) (inode : Option (Node ℕ)) → name ≢ other
    → entry_named name (entries_in (node_without_entry other inode)) ≡ entry_named name (entries_in inode)
name_stays_without name other None differ = refl
name_stays_without name other (Some node) differ = by node.content
  where
    apart : (b : Bool) → bytes_eq name other ≡ b → bytes_eq name other ≡ false
    apart true e = absurd (differ ((bytes_decides name other).0 e))
    apart false e = e

    by : (content : Content ℕ) → entry_named name
        (entries_of (with_entries content (without_entry other (entries_of content))))
        ≡ entry_named name (entries_of content)
    by (Directory parent entries opaque) = cc (entry_named-without_entry name other entries, apart _ refl)
    by (Regular bytes) = refl
    by (Symlink text) = refl
    by Whiteout = refl

-- where a name was, with the number of the whiteout
abbrev pub LeftWith : ℕ → Option (Shown ℕ) → Stack ℕ → FileTree ℕ → ℕ → List ℕ → Type 0
LeftWith number None stack upper directory name = entry_at upper.tree directory name ≡ None
LeftWith number (Some seen) stack upper directory name =
    (entry_at upper.tree directory name ≡ Some number) × (upper.tree.node number ≡ Some (whiteout_of stack.mounter))

pub is_left_by : (number : ℕ) (below : Option (Shown ℕ)) (stack : Stack ℕ) (upper : FileTree ℕ) (directory : ℕ)
    (name : List ℕ) → LeftWith number below stack upper directory name → IsLeftBy below stack upper directory name
is_left_by number None stack upper directory name left = left
is_left_by number (Some seen) stack upper directory name left = (number, left.0, left.1)

pub left_where : (fresh : Fresh ℕ) (below : Option (Shown ℕ)) (stack : Stack ℕ) (upper : FileTree ℕ) (directory : ℕ)
    (name : List ℕ) → is_directory_node (upper.tree.node directory) ≡ true → directory ≢ fresh 0
    → LeftWith (fresh 0) below stack
    (name_left_by nat_eq (is_some below) fresh stack upper directory name) directory name
left_where fresh below stack upper directory name d differ =
    grind (arith, common_steps, node_set, no_name_left, ne_eqb, name_put, kept_elsewhere)

-- it stays, where the directory's entries and the whiteout do
pub left_stays : (number : ℕ) (below : Option (Shown ℕ)) (stack : Stack ℕ) (upper later : FileTree ℕ) (directory : ℕ)
    (name : List ℕ) → entries_in (later.tree.node directory) ≡ entries_in (upper.tree.node directory)
    → later.tree.node number ≡ upper.tree.node number
    → LeftWith number below stack upper directory name → LeftWith number below stack later directory name
left_stays number None stack upper later directory name e f left = cc
left_stays number (Some seen) stack upper later directory name e f left = (cc (left.0), f ∙ left.1)

-- where a name is left, every other inode is as it was
pub left_elsewhere : (hidden : Bool) (fresh : Fresh ℕ) (stack : Stack ℕ) (upper : FileTree ℕ) (directory : ℕ)
    (name : List ℕ) (inode : ℕ) → inode ≢ directory → inode ≢ fresh 0
    → (name_left_by nat_eq hidden fresh stack upper directory name).tree.node inode ≡ upper.tree.node inode
left_elsewhere hidden fresh stack upper directory name inode differ new =
    grind (arith, common_steps, kept_elsewhere, ne_eqb)

pub emptied_is_empty : (upper : FileTree ℕ) (replaced : Option ℕ) (object : ℕ) → replaced ≡ Some object
    → entries_in ((without_contents nat_eq upper replaced).tree.node object) ≡ []
emptied_is_empty upper replaced object e =
    grind (arith, common_steps, part-changed_node, entries-node_with_parent, node_set, entries-node_without_entries)

pub emptied_other : (upper : FileTree ℕ) (replaced : Option ℕ) (inode : ℕ) → replaced ≢ Some inode
    → (without_contents nat_eq upper replaced).tree.node inode ≡ upper.tree.node inode
emptied_other upper None inode differ = refl
emptied_other upper (Some object) inode differ =
    let other = ne_eqb inode object (λ e. differ (ap Some (sym e))) in
    kept_elsewhere (changed_node nat_eq upper object node_without_entries) object (node_with_parent object) inode other
    ∙ kept_elsewhere upper object node_without_entries inode other

pub marked_entries : (mark : Bool) (upper : FileTree ℕ) (object inode : ℕ)
    → entries_in ((with_mark nat_eq mark upper object).tree.node inode) ≡ entries_in (upper.tree.node inode)
marked_entries true upper object inode =
    part-changed_node entries_in upper object (node_with_mark true) (entries-node_with_mark true) inode
marked_entries false upper object inode = refl

pub marked_other : (mark : Bool) (upper : FileTree ℕ) (object inode : ℕ) → inode ≢ object
    → (with_mark nat_eq mark upper object).tree.node inode ≡ upper.tree.node inode
marked_other true upper object inode differ =
    kept_elsewhere upper object (node_with_mark true) inode (ne_eqb inode object differ)
marked_other false upper object inode differ = refl

pub directory_marked : (inode : Option (Node ℕ)) → is_directory_node inode ≡ true
    → is_opaque_in (node_with_mark true inode) ≡ true
directory_marked None d = cc
directory_marked (Some node) d = grind (arith, common_steps, true≢false)

pub marked_itself : (mark : Bool) (upper : FileTree ℕ) (object : ℕ) → is_directory_node (upper.tree.node object) ≡ true
    → is_opaque_in ((with_mark nat_eq mark upper object).tree.node object)
    ≡ (mark || is_opaque_in (upper.tree.node object))
marked_itself true upper object d = ap is_opaque_in (node_set upper.tree object _) ∙ directory_marked _ d
marked_itself false upper object d = refl

-- A part of inodes that new names and parents leave is the same in all of the upper tree but at the new whiteout.
module _ {A : Type 0} (part : Option (Node ℕ) → A)
    (keeps : (change : Option (Node ℕ) → Option (Node ℕ)) → KeepsButNames change → (inode : Option (Node ℕ))
    → part (change inode) ≡ part inode) where
  pub emptied_part : (upper : FileTree ℕ) (replaced : Option ℕ) (inode : ℕ)
      → part ((without_contents nat_eq upper replaced).tree.node inode) ≡ part (upper.tree.node inode)
  emptied_part upper None inode = refl
  emptied_part upper (Some object) inode =
      part-changed_node part (changed_node nat_eq upper object node_without_entries) object (node_with_parent object)
      (keeps (node_with_parent object) (parent_keeps object)) inode
      ∙ part-changed_node part upper object node_without_entries
      (keeps node_without_entries without_entries_keeps) inode

  pub freed_part : (upper : FileTree ℕ) (object : Option ℕ) (inode : ℕ)
      → part ((without_parent nat_eq upper object).tree.node inode) ≡ part (upper.tree.node inode)
  freed_part upper None inode = refl
  freed_part upper (Some object) inode = part-changed_node part upper object (node_with_parent object)
      (keeps (node_with_parent object) (parent_keeps object)) inode

  pub moved_part : (upper : FileTree ℕ) (from : ℕ) (old : List ℕ) (to : ℕ) (name : List ℕ) (object inode : ℕ)
      → part ((with_moved nat_eq upper from old to name object).tree.node inode) ≡ part (upper.tree.node inode)
  moved_part upper from old to name object inode =
      let freed = without_parent nat_eq upper (entry_named name (entries_in (upper.tree.node to))) in
      let left = without_name nat_eq freed from old in
      part-changed_node part (with_name nat_eq left to name object)
      object (node_with_parent to) (keeps (node_with_parent to) (parent_keeps to)) inode ∙ part-changed_node part
      left to (node_with_entry name object) (keeps _ (entry_keeps name object)) inode ∙ part-changed_node part
      freed from (node_without_entry old) (keeps _ (without_entry_keeps old)) inode ∙ freed_part upper _ inode

  pub left_part : (hidden : Bool) (fresh : Fresh ℕ) (stack : Stack ℕ) (upper : FileTree ℕ) (directory : ℕ)
      (name : List ℕ) (inode : ℕ) → inode ≢ fresh 0
      → part ((name_left_by nat_eq hidden fresh stack upper directory name).tree.node inode)
      ≡ part (upper.tree.node inode)
  left_part true fresh stack upper directory name inode differ =
      part-changed_node part (with_inode nat_eq upper (fresh 0) (whiteout_of stack.mounter)) directory
      (node_with_entry name (fresh 0)) (keeps (node_with_entry name (fresh 0)) (entry_keeps name (fresh 0))) inode
      ∙ ap part (ap (λ b. cond b (Some (whiteout_of stack.mounter)) (upper.tree.node inode))
      (ne_eqb inode (fresh 0) differ))
  left_part false fresh stack upper directory name inode differ =
      part-changed_node part upper directory (node_without_entry name)
      (keeps (node_without_entry name) (without_entry_keeps name)) inode
