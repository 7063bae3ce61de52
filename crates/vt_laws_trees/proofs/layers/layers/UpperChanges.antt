-- A change of an overlay writes to new inodes and to objects of the upper layer alone.
use Rattle.std.proofs.Common.{arith, ◌≡◌, ◌≢◌, refl, sym, ap, subst, ◌∙◌, true≢false, ℕ, ◌+◌, ◌*◌, nat_eq, ne_eqb, Bool, true, false, cond, List, Option, Some, None, is_some}
use Rattle.vt_spec.proofs.Common.{AddName, Change, CopyUp, FileTree, Fresh, IsTree, ListsNumbers, Make, Merge, Move, Node, Real, Remove, SetAttr, SetBytes, SetMark, Stack, a_name, changed_both, changed_node, common_steps, copied_up, entries_in, entry_at, entry_named, evens, hides_directory, merge_changed, merge_with_link, merge_with_moved, merge_with_new, merge_without_name, name_left_by, node_with_attr, node_with_bytes, node_with_entry, node_with_mark, node_with_parent, node_without_entries, odds, shown_in_lowers_at, upper_directory_named, upper_of, with_inode, with_mark, with_moved, without_contents}
use Rattle.vt_laws_trees.specs.Layers.Layers.Untouched.{IsKept}
use Rattle.vt_laws_trees.specs.Layers.Layers.Upper.{SpeaksOfWhatIsThere}
use Rattle.vt_laws_trees.proofs.layers.layers.LowersKept.{kept_both, kept_elsewhere, kept_moved, kept_same}
use Rattle.vt_laws_trees.proofs.layers.layers.UpperCopies.{HasUpper, IsApart, MergeOf, up_arrives, upper_differs}

-- Changes of the upper tree that are not of the inode
module _ (inode : ℕ) where
  marked_elsewhere : (mark : Bool) (upper : FileTree ℕ) (object : ℕ) → nat_eq inode object ≡ false
      → (with_mark nat_eq mark upper object).tree.node inode ≡ upper.tree.node inode
  marked_elsewhere true upper object e = kept_elsewhere upper object (node_with_mark true) inode e
  marked_elsewhere false upper object e = refl

  inode_elsewhere : (upper : FileTree ℕ) (number : ℕ) (node : Node ℕ) → nat_eq inode number ≡ false
      → (with_inode nat_eq upper number node).tree.node inode ≡ upper.tree.node inode
  inode_elsewhere upper number node e = ap (λ b. cond b (Some node) (upper.tree.node inode)) e

  left_elsewhere : (hidden : Bool) (fresh : Fresh ℕ) (stack : Stack ℕ) (upper : FileTree ℕ) (directory : ℕ)
      (name : List ℕ) → nat_eq inode (fresh 0) ≡ false → nat_eq inode directory ≡ false
      → (name_left_by nat_eq hidden fresh stack upper directory name).tree.node inode ≡ upper.tree.node inode
  left_elsewhere true fresh stack upper directory name new e =
      grind (arith, common_steps, kept_elsewhere, inode_elsewhere)
  left_elsewhere false fresh stack upper directory name new e = grind (arith, common_steps, kept_elsewhere)

  emptied_elsewhere : (upper : FileTree ℕ) (object : Option ℕ)
      → ((number : ℕ) → object ≡ Some number → nat_eq inode number ≡ false)
      → (without_contents nat_eq upper object).tree.node inode ≡ upper.tree.node inode
  emptied_elsewhere upper None e = refl
  emptied_elsewhere upper (Some object) e =
      kept_elsewhere (changed_node nat_eq upper object node_without_entries) object (node_with_parent object) inode
      (e object refl) ∙ kept_elsewhere upper object node_without_entries inode (e object refl)

  -- a move of another object between other directories, not over the inode
  moved_elsewhere : (files : FileTree ℕ) (from : ℕ) (old : List ℕ) (to : ℕ) (name : List ℕ) (object : ℕ)
      → nat_eq inode from ≡ false → nat_eq inode to ≡ false → nat_eq inode object ≡ false
      → entry_named name (entries_in (files.tree.node to)) ≢ Some inode
      → (with_moved nat_eq files from old to name object).tree.node inode ≡ files.tree.node inode
  moved_elsewhere files from old to name object f t o spared = grind (arith, common_steps, kept_elsewhere)

module _ (files : FileTree ℕ) (tree : IsTree files.tree) (numbers : ListsNumbers nat_eq files) (inode : ℕ)
    (node : Option (Node ℕ)) where
  abbrev Apart : (ℕ → Option (Real ℕ)) → FileTree ℕ → Type 0
  Apart = IsApart files tree numbers inode node

  abbrev With : (ℕ → Option (Real ℕ)) → FileTree ℕ → Merge ℕ
  With real upper = MergeOf files tree numbers inode node real upper

  -- the object of the upper layer that a name stands for is not the inode
  replaced_differs : (real : ℕ → Option (Real ℕ)) (upper : FileTree ℕ) → Apart real upper
      → (directory : ℕ) (name : List ℕ) (number : ℕ)
      → upper_directory_named (With real upper) directory name ≡ Some number → nat_eq inode number ≡ false
  replaced_differs real upper fine directory name number e = grind (arith, common_steps, true≢false)

  module _ (fresh : Fresh ℕ) (new : (k : ℕ) → inode ≢ fresh k) (stack : Stack ℕ) (real : ℕ → Option (Real ℕ))
      (upper : FileTree ℕ) (fine : Apart real upper) where
    made_keeps : (directory : ℕ) (name : List ℕ) (number : ℕ) (object : Node ℕ) → HasUpper real directory
        → (merge_with_new nat_eq fresh stack (With real upper) directory name number object).upper.tree.node inode
        ≡ node
    made_keeps directory name number object has =
        grind (arith, common_steps, marked_elsewhere, ne_eqb, kept_elsewhere, upper_differs, inode_elsewhere)

    linked_keeps : (directory : ℕ) (name : List ℕ) (object : ℕ) → HasUpper real directory
        → (merge_with_link nat_eq (With real upper) directory name object).upper.tree.node inode ≡ node
    linked_keeps directory name object has = kept_elsewhere upper (upper_of (With real upper) directory)
        (node_with_entry name (upper_of (With real upper) object)) inode
        (upper_differs files tree numbers inode node real upper fine directory has) ∙ fine.here

    removed_keeps : (directory : ℕ) (name : List ℕ) (object : ℕ) → HasUpper real directory
        → (merge_without_name nat_eq fresh stack (With real upper) directory name object).upper.tree.node inode ≡ node
    removed_keeps directory name object has = emptied_elsewhere inode _ _
        (replaced_differs real upper fine directory name) ∙ left_elsewhere inode _ fresh stack upper _ name
        (ne_eqb inode (fresh 0) (new 0)) (upper_differs files tree numbers inode node real upper fine _ has) ∙ fine.here

    moved_keeps : (from : ℕ) (old : List ℕ) (to : ℕ) (name : List ℕ) (object : ℕ) → HasUpper real from
        → HasUpper real to → HasUpper real object
        → IsKept node ((merge_with_moved nat_eq fresh stack (With real upper) from old to name object).upper.tree.node
        inode)
    moved_keeps from old to name object f t o =
        let freed = without_contents nat_eq upper (upper_directory_named (With real upper) to name) in
        let from_differs = upper_differs files tree numbers inode node real upper fine from f in
        let away = with_moved nat_eq freed (upper_of (With real upper) from) old (upper_of (With real upper) to) name
        (upper_of (With real upper) object) in
        kept_both node (freed.tree.node inode) _ (kept_same node (freed.tree.node inode)
        (emptied_elsewhere inode upper _ (replaced_differs real upper fine to name) ∙ fine.here)) (kept_both
        (freed.tree.node inode) (away.tree.node inode) _ (kept_moved freed _ old (upper_of (With real upper) to)
        name _ inode from_differs (upper_differs files tree numbers inode node real upper fine to t)) (kept_same
        (away.tree.node inode) _ (marked_elsewhere inode (hides_directory nat_eq stack (With real upper) to name) _
        (upper_of (With real upper) object) (upper_differs files tree numbers inode node real upper fine object o)
        ∙ left_elsewhere inode (is_some (shown_in_lowers_at nat_eq stack (With real upper) from old))
        fresh stack away (upper_of (With real upper) from) old (ne_eqb inode (fresh 0) (new 0)) from_differs)))

    -- nothing of it changes, its parent neither, where it is not what the new name had
    pub moved_leaves : (from : ℕ) (old : List ℕ) (to : ℕ) (name : List ℕ) (object : ℕ) → HasUpper real from
        → HasUpper real to → HasUpper real object → entry_named name (entries_in
        ((without_contents nat_eq upper (upper_directory_named (With real upper) to name)).tree.node
        (upper_of (With real upper) to))) ≢ Some inode
        → (merge_with_moved nat_eq fresh stack (With real upper) from old to name object).upper.tree.node inode ≡ node
    moved_leaves from old to name object f t o spared =
        let freed = without_contents nat_eq upper (upper_directory_named (With real upper) to name) in
        let from_differs = upper_differs files tree numbers inode node real upper fine from f in
        let object_differs = upper_differs files tree numbers inode node real upper fine object o in
        let away = with_moved nat_eq freed (upper_of (With real upper) from) old (upper_of (With real upper) to) name
        (upper_of (With real upper) object) in
        marked_elsewhere inode (hides_directory nat_eq stack (With real upper) to name) _ _ object_differs
        ∙ left_elsewhere inode (is_some (shown_in_lowers_at nat_eq stack (With real upper) from old)) fresh stack
        away (upper_of (With real upper) from) old (ne_eqb inode (fresh 0) (new 0)) from_differs ∙ moved_elsewhere inode
        freed _ old _ name _ from_differs (upper_differs files tree numbers inode node real upper fine to t)
        object_differs spared ∙ emptied_elsewhere inode upper _ (replaced_differs real upper fine to name) ∙ fine.here

    changed_both_keeps : (object : ℕ) (change : Option (Node ℕ) → Option (Node ℕ)) → HasUpper real object
        → (changed_both nat_eq (With real upper) object change).upper.tree.node inode ≡ node
    changed_both_keeps object change has = kept_elsewhere upper (upper_of (With real upper) object) change inode
        (upper_differs files tree numbers inode node real upper fine object has) ∙ fine.here

  -- each change, after what it asks to be copied was copied
  module _ (fresh : Fresh ℕ) (new : (k : ℕ) → inode ≢ fresh k) (stack : Stack ℕ) (real : ℕ → Option (Real ℕ))
      (upper : FileTree ℕ) (fine : Apart real upper)
      (Kept : Option (Node ℕ) → Type 0) (same : (o : Option (Node ℕ)) → o ≡ node → Kept o) (change_made : Change ℕ)
      (moves : (from : ℕ) (old : List ℕ) (to : ℕ) (name : List ℕ) (object : ℕ)
      → Move from old to name object ≡ change_made → (moved_real : ℕ → Option (Real ℕ)) (moved_upper : FileTree ℕ)
      → copied_up nat_eq (evens (odds fresh)) (copied_up nat_eq (evens fresh) (With real upper) object) to
      ≡ With moved_real moved_upper
      → Apart moved_real moved_upper → HasUpper moved_real from → HasUpper moved_real to → HasUpper moved_real object
      → Kept ((merge_with_moved nat_eq (odds (odds fresh)) stack
      (With moved_real moved_upper) from old to name object).upper.tree.node inode)) where
    abbrev After : Merge ℕ → Type 0
    After merge = Kept (merge.upper.tree.node inode)

    changed_keeps : (object : ℕ) (change : Option (Node ℕ) → Option (Node ℕ)) → is_some (files.tree.node object) ≡ true
        → After (changed_both nat_eq (copied_up nat_eq fresh (With real upper) object) object change)
    changed_keeps object change there =
        let copied = (up_arrives files tree numbers inode node fresh new real upper fine object there).arrives in
        subst (λ m. After (changed_both nat_eq m object change)) (sym copied.is)
        (same _ (changed_both_keeps fresh new stack copied.real copied.upper copied.fine object change copied.copied))

    each_keeps : (change : Change ℕ) → change ≡ change_made → SpeaksOfWhatIsThere files change
        → ((from : ℕ) (old : List ℕ) (object : ℕ) → entry_at files.tree from old ≡ Some object
        → (later : ℕ → Option (Real ℕ)) → ((number : ℕ) → HasUpper real number → HasUpper later number)
        → HasUpper later object → ((name : ℕ × List ℕ) → a_name nat_eq files object ≡ Some name
        → HasUpper later name.0) → HasUpper later from)
        → After (merge_changed nat_eq fresh stack (With real upper) change)
    each_keeps (Make directory name number object) is there from_too =
        let copied = (up_arrives files tree numbers inode node _ (λ k. new (2 * k)) real upper fine _ there).arrives in
        subst (λ m. After (merge_with_new nat_eq (odds fresh) stack m directory name number object)) (sym copied.is)
        (same _ (made_keeps (odds fresh)
        (λ k. new (2 * k + 1)) stack copied.real copied.upper copied.fine directory name number object copied.copied))
    each_keeps (AddName directory name object) is there from_too =
        let first = (up_arrives files tree numbers inode node _ (λ k. new _) real upper fine object there.1).arrives in
        let copied = (up_arrives files tree numbers inode node _ (λ k. new _) _ _ first.fine _ there.0).arrives in
        subst (λ m. After (merge_with_link nat_eq (copied_up nat_eq (odds fresh) m directory) directory name object))
        (sym first.is) (subst (λ m. After (merge_with_link nat_eq m directory name object)) (sym copied.is)
        (same _ (linked_keeps fresh new stack copied.real copied.upper copied.fine directory name object
        copied.copied)))
    each_keeps (Remove directory name object) is there from_too =
        let copied = (up_arrives files tree numbers inode node _ (λ k. new (2 * k)) real upper fine _ there).arrives in
        subst (λ m. After (merge_without_name nat_eq (odds fresh) stack m directory name object)) (sym copied.is)
        (same _ (removed_keeps (odds fresh) (λ k. new _) stack _ copied.upper copied.fine _ name object copied.copied))
    each_keeps (Move from old to name object) is there from_too =
        let both = up_arrives files tree numbers inode node (evens fresh) (λ k. new (2 * k)) real upper fine object
        (tree.alive from old object there.0) in
        let first = both.arrives in
        let copied = (up_arrives files tree numbers inode node _ (λ k. new _) _ _ first.fine to there.1).arrives in
        subst (λ m. After (merge_with_moved nat_eq (odds (odds fresh))
        stack (copied_up nat_eq (evens (odds fresh)) m to) from old to name object)) (sym first.is) (subst
        (λ m. After (merge_with_moved nat_eq (odds (odds fresh)) stack m from old to name object)) (sym copied.is)
        (moves from old to name object is copied.real copied.upper (cc (first.is, copied.is)) copied.fine
        (copied.grows from (from_too from old object there.0 first.real first.grows first.copied both.parent))
        copied.copied (copied.grows object first.copied)))
    each_keeps (SetBytes file bytes) is there from_too = changed_keeps file (node_with_bytes bytes) there
    each_keeps (SetAttr object attr) is there from_too = changed_keeps object (node_with_attr attr) there
    each_keeps (SetMark directory opaque) is there from_too = changed_keeps directory (node_with_mark opaque) there
    each_keeps (CopyUp object) is there from_too =
        let copied = (up_arrives files tree numbers inode node fresh new real upper fine object there).arrives in
        subst After (sym copied.is) (same _ copied.fine.here)

    pub changes_keep_so : SpeaksOfWhatIsThere files change_made
        → ((from : ℕ) (old : List ℕ) (object : ℕ) → entry_at files.tree from old ≡ Some object
        → (later : ℕ → Option (Real ℕ)) → ((number : ℕ) → HasUpper real number → HasUpper later number)
        → HasUpper later object → ((name : ℕ × List ℕ) → a_name nat_eq files object ≡ Some name
        → HasUpper later name.0) → HasUpper later from)
        → After (merge_changed nat_eq fresh stack (With real upper) change_made)
    changes_keep_so = each_keeps change_made refl

  -- the inode is kept, but for its parent
  module _ (fresh : Fresh ℕ) (new : (k : ℕ) → inode ≢ fresh k) (stack : Stack ℕ) (real : ℕ → Option (Real ℕ))
      (upper : FileTree ℕ) (fine : Apart real upper) where
    pub changes_keep : (change : Change ℕ) → SpeaksOfWhatIsThere files change
        → ((from : ℕ) (old : List ℕ) (object : ℕ) → entry_at files.tree from old ≡ Some object
        → (later : ℕ → Option (Real ℕ)) → ((number : ℕ) → HasUpper real number → HasUpper later number)
        → HasUpper later object → ((name : ℕ × List ℕ) → a_name nat_eq files object ≡ Some name
        → HasUpper later name.0) → HasUpper later from)
        → IsKept node ((merge_changed nat_eq fresh stack (With real upper) change).upper.tree.node inode)
    changes_keep change =
        changes_keep_so fresh new stack real upper fine (IsKept node) (λ o e. kept_same node o e) change
        (λ from old to name object is moved_real moved_upper copied apart f t o.
        moved_keeps (odds (odds fresh))
        (λ k. new (2 * (2 * k + 1) + 1)) stack moved_real moved_upper apart from old to name object f t o)
