-- What a change of an overlay asks for stands in the upper layer after it.
use Rattle.std.proofs.Common.{arith, ◌≡◌, ◌≢◌, refl, sym, ap, subst, ◌∙◌, ℕ, nat_eq, eq-eqb, ne_eqb, Bool, true, false, cond, List, Option, Some, is_some, unwrap_or}
use Rattle.vt_spec.proofs.Common.{Content, Directory, FileTree, Fresh, Merge, Node, Real, Regular, Stack, Symlink, Upper, Whiteout, bytes_of, common_steps, content_with_mark, content_with_parent, entries-node_with_mark, entries-node_with_parent, entries_in, entry_at, entry_named, eqb_tells, hides_directory, is_directory_node, kind_of, merge_with_link, merge_with_moved, merge_with_new, name_left_by, node_set, node_with_entry, node_with_mark, node_without_entry, part-changed_node, shown_in_lowers_at, upper_directory_named, upper_object, upper_of, with_inode, with_mark, with_moved, with_name, without_contents, without_name, without_parent}
use Rattle.vt_laws_trees.specs.Layers.Layers.ChangesUpper.{IsMadeAs, IsReachedDirectory, IsNewBy}
use Rattle.vt_laws_trees.proofs.layers.layers.CopyingNames.{emptied_part, freed_part, marked_entries, name_put, name_stays_put, name_stays_without}
use Rattle.vt_laws_trees.proofs.layers.layers.CopyingParts.{parent_keeps, without_entry_keeps}
use Rattle.vt_laws_trees.proofs.layers.layers.CopyingSound.{IsSound, State}
use Rattle.vt_laws_trees.proofs.layers.layers.LowersKept.{kept_elsewhere}

-- a mark changes nothing else of what was made
mark_kind : (content : Content ℕ) → kind_of (content_with_mark true content) ≡ kind_of content
mark_kind (Directory parent entries opaque) = refl
mark_kind (Regular bytes) = refl
mark_kind (Symlink text) = refl
mark_kind Whiteout = refl

mark_bytes : (content : Content ℕ) → bytes_of (content_with_mark true content) ≡ bytes_of content
mark_bytes (Directory parent entries opaque) = refl
mark_bytes (Regular bytes) = refl
mark_bytes (Symlink text) = refl
mark_bytes Whiteout = refl

mark_made : (node : Node ℕ) (inode : Option (Node ℕ)) → IsMadeAs node inode → IsMadeAs node (node_with_mark true inode)
mark_made node inode is = grind (arith, common_steps, mark_kind, entries-node_with_mark, mark_bytes)

marked_made : (mark : Bool) (upper : FileTree ℕ) (object : ℕ) (node : Node ℕ) → IsMadeAs node (upper.tree.node object)
    → IsMadeAs node ((with_mark nat_eq mark upper object).tree.node object)
marked_made true upper object node is = subst (IsMadeAs node) (sym (node_set upper.tree object _)) (mark_made node _ is)
marked_made false upper object node is = is

-- a new object gets its parent in the upper layer
made_with_parent : (node : Node ℕ) (parent : ℕ)
    → IsMadeAs node (Some (record { attr = node.attr; content = content_with_parent parent node.content }))
made_with_parent node parent = grind (arith, common_steps, parent_keeps, entries-node_with_parent)

-- where a name is left, every other one stays
other_name_stays : (hidden : Bool) (fresh : Fresh ℕ) (stack : Stack ℕ) (upper : FileTree ℕ) (directory other : ℕ)
    (old name : List ℕ) → (other ≡ directory → name ≢ old) → other ≢ fresh 0
    → entry_at (name_left_by nat_eq hidden fresh stack upper directory old).tree other name
    ≡ entry_at upper.tree other name
other_name_stays hidden fresh stack upper directory other old name apart new =
    grind (arith, common_steps, apart, ne_eqb, node_set, name_stays_put, kept_elsewhere, eqb_tells, name_stays_without)

-- Changes of an overlay where what they ask is copied
module _ {files : FileTree ℕ} {first : ℕ → Option (Real ℕ)} {spare : ℕ → Type 0} {real : ℕ → Option (Real ℕ)}
    {upper : FileTree ℕ} (sound : IsSound files first spare real upper) where
  abbrev here : Merge ℕ
  here = State files first spare real upper

  upper_is : (number object : ℕ) → upper_object (real number) ≡ Some object → upper_of here number ≡ object
  upper_is number object e = ap (λ o. unwrap_or o number) e

  -- the object of a directory that names lead to is a directory
  directory_there : (directory seen : ℕ) → upper_object (real directory) ≡ Some seen
      → IsReachedDirectory files directory → is_directory_node (upper.tree.node (upper_of here directory)) ≡ true
  directory_there directory seen has reached =
      cc (upper_is directory seen has, sound.kinds reached.0.0 directory seen reached.0.1 has, reached.1)

  pub linked_named : (directory seen : ℕ) → upper_object (real directory) ≡ Some seen
      → IsReachedDirectory files directory → (name : List ℕ) (object : ℕ)
      → entry_at (merge_with_link nat_eq here directory name object).upper.tree (upper_of here directory) name
      ≡ Some (upper_of here object)
  linked_named directory seen has reached name object = ap (λ o. entry_named name (entries_in o))
      (node_set upper.tree (upper_of here directory) _) ∙ name_put name _ _ (directory_there directory seen has reached)

module _ (files : FileTree ℕ) (first : ℕ → Option (Real ℕ)) (fresh : Fresh ℕ) (stack : Stack ℕ)
    (real : ℕ → Option (Real ℕ)) (upper : FileTree ℕ) (sound : IsSound files first (IsNewBy fresh) real upper) where
  abbrev there : Merge ℕ
  there = State files first (IsNewBy fresh) real upper

  is_old : (number seen : ℕ) → upper_object (real number) ≡ Some seen → upper_of there number ≢ fresh 0
  is_old number seen has same = sound.spared number seen has (
    0,
    sym (upper_is sound number seen has) ∙ same,
  )

  module _ (directory : ℕ) (name : List ℕ) (number : ℕ) (node : Node ℕ) (seen : ℕ)
      (has : upper_object (real directory) ≡ Some seen) (reached : IsReachedDirectory files directory) where
    abbrev object : Node ℕ
    object = record { attr = node.attr; content = content_with_parent (upper_of there directory) node.content }

    abbrev added : FileTree ℕ
    added = with_inode nat_eq upper (fresh 0) object

    abbrev named : FileTree ℕ
    named = with_name nat_eq added (upper_of there directory) name (fresh 0)

    pub made_real : upper_object ((merge_with_new nat_eq fresh stack there directory name number node).real number)
        ≡ Some (fresh 0)
    made_real = ap (λ b. upper_object (cond b (Some (Upper (fresh 0))) (real number))) (eq-eqb number number refl)

    pub made_named : entry_at (merge_with_new nat_eq fresh stack there directory name number node).upper.tree
        (upper_of there directory) name ≡ Some (fresh 0)
    made_named = grind (arith, common_steps, marked_entries, node_set, name_put, ne_eqb, is_old, directory_there)

    pub made_as : IsMadeAs node ((merge_with_new nat_eq fresh stack there directory name number node).upper.tree.node
        (fresh 0))
    made_as = marked_made (hides_directory nat_eq stack there directory name) named (fresh 0) node
        (subst (IsMadeAs node)
        (sym (kept_elsewhere added (upper_of there directory) (node_with_entry name (fresh 0)) (fresh 0)
        (ne_eqb (fresh 0) (upper_of there directory) (λ same. is_old directory seen has (sym same)))
        ∙ node_set upper.tree (fresh 0) (Some object))) (made_with_parent node (upper_of there directory)))

  module _ (from : ℕ) (old : List ℕ) (to : ℕ) (name : List ℕ) (object : ℕ) (seen_from seen_to : ℕ)
      (e : entry_at files.tree from old ≡ Some object)
      (has_from : upper_object (real from) ≡ Some seen_from) (has_to : upper_object (real to) ≡ Some seen_to)
      (reached : IsReachedDirectory files to) (another : entry_at files.tree to name ≢ Some object) where
    abbrev freed : FileTree ℕ
    freed = without_contents nat_eq upper (upper_directory_named there to name)

    abbrev replaced : Option ℕ
    replaced = entry_named name (entries_in (freed.tree.node (upper_of there to)))

    abbrev base : FileTree ℕ
    base = without_name nat_eq (without_parent nat_eq freed replaced) (upper_of there from) old

    abbrev away : FileTree ℕ
    away = with_moved nat_eq freed (upper_of there from) old (upper_of there to) name (upper_of there object)

    base_directory : is_directory_node (base.tree.node (upper_of there to)) ≡ true
    base_directory = part-changed_node is_directory_node (without_parent nat_eq freed replaced) (upper_of there from)
        (node_without_entry old) (without_entry_keeps old).directory (upper_of there to)
        ∙ freed_part is_directory_node (λ change keeps. keeps.directory) freed replaced (upper_of there to)
        ∙ emptied_part is_directory_node (λ change keeps. keeps.directory) upper (upper_directory_named there to name)
        (upper_of there to) ∙ directory_there sound to seen_to has_to reached

    away_named : entry_at away.tree (upper_of there to) name ≡ Some (upper_of there object)
    away_named =
        grind (arith, common_steps, part-changed_node, entries-node_with_parent, node_set, name_put, base_directory)

    -- in one directory the names are two
    apart : upper_of there to ≡ upper_of there from → name ≢ old
    apart same name_same = grind (arith, common_steps, upper_is)

    pub moved_named : entry_at (merge_with_moved nat_eq fresh stack there from old to name object).upper.tree
        (upper_of there to) name ≡ Some (upper_of there object)
    moved_named = ap (entry_named name) (marked_entries (hides_directory nat_eq stack there to name)
        (name_left_by nat_eq (is_some (shown_in_lowers_at nat_eq stack there from old)) fresh stack away
        (upper_of there from) old) (upper_of there object) (upper_of there to))
        ∙ other_name_stays (is_some (shown_in_lowers_at nat_eq stack there from old)) fresh stack away
        (upper_of there from) (upper_of there to) old name apart (is_old to seen_to has_to) ∙ away_named
