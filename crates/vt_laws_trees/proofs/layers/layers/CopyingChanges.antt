-- A change of an overlay does to its upper layer what it is asked, clause by clause.
use Rattle.std.proofs.Common.{◌≡◌, ◌≢◌, sym, ap, ◌∙◌, true≢false, arith, ℕ, suc, nat_eq, eq-eqb, ne_eqb, true, ◌||◌, List, [], ◌∷◌, ◌++◌, Option, Some, is_some, unwrap_or}
use Rattle.vt_spec.proofs.Common.{FileTree, Fresh, IsDirectory, IsTree, Merge, Node, Real, Stack, common_steps, entries-node_with_parent, entries-without_parent, entries_in, entry_at, entry_named, hides_directory, is_directory_node, is_opaque_in, led-append, merge_with_moved, merge_with_new, merge_without_name, name_left_by, new_directory, node_set, node_with_entry, node_with_parent, node_without_entry, none_is_some, number_at_path, or-false, part-changed_node, same_Some, shown_in_lowers_at, upper_directory_named, upper_object, upper_of, with_moved, with_name, without_contents, without_name, without_parent}
use Rattle.vt_laws_trees.specs.Layers.Layers.ChangesUpper.{IsLeft, IsNewBy}
use Rattle.vt_laws_trees.proofs.layers.layers.CopyingNames.{emptied_is_empty, LeftWith, emptied_other, emptied_part, is_left_by, left_elsewhere, left_part, left_stays, left_where, marked_entries, marked_itself, marked_other, moved_part}
use Rattle.vt_laws_trees.proofs.layers.layers.CopyingSound.{IsSound, State}
use Rattle.vt_laws_trees.proofs.layers.layers.LowersKept.{kept_elsewhere}
use Rattle.vt_laws_trees.proofs.layers.layers.UpperChain.{one_depth}
use Rattle.vt_laws_trees.proofs.layers.layers.UpperLine.{has_entries, is_reached_in}
use Rattle.vt_laws_trees.proofs.layers.layers.UpperShown.{way_to}

-- no directory has an entry for itself
pub no_loop : (files : FileTree ℕ) → IsTree files.tree → (directory : ℕ) (name : List ℕ)
    → entry_at files.tree directory name ≢ Some directory
no_loop files tree directory name e =
    let reached = is_reached_in files tree directory name directory e in
    let same = one_depth files tree (suc reached.0) reached.0 directory
    (directory, name, reached.1, e, has_entries files.tree directory name directory e) reached.1 in
    let no : ⊥ = omega arith in no

-- names lead to a directory that has an entry
pub path_to : (files : FileTree ℕ) → IsTree files.tree → (directory : ℕ) (name : List ℕ) (object : ℕ)
    → entry_at files.tree directory name ≡ Some object
    → (path : List (List ℕ)) × (number_at_path files path ≡ Some directory)
path_to files tree directory name object e =
    let reached = is_reached_in files tree directory name object e in
    way_to files.tree reached.0 directory reached.1

-- the object that stands in the upper layer
upper_of_is : (merge : Merge ℕ) (number object : ℕ) → upper_object (merge.real number) ≡ Some object
    → upper_of merge number ≡ object
upper_of_is merge number object e = ap (λ o. unwrap_or o number) e

pub object_there : (real : ℕ → Option (Real ℕ)) (number : ℕ) → is_some (upper_object (real number)) ≡ true
    → (object : ℕ) × (upper_object (real number) ≡ Some object)
object_there real number h = grind (arith, common_steps, true≢false)

-- the directory of the upper layer that a name stands for is the object of what the name leads to
directory_named : (merge : Merge ℕ) (directory : ℕ) (name : List ℕ) (object : ℕ)
    → upper_directory_named merge directory name ≡ Some object
    → (number : ℕ) × (entry_at merge.files.tree directory name ≡ Some number)
    × (upper_object (merge.real number) ≡ Some object)
directory_named merge directory name object e = grind (arith, common_steps, true≢false)

-- Changes of an overlay where what they ask is copied
module _ {files : FileTree ℕ} (tree : IsTree files.tree) {first : ℕ → Option (Real ℕ)} (fresh : Fresh ℕ)
    (stack : Stack ℕ) {real : ℕ → Option (Real ℕ)} {upper : FileTree ℕ}
    (sound : IsSound files first (IsNewBy fresh) real upper) where
  abbrev here : Merge ℕ
  here = State files first (IsNewBy fresh) real upper

  old_differs : (number object : ℕ) → upper_object (real number) ≡ Some object → object ≢ fresh 0
  old_differs number object e same = sound.spared number object e (0, same)

  -- what is left of a name, with the number of the whiteout
  pub removed_with : (directory : ℕ) (name : List ℕ) (object seen : ℕ)
      → entry_at files.tree directory name ≡ Some object → upper_object (real directory) ≡ Some seen
      → LeftWith (fresh 0) (shown_in_lowers_at nat_eq stack here directory name) stack
      (merge_without_name nat_eq fresh stack here directory name object).upper (upper_of here directory) name
  removed_with directory name object seen e has =
      let left = name_left_by nat_eq (is_some (shown_in_lowers_at nat_eq stack here directory name)) fresh stack
      upper (upper_of here directory) name in let kind = ap (λ n. is_directory_node (upper.tree.node n)) (upper_of_is
      here directory seen has) ∙ sound.kinds (path_to files tree directory name object e).0 directory seen (path_to
      files tree directory name object e).1 has ∙ has_entries files.tree directory name object e in let new = λ (same
      : upper_of here directory ≡ fresh 0). old_differs directory seen has (sym (upper_of_is here directory seen has)
      ∙ same) in grind (
        arith,
        common_steps,
        left_stays,
        emptied_other,
        left_where fresh (shown_in_lowers_at nat_eq
            stack here directory name) stack upper (upper_of here directory) name kind new,
        here,
        directory_named,
        no_loop,
        upper_of_is,
      )

  pub removed_left : (directory : ℕ) (name : List ℕ) (object seen : ℕ)
      → entry_at files.tree directory name ≡ Some object → upper_object (real directory) ≡ Some seen
      → IsLeft stack here (merge_without_name nat_eq fresh stack here directory name object) directory name
  removed_left directory name object seen e has = is_left_by _ _ stack _ _ name (removed_with _ name object seen e has)

  pub removed_empty : (directory : ℕ) (name : List ℕ) (object replaced : ℕ)
      → upper_directory_named here directory name ≡ Some replaced
      → entries_in ((merge_without_name nat_eq fresh stack here directory name object).upper.tree.node replaced) ≡ []
  removed_empty directory name object replaced e = emptied_is_empty _ _ replaced e

  pub made_marked : (directory : ℕ) (name : List ℕ) (number : ℕ) (node : Node ℕ) (seen : ℕ)
      → upper_object (real directory) ≡ Some seen → (parent : ℕ) → node.content ≡ new_directory parent
      → is_opaque_in ((merge_with_new nat_eq fresh stack here directory name number node).upper.tree.node
      (upper_of (merge_with_new nat_eq fresh stack here directory name number node) number))
      ≡ hides_directory nat_eq stack here directory name
  made_marked directory name number node seen has parent e = grind (
    arith,
    common_steps,
    kept_elsewhere,
    ne_eqb,
    old_differs,
    upper_of_is,
    node_set,
    eq-eqb,
    marked_itself,
    or-false,
  )

  module _ (from : ℕ) (old : List ℕ) (to : ℕ) (name : List ℕ) (object : ℕ) (seen_from seen : ℕ)
      (e : entry_at files.tree from old ≡ Some object) (has_from : upper_object (real from) ≡ Some seen_from)
      (has : upper_object (real object) ≡ Some seen) where
    abbrev freed : FileTree ℕ
    freed = without_contents nat_eq upper (upper_directory_named here to name)

    abbrev away : FileTree ℕ
    away = with_moved nat_eq freed (upper_of here from) old (upper_of here to) name (upper_of here object)

    abbrev left : FileTree ℕ
    left = name_left_by nat_eq (is_some (shown_in_lowers_at nat_eq stack here from old)) fresh stack away
        (upper_of here from) old

    kind_away : (inode : ℕ) → is_directory_node (away.tree.node inode) ≡ is_directory_node (upper.tree.node inode)
    kind_away inode = moved_part is_directory_node (λ change keeps. keeps.directory) freed (upper_of here from) old
        (upper_of here to) name (upper_of here object) inode
        ∙ emptied_part is_directory_node (λ change keeps. keeps.directory) upper
        (upper_directory_named here to name) inode

    mark_away : (inode : ℕ) → is_opaque_in (away.tree.node inode) ≡ is_opaque_in (upper.tree.node inode)
    mark_away inode =
        moved_part is_opaque_in (λ change keeps. keeps.mark) freed (upper_of here from) old (upper_of here to) name
        (upper_of here object) inode
        ∙ emptied_part is_opaque_in (λ change keeps. keeps.mark) upper (upper_directory_named here to name) inode

    from_new : upper_of here from ≢ fresh 0
    from_new same = old_differs from seen_from has_from (cc (upper_of_is here from seen_from has_from))

    object_new : upper_of here object ≢ fresh 0
    object_new same = old_differs object seen has (cc (upper_of_is here object seen has))

    pub moved_with : LeftWith (fresh 0) (shown_in_lowers_at nat_eq stack here from old) stack
        (merge_with_moved nat_eq fresh stack here from old to name object).upper (upper_of here from) old
    moved_with = left_stays (fresh 0) _ stack left _ (upper_of here from) old
        (marked_entries _ left _ (upper_of here from)) (marked_other _ left _ (fresh 0) (λ same. object_new (sym same)))
        (left_where fresh _ stack away _ old (kind_away _ ∙ ap (λ n. is_directory_node (upper.tree.node n))
        (upper_of_is here from seen_from has_from) ∙ sound.kinds (path_to files tree from old object e).0 from seen_from
        (path_to files tree from old object e).1 has_from ∙ has_entries files.tree from old object e) from_new)

    pub moved_left : IsLeft stack here (merge_with_moved nat_eq fresh stack here from old to name object) from old
    moved_left = is_left_by (fresh 0) _ stack _ (upper_of here from) old moved_with

    pub moved_marked : IsDirectory files.tree object
        → is_opaque_in ((merge_with_moved nat_eq fresh stack here from old to name object).upper.tree.node
        (upper_of here object))
        ≡ (hides_directory nat_eq stack here to name || is_opaque_in (upper.tree.node (upper_of here object)))
    moved_marked d = marked_itself _ left (upper_of here object) (left_part is_directory_node
        (λ change keeps. keeps.directory) (is_some (shown_in_lowers_at nat_eq stack here from old)) fresh
        stack away (upper_of here from) old _ object_new ∙ kind_away _ ∙ ap (λ n. is_directory_node (upper.tree.node n))
        (upper_of_is here object seen has) ∙ sound.kinds ((path_to files tree from old object e).0 ++ old ∷ [])
        object seen (led-append files.tree files.tree.root (path_to files tree from old object e).0 old from object
        (path_to files tree from old object e).1 e) has ∙ d) ∙ ap (λ b. hides_directory nat_eq stack here to name || b)
        (left_part is_opaque_in (λ change keeps. keeps.mark) (is_some (shown_in_lowers_at nat_eq stack here from old))
        fresh stack away (upper_of here from) old (upper_of here object) object_new ∙ mark_away (upper_of here object))

    -- what is replaced keeps no whiteout
    pub moved_empty : (replaced number : ℕ) → entry_at files.tree to name ≡ Some number
        → entries_in (files.tree.node number) ≡ []
        → upper_directory_named here to name ≡ Some replaced → (seen_to : ℕ) → upper_object (real to) ≡ Some seen_to
        → entries_in ((merge_with_moved nat_eq fresh stack here from old to name object).upper.tree.node replaced) ≡ []
    moved_empty replaced number named empty is seen_to has_to =
        let found = directory_named here to name replaced is in
        let same_number : number ≡ found.0 = same_Some number found.0 (sym named ∙ found.1) in
        let not_from : replaced ≢ upper_of here from = λ same. none_is_some object
        (sym (ap (entry_named old) (ap (λ n. entries_in (files.tree.node n)) (sym same_number) ∙ empty))
        ∙ ap (λ n. entry_at files.tree n old) (sound.one found.0 from seen_from
        (found.2 ∙ ap Some (same ∙ upper_of_is here from seen_from has_from)) has_from) ∙ e) in
        let not_to : replaced ≢ upper_of here to = λ same. no_loop files tree to name
        (found.1 ∙ ap Some (sound.one found.0 to seen_to (cc (found.2, upper_of_is here to seen_to has_to)) has_to)) in
        let base = without_name nat_eq
        (without_parent nat_eq freed (entry_named name (entries_in (freed.tree.node (upper_of here to)))))
        (upper_of here from) old in
        marked_entries _ left (upper_of here object) replaced ∙ ap entries_in (left_elsewhere _
        fresh stack away (upper_of here from) old replaced not_from (old_differs found.0 replaced found.2))
        ∙ part-changed_node entries_in (with_name nat_eq base (upper_of here to) name (upper_of here object))
        (upper_of here object) (node_with_parent (upper_of here to)) (entries-node_with_parent (upper_of here to))
        replaced ∙ ap entries_in (kept_elsewhere base (upper_of here to) (node_with_entry name (upper_of here object))
        replaced (ne_eqb replaced (upper_of here to) not_to)) ∙ ap entries_in (kept_elsewhere
        (without_parent nat_eq freed (entry_named name (entries_in (freed.tree.node (upper_of here to))))) _
        (node_without_entry old) replaced (ne_eqb replaced (upper_of here from) not_from)) ∙ entries-without_parent
        freed (entry_named name (entries_in (freed.tree.node _))) replaced ∙ emptied_is_empty upper _ replaced is
