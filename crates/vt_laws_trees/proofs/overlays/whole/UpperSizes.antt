-- Names, texts and files of a plain tree stay within their limits in each part of a change.
use Rattle.std.proofs.Common.{arith, ◌≡◌, refl, ◌∙◌, ℕ, nat_eq, Bool, true, false, cond, List, [], ◌∷◌, map, Option, Some, None, is_some}
use Rattle.vt_spec.proofs.Common.{AddName, Entries, FileTree, Fresh, ListsNumbers, Move, Node, SetMark, Stack, among_from_list_all, among_numbers, and_true_left, and_true_right, changed_node, common_steps, content_with_parent, copied_content, directory_used, entries_in, entry_at, entry_named, eq_by_cmp, has_fit_names, has_fit_text, is_no_larger, list_all, name_cmp, name_left_by, node_with_parent, node_without_entries, node_without_entry, none_is_some, whiteout_of, with_inode, with_mark, with_moved, with_name, without_contents, without_name}
use Rattle.vt_spec.proofs.Nodes.{same_name}
use Rattle.vt_laws_trees.specs.Trees.Sizes.{is_fit_name, is_fit_node, is_fit_tree}
use Rattle.vt_laws_trees.proofs.trees.ChangesOfSizes.{changed_fits_there, changes_keep_sizes, fits, inode_fits, no_entry_fits, parent_fits}
use Rattle.vt_laws_trees.proofs.layers.layers.UpperLine.{has_entries}

-- one that is there
pub fits_here : (files : FileTree ℕ) → ListsNumbers nat_eq files → is_fit_tree files ≡ true → (n : ℕ)
    → is_some (files.tree.node n) ≡ true → fits (files.tree.node n) ≡ true
fits_here files numbers h n there = among_from_list_all _ files.numbers h n (among_numbers _ n (numbers n ∙ there))

-- each name of a directory
pub name_fits : (files : FileTree ℕ) → ListsNumbers nat_eq files → is_fit_tree files ≡ true
    → (d : ℕ) (w : List ℕ) (object : ℕ) → entry_at files.tree d w ≡ Some object → is_fit_name w ≡ true
name_fits files numbers h d w object e = by (entries_in (files.tree.node d))
    (of_node (files.tree.node d) (fits_here files numbers h d
    (directory_used files.tree d (has_entries files.tree d w object e)))) e
  where
    of_node : (o : Option (Node ℕ)) → fits o ≡ true → list_all is_fit_name (map (λ x. x.0) (entries_in o)) ≡ true
    of_node o k =
        let files : FileTree ℕ = record { tree = record { root = 0; node = λ n. o }; numbers = [] } in
        and_true_right (is_no_larger files 0) (has_fit_names files 0) (and_true_left _ (has_fit_text files 0) k)

    by : (entries : Entries ℕ) → list_all is_fit_name (map (λ x. x.0) entries) ≡ true
        → entry_named w entries ≡ Some object → is_fit_name w ≡ true
    by [] k e = none_is_some object e
    by (entry ∷ entries) k e = at _ refl e (by entries (and_true_right (is_fit_name entry.0) _ k))
      where
        at : (b : Bool) → eq_by_cmp name_cmp w entry.0 ≡ b → cond b (Some entry.1) (entry_named w entries) ≡ Some object
            → (entry_named w entries ≡ Some object → is_fit_name w ≡ true) → is_fit_name w ≡ true
        at true f g rest = cc (same_name w entry.0 f, and_true_left (is_fit_name entry.0) _ k)
        at false f g rest = rest g

-- the parts of a change
pub name_sized : (files : FileTree ℕ) (d : ℕ) (w : List ℕ) (k : ℕ) → is_fit_name w ≡ true → is_fit_tree files ≡ true
    → is_fit_tree (with_name nat_eq files d w k) ≡ true
name_sized files d w k fit h = changes_keep_sizes files (AddName d w k) h fit

pub marked_sized : (files : FileTree ℕ) (b : Bool) (object : ℕ) → is_fit_tree files ≡ true
    → is_fit_tree (with_mark nat_eq b files object) ≡ true
marked_sized files true object h = changes_keep_sizes files (SetMark object true) h tt
marked_sized files false object h = h

pub moved_sized : (files : FileTree ℕ) (from : ℕ) (old : List ℕ) (to : ℕ) (new : List ℕ) (object : ℕ)
    → is_fit_name new ≡ true → is_fit_tree files ≡ true
    → is_fit_tree (with_moved nat_eq files from old to new object) ≡ true
moved_sized files from old to new object fit h = changes_keep_sizes files (Move from old to new object) h fit

pub without_sized : (files : FileTree ℕ) (d : ℕ) (w : List ℕ) → is_fit_tree files ≡ true
    → is_fit_tree (without_name nat_eq files d w) ≡ true
without_sized files d w h = changed_fits_there files d (node_without_entry w) (no_entry_fits w (files.tree.node d)) h

bare_fits : (o : Option (Node ℕ)) → fits o ≡ true → fits (node_without_entries o) ≡ true
bare_fits o k = grind (arith, common_steps, fits)

pub emptied_sized : (files : FileTree ℕ) (o : Option ℕ) → is_fit_tree files ≡ true
    → is_fit_tree (without_contents nat_eq files o) ≡ true
emptied_sized files None h = h
emptied_sized files (Some r) h =
    let bare = changed_node nat_eq files r node_without_entries in
    changed_fits_there bare r (node_with_parent r) (parent_fits r (bare.tree.node r))
    (changed_fits_there files r node_without_entries (bare_fits (files.tree.node r)) h)

pub left_sized : (fresh : Fresh ℕ) (stack : Stack ℕ) (files : FileTree ℕ) (d : ℕ) (w : List ℕ) (b : Bool)
    → is_fit_name w ≡ true → is_fit_tree files ≡ true → is_fit_tree (name_left_by nat_eq b fresh stack files d w) ≡ true
left_sized fresh stack files d w true fit h =
    let white = with_inode nat_eq files (fresh 0) (whiteout_of stack.mounter) in
    name_sized white d w (fresh 0) fit (inode_fits files (fresh 0) (whiteout_of stack.mounter) refl h)
left_sized fresh stack files d w false fit h = without_sized files d w h

-- a copy, and an inode in another directory
pub copy_fits_limits : (p : ℕ) (node : Node ℕ) → fits (Some node) ≡ true
    → is_fit_node (record { attr = node.attr; content = copied_content p node.content }) ≡ true
copy_fits_limits p node k = grind (arith, common_steps, fits)

pub above_fits_limits : (p : ℕ) (node : Node ℕ) → is_fit_node node ≡ true
    → is_fit_node (record { attr = node.attr; content = content_with_parent p node.content }) ≡ true
above_fits_limits p node k = grind (arith, common_steps, fits)
