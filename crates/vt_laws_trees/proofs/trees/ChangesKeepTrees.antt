-- Each change of a tree makes a tree of it.
use Rattle.std.proofs.Common.{eqb-true, ◌≡◌, ◌≢◌, refl, sym, ap, subst, ◌∙◌, ℕ, nat_eq, Bool, true, false, cond, List, ◌||◌, ⊎_elim, Option, Some, None, is_some}
use Rattle.vt_spec.proofs.Common.{AddName, CopyUp, FileTree, IsTree, ListsNumbers, Make, Move, Node, Remove, SetAttr, SetBytes, SetMark, Tree, changed, changed_node, directory_used, entries-node_with_bytes, entry_at, eqb_tells, is_among, is_directory-node_with_entry, is_directory_node, is_some-node_with_entry, is_some-node_with_parent, is_some-node_without_entry, node_with_attr, node_with_bytes, node_with_entry, node_with_mark, node_with_parent, node_without_entry, with_inode, with_name, without_name, without_parent}
use Rattle.vt_spec.specs.Tree.{with_object}
use Rattle.vt_spec.proofs.Nodes.{is_directory-node_with_bytes, is_some-node_with_bytes, parent-node_with_bytes}
use Rattle.vt_spec.proofs.Trees.{entry_kept, entry_new, is_tree-with_object, kept_beside, parent_beside, used_differs}
use Rattle.vt_laws_trees.specs.Trees.{ChangesKeepNumbers, ChangesKeepOwnParents, ChangesKeepTrees, HasOwnParents, MayMake}
use Rattle.vt_laws_trees.proofs.trees.ChangesNodes.{KeepsPlace, attr_keeps_place, mark_keeps_place, part_stays}
use Rattle.vt_laws_trees.proofs.trees.ChangesOfNames.{Nobody, Nowhere, linked_rearranged, removed_rearranged, still_rearranged}
use Rattle.vt_laws_trees.proofs.trees.ChangesOfPlace.{moved_alike, moved_rearranged}
use Rattle.vt_laws_trees.proofs.trees.TreesRearranged.{is_tree-rearranged, own_parent-rearranged}

pub bytes_keep_place : (bytes : List ℕ) → KeepsPlace (node_with_bytes bytes)
bytes_keep_place bytes = record {
  kind = is_directory-node_with_bytes bytes;
  used = is_some-node_with_bytes bytes;
  entries = entries-node_with_bytes bytes;
  parent = parent-node_with_bytes bytes;
}

-- A new inode, and then its name, are the new object under its name
module _ (files : FileTree ℕ) (directory : ℕ) (name : List ℕ) (number : ℕ) (node : Node ℕ)
    (differ : directory ≢ number) where
  abbrev in_turn : Tree ℕ
  in_turn = (with_name nat_eq (with_inode nat_eq files number node) directory name number).tree

  -- where the number is the directory's, it is not the new one
  one_of_two : (k : ℕ) (a b : Bool) → nat_eq k directory ≡ a → nat_eq k number ≡ b
      → cond b (Some node) (cond a (node_with_entry name number (files.tree.node directory)) (files.tree.node k))
      ≡ cond a (node_with_entry name number (files.tree.node directory)) (cond b (Some node) (files.tree.node k))
  one_of_two k true true here new = absurd (differ (sym (eqb-true k directory here) ∙ eqb-true k number new))
  one_of_two k true false here new = refl
  one_of_two k false b here new = refl

  directory_first : (with_inode nat_eq files number node).tree.node directory ≡ files.tree.node directory
  directory_first =
      ⊎_elim (λ t. absurd (differ t.1)) (λ t. ap (λ b. cond b (Some node) (files.tree.node directory)) t.0)
      (eqb_tells directory number)

  nodes_alike : (k : ℕ) → (with_object nat_eq files.tree directory name number node).node k ≡ in_turn.node k
  nodes_alike k = cc (one_of_two k (nat_eq k directory) (nat_eq k number) refl refl, directory_first)

  pub made_alike : with_object nat_eq files.tree directory name number node ≡ in_turn
  made_alike = λ i. record { root = files.tree.root; node = λ k. nodes_alike k i }

module _ (files : FileTree ℕ) {directory : ℕ} {name : List ℕ} {number : ℕ} {node : Node ℕ}
    (conditions : IsTree files.tree) (may : MayMake files.tree directory name number node) where
  directory_differs : directory ≢ number
  directory_differs = used_differs files.tree directory name number node conditions may.name_is_free.in_directory
      may.name_is_free.reached may.name_is_free.free may.number_is_new may.fits directory
      (directory_used files.tree directory may.name_is_free.in_directory)

  pub made_is_tree : IsTree (changed nat_eq files (Make directory name number node)).tree
  made_is_tree = subst IsTree (made_alike files directory name number node directory_differs)
      (is_tree-with_object files.tree directory name number node conditions may.name_is_free.in_directory
      may.name_is_free.reached may.name_is_free.free may.number_is_new may.fits)

  grown_own_parents : HasOwnParents files.tree
      → HasOwnParents (with_object nat_eq files.tree directory name number node)
  grown_own_parents own k is unnamed = ⊎_elim (λ t. absurd (unnamed (
    directory,
    name,
    entry_new files.tree directory name number node conditions may.name_is_free.in_directory
        may.name_is_free.reached may.name_is_free.free may.number_is_new may.fits ∙ ap Some (sym t.1),
  ))) (λ t. parent_beside files.tree directory name number node conditions may.name_is_free.in_directory
      may.name_is_free.reached may.name_is_free.free may.number_is_new may.fits k k t.1 ∙ own k
      (sym (kept_beside files.tree directory name number node conditions may.name_is_free.in_directory
      may.name_is_free.reached may.name_is_free.free may.number_is_new may.fits is_directory_node
      (is_directory-node_with_entry name number) k t.1) ∙ is) (λ named. unnamed (
        named.0,
        named.1,
        entry_kept files.tree directory name number node conditions may.name_is_free.in_directory
            may.name_is_free.reached may.name_is_free.free may.number_is_new may.fits named.0 named.1 k named.2,
      ))) (eqb_tells k number)

  pub made_own_parents : HasOwnParents files.tree
      → HasOwnParents (changed nat_eq files (Make directory name number node)).tree
  made_own_parents own = subst HasOwnParents (made_alike files directory name number node directory_differs)
      (grown_own_parents own)

-- trees
pub changes_keep_trees : ChangesKeepTrees
changes_keep_trees files (Make directory name number node) conditions may = made_is_tree files conditions may
changes_keep_trees files (AddName directory name object) conditions may =
    is_tree-rearranged files.tree _ Nobody Nowhere conditions (linked_rearranged files conditions may)
changes_keep_trees files (Remove directory name object) conditions may =
    is_tree-rearranged files.tree _ _ Nowhere conditions (removed_rearranged files conditions may)
changes_keep_trees files (Move from old to new object) conditions may = subst IsTree (moved_alike files conditions may)
    (is_tree-rearranged files.tree _ _ _ conditions (moved_rearranged files conditions may))
changes_keep_trees files (SetBytes file bytes) conditions may = is_tree-rearranged files.tree _
    Nobody Nowhere conditions (still_rearranged files file (node_with_bytes bytes) (bytes_keep_place bytes) conditions)
changes_keep_trees files (SetAttr object attr) conditions may = is_tree-rearranged files.tree _
    Nobody Nowhere conditions (still_rearranged files object (node_with_attr attr) (attr_keeps_place attr) conditions)
changes_keep_trees files (SetMark directory opaque) conditions may = is_tree-rearranged files.tree _ Nobody
    Nowhere conditions (still_rearranged files directory (node_with_mark opaque) (mark_keeps_place opaque) conditions)
changes_keep_trees files (CopyUp object) conditions may = conditions

-- parents of what has no name
pub changes_keep_own_parents : ChangesKeepOwnParents
changes_keep_own_parents files (Make directory name number node) conditions own may =
    made_own_parents files conditions may own
changes_keep_own_parents files (AddName directory name object) conditions own may =
    own_parent-rearranged files.tree _ Nobody Nowhere conditions (linked_rearranged files conditions may) own
changes_keep_own_parents files (Remove directory name object) conditions own may =
    own_parent-rearranged files.tree _ _ Nowhere conditions (removed_rearranged files conditions may) own
changes_keep_own_parents files (Move from old to new object) conditions own may =
    subst HasOwnParents (moved_alike files conditions may)
    (own_parent-rearranged files.tree _ _ _ conditions (moved_rearranged files conditions may) own)
changes_keep_own_parents files (SetBytes file bytes) conditions own may = own_parent-rearranged files.tree _ Nobody
    Nowhere conditions (still_rearranged files file (node_with_bytes bytes) (bytes_keep_place bytes) conditions) own
changes_keep_own_parents files (SetAttr object attr) conditions own may = own_parent-rearranged files.tree _ Nobody
    Nowhere conditions (still_rearranged files object (node_with_attr attr) (attr_keeps_place attr) conditions) own
changes_keep_own_parents files (SetMark directory opaque) conditions own may = own_parent-rearranged files.tree _ Nobody
    Nowhere conditions (still_rearranged files _ (node_with_mark opaque) (mark_keeps_place opaque) conditions) own
changes_keep_own_parents files (CopyUp object) conditions own may = own

-- numbers: a change of one inode neither makes nor takes away an inode
pub numbers_stay : (files : FileTree ℕ) (number : ℕ) (change : Option (Node ℕ) → Option (Node ℕ))
    → ((o : Option (Node ℕ)) → is_some (change o) ≡ is_some o)
    → ListsNumbers nat_eq files → ListsNumbers nat_eq (changed_node nat_eq files number change)
numbers_stay files number change same lists k = lists k ∙ sym (part_stays files number change is_some same k)

pub numbers_unparented : (files : FileTree ℕ) (o : Option ℕ) → ListsNumbers nat_eq files
    → ListsNumbers nat_eq (without_parent nat_eq files o)
numbers_unparented files None lists = lists
numbers_unparented files (Some object) lists = numbers_stay files object _ (is_some-node_with_parent object) lists

pub numbers_with_inode : (files : FileTree ℕ) (number : ℕ) (node : Node ℕ) → ListsNumbers nat_eq files
    → ListsNumbers nat_eq (with_inode nat_eq files number node)
numbers_with_inode files number node lists k = by (nat_eq k number)
  where
    by : (b : Bool) → (b || is_among nat_eq k files.numbers) ≡ is_some (cond b (Some node) (files.tree.node k))
    by true = refl
    by false = lists k

pub changes_keep_numbers : ChangesKeepNumbers
changes_keep_numbers files (Make directory name number node) lists = numbers_stay (with_inode nat_eq files number node)
    directory _ (is_some-node_with_entry name number) (numbers_with_inode files number node lists)
changes_keep_numbers files (AddName directory name object) lists =
    numbers_stay files directory (node_with_entry name object) (is_some-node_with_entry name object) lists
changes_keep_numbers files (Remove directory name object) lists =
    numbers_unparented (without_name nat_eq files directory name) (Some object)
    (numbers_stay files directory (node_without_entry name) (is_some-node_without_entry name) lists)
changes_keep_numbers files (Move from old to new object) lists =
    let unparented = without_parent nat_eq files (entry_at files.tree to new) in
    let untaken = without_name nat_eq unparented from old in
    numbers_stay (with_name nat_eq untaken to new object) object (node_with_parent to) (is_some-node_with_parent to)
    (numbers_stay untaken to (node_with_entry new object) (is_some-node_with_entry new object) (numbers_stay unparented
    from _ (is_some-node_without_entry old) (numbers_unparented files (entry_at files.tree to new) lists)))
changes_keep_numbers files (SetBytes file bytes) lists = numbers_stay files file _ (is_some-node_with_bytes bytes) lists
changes_keep_numbers files (SetAttr object attr) lists =
    numbers_stay files object (node_with_attr attr) ((attr_keeps_place attr).used) lists
changes_keep_numbers files (SetMark directory opaque) lists =
    numbers_stay files directory (node_with_mark opaque) ((mark_keeps_place opaque).used) lists
changes_keep_numbers files (CopyUp object) lists = lists
