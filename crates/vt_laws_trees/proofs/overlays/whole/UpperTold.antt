-- Where the names of a plain tree lead after each part of a change.
use Rattle.std.proofs.Common.{arith, ◌≡◌, refl, ⊎_elim, inl, inr, ◌⊎◌, ℕ, nat_eq, Bool, true, false, List, [], Option, Some, None}
use Rattle.vt_spec.proofs.Common.{FileTree, Fresh, Node, Stack, changed_node, common_steps, entries-node_with_mark, entries-node_with_parent, entries-node_without_entries, entries_in, entries_in-no_directory, entries_of, entry_at, entry_named, eqb_tells, is_directory-node_with_entry, name_left_by, node_other, node_set, node_with_mark, node_with_parent, node_without_entries, none_is_some, whiteout_of, with_inode, with_mark, with_moved, with_name, without_contents, without_name, without_parent}
use Rattle.vt_laws_trees.proofs.trees.ChangesNames.{given_told, untaken_told}
use Rattle.vt_laws_trees.proofs.trees.ChangesNodes.{changed_node_there, elsewhere}
use Rattle.vt_laws_trees.proofs.layers.views.Entries.{entries_stay}

-- each name leads where it led, or to one of these
abbrev pub Told : (ℕ → Type 0) → FileTree ℕ → FileTree ℕ → Type 0
Told Among before after =
    (d : ℕ) (w : List ℕ) (y : ℕ) → entry_at after.tree d w ≡ Some y → (entry_at before.tree d w ≡ Some y) ⊎ Among y

pub told_none : (P : ℕ → Type 0) (files : FileTree ℕ) → Told P files files
told_none P files d w y e = inl e

pub told_both : (P : ℕ → Type 0) (one middle other : FileTree ℕ) → Told P one middle → Told P middle other
    → Told P one other
told_both P one middle other a b d w y e = ⊎_elim (λ f. a d w y f) inr (b d w y e)

pub told_wider : (P Q : ℕ → Type 0) (one other : FileTree ℕ) → ((y : ℕ) → P y → Q y) → Told P one other
    → Told Q one other
told_wider P Q one other wider a d w y e = ⊎_elim inl (λ p. inr (wider y p)) (a d w y e)

-- a change of one inode that keeps its entries
pub told_stay : (P : ℕ → Type 0) (files : FileTree ℕ) (number : ℕ) (change : Option (Node ℕ) → Option (Node ℕ))
    → ((o : Option (Node ℕ)) → entries_in (change o) ≡ entries_in o)
    → Told P files (changed_node nat_eq files number change)
told_stay P files number change same d w y e = inl (cc (entries_stay files number change same d))

-- a name that is given
pub told_name : (P : ℕ → Type 0) (files : FileTree ℕ) (d : ℕ) (w : List ℕ) (k : ℕ) → P k
    → Told P files (with_name nat_eq files d w k)
told_name P files d w k p x n y e = grind (
  arith,
  common_steps,
  given_told,
  eqb_tells,
  none_is_some,
  entries_in-no_directory,
  changed_node_there,
  is_directory-node_with_entry,
  elsewhere,
)

-- one that is taken away
pub told_without : (P : ℕ → Type 0) (files : FileTree ℕ) (d : ℕ) (w : List ℕ)
    → Told P files (without_name nat_eq files d w)
told_without P files d w x n y e = inl (untaken_told files d w x n y e).0

-- an inode without names in it
pub told_inode : (P : ℕ → Type 0) (files : FileTree ℕ) (c : ℕ) (node : Node ℕ) → entries_of node.content ≡ []
    → Told P files (with_inode nat_eq files c node)
told_inode P files c node bare x n y e = grind (arith, common_steps, eqb_tells, none_is_some, node_set, node_other)

-- a directory that loses its names
pub told_bare : (P : ℕ → Type 0) (files : FileTree ℕ) (r : ℕ)
    → Told P files (changed_node nat_eq files r node_without_entries)
told_bare P files r x n y e =
    grind (arith, common_steps, eqb_tells, none_is_some, changed_node_there, entries-node_without_entries, elsewhere)

pub told_emptied : (P : ℕ → Type 0) (files : FileTree ℕ) (o : Option ℕ) → Told P files (without_contents nat_eq files o)
told_emptied P files None = told_none P files
told_emptied P files (Some r) = grind (arith, common_steps, told_both, told_bare, told_stay, entries-node_with_parent)

pub told_unparented : (P : ℕ → Type 0) (files : FileTree ℕ) (o : Option ℕ)
    → Told P files (without_parent nat_eq files o)
told_unparented P files None = told_none P files
told_unparented P files (Some r) = told_stay P files r (node_with_parent r) (entries-node_with_parent r)

pub told_marked : (P : ℕ → Type 0) (files : FileTree ℕ) (b : Bool) (object : ℕ)
    → Told P files (with_mark nat_eq b files object)
told_marked P files true object = told_stay P files object (node_with_mark true) (entries-node_with_mark true)
told_marked P files false object = told_none P files

-- a name that is left, with a whiteout or without one
pub told_left : (P : ℕ → Type 0) (fresh : Fresh ℕ) (stack : Stack ℕ) (files : FileTree ℕ) (d : ℕ) (w : List ℕ)
    (b : Bool) → P (fresh 0) → Told P files (name_left_by nat_eq b fresh stack files d w)
told_left P fresh stack files d w true p =
    told_both P files (with_inode nat_eq files (fresh 0) (whiteout_of stack.mounter))
    (name_left_by nat_eq true fresh stack files d w) (told_inode P files (fresh 0) (whiteout_of stack.mounter) refl)
    (told_name P (with_inode nat_eq files (fresh 0) (whiteout_of stack.mounter)) d w (fresh 0) p)
told_left P fresh stack files d w false p = told_without P files d w

-- a move
pub told_moved : (P : ℕ → Type 0) (files : FileTree ℕ) (from : ℕ) (old : List ℕ) (to : ℕ) (new : List ℕ) (object : ℕ)
    → P object → Told P files (with_moved nat_eq files from old to new object)
told_moved P files from old to new object p =
    let first = without_parent nat_eq files (entry_named new (entries_in (files.tree.node to))) in
    let second = without_name nat_eq first from old in
    let third = with_name nat_eq second to new object in
    told_both P files first (with_moved nat_eq files from old to new object) (told_unparented P files _)
    (told_both P first second (with_moved nat_eq files from old to new object) (told_without P first from old)
    (told_both P second third (with_moved nat_eq files from old to new object) (told_name P second to new object p)
    (told_stay P third object (node_with_parent to) (entries-node_with_parent to))))
