-- A node that the tree of a filesystem does not have.
use Rattle.std.proofs.Common.{◌≡◌, refl, sym, ap, ◌∙◌, true≢false, ℕ, zero, suc, ◌||◌, Bool, true, false, cond, nat_eq, List, [], ◌∷◌, map, reverse, Option, Some, None, option_map, is_some, not, IfSome, IsSome, if◌then◌else◌, take_while, eqb-true}
use Rattle.vt_spec.proofs.Common.{FileTree, Inode, Inodes, IsDirectory, Node, SetAttr, SetBytes, SetMark, ancestors, before_first, chain, count_after, entries_in, entry_at, entry_named, inode_with_node, is_directory_node, is_directory_under, is_removed, node_in, node_with_attr, node_with_bytes, node_with_mark, own_name, path_down, pinned, renamed_inode, same_Some, take_while-cons, unpinned, used_once_less, used_once_more, when, with_changed}
use Rattle.vt_spec.specs.declared.attributes.Attr.{Attr}
use Rattle.vt_spec.specs.Inodes.{changed, with_inode}
use Rattle.vt_location.specs.Numbers.{exchanged}
use Rattle.vt_fs.specs.Trees.TreeValue.{TreeValue, inodes_of}
use Rattle.vt_fs.specs.FilesystemsValue.{ChangesInodes, FilesystemEntry, Filesystems, entry_of, files_at, inodes_at, inodes_seen, seen_in, with_tree}
use Rattle.vt_fs.specs.Laws.{LieUnderRoot, is_lost_under}
use Rattle.vt_fs.proofs.Standing.{Standing, at_look, changes_seen, entry_nowhere}
use Rattle.vt_fs.proofs.TreesLookedAt.{nowhere_removed, nowhere_under, under_nowhere}

-- What has no slot in the tree of its filesystem has no inode there

module _ (fs : Filesystems) (f : ℕ) (tree : TreeValue)
    (found : option_map (λ (entry : FilesystemEntry). entry.tree) (entry_of fs f) ≡ Some tree) (number : ℕ)
    (none : (inodes_of tree).inode (exchanged f number) ≡ None) where
  pub no_inode_there : (inodes_at fs f).inode number ≡ None
  no_inode_there = ap (λ (all : Inodes _). all.inode number) (at_look fs f tree found seen_in)
      ∙ ap (option_map (renamed_inode (exchanged f) (exchanged f))) none

  pub no_node_there : (files_at fs f).tree.node number ≡ None
  no_node_there = ap node_in no_inode_there

-- nor has anything where there is no such filesystem
pub no_inode_else : (fs : Filesystems) (f number : ℕ)
    → option_map (λ (entry : FilesystemEntry). entry.tree) (entry_of fs f) ≡ None
    → (inodes_at fs f).inode number ≡ None
no_inode_else fs f number absent = ap (λ entry. (inodes_seen entry).inode number) (entry_nowhere fs f absent)

-- A change of what is nowhere changes nothing

module _ (inodes : Inodes ℕ) (number : ℕ) (none : inodes.inode number ≡ None) where
  with_none : (inode : Option (Inode ℕ)) → inode ≡ None → with_inode nat_eq inodes number inode ≡ inodes
  with_none inode is = λ i. record inodes { inode = λ other. at other (nat_eq other number) refl i }
    where
      at : (other : ℕ) (b : Bool) → nat_eq other number ≡ b
          → (if nat_eq other number then inode else inodes.inode other) ≡ inodes.inode other
      at other true e = ap (λ b. if b then inode else inodes.inode other) e ∙ is ∙ sym none
          ∙ ap inodes.inode (sym (eqb-true other number e))
      at other false e = ap (λ b. if b then inode else inodes.inode other) e

  pub pinned_none : pinned nat_eq inodes number ≡ inodes
  pinned_none = with_none (used_once_more (inodes.inode number)) (ap used_once_more none)

  pub unpinned_none : unpinned nat_eq inodes number ≡ inodes
  unpinned_none = (λ i. record (with_none (used_once_less (inodes.inode number)) (ap used_once_less none) i) {
    count = cond (is_some (none i)) (count_after inodes.count (used_once_less (inodes.inode number))) inodes.count;
  })

  changed_none : (change : Option (Node ℕ) → Option (Node ℕ)) → change None ≡ None
      → with_changed nat_eq inodes number change ≡ inodes
  changed_none change is = with_none (inode_with_node (change (node_in (inodes.inode number))) (inodes.inode number))
      ((λ i. inode_with_node (change (node_in (none i))) (none i)) ∙ ap (λ node. inode_with_node node None) is)

  pub bytes_none : (bytes : List ℕ) → changed nat_eq inodes (SetBytes number bytes) ≡ inodes
  bytes_none bytes = changed_none (node_with_bytes bytes) refl

  pub attr_none : (attr : Attr) → changed nat_eq inodes (SetAttr number attr) ≡ inodes
  attr_none attr = changed_none (node_with_attr attr) refl

  pub mark_none : (opaque : Bool) → changed nat_eq inodes (SetMark number opaque) ≡ inodes
  mark_none opaque = changed_none (node_with_mark opaque) refl

pub unchanged : (fs : Filesystems) (f : ℕ) (tree : TreeValue) → Standing fs f tree → (change : Inodes ℕ → Inodes ℕ)
    → change (inodes_at fs f) ≡ inodes_at fs f → ChangesInodes f change fs (with_tree f tree fs)
unchanged fs f tree standing change same =
    let seen = at_look fs f tree standing.found seen_in in
    changes_seen f change fs tree tree standing (sym seen ∙ sym same ∙ ap change seen)

-- The slot of what is somewhere

pub slot_there : (f number : ℕ) (o : Option ℕ) (slot : ℕ) → IfSome o (λ slot. exchanged f slot ≡ number) → o ≡ Some slot
    → exchanged f slot ≡ number
slot_there f number None slot is e = absurd cc
slot_there f number (Some other) slot is e = ap (exchanged f) (sym (same_Some other slot e)) ∙ is

module _ (fs : Filesystems) (f number : ℕ) (o : Option ℕ) (nowhere : o ≡ None
    → (inodes_at fs f).inode number ≡ None) where
  has_slot : ((files_at fs f).tree.node number ≡ None → ⊥) → IsSome o
  has_slot there = by o nowhere
    where
      by : (o : Option ℕ) → (o ≡ None → (inodes_at fs f).inode number ≡ None) → IsSome o
      by None nowhere = absurd (there (ap node_in (nowhere refl)))
      by (Some slot) nowhere = refl

  pub inode_has_slot : is_some ((files_at fs f).tree.node number) ≡ true → IsSome o
  inode_has_slot there = has_slot (λ none. true≢false (sym there ∙ ap is_some none))

  pub directory_has_slot : IsDirectory (files_at fs f).tree number → IsSome o
  directory_has_slot is = has_slot (λ none. true≢false (sym is ∙ ap is_directory_node none))

  pub parent_has_slot : (name : List ℕ) (object : ℕ) → entry_at (files_at fs f).tree number name ≡ Some object
      → IsSome o
  parent_has_slot name object named = has_slot (λ none. true≢false (ap is_some (sym named)
      ∙ ap (λ node. is_some (entry_named name (entries_in node))) none))

-- What lies under what

module _ (fs : Filesystems) (f number : ℕ) (none : (inodes_at fs f).inode number ≡ None) where
  none_there : (files_at fs f).tree.node number ≡ None
  none_there = ap node_in none

  pub removed_there : nat_eq number (files_at fs f).tree.root ≡ false
      → is_removed nat_eq (files_at fs f).tree number ≡ true
  removed_there apart = nowhere_removed (files_at fs f).tree number none_there apart

  pub over_none : (directory : ℕ) → is_directory_under nat_eq (files_at fs f) number directory ≡ nat_eq number directory
  over_none directory = under_nowhere (files_at fs f) number directory none_there

  pub under_none : (top : ℕ) → is_directory_under nat_eq (files_at fs f) top number ≡ nat_eq top number
  under_none top = nowhere_under (files_at fs f) top number none_there

begins : (next : ℕ → Option ℕ) (n top directory : ℕ) → nat_eq top directory ≡ true
    → before_first (nat_eq top) (chain n next directory) ≡ []
begins next n top directory is = by n
  where
    first : (rest : List ℕ) → before_first (nat_eq top) (directory ∷ rest) ≡ []
    first rest = take_while-cons (λ a. not (nat_eq top a)) directory rest
        ∙ ap (λ same. cond (not same) (directory ∷ take_while (λ a. not (nat_eq top a)) rest) []) is

    on : (n : ℕ) (o : Option ℕ)
        → before_first (nat_eq top) (elim o [ None ↦ directory ∷ [] | Some b ↦ directory ∷ chain n next b ]) ≡ []
    on n None = first []
    on n (Some above) = first (chain n next above)

    by : (n : ℕ) → before_first (nat_eq top) (chain n next directory) ≡ []
    by zero = first []
    by (suc n) = on n (next directory)

-- where a directory lies under itself alone, no names lead to it
pub path_to_itself : (files : FileTree ℕ) (top directory : ℕ)
    → is_directory_under nat_eq files top directory ≡ nat_eq top directory
    → path_down nat_eq files top directory ≡ when (nat_eq top directory) []
path_to_itself files top directory under =
    ap (λ b. when b (names (before_first (nat_eq top) (ancestors nat_eq files directory)))) under
    ∙ by (nat_eq top directory) refl
  where
    names : List ℕ → List (List ℕ)
    names list = reverse (map (own_name nat_eq files) list)

    by : (b : Bool) → nat_eq top directory ≡ b
        → when b (names (before_first (nat_eq top) (ancestors nat_eq files directory))) ≡ when b []
    by true is = ap (λ list. Some (names list)) (begins _ _ top directory is)
    by false is = refl

-- `..` of the root is not lost on a mount of the whole filesystem
pub not_lost_at_root : (files : FileTree ℕ) (root directory : ℕ) → LieUnderRoot files
    → is_removed nat_eq files.tree directory ≡ false → nat_eq files.tree.root root ≡ true
    → is_lost_under files root directory ≡ false
not_lost_at_root files root directory rooted stays same =
    (λ i. stays i || not (is_directory_under nat_eq files (sym (eqb-true files.tree.root root same) i) directory))
    ∙ ap not (rooted directory stays)
