-- Paths from one directory of a filesystem down to another.
use Rattle.std.proofs.Common.{◌≡◌, refl, sym, ap, ◌∙◌, true≢false, ℕ, nat_eq, ne_eqb, Bool, true, false, cond, ◌||◌, not, List, [], ◌∷◌, map, reverse, Option, Some, None, is_some, option_map, unwrap_or}
use Rattle.vt_spec.proofs.Common.{before_first, chain, is_among, is_directory_node, named_parent, own_name, path_down, same_Some, take_while-cons, tree_of as tree_of_inodes, when}
use Rattle.vt_fs.specs.Trees.Paths.{NamesDirectoriesOnce, files_of, path_in}
use Rattle.vt_fs.specs.Trees.TreeValue.{TreeValue, inodes_of, tree_of}
use Rattle.vt_location.specs.declared.locations.NodeRef.{NodeRef}
use Rattle.vt_location.specs.Births.{born_in}
use Rattle.vt_location.specs.Locations.{number_of}
use Rattle.vt_location.specs.Numbers.{counted, exchanged}
use Rattle.vt_location.proofs.NumberLemmas.{counted_inode, exchanged_back}
use Rattle.vt_fs.specs.FilesystemsValue.{FilesystemEntry, Filesystems, entry_at, entry_of, files_at, files_seen, inodes_seen, no_entry}
use Rattle.vt_fs.proofs.Numbers.{numbers_counted}
use Rattle.vt_fs.proofs.Standing.{entry_nowhere, entry_there, path_there, plain_there}

-- beside as many numbers as there are inodes
counted_path : (entry : FilesystemEntry) (top directory : ℕ)
    → path_in nat_eq (inodes_seen entry) top directory ≡ path_down nat_eq (files_seen entry) top directory
counted_path entry top directory =
    ap (λ n. when (is_among nat_eq top (chain n (named_parent nat_eq (tree_of_inodes (inodes_seen entry))) directory))
    (reverse (map (own_name nat_eq (files_of (inodes_seen entry)))
    (before_first (nat_eq top) (chain n (named_parent nat_eq (tree_of_inodes (inodes_seen entry))) directory)))))
    (sym (numbers_counted entry))

-- in a filesystem that is there
module _ (fs : Filesystems) (f : ℕ) (tree : TreeValue)
    (found : option_map (λ (entry : FilesystemEntry). entry.tree) (entry_of fs f) ≡ Some tree) where
  pub once_there : NamesDirectoriesOnce (files_at fs f).tree → NamesDirectoriesOnce (tree_of tree)
  once_there once directory name other object first second is =
      once (exchanged f directory) name other (exchanged f object)
      (entry_there fs f tree found directory (exchanged f directory) name refl ∙ ap (option_map (exchanged f)) first)
      (entry_there fs f tree found directory (exchanged f directory) other refl ∙ ap (option_map (exchanged f)) second)
      (plain_there fs f tree found Bool (λ A node. is_directory_node node) object (exchanged f object) refl ∙ is)

  pub path_is : (top_slot top slot number : ℕ) → exchanged f top_slot ≡ top → exchanged f slot ≡ number
      → path_in nat_eq (inodes_of tree) top_slot slot ≡ path_down nat_eq (files_at fs f) top number
  path_is top_slot top slot number same_top same =
      sym (path_there fs f tree found top_slot top slot number same_top same) ∙ counted_path (entry_at fs f) top number

-- in one that is not there, from a directory to itself alone
module _ (fs : Filesystems) (f : ℕ)
    (absent : option_map (λ (entry : FilesystemEntry). entry.tree) (entry_of fs f) ≡ None) (top directory : ℕ) where
  abbrev path_at : FilesystemEntry → Option (List (List ℕ))
  path_at entry = path_down nat_eq (files_seen entry) top directory

  nowhere_path : (b : Bool) → nat_eq top directory ≡ b → path_at (no_entry f) ≡ when b []
  nowhere_path b is = (λ i. when (is i || false) (reverse (map (own_name nat_eq (files_seen (no_entry f)))
      ((take_while-cons (λ a. not (nat_eq top a)) directory []
      ∙ ap (λ same. cond (not same) (directory ∷ []) []) is) i)))) ∙ by b
    where
      by : (b : Bool) → when (b || false)
          (reverse (map (own_name nat_eq (files_seen (no_entry f))) (cond (not b) (directory ∷ []) []))) ≡ when b []
      by true = refl
      by false = refl

  pub path_nowhere : (b : Bool) → nat_eq top directory ≡ b → path_at (entry_at fs f) ≡ when b []
  path_nowhere b is = ap path_at (entry_nowhere fs f absent) ∙ nowhere_path b is

-- the root
pub root_is : (fs : Filesystems) (f : ℕ) (root : NodeRef)
    → Some (number_of root) ≡ option_map (λ entry. (inodes_seen entry).root) (entry_of fs f)
    → (files_at fs f).tree.root ≡ number_of root
root_is fs f root is = by (entry_of fs f) is
  where
    by : (o : Option FilesystemEntry) → Some (number_of root) ≡ option_map (λ entry. (inodes_seen entry).root) o
        → (inodes_seen (unwrap_or o (no_entry f))).root ≡ number_of root
    by None e = absurd (true≢false (ap is_some e))
    by (Some entry) e = same_Some (inodes_seen entry).root (number_of root) (sym e)

pub root_nowhere : (fs : Filesystems) (directory : NodeRef)
    → None ≡ option_map (λ entry. (inodes_seen entry).root) (entry_of fs directory.filesystem.count)
    → path_down nat_eq (files_at fs directory.filesystem.count) (files_at fs directory.filesystem.count).tree.root
    (number_of directory) ≡ None
root_nowhere fs directory is =
    let f = directory.filesystem.count in
    let absent = nowhere (entry_of fs f) is in
    ap (λ entry. path_down nat_eq (files_seen entry) (files_seen entry).tree.root (number_of directory))
    (entry_nowhere fs f absent) ∙ nowhere_path fs f absent (inodes_seen (no_entry f)).root (number_of directory) false
    (ne_eqb (inodes_seen (no_entry f)).root (number_of directory)
    (λ same. counted_inode f (born_in f directory.birth) directory.slot (sym (exchanged_back f (counted f)) ∙ same)))
  where
    nowhere : (o : Option FilesystemEntry) → None ≡ option_map (λ entry. (inodes_seen entry).root) o
        → option_map (λ (entry : FilesystemEntry). entry.tree) o ≡ None
    nowhere None e = refl
    nowhere (Some entry) e = absurd (true≢false (sym (ap is_some e)))
