-- The directories that have names for a file, among those that its tree lists.
use Rattle.std.proofs.Common.{Bool, List, Some, false, length, nat_eq, option_map, refl, slice_index_or, sym, true, ℕ, ◌<◌, ◌&&◌, ◌||◌, ◌∙◌, ◌∷◌, ◌≡◌, [], flat_map}
use Rattle.vt_spec.proofs.Common.{Tree, and-true, has_entry_to, is_among, list_any, list_any-append, named_in, targets_in}
use Rattle.vt_fs.specs.FilesystemsValue.{FilesystemEntry, Filesystems, entry_of, files_at}
use Rattle.vt_location.specs.Numbers.{exchanged, inode_number}
use Rattle.vt_upper_overlay.proofs.NamesFound.{none_passing, one_passing}
use Rattle.vt_store.specs.Locks.{directory_lies_in_overlay, names_in_layer}
use Rattle.vt_store.specs.OverlaysValue.{OverlayEntry}
use Rattle.vt_fs.specs.Trees.Names.{HoldsNames}
use Rattle.vt_fs.specs.Trees.TreeValue.{TreeValue, tree_of}

module _ (plain : Filesystems) (overlays : List OverlayEntry) (count : ℕ) (tree : TreeValue)
    (is : Some tree ≡ option_map (λ (entry : FilesystemEntry). entry.tree) (entry_of plain count))
    (slot : ℕ) (small : slot < 18446744073709551616) (directories : List ℕ)
    (holds : HoldsNames (tree_of tree) slot directories) where
  abbrev in_layer : ℕ → Bool
  in_layer number = list_any (directory_lies_in_overlay plain count number) overlays

  abbrev names : ℕ → Bool
  names = names_in_layer plain overlays count (inode_number count slot)

  -- those that lie in a layer
  pub one_named : (number : ℕ) → names number ≡ true → list_any names (files_at plain count).numbers ≡ true
  one_named = one_passing plain count in_layer tree is slot small directories holds

  pub none_named : ((k : ℕ) → k < length directories → names (exchanged count (slice_index_or directories k 0)) ≡ false)
      → list_any names (files_at plain count).numbers ≡ false
  none_named = none_passing plain count in_layer tree is slot small directories holds

-- An inode has a name just if some directory has one for it

named_after : (tree : Tree ℕ) (object : ℕ) (numbers : List ℕ)
    → is_among nat_eq object (flat_map (λ directory. targets_in (tree.node directory)) numbers)
    ≡ list_any (λ directory. has_entry_to nat_eq tree directory object && true) numbers
named_after tree object [] = refl
named_after tree object (directory ∷ numbers) =
    list_any-append (nat_eq object) (targets_in (tree.node directory)) _
    ∙ (λ i. sym (and-true (has_entry_to nat_eq tree directory object)) i || named_after tree object numbers i)

module _ (plain : Filesystems) (count : ℕ) (tree : TreeValue)
    (is : Some tree ≡ option_map (λ (entry : FilesystemEntry). entry.tree) (entry_of plain count))
    (slot : ℕ) (small : slot < 18446744073709551616) (directories : List ℕ)
    (holds : HoldsNames (tree_of tree) slot directories) where
  abbrev has_name : ℕ → Bool
  has_name number = has_entry_to nat_eq (files_at plain count).tree number (inode_number count slot)

  pub named_by_one : (number : ℕ) → has_name number ≡ true
      → is_among nat_eq (inode_number count slot) (named_in (files_at plain count)) ≡ true
  named_by_one number named = named_after (files_at plain count).tree (inode_number count slot) (files_at plain count).numbers
      ∙ one_passing plain count (λ number. true) tree is slot small directories holds number
      (and-true (has_name number) ∙ named)

  pub named_by_none : ((k : ℕ) → k < length directories
      → has_name (exchanged count (slice_index_or directories k 0)) ≡ false)
      → is_among nat_eq (inode_number count slot) (named_in (files_at plain count)) ≡ false
  named_by_none fails = named_after (files_at plain count).tree (inode_number count slot) (files_at plain count).numbers
      ∙ none_passing plain count (λ number. true) tree is slot small directories holds
      (λ k within. and-true (has_name (exchanged count (slice_index_or directories k 0))) ∙ fails k within)
