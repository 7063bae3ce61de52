-- What a store shows is what the world that holds it shows.
use Rattle.std.proofs.Common.{◌≡◌, refl, sym, ap, subst, ◌∙◌, ⊎_elim, inl, inr, ◌⊎◌, ℕ, nat_eq, true≢false, Option, Some, None}
use Rattle.vt_spec.proofs.Common.{FileTree, Filesystem, Tree, ancestors, filesystem_numbered, is_among, is_directory_node, is_directory_under, is_overlay, no_filesystem}
use Rattle.vt_ns.proofs.Common.{IsFileTree, IsHeld, StoreValue, WorldValue, all_from_among, counted, files_shown, layered_in, lent_in, lent_of_world, numbered_all, store_stands, with_store, world_of}
use Rattle.vt_laws_trees.proofs.trees.TreesOfWorlds.{number_numbered}
use Rattle.vt_fs.specs.Laws.{LieUnderRoot}
use Rattle.vt_layered.specs.LayeredValue.{LayeredValue}
use Rattle.vt_store.proofs.NodesAlike.{nodes_are_like_objects}
use Rattle.vt_store.proofs.Woven.{is_over, is_plain}
use Rattle.vt_store.specs.StoreValue.{files_in, filesystem_in, filesystems_of}
use Rattle.vt_mounting.proofs.detach.StoreLends.{store_lends}
use Rattle.vt_mounting.proofs.detach.StoreShown.{overlay_found, plain_found}
use Rattle.vt_mounting.proofs.detach.StoreTrees.{store_tree}
use Rattle.vt_ns.proofs.looking.Lending.{lent_as_it_is}
use Rattle.vt_ns.proofs.looking.LostKept.{file_tree, lie_nowhere, lie_under_root}
use Rattle.vt_ns.proofs.looking.WaysUp.{same_above}
use Rattle.vt_ns.specs.Lent.{as_lent}

-- a tree has its root
no_tree : (files : FileTree ℕ) (number : ℕ) → IsFileTree files → files.tree ≡ (no_filesystem number).files.tree → ⊥
no_tree files number is none = true≢false (sym is.tree.root_directory
    ∙ ap (λ (tree : Tree ℕ). is_directory_node (tree.node tree.root)) none)

module _ (base : WorldValue) (store : StoreValue) (held : IsHeld (with_store store base)) (count : ℕ) where
  abbrev shown : Filesystem ℕ
  shown = filesystem_numbered nat_eq (world_of (with_store store base)) (counted count)

  abbrev kept : FileTree ℕ
  kept = files_in store count

  abbrev nothing : Filesystem ℕ
  nothing = no_filesystem (counted count)

  shown_tree : IsFileTree shown.files ⊎ (shown ≡ nothing)
  shown_tree = ⊎_elim (λ tree. inl tree) (λ missing. inr missing.0)
      (numbered_all (λ (f : Filesystem ℕ). IsFileTree f.files) (counted count)
      (world_of (with_store store base)).filesystems
      (all_from_among (λ (f : Filesystem ℕ). IsFileTree f.files) (world_of (with_store store base)).filesystems
      (file_tree (with_store store base) held)))

  -- the same directories are above each
  pub above_shown : (directory : ℕ) → ancestors nat_eq (files_in store count) directory
      ≡ ancestors nat_eq (filesystem_numbered nat_eq (world_of (with_store store base)) (counted count)).files directory
  above_shown directory = ⊎_elim (λ tree. ⊎_elim
      (λ other. same_above kept shown.files tree other (files_shown base store held count) directory)
      (λ none. absurd (no_tree kept (counted count) tree
      (files_shown base store held count ∙ ap (λ (f : Filesystem ℕ). f.files.tree) none))) shown_tree) (λ none. ⊎_elim
      (λ other. absurd (no_tree shown.files (counted count) other
      (sym (files_shown base store held count) ∙ ap (λ (files : FileTree ℕ). files.tree) none)))
      (λ missing. ap (λ (files : FileTree ℕ). ancestors nat_eq files directory)
      (none ∙ sym (ap (λ (f : Filesystem ℕ). f.files) missing))) shown_tree) (store_tree base store held count)

  -- so the same lie under each
  pub under_shown : (top directory : ℕ) → is_directory_under nat_eq (files_in store count) top directory
      ≡ is_directory_under nat_eq (filesystem_numbered nat_eq (world_of (with_store store base)) (counted count)).files
      top directory
  under_shown top directory = ap (is_among nat_eq top) (above_shown directory)

  -- and what is not removed lies under the root
  pub store_rooted : LieUnderRoot (files_in store count)
  store_rooted = ⊎_elim (λ tree. lie_under_root kept tree)
      (λ none. subst (λ (files : FileTree ℕ). LieUnderRoot files) (sym none) (lie_nowhere (counted count)))
      (store_tree base store held count)

  -- it is an overlay there and here
  pub overlay_shown : is_overlay (filesystem_in store count)
      ≡ is_overlay (filesystem_numbered nat_eq (world_of (with_store store base)) (counted count))
  overlay_shown = by (layered_in store count) refl
    where
      by : (o : Option LayeredValue) → layered_in store count ≡ o → is_overlay (filesystem_in store count)
          ≡ is_overlay (filesystem_numbered nat_eq (world_of (with_store store base)) (counted count))
      by None e = ap is_overlay (is_plain store count e ∙ sym (plain_found base store held count e))
      by (Some layered) e =
          let over = is_over store count layered e in
          let number : counted count ≡ counted over.entry.count =
          sym (number_numbered (counted count) (filesystems_of store)) ∙ ap (λ (f : Filesystem ℕ). f.number) over.is in
          ap is_overlay over.is ∙ sym (ap is_overlay
          (ap (filesystem_numbered nat_eq (world_of (with_store store base))) number
          ∙ overlay_found base store held over.entry over.among))

  -- and what is lent is lent as it is
  pub lent_shown : (number : ℕ) → lent_in store count number
      ≡ as_lent ((filesystem_numbered nat_eq (world_of (with_store store base)) (counted count)).files.tree.node number)
      (lent_of_world (world_of (with_store store base)) (counted count) number)
  lent_shown number = sym (lent_as_it_is (kept.tree.node number) (lent_in store count number)
      (nodes_are_like_objects store count number (store_stands base store held)))
      ∙ (λ i. as_lent ((files_shown base store held count i).node number) (store_lends base store held count number i))
