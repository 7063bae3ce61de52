-- The filesystems of a store are trees with the numbers of their inodes beside them.
use Rattle.std.proofs.Common.{◌≡◌, ◌⊎◌, refl, sym, ap, subst, ◌∙◌, ⊎_elim, inl, inr, ℕ, nat_eq, true≢false, Option, Some, None}
use Rattle.vt_spec.proofs.Common.{FileTree, Filesystem, HasOwnParents, IsTree, ListsNumbers, Tree, filesystem_numbered, is_overlay, no_filesystem}
use Rattle.vt_world.proofs.overlays_kept.inodes.InodesInOrder.{numbers_are_listed}
use Rattle.vt_mounting.proofs.Common.{IsHeld, StoreValue, WorldValue, among_from_all, counted, entry_at, number_numbered, numbered_all, numbers_listed, with_store, world_of}
use Rattle.vt_laws_trees.specs.Trees.{IsFileTree}
use Rattle.vt_layered.specs.LayeredValue.{LayeredValue}
use Rattle.vt_store.proofs.Woven.{is_over, is_plain}
use Rattle.vt_store.specs.StoreValue.{StandsOnLayers, files_in, filesystems_of, layered_in}
use Rattle.vt_mounting.proofs.detach.LowerKept.{shown_are}
use Rattle.vt_mounting.proofs.detach.StoreShown.{files_shown, kept_lower, overlay_found, plain_found, store_stands}

module _ (base : WorldValue) (store : StoreValue) (held : IsHeld (with_store store base)) (count : ℕ) where
  abbrev found : Filesystem ℕ
  found = filesystem_numbered nat_eq (world_of (with_store store base)) (counted count)

  numbers_in : ListsNumbers nat_eq (files_in store count)
  numbers_in = by (layered_in store count) refl
    where
      by : (o : Option LayeredValue) → layered_in store count ≡ o → ListsNumbers nat_eq (files_in store count)
      by None e = subst (λ (files : FileTree ℕ). ListsNumbers nat_eq files)
          (sym (ap (λ (f : Filesystem ℕ). f.files) (is_plain store count e)))
          (numbers_listed (entry_at store.plain count))
      by (Some layered) e =
          let over = is_over store count layered e in
          subst (λ (files : FileTree ℕ). ListsNumbers nat_eq files) (sym (ap (λ (f : Filesystem ℕ). f.files)
          (over.is ∙ shown_are over.entry (kept_lower base store held over.entry over.among) store.plain)))
          (numbers_are_listed store.plain over.entry.overlay
          (among_from_all (StandsOnLayers store.plain) store.overlays (store_stands base store held) over.entry
          over.among).layers)

  -- where the world has no such filesystem, the store has an empty one
  missing : filesystem_numbered nat_eq (world_of (with_store store base)) (counted count)
      ≡ no_filesystem (counted count) → files_in store count ≡ (no_filesystem (counted count)).files
  missing none = by (layered_in store count) refl
    where
      by : (o : Option LayeredValue) → layered_in store count ≡ o
          → files_in store count ≡ (no_filesystem (counted count)).files
      by None e = ap (λ (f : Filesystem ℕ). f.files)
          (is_plain store count e ∙ sym (plain_found base store held count e) ∙ none)
      by (Some layered) e =
          let over = is_over store count layered e in
          let number : counted count ≡ counted over.entry.count =
          sym (number_numbered (counted count) (filesystems_of store)) ∙ ap (λ (f : Filesystem ℕ). f.number) over.is in
          absurd (true≢false (ap is_overlay (sym (overlay_found base store held over.entry over.among)
          ∙ ap (filesystem_numbered nat_eq (world_of (with_store store base))) (sym number) ∙ none)))

  pub store_tree : IsFileTree (files_in store count) ⊎ (files_in store count ≡ (no_filesystem (counted count)).files)
  store_tree = ⊎_elim (λ tree. ⊎_elim (λ own. inl (record {
    tree = subst (λ (tree : Tree ℕ). IsTree tree) (sym (files_shown base store held count)) tree;
    numbers = numbers_in;
    own_parents = subst (λ (tree : Tree ℕ). HasOwnParents tree) (sym (files_shown base store held count)) own;
  })) (λ none. inr (missing none.0))
      (numbered_all (λ (f : Filesystem ℕ). HasOwnParents f.files.tree) (counted count)
      (world_of (with_store store base)).filesystems held.in_world.files.own_parents)) (λ none. inr (missing none.0))
      (numbered_all (λ (f : Filesystem ℕ). IsTree f.files.tree) (counted count)
      (world_of (with_store store base)).filesystems held.in_world.files.trees)
