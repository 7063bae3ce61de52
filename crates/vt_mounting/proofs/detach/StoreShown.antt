-- The filesystems of a store are those of the world that holds it.
use Rattle.std.proofs.Common.{◌≡◌, refl, sym, ap, subst, ◌∙◌, ⊎_elim, ℕ, nat_eq, eq-eqb, Bool, true, false, cond, not, List, [], ◌∷◌, find, Option, Some, None, unwrap_or, option_map, arith, All}
use Rattle.vt_spec.proofs.Common.{Filesystem, HasOwnParents, IsTree, Tree, World, filesystem_numbered, no_filesystem, none_is_some}
use Rattle.vt_mounting.proofs.Common.{Among, IsHeld, StoreValue, WorldValue, all_from_among, among-from_map, among-map, counted, counted_test, entry_at, entry_in, filesystem_seen, filesystems_seen, found_by_number, found_filesystem, number_numbered, numbered_all, overlay_of_store, overlay_seen, overlays_of_store, overlays_seen, with_store, world_of}
use Rattle.vt_laws_worlds.proofs.overlays_stay.weaving.WovenLists.{plain_ones_are_found}
use Rattle.vt_fs.proofs.Parents.{parents_named}
use Rattle.vt_fs.specs.Laws.{ParentsAreNamed}
use Rattle.vt_layered.specs.LayeredValue.{LayeredValue}
use Rattle.vt_world.proofs.overlays_kept.inodes.InodesAbove.{layered_inodes_are_the_tree}
use Rattle.vt_store.proofs.KeptObjects.{layered_entry}
use Rattle.vt_store.proofs.Woven.{is_over, is_plain}
use Rattle.vt_store.specs.OverlaysValue as stored
use Rattle.vt_store.specs.StoreValue.{StandOnLayers, StandsOnLayers, files_in, filesystems_of, layered_in}
use Rattle.vt_mounting.proofs.detach.LayersShown.{fits, has_no_upper, layers_number, layers_shown_well}
use Rattle.vt_mounting.proofs.detach.LowerKept.{keeps_right, lower_of, lowers_are}
use Rattle.vt_mounting.proofs.detach.PlainFound.{overlay_among}

-- where none is found, each fails
none_found : {A : Type 0} (test : A → Bool) (list : List A) → find test list ≡ None → (a : A) → Among a list
    → test a ≡ false
none_found test [] none a m = absurd m
none_found {A = A} test (first ∷ rest) none a m = by (test first) refl none (none_found test rest)
  where
    by : (b : Bool) → test first ≡ b → cond b (Some first) (find test rest) ≡ None
        → (find test rest ≡ None → (a : A) → Among a rest → test a ≡ false) → test a ≡ false
    by true e none later = none_is_some first (sym none)
    by false e none later = ⊎_elim (λ same. ap test same ∙ e) (later none a) m

module _ (base : WorldValue) (store : StoreValue) (held : IsHeld (with_store store base)) where
  abbrev value : WorldValue
  value = with_store store base

  abbrev world : World ℕ
  world = world_of (with_store store base)

  kept_among : (entry : stored.OverlayEntry) → Among entry store.overlays
      → Among (overlay_of_store store.plain entry) (overlays_of_store store)
  kept_among entry m = among-map (overlay_of_store store.plain) store.overlays entry m

  -- its overlays have no upper layer
  pub kept_lower : (entry : stored.OverlayEntry) → Among entry store.overlays → entry.above ≡ None
  kept_lower entry m = lower_of entry.overlay entry.above
      (fits held (overlay_of_store store.plain entry) (kept_among entry m)).0
      (has_no_upper held (overlay_of_store store.plain entry) (kept_among entry m))

  -- and stand on layers
  pub store_stands : StandOnLayers store
  store_stands = all_from_among (StandsOnLayers store.plain) store.overlays (λ entry m.
      let lower = kept_lower entry m in
      let shown = layers_shown_well held (overlay_of_store store.plain entry)
      (kept_among entry m) entry.overlay.lowers (lowers_are entry lower) in
      let number = layers_number held (overlay_of_store store.plain entry)
      (kept_among entry m) entry.overlay.lowers (lowers_are entry lower) in
      let few = number.1 in record {
        layers = shown.0;
        some = number.0;
        few = omega (arith, few);
        right = keeps_right entry lower store.plain;
      })

  -- an overlay of it is found in the world
  pub overlay_found : (entry : stored.OverlayEntry) → Among entry store.overlays
      → filesystem_numbered nat_eq (world_of (with_store store base)) (counted entry.count)
      ≡ overlay_seen (overlay_of_store store.plain entry)
  overlay_found entry m =
      found_filesystem (world_of (with_store store base)).filesystems held.in_world.files.one_filesystem
      (overlay_seen (overlay_of_store store.plain entry))
      (overlay_among (with_store store base) held.overlays (overlay_seen (overlay_of_store store.plain entry))
      (among-map overlay_seen (overlays_of_store store) (overlay_of_store store.plain entry) (kept_among entry m))).0

  -- and so is what is no overlay
  pub plain_found : (count : ℕ) → layered_in store count ≡ None
      → filesystem_numbered nat_eq (world_of (with_store store base)) (counted count)
      ≡ filesystem_seen (entry_at store.plain count)
  plain_found count none = ap (λ o. unwrap_or o (no_filesystem (counted count)))
      (plain_ones_are_found (filesystems_seen store.plain) (overlays_seen (overlays_of_store store)) (counted count)
      (all_from_among (λ (overlay : Filesystem ℕ). nat_eq (counted count) overlay.number ≡ false)
      (overlays_seen (overlays_of_store store)) (λ overlay m.
      let one = among-from_map overlay_seen (overlays_of_store store) overlay m in
      let entry = among-from_map (overlay_of_store store.plain) store.overlays one.0 one.1 in
      ap (λ (f : Filesystem ℕ). nat_eq (counted count) f.number) (one.2 ∙ ap overlay_seen entry.2)
      ∙ counted_test count entry.0.count
      ∙ none_found (λ (one : stored.OverlayEntry). nat_eq count one.count) store.overlays
      (no_entry (entry_in store count) none) entry.0 entry.1))) ∙ found_by_number store.plain count
    where
      no_entry : (o : Option stored.OverlayEntry)
          → option_map layered_entry o ≡ None → o ≡ None
      no_entry None e = refl
      no_entry (Some entry) e = none_is_some (layered_entry entry) (sym e)

  -- each tree of the store is that of the world
  pub files_shown : (count : ℕ) → (files_in store count).tree
      ≡ (filesystem_numbered nat_eq (world_of (with_store store base)) (counted count)).files.tree
  files_shown count = by (layered_in store count) refl
    where
      by : (o : Option LayeredValue) → layered_in store count ≡ o → (files_in store count).tree
          ≡ (filesystem_numbered nat_eq (world_of (with_store store base)) (counted count)).files.tree
      by None e = ap (λ (f : Filesystem ℕ). f.files.tree) (is_plain store count e ∙ sym (plain_found count e))
      by (Some layered) e =
          let over = is_over store count layered e in
          let number : counted count ≡ counted over.entry.count =
          sym (number_numbered (counted count) (filesystems_of store)) ∙ ap (λ (f : Filesystem ℕ). f.number) over.is in
          ap (λ (f : Filesystem ℕ). f.files.tree) over.is
          ∙ sym (layered_inodes_are_the_tree store.plain over.entry.overlay over.entry.above)
          ∙ ap (λ (f : Filesystem ℕ). f.files.tree)
          (sym (ap (filesystem_numbered nat_eq (world_of (with_store store base))) number
          ∙ overlay_found over.entry over.among))

  -- in each directories are named by their parents
  pub parents_named_in : (count : ℕ) → ParentsAreNamed (files_in store count).tree
  parents_named_in count = subst (λ (tree : Tree ℕ). ParentsAreNamed tree) (sym (files_shown count)) (⊎_elim
      (λ tree. ⊎_elim (λ own. parents_named (filesystem_numbered nat_eq world (counted count)).files.tree tree own)
      missing (numbered_all (λ (f : Filesystem ℕ). HasOwnParents f.files.tree) (counted count) world.filesystems
      held.in_world.files.own_parents)) missing
      (numbered_all (λ (f : Filesystem ℕ). IsTree f.files.tree) (counted count) world.filesystems
      held.in_world.files.trees))
    where
      missing : (filesystem_numbered nat_eq (world_of (with_store store base)) (counted count)
          ≡ no_filesystem (counted count)) × All (λ (f : Filesystem ℕ). nat_eq (counted count) f.number ≡ false)
          (world_of (with_store store base)).filesystems
          → ParentsAreNamed (filesystem_numbered nat_eq (world_of (with_store store base)) (counted count)).files.tree
      missing none = subst (λ (f : Filesystem ℕ). ParentsAreNamed f.files.tree) (sym none.0)
          (λ directory other. ap not (sym (eq-eqb directory directory refl)))
