-- What lies in layers of a store is what a world with its filesystems locks.
use Rattle.std.proofs.Common.{◌≡◌, ◌∙◌, ◌&&◌, ◌||◌, ◌++◌, ◌∷◌, [], ap, arith, Bool, cond, drop, eqb-true, false, filter, find, flat_map, inl, inr, is_some, List, map, nat_eq, nat_lt, None, not, Option, option_map, option_to_list, refl, slice_get, Some, subst, sym, true, true≢false, unwrap_or, ℕ}
use Rattle.vt_spec.proofs.Common.{Among, Filesystem, IsWorld, Layer, Overlay, World, among_from_all, among_from_list_all, and_true_left, common_steps, filesystem_numbered, is_among, is_overlay, is_plain_layer, is_under, layers_of, lies_in_layer, list_all, list_any, list_any-append, live_layers, no_filesystem, none_among, none_from_among, of_overlay, overlay_or}
use Rattle.vt_laws_trees.specs.Overlays.InOrder.{put_in}
use Rattle.vt_laws_kept.specs.Kept.{kept_in, objects_kept}
use Rattle.vt_laws_kept.proofs.overlaps.Kept.{is_locked_where_kept}
use Rattle.vt_location.proofs.AskedLemmas.{any_mapped}
use Rattle.vt_location.proofs.NumberLemmas.{counted_test}
use Rattle.vt_location.specs.Locations.{inode_of}
use Rattle.vt_location.specs.Numbers.{counted, exchanged}
use Rattle.vt_fs.specs.FilesystemsValue.{FilesystemEntry, Filesystems, files_at, filesystem_seen, filesystems_seen}
use Rattle.vt_overlay.specs.declared.merge.layers.LayerRef.{LayerRef}
use Rattle.vt_overlay.specs.MergedTree.{OverlayValue, layer_seen}
use Rattle.vt_layered.specs.LayeredTree.{layered_seen}
use Rattle.vt_layered.specs.LayeredValue.{Above, LayeredValue, held_layers, keeps_object}
use Rattle.vt_store.specs.Locks.{keeps_in, lies_in, lies_in_overlay}
use Rattle.vt_store.specs.OverlaysValue.{OverlayEntry}
use Rattle.vt_store.specs.StoreValue.{StoreValue, filesystem_in, filesystems_of, layered_in, layers_and_objects, overlay_filesystem, woven}
use Rattle.vt_store.proofs.Woven.{among-woven, files_plain, is_overlay_in}
use Rattle.vt_overlaps.specs.Laws.{LocksAreThoseOfTheWorld, PlainFilesystemsAreLockedAlike, ReadOnlyOverlaysKeepNothing}

-- Tests of lists

pub any_alike : {A : Type 0} (one other : A → Bool) (list : List A) → ((a : A) → Among a list → one a ≡ other a)
    → list_any one list ≡ list_any other list
any_alike one other [] same = refl
any_alike one other (a ∷ rest) same = λ i. same a (inl refl) i || any_alike one other rest (λ b m. same b (inr m)) i

pub any_flat : {A B : Type 0} (test : B → Bool) (f : A → List B) (list : List A)
    → list_any test (flat_map f list) ≡ list_any (λ a. list_any test (f a)) list
any_flat test f [] = refl
any_flat test f (a ∷ rest) =
    list_any-append test (f a) (flat_map f rest) ∙ ap (λ b. list_any test (f a) || b) (any_flat test f rest)

not_not : (b : Bool) → not b ≡ false → b ≡ true
not_not true e = refl
not_not false e = absurd (true≢false e)

or_last : (a b : Bool) → (a || b) ≡ (b || (a || false))
or_last true true = refl
or_last true false = refl
or_last false true = refl
or_last false false = refl

-- Layers of an overlay, in whatever order

any_behind : (test : Layer ℕ → Bool) (work : LayerRef) (layers : List LayerRef)
    → list_any test (option_to_list (option_map layer_seen (slice_get layers 0))
    ++ option_to_list (Some (layer_seen work)) ++ map layer_seen (drop 1 layers))
    ≡ list_any (λ layer. test (layer_seen layer)) (layers ++ work ∷ [])
any_behind test work [] = refl
any_behind test work (top ∷ layers) = ap (λ b. test (layer_seen top) || b)
    (ap (λ b. test (layer_seen work) || b) (any_mapped test layer_seen layers)
    ∙ or_last (test (layer_seen work)) (list_any (λ layer. test (layer_seen layer)) layers)
    ∙ sym (list_any-append (λ layer. test (layer_seen layer)) layers (work ∷ [])))

any_layers : (test : Layer ℕ → Bool) (overlay : OverlayValue) (above : Option Above)
    → list_any test (layers_of (layered_seen overlay above))
    ≡ list_any (λ layer. test (layer_seen layer)) (held_layers overlay above)
any_layers test overlay None = any_mapped test layer_seen overlay.lowers
any_layers test overlay (Some above) = any_behind test above.work overlay.lowers

-- Filesystems of a store, of which plain ones fail a test

module _ (test : Filesystem ℕ → Bool) where
  any_put : (filesystem : Filesystem ℕ) (others : List (Filesystem ℕ))
      → list_any test (put_in filesystem others) ≡ (test filesystem || list_any test others)
  any_put filesystem [] = refl
  any_put filesystem (first ∷ rest) =
      grind (arith, common_steps, any_put filesystem rest, nat_lt first.number filesystem.number)

  plain_fail : ((entry : FilesystemEntry) → test (filesystem_seen entry) ≡ false) → (plain : Filesystems)
      → list_any test (filesystems_seen plain) ≡ false
  plain_fail fails [] = refl
  plain_fail fails (entry ∷ plain) = λ i. fails entry i || plain_fail fails plain i

  pub any_woven : ((entry : FilesystemEntry) → test (filesystem_seen entry) ≡ false) → (plain : Filesystems)
      (overlays : List OverlayEntry)
      → list_any test (woven plain overlays) ≡ list_any (λ entry. test (overlay_filesystem plain entry)) overlays
  any_woven fails plain [] = plain_fail fails plain
  any_woven fails plain (entry ∷ overlays) = any_put (overlay_filesystem plain entry) (woven plain overlays)
      ∙ ap (λ b. test (overlay_filesystem plain entry) || b) (any_woven fails plain overlays)

  pub any_filtered : ((one : Filesystem ℕ) → is_overlay one ≡ false → test one ≡ false) → (all : List (Filesystem ℕ))
      → list_any test (filter is_overlay all) ≡ list_any test all
  any_filtered fails [] = refl
  any_filtered fails (one ∷ all) = by (is_overlay one) refl (any_filtered fails all)
    where
      by : (b : Bool) → is_overlay one ≡ b → list_any test (filter is_overlay all) ≡ list_any test all
          → list_any test (cond b (one ∷ filter is_overlay all) (filter is_overlay all))
          ≡ (test one || list_any test all)
      by true e rest = ap (λ b. test one || b) rest
      by false e rest = rest ∙ sym (ap (λ b. b || list_any test all) (fails one e))

-- what is asked of the layers of an overlay fails for what is none
no_layers : (test : Layer ℕ → Bool) (one : Filesystem ℕ) → is_overlay one ≡ false
    → list_any test (of_overlay [] layers_of one) ≡ false
no_layers test one = by one.overlay
  where
    by : (o : Option (Overlay ℕ)) → is_some o ≡ false → list_any test (overlay_or [] layers_of o) ≡ false
    by None e = refl
    by (Some overlay) e = absurd (true≢false e)

module _ (store : StoreValue) (world : World ℕ) (same : world.filesystems ≡ filesystems_of store) where
  pub numbered_so : (count : ℕ) → filesystem_numbered nat_eq world (counted count) ≡ filesystem_in store count
  numbered_so count = ap (λ (all : List (Filesystem ℕ)). unwrap_or (find (λ (one : Filesystem ℕ).
      nat_eq (counted count) one.number) all) (no_filesystem (counted count))) same

  -- what is no overlay is a plain filesystem of the store
  pub no_overlay : (count : ℕ) (o : Option LayeredValue) → layered_in store count ≡ o
      → not (is_overlay (filesystem_in store count)) ≡ true → layered_in store count ≡ None
  no_overlay count None e plain = e
  no_overlay count (Some layered) e plain =
      absurd (true≢false (sym plain ∙ ap not (sym (is_overlay_in store count) ∙ ap is_some e)))

  pub files_so : (count : ℕ) → layered_in store count ≡ None
      → (filesystem_numbered nat_eq world (counted count)).files ≡ files_at store.plain count
  files_so count none = ap (λ (one : Filesystem ℕ). one.files) (numbered_so count) ∙ sym (files_plain store count none)

  -- what a world keeps, asked of each overlay
  kept_so : (filesystem number : ℕ) → is_among nat_eq number (kept_in world filesystem)
      ≡ list_any (λ entry. is_among nat_eq number (objects_kept filesystem (overlay_filesystem store.plain entry)))
      store.overlays
  kept_so filesystem number = any_flat (nat_eq number) (objects_kept filesystem) world.filesystems
      ∙ ap (list_any (λ one. is_among nat_eq number (objects_kept filesystem one))) same
      ∙ any_woven (λ one. is_among nat_eq number (objects_kept filesystem one)) (λ entry. refl) store.plain
      store.overlays

  module _ (conditions : IsWorld nat_eq world) where
    -- a layer lies in a plain filesystem, and what lies in it lies there in the store
    pub lies_so : (count number : ℕ) (layer : LayerRef)
        → not (is_overlay (filesystem_numbered nat_eq world (counted layer.directory.filesystem.count))) ≡ true
        → lies_in_layer nat_eq world (counted count) number (layer_seen layer) ≡ lies_in store.plain count number layer
    lies_so count number layer plain = by (nat_eq count own) refl
      where
        own : ℕ
        own = layer.directory.filesystem.count

        own_files : (filesystem_numbered nat_eq world (counted own)).files ≡ files_at store.plain own
        own_files = files_so own (no_overlay own (layered_in store own) refl
            (ap (λ (one : Filesystem ℕ). not (is_overlay one)) (sym (numbered_so own)) ∙ plain))

        by : (b : Bool) → nat_eq count own ≡ b
            → lies_in_layer nat_eq world (counted count) number (layer_seen layer)
            ≡ lies_in store.plain count number layer
        by false e = (λ i. (counted_test count own ∙ e) i
            && is_under nat_eq (filesystem_numbered nat_eq world (counted count)).files (inode_of layer.directory) number)
            ∙ sym (ap (λ b. b && is_under nat_eq (files_at store.plain count) (inode_of layer.directory) number) e)
        by true e =
            let files = subst (λ k. (filesystem_numbered nat_eq world (counted k)).files ≡ files_at store.plain k)
            (sym (eqb-true count own e)) own_files in
            λ i. counted_test count own i && is_under nat_eq (files i) (inode_of layer.directory) number

    module _ (entry : OverlayEntry) (m : Among entry store.overlays) where
      among : Among (overlay_filesystem store.plain entry) world.filesystems
      among = subst (Among (overlay_filesystem store.plain entry)) (sym same)
          (among-woven store.plain entry store.overlays m)

      all_plain : list_all (is_plain_layer nat_eq world) (layers_of (layered_seen entry.overlay entry.above)) ≡ true
      all_plain = among_from_list_all
          (of_overlay true (λ one. list_all (is_plain_layer nat_eq world) (layers_of one))) world.filesystems
          conditions.overlays.plain_layers (overlay_filesystem store.plain entry) among

      pub each_plain : (layer : LayerRef) → Among layer (held_layers entry.overlay entry.above)
          → is_plain_layer nat_eq world (layer_seen layer) ≡ true
      each_plain layer n = not_not (is_plain_layer nat_eq world (layer_seen layer))
          (none_among (λ one. not (is_plain_layer nat_eq world (layer_seen one)))
          (held_layers entry.overlay entry.above)
          (sym (any_layers (λ one. not (is_plain_layer nat_eq world one)) entry.overlay entry.above)
          ∙ none_from_among (λ one. not (is_plain_layer nat_eq world one))
          (layers_of (layered_seen entry.overlay entry.above)) (λ one k. ap not (among_from_list_all
          (is_plain_layer nat_eq world) (layers_of (layered_seen entry.overlay entry.above)) all_plain one k)))
          layer n)

      lies_held : (count number : ℕ)
          → list_any (lies_in_layer nat_eq world (counted count) number)
          (layers_of (layered_seen entry.overlay entry.above)) ≡ lies_in_overlay store.plain count number entry
      lies_held count number =
          any_layers (lies_in_layer nat_eq world (counted count) number) entry.overlay entry.above
          ∙ any_alike (λ layer. lies_in_layer nat_eq world (counted count) number (layer_seen layer))
          (lies_in store.plain count number) (held_layers entry.overlay entry.above)
          (λ layer n. lies_so count number layer (and_true_left _ _ (each_plain layer n)))

    -- so all layers of live overlays are those of the store
    live_lies : (count number : ℕ)
        → list_any (lies_in_layer nat_eq world (counted count) number) (live_layers world)
        ≡ list_any (lies_in_overlay store.plain count number) store.overlays
    live_lies count number =
        let test = lies_in_layer nat_eq world (counted count) number in
        let within : Filesystem ℕ → Bool = λ one. list_any test (of_overlay [] layers_of one) in
        any_flat test (of_overlay [] layers_of) (filter is_overlay world.filesystems)
        ∙ any_filtered within (no_layers test) world.filesystems
        ∙ ap (list_any within) same
        ∙ any_woven within (λ entry. refl) store.plain store.overlays
        ∙ any_alike (λ entry. within (overlay_filesystem store.plain entry))
        (lies_in_overlay store.plain count number) store.overlays (λ entry m. lies_held entry m count number)

pub locks_are_those_of_the_world : LocksAreThoseOfTheWorld
locks_are_those_of_the_world store world count number conditions of_store =
    (λ i. sym (live_lies store world of_store.filesystems conditions count number) i || of_store.kept count number i)
    ∙ sym (is_locked_where_kept world (counted count) number conditions)

pub plain_filesystems_are_locked_alike : PlainFilesystemsAreLockedAlike
plain_filesystems_are_locked_alike store world count conditions of_store none = record {
  files = files_so store world of_store.filesystems count none;
  locked = λ number. locks_are_those_of_the_world store world count number conditions of_store;
}

-- a read-only overlay keeps nothing, in the store and in the world
pub keeps_nothing : (count number : ℕ) (entry : OverlayEntry) → entry.above ≡ None → keeps_in count number entry ≡ false
keeps_nothing count number entry none = ap (λ above. keeps_object entry.overlay above
    (record { filesystem = record { count = count }; slot = exchanged count number })) none

pub nothing_kept : (plain : Filesystems) (count number : ℕ) (entry : OverlayEntry) → entry.above ≡ None
    → is_among nat_eq number (objects_kept (counted count) (overlay_filesystem plain entry)) ≡ false
nothing_kept plain count number entry none = ap (λ above. is_among nat_eq number (objects_kept (counted count)
    (record (overlay_filesystem plain entry) {
      overlay = Some (record (layered_seen entry.overlay above) { real = (layers_and_objects plain entry).real });
    }))) none

pub read_only_overlays_keep_nothing : ReadOnlyOverlaysKeepNothing
read_only_overlays_keep_nothing store world same lower = record {
  filesystems = same;
  kept = λ count number.
      none_from_among (keeps_in count number) store.overlays (λ entry m.
      keeps_nothing count number entry (none_above entry m))
      ∙ sym (kept_so store world same (counted count) number
      ∙ none_from_among (λ entry. is_among nat_eq number (objects_kept (counted count) (overlay_filesystem store.plain
      entry))) store.overlays (λ entry m. nothing_kept store.plain count number entry (none_above entry m)));
}
  where
    none_above : (entry : OverlayEntry) → Among entry store.overlays → entry.above ≡ None
    none_above entry m = among_from_all (λ (one : OverlayEntry). one.above ≡ None) store.overlays lower entry m
