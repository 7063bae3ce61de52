-- What lies or counts under directories of a store is what does in a world with its filesystems.
use Rattle.std.proofs.Common.{◌≡◌, ◌∙◌, ◌&&◌, ◌||◌, ◌++◌, ◌∷◌, [], ap, Bool, false, filter, inl, inr, is_some, List, map, nat_eq, None, not, Option, option_map, option_to_list, refl, slice_get, Some, sym, true, true≢false, ℕ}
use Rattle.vt_spec.proofs.Common.{Among, FileTree, Filesystem, IsWorld, Layer, Overlay, World, all_from_among, among-append_left, among-append_right, among_from_all, among_from_list_all, and_true_left, filesystem_numbered, holds_of, is_among, is_overlay, is_plain_layer, lies_in_layer, lies_or_counts_under, list_any, live_upper_and_work, of_overlay, overlaps_one_of, overlay_or, overlays, upper_and_work}
use Rattle.vt_laws_kept.specs.Kept.{objects_kept}
use Rattle.vt_laws_kept.specs.Overlaps.{keeps_in_layer}
use Rattle.vt_laws_kept.proofs.overlaps.Kept.{counts_under_where_kept}
use Rattle.vt_laws_trees.proofs.trees.Lists.{nth_among}
use Rattle.vt_location.proofs.AskedLemmas.{any_mapped}
use Rattle.vt_location.specs.declared.locations.InodeRef.{InodeRef}
use Rattle.vt_location.specs.Locations.{inode_of}
use Rattle.vt_location.specs.Numbers.{counted}
use Rattle.vt_fs.specs.FilesystemsValue.{files_at}
use Rattle.vt_overlay.specs.declared.merge.layers.LayerRef.{LayerRef}
use Rattle.vt_overlay.specs.MergedTree.{layer_seen}
use Rattle.vt_layered.specs.LayeredTree.{layered_seen}
use Rattle.vt_layered.specs.LayeredValue.{Above, held_layers}
use Rattle.vt_store.specs.Locks.{keeps_in}
use Rattle.vt_store.specs.OverlaysValue.{OverlayEntry}
use Rattle.vt_store.specs.StoreValue.{StoreValue, filesystem_in, layered_in, overlay_filesystem}
use Rattle.vt_overlaps.specs.Laws.{DirectoriesOverlapAlike, KeepsAsStored, ReadOnlyOverlaysKeepAsStored, WrittenOverlapAlike, is_plain}
use Rattle.vt_overlaps.specs.Overlaps as found
use Rattle.vt_overlaps.specs.Overlaps.{all_written, counts_under, has_upper_under, keeps_under, layer_of, lies_under, written_by}
use Rattle.vt_overlaps.proofs.Locked.{any_alike, any_filtered, any_flat, any_woven, each_plain, files_so, keeps_nothing, lies_so, no_overlay, nothing_kept, numbered_so}

-- what is asked of an overlay alone fails for what is none
none_asked : (asked : Overlay ℕ → Bool) (kept : Bool) (one : Filesystem ℕ) → is_overlay one ≡ false
    → (of_overlay false asked one && kept) ≡ false
none_asked asked kept one = by one.overlay
  where
    by : (o : Option (Overlay ℕ)) → is_some o ≡ false → (overlay_or false asked o && kept) ≡ false
    by None e = refl
    by (Some overlay) e = absurd (true≢false e)

no_written : (test : Layer ℕ → Bool) (one : Filesystem ℕ) → is_overlay one ≡ false
    → list_any test (of_overlay [] upper_and_work one) ≡ false
no_written test one = by one.overlay
  where
    by : (o : Option (Overlay ℕ)) → is_some o ≡ false → list_any test (overlay_or [] upper_and_work o) ≡ false
    by None e = refl
    by (Some overlay) e = absurd (true≢false e)

module _ (store : StoreValue) (world : World ℕ) (conditions : IsWorld nat_eq world) (stored : KeepsAsStored store world)
  where
    -- What lies or counts under a directory of a plain filesystem

    module _ (top : InodeRef) (plain : is_plain world top ≡ true) where
      lies_there : (count number : ℕ) → lies_in_layer nat_eq world (counted count) number (layer_of top)
          ≡ lies_under store.plain count number top
      lies_there count number = lies_so store world stored.filesystems conditions count number (record { directory = top }) plain

      -- an upper directory lies there
      upper_so : (entry : OverlayEntry)
          → holds_of (λ upper. lies_in_layer nat_eq world upper.filesystem upper.directory (layer_of top))
          (layered_seen entry.overlay entry.above).upper ≡ has_upper_under store.plain top entry.overlay entry.above
      upper_so entry = by entry.above
        where
          first : (o : Option LayerRef)
              → holds_of (λ upper. lies_in_layer nat_eq world upper.filesystem upper.directory (layer_of top))
              (option_map layer_seen o) ≡ holds_of (λ (upper : LayerRef).
              lies_under store.plain upper.directory.filesystem.count (inode_of upper.directory) top) o
          first None = refl
          first (Some upper) = lies_there upper.directory.filesystem.count (inode_of upper.directory)

          by : (above : Option Above)
              → holds_of (λ upper. lies_in_layer nat_eq world upper.filesystem upper.directory (layer_of top))
              (layered_seen entry.overlay above).upper ≡ has_upper_under store.plain top entry.overlay above
          by None = refl
          by (Some above) = first (slice_get entry.overlay.lowers 0)

      kept_there : (count number : ℕ)
          → list_any (keeps_in_layer world (counted count) number (layer_of top)) (overlays world)
          ≡ list_any (keeps_under store.plain count number top) store.overlays
      kept_there count number =
          let keeps = keeps_in_layer world (counted count) number (layer_of top) in
          any_filtered keeps (λ one e. none_asked _ (is_among nat_eq number (objects_kept (counted count) one)) one e)
          world.filesystems
          ∙ ap (list_any keeps) stored.filesystems
          ∙ any_woven keeps (λ entry. refl) store.plain store.overlays
          ∙ any_alike (λ entry. keeps (overlay_filesystem store.plain entry)) (keeps_under store.plain count number top)
          store.overlays (λ entry m. λ i. upper_so entry i
          && sym (among_from_all (λ (one : OverlayEntry). (count number : ℕ) → keeps_in count number one
          ≡ is_among nat_eq number (objects_kept (counted count) (overlay_filesystem store.plain one))) store.overlays
          stored.kept entry m count number) i)

      counts_so : (count number : ℕ) → lies_or_counts_under nat_eq world (counted count) number (layer_of top)
          ≡ counts_under store count number top
      counts_so count number = counts_under_where_kept world (counted count) number (layer_of top) conditions
          ∙ (λ i. lies_there count number i || kept_there count number i)

    -- so under some of these
    some_so : (count number : ℕ) (others : List InodeRef)
        → ((other : InodeRef) → Among other others → is_plain world other ≡ true)
        → list_any (lies_or_counts_under nat_eq world (counted count) number) (map layer_of others)
        ≡ list_any (counts_under store count number) others
    some_so count number others plain =
        any_mapped (lies_or_counts_under nat_eq world (counted count) number) layer_of others
        ∙ any_alike (λ other. lies_or_counts_under nat_eq world (counted count) number (layer_of other))
        (counts_under store count number) others (λ other m. counts_so other (plain other m) count number)

    -- or under a directory to which a live overlay writes
    module _ (count number : ℕ) (entry : OverlayEntry) (m : Among entry store.overlays) where
      abbrev test : Layer ℕ → Bool
      test = lies_or_counts_under nat_eq world (counted count) number

      one_so : (layer : LayerRef) → is_plain_layer nat_eq world (layer_seen layer) ≡ true
          → test (layer_seen layer) ≡ counts_under store count number layer.directory
      one_so layer plain = counts_so layer.directory (and_true_left _ _ plain) count number

      entry_so : list_any (lies_or_counts_under nat_eq world (counted count) number)
          (upper_and_work (layered_seen entry.overlay entry.above))
          ≡ list_any (counts_under store count number) (written_by entry.overlay entry.above)
      entry_so = by entry.above (each_plain store world stored.filesystems conditions entry m)
        where
          by : (above : Option Above) → ((layer : LayerRef) → Among layer (held_layers entry.overlay above)
              → is_plain_layer nat_eq world (layer_seen layer) ≡ true)
              → list_any test (upper_and_work (layered_seen entry.overlay above))
              ≡ list_any (counts_under store count number) (written_by entry.overlay above)
          by None plain = refl
          by (Some above) plain = first (slice_get entry.overlay.lowers 0) (λ upper e. one_so upper (plain upper
              (among-append_left entry.overlay.lowers (above.work ∷ []) upper
              (nth_among entry.overlay.lowers 0 upper e))))
            where
              work : test (layer_seen above.work) ≡ counts_under store count number above.work.directory
              work = one_so above.work (plain above.work
                  (among-append_right entry.overlay.lowers (above.work ∷ []) above.work (inl refl)))

              first : (o : Option LayerRef) → ((upper : LayerRef) → o ≡ Some upper
                  → test (layer_seen upper) ≡ counts_under store count number upper.directory)
                  → list_any test (option_to_list (option_map layer_seen o) ++ (layer_seen above.work ∷ []))
                  ≡ list_any (counts_under store count number)
                  (map (λ (layer : LayerRef). layer.directory) (option_to_list o ++ (above.work ∷ [])))
              first None same = λ i. work i || false
              first (Some upper) same = λ i. same upper refl i || (work i || false)

    written_so : (count number : ℕ)
        → list_any (lies_or_counts_under nat_eq world (counted count) number) (live_upper_and_work world)
        ≡ list_any (counts_under store count number) (all_written store.overlays)
    written_so count number =
        let test = lies_or_counts_under nat_eq world (counted count) number in
        let within : Filesystem ℕ → Bool = λ one. list_any test (of_overlay [] upper_and_work one) in
        any_flat test (of_overlay [] upper_and_work) (filter is_overlay world.filesystems)
        ∙ any_filtered within (no_written test) world.filesystems
        ∙ ap (list_any within) stored.filesystems
        ∙ any_woven within (λ entry. refl) store.plain store.overlays
        ∙ any_alike (λ entry. within (overlay_filesystem store.plain entry))
        (λ entry. list_any (counts_under store count number) (written_by entry.overlay entry.above)) store.overlays
        (entry_so count number)
        ∙ sym (any_flat (counts_under store count number) (λ entry. written_by entry.overlay entry.above) store.overlays)

    -- Overlaps

    module _ (top : InodeRef) (plain : is_plain world top ≡ true) where
      abbrev count : ℕ
      count = top.filesystem.count

      here : (filesystem_numbered nat_eq world (counted top.filesystem.count)).files
          ≡ files_at store.plain top.filesystem.count
      here = files_so store world stored.filesystems count (no_overlay store world stored.filesystems count
          (layered_in store count) refl
          (ap (λ (one : Filesystem ℕ). not (is_overlay one)) (sym (numbered count)) ∙ plain))
        where
          numbered : (count : ℕ) → filesystem_numbered nat_eq world (counted count) ≡ filesystem_in store count
          numbered = numbered_so store world stored.filesystems

      -- where others are so, too
      alike : (others : List InodeRef) (layers : List (Layer ℕ))
          → ((number : ℕ) → list_any (lies_or_counts_under nat_eq world (counted top.filesystem.count) number) layers
          ≡ list_any (counts_under store top.filesystem.count number) others)
          → found.overlaps_one_of store others top ≡ overlaps_one_of nat_eq world layers (layer_of top)
      alike others layers same = sym (ap (λ (files : FileTree ℕ). list_any (λ object.
          lies_or_counts_under nat_eq world (counted count) object (layer_of top)
          && list_any (lies_or_counts_under nat_eq world (counted count) object) layers) files.numbers) here
          ∙ ap (λ test. list_any test (files_at store.plain count).numbers)
          (λ i. λ number. counts_so top plain count number i && same number i))

pub directories_overlap_alike : DirectoriesOverlapAlike
directories_overlap_alike store world others top conditions stored plain =
    let each = λ (inode : InodeRef) (m : Among inode (top ∷ others)).
    among_from_list_all (is_plain world) (top ∷ others) plain inode m in
    alike store world conditions stored top (each top (inl refl)) others (map layer_of others)
    (λ number. some_so store world conditions stored top.filesystem.count number others (λ other m. each other (inr m)))

pub written_overlap_alike : WrittenOverlapAlike
written_overlap_alike store world top conditions stored plain =
    alike store world conditions stored top plain (all_written store.overlays) (live_upper_and_work world)
    (written_so store world conditions stored top.filesystem.count)

pub read_only_overlays_keep_as_stored : ReadOnlyOverlaysKeepAsStored
read_only_overlays_keep_as_stored store world same lower = record {
  filesystems = same;
  kept = all_from_among (λ (entry : OverlayEntry). (count number : ℕ) → keeps_in count number entry
      ≡ is_among nat_eq number (objects_kept (counted count) (overlay_filesystem store.plain entry))) store.overlays
      (λ entry m count number.
      let none = among_from_all (λ (one : OverlayEntry). one.above ≡ None) store.overlays lower entry m in
      keeps_nothing count number entry none ∙ sym (nothing_kept store.plain count number entry none));
}
