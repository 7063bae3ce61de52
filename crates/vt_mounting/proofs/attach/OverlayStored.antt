-- After the mount of an overlay a store shows its overlays as they were, and the new one as its layers showed it before.
use Rattle.std.proofs.Common.{◌≡◌, refl, sym, ap, subst, ◌∙◌, ℕ, nat_eq, nat_lt, ltb-true, lt-ltb, true, false, ◌||◌, List, [], ◌∷◌, ◌++◌, filter, length, map, arith, All, ne_eqb}
use Rattle.vt_spec.proofs.Common.{Filesystem, SameFilesystems, and_parts, any_pair, common_steps, is_overlay, length_permutation, list_all, list_any, map-append, map_alike}
use Rattle.vt_mounting.proofs.Common.{Filesystems, IsHeld, OverlayEntry, StoreValue, WorldValue, all_from_among, are_rising, counted, filesystems_seen, found_by_number, found_same, list_all_from_among, overlay_of_store, overlay_seen, overlays_of_store, overlays_seen, shown, with_store, world_of, woven, woven_lists_are_failing}
use Rattle.vt_overlay.specs.declared.merge.layers.LayerRef.{LayerRef}
use Rattle.vt_store.specs.Laws.{IsSameLayer}
use Rattle.vt_layered.proofs.StayingKinds.{layered_stay}
use Rattle.vt_layered.specs.Staying.{ShowsTheSame}
use Rattle.vt_world.proofs.overlays_kept.inodes.InodesAbove.{layered_inodes_stay}
use Rattle.vt_store.specs.OverlaysValue as stored
use Rattle.vt_mounting.specs.Detach.Stored.{OverlaysStay, layer_of, merged_of}
use Rattle.vt_mounting.specs.Detach.Uses.{overlays_kept}
use Rattle.vt_mounting.proofs.detach.Overlaid.{files_are_plain, is_plain_one}
use Rattle.vt_mounting.proofs.detach.OverlaysListed.{AreApart, kept_by, left_still}
use Rattle.vt_mounting.proofs.detach.PlainFound.{overlay_among}
use Rattle.vt_mounting.proofs.attach.NewBase.{rising_last}
use Rattle.vt_mounting.proofs.attach.NewFilesystems.{number_below}
use Rattle.vt_mounting.proofs.attach.NewOverlay.{all_last}
use Rattle.vt_mounting.proofs.attach.NewOverlaySame.{all_same_when_held}
use Rattle.vt_mounting.proofs.attach.NewOverlayUses.{held_by}

-- Plain filesystems that are the same but for the order of the numbers beside trees show an overlay alike.

same_layer : (old new : Filesystems) → SameFilesystems (filesystems_seen old) (filesystems_seen new)
    → (layer : LayerRef) → IsSameLayer old new layer
same_layer old new same layer =
    let count = layer.directory.filesystem.count in
    let alike = found_same (counted count) (filesystems_seen old) (filesystems_seen new) same in
    record {
      tree = ap (λ (f : Filesystem ℕ). f.files.tree) (sym (found_by_number new count))
          ∙ sym alike.files.tree ∙ ap (λ (f : Filesystem ℕ). f.files.tree) (found_by_number old count);
      numbers = ap (λ (f : Filesystem ℕ). length f.files.numbers) (sym (found_by_number new count))
          ∙ length_permutation _ _ alike.files.numbers
          ∙ ap (λ (f : Filesystem ℕ). length f.files.numbers) (found_by_number old count);
    }

-- one after the other
same_layer_twice : {old middle new : Filesystems} {layer : LayerRef} → IsSameLayer old middle layer
    → IsSameLayer middle new layer → IsSameLayer old new layer
same_layer_twice first second =
    record { tree = second.tree ∙ first.tree; numbers = second.numbers ∙ first.numbers }

shown_still : (old new : Filesystems) (entry : stored.OverlayEntry)
    → ((layer : LayerRef) → IsSameLayer old new layer) → overlay_of_store old entry ≡ overlay_of_store new entry
shown_still old new entry same = λ i. record (overlay_of_store old entry) {
  root = (sym alike.files i).tree.root;
  inodes = sym (layered_inodes_stay old new entry.overlay entry.above alike) i;
}
  where
    alike : ShowsTheSame old new entry.overlay entry.above
    alike = layered_stay old new entry.overlay entry.above
        (all_from_among (IsSameLayer old new) entry.overlay.lowers (λ layer m. same layer))

-- of worlds that are the same but for these, plain filesystems are
plain_same : (ones others : List (Filesystem ℕ)) → SameFilesystems ones others
    → SameFilesystems (filter is_plain_one ones) (filter is_plain_one others)
plain_same [] [] same = tt
plain_same [] (other ∷ others) same = absurd same
plain_same (one ∷ ones) [] same = absurd same
plain_same (one ∷ ones) (other ∷ others) same = grind (arith, common_steps, plain_same ones others same.1, is_plain_one)

-- Filesystems in the order of their numbers have numbers of their own.

none_equal : (number : ℕ) (list : List (Filesystem ℕ)) → list_all (λ f. nat_lt number f.number) list ≡ true
    → list_any (λ f. nat_eq number f.number) list ≡ false
none_equal number [] e = refl
none_equal number (f ∷ rest) e = grind (arith, common_steps, none_equal number rest, and_parts, ne_eqb, ltb-true)

rising_apart : (list : List (Filesystem ℕ)) → are_rising list ≡ true
    → any_pair (λ (a b : Filesystem ℕ). nat_eq a.number b.number) list ≡ false
rising_apart [] e = refl
rising_apart (f ∷ rest) e =
    let parts = and_parts (list_all (λ other. nat_lt f.number other.number) rest) _ e in
    (λ i. none_equal f.number rest parts.0 i || rising_apart rest parts.1 i)

-- A store to whose overlays one came, whose layers are held in these plain filesystems, before mounts of it were attached
module _ (base new_base : WorldValue) (old new : StoreValue) (entry : stored.OverlayEntry) (plain : Filesystems)
    (held : IsHeld (with_store old base))
    (count_is : entry.count ≡ base.next)
    (layers : shown plain ≡ map (held_by (map layer_of entry.overlay.lowers)) (shown old.plain))
    (stay : OverlaysStay (old.overlays ++ entry ∷ []) new.overlays) where
  abbrev value : WorldValue
  value = with_store old base

  -- the overlays, and the new one, as they are mounted then
  abbrev pub overlays_mounted : List OverlayEntry
  overlays_mounted =
      overlays_kept (map merged_of new.overlays) (overlays_of_store old ++ overlay_of_store plain entry ∷ [])

  abbrev pub value_mounted : WorldValue
  value_mounted = record new_base { filesystems = new.plain; overlays = overlays_mounted }

  over : stored.OverlayEntry → OverlayEntry
  over = overlay_of_store old.plain

  held_same : SameFilesystems (filesystems_seen old.plain) (filesystems_seen plain)
  held_same = all_same_when_held (map layer_of entry.overlay.lowers) old.plain plain layers

  new_is_shown : overlay_of_store old.plain entry ≡ overlay_of_store plain entry
  new_is_shown = shown_still old.plain plain entry (same_layer old.plain plain held_same)

  all_over : map (overlay_of_store old.plain) (old.overlays ++ entry ∷ [])
      ≡ overlays_of_store old ++ overlay_of_store old.plain entry ∷ []
  all_over = map-append (overlay_of_store old.plain) old.overlays (entry ∷ [])

  apart : AreApart old.plain (old.overlays ++ entry ∷ [])
  apart = rising_apart (overlays_seen (map (overlay_of_store old.plain) (old.overlays ++ entry ∷ [])))
      (ap are_rising (ap overlays_seen all_over
      ∙ map-append overlay_seen (overlays_of_store old) (overlay_of_store old.plain entry ∷ []))
      ∙ rising_last (overlays_seen (overlays_of_store old)) (overlay_seen (overlay_of_store old.plain entry))
      held.overlays.overlays_rise
      (list_all_from_among (λ (f : Filesystem ℕ). nat_lt f.number (counted entry.count))
      (overlays_seen (overlays_of_store old))
      (λ f m.
      let low = number_below (with_store old base) held f (overlay_among (with_store old base) held.overlays f m).0 in
      lt-ltb f.number (counted entry.count) (omega (arith, low, count_is)))))

  listed : overlays_mounted ≡ map (overlay_of_store old.plain) new.overlays
  listed =
      let left = left_still (old.overlays ++ entry ∷ []) new.overlays stay in
      ap (overlays_kept (map merged_of new.overlays))
      ((λ i. overlays_of_store old ++ sym new_is_shown i ∷ []) ∙ sym all_over)
      ∙ kept_by old.plain left.0 (old.overlays ++ entry ∷ []) new.overlays left.1 apart

  -- then the world is the one that holds the store
  pub overlay_stored : IsHeld value_mounted → SameFilesystems (woven (filesystems_seen plain)
      (overlays_seen (overlays_of_store old ++ overlay_of_store plain entry ∷ []))) (world_of value_mounted).filesystems
      → value_mounted ≡ with_store new new_base
  overlay_stored there same = ap (λ overlays. record new_base { filesystems = new.plain; overlays = overlays })
      (listed ∙ map_alike (overlay_of_store old.plain) (overlay_of_store new.plain) new.overlays (λ one m.
      shown_still old.plain new.plain one (λ layer.
      same_layer_twice (same_layer old.plain plain held_same layer) (same_layer plain new.plain plain_then layer))))
    where
      merged_before : All (λ filesystem. is_overlay filesystem ≡ true)
          (overlays_seen (overlays_of_store old ++ overlay_of_store plain entry ∷ []))
      merged_before = subst (All (λ filesystem. is_overlay filesystem ≡ true))
          (sym (map-append overlay_seen (overlays_of_store old) (overlay_of_store plain entry ∷ [])))
          (all_last (λ filesystem. is_overlay filesystem ≡ true) (overlays_seen (overlays_of_store old))
          (overlay_seen (overlay_of_store plain entry)) held.overlays.merged refl)

      plain_then : SameFilesystems (filesystems_seen plain) (filesystems_seen new.plain)
      plain_then = subst (SameFilesystems (filesystems_seen plain))
          (woven_lists_are_failing is_overlay (filesystems_seen new.plain) (overlays_seen overlays_mounted)
          (record { fail = files_are_plain new.plain; pass = there.overlays.merged }))
          (subst (λ list. SameFilesystems list (filter is_plain_one (world_of value_mounted).filesystems))
          (woven_lists_are_failing is_overlay (filesystems_seen plain)
          (overlays_seen (overlays_of_store old ++ overlay_of_store plain entry ∷ []))
          (record { fail = files_are_plain plain; pass = merged_before })) (plain_same
          (woven (filesystems_seen plain) (overlays_seen (overlays_of_store old ++ overlay_of_store plain entry ∷ [])))
          (world_of value_mounted).filesystems same))
