-- What an overlay keeps without a name, asked of an inode by its slot and by its number.
use Rattle.std.proofs.Common.{◌≡◌, ◌∙◌, ◌<◌, ◌&&◌, ◌++◌, ◌∷◌, [], ap, Bool, false, List, nat_eq, None, option_map, Option, refl, slice_get, Some, subst, sym, ℕ}
use Rattle.vt_spec.proofs.Common.{among_from_all, found_among, holds_of, list_any, none_is_some, or_false_left, same_Some}
use Rattle.vt_births.specs.KeptObjects.{has_kept_object}
use Rattle.vt_location.specs.declared.locations.InodeRef.{InodeRef}
use Rattle.vt_location.specs.Locations.{inode_of}
use Rattle.vt_location.proofs.NumberLemmas.{exchanged_number}
use Rattle.vt_layered.specs.LayeredValue.{Above, KeepsItsOwn, LayeredValue, held_layers, keeps_object}
use Rattle.vt_overlay.specs.declared.merge.layers.LayerRef.{LayerRef}
use Rattle.vt_overlay.specs.MergedTree.{OverlayValue}
use Rattle.vt_store.specs.LayerTests.{stands_in}
use Rattle.vt_store.specs.Locks.{keeps_in, overlay_stands_in}
use Rattle.vt_store.proofs.AnyNamed.{any-fewer}
use Rattle.vt_store.specs.OverlaysValue.{KeepTheirOwn, OverlayEntry, Overlays, entry_kept, layered_of}

-- an entry with what it keeps beside its layers
abbrev pub layered_entry : OverlayEntry → LayeredValue
layered_entry entry = record { overlay = entry.overlay; above = entry.above }

-- each keeps what is its own
pub own_of : (overlays : Overlays) (count : ℕ) → KeepTheirOwn overlays → (layered : LayeredValue)
    → layered_of overlays count ≡ Some layered → KeepsItsOwn layered.overlay layered.above
own_of overlays count own layered some = by (entry_kept overlays count) refl some
  where
    by : (o : Option OverlayEntry) → entry_kept overlays count ≡ o → option_map layered_entry o ≡ Some layered
        → KeepsItsOwn layered.overlay layered.above
    by None f e = none_is_some layered e
    by (Some entry) f e = subst (λ (one : LayeredValue). KeepsItsOwn one.overlay one.above)
        (same_Some (layered_entry entry) layered e)
        (among_from_all (λ (one : OverlayEntry). KeepsItsOwn one.overlay one.above) overlays own entry
        (found_among (λ (one : OverlayEntry). nat_eq count one.count) overlays entry f))

module _ (overlays : Overlays) (count : ℕ) (inode : InodeRef) where
  abbrev keeps : OverlayEntry → Bool
  keeps = keeps_in inode.filesystem.count (inode_of inode)

  -- the overlay of a count keeps it,
  pub kept_by : inode.slot < 18446744073709551616 → (layered : LayeredValue)
      → layered_of overlays count ≡ Some layered
      → keeps_object layered.overlay layered.above inode ≡ holds_of keeps (entry_kept overlays count)
  kept_by small layered some = by (entry_kept overlays count) some
    where
      by : (o : Option OverlayEntry) → option_map layered_entry o ≡ Some layered
          → keeps_object layered.overlay layered.above inode ≡ holds_of keeps o
      by None e = none_is_some layered e
      by (Some entry) e = ap (λ (one : LayeredValue). keeps_object one.overlay one.above inode)
          (sym (same_Some (layered_entry entry) layered e))
          ∙ ap (λ slot. keeps_object entry.overlay entry.above
          (record { filesystem = inode.filesystem; slot = slot }))
          (sym (exchanged_number inode.filesystem.count inode.slot small))

  -- and what is none keeps nothing
  pub kept_by_none : layered_of overlays count ≡ None → false ≡ holds_of keeps (entry_kept overlays count)
  kept_by_none none = by (entry_kept overlays count) none
    where
      by : (o : Option OverlayEntry) → option_map layered_entry o ≡ None → false ≡ holds_of keeps o
      by None e = refl
      by (Some entry) e = none_is_some (layered_entry entry) (sym e)

-- An overlay keeps nothing in a filesystem that none of its layers is in,
kept_stands : (inode : InodeRef) (overlay : OverlayValue) (above : Option Above)
    → list_any (stands_in inode.filesystem.count) (held_layers overlay above) ≡ false
    → keeps_object overlay above inode ≡ false
kept_stands inode overlay None none = refl
kept_stands inode overlay (Some above) none = by overlay.lowers none
  where
    by : (lowers : List LayerRef)
        → list_any (stands_in inode.filesystem.count) (lowers ++ above.work ∷ []) ≡ false
        → (holds_of (λ (top : LayerRef). nat_eq inode.filesystem.count top.directory.filesystem.count)
        (slice_get lowers 0) && has_kept_object above.nodes inode.slot) ≡ false
    by [] none = refl
    by (top ∷ rest) none = ap (λ b. b && has_kept_object above.nodes inode.slot)
        (or_false_left (stands_in inode.filesystem.count top)
        (list_any (stands_in inode.filesystem.count) (rest ++ above.work ∷ [])) none)

-- and so do all overlays
pub none_kept : (count number : ℕ) (overlays : Overlays)
    → list_any (overlay_stands_in count) overlays ≡ false → list_any (keeps_in count number) overlays ≡ false
none_kept count number overlays =
    any-fewer (overlay_stands_in count) (keeps_in count number)
    (λ entry none. kept_stands _ entry.overlay entry.above none) overlays
