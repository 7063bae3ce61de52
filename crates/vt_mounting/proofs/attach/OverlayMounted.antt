-- The event that mounts an overlay, as a store is left by it: mount(2), and the kernel's overlayfs document.
use Rattle.std.proofs.Common.{◌≡◌, ◌<◌, ◌*◌, ◌+◌, ◌∙◌, sym, ap, subst, ⊎_elim, ℕ, nat_eq, true, List, [], ◌∷◌, ◌++◌, ◌%◌, ◌==◌, map, length, None, false}
use Rattle.vt_spec.proofs.Common.{Layer, MountFlags, Overlay, SameWorlds, Task, ToMountOverlay, list_all, map-append, map_alike, map_twice, new_mount, parts_of}
use Rattle.vt_mounting.proofs.Common.{Among, AreLayers, Filesystems, Grouping, IsGivenToTask, IsHeld, MountEntry, Overlays, StoreValue, WorldValue, are_ascending, counted, layer_seen, location_of, mount_of, mounts_in, overlay_of_store, overlays_of_store, shown, with_store, world_of}
use Rattle.vt_propagate.specs.declared.copying.Counts.{Counts}
use Rattle.vt_propagate.specs.declared.copying.Graft.{Graft}
use Rattle.vt_store.specs.OverlaysValue as stored
use Rattle.vt_mounting.specs.Detach.Events.{left_by, overlay_kept, supply_of}
use Rattle.vt_mounting.specs.Detach.Stored.{OverlaysStay, kept, layer_of, merged_of}
use Rattle.vt_mounting.specs.Detach.Uses.{kept_with, merged_seen}
use Rattle.vt_mounting.specs.Attach.Grafted.{IsGrafted}
use Rattle.vt_mounting.specs.Attach.Overlaid.{IsWithOverlay}
use Rattle.vt_mounting.proofs.detach.LowerKept.{held_are, layers_are}
use Rattle.vt_mounting.proofs.detach.StoreShown.{kept_lower}
use Rattle.vt_mounting.proofs.attach.NewOverlayDone.{new_overlay_is_done}
use Rattle.vt_mounting.proofs.attach.NewOverlayUses.{held_by, held_each}
use Rattle.vt_mounting.proofs.attach.OverlayStored.{overlay_stored}
use Rattle.vt_mounting.proofs.attach.OverlaysNew.{layers_more}

-- the overlays of a store, as they are counted
pub merged_are : (plain : Filesystems) (overlays : Overlays)
    → ((entry : stored.OverlayEntry) → Among entry overlays → entry.above ≡ None)
    → map merged_of overlays ≡ map merged_seen (map (overlay_of_store plain) overlays)
merged_are plain overlays lower = map_alike merged_of (λ entry. merged_seen (overlay_of_store plain entry)) overlays
    (λ entry m. ap (λ layers. record (merged_of entry) { layers = layers })
    (ap (map layer_of) (held_are entry (lower entry m))
    ∙ sym (map_twice (λ (layer : Layer ℕ). (layer.filesystem, layer.directory)) layer_seen entry.overlay.lowers)
    ∙ ap (map (λ (layer : Layer ℕ). (layer.filesystem, layer.directory))) (sym (layers_are entry (lower entry m)))))
    ∙ sym (map_twice merged_seen (overlay_of_store plain) overlays)

module _ (base : WorldValue) (old held new : StoreValue) (whole : IsHeld (with_store old base)) (task : Task ℕ)
    (graft : Graft) (counts : Counts) (overlay : Overlay ℕ) (flags : MountFlags)
    (given : IsGivenToTask (supply_of (with_store old base) (ToMountOverlay (location_of graft.place) overlay flags))
    (world_of (with_store old base)) task (ToMountOverlay (location_of graft.place) overlay flags))
    (lower : overlay.upper ≡ None) (workless : overlay.work ≡ None) (unmade : overlay.real ≡ (λ number. None))
    (entry : stored.OverlayEntry) (overlay_is : entry.overlay ≡ overlay_kept base.next overlay)
    (no_upper : entry.above ≡ None) (count_is : entry.count ≡ base.next) (none : entry.mounts ≡ 0)
    (are : AreLayers old.plain entry.overlay.lowers)
    (small : base.next < 18446744073709551616) (binds : graft.moves ≡ false) (tree_is : map mount_of graft.tree.now
    ≡ new_mount (counted base.next) (overlay_of_store old.plain entry).root flags ∷ [])
    (parts_are : map mount_of graft.parts.now
    ≡ parts_of nat_eq (world_of (with_store old base)) (location_of graft.place))
    (first : counts.first ≡ base.next + 1) (step : counts.step ≡ 2)
    (ascending : are_ascending (mounts_in base.mounts) ≡ true)
    (odd : list_all (λ mount. mount.number % 4 == 1) (mounts_in base.mounts) ≡ true)
    (with_overlay : IsWithOverlay entry old held) (stay : OverlaysStay (old.overlays ++ entry ∷ []) new.overlays) where
  abbrev value : WorldValue
  value = with_store old base

  merged_held : map merged_of held.overlays
      ≡ map merged_seen (overlays_of_store old ++ overlay_of_store held.plain entry ∷ [])
  merged_held = ap (map merged_of) with_overlay.overlays ∙ map-append merged_of old.overlays (entry ∷ [])
      ∙ (λ i. merged_are old.plain old.overlays (kept_lower base old whole) i
      ++ merged_are held.plain (entry ∷ []) (λ one m. ⊎_elim (λ same. ap (λ (e : stored.OverlayEntry). e.above) same
      ∙ no_upper) (λ later. absurd later) m) i)
      ∙ sym (map-append merged_seen (overlays_of_store old) (overlay_of_store held.plain entry ∷ []))

  layers_held : shown held.plain ≡ map (held_by (map layer_of entry.overlay.lowers)) (shown old.plain)
  layers_held = with_overlay.layers ∙ layers_more entry.overlay.lowers (shown old.plain)
      ∙ held_each (map layer_of entry.overlay.lowers) (shown old.plain)

  -- the world then is the one that the permit leaves
  pub overlay_is_mounted : (mounts : List MountEntry) (groups : Grouping) (next : ℕ)
      → IsGrafted graft counts (kept base.mounts held) base.groups (kept mounts new) groups
      → next ≡ base.next + 2 * (length graft.parts.now * 2)
      → IsHeld (with_store new (record base { mounts = mounts; groups = groups; next = next }))
      × SameWorlds (left_by (with_store old base) task (ToMountOverlay (location_of graft.place) overlay flags))
      (world_of (with_store new (record base { mounts = mounts; groups = groups; next = next })))
  overlay_is_mounted mounts groups next is grows =
      let grafted = subst (λ overlays. IsGrafted graft counts (kept_with base.mounts held.plain overlays) base.groups
      (kept mounts new) groups) merged_held is in
      let done = new_overlay_is_done value whole task graft counts overlay flags given lower workless unmade entry overlay_is
      no_upper count_is none binds tree_is parts_are first step ascending odd held.plain with_overlay.layers small mounts
      new.plain (map merged_of new.overlays) grafted grows in
      let then = record base { mounts = mounts; groups = groups; next = next } in
      let stored_so = overlay_stored base then old new entry held.plain whole count_is layers_held stay done.0 done.2 in (
        subst IsHeld stored_so done.0,
        subst (λ (v : WorldValue). SameWorlds
            (left_by value task (ToMountOverlay (location_of graft.place) overlay flags)) (world_of v)) stored_so done.1,
      )
