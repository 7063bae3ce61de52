-- The event that mounts an overlay, as code does it: what it attaches, and the world that it leaves.
use Rattle.std.proofs.Common.{◌≡◌, ◌<◌, ◌∙◌, refl, sym, ap, subst, ℕ, nat_eq, true, false, ◌+◌, ◌*◌, ◌%◌, ◌==◌, List, [], ◌∷◌, ◌++◌, length, map, None, Some, option_map, slice_get, arith}
use Rattle.vt_spec.proofs.Common.{Credentials, SameWorlds, Task, TaskName, ToMountOverlay as MeansToMerge, list_all, new_mount, parts_of, same_Some, common_steps}
use Rattle.vt_ns.proofs.Common.{Grouping, IsGrafted, IsHeld, MountEntry, StoreValue, WorldValue, are_ascending, counted, flags_of, inode_number, kept, layer_kept, layer_of, location_of, mount_of, mounts_in, overlay_of_store, supply_of, with_store, world_of}
use Rattle.vt_laws_worlds.specs.Given.LeftWorlds.{IsGivenToTask}
use Rattle.vt_location.specs.declared.locations.Location.{Location}
use Rattle.vt_location.specs.declared.mounts.Mount.{Mount}
use Rattle.vt_overlay.specs.declared.merge.layers.LayerRef.{LayerRef}
use Rattle.vt_permits.specs.GrantValue.{overlay_of, overlay_permit}
use Rattle.vt_permits.specs.declared.grant.ToMountOverlay.{ToMountOverlay}
use Rattle.vt_propagate.specs.declared.copying.Counts.{Counts}
use Rattle.vt_propagate.specs.declared.copying.Graft.{Graft}
use Rattle.vt_store.specs.LayersHeld.{new_overlay}
use Rattle.vt_store.specs.OverlaysValue.{OverlayEntry}
use Rattle.vt_mounting.specs.Detach.Events.{left_by}
use Rattle.vt_mounting.specs.Detach.Stored.{OverlaysStay}
use Rattle.vt_mounting.specs.Attach.Grafted.{MayGraft}
use Rattle.vt_mounting.specs.Attach.Overlaid.{IsWithOverlay}
use Rattle.vt_mounting.proofs.attach.NewOverlayDone.{may_graft}
use Rattle.vt_mounting.proofs.attach.OverlayMounted.{overlay_is_mounted}
use Rattle.vt_ns.specs.OverlayMounts.{MountsOverlay}
use Rattle.vt_ns.proofs.world.OverlayEvents.{PermitsOverlay, kept_is_overlay, layers_are_kept, root_is_top}
use Rattle.vt_spec.specs.Machine.Mounts as meant

-- the overlay that is kept, and a graft of the one mount of it
pub record MountsIt (base : WorldValue) (store : StoreValue) (name : TaskName) (new : ToMountOverlay) : Type 0 where
  pub whole : IsHeld (with_store store base)
  pub permits : PermitsOverlay (with_store store base) name new
  pub no_upper : new.upper ≡ None
  pub no_work : new.work ≡ None
  pub lowers : List LayerRef
  pub lowers_are : lowers ≡ map (λ lower. layer_kept (layer_of lower)) new.lowers.items
  pub mounter : Credentials
  pub mounter_is : mounter ≡ permits.task.credentials
  pub top : LayerRef
  pub top_is : slice_get lowers 0 ≡ Some top
  pub small : top.directory.slot < 18446744073709551616
  pub mount : Mount
  pub mount_is : mount_of mount
      ≡ new_mount (counted base.next) (inode_number base.next top.directory.slot) (flags_of new.flags)
  pub graft : Graft
  pub tree_is : graft.tree.now ≡ mount ∷ []
  pub place_is : graft.place ≡ new.destination
  pub binds : graft.moves ≡ false
  pub parts_are : map mount_of graft.parts.now
      ≡ parts_of nat_eq (world_of (with_store store base)) (location_of graft.place)
  pub counts : Counts
  pub first : counts.first ≡ base.next + 1
  pub step : counts.step ≡ 2
  pub ascending : are_ascending (mounts_in base.mounts) ≡ true
  pub odd : list_all (λ mount. mount.number % 4 == 1) (mounts_in base.mounts) ≡ true

module _ (base : WorldValue) (store : StoreValue) (name : TaskName) (new : ToMountOverlay)
    (it : MountsIt base store name new) where
  open it use {
    whole,
    permits,
    no_upper,
    no_work,
    lowers,
    lowers_are,
    mounter,
    mounter_is,
    top,
    top_is,
    small,
    mount_is,
    graft,
    tree_is,
    place_is,
    binds,
    parts_are,
    counts,
    first,
    step,
    ascending,
    odd,
  }

  abbrev value : WorldValue
  value = with_store store base

  -- it has neither an upper layer nor a work directory
  no_layer : (overlay_of permits.task new).upper ≡ None
  no_layer = ap (option_map layer_of) no_upper

  no_directory : (overlay_of permits.task new).work ≡ None
  no_directory = ap (option_map layer_of) no_work

  abbrev pub entry : OverlayEntry
  entry = new_overlay (record { count = base.next }) lowers mounter

  given_there : IsGivenToTask (supply_of value (MeansToMerge (location_of graft.place) (overlay_of permits.task new)
      (flags_of new.flags))) (world_of value) permits.task
      (MeansToMerge (location_of graft.place) (overlay_of permits.task new) (flags_of new.flags))
  given_there = grind (arith, common_steps)

  tree_seen : map mount_of graft.tree.now
      ≡ new_mount (counted base.next) (overlay_of_store store.plain entry).root (flags_of new.flags) ∷ []
  tree_seen = ap (map mount_of) tree_is ∙ ap (λ (one : meant.Mount ℕ). one ∷ [])
      (mount_is ∙ ap (λ root. new_mount (counted base.next) root (flags_of new.flags))
      (root_is_top value whole name new permits no_upper lowers lowers_are mounter mounter_is top top_is small))

  pub may_mount_overlay : MayGraft base.mounts base.groups graft counts
  may_mount_overlay =
      may_graft value whole permits.task graft counts (overlay_of permits.task new) (flags_of new.flags) given_there no_layer
      no_directory refl entry
      (kept_is_overlay value whole name new permits no_upper lowers lowers_are mounter mounter_is) refl refl refl binds tree_seen
      parts_are first step ascending odd

  -- what is attached and held leaves the world that the permit leaves
  pub overlay_mounted : base.next < 18446744073709551616
      → (held later : StoreValue) → IsWithOverlay (new_overlay (record { count = base.next }) lowers mounter) store held
      → OverlaysStay (store.overlays ++ new_overlay (record { count = base.next }) lowers mounter ∷ []) later.overlays
      → (mounts : List MountEntry) (groups : Grouping) (next : ℕ)
      → IsGrafted graft counts (kept base.mounts held) base.groups (kept mounts later) groups
      → next ≡ base.next + 2 * (length graft.parts.now * 2)
      → IsHeld (with_store later (record base { mounts = mounts; groups = groups; next = next }))
      × MountsOverlay (with_store store base) name new
      (with_store later (record base { mounts = mounts; groups = groups; next = next }))
  overlay_mounted small_next held later with_overlay stay mounts groups next is grows =
      let done = overlay_is_mounted base store held later whole permits.task graft counts
      (overlay_of permits.task new) (flags_of new.flags) given_there no_layer no_directory refl entry
      (kept_is_overlay value whole name new permits no_upper lowers lowers_are mounter mounter_is) refl refl refl
      (layers_are_kept value whole name new permits no_upper lowers lowers_are mounter mounter_is) small_next binds tree_seen
      parts_are first step ascending odd with_overlay stay mounts groups next is grows in
      let then = with_store later (record base { mounts = mounts; groups = groups; next = next }) in
      let same : SameWorlds (left_by value permits.task (overlay_permit permits.task new)) (world_of then) =
      subst (λ (place : Location). SameWorlds (left_by value permits.task (MeansToMerge (location_of place)
      (overlay_of permits.task new) (flags_of new.flags))) (world_of then)) place_is done.1 in (
        done.0,
        λ other found. subst (λ (one : Task ℕ). SameWorlds (left_by value one (overlay_permit one new)) (world_of then))
            (same_Some permits.task other (sym permits.called ∙ found)) same,
      )
