-- The event that mounts an overlay: what its permit names, and what is kept of it.
use Rattle.std.proofs.Common.{◌≡◌, ◌<◌, ◌∙◌, refl, sym, ap, subst, ℕ, true, true≢false, not, nat_lt, lt-ltb, ◌&&◌, ◌||◌, ◌/◌, false, is_some, Option, List, [], ◌∷◌, length, map, None, Some, option_map, arith, All, nat_le, slice_get}
use Rattle.vt_spec.proofs.Common.{Credentials, Task, TaskName, and_parts, is_empty_list, length-map, list_all, map_twice, most_lowers, task_called}
use Rattle.vt_ns.proofs.Common.{Among, IsHeld, OverlayValue, StoreValue, WorldValue, all_from_among, among-map, counted, flags_of, here_number, inode_number, is_own_number, layer_kept, layer_of, location_of, number_of, overlay_of_store, overlay_seen, overlays_of_store, supply_of, with_store, world_of}
use Rattle.vt_laws_mounts.proofs.letting_go.Lists.{list_all_from_among}
use Rattle.vt_laws_worlds.specs.Given.LeftWorlds.{IsGivenToTask}
use Rattle.vt_laws_worlds.specs.OverlaysGranted.Granted.{MayBeMounted}
use Rattle.vt_laws_worlds.proofs.overlays_granted.Mounts.{given_overlays_may_be_mounted}
use Rattle.vt_location.specs.Numbers.{exchanged}
use Rattle.vt_location.proofs.NodeLemmas.{own_birth, own_count}
use Rattle.vt_location.proofs.NumberLemmas.{counted_same, exchanged_number}
use Rattle.vt_overlay.specs.declared.merge.layers.LayerRef.{LayerRef}
use Rattle.vt_overlay.specs.MergedTree.{AreLayers, merged_tree}
use Rattle.vt_overlay.proofs.RootFound.{root_number_is}
use Rattle.vt_permits.specs.GrantValue.{overlay_of, overlay_permit}
use Rattle.vt_permits.specs.declared.grant.NewLayer.{NewLayer}
use Rattle.vt_permits.specs.declared.grant.ToMountOverlay.{ToMountOverlay}
use Rattle.vt_propagate.specs.Seen.{is_mounted}
use Rattle.vt_store.specs.OverlaysValue as stored
use Rattle.vt_mounting.specs.Detach.Events.{overlay_kept}
use Rattle.vt_mounting.proofs.detach.FilesSeen.{IsSeenIn}
use Rattle.vt_mounting.proofs.detach.OverlayGranted.{kept_layers, layer_in}
use Rattle.vt_mounting.proofs.detach.PlainFound.{overlay_among}
use Rattle.vt_mounting.proofs.attach.NewFilesystems.{number_below}
use Rattle.vt_ns.specs.OverlayMounts.{IsPlainLayer}
use Rattle.vt_ns.proofs.world.BoundEvents.{place_mounted}

-- an overlay that has neither an upper nor a work directory
pub neither_there : {A : Type 0} (upper work : Option A) → (is_some upper || is_some work) ≡ false
    → (upper ≡ None) × (work ≡ None)
neither_there None None none = (refl, refl)
neither_there None (Some work) none = absurd (true≢false none)
neither_there (Some upper) work none = absurd (true≢false none)

-- the task of this name is given the permit of a call that mounts this overlay
pub record PermitsOverlay (value : WorldValue) (name : TaskName) (new : ToMountOverlay) : Type 0 where
  pub task : Task ℕ
  pub called : task_called (world_of value) name ≡ Some task
  pub given : IsGivenToTask (supply_of value (overlay_permit task new)) (world_of value) task (overlay_permit task new)

-- a layer of a plain filesystem is kept by its slot
abbrev pub kept_by_slot : NewLayer → LayerRef
kept_by_slot lower = record { directory = record { filesystem = lower.filesystem; slot = lower.directory.slot } }

pub kept_as_it_is : (lower : NewLayer) → lower.directory.slot < 18446744073709551616 → IsPlainLayer lower
    → kept_by_slot lower ≡ layer_kept (layer_of lower)
kept_as_it_is lower small plain =
    λ i. record { directory = record { filesystem = record { count = sym count i }; slot = sym slot i } }
  where
    count : counted lower.filesystem.count / 4 ≡ lower.filesystem.count
    count = omega arith

    born : number_of lower.directory ≡ inode_number lower.filesystem.count lower.directory.slot
    born = here_number lower.directory (own_birth lower.filesystem.count lower.directory small plain)
        ∙ ap (λ n. inode_number n lower.directory.slot)
        (sym (own_count lower.filesystem.count lower.directory small plain))

    slot : exchanged (counted lower.filesystem.count / 4) (number_of lower.directory) ≡ lower.directory.slot
    slot = ap (λ n. exchanged n (number_of lower.directory)) count ∙ ap (exchanged lower.filesystem.count) born
        ∙ exchanged_number lower.filesystem.count lower.directory.slot small

-- all overlays have lower counts than the next one
pub overlays_below : (base : WorldValue) (store : StoreValue) → IsHeld (with_store store base)
    → list_all (λ (entry : stored.OverlayEntry). nat_lt entry.count base.next) store.overlays ≡ true
overlays_below base store whole =
    list_all_from_among (λ (entry : stored.OverlayEntry). nat_lt entry.count base.next) store.overlays (λ entry m.
    let seen = overlay_seen (overlay_of_store store.plain entry) in
    let low = number_below (with_store store base) whole seen (overlay_among (with_store store base) whole.overlays seen
    (among-map overlay_seen (overlays_of_store store) (overlay_of_store store.plain entry)
    (among-map (overlay_of_store store.plain) store.overlays entry m))).0 in
    lt-ltb entry.count base.next (omega (arith, low)))

module _ (value : WorldValue) (whole : IsHeld value) (name : TaskName) (new : ToMountOverlay)
    (permits : PermitsOverlay value name new) (no_upper : new.upper ≡ None) where
  no_layer : (overlay_of permits.task new).upper ≡ None
  no_layer = ap (option_map layer_of) no_upper

  may : MayBeMounted (world_of value) (supply_of value (overlay_permit permits.task new)) permits.task
      (location_of new.destination) (overlay_of permits.task new) (flags_of new.flags)
  may = given_overlays_may_be_mounted (world_of value) (supply_of value (overlay_permit permits.task new)) permits.task
      (location_of new.destination) (overlay_of permits.task new) (flags_of new.flags) whole.in_world permits.given

  -- the destination is on a mount that is there
  pub destination_mounted : is_mounted value.mounts (counted new.destination.mount.count) ≡ true
  destination_mounted = place_mounted value new.destination may.destination.directory.reached.there

  -- the layers are inodes of plain filesystems,
  pub layers_are_plain : All IsPlainLayer new.lowers.items
  layers_are_plain = all_from_among IsPlainLayer new.lowers.items plain
    where
      plain : (lower : NewLayer) → Among lower new.lowers.items → IsPlainLayer lower
      plain lower m =
          let is_in : IsSeenIn value.filesystems (counted lower.filesystem.count) (number_of lower.directory) =
          layer_in value whole (overlay_of permits.task new) no_layer may.layers (layer_of lower)
          (among-map layer_of new.lowers.items lower m) in
          subst (λ count. is_own_number count (number_of lower.directory) ≡ true)
          (sym (counted_same lower.filesystem.count is_in.entry.count is_in.number_is)) is_in.own

  -- one at least
  pub some_layer : 0 < length new.lowers.items
  some_layer = by new.lowers.items (and_parts (not (is_empty_list (overlay_of permits.task new).lowers))
      (nat_le (length (overlay_of permits.task new).lowers) most_lowers) (and_parts
      (not (is_empty_list (overlay_of permits.task new).lowers)
      && nat_le (length (overlay_of permits.task new).lowers) most_lowers) _ may.fit).0).0
    where
      by : (lowers : List NewLayer) → not (is_empty_list (map layer_of lowers)) ≡ true → 0 < length lowers
      by [] e = absurd (true≢false (sym e))
      by (lower ∷ lowers) e = omega arith

  -- What is kept of it
  module _ (lowers : List LayerRef) (lowers_are : lowers ≡ map (λ lower. layer_kept (layer_of lower)) new.lowers.items)
      (mounter : Credentials) (mounter_is : mounter ≡ permits.task.credentials) where
    abbrev pub kept_so : OverlayValue
    kept_so = record { number = record { count = value.next }; lowers = lowers; mounter = mounter }

    lowers_again : lowers ≡ map layer_kept (map layer_of new.lowers.items)
    lowers_again = lowers_are ∙ sym (map_twice layer_kept layer_of new.lowers.items)

    pub kept_is_overlay : kept_so ≡ overlay_kept value.next (overlay_of permits.task new)
    kept_is_overlay = λ i. record {
      number = record { count = value.next };
      lowers = lowers_again i;
      mounter = mounter_is i;
    }

    pub layers_are_kept : AreLayers value.filesystems lowers
    layers_are_kept = subst (AreLayers value.filesystems) (sym lowers_again)
        (kept_layers value whole (overlay_of permits.task new) no_layer may.layers).0

    pub some_kept : 0 < length lowers
    some_kept =
        let many = ap length lowers_are in
        let as_many = length-map new.lowers.items (λ lower. layer_kept (layer_of lower)) in
        let some = some_layer in omega (arith, many, as_many, some)

    -- its root is the directory of its highest layer
    pub root_is_top : (top : LayerRef) → slice_get lowers 0 ≡ Some top → top.directory.slot < 18446744073709551616
        → inode_number value.next top.directory.slot ≡ (merged_tree value.filesystems kept_so).root
    root_is_top top first small = root_number_is value.filesystems kept_so layers_are_kept top first
        (exchanged_number top.directory.filesystem.count top.directory.slot small)
