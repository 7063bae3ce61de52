-- What the permit of a call that mounts an overlay names is there: mount(2), and the kernel's overlayfs document,
-- "multiple lower layers".
use Rattle.std.proofs.Common.{◌≡◌, ◌<◌, ◌≤◌, refl, sym, ap, subst, ◌∙◌, ℕ, ◌/◌, nat_eq, true, not, List, ◌++◌, map, length, Option, Some, None, Ok, arith, All, option_to_list, map-id}
use Rattle.vt_spec.proofs.Common.{Call, Fresh, Layer, Location, MountFlags, MountOverlay, Overlay, OverlayWords, Permit, Task, ToMountOverlay, World, and_parts, common_steps, filesystem_numbered, has_fit_layers, is_directory_node, is_overlay, is_plain_layer, judge_in, list_all, looks_of, map_alike, map_twice, not-true, overfills, overlay_at, task_called}
use Rattle.vt_spec.proofs.Tables.{destination_walk}
use Rattle.vt_laws_trees.specs.Layers.Layers.Mounted.{AreLayers}
use Rattle.vt_laws_trees.proofs.layers.mounting.Walked.{are_walked, fit_layers, has_layers, shown_plain}
use Rattle.vt_mounting.proofs.Common.{Among, IsHeld, ShowsLayer, WorldValue, among_from_list_all, counted, directory_is_there, inode_number, layer_seen, world_of}
use Rattle.vt_laws_rules.proofs.given.GivenPermits.{permits_are_for_their_calls}
use Rattle.vt_laws_rules.proofs.given.Ways.{calls_are_granted}
use Rattle.vt_laws_rules.proofs.given.Ways.{IsGranted}
use Rattle.vt_laws_rules.proofs.given.Ways.IsGranted.{mounts_overlayfs}
use Rattle.vt_laws_trees.proofs.trees.TreesWalked.{at_end}
use Rattle.vt_laws_worlds.proofs.worlds.FitPermits.{destination}
use Rattle.vt_laws_worlds.proofs.worlds.ReachedPlaces.{IsTopmost, destination_walk_end}
use Rattle.vt_laws_worlds.specs.Worlds.Permits.{IsDestination}
use Rattle.vt_location.specs.Numbers.{exchanged}
use Rattle.vt_location.proofs.NumberLemmas.{exchanged_back, exchanged_slot, own_inode, slot_of}
use Rattle.vt_overlay.specs.MergedTree as Kept
use Rattle.vt_mounting.specs.Detach.Events.{layer_kept}
use Rattle.vt_mounting.proofs.detach.FilesSeen.{IsSeenIn, seen_in, there_where_plain}
use Rattle.vt_mounting.proofs.detach.LayersShown.{plain_layers_shown}

-- what such a permit names
pub record NamesLayers (world : World ℕ) (task : Task ℕ) (place : Location ℕ) (overlay : Overlay ℕ) : Type 0 where
  pub to : IsDestination world task place
  pub layers : AreLayers world overlay
  pub fit : has_fit_layers overlay ≡ true

module _ (value : WorldValue) (held : IsHeld value) (fresh : Fresh ℕ) (task : Task ℕ)
    (called : task_called (world_of value) task.name ≡ Some task) where
  abbrev world : World ℕ
  world = world_of value

  granted_names : {path : List ℕ} {options : Option OverlayWords} {flags : MountFlags} {permit : Permit ℕ}
      → IsGranted nat_eq (looks_of nat_eq (world_of value)) (overfills nat_eq fresh (world_of value) task) task
      (MountOverlay path options flags) permit
      → {place : Location ℕ} {overlay : Overlay ℕ} {other : MountFlags} → permit ≡ ToMountOverlay place overlay other
      → NamesLayers (world_of value) task place overlay
  granted_names {path} (mounts_overlayfs _ words _ here places admin end walked passed free) {place}
      {overlay} e =
      let reached = are_walked world task words places walked in
      let same_place : here.location ≡ place = cc in
      let same_overlay : overlay_at (looks_of nat_eq (world_of value)) task places ≡ overlay = cc in
      let top = at_end (IsTopmost world held.in_world task called) (destination_walk nat_eq world task path) here
      (destination_walk_end world held.in_world task called path) end in
      subst (λ one. NamesLayers (world_of value) task one overlay) same_place
      (subst (NamesLayers (world_of value) task here.location) same_overlay (record {
        to = destination world held.in_world task called here top free.0;
        layers = (has_layers world task places reached passed, shown_plain world task places reached passed);
        fit = fit_layers world task places reached passed;
      }))

  -- the permit of a call names what is there
  pub overlay_names : (call : Call) (place : Location ℕ) (overlay : Overlay ℕ) (flags : MountFlags)
      → judge_in nat_eq fresh (world_of value) task call ≡ Ok (ToMountOverlay place overlay flags)
      → NamesLayers (world_of value) task place overlay
  overlay_names call place overlay flags judged =
      let for = permits_are_for_their_calls fresh (world_of value) task call (ToMountOverlay place overlay flags)
      judged in
      let grants = calls_are_granted nat_eq (looks_of nat_eq (world_of value)) (overfills nat_eq fresh (world_of value) task)
      task call (ToMountOverlay place overlay flags) judged in
      granted_names
      (subst (λ c. IsGranted nat_eq (looks_of nat_eq (world_of value)) (overfills nat_eq fresh (world_of value) task) task
      c (ToMountOverlay place overlay flags)) for.2 grants) {place = place} {overlay = overlay} {other = flags} refl

-- The layers of an overlay without an upper layer, as they are kept
module _ (value : WorldValue) (held : IsHeld value) (overlay : Overlay ℕ) (lower : overlay.upper ≡ None)
    (layers : AreLayers (world_of value) overlay) where
  lowers_plain : list_all (is_plain_layer nat_eq (world_of value)) overlay.lowers ≡ true
  lowers_plain =
      subst (λ o. list_all (is_plain_layer nat_eq (world_of value)) (option_to_list o ++ overlay.lowers) ≡ true) lower
      layers.1

  module _ (layer : Layer ℕ) (m : Among layer overlay.lowers) where
    parts : (not (is_overlay (filesystem_numbered nat_eq (world_of value) layer.filesystem)) ≡ true)
        × (is_directory_node ((filesystem_numbered nat_eq (world_of value) layer.filesystem).files.tree.node
        layer.directory) ≡ true)
    parts = and_parts (not (is_overlay (filesystem_numbered nat_eq (world_of value) layer.filesystem))) _
        (among_from_list_all (is_plain_layer nat_eq (world_of value)) overlay.lowers lowers_plain layer m)

    -- it is an inode of a plain filesystem
    pub layer_in : IsSeenIn value.filesystems layer.filesystem layer.directory
    layer_in = seen_in value.filesystems held.own_inodes layer.filesystem layer.directory
        (there_where_plain held layer.filesystem layer.directory
        (not-true (is_overlay (filesystem_numbered nat_eq (world_of value) layer.filesystem)) parts.0)
        (directory_is_there ((filesystem_numbered nat_eq (world_of value) layer.filesystem).files.tree.node
        layer.directory) parts.1))

    -- so it is seen as it was, once it is kept
    pub kept_again : layer_seen (layer_kept layer) ≡ layer
    kept_again = λ i. record { filesystem = filesystem_is i; directory = directory_is i }
      where
        count : ℕ
        count = layer_in.entry.count

        quarter : layer.filesystem / 4 ≡ layer_in.entry.count
        quarter = let number = layer_in.number_is in omega (arith, number)

        filesystem_is : counted (layer.filesystem / 4) ≡ layer.filesystem
        filesystem_is = ap counted quarter ∙ sym layer_in.number_is

        slot : (s : ℕ) × (s < 18446744073709551616) × (layer.directory ≡ inode_number layer_in.entry.count s)
        slot = slot_of layer_in.entry.count layer.directory (own_inode layer_in.entry.count layer.directory layer_in.own)

        directory_is : inode_number (layer.filesystem / 4) (exchanged (layer.filesystem / 4) layer.directory)
            ≡ layer.directory
        directory_is = (λ i. inode_number (quarter i) (exchanged (quarter i) layer.directory))
            ∙ ap (λ n. inode_number layer_in.entry.count (exchanged layer_in.entry.count n)) slot.2
            ∙ ap (λ n. inode_number layer_in.entry.count (exchanged layer_in.entry.count n))
            (sym (exchanged_slot layer_in.entry.count slot.0 slot.1))
            ∙ ap (inode_number layer_in.entry.count) (exchanged_back layer_in.entry.count slot.0) ∙ sym slot.2

  pub lowers_seen : map layer_seen (map layer_kept overlay.lowers) ≡ overlay.lowers
  lowers_seen = map_twice layer_seen layer_kept overlay.lowers
      ∙ map_alike (λ layer. layer_seen (layer_kept layer)) (λ layer. layer) overlay.lowers kept_again
      ∙ map-id overlay.lowers

  -- they are layers of what is kept, which the world shows
  pub kept_layers : Kept.AreLayers value.filesystems (map layer_kept overlay.lowers)
      × All (ShowsLayer (world_of value) value.filesystems) (map layer_kept overlay.lowers)
  kept_layers = plain_layers_shown held (map layer_kept overlay.lowers)
      (ap (list_all (is_plain_layer nat_eq (world_of value))) lowers_seen ∙ lowers_plain)

  -- and not too many
  pub kept_few : has_fit_layers overlay ≡ true → length (map layer_kept overlay.lowers) ≤ 128
  kept_few fit = grind (arith, common_steps, and_parts)
