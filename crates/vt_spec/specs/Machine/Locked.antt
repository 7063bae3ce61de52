-- The layers of live overlays: what lies in one is locked against changes from outside, and which directories may not
-- be layers of two overlays (profile; the kernel's overlayfs document, "changes to underlying filesystems").
use Rattle.std.specs.Prelude.{Bool, List, None, Option, Some, [], false, filter, flat_map, option_to_list, ◌&&◌, ◌++◌, ◌||◌}
use Rattle.std.specs.List.{list_any}
use Rattle.vt_spec.specs.FileTree.{is_under}
use Rattle.vt_spec.specs.Lists.{holds_of}
use Rattle.vt_spec.specs.Machine.Mounts.{Location}
use Rattle.vt_spec.specs.Machine.World.{Filesystem, Layer, Overlay, World, filesystem_numbered, is_overlay, layers_of, mount_at, upper_object}

module _ {N : Type 0} where
  -- the live overlays: each exists as long as it is mounted or in use
  abbrev pub overlays : World N → List (Filesystem N)
  overlays world = filter is_overlay world.filesystems

  -- a value by an overlay, or a given one for a plain tree
  abbrev pub overlay_or : {A : Type 0} → A → (Overlay N → A) → Option (Overlay N) → A
  overlay_or plain said None = plain
  overlay_or plain said (Some overlay) = said overlay

  -- that, of a filesystem
  abbrev pub of_overlay : {A : Type 0} → A → (Overlay N → A) → Filesystem N → A
  of_overlay plain said filesystem = overlay_or plain said filesystem.overlay

  -- the layers of an overlay that its changes write to
  abbrev pub upper_and_work : Overlay N → List (Layer N)
  upper_and_work overlay = option_to_list overlay.upper ++ option_to_list overlay.work

  -- the layers of live overlays
  abbrev pub live_layers : World N → List (Layer N)
  live_layers world = flat_map (of_overlay [] layers_of) (overlays world)

  -- the layers of live overlays that changes write to
  abbrev pub live_upper_and_work : World N → List (Layer N)
  live_upper_and_work world = flat_map (of_overlay [] upper_and_work) (overlays world)

module _ {N : Type 0} (eq : N → N → Bool) where
  -- an inode is, or lies under, a layer's directory
  abbrev pub lies_in_layer : World N → N → N → Layer N → Bool
  lies_in_layer world filesystem object layer =
      eq filesystem layer.filesystem
      && is_under eq (filesystem_numbered eq world filesystem).files layer.directory object

  -- the inode of the upper layer is the real object of this one
  abbrev pub is_real_upper : Overlay N → N → N → Bool
  is_real_upper overlay object number = holds_of (eq object) (upper_object (overlay.real number))

  -- an upper inode is the real object of an inode of the overlay, with or without a name
  abbrev pub is_object_of : N → N → Filesystem N → Overlay N → Bool
  is_object_of filesystem object merged overlay =
      holds_of (λ layer. eq filesystem layer.filesystem) overlay.upper
      && list_any (is_real_upper overlay object) merged.files.numbers

  -- Such an upper inode of a live overlay counts as under its upper directory, even without a name, and so as under
  -- each layer in which that directory lies.
  abbrev pub counts_as_in_layer : World N → N → N → Layer N → Filesystem N → Bool
  counts_as_in_layer world filesystem object layer merged =
      of_overlay false (λ overlay.
      holds_of (λ upper. lies_in_layer world upper.filesystem upper.directory layer) overlay.upper
      && is_object_of filesystem object merged overlay) merged

  -- the inode lies in the layer, or counts as lying in it
  abbrev pub lies_or_counts_under : World N → N → N → Layer N → Bool
  lies_or_counts_under world filesystem object layer =
      lies_in_layer world filesystem object layer
      || list_any (counts_as_in_layer world filesystem object layer) (overlays world)

  -- L1: the inode lies or counts under a layer of a live overlay
  abbrev pub is_locked : World N → N → N → Bool
  is_locked world filesystem object = list_any (lies_or_counts_under world filesystem object) (live_layers world)

  -- L1 at a location
  abbrev pub is_locked_at : World N → Location N → Bool
  is_locked_at world location = is_locked world (mount_at eq world location).filesystem location.node

  -- a layer overlaps one of others: some inode lies or counts under both
  abbrev pub overlaps_one_of : World N → List (Layer N) → Layer N → Bool
  overlaps_one_of world others layer =
      list_any (λ object. lies_or_counts_under world layer.filesystem object layer
      && list_any (lies_or_counts_under world layer.filesystem object) others)
      (filesystem_numbered eq world layer.filesystem).files.numbers

  -- O3: the upper or work directory overlaps a layer of a live overlay, or a lower one the upper or work directory of
  -- one
  abbrev pub in_use : World N → Overlay N → Bool
  in_use world wanted =
      list_any (overlaps_one_of world (live_layers world)) (upper_and_work wanted)
      || list_any (overlaps_one_of world (live_upper_and_work world)) wanted.lowers
