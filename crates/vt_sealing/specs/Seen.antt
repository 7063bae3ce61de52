-- The world that is looked at to tell whether tasks are sealed off, and all worlds that are the same to that.
use Rattle.std.specs.Prelude.{Bool, List, None, Option, Some, [], drop, false, find, flat_map, is_some, map, nat_eq, not, option_map, option_to_list, slice_get, true, unwrap_or, ℕ, ◌&&◌, ◌++◌, ◌||◌, ◌≡◌}
use Rattle.std.specs.List.{list_any}
use Rattle.vt_spec.specs.Language.Calls.{TaskName}
use Rattle.vt_spec.specs.Lists.{any_pair, holds_of}
use Rattle.vt_spec.specs.Machine.Locked.{overlays}
use Rattle.vt_spec.specs.Machine.Mounts.{Mount}
use Rattle.vt_spec.specs.Machine.Sealed.{change_layers, is_own_namespace, used_alone, used_directly, wholly_locked}
use Rattle.vt_spec.specs.Machine.World.{Filesystem, Overlay, World, filesystem_numbered, no_filesystem, no_tree}
use Rattle.vt_fs.specs.FilesystemsValue.{entry_of, files_at, filesystems_seen}
use Rattle.vt_group.specs.Grouping.{master_in}
use Rattle.vt_location.specs.Locations.{inode_of}
use Rattle.vt_location.specs.Numbers.{counted}
use Rattle.vt_mount.specs.MountsValue.{mounts_in}
use Rattle.vt_layered.specs.LayeredTree.{layered_seen}
use Rattle.vt_layered.specs.LayeredValue.{Above, held_layers}
use Rattle.vt_overlay.specs.MergedTree.{OverlayValue}
use Rattle.vt_overlay.specs.declared.merge.layers.LayerRef.{LayerRef}
use Rattle.vt_store.specs.OverlaysValue.{OverlayEntry, Overlays}
use Rattle.vt_store.specs.StoreValue.{StoreValue}
use Rattle.vt_sealing.specs.declared.sealing.Sealing.{Sealing}

-- an overlay by its number, its layers and who mounted it, without its tree and its real objects
abbrev pub layers_seen : OverlayEntry → Filesystem ℕ
layers_seen entry = record {
  number = counted entry.count;
  files = no_tree (counted entry.count);
  overlay = Some (layered_seen entry.overlay entry.above);
  change = 0;
}

-- so much of an overlay in a world
abbrev pub without_objects : Overlay ℕ → Overlay ℕ
without_objects overlay = record overlay { real = λ number. None }

abbrev pub without_tree : Filesystem ℕ → Filesystem ℕ
without_tree filesystem = record {
  number = filesystem.number;
  files = no_tree filesystem.number;
  overlay = option_map without_objects filesystem.overlay;
  change = 0;
}

abbrev pub overlays_without_trees : World ℕ → List (Filesystem ℕ)
overlays_without_trees world = map without_tree (overlays world)

-- plain filesystems and overlays
abbrev pub filesystems_looked : StoreValue → List (Filesystem ℕ)
filesystems_looked store = filesystems_seen store.plain ++ map layers_seen store.overlays

-- all that is looked at
abbrev pub world_seen : Sealing → World ℕ
world_seen sealing = record {
  mounts = mounts_in sealing.mounts.now;
  master = master_in sealing.groups.now;
  filesystems = filesystems_looked sealing.store.now;
  namespaces = [];
  tasks = sealing.tasks.now.tasks;
  change = 0;
}

-- A world has these tasks, mounts and masters of groups, and these overlays in their order. Its plain filesystems have
-- these trees, and no two filesystems have one number. Whether tasks are sealed off asks nothing else of it.
pub record IsShown (world : World ℕ) (sealing : Sealing) : Type 0 where
  pub tasks : sealing.tasks.now.tasks ≡ world.tasks
  pub mounts : mounts_in sealing.mounts.now ≡ world.mounts
  pub masters : (group : ℕ) → master_in sealing.groups.now group ≡ world.master group
  pub overlays : map layers_seen sealing.store.now.overlays ≡ overlays_without_trees world
  pub apart : any_pair (λ a b. nat_eq a.number b.number) world.filesystems ≡ false
  pub trees : (count : ℕ) → is_some (entry_of sealing.store.now.plain count) ≡ true
      → files_at sealing.store.now.plain count ≡ (filesystem_numbered nat_eq world (counted count)).files

-- a mount of another namespace than those of members; one that is in none is nobody's
abbrev pub is_other_mount : World ℕ → List TaskName → Mount ℕ → Bool
is_other_mount world names mount =
    holds_of (λ namespace. not (is_own_namespace nat_eq world names namespace)) mount.namespace

-- outsiders can change a filesystem
abbrev pub is_open : World ℕ → List TaskName → ℕ → Bool
is_open world names filesystem =
    not (used_alone nat_eq world names filesystem) && not (wholly_locked nat_eq world names filesystem)

-- a layer is in a filesystem
abbrev pub stands_in : ℕ → LayerRef → Bool
stands_in filesystem layer = nat_eq filesystem (counted layer.directory.filesystem.count)

-- an overlay has a layer in a filesystem, or its work directory
abbrev pub has_layer_in : ℕ → OverlayValue → Option Above → Bool
has_layer_in filesystem overlay above = list_any (stands_in filesystem) (held_layers overlay above)

abbrev pub has_work_in : ℕ → Option Above → Bool
has_work_in filesystem above = holds_of (λ (one : Above). stands_in filesystem one.work) above

-- the upper layer of an overlay, and its lower ones
abbrev pub upper_layer : OverlayValue → Option Above → Option LayerRef
upper_layer overlay None = None
upper_layer overlay (Some above) = slice_get overlay.lowers 0

abbrev pub lower_layers : OverlayValue → Option Above → List LayerRef
lower_layers overlay None = overlay.lowers
lower_layers overlay (Some above) = drop 1 overlay.lowers

-- this root directory of a filesystem is a lower layer of it
abbrev pub has_root_layer : ℕ → ℕ → OverlayValue → Option Above → Bool
has_root_layer filesystem root overlay above =
    list_any (λ (layer : LayerRef). stands_in filesystem layer && nat_eq root (inode_of layer.directory))
    (lower_layers overlay above)

-- the filesystem of its upper directory, and that of its work directory
abbrev pub filesystem_of : LayerRef → ℕ
filesystem_of layer = counted layer.directory.filesystem.count

abbrev pub upper_filesystem : OverlayValue → Option Above → List ℕ
upper_filesystem overlay above = map filesystem_of (option_to_list (upper_layer overlay above))

abbrev pub work_filesystem : Option Above → List ℕ
work_filesystem above = map filesystem_of (option_to_list (option_map (λ (one : Above). one.work) above))

-- the filesystems to which the changes of one are written, if it is an overlay
abbrev pub written_under : Overlays → ℕ → List ℕ
written_under overlays number =
    change_layers (unwrap_or (find (λ one. nat_eq number one.number) (map layers_seen overlays)) (no_filesystem number))

-- outsiders can change a filesystem, or one to which its changes are written
abbrev pub is_open_through : Sealing → ℕ → Bool
is_open_through sealing filesystem =
    is_open (world_seen sealing) sealing.names.now filesystem
    || list_any (is_open (world_seen sealing) sealing.names.now) (written_under sealing.store.now.overlays filesystem)

-- the filesystems that members use: by a mount, by a location, or as what an overlay in use writes to
abbrev pub filesystems_in_use : Sealing → List ℕ
filesystems_in_use sealing =
    used_directly nat_eq (world_seen sealing) sealing.names.now
    ++ flat_map (written_under sealing.store.now.overlays) (used_directly nat_eq (world_seen sealing) sealing.names.now)
