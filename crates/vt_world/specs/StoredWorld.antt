-- The overlays of a store, as a value of the world has them.
use Rattle.std.specs.Prelude.{List, map}
use Rattle.vt_fs.specs.FilesystemsValue.{Filesystems}
use Rattle.vt_location.specs.Numbers.{counted}
use Rattle.vt_layered.specs.LayeredTree.{layered_files, layered_seen}
use Rattle.vt_store.specs.OverlaysValue as stored
use Rattle.vt_store.specs.StoreValue.{StoreValue}
use Rattle.vt_world.specs.OverlaysKept.Layered.{inodes_layered}
use Rattle.vt_world.specs.WorldValue.{OverlayEntry, WorldValue}

-- an overlay of a store, with the inodes that its layers show, and those that it keeps without a name
abbrev pub overlay_of_store : Filesystems → stored.OverlayEntry → OverlayEntry
overlay_of_store plain entry = record {
  number = counted entry.count;
  root = (layered_files plain entry.overlay entry.above).tree.root;
  inodes = inodes_layered plain entry.overlay entry.above;
  upper = (layered_seen entry.overlay entry.above).upper;
  work = (layered_seen entry.overlay entry.above).work;
  lowers = (layered_seen entry.overlay entry.above).lowers;
  mounter = entry.overlay.mounter;
  mounts = entry.mounts;
}

abbrev pub overlays_of_store : StoreValue → List OverlayEntry
overlays_of_store store = map (overlay_of_store store.plain) store.overlays

-- a world with the filesystems of a store
abbrev pub with_store : StoreValue → WorldValue → WorldValue
with_store store value = record value { filesystems = store.plain; overlays = overlays_of_store store }
