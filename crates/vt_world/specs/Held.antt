-- What holds of each world of the code: the invariants of a world, and that what is kept beside it, groups and counts,
-- is what the definitions say.
use Rattle.std.specs.Prelude.{All, Bool, List, None, [], false, is_some, nat_eq, true, ℕ, ◌&&◌, ◌+◌, ◌∷◌, ◌≡◌}
use Rattle.vt_spec.specs.Machine.World.{Descriptor, Filesystem, Task, World, is_overlay}
use Rattle.vt_spec.specs.Machine.Invariants.{IsWorld}
use Rattle.vt_laws_mounts.specs.Counts.BesideOverlays.{OverlaysHaveNoUpper}
use Rattle.vt_laws_mounts.specs.Counts.Counted.{IsCounted}
use Rattle.vt_laws_mounts.specs.Counts.OverlaysStay.{OverlaysAreNamed, layer_count}
use Rattle.vt_laws_worlds.specs.OverlaysRead.Writers.{WritersHaveLayers}
use Rattle.vt_laws_worlds.specs.OverlaysStay.Woven.{are_rising}
use Rattle.vt_laws_upper_layers.specs.Lowered.{lowered}
use Rattle.vt_laws_upper_layers.specs.UnnamedPins.{unnamed_pins}
use Rattle.vt_fs.specs.FilesystemsValue.{FilesystemEntry, filesystem_seen, inodes_seen}
use Rattle.vt_group.specs.Grouping.{Has}
use Rattle.vt_laws_rules.specs.Numbers.{KeepsTo}
use Rattle.vt_laws_mounts.specs.LettingGo.Counts.{mount_uses, mounts_showing, times}
use Rattle.vt_location.specs.declared.locations.NodeRef.{NodeRef}
use Rattle.vt_location.specs.Locations.{is_small_node, number_of}
use Rattle.vt_location.specs.Numbers.{counted, is_own_number}
use Rattle.vt_mount.specs.MountsValue.{MountEntry}
use Rattle.vt_laws_trees.specs.Runs.Handed.{is_counted_before}
use Rattle.vt_world.specs.WorldValue.{NamespaceEntry, OverlayEntry, WorldValue, overlays_seen, world_of}

-- the descriptors of a task that are open for writing on a mount
abbrev pub writes_on : ℕ → Descriptor ℕ → Bool
writes_on mount descriptor = descriptor.writes && nat_eq mount descriptor.location.mount

abbrev pub writes_of_task : ℕ → Task ℕ → ℕ
writes_of_task mount task = times (writes_on mount) task.descriptors

abbrev pub writes_of : ℕ → List (Task ℕ) → ℕ
writes_of mount [] = 0
writes_of mount (task ∷ rest) = writes_of_task mount task + writes_of mount rest

-- a mount counts the roots, working directories and descriptors on it
pub record CountsItsUses (world : World ℕ) (entry : MountEntry) : Type 0 where
  pub uses : entry.uses ≡ mount_uses world entry.mount.number
  pub writers : entry.writers ≡ writes_of entry.mount.number world.tasks

-- A filesystem counts the mounts that show it and the layers that overlays have in it, and its inodes their uses. Those
-- are uses in the lowered world, in which layers, and upper objects of inodes without a name, are used by overlays.
pub record CountsItsMounts (world : World ℕ) (entry : FilesystemEntry) : Type 0 where
  pub mounts : entry.mounts
      ≡ mounts_showing world (counted entry.count) + layer_count world (counted entry.count)
  pub inodes : IsCounted (lowered (unnamed_pins world) world) (filesystem_seen entry) (inodes_seen entry)

-- an overlay counts the mounts that show it
abbrev pub IsMountedSoOften : World ℕ → OverlayEntry → Type 0
IsMountedSoOften world entry = entry.mounts ≡ mounts_showing world entry.number

-- each inode of an overlay has the number of a node in it, by where that was born
abbrev pub HasOwnNodes : Filesystem ℕ → Type 0
HasOwnNodes filesystem =
    (number : ℕ) → is_some (filesystem.files.tree.node number) ≡ true
    → (node : NodeRef) × (is_small_node node ≡ true) × (filesystem.number ≡ counted node.filesystem.count)
    × (number ≡ number_of node)

-- The overlays of a world are read-only, so no descriptor is open for writing in one, and each of their inodes is the
-- root or has a name. They are kept in the order of their numbers, as all filesystems are.
pub record HoldsOverlays (value : WorldValue) : Type 0 where
  pub merged : All (λ filesystem. is_overlay filesystem ≡ true) (overlays_seen value.overlays)
  pub read_only : OverlaysHaveNoUpper (world_of value)
  pub writers : WritersHaveLayers (world_of value)
  pub named : OverlaysAreNamed (world_of value)
  pub overlays_rise : are_rising (overlays_seen value.overlays) ≡ true
  pub all_rise : are_rising (world_of value).filesystems ≡ true
  pub mounts : All (IsMountedSoOften (world_of value)) value.overlays
  pub own_nodes : All HasOwnNodes (overlays_seen value.overlays)

-- the number of each inode is one that its filesystem gives to a slot
abbrev pub HasOwnInodes : FilesystemEntry → Type 0
HasOwnInodes entry = (number : ℕ) → is_own_number entry.count number ≡ false → (inodes_seen entry).inode number ≡ None

-- a namespace counts its tasks
pub record CountsWhatIsInIt (world : World ℕ) (entry : NamespaceEntry) : Type 0 where
  pub tasks : entry.tasks ≡ times (λ task. nat_eq (counted entry.count) task.namespace) world.tasks

pub record IsHeld (value : WorldValue) : Type 0 where
  pub in_world : IsWorld nat_eq (world_of value)
  pub groups : Has (world_of value) value.groups
  pub given : KeepsTo (is_counted_before value.next) (world_of value)
  pub mounts : All (CountsItsUses (world_of value)) value.mounts
  pub filesystems : All (CountsItsMounts (world_of value)) value.filesystems
  pub own_inodes : All HasOwnInodes value.filesystems
  pub overlays : HoldsOverlays value
  pub namespaces : All (CountsWhatIsInIt (world_of value)) value.namespaces
