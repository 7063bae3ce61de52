-- How an event changes the code's world: as the policy applies its permit, with what nothing uses gone, change numbers
-- and the order of numbers beside trees aside.
use Rattle.std.specs.Prelude.{Some, map, nat_eq, option_map, unwrap_or, ℕ, ◌/◌, ◌≡◌}
use Rattle.vt_spec.specs.Language.Calls.{TaskName}
use Rattle.vt_spec.specs.Lists.{Fresh}
use Rattle.vt_spec.specs.Machine.Mounts.{Location}
use Rattle.vt_spec.specs.Machine.Permits.{Permit}
use Rattle.vt_spec.specs.Machine.Permits.Permit.{ToMake, ToMountOverlay, ToMountPlain, ToOpenNew}
use Rattle.vt_spec.specs.Machine.SameWorlds.{SameWorlds}
use Rattle.vt_spec.specs.Machine.World.{Layer, Overlay, Task, World, first_credentials, mount_at, task_called}
use Rattle.vt_spec.specs.Rights.{Credentials}
use Rattle.vt_fs.specs.FilesystemsValue.{entry_of, next_seen}
use Rattle.vt_location.specs.Numbers.{exchanged, inode_number}
use Rattle.vt_overlay.specs.declared.merge.layers.LayerRef.{LayerRef}
use Rattle.vt_overlay.specs.MergedTree.{OverlayValue}
use Rattle.vt_world.specs.OverlaysMade.Made.{handed_in}
use Rattle.vt_laws_worlds.specs.Permits.Left.{IsGiven, left_by as left}
use Rattle.vt_laws_trees.specs.Runs.Handed.{counts_from, handed_from}
use Rattle.vt_world.specs.WorldValue.{WorldValue, world_of}

-- The number of the filesystem that a location is in
abbrev pub filesystem_count : WorldValue → Location ℕ → ℕ
filesystem_count value location = (mount_at nat_eq (world_of value) location).filesystem / 4

-- the number that the next inode of that filesystem gets; of an overlay, in which none is made, one that nothing has
abbrev pub next_inode : WorldValue → Location ℕ → ℕ
next_inode value location =
    unwrap_or (option_map next_seen (entry_of value.filesystems (filesystem_count value location)))
    (inode_number value.next 0)

-- a layer as it is kept: its filesystem by its count, and its directory by its slot
abbrev pub layer_kept : Layer ℕ → LayerRef
layer_kept layer = record {
  directory = record {
    filesystem = record { count = layer.filesystem / 4 };
    slot = exchanged (layer.filesystem / 4) layer.directory;
  };
}

-- so an overlay with this count
abbrev pub overlay_kept : ℕ → Overlay ℕ → OverlayValue
overlay_kept count overlay = record {
  number = record { count = count };
  lowers = map layer_kept overlay.lowers;
  mounter = overlay.mounter;
}

-- The numbers that a permit is handed: counts from the next one on, and where an inode is made the number that its slot
-- gives it. The inodes of an overlay get the numbers of their births.
abbrev pub supply_of : WorldValue → Permit ℕ → Fresh ℕ
supply_of value (ToMake directory name node) = handed_from value.next 0 (next_inode value directory)
supply_of value (ToOpenNew directory name node access) = handed_from value.next 0 (next_inode value directory)
supply_of value (ToMountPlain place flags) = handed_from value.next 2 (inode_number value.next 0)
supply_of value (ToMountOverlay place overlay flags) =
    handed_in (world_of value) value.filesystems (overlay_kept value.next overlay)
supply_of value permit = counts_from value.next

-- the task of this name is given this permit for some call
pub record Permits (value : WorldValue) (name : TaskName) (permit : Permit ℕ) : Type 0 where
  pub task : Task ℕ
  pub called : task_called (world_of value) name ≡ Some task
  pub given : IsGiven (supply_of value permit) (world_of value) task permit

-- the credentials of the task with this name
abbrev pub credentials_called : WorldValue → TaskName → Credentials
credentials_called value name =
    unwrap_or (option_map (λ task. task.credentials) (task_called (world_of value) name)) first_credentials

-- the world that the policy leaves when the permit is applied, with what nothing uses gone
abbrev pub left_by : WorldValue → Task ℕ → Permit ℕ → World ℕ
left_by value task permit = left (supply_of value permit) (world_of value) task permit

abbrev pub Becomes : WorldValue → TaskName → Permit ℕ → WorldValue → Type 0
Becomes old name permit new =
    (task : Task ℕ) → task_called (world_of old) name ≡ Some task → SameWorlds (left_by old task permit) (world_of new)
