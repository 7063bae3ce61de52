-- The event that mounts an overlay: the mounter is the caller, so the permit is told by the task.
use Rattle.std.specs.Prelude.{Some, true, ℕ, ◌≡◌}
use Rattle.vt_spec.specs.Language.Calls.{TaskName}
use Rattle.vt_spec.specs.Machine.SameWorlds.{SameWorlds}
use Rattle.vt_spec.specs.Machine.World.{Task, task_called}
use Rattle.vt_location.specs.Locations.{number_of}
use Rattle.vt_location.specs.Numbers.{is_own_number}
use Rattle.vt_permits.specs.GrantValue.{overlay_permit}
use Rattle.vt_permits.specs.declared.grant.NewLayer.{NewLayer}
use Rattle.vt_permits.specs.declared.grant.ToMountOverlay.{ToMountOverlay}
use Rattle.vt_mounting.specs.Detach.Events.{left_by}
use Rattle.vt_world.specs.WorldValue.{WorldValue, world_of}

-- the world becomes the one that the permit leaves
abbrev pub MountsOverlay : WorldValue → TaskName → ToMountOverlay → WorldValue → Type 0
MountsOverlay old name new later =
    (task : Task ℕ) → task_called (world_of old) name ≡ Some task
    → SameWorlds (left_by old task (overlay_permit task new)) (world_of later)

-- a layer is an inode of the plain filesystem that its mount shows
abbrev pub IsPlainLayer : NewLayer → Type 0
IsPlainLayer layer = is_own_number layer.filesystem.count (number_of layer.directory) ≡ true
