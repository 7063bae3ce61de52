-- That the numbers of new inodes are not in use.
use Rattle.std.specs.Prelude.{false, ℕ, ◌%◌, ◌≡◌}
use Rattle.vt_location.specs.Numbers.{inode_number}
use Rattle.vt_world.specs.OverlaysMade.Made.{IsNew}
use Rattle.vt_laws_worlds.specs.Permits.InUse.{is_in_use}
use Rattle.vt_spec.specs.Machine.Mounts.{Location}
use Rattle.vt_mounting.specs.Detach.Events.{next_inode}
use Rattle.vt_world.specs.WorldValue.{WorldValue, world_of}

-- an even number that is not in use
pub record IsVacant (value : WorldValue) (number : ℕ) : Type 0 where
  pub even : number % 2 ≡ 0
  pub unused : is_in_use (world_of value) number ≡ false

-- the next inode of the filesystem that a location is in
abbrev pub NextInodeIsVacant : WorldValue → Location ℕ → Type 0
NextInodeIsVacant value directory = IsVacant value (next_inode value directory)

-- the root of the next filesystem
abbrev pub NextRootIsVacant : WorldValue → Type 0
NextRootIsVacant value = IsVacant value (inode_number value.next 0)

-- the next filesystem, with the numbers of all its nodes
abbrev pub NextFilesystemIsNew : WorldValue → Type 0
NextFilesystemIsNew value = IsNew (world_of value) (record { count = value.next })
