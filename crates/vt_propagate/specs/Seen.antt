-- The world that the mounts, the groups and the filesystems of code are.
use Rattle.std.specs.Prelude.{Bool, List, filter_map, find, is_some, nat_eq, not, ℕ, ◌&&◌, ◌≡◌}
use Rattle.vt_spec.specs.FileTree.{is_directory_under}
use Rattle.vt_spec.specs.Machine.Mounts.{Location, Mount}
use Rattle.vt_spec.specs.Machine.World.{World, filesystem_numbered}
use Rattle.vt_group.specs.Grouping.{Grouping, Has}
use Rattle.vt_mount.specs.MountsValue.{MountEntry, mounts_in}
use Rattle.vt_laws_mounts.specs.Mounts.Receivers.{AllGroupsLive}

-- A world has these mounts and these groups, and each group of a mount lives.
pub record IsSeen (world : World ℕ) (kept : List MountEntry) (grouping : Grouping) : Type 0 where
  pub mounts : mounts_in kept ≡ world.mounts
  pub groups : Has world grouping
  pub living : AllGroupsLive world

-- In its filesystems a directory lies at or under another just where this says so.
abbrev pub ReachesAs : World ℕ → (ℕ → ℕ → ℕ → Bool) → Type 0
ReachesAs world under =
    (filesystem top directory : ℕ)
    → under filesystem top directory
    ≡ is_directory_under nat_eq (filesystem_numbered nat_eq world filesystem).files top directory

-- there is a mount with this number
abbrev pub is_mounted : List MountEntry → ℕ → Bool
is_mounted mounts number = is_some (find (λ mount. nat_eq number mount.number) (mounts_in mounts))

-- the mounts with these numbers
abbrev pub mounts_numbered : List (Mount ℕ) → List ℕ → List (Mount ℕ)
mounts_numbered mounts numbers = filter_map (λ number. find (λ mount. nat_eq number mount.number) mounts) numbers

-- a receiver takes part in an attachment at this place of a mount
abbrev pub joins : (ℕ → ℕ → ℕ → Bool) → Location ℕ → Mount ℕ → Mount ℕ → Bool
joins under place parent mount =
    not (nat_eq place.mount mount.number) && is_some mount.namespace && nat_eq parent.filesystem mount.filesystem
    && under mount.filesystem mount.root place.node
