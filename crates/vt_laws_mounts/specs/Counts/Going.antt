-- Mounts and filesystems with the counts of their uses: umount(2) with MNT_DETACH.
use Rattle.std.specs.Prelude.{List, false, if◌then◌else◌, is_some, map, nat_eq, nat_lt, true, ℕ, ◌+◌, ◌++◌, ◌||◌, ◌≡◌}
use Rattle.vt_spec.specs.Lists.{any_pair, is_among}
use Rattle.vt_spec.specs.Machine.Mounts.{Location, Mount}
use Rattle.vt_spec.specs.Machine.World.{World, all_locations, mount_numbered}
use Rattle.vt_laws_mounts.specs.LettingGo.Counts.{mount_uses, mounts_showing, times}
use Rattle.vt_laws_mounts.specs.LettingGo.OneByOne.{let_go_filesystem, let_go_mount, without_filesystem, without_mount}
use Rattle.vt_laws_mounts.specs.Counts.Counted.{IsPlain}

-- A mount goes if it is in no namespace and no location is on it.
abbrev pub MountGoesAtZero : Type 0
MountGoesAtZero =
    (world : World ℕ) (number : ℕ) → any_pair (λ (a b : Mount ℕ). nat_eq a.number b.number) world.mounts ≡ false
    → let_go_mount world number
    ≡ (if is_some (mount_numbered nat_eq world number).namespace || nat_lt 0 (mount_uses world number) then world
    else without_mount world number)

-- A plain filesystem goes if no mount shows it.
abbrev pub FilesystemGoesAtZero : Type 0
FilesystemGoesAtZero =
    (world : World ℕ) (number : ℕ) → IsPlain world
    → let_go_filesystem world number
    ≡ (if nat_lt 0 (mounts_showing world number) then world else without_filesystem world number)

-- A mount that goes is one use less of its filesystem.
abbrev pub MountTakesItsCount : Type 0
MountTakesItsCount =
    (world : World ℕ) (number filesystem : ℕ)
    → any_pair (λ (a b : Mount ℕ). nat_eq a.number b.number) world.mounts ≡ false
    → is_among nat_eq number (map (λ mount. mount.number) world.mounts) ≡ true
    → mounts_showing world filesystem
    ≡ mounts_showing (without_mount world number) filesystem
    + (if nat_eq filesystem (mount_numbered nat_eq world number).filesystem then 1 else 0)

-- Locations that come to mounts and leave them are as many uses more and less.
abbrev pub LocationsUseMounts : Type 0
LocationsUseMounts =
    (world after : World ℕ) (gained lost front back : List (Location ℕ))
    → all_locations world ≡ front ++ (lost ++ back) → all_locations after ≡ front ++ (gained ++ back)
    → (number : ℕ)
    → mount_uses world number + times (λ location. nat_eq number location.mount) gained
    ≡ mount_uses after number + times (λ location. nat_eq number location.mount) lost

-- So are mounts of what they show.
abbrev pub MountsUseFilesystems : Type 0
MountsUseFilesystems =
    (world after : World ℕ) (gained lost front back : List (Mount ℕ))
    → world.mounts ≡ front ++ (lost ++ back) → after.mounts ≡ front ++ (gained ++ back)
    → (number : ℕ)
    → mounts_showing world number + times (λ mount. nat_eq number mount.filesystem) gained
    ≡ mounts_showing after number + times (λ mount. nat_eq number mount.filesystem) lost
