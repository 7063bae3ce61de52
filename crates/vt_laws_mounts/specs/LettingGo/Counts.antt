-- Uses are counted: a thing is in use just while its count is not zero.
use Rattle.std.specs.Prelude.{Bool, List, [], if◌then◌else◌, nat_eq, nat_lt, ℕ, ◌+◌, ◌++◌, ◌∷◌, ◌≡◌}
use Rattle.vt_spec.specs.Machine.Mounts.{Location, Mount}
use Rattle.vt_spec.specs.Machine.Receives.{has_members, is_member_of}
use Rattle.vt_spec.specs.Machine.Settled.{is_located, is_mounted, used_in}
use Rattle.vt_spec.specs.Machine.World.{Filesystem, World, all_locations}
use Rattle.vt_laws_mounts.specs.LettingGo.InUse.{is_inode_used}

-- how many of a list pass
abbrev pub times : {A : Type 0} → (A → Bool) → List A → ℕ
times test [] = 0
times test (a ∷ rest) = (if test a then 1 else 0) + times test rest

-- how many roots, working directories and descriptors are on a mount
abbrev pub mount_uses : World ℕ → ℕ → ℕ
mount_uses world number = times (λ location. nat_eq number location.mount) (all_locations world)

-- how many mounts show a filesystem
abbrev pub mounts_showing : World ℕ → ℕ → ℕ
mounts_showing world number = times (λ mount. nat_eq number mount.filesystem) world.mounts

-- how many names, locations, mounts, places, layers and objects of overlays use an inode; the root is used once more
abbrev pub inode_uses : World ℕ → Filesystem ℕ → ℕ → ℕ
inode_uses world filesystem number = times (nat_eq number) (used_in nat_eq world filesystem)

-- how many mounts are members of a group
abbrev pub member_count : World ℕ → ℕ → ℕ
member_count world group = times (is_member_of nat_eq group) world.mounts

abbrev pub LocatedWhileCounted : Type 0
LocatedWhileCounted =
    (world : World ℕ) (number : ℕ) → is_located nat_eq world number ≡ nat_lt 0 (mount_uses world number)

abbrev pub MountedWhileCounted : Type 0
MountedWhileCounted =
    (world : World ℕ) (number : ℕ) → is_mounted nat_eq world number ≡ nat_lt 0 (mounts_showing world number)

abbrev pub UsedWhileCounted : Type 0
UsedWhileCounted =
    (world : World ℕ) (filesystem : Filesystem ℕ) (number : ℕ)
    → is_inode_used world filesystem number ≡ nat_lt 0 (inode_uses world filesystem number)

abbrev pub MembersWhileCounted : Type 0
MembersWhileCounted =
    (world : World ℕ) (group : ℕ) → has_members nat_eq world.mounts group ≡ nat_lt 0 (member_count world group)

-- A location that is left is one use less of its mount, and of no other.
abbrev pub OneUseLess : Type 0
OneUseLess =
    (world after : World ℕ) (front back : List (Location ℕ)) (location : Location ℕ)
    → all_locations world ≡ front ++ (location ∷ back) → all_locations after ≡ front ++ back → (number : ℕ)
    → mount_uses world number ≡ mount_uses after number + (if nat_eq number location.mount then 1 else 0)

-- A mount that goes is one use less of the filesystem that it shows, and of no other.
abbrev pub OneMountLess : Type 0
OneMountLess =
    (world after : World ℕ) (front back : List (Mount ℕ)) (mount : Mount ℕ)
    → world.mounts ≡ front ++ (mount ∷ back) → after.mounts ≡ front ++ back → (number : ℕ)
    → mounts_showing world number ≡ mounts_showing after number + (if nat_eq number mount.filesystem then 1 else 0)
