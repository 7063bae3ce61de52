-- A bind, a new mount and a move leave the mounts that were there: the kernel's document sharedsubtree, "Bind
-- semantics" and "Move semantics". A mount whose mount point at a receiver is the destination's directory goes onto the
-- copy there (profile).
use Rattle.std.specs.Prelude.{Bool, List, false, filter, map, true, ℕ, nat_eq, ◌++◌, ◌≡◌}
use Rattle.std.specs.List.{list_any}
use Rattle.vt_spec.specs.Machine.Attach.{attach, moved_to, receivers_of, takes_part}
use Rattle.vt_spec.specs.Lists.{Fresh, any_pair, is_among}
use Rattle.vt_spec.specs.Machine.Mounts.{Location, Mount, stands_at}
use Rattle.vt_spec.specs.Machine.World.{World, mount_at, mount_numbered}

-- the numbers of mounts, in their order
abbrev pub numbers_of : List (Mount ℕ) → List ℕ
numbers_of mounts = map (λ mount. mount.number) mounts

-- a mount of the world has this number
abbrev pub is_mount : World ℕ → ℕ → Bool
is_mount world number = is_among nat_eq number (numbers_of world.mounts)

-- a mount has the destination's directory as its mount point, on a receiver that takes part, other than the destination
abbrev pub stands_at_a_receiver : World ℕ → Location ℕ → Mount ℕ → Bool
stands_at_a_receiver world destination mount =
    list_any (λ receiver. stands_at nat_eq (record { mount = receiver.number; node = destination.node }) mount)
    (filter (takes_part nat_eq world destination) (receivers_of nat_eq world (mount_at nat_eq world destination)))

-- All of a mount but its mount point
pub record KeepsAllButMountPoint (before later : Mount ℕ) : Type 0 where
  pub number : later.number ≡ before.number
  pub namespace : later.namespace ≡ before.namespace
  pub filesystem : later.filesystem ≡ before.filesystem
  pub root : later.root ≡ before.root
  pub flags : later.flags ≡ before.flags
  pub propagation : later.propagation ≡ before.propagation

-- What a mount shows
pub record KeepsWhatItShows (before later : Mount ℕ) : Type 0 where
  pub number : later.number ≡ before.number
  pub filesystem : later.filesystem ≡ before.filesystem
  pub root : later.root ≡ before.root
  pub flags : later.flags ≡ before.flags

-- The mounts that were there stay in their order, and the new ones follow.
abbrev pub NewMountsFollow : Type 0
NewMountsFollow =
    (world : World ℕ) (fresh : Fresh ℕ) (destination : Location ℕ) (moves : Bool) (mounts : List (Mount ℕ))
    → (new : List ℕ) × (numbers_of (attach nat_eq world fresh destination moves mounts).mounts ≡ numbers_of world.mounts
    ++ new)

-- A bind or a new mount leaves each mount that was there all but its mount point,
abbrev pub AttachKeepsMounts : Type 0
AttachKeepsMounts =
    (world : World ℕ) (fresh : Fresh ℕ) (destination : Location ℕ) (mounts : List (Mount ℕ)) (number : ℕ)
    → is_mount world number ≡ true
    → KeepsAllButMountPoint (mount_numbered nat_eq world number)
    (mount_numbered nat_eq (attach nat_eq world fresh destination false mounts) number)

-- and, unless its mount point is the destination's directory on a receiver, just the record that it had.
abbrev pub AttachLeavesMounts : Type 0
AttachLeavesMounts =
    (world : World ℕ) (fresh : Fresh ℕ) (destination : Location ℕ) (mounts : List (Mount ℕ)) (number : ℕ)
    → is_mount world number ≡ true → stands_at_a_receiver world destination (mount_numbered nat_eq world number) ≡ false
    → mount_numbered nat_eq (attach nat_eq world fresh destination false mounts) number
    ≡ mount_numbered nat_eq world number

-- So does a move, for each mount that does not move.
abbrev pub MoveKeepsMounts : Type 0
MoveKeepsMounts =
    (world : World ℕ) (fresh : Fresh ℕ) (destination : Location ℕ) (mounts : List (Mount ℕ)) (number : ℕ)
    → is_mount world number ≡ true → is_among nat_eq number (numbers_of mounts) ≡ false
    → KeepsAllButMountPoint (mount_numbered nat_eq world number)
    (mount_numbered nat_eq (attach nat_eq world fresh destination true mounts) number)

abbrev pub MoveLeavesMounts : Type 0
MoveLeavesMounts =
    (world : World ℕ) (fresh : Fresh ℕ) (destination : Location ℕ) (mounts : List (Mount ℕ)) (number : ℕ)
    → is_mount world number ≡ true → is_among nat_eq number (numbers_of mounts) ≡ false
    → stands_at_a_receiver world destination (mount_numbered nat_eq world number) ≡ false
    → mount_numbered nat_eq (attach nat_eq world fresh destination true mounts) number
    ≡ mount_numbered nat_eq world number

-- no two mounts have one number
abbrev pub OneNumberAMount : List (Mount ℕ) → Type 0
OneNumberAMount mounts = any_pair (λ (a b : Mount ℕ). nat_eq a.number b.number) mounts ≡ false

-- A mount that moves goes on showing what it showed.
abbrev pub MovedMountsShow : Type 0
MovedMountsShow =
    (world : World ℕ) (fresh : Fresh ℕ) (source destination : Location ℕ) (number : ℕ)
    → OneNumberAMount world.mounts → is_mount world number ≡ true
    → KeepsWhatItShows (mount_numbered nat_eq world number)
    (mount_numbered nat_eq (moved_to nat_eq fresh world source.mount destination) number)
