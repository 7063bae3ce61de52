-- What goes when a mount leaves its place: umount(2), also with MNT_DETACH.
use Rattle.std.specs.Prelude.{List, Option, [], false, if◌then◌else◌, map, nat_eq, not, option_to_list, true, ℕ, ◌∷◌, ◌≡◌}
use Rattle.std.specs.List.{list_all}
use Rattle.vt_spec.specs.Machine.Detach.{has_child, unmounted}
use Rattle.vt_spec.specs.Machine.Mounts.{Mount, detached, is_shared}
use Rattle.vt_spec.specs.Machine.Receives.{regrouped}
use Rattle.vt_spec.specs.Machine.Settled.{settled}
use Rattle.vt_spec.specs.Machine.World.{World, mount_at, mount_numbered, with_mounts}
use Rattle.vt_spec.specs.Machine.Invariants.{is_nowhere_or_attached}
use Rattle.vt_laws_mounts.specs.LettingGo.Leaving.{IsSettledPlain}
use Rattle.vt_laws_mounts.specs.LettingGo.OneByOne.{GroupsInUseBut, Inode, Losers, let_go}

-- The unmount of one mount

abbrev pub detached_if : ℕ → Mount ℕ → Mount ℕ
detached_if number mount = if nat_eq mount.number number then detached mount else mount

abbrev pub without_place : World ℕ → ℕ → World ℕ
without_place world number = with_mounts world (map (detached_if number) world.mounts)

-- the mount that it stands on is not shared
abbrev pub StandsUnshared : World ℕ → ℕ → Type 0
StandsUnshared world number =
    list_all (λ place. not (is_shared (mount_at nat_eq world place).propagation))
    (option_to_list (mount_numbered nat_eq world number).mount_point) ≡ true

-- A mount on which no other stands, at a place of a mount that is not shared, is unmounted alone: it has no place,
-- namespace or group any more, and all other mounts are as they were. Groups that lost their last member are handed on.
abbrev pub UnmountIsOfOne : Type 0
UnmountIsOfOne =
    (world : World ℕ) (number : ℕ) → has_child nat_eq world number ≡ false → StandsUnshared world number
    → unmounted nat_eq world number ≡ regrouped nat_eq (without_place world number)

-- What goes then

-- a change that leaves each mount what it shows, and each but one where it stands
pub record MovesOne (one : ℕ) (change : Mount ℕ → Mount ℕ) : Type 0 where
  pub number : (mount : Mount ℕ) → (change mount).number ≡ mount.number
  pub filesystem : (mount : Mount ℕ) → (change mount).filesystem ≡ mount.filesystem
  pub root : (mount : Mount ℕ) → (change mount).root ≡ mount.root
  pub namespace : (mount : Mount ℕ) → nat_eq mount.number one ≡ false → (change mount).namespace ≡ mount.namespace
  pub mount_point : (mount : Mount ℕ) → nat_eq mount.number one ≡ false → (change mount).mount_point ≡ mount.mount_point

abbrev pub with_changed : World ℕ → (Mount ℕ → Mount ℕ) → (ℕ → Option ℕ) → World ℕ
with_changed world change master = record world { mounts = map change world.mounts; master = master }

-- what a mount used where it stood: its filesystem, its root, and the inode of its place
abbrev pub inodes_of_mount : World ℕ → Mount ℕ → List Inode
inodes_of_mount world mount =
    (mount.filesystem, mount.root)
    ∷ map (λ place. ((mount_at nat_eq world place).filesystem, place.node)) (option_to_list mount.mount_point)

abbrev pub used_by_mount : World ℕ → ℕ → List ℕ → Losers
used_by_mount world number groups = record {
  mounts = number ∷ [];
  filesystems = (mount_numbered nat_eq world number).filesystem ∷ [];
  inodes = inodes_of_mount world (mount_numbered nat_eq world number);
  groups = groups;
}

-- Where a mount on which no other stands leaves its place, and types and masters may have changed with it: of what it
-- used, that goes which nothing uses any more, and nothing else.
abbrev pub DetachingLetsGo : Type 0
DetachingLetsGo =
    (world : World ℕ) (number : ℕ) (change : Mount ℕ → Mount ℕ) (master : ℕ → Option ℕ) (groups : List ℕ)
    → IsSettledPlain world → MovesOne number change → has_child nat_eq world number ≡ false
    → list_all is_nowhere_or_attached (with_changed world change master).mounts ≡ true
    → GroupsInUseBut groups (with_changed world change master)
    → settled nat_eq (with_changed world change master)
    ≡ let_go (with_changed world change master) (used_by_mount world number groups)
