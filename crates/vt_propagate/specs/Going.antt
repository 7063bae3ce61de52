-- Which mounts an unmount detaches, by the list of mounts alone.
use Rattle.std.specs.Prelude.{Bool, List, Option, filter_map, find, nat_eq, nat_lt, option_map, ℕ, ◌≡◌}
use Rattle.vt_spec.specs.Lists.{then_some, when}
use Rattle.vt_spec.specs.Machine.Detach.{only_cover}
use Rattle.vt_spec.specs.Machine.Mounts.{Location, Mount, child_at, children, group_of}
use Rattle.vt_spec.specs.Machine.Settled.{is_located}
use Rattle.vt_spec.specs.Machine.World.{World}
use Rattle.vt_mount.specs.MountsValue.{MountEntry, uses_of}

-- the mounts that are in use are those that count a use
abbrev pub CountsUses : World ℕ → List MountEntry → Type 0
CountsUses world kept = (number : ℕ) → is_located nat_eq world number ≡ nat_lt 0 (uses_of kept number)

-- a mount has no child, or a single one, which covers its root
abbrev pub is_free : List (Mount ℕ) → Mount ℕ → Bool
is_free mounts mount = only_cover nat_eq mount (children nat_eq mounts mount.number)

-- the mount at a location, if it may go
abbrev pub free_at : List (Mount ℕ) → Location ℕ → Option (Mount ℕ)
free_at mounts place = then_some (child_at nat_eq mounts place) (λ child. when (is_free mounts child) child)

-- the mounts on an inode of each receiver that may go
abbrev pub free_on : List (Mount ℕ) → ℕ → List ℕ → List (Mount ℕ)
free_on mounts node receivers =
    filter_map (λ receiver. free_at mounts (record { mount = receiver; node = node })) receivers

-- the mount point of a mount whose parent is shared, and the parent's group
abbrev pub group_at : List (Mount ℕ) → Location ℕ → Option (Location ℕ × ℕ)
group_at mounts place =
    option_map (λ group. (place, group))
    (then_some (find (λ mount. nat_eq place.mount mount.number) mounts) (λ parent. group_of parent.propagation))

abbrev pub shared_point : List (Mount ℕ) → ℕ → Option (Location ℕ × ℕ)
shared_point mounts number =
    then_some (then_some (find (λ mount. nat_eq number mount.number) mounts) (λ mount. mount.mount_point)) (group_at mounts)
