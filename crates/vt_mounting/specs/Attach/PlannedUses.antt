-- The uses of inodes that come and go where mounts get other mount points.
use Rattle.std.specs.Map.{lookup}
use Rattle.std.specs.Prelude.{List, false, map, nat_eq, ℕ, ◌≡◌}
use Rattle.vt_laws_mounts.specs.Counts.Using.{Exchanges}
use Rattle.vt_laws_mounts.specs.LettingGo.Mounting.{inode_at}
use Rattle.vt_location.specs.Locations.{location_of}
use Rattle.vt_location.specs.Numbers.{counted}
use Rattle.vt_mount.specs.MountsValue.{MountEntry, mounts_in}
use Rattle.vt_spec.specs.Lists.{any_pair, or_else}
use Rattle.vt_spec.specs.Machine.Mounts.{Location, Mount}
use Rattle.vt_spec.specs.Machine.World.{World, with_mounts}
use Rattle.vt_mounting.specs.Attach.Planned.{Point, points_left, points_taken, with_points}

-- just those at the mount points that are taken, and at those that are left
abbrev pub PointsAreUses : Type 0
PointsAreUses =
    (world : World ℕ) (entries : List MountEntry) (points : List Point) → mounts_in entries ≡ world.mounts
    → any_pair (λ a b. nat_eq a.number b.number) world.mounts ≡ false → (filesystem : ℕ)
    → Exchanges (map (inode_at world) (map location_of (points_taken points entries)))
    (map (inode_at world) (points_left points entries))
    filesystem world (with_mounts world (mounts_in (with_points points entries)))

-- a mount and its new mount point, as the definitions see them
abbrev pub point_seen : Point → ℕ × Location ℕ
point_seen point = (counted point.mount.count, location_of point.place)

-- The mounts get their new mount points as if all at once: of two for one mount the first one counts.
abbrev pub PointsAreMoved : Type 0
PointsAreMoved =
    (entries : List MountEntry) (points : List Point)
    → mounts_in (with_points points entries)
    ≡ map {B = Mount ℕ} (λ (mount : Mount ℕ). record mount { mount_point = or_else (lookup (nat_eq mount.number) (map point_seen points)) mount.mount_point })
    (mounts_in entries)
