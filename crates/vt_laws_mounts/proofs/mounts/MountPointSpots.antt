-- Where a mount point is, if the mount is there that it is on.
use Rattle.std.proofs.Common.{arith, ◌≡◌, ap, List, [], Some, find, nat_eq, option_and_then, true, ℕ, ◌∷◌}
use Rattle.vt_spec.proofs.Common.{Location, Mount, World, common_steps, files_at, filesystem_numbered, is_among, mount_at, mount_in, mount_point_spot, path_down, spot_of}
use Rattle.vt_laws_mounts.specs.Mounts.Attaching.{is_mount, numbers_of}

-- a number that a mount has finds it
pub numbered_found : (mounts : List (Mount ℕ)) (number : ℕ) → is_among nat_eq number (numbers_of mounts) ≡ true
    → find (λ (mount : Mount ℕ). nat_eq number mount.number) mounts ≡ Some (mount_in nat_eq mounts number)
numbered_found [] number h = cc
numbered_found (first ∷ rest) number h = grind (arith, common_steps, numbered_found rest number)

pub spot_on : (world : World ℕ) (point : Location ℕ) → is_mount world point.mount ≡ true
    → mount_point_spot nat_eq world point
    ≡ spot_of (path_down nat_eq (files_at nat_eq world point) (mount_at nat_eq world point).root point.node)
spot_on world point there = ap (λ found. spot_of (option_and_then
    (λ (mount : Mount ℕ). path_down nat_eq (filesystem_numbered nat_eq world mount.filesystem).files mount.root
    point.node)
    found)) (numbered_found world.mounts point.mount there)
