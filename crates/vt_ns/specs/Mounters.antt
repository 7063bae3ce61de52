-- Who mounted the overlay that a mount shows.
use Rattle.std.specs.Prelude.{Option, nat_eq, option_map, ℕ}
use Rattle.vt_spec.specs.Machine.World.{World, filesystem_numbered, mount_numbered}
use Rattle.vt_spec.specs.Rights.{Credentials}

-- the mounter of the overlay that the mount of this number shows; there is none where it shows a plain tree
abbrev pub mounter_on : World ℕ → ℕ → Option Credentials
mounter_on world mount =
    option_map (λ overlay. overlay.mounter)
    (filesystem_numbered nat_eq world (mount_numbered nat_eq world mount).filesystem).overlay
