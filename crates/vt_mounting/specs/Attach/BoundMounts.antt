-- The mounts of a tree, as a bind copies them: mount(2) with MS_BIND.
use Rattle.std.specs.Prelude.{List, filter_map, find, if◌then◌else◌, nat_eq, option_map, ℕ}
use Rattle.vt_location.specs.declared.locations.Location.{Location}
use Rattle.vt_location.specs.declared.numbers.MountId.{MountId}
use Rattle.vt_location.specs.Locations.{number_of}
use Rattle.vt_location.specs.Numbers.{counted}
use Rattle.vt_spec.specs.Machine.Mounts.{Mount}

-- the mount of the source from that directory on, and each other one as it is
abbrev pub rooted_at : Location → Mount ℕ → Mount ℕ
rooted_at source mount =
    if nat_eq mount.number (counted source.mount.count)
    then record mount { filesystem = counted source.node.filesystem.count; root = number_of source.node } else mount

-- those that are among these mounts
abbrev pub bound_mounts : Location → List (Mount ℕ) → List MountId → List (Mount ℕ)
bound_mounts source mounts origins =
    filter_map (λ id. option_map (rooted_at source)
    (find (λ mount. nat_eq (counted id.count) mount.number) mounts)) origins
