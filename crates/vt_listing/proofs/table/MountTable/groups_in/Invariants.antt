use Rattle.std.proofs.Common.{◌≡◌, find, map, nat_eq, option_map, take, filter_map, flat_map}
use Rattle.vt_spec.proofs.Common.{each_once, groups_shown}
use Rattle.vt_location.specs.Numbers.{counted}
use Rattle.vt_mount.specs.MountsValue.{mounts_in}
use Rattle.vt_listing.specs.Shown.{world_shown}
use Rattle.vt_listing.proofs.table.MountTable.groups_in.Given as goal

abbrev pub invariant-loop-id : goal.invariant-loop-id
invariant-loop-id l = map (λ id. counted id.count) l.seen.keys
    ≡ each_once nat_eq (flat_map (λ more. more) (filter_map (λ id. option_map (groups_shown (world_shown l.self))
    (find (λ mount. nat_eq (counted id.count) mount.number) (mounts_in l.self.mounts.now)))
    (take l.id-index l.id-items)))
