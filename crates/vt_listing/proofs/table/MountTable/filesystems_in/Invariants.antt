use Rattle.std.proofs.Common.{◌≡◌, find, map, nat_eq, option_map, take, filter_map}
use Rattle.vt_spec.proofs.Common.{each_once}
use Rattle.vt_location.specs.Numbers.{counted}
use Rattle.vt_mount.specs.MountsValue.{mounts_in}
use Rattle.vt_listing.proofs.table.MountTable.filesystems_in.Given as goal

abbrev pub invariant-loop-id : goal.invariant-loop-id
invariant-loop-id l = map (λ id. counted id.count) l.seen.keys
    ≡ each_once nat_eq (filter_map (λ id. option_map (λ mount. mount.filesystem)
    (find (λ mount. nat_eq (counted id.count) mount.number) (mounts_in l.self.mounts.now)))
    (take l.id-index l.id-items))
