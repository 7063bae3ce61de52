use Rattle.std.proofs.Common.{◌≡◌, ◌≤◌, ◌++◌, find, length, nat_eq, option_map, take, filter_map}
use Rattle.vt_location.specs.Numbers.{counted}
use Rattle.vt_mount.specs.MountsValue.{mounts_in}
use Rattle.vt_listing.specs.GroupsListed.{all_seen}
use Rattle.vt_listing.proofs.ListedPeers.{each_placed}
use Rattle.vt_listing.proofs.table.MountTable.push_placed.Given as goal

abbrev pub invariant-loop-id : goal.invariant-loop-id
invariant-loop-id l = (l.place ≤ l.id-index) × (l.place ≡ length (filter_map (λ id. option_map (λ mount. mount)
    (find (λ mount. nat_eq (counted id.count) mount.number) (mounts_in l.self.mounts.now)))
    (take l.id-index l.id-items))) × (all_seen l.placed.items ≡ all_seen l.initial.placed.items
    ++ each_placed l.number (filter_map (λ id. option_map (λ mount. mount)
    (find (λ mount. nat_eq (counted id.count) mount.number) (mounts_in l.self.mounts.now)))
    (take l.id-index l.id-items)))
