use Rattle.std.proofs.Common.{◌≡◌, nat_eq, take, flat_map}
use Rattle.vt_spec.proofs.Common.{each_once, groups_in_type}
use Rattle.vt_listing.specs.Shown.{world_shown}
use Rattle.vt_listing.specs.GroupsListed.{all_seen, group_numbers}
use Rattle.vt_listing.proofs.table.MountTable.groups_of.Given as goal

abbrev pub invariant-loop-one : goal.invariant-loop-one
invariant-loop-one l = group_numbers l.seen.keys
    ≡ each_once nat_eq (flat_map (λ one. groups_in_type (world_shown l.self) one.2) (all_seen (take l.one-index l.placed)))
