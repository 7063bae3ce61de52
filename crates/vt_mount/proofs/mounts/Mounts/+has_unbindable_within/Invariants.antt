use Rattle.std.proofs.Common.{◌≡◌, ◌-◌, false, nat_eq, take}
use Rattle.vt_spec.proofs.Common.{is_unbindable, list_any, mount_in, tree_from}
use Rattle.vt_location.specs.Numbers.{counted}
use Rattle.vt_mount.specs.MountsValue.{mounts_in}
use Rattle.vt_mount.proofs.mounts.Mounts.+has_unbindable_within.Given as goal

abbrev pub decreases-has_unbindable_within : goal.decreases-has_unbindable_within
decreases-has_unbindable_within l = l.depth

-- the trees of the children so far have no unbindable mount
abbrev pub invariant-loop-child : goal.invariant-loop-child
invariant-loop-child l = list_any (λ id. list_any (λ mount. is_unbindable mount.propagation)
    (tree_from nat_eq (l.depth - 1) (mounts_in l.self) (mount_in nat_eq (mounts_in l.self) (counted id.count))))
    (take l.child-index l.child-items) ≡ false
