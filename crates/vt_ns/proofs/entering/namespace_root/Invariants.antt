use Rattle.std.proofs.Common.{◌≡◌, None, filter, find, is_some, nat_eq, not, take}
use Rattle.vt_spec.proofs.Common.{holds_of}
use Rattle.vt_ns.proofs.Common.{counted, mounts_in}
use Rattle.vt_ns.proofs.entering.namespace_root.Given as goal

-- those before the next have mount points
abbrev pub invariant-loop-id : goal.invariant-loop-id
invariant-loop-id l = find (λ mount. not (is_some mount.mount_point))
    (take l.id-index (filter (λ mount. holds_of (nat_eq (counted l.fn.namespace.count)) mount.namespace)
    (mounts_in l.mounts))) ≡ None
