use Rattle.std.proofs.Common.{◌≡◌, ◌+◌, drop, map}
use Rattle.vt_location.specs.Numbers.{same_id}
use Rattle.vt_location.specs.declared.numbers.MountId.{MountId}
use Rattle.vt_mount.specs.Listed.{count_of}
use Rattle.vt_mount.specs.Rising.{held}
use Rattle.vt_mount.specs.declared.standing.Standing.{Standing}
use Rattle.vt_mount.proofs.standing.in_order.Given as goal

-- what is in order, and the mounts of the rest, are all mounts
abbrev pub invariant-loop-one : goal.invariant-loop-one
invariant-loop-one l = (id : MountId) → count_of (same_id id) (held l.ids.one l.ids.many)
    + count_of (same_id id) (map (λ (one : Standing). one.mount) (drop l.one-index l.list))
    ≡ count_of (same_id id) (map (λ (one : Standing). one.mount) l.list)
