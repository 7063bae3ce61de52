use Rattle.std.proofs.Common.{length, ◌-◌, ◌≡◌}
use Rattle.vt_ns.proofs.Common.{counted, mounts_in}
use Rattle.vt_ns.proofs.mount_looks.Climbing.{meets}
use Rattle.vt_ns.proofs.mount_looks.WorldLookAtMounts.is_at_or_below.Given as goal

-- going up from here meets the mount just if going up from the first one does
abbrev pub invariant-loop : goal.invariant-loop
invariant-loop l = (l.end ≡ length (mounts_in l.self.mounts))
    × (meets (mounts_in l.self.mounts) (counted l.top.count) (l.end - l.counter) (counted l.here.count)
    ≡ meets (mounts_in l.self.mounts) (counted l.top.count) l.end (counted l.fn.mount.count))
