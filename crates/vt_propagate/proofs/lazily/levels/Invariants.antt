use Rattle.std.proofs.Common.{length, [], ◌++◌, ◌-◌, ◌≡◌, ◌∷◌}
use Rattle.vt_location.specs.Numbers.{counted}
use Rattle.vt_mount.specs.MountsValue.{mounts_in}
use Rattle.vt_propagate.specs.LazyEvents.{levels_from}
use Rattle.vt_propagate.proofs.Found.{counts}
use Rattle.vt_propagate.proofs.lazily.levels.Given as goal

-- with the levels from this one on, all are there
abbrev pub invariant-loop : goal.invariant-loop
invariant-loop l = (l.end ≡ length (mounts_in l.mounts))
    × (counts l.all.items ++ levels_from (l.end - l.counter) (mounts_in l.mounts) (counts l.level.items)
    ≡ levels_from l.end (mounts_in l.mounts) (counted l.fn.id.count ∷ []))
