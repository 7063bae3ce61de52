use Rattle.std.proofs.Common.{◌≡◌, ◌++◌, drop}
use Rattle.vt_mount.specs.MountsValue.{mounts_in}
use Rattle.vt_propagate.specs.LazyEvents.{children_of}
use Rattle.vt_propagate.proofs.Found.{counts}
use Rattle.vt_propagate.proofs.lazily.children_of.Given as goal

abbrev pub invariant-loop-id : goal.invariant-loop-id
invariant-loop-id l = counts l.children.items ++ children_of (mounts_in l.mounts) (counts (drop l.id-index l.level))
    ≡ children_of (mounts_in l.mounts) (counts l.level)
