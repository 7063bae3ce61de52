use Rattle.std.proofs.Common.{◌≡◌, map, take}
use Rattle.vt_mounting.proofs.Common.{mount_of, mounts_in}
use Rattle.vt_mounting.specs.Attach.BoundMounts.{bound_mounts}
use Rattle.vt_mounting.proofs.attach.bound.bound_mounts.Given as goal

abbrev pub invariant-loop-id : goal.invariant-loop-id
invariant-loop-id l = map mount_of l.tree.items ≡ bound_mounts l.source (mounts_in l.mounts) (take l.id-index l.origins)
