use Rattle.std.proofs.Common.{List}
use Rattle.vt_location.specs.declared.numbers.MountId.{MountId}
use Rattle.vt_mount.specs.declared.mounted.Mounted.{Mounted}
use Rattle.vt_mount.specs.Indexed.{IsIndexed}
use Rattle.vt_mount.proofs.attaching.release_all.Given as goal

abbrev pub invariant-loop-mount : goal.invariant-loop-mount
invariant-loop-mount l = (kept : List (MountId × Mounted)) → IsIndexed l.fn.indexes kept → IsIndexed l.indexes kept
