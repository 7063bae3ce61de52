use Rattle.std.proofs.Common.{List}
use Rattle.vt_location.specs.declared.numbers.MountId.{MountId}
use Rattle.vt_mount.specs.declared.mounted.Mounted.{Mounted}
use Rattle.vt_mount.specs.Indexed.{IsIndexed}
use Rattle.vt_mount.proofs.moving.release_moves.Given as goal

abbrev pub invariant-loop-point : goal.invariant-loop-point
invariant-loop-point l = (kept : List (MountId × Mounted)) → IsIndexed l.fn.indexes kept → IsIndexed l.indexes kept
