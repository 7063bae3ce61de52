use Rattle.std.proofs.Common.{◌≡◌, map, take}
use Rattle.vt_group.specs.Additions.{typed_pair}
use Rattle.vt_group.specs.Together.{typed}
use Rattle.vt_group.proofs.additions.types_of.Given as goal

abbrev pub invariant-loop-mount : goal.invariant-loop-mount
invariant-loop-mount l = map typed_pair l.types.items ≡ map typed (take l.mount-index l.mounts)
