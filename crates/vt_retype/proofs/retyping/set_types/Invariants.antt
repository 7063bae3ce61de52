use Rattle.std.proofs.Common.{◌≡◌, map, take}
use Rattle.vt_spec.proofs.Common.{folded}
use Rattle.vt_group.specs.Together.{typed}
use Rattle.vt_retype.specs.Retyping.{with_type_in}
use Rattle.vt_retype.proofs.retyping.set_types.Given as goal

abbrev pub invariant-loop-mount : goal.invariant-loop-mount
invariant-loop-mount l = l.mounts ≡ folded with_type_in l.fn.mounts (map typed (take l.mount-index l.types))
