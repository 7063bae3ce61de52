use Rattle.std.proofs.Common.{ap, map, ◌∙◌, take_all}
use Rattle.vt_spec.proofs.Common.{folded}
use Rattle.vt_group.specs.Together.{typed}
use Rattle.vt_retype.specs.Retyping.{with_type_in}
use Rattle.vt_retype.proofs.Retyped.{typed_next}
use Rattle.vt_retype.proofs.retyping.set_types.Goals as goal

pub loop-mount-preserved : goal.loop-mount-preserved
loop-mount-preserved c = typed_next c.args.mounts.now c.loop-mount.mounts c.set_propagation.new.self c.args.types.now
    c.loop-mount.mount-index _ c.loop-mount-test.true c.set_propagation.ensures.mounts c.loop-mount.invariant

pub returns : goal.returns
returns c = c.loop-mount.invariant ∙ ap (λ types. folded with_type_in c.args.mounts.now (map typed types))
    (take_all c.loop-mount.mount-index c.args.types.now c.loop-mount-test.false)
