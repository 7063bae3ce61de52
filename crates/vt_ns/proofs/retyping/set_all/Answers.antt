use Rattle.std.proofs.Common.{take_all}
use Rattle.vt_location.specs.MountValue.{propagation_of}
use Rattle.vt_ns.proofs.RetypedMounts.{none_set, set_next}
use Rattle.vt_ns.proofs.retyping.set_all.Goals as goal

pub loop-id-init : goal.loop-id-init
loop-id-init c = none_set (propagation_of c.args.kind) c.args.mounts.now

pub loop-id-preserved : goal.loop-id-preserved
loop-id-preserved c = set_next c.args.mounts.now c.loop-id.mounts c.set_propagation.new.self
    (propagation_of c.args.kind) c.args.ids.now c.loop-id.id-index _
    c.loop-id-test.true c.set_propagation.ensures.mounts c.loop-id.invariant

pub returns : goal.returns
returns c = cc (c.loop-id.invariant, take_all c.loop-id.id-index c.args.ids.now c.loop-id-test.false)
