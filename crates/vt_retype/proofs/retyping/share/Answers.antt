use Rattle.std.proofs.Common.{ap, map, ◌∙◌, take_all}
use Rattle.vt_location.specs.Numbers.{counted}
use Rattle.vt_retype.specs.Retyping.{shared_by}
use Rattle.vt_retype.proofs.Retyped.{none_shared, shared_next}
use Rattle.vt_retype.proofs.retyping.share.Goals as goal

pub loop-pair-init : goal.loop-pair-init
loop-pair-init c = none_shared c.share.new.self c.args.mounts.now

pub loop-pair-preserved : goal.loop-pair-preserved
loop-pair-preserved c =
    shared_next c.share.new.self c.args.mounts.now c.loop-pair.mounts c.set_propagation.new.self c.args.named.now c.loop-pair.pair-index _
    c.loop-pair-test.true _ c.told.ensures c.set_propagation.ensures.mounts c.loop-pair.invariant

pub returns-clause-types_ok : goal.returns-clause-types_ok
returns-clause-types_ok c = c.loop-pair.invariant
    ∙ ap (λ named. map (shared_by c.share.new.self (map (λ pair. counted pair.0.count) named)) c.args.mounts.now)
    (take_all c.loop-pair.pair-index c.args.named.now c.loop-pair-test.false)
