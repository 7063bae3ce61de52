use Rattle.std.proofs.Common.{arith}
use Rattle.vt_permits.specs.GrantValue.{overlay_permit}
use Rattle.vt_permits.specs.declared.grant.Grant.TheVariants.{Overlay}
use Rattle.vt_calls.proofs.Counting.{counts_mounts, makes_few}
use Rattle.vt_calls.proofs.OverlaysPermitted.{caller_alone, overlay_ends, overlay_granted}
use Rattle.vt_calls.proofs.mounting.mount_overlay.Goals as goal

pub mount_overlay-requires : goal.mount_overlay-requires
mount_overlay-requires c = overlay_granted c.args.world.now c.args.name.now c.args.new c.requires

pub returns-clause-ends : goal.returns-clause-ends
returns-clause-ends c =
    overlay_ends c.args.world.now c.args.name.now c.args.new c.requires _ c.mount_overlay.result c.done.result
    c.done.ensures c.mount_overlay.ensures.no_upper c.mount_overlay.ensures.vacant c.mount_overlay.ensures.ok
    c.mount_overlay.ensures.err

pub returns-clause-counts : goal.returns-clause-counts
returns-clause-counts c =
    counts_mounts c.args.world.now c.args.name.now (Overlay c.args.new)
    (overlay_permit c.requires.1.task c.args.new)
    (caller_alone c.args.world.now c.args.name.now c.args.new c.requires) c.requires
    c.mount_overlay.new.self c.mount_overlay.result _ (makes_few c.args.world.now c.args.name.now (Overlay c.args.new)
    (overlay_permit c.requires.1.task c.args.new)
    (caller_alone c.args.world.now c.args.name.now c.args.new c.requires) c.requires) _ c.mount_overlay.ensures.counts
    (λ counts. omega (arith, counts)) c.mount_overlay.ensures.births c.mount_overlay.ensures.err
