use Rattle.std.proofs.Common.{sym, ap, option_map, ◌∙◌}
use Rattle.vt_location.specs.Numbers.{mount_number}
use Rattle.vt_ns.specs.contracts.world.World.{the_view}
use Rattle.vt_ns.proofs.looking.OverlaysLooked.{mounter_shown, nobody_mounted}
use Rattle.vt_layered.specs.LayeredValue.{LayeredValue}
use Rattle.vt_ns.proofs.world.World.overlay_on.Goals as goal

pub returns-then-has_overlays-clause-mounter : goal.returns-then-has_overlays-clause-mounter
returns-then-has_overlays-clause-mounter c =
    ap (option_map (λ (one : LayeredValue). one.overlay.mounter)) c.overlay.ensures.value
    ∙ mounter_shown (the_view c.self.inside) c.self.inside.store c.args.self.now c.self.view_is c.self.invariant
    (mount_number c.args.mount) c.shown.result.count c.shown.ensures

pub returns-else-has_overlays-clause-mounter : goal.returns-else-has_overlays-clause-mounter
returns-else-has_overlays-clause-mounter c =
    sym (nobody_mounted (the_view c.self.inside) c.self.inside.store c.args.self.now c.self.view_is c.self.invariant
    (c.has_overlays.ensures.0 c.if-has_overlays.false) c.args.mount.count)
