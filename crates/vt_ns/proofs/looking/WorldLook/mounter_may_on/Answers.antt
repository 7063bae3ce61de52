use Rattle.std.proofs.Common.{ap, not, ◌∙◌}
use Rattle.vt_cred.specs.Rights.{right_bits}
use Rattle.vt_ns.proofs.Common.{location_of}
use Rattle.vt_ns.proofs.looking.OverlaysLooked.{granted_is, nobody_is, nobody_mounted}
use Rattle.vt_ns.proofs.looking.WorldLook.mounter_may_on.Goals as goal
use Rattle.vt_ns.specs.contracts.world.World.{the_view}

pub returns-then-not-has_overlays : goal.returns-then-not-has_overlays
returns-then-not-has_overlays c = ap not c.if-not-has_overlays.true ∙ nobody_is c.args.self.now (location_of c.args._at)
    (nobody_mounted (the_view c.self.inside) c.self.inside.store c.args.self.now c.self.view_is c.self.invariant
    (c.has_overlays.ensures.0 c.if-not-has_overlays.true) c.args._at.mount.count) (right_bits c.args.wanted)

pub returns-else-not-has_overlays : goal.returns-else-not-has_overlays
returns-else-not-has_overlays c =
    granted_is (the_view c.self.inside) c.self.inside.store c.args.self.now c.self.view_is c.self.invariant
    (location_of c.args._at) c.args.ground.filesystem.count c.requires.ground.filesystem (right_bits c.args.wanted)
    c.args.object.now c.mounter_grants.result c.requires.object c.mounter_grants.ensures.overlay
    c.mounter_grants.ensures.plain
