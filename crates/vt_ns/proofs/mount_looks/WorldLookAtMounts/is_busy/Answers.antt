use Rattle.vt_ns.proofs.Common.{is_seen, world_of, WorldValue, counted}
use Rattle.vt_ns.specs.contracts.world.World.{the_view}
use Rattle.vt_ns.proofs.WorldSeen.{uses_seen}
use Rattle.std.proofs.Common.{ap, nat_eq, ◌∙◌}
use Rattle.vt_spec.proofs.Common.{is_busy}
use Rattle.vt_ns.proofs.mount_looks.WorldLookAtMounts.is_busy.Goals as goal

pub returns-clause-ok : goal.returns-clause-ok
returns-clause-ok c =
    c.in_ok-is_busy.ensures.ok (world_of (the_view c.self.inside)) (is_seen (the_view c.self.inside) c.self.invariant)
    (uses_seen (the_view c.self.inside) c.self.invariant)
    ∙ ap (λ (value : WorldValue). is_busy nat_eq (world_of value) (counted c.args.mount.count)) c.self.view_is
