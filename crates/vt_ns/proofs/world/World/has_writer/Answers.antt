use Rattle.vt_spec.specs.Machine.Detach.{is_written_through}
use Rattle.vt_ns.proofs.Common.{counted, WorldValue, world_of}
use Rattle.vt_ns.specs.contracts.world.World.{the_view}
use Rattle.vt_ns.proofs.MountLooks.{written_through}
use Rattle.std.proofs.Common.{ap, nat_eq, ◌∙◌}
use Rattle.vt_ns.proofs.world.World.has_writer.Goals as goal

pub returns : goal.returns
returns c = c.is_written_through.ensures
    ∙ written_through (the_view c.self.inside) c.self.invariant (counted c.args.mount.count)
    ∙ ap (λ (value : WorldValue). is_written_through nat_eq (world_of value)
    (counted c.args.mount.count)) c.self.view_is
