use Rattle.std.proofs.Common.{ap, is_some, nat_eq, option_copied, sym, ◌∙◌}
use Rattle.vt_spec.proofs.Common.{mount_at, node_at, stat_line}
use Rattle.vt_ns.proofs.Common.{lent_of_world, location_of, number_of, world_of}
use Rattle.vt_ns.specs.Told.{told_by}
use Rattle.vt_ns.proofs.looking.MarksTold.{none_lent, told_is}
use Rattle.vt_ns.proofs.looking.OverlaysLooked.{mounted_by_some, overlay_is}
use Rattle.vt_ns.proofs.world.World.stat.Goals as goal

pub returns-in-Some : goal.returns-in-Some
returns-in-Some c =
    let at = location_of c.args.object in
    c.told.ensures
    ∙ (λ i. told_by ((c.is_some.ensures ∙ mounted_by_some c.overlay_on.result ∙ ap is_some c.overlay_on.ensures.mounter
    ∙ overlay_is c.args.self.now at) i) ((sym (ap option_copied c.in-Some.is) ∙ c.node.ensures) i))
    ∙ told_is c.args.self.now c.overlay_on.ensures.held at

pub returns-in-None : goal.returns-in-None
returns-in-None c =
    let at = location_of c.args.object in
    let world = world_of c.args.self.now in
    c.told_of_nothing.ensures ∙ ap stat_line (sym (none_lent (node_at nat_eq world at)
    (lent_of_world world (mount_at nat_eq world at).filesystem (number_of c.args.object.node))
    (sym c.node.ensures ∙ ap option_copied c.in-None.is)))
