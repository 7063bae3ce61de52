use Rattle.std.proofs.Common.{◌∙◌, rules, is_some, sym}
use Rattle.vt_ns.proofs.looking.LooksKept.{no_points, points_seen}
use Rattle.vt_ns.proofs.looking.WorldLook.is_mount_point_anywhere.Goals as goal
use Rattle.vt_ns.specs.contracts.world.World.{the_view}

pub returns-then-is_seen : goal.returns-then-is_seen
returns-then-is_seen c = c.is_mount_point_anywhere.ensures
    ∙ points_seen (the_view c.self.inside) c.self.inside.store c.args.self.now c.self.view_is c.self.invariant
    c.args.at (search rules) (λ mount. is_some mount.namespace) (sym c.is_seen.ensures ∙ c.if-is_seen.true)

pub returns-else-is_seen : goal.returns-else-is_seen
returns-else-is_seen c = c.if-is_seen.false
    ∙ sym (no_points (the_view c.self.inside) c.self.inside.store c.args.self.now c.self.view_is c.self.invariant
    c.args.at (search rules) (λ mount. is_some mount.namespace) (sym c.is_seen.ensures ∙ c.if-is_seen.false))
