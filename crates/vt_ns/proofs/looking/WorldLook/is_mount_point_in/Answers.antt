use Rattle.std.proofs.Common.{◌∙◌, rules, nat_eq, sym}
use Rattle.vt_spec.proofs.Common.{holds_of}
use Rattle.vt_ns.proofs.Common.{counted}
use Rattle.vt_ns.proofs.looking.LooksKept.{no_points, points_seen}
use Rattle.vt_ns.proofs.looking.WorldLook.is_mount_point_in.Goals as goal
use Rattle.vt_ns.specs.contracts.world.World.{the_view}

pub returns-then-is_seen : goal.returns-then-is_seen
returns-then-is_seen c = c.is_mount_point_in.ensures
    ∙ points_seen (the_view c.self.inside) c.self.inside.store c.args.self.now c.self.view_is c.self.invariant
    c.args.at (search rules) (λ mount. holds_of (nat_eq (counted c.args.namespace.count)) mount.namespace)
    (sym c.is_seen.ensures ∙ c.if-is_seen.true)

pub returns-else-is_seen : goal.returns-else-is_seen
returns-else-is_seen c = c.if-is_seen.false
    ∙ sym (no_points (the_view c.self.inside) c.self.inside.store c.args.self.now c.self.view_is c.self.invariant
    c.args.at (search rules) (λ mount. holds_of (nat_eq (counted c.args.namespace.count)) mount.namespace)
    (sym c.is_seen.ensures ∙ c.if-is_seen.false))
