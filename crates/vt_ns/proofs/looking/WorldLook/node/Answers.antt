use Rattle.std.proofs.Common.{rules, sym, ◌∙◌}
use Rattle.vt_ns.proofs.Common.{store_stands}
use Rattle.vt_ns.proofs.looking.LooksKept.{no_object, object_is}
use Rattle.vt_ns.proofs.looking.WorldLook.node.Goals as goal
use Rattle.vt_ns.specs.contracts.world.World.{the_view}

pub object-requires : goal.object-requires
object-requires c = store_stands (the_view c.self.inside) c.self.inside.store c.self.invariant

pub returns-then-is_seen : goal.returns-then-is_seen
returns-then-is_seen c = c.object.ensures
    ∙ object_is (the_view c.self.inside) c.self.inside.store c.args.self.now c.self.view_is c.self.invariant c.args.at
    (search rules) (sym c.is_seen.ensures ∙ c.if-is_seen.true)

pub returns-else-is_seen : goal.returns-else-is_seen
returns-else-is_seen c =
    sym (no_object (the_view c.self.inside) c.self.inside.store c.args.self.now c.self.view_is c.self.invariant c.args.at
    (search rules) (sym c.is_seen.ensures ∙ c.if-is_seen.false))
